-- The relations over ground terms only, as A.1.2 has them: valuations into ground terms, side conditions over ground terms. At a ground
-- configuration they relate what `Rewrites` relates.
use mathlib.Core.Path.{◌≡◌, subst⁻¹}
use mathlib.Core.Bool.{Bool, true, false, cond}
use mathlib.Core.Logic.{◌↔◌}
use mathlib.Core.Option.{some}
use mathlib.Core.List.{List, [], ◌∷◌}
use Prim.Native.Nat.{ℕ}
use lib.Dec.{T}
use lib.IntN.{ℤ, ◌*ℤ◌}
use lib.ListN.{get_elem?}
use Rattle.minuska.specs.Basics.{every}
use Rattle.minuska.specs.Term.{whole, Forest, Term, single, leaf, Role, role, ground_at, is_ground}
use Rattle.minuska.specs.Word.{ok}
use Rattle.minuska.specs.Nearest.{nearest}
use Rattle.minuska.specs.Function.{in_word, out_of_range, share_range}
use Rattle.minuska.specs.Satisfaction.{Valuation, Matches, Evaluates, Instantiates, SideCondition, Agree, HoldAll}
use Rattle.minuska.specs.Rule.{Rule, Table, ok_rule, ok_condition, ok_table}
use Rattle.minuska.specs.Rewriting.{Relates, RewritesBy}
use Rattle.minuska.specs.Path.{Yields}
use Rattle.minuska.specs.Computed.Match.{try_match, unbound}
use Rattle.minuska.specs.Computed.Value.{values}
use Rattle.minuska.proofs.Tests.{came, and_left, and_right}
use Rattle.minuska.proofs.Good.{good, good_condition}
use Rattle.minuska.proofs.ValueLaw.{evaluates_value, instantiates_value}
use Rattle.minuska.proofs.SuccessorLaw.{Rewrites, after_match, after_relates, successor_iff}
use Rattle.minuska.proofs.LabelLaw.{label_values, label_apply, everywhere}
use Rattle.minuska.proofs.KeepLaw.{Fine, fine_match, keeps}
use Rattle.minuska.proofs.StepLaw.{rule_okay}

abbrev pub Ground : Term → Type 0
Ground t = T (is_ground (single t))

-- a valuation into ground terms
abbrev pub GroundIn : Valuation → Type 0
GroundIn ρ = (v : ℕ) (t : Term) → ρ v ≡ some t → Ground t

-- side conditions over ground terms
abbrev pub HoldsGround : Valuation → SideCondition → Type 0
HoldsGround ρ c = (t₁ t₂ : Term) → Ground t₁ → Ground t₂ → Evaluates ρ (single c.first) (single t₁) → Evaluates ρ (single c.second) (single t₂) → Agree t₁ t₂

abbrev pub HoldAllGround : Valuation → List SideCondition → Type 0
HoldAllGround ρ [] = Unit {0}
HoldAllGround ρ (c ∷ cs) = HoldsGround ρ c × HoldAllGround ρ cs

pub record RelatesGround (r : Rule) (ρ : Valuation) (g h : Term) : Type 0 where
  pub valuation : GroundIn ρ
  pub successor : Ground h
  pub matched : Matches ρ (single r.left) (single g)
  pub instantiated : Instantiates ρ (single r.right) (single h)
  pub held : HoldAllGround ρ r.conditions

-- ---- a ground valuation gives ground values
ground_values : (ρ : Valuation) → GroundIn ρ → (f g : Forest) → values ρ f ≡ some g → T (is_ground g)
ground_values ρ h f g e =
    label_values (λ l. ground_at (role l)) (λ l. true) (λ l s y. subst⁻¹ (λ (r : Role). T (ground_at r)) s tt)
    (label_apply (λ l. ground_at (role l)) tt (λ b. tt) (λ n. tt) (λ z. ground_if (in_word z) z) (λ a b c. ground_if (share_range a b c) (nearest (a *ℤ b) c))) ρ h f g (everywhere f) e
  where
    ground_if : (b : Bool) (z : ℤ) → Ground (cond b (leaf (whole z)) out_of_range)
    ground_if true z = tt
    ground_if false z = tt

-- ---- side conditions: over ground terms or over all, under a ground valuation
module _ (left : Term) (ρ : Valuation) (h : GroundIn ρ) where
  hold_all_ground : (cs : List SideCondition) → T (every (ok_condition left) cs) → HoldAll ρ cs ↔ HoldAllGround ρ cs
  hold_all_ground [] x = ((λ y. tt), λ y. tt)
  hold_all_ground (c ∷ cs) x =
      let g = good_condition left c (and_left (ok_condition left c) (every (ok_condition left) cs) x) in
      let k = hold_all_ground cs (and_right (ok_condition left c) (every (ok_condition left) cs) x) in (
        (λ y. ((λ s t i j p q. y.0 s t p q), k.0 y.1)),
        λ y. (
          (λ s t p q.
              y.0 s t (ground_values ρ h (single c.first) (single s) (evaluates_value ρ (single c.first) (single s) g.first_expression p))
              (ground_values ρ h (single c.second) (single t) (evaluates_value ρ (single c.second) (single t) g.second_expression q)) p q),
          k.1 y.1,
        ),
      )

-- AT A CONFIGURATION, its size aside, the two relate the same
pub ground_iff : (r : Rule) (g h : Term) → T (ok_rule r) → Fine g → Rewrites r g h ↔ ((ρ : Valuation) × RelatesGround r ρ g h)
ground_iff r g h x f = (there, back)
  where
    with_match : (ρ : Valuation) → GroundIn ρ → Relates r ρ g h → (σ : Valuation) × RelatesGround r σ g h
    with_match ρ i s =
        (ρ, record { valuation = i; successor = ground_values ρ i (single r.right) (single h) (instantiates_value ρ (single r.right) (single h) (good r x).expression_term s.instantiated); matched = s.matched; instantiated = s.instantiated; held = (hold_all_ground r.left ρ i r.conditions (good r x).conditions).0 s.held })

    there : Rewrites r g h → (ρ : Valuation) × RelatesGround r ρ g h
    there w =
        let k = came (try_match (single r.left) (single g) unbound) (after_match r) h ((successor_iff r g h x).1 w) in
        let i = fine_match (single r.left) (single g) k.0 f k.1 in
        with_match k.0 (λ v t q. and_right (ok (single t)) (is_ground (single t)) (i v t q)) (after_relates r g h x k.0 k.1 k.2)

    back : ((ρ : Valuation) × RelatesGround r ρ g h) → Rewrites r g h
    back w =
        let s = w.1 in
        (w.0, record { matched = s.matched; instantiated = s.instantiated; held = (hold_all_ground r.left w.0 s.valuation r.conditions (good r x).conditions).1 s.held })

-- BY A NUMBER AND AN ACTION, and along paths of any size, from a configuration
pub record RewritesByGround (table : Table) (a n : ℕ) (g h : Term) : Type 0 where
  pub rule : Rule
  pub numbered : get_elem? table n ≡ some rule
  pub carries : rule.action ≡ a
  pub valuation : Valuation
  pub relates : RelatesGround rule valuation g h

module _ (table : Table) (x : T (ok_table table)) where
  pub by_ground_iff : (a n : ℕ) (g h : Term) → Fine g → RewritesBy table a n g h ↔ RewritesByGround table a n g h
  by_ground_iff a n g h f = (
    (λ w. let k = (ground_iff w.rule g h (rule_okay table x n w.rule w.numbered) f).0 (w.valuation, w.relates) in
        record { rule = w.rule; numbered = w.numbered; carries = w.carries; valuation = k.0; relates = k.1 }),
    λ w. let k = (ground_iff w.rule g h (rule_okay table x n w.rule w.numbered) f).1 (w.valuation, w.relates) in
        record { rule = w.rule; numbered = w.numbered; carries = w.carries; valuation = k.0; relates = k.1 },
  )

  module _ (Each : Term → Type 0) where
    paths_ground : (log choices : List ℕ) (g last : Term) → Fine g → Yields (RewritesBy table) Each g log choices last → Yields (RewritesByGround table) Each g log choices last
    paths_ground [] [] g last f y = y
    paths_ground [] (n ∷ ns) g last f y = y
    paths_ground (a ∷ log) [] g last f y = y
    paths_ground (a ∷ log) (n ∷ ns) g last f y =
        let (u, w, rest) = y.1 in
        (y.0, (u, (by_ground_iff a n g u f).0 w, paths_ground log ns u last (keeps table x a n g u f w) rest))

    ground_paths : (log choices : List ℕ) (g last : Term) → Fine g → Yields (RewritesByGround table) Each g log choices last → Yields (RewritesBy table) Each g log choices last
    ground_paths [] [] g last f y = y
    ground_paths [] (n ∷ ns) g last f y = y
    ground_paths (a ∷ log) [] g last f y = y
    ground_paths (a ∷ log) (n ∷ ns) g last f y =
        let (u, v, rest) = y.1 in
        let w = (by_ground_iff a n g u f).1 v in (y.0, (u, w, ground_paths log ns u last (keeps table x a n g u f w) rest))

    pub paths_ground_iff : (log choices : List ℕ) (g last : Term) → Fine g → Yields (RewritesBy table) Each g log choices last ↔ Yields (RewritesByGround table) Each g log choices last
    paths_ground_iff log choices g last f = (paths_ground log choices g last f, ground_paths log choices g last f)
