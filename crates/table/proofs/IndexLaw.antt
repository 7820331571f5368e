-- A checked table and its index, as code reads them: the rule count, which numbers name a rule, a rule's action.
-- (`minuska`'s IndexLaw: the words are one table only, a rule's row, and what stands there.)
use mathlib.Core.Path.{◌≡◌, refl, sym, ◌∙◌, ap, subst⁻¹}
use mathlib.Core.Bool.{Bool, true, false}
use mathlib.Core.Logic.{◌↔◌}
use mathlib.Core.Option.{none, some, none-ne-some, some-injective}
use mathlib.Core.List.{List, [], ◌∷◌}
use Prim.Native.Nat.{ℕ, zero, suc, ◌+◌, ◌≤◌, ◌<◌}
use native.Mathlib.Omega.{arith}
use lib.Dec.{leb}
use lib.IntN.{ℤ}
use lib.ListN.{length, get_or, get_elem?}
use borrow.Author.Tests.{leb-true, leb-false}
use Rattle.minuska.specs.Rule.{Rule, Table, rule_words, IsTable}
use Rattle.minuska.specs.Computed.Step.{up_from, order}
use Rattle.minuska.specs.Bridge.Place.{Stands, left_words, right_words, conditions_words, left_from, right_from, conditions_from, first_rule, rule_places, Indexed, Names, PartIs, RuleCountIs, ActionIs, OrderedIs, SizesAre, Positions}
use Rattle.minuska.proofs.Bridge.IndexLaw.{one_table, rule_placed, left_stands_lem, right_stands, conditions_stand}
use Rattle.minuska.proofs.Bridge.PositionLaw.{element_at, element_there, few_rules, order_length, order_names}
use Rattle.minuska.proofs.OrderLaw.{named_below}
use Rattle.minuska.specs.declared.Row.{Row}
use Rattle.table.specs.Index.{RowIs}
use Rattle.table.specs.Candidate.{Unnamed}

-- ---- positions up to the rule count are there
pub positions_of : (ws : List ℤ) (count to : ℕ) → RuleCountIs ws count → to ≤ count → Positions ws to
positions_of ws count to c h = record { there = λ t p. let e = c.is t p in let n = order_length t in omega arith }

-- ---- A NUMBER NAMES A RULE exactly if it is below the rule count
unnamed : {A : Type 0} (xs : List A) (n : ℕ) → length xs ≤ n → get_elem? xs n ≡ none
unnamed [] n h = refl
unnamed (x ∷ xs) zero h = absurd (let f : ⊥ = omega arith in f)
unnamed (x ∷ xs) (suc n) h = unnamed xs n (omega arith)

pub names_iff : (ws : List ℤ) (t : Table) (count n : ℕ) → RuleCountIs ws count → IsTable ws t → ((r : Rule) × (get_elem? t n ≡ some r)) ↔ (n < count)
names_iff ws t count n c p =
    let e = c.is t p in
    ((λ h. let k = named_below t n h.0 h.1 in omega arith), λ h. element_there t n (omega arith))

pub unnamed_past : (ws : List ℤ) (count : ℕ) → RuleCountIs ws count → (n : ℕ) → count ≤ n → Unnamed ws n
unnamed_past ws count c n h = record { none = λ t p. let e = c.is t p in unnamed t n (omega arith) }

pub no_action : {ws : List ℤ} {n : ℕ} → Unnamed ws n → ActionIs ws n 0
no_action u = record { is = λ t r p e. absurd (none-ne-some r (sym (u.none t p) ∙ e)); other = λ t p e. refl }

pub names_below : (ws : List ℤ) (index : List Row) → Indexed ws index → (count : ℕ) → RuleCountIs ws count → (n : ℕ) → n < count → Names ws n
names_below ws index x count c n h =
    let r = (names_iff ws x.table count n c x.is).1 h in
    record { table = x.table; is = x.is; rule = r.0; numbered = r.1 }

-- ---- a rule by its row: its action, and where its parts stand
got : {A : Type 0} (xs : List A) (n : ℕ) (d x : A) → get_elem? xs n ≡ some x → get_or xs n d ≡ x
got [] n d x e = absurd (none-ne-some x e)
got (y ∷ xs) zero d x e = some-injective y x e
got (y ∷ xs) (suc n) d x e = got xs n d x e

pub named_small : (ws : List ℤ) (n : ℕ) → Names ws n → n < 256
named_small ws n a = let h = named_below a.table n a.rule a.numbered in let k = few_rules a.table a.is.accepted in omega arith

pub row_at : (ws : List ℤ) (index : List Row) (n : ℕ) (d : Row) → Indexed ws index → RowIs ws n (get_or index n d)
row_at ws index n d x =
    record { rule = λ t r p e. let q = rule_placed ws index t n r x p e in record { start = q.start; stands = q.stands; is = got index n d (rule_places q.start r) q.row } }

module _ {ws : List ℤ} {n : ℕ} {row : Row} (w : RowIs ws n row) where
  pub action_is : Names ws n → ActionIs ws n row.action
  action_is a =
      record {
        is = λ t r p q. ap (λ (x : Row). x.action) (w.rule t r p q).is;
        other = λ t p q. absurd (none-ne-some a.rule (sym q ∙ (ap (λ (u : Table). get_elem? u n) (one_table ws t a.table p a.is) ∙ a.numbered)));
      }

  pub sizes_are : SizesAre ws n row.fixed row.leaves
  sizes_are = record { ones = λ t r p q. ap (λ (x : Row). x.fixed) (w.rule t r p q).is; variables = λ t r p q. ap (λ (x : Row). x.leaves) (w.rule t r p q).is }

  part_is : {words : Rule → List ℤ} {from to : ℕ} → ((r : Rule) (start : ℕ) → row ≡ rule_places start r → Stands ws start (rule_words r) → Stands ws from (words r) × (to ≡ from + length (words r))) → PartIs words ws n from to
  part_is f =
      record {
        stands = λ t r p q. let o = w.rule t r p q in (f r o.start o.is o.stands).0;
        ends = λ t r p q. let o = w.rule t r p q in (f r o.start o.is o.stands).1;
      }

  pub left_is : PartIs left_words ws n (row.left + first_rule) (row.right + first_rule)
  left_is =
      part_is (λ r start w s.
      let a : row.left + first_rule ≡ left_from start = omega (arith, ap (λ (x : Row). x.left) w) in
      (subst⁻¹ (λ (k : ℕ). Stands ws k (left_words r)) a (left_stands_lem ws start r s), omega (arith, ap (λ (x : Row). x.right) w, ap (λ (x : Row). x.left) w)))

  pub right_is_lem : PartIs right_words ws n (row.right + first_rule) (row.conditions + first_rule)
  right_is_lem =
      part_is (λ r start w s.
      let a : row.right + first_rule ≡ right_from start r = omega (arith, ap (λ (x : Row). x.right) w) in
      (subst⁻¹ (λ (k : ℕ). Stands ws k (right_words r)) a (right_stands ws start r s), omega (arith, ap (λ (x : Row). x.conditions) w, ap (λ (x : Row). x.right) w)))

  pub conditions_are : PartIs conditions_words ws n (row.conditions + first_rule) (row.end + first_rule)
  conditions_are =
      part_is (λ r start w s.
      let a : row.conditions + first_rule ≡ conditions_from start r = omega (arith, ap (λ (x : Row). x.conditions) w) in
      (subst⁻¹ (λ (k : ℕ). Stands ws k (conditions_words r)) a (conditions_stand ws start r s), omega (arith, ap (λ (x : Row). x.end) w, ap (λ (x : Row). x.conditions) w)))

-- ---- the order of rules, by position
up_at : (i k q n : ℕ) → get_elem? (up_from i k) q ≡ some n → i + q ≡ n
up_at i zero zero n e = absurd (none-ne-some n e)
up_at i zero (suc q) n e = absurd (none-ne-some n e)
up_at i (suc k) zero n e = let p = some-injective i n e in omega arith
up_at i (suc k) (suc q) n e = let p = up_at (suc i) k q n e in omega arith

pub ordered_is : (ws : List ℤ) (q : ℕ) → OrderedIs ws q q
ordered_is ws q =
    record {
      is = λ t p n e. let h = up_at 0 (length t) q n e in omega arith;
      other = λ t p e. unnamed t q (beyond t e);
    }
  where
    beyond : (t : Table) → get_elem? (order t) q ≡ none → length t ≤ q
    beyond t e = pick (leb (length t) q) refl
      where
        pick : (b : Bool) → leb (length t) q ≡ b → length t ≤ q
        pick true h = leb-true (length t) q h
        pick false h =
            let n = order_length t in
            let k = leb-false (length t) q h in
            let w = element_there (order t) q (omega arith) in
            absurd (none-ne-some w.0 (sym e ∙ w.1))

-- every position of the order names a rule
pub position_names : {ws : List ℤ} {index : List Row} {i to n : ℕ} → Indexed ws index → Positions ws to → i < to → OrderedIs ws i n → Names ws n
position_names {ws} {index} {i} {to} {n} x s below o =
    let t = x.table in
    let k = s.there t x.is in
    let h : i < length (order t) = omega arith in
    let p : n ≡ get_or (order t) i 0 = o.is t x.is (get_or (order t) i 0) (element_at (order t) 0 i h) in
    let (r, e) = element_there t n (omega (arith, order_names t i h)) in
    record { table = t; is = x.is; rule = r; numbered = e }
