-- Comparing node by node: what lies behind a node, and that it is the computed match.
use mathlib.Core.Path.{◌≡◌, refl, sym, ◌∙◌, ap, subst, subst⁻¹}
use mathlib.Core.Bool.{Bool, true, false, ◌&&◌, cond, true≢false}
use mathlib.Core.Option.{Option, none, some}
use Prim.Native.Nat.{ℕ, suc, ◌+◌}
use native.Mathlib.Omega.{arith}
use lib.Dec.{T, eqb, eqb→eq, eqb_refl}
use Rattle.minuska.specs.Basics.{◌>>=◌}
use Rattle.minuska.specs.Term.{Label, Forest, nil, node, term_count, nodes, Role, a_variable, a_call, plain, role}
use Rattle.minuska.specs.Satisfaction.{Valuation}
use Rattle.minuska.specs.Computed.Match.{same_label, assign, try_match_at, try_match}
use Rattle.minuska.specs.Computed.Compare.{Comparison, agreed, apart, later, after, compare_bound, compare_at, compare, bound_by}
use Rattle.minuska.proofs.Tests.{and_left, and_right, and_both, true_of, same_label_lem, label_same}
use Rattle.minuska.proofs.MatchLaw.{match_sound, matches_count}
use Rattle.minuska.proofs.WordLaw.{appended}

-- ---- places further on
pub later_none : (c : Comparison) → later 0 c ≡ c
later_none (agreed ρ) = refl
later_none (apart k) = ap apart (let e : 0 + k ≡ k = omega arith in e)

pub later_later : (m n : ℕ) (c : Comparison) → later m (later n c) ≡ later (m + n) c
later_later m n (agreed ρ) = refl
later_later m n (apart k) = ap apart (let e : m + (n + k) ≡ m + n + k = omega arith in e)

-- one comparison behind another, and a third behind both
after_after : (m n : ℕ) (c : Comparison) (go to : Valuation → Comparison) → after m c (λ ρ. after n (go ρ) to) ≡ after (m + n) (after m c go) to
after_after m n (apart k) go to = refl
after_after m n (agreed ρ) go to = inner (go ρ)
  where
    inner : (c : Comparison) → later m (after n c to) ≡ after (m + n) (later m c) to
    inner (agreed σ) = later_later m n (to σ)
    inner (apart k) = refl

after_same : (n : ℕ) (c : Comparison) (go to : Valuation → Comparison) → ((ρ : Valuation) → go ρ ≡ to ρ) → after n c go ≡ after n c to
after_same n (agreed ρ) go to e = ap (later n) (e ρ)
after_same n (apart k) go to e = refl

-- terms with others behind them
pub compare_appended : (f g h k : Forest) → term_count f ≡ term_count g → (σ : Valuation) → compare (appended f h) (appended g k) σ ≡ after (nodes f) (compare f g σ) (λ τ. compare h k τ)
compare_appended nil nil h k c σ = sym (later_none (compare h k σ))
compare_appended nil (node g gs gss) h k c σ = absurd (let n : ⊥ = omega (arith, c) in n)
compare_appended (node l ls lss) nil h k c σ = absurd (let n : ⊥ = omega (arith, c) in n)
compare_appended (node l ls lss) (node g gs gss) h k c σ =
    let first : Comparison = compare_at (role l) l (term_count ls) (record { label = g; children = gs }) σ (λ τ. compare ls gs τ) in
    after_same (suc (nodes ls)) first (λ τ. compare (appended lss h) (appended gss k) τ) (λ τ. after (nodes lss) (compare lss gss τ) (λ υ. compare h k υ)) (λ τ. compare_appended lss gss h k (omega arith) τ) ∙
    (after_after (suc (nodes ls)) (nodes lss) first (λ τ. compare lss gss τ) (λ υ. compare h k υ) ∙
    ap (λ (n : ℕ). after n (after (suc (nodes ls)) first (λ τ. compare lss gss τ)) (λ υ. compare h k υ)) (let e : suc (nodes ls) + nodes lss ≡ suc (nodes ls + nodes lss) = omega arith in e))

-- ---- one node
-- the test of a plain node: the same label over as many children
abbrev pub same_node : Label → ℕ → Label → ℕ → Bool
same_node l k g m = same_label l g && eqb k m

pub node_same : (l g : Label) (k m : ℕ) → l ≡ g → k ≡ m → same_node l k g m ≡ true
node_same l g k m p q =
    true_of (same_node l k g m) (and_both (same_label l g) (eqb k m) (subst (λ (z : Label). T (same_label l z)) p (label_same l)) (subst (λ (z : ℕ). T (eqb k z)) q (eqb_refl k)))

pub same_node_lem : (l g : Label) (k m : ℕ) → same_node l k g m ≡ true → (l ≡ g) × (k ≡ m)
same_node_lem l g k m e =
    let t : T (same_node l k g m) = subst⁻¹ T e tt in (same_label_lem l g (and_left (same_label l g) (eqb k m) t), eqb→eq k m (and_right (same_label l g) (eqb k m) t))

pub compare_plain : (l : Label) (ls lss : Forest) (g : Label) (gs gss : Forest) (σ : Valuation) → role l ≡ plain → (b : Bool) → same_node l (term_count ls) g (term_count gs) ≡ b → compare (node l ls lss) (node g gs gss) σ ≡ after (suc (nodes ls)) (cond b (later 1 (compare ls gs σ)) (apart 0)) (λ τ. compare lss gss τ)
compare_plain l ls lss g gs gss σ r b e = rw (r, e)

-- nodes that agree: the walk goes on behind them, one node later
pub compare_on : (l : Label) (ls lss : Forest) (g : Label) (gs gss : Forest) (σ : Valuation) → role l ≡ plain → l ≡ g → term_count ls ≡ term_count gs → compare (node l ls lss) (node g gs gss) σ ≡ later 1 (compare (appended ls lss) (appended gs gss) σ)
compare_on l ls lss g gs gss σ r e c =
    compare_plain l ls lss g gs gss σ r true (node_same l g (term_count ls) (term_count gs) e c) ∙ (inside (compare ls gs σ) ∙ ap (later 1) (sym (compare_appended ls gs lss gss c σ)))
  where
    inside : (x : Comparison) → after (suc (nodes ls)) (later 1 x) (λ τ. compare lss gss τ) ≡ later 1 (after (nodes ls) x (λ τ. compare lss gss τ))
    inside (agreed τ) = ap (λ (n : ℕ). later n (compare lss gss τ)) (let e : suc (nodes ls) ≡ 1 + nodes ls = omega arith in e) ∙ sym (later_later 1 (nodes ls) (compare lss gss τ))
    inside (apart k) = refl

-- ---- the computed match
bound_later : (n : ℕ) (c : Comparison) → bound_by (later n c) ≡ bound_by c
bound_later n (agreed ρ) = refl
bound_later n (apart k) = refl

bound_after : (n : ℕ) (c : Comparison) (go : Valuation → Comparison) → bound_by (after n c go) ≡ (bound_by c >>= λ ρ. bound_by (go ρ))
bound_after n (agreed ρ) go = bound_later n (go ρ)
bound_after n (apart k) go = refl

bound_assigned : (o : Option Valuation) → bound_by (compare_bound o) ≡ o
bound_assigned none = refl
bound_assigned (some ρ) = refl

bind_same : (o : Option Valuation) (go to : Valuation → Option Valuation) → ((ρ : Valuation) → go ρ ≡ to ρ) → (o >>= go) ≡ (o >>= to)
bind_same none go to e = refl
bind_same (some ρ) go to e = e ρ

-- a plain node: the same label, over as many children as a match needs
module _ (l : Label) (ls : Forest) (g : Label) (gs : Forest) (σ : Valuation) (inside : bound_by (compare ls gs σ) ≡ try_match ls gs σ) where
  plain_match : (b c : Bool) → same_node l (term_count ls) g (term_count gs) ≡ b → same_label l g ≡ c → bound_by (cond b (later 1 (compare ls gs σ)) (apart 0)) ≡ cond c (try_match ls gs σ) none
  plain_match true true e f = bound_later 1 (compare ls gs σ) ∙ inside
  plain_match true false e f = absurd (subst T f (subst (λ (z : Label). T (same_label l z)) (same_node_lem l g (term_count ls) (term_count gs) e).0 (label_same l)))
  plain_match false false e f = refl
  plain_match false true e f = nothing (try_match ls gs σ) refl
    where
      nothing : (o : Option Valuation) → try_match ls gs σ ≡ o → none ≡ o
      nothing none m = refl
      nothing (some τ) m =
          absurd (true≢false (sym (node_same l g (term_count ls) (term_count gs) (same_label_lem l g (subst⁻¹ T f tt)) (matches_count τ ls gs (match_sound ls gs σ τ m).0)) ∙ e))

-- THE COMPARISON OF NODES IS THE COMPUTED MATCH
pub compare_match : (f g : Forest) (σ : Valuation) → bound_by (compare f g σ) ≡ try_match f g σ
compare_match nil nil σ = refl
compare_match nil (node g gs gss) σ = refl
compare_match (node l ls lss) nil σ = refl
compare_match (node l ls lss) (node g gs gss) σ =
    let inside : bound_by (compare ls gs σ) ≡ try_match ls gs σ = compare_match ls gs σ in
    bound_after (suc (nodes ls)) (compare_at (role l) l (term_count ls) (record { label = g; children = gs }) σ (λ τ. compare ls gs τ)) (λ τ. compare lss gss τ) ∙
    (ap (λ (o : Option Valuation). o >>= λ τ. bound_by (compare lss gss τ)) (here (role l) inside) ∙
    bind_same (try_match_at (role l) l (record { label = g; children = gs }) σ (λ τ. try_match ls gs τ)) (λ τ. bound_by (compare lss gss τ)) (λ τ. try_match lss gss τ) (λ τ. compare_match lss gss τ))
  where
    here : (r : Role) → bound_by (compare ls gs σ) ≡ try_match ls gs σ → bound_by (compare_at r l (term_count ls) (record { label = g; children = gs }) σ (λ τ. compare ls gs τ)) ≡ try_match_at r l (record { label = g; children = gs }) σ (λ τ. try_match ls gs τ)
    here (a_variable v) i = bound_assigned (assign σ v (record { label = g; children = gs }))
    here (a_call c) i = refl
    here plain i = plain_match l ls g gs σ i (same_node l (term_count ls) g (term_count gs)) (same_label l g) refl refl
