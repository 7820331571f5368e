-- Positions in the order of rules: there are as many as there are rules, at most 256, and each names a rule. And the successor under an action by whether the
-- rule carries it.
use mathlib.Core.Path.{◌≡◌, refl, ◌∙◌, ap}
use mathlib.Core.Bool.{Bool, true, false}
use mathlib.Core.Option.{Option, none, some}
use mathlib.Core.List.{List, [], ◌∷◌}
use Prim.Native.Nat.{ℕ, zero, suc, ◌+◌, ◌<◌, ◌≤◌}
use native.Mathlib.Omega.{arith}
use lib.Dec.{T, leb, leb→le}
use lib.ListN.{length, get_or, get_elem?}
use borrow.Author.Tests.{ne_eqb}
use Rattle.minuska.specs.Basics.{◌>>=◌, provided}
use Rattle.minuska.specs.Term.{Term}
use Rattle.minuska.specs.Rule.{Rule, Table, ok_table}
use Rattle.minuska.specs.Computed.Step.{successor_by, carries, next, up_from, order}

-- an element that is there
pub element_at : {A : Type 0} (xs : List A) (d : A) (i : ℕ) → i < length xs → get_elem? xs i ≡ some (get_or xs i d)
element_at [] d i h = absurd (let f : ⊥ = omega arith in f)
element_at (x ∷ xs) d zero h = refl
element_at (x ∷ xs) d (suc i) h = element_at xs d i (omega arith)

pub element_there : {A : Type 0} (xs : List A) (i : ℕ) → i < length xs → (x : A) × (get_elem? xs i ≡ some x)
element_there [] i h = absurd (let f : ⊥ = omega arith in f)
element_there (x ∷ xs) zero h = (x, refl)
element_there (x ∷ xs) (suc i) h = element_there xs i (omega arith)

pub few_rules : (table : Table) → T (ok_table table) → length table ≤ 256
few_rules table x = leb→le (length table) 256 (pick (leb (length table) 256) refl)
  where
    pick : (b : Bool) → leb (length table) 256 ≡ b → T b
    pick true e = tt
    pick false e = rw e at x

up_length : (i k : ℕ) → length (up_from i k) ≡ k
up_length i zero = refl
up_length i (suc k) = ap suc (up_length (suc i) k)

up_at : (i k q : ℕ) → q < k → get_or (up_from i k) q 0 ≡ i + q
up_at i zero q h = absurd (let f : ⊥ = omega arith in f)
up_at i (suc k) zero h = omega arith
up_at i (suc k) (suc q) h = let e = up_at (suc i) k q (omega arith) in omega arith

pub order_length : (table : Table) → length (order table) ≡ length table
order_length table = up_length 0 (length table)

-- every position names a rule
pub order_names : (table : Table) (q : ℕ) → q < length (order table) → get_or (order table) q 0 < length table
order_names table q h =
    let k : q < length table = omega (arith, order_length table) in
    let e = up_at 0 (length table) q k in
    omega arith

-- the successor under an action, by a number that names a rule
module _ (table : Table) (a n : ℕ) (r : Rule) (named : get_elem? table n ≡ some r) (g : Term) where
  pub next_other : (r.action ≡ a → ⊥) → next table a n g ≡ none
  next_other e =
      ap (λ (o : Option Rule). o >>= λ s. provided (carries a s) s >>= λ q. successor_by table n g) named ∙
      ap (λ (b : Bool). provided b r >>= λ q. successor_by table n g) (ne_eqb r.action a e)
