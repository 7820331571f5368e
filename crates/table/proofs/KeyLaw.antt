-- Keys: the key that `key` computes; the rules that `seek` passes over.
use mathlib.Core.Path.{◌≡◌, refl, sym, ◌∙◌, ap, ap₂}
use mathlib.Core.Logic.{◌⊎◌, inl, inr}
use mathlib.Core.Option.{some}
use mathlib.Core.List.{List}
use Prim.Native.Nat.{ℕ, ◌+◌, ◌*◌, ◌≤◌, ◌<◌}
use native.Mathlib.Decide.{ℕ_discrete}
use native.Mathlib.Omega.{arith}
use lib.IntN.{ℤ, pos, negsuc}
use lib.ListN.{length, get_or, get_elem?}
use borrow.Author.Tests.{ne_eqb}
use Rattle.minuska.specs.Term.{Term}
use Rattle.minuska.specs.Word.{datum_word}
use Rattle.minuska.specs.Rule.{Rule, Table, IsTable}
use Rattle.minuska.specs.Computed.Step.{order}
use Rattle.minuska.specs.Bridge.Place.{key_of, remainder, root_key, RootMeets, Indexed, OrderedIs, Positions, KeysDiffer, RootsPassed, SeekIs}
use Rattle.table.proofs.IndexLaw.{row_at}
use Rattle.minuska.proofs.Bridge.PositionLaw.{element_at, few_rules, order_names}
use Rattle.minuska.specs.declared.Row.{Row}

-- ---- what `key` answers
pub key_variable : (t d : ℤ) → t ≡ pos 3 → 0 ≡ key_of t d
unfolding key_of
key_variable t d e = rw e refl

pub key_other : (t d : ℤ) → (t ≡ pos 3 → ⊥) → 4096 * remainder t 16 + remainder d 4096 ≡ key_of t d
unfolding key_of
key_other (pos n) d f = rw (ne_eqb n 3 (λ e. f (ap pos e))) refl
key_other (negsuc n) d f = refl

pub remainder_small : (z : ℤ) (m : ℕ) → 0 < m → remainder z m < m
remainder_small (pos n) m h = omega arith
remainder_small (negsuc n) m h = h

-- ---- what `seek` passes over
variable_key : (d : ℤ) → key_of (pos 3) d ≡ 0
unfolding key_of
variable_key d = refl

root_keys : (l g : Term) → (root_key l ≡ 0 → ⊥) → (root_key l ≡ root_key g → ⊥) → RootMeets l g → ⊥
root_keys l g f h (inl e) = f (ap (λ (t : ℤ). key_of t (datum_word l.label)) e ∙ variable_key (datum_word l.label))
root_keys l g f h (inr e) = h (ap₂ key_of e.0 e.1)

module _ (ws : List ℤ) (index : List Row) (x : Indexed ws index) where
  -- a position names a rule
  pub position_small : (to i n : ℕ) → Positions ws to → i < to → OrderedIs ws i n → n < 256
  position_small to i n p h o =
      let t = x.table in
      let k = p.there t x.is in
      let b : i < length (order t) = omega arith in
      let e = o.is t x.is (get_or (order t) i 0) (element_at (order t) 0 i b) in
      let l = order_names t i b in
      let f = few_rules t x.is.accepted in
      omega arith

  module _ (root from : ℕ) where
    pub none_passed : RootsPassed ws root from from
    none_passed = record { keys = λ t r g i n p q h k e f. absurd (let z : ⊥ = omega arith in z); differ = λ t r g i n p q h k e f m. let z : ⊥ = omega arith in z }

    -- the rule at a position, of which the index has the key k
    module _ (i n : ℕ) (d : Row) (o : OrderedIs ws i n) where
      abbrev k : ℕ
      k = (get_or index n d).key

      left_key : (t : Table) (r : Rule) (m : ℕ) → IsTable ws t → get_elem? (order t) i ≡ some m → get_elem? t m ≡ some r → k ≡ root_key r.left
      left_key t r m p e u =
          let w : n ≡ m = o.is t p m e in
          ap (λ (y : Row). y.key) ((row_at ws index n d x).rule t r p (ap (λ (y : ℕ). get_elem? t y) w ∙ u)).is

      pub stops_here : (k ≡ root) ⊎ (k ≡ 0) → (t : Table) (r : Rule) (g : Term) (m : ℕ) → IsTable ws t → root ≡ root_key g → get_elem? (order t) i ≡ some m → get_elem? t m ≡ some r → KeysDiffer r.left g → ⊥
      stops_here (inl h) t r g m p q e u d = d.1 (sym (left_key t r m p e u) ∙ (h ∙ q))
      stops_here (inr h) t r g m p q e u d = d.0 (sym (left_key t r m p e u) ∙ h)

      pub passes : (k ≡ root → ⊥) → (k ≡ 0 → ⊥) → RootsPassed ws root from i → RootsPassed ws root from (i + 1)
      passes f z past =
          record {
            keys = λ t r g j m p q lo hi e u. pick t r g j m p q lo hi e u (ℕ_discrete j i);
            differ = λ t r g j m p q lo hi e u. let d = pick t r g j m p q lo hi e u (ℕ_discrete j i) in root_keys r.left g d.0 d.1;
          }
        where
          pick : (t : Table) (r : Rule) (g : Term) (j m : ℕ) → IsTable ws t → root ≡ root_key g → from ≤ j → j < i + 1 → get_elem? (order t) j ≡ some m → get_elem? t m ≡ some r → Dec (j ≡ i) → KeysDiffer r.left g
          pick t r g j m p q lo hi e u (yes d) =
              let a : k ≡ root_key r.left = left_key t r m p (ap (λ (y : ℕ). get_elem? (order t) y) (sym d) ∙ e) u in
              ((λ y. z (a ∙ y)), (λ y. f (a ∙ (y ∙ sym q))))
          pick t r g j m p q lo hi e u (no d) = past.keys t r g j m p q lo (omega arith) e u

    pub stops_at : (to i n : ℕ) (d : Row) → OrderedIs ws i n → from ≤ i → i < to → RootsPassed ws root from i → ((get_or index n d).key ≡ root) ⊎ ((get_or index n d).key ≡ 0) → SeekIs ws root from to i
    stops_at to i n d o l h p w = record { low = l; high = omega arith; passed = p; stops = λ t r g m b q e f u. stops_here i n d o w t r g m q e f u }

    pub all_passed : (to : ℕ) → from ≤ to → RootsPassed ws root from to → SeekIs ws root from to to
    all_passed to h p = record { low = h; high = omega arith; passed = p; stops = λ t r g m b q e f u d. let z : ⊥ = omega arith in z }
