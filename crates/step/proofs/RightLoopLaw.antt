-- All items of a right: the turns of `measure_right` and `write_right`.
use mathlib.Core.Path.{◌≡◌, refl, sym, ◌∙◌, ap}
use mathlib.Core.Bool.{true, false}
use mathlib.Core.Option.{some-injective}
use mathlib.Core.List.{List, [], ◌++◌, append_assoc, append-nil}
use Prim.Native.Nat.{ℕ, ◌+◌, ◌-◌, ◌≤◌, ◌<◌}
use native.Mathlib.Nat.{add-zero}
use native.Mathlib.Omega.{arith}
use lib.IntN.{ℤ}
use lib.ListN.{length, length-append}
use borrow.Author.Tests.{le-leb, lt-leb}
use Rattle.minuska.specs.Term.{Forest, nil, node}
use Rattle.minuska.specs.Satisfaction.{Valuation}
use Rattle.minuska.specs.Slice.{write}
use Rattle.value.specs.Copy.{PutContract}
use Rattle.value.proofs.CopyLaw.{behind, put_back, put_room, put_then}
use Rattle.step.specs.declared.right.Sized.{Sized}
use Rattle.step.specs.Right.{Rest, SomeRest, LeadsOn, WordsAre, SizedOf, SizedIs, MeasureRightIs, FittingItem, FittingRest, WriteRightIs}

module _ (ws cs : List ℤ) (starts ends : List ℕ) (at end : ℕ) where
  -- how far the items have come: the words so far, and the rest from place i on
  pub record Come (us : List ℤ) (ρ : Valuation) (i : ℕ) (so_far : List ℤ) : Type 0 where
    pub later : Forest
    pub words : List ℤ
    pub rest : Rest ws cs starts ends i end ρ later words
    pub joined : so_far ++ words ≡ us

  -- nothing is left behind the end
  nothing_left : (i : ℕ) (ρ : Valuation) (f : Forest) (us : List ℤ) → Rest ws cs starts ends i end ρ f us → end ≤ i → us ≡ []
  nothing_left i ρ nil us r h = sym (some-injective [] us r.emits)
  nothing_left i ρ (node l cs ss) us r h = absurd (let e = r.up_to in let f : ⊥ = omega arith in f)

  module _ (us : List ℤ) (ρ : Valuation) (i : ℕ) (so_far : List ℤ) (c : Come us ρ i so_far) where
    pub come_end : end ≤ i → so_far ≡ us
    come_end h = sym (append-nil so_far) ∙ (ap (λ (x : List ℤ). so_far ++ x) (sym (nothing_left i ρ c.later c.words c.rest h)) ∙ c.joined)

    module _ (vs : List ℤ) (next : ℕ) (t : LeadsOn ws cs starts ends i end ρ c.words vs next) where
      come_on : Come us ρ next (so_far ++ vs)
      come_on =
          record { later = t.later; words = t.words; rest = t.rest; joined = append_assoc so_far vs t.words ∙ (ap (λ (z : List ℤ). so_far ++ z) t.parted ∙ c.joined) }

      come_size : length so_far + length vs ≤ length us
      come_size =
          omega (arith, ap length t.parted, length-append vs t.words, ap length c.joined, length-append so_far c.words)

    come_words : (vs : List ℤ) (next : ℕ) → WordsAre ws cs starts ends i end vs next → LeadsOn ws cs starts ends i end ρ c.words vs next
    come_words vs next x = x.is ρ c.later c.words c.rest

    come_sized : (r : Sized) → SizedIs ws cs starts ends i end r → SizedOf ws cs starts ends i end ρ c.words r
    come_sized r x = x.is ρ c.later c.words c.rest

  come_first : (ρ : Valuation) (f : Forest) (us : List ℤ) → Rest ws cs starts ends at end ρ f us → Come us ρ at []
  come_first ρ f us r = record { later = f; words = us; rest = r; joined = refl }

  -- ---- `measure_right`: `left` words of room are left
  pub record Measuring (room i left : ℕ) : Type 0 where
    pub come : (ρ : Valuation) (f : Forest) (us : List ℤ) → Rest ws cs starts ends at end ρ f us → (so_far : List ℤ) × Come us ρ i so_far × (left + length so_far ≡ room)

  pub measuring_first : (room : ℕ) → Measuring room at room
  measuring_first room = record { come = λ ρ f us r. ([], come_first ρ f us r, add-zero room) }

  module _ (room i left : ℕ) (m : Measuring room i left) where
    pub measuring_rest : SomeRest ws cs starts ends at end → SomeRest ws cs starts ends i end
    measuring_rest s =
        let (so_far, c, e) = m.come s.valuation s.terms s.words s.is in
        record { valuation = s.valuation; terms = c.later; words = c.words; is = c.rest }

    pub measured : end ≤ i → MeasureRightIs ws cs starts ends at end room true
    measured h =
        record { is = λ ρ f us r. let (so_far, c, e) = m.come ρ f us r in let q = ap length (come_end us ρ i so_far c h) in sym (le-leb (length us) room (omega arith)) }

    module _ (r : Sized) (x : SizedIs ws cs starts ends i end r) where
      pub measuring_on : r.words ≤ left → Measuring room r.next (left - r.words)
      measuring_on h =
          record { come = λ ρ f us z. let (so_far, c, e) = m.come ρ f us z in let t = come_sized us ρ i so_far c r x in (so_far ++ t.first, come_on us ρ i so_far c t.first r.next t.leads, omega (arith, length-append so_far t.first, t.many)) }

      pub measured_over : left < r.words → MeasureRightIs ws cs starts ends at end room false
      measured_over h =
          record { is = λ ρ f us z. let (so_far, c, e) = m.come ρ f us z in let t = come_sized us ρ i so_far c r x in let k = come_size us ρ i so_far c t.first r.next t.leads in sym (lt-leb (length us) room (omega (arith, t.many))) }

      pub measuring_forward : SomeRest ws cs starts ends at end → i < r.next
      measuring_forward s = let (so_far, c, e) = m.come s.valuation s.terms s.words s.is in (come_sized s.words s.valuation i so_far c r x).leads.forward

  -- ---- `write_right`: the words so far stand at the start of the slice, o of them
  pub record Writing (out₀ : List ℤ) (i o : ℕ) (out : List ℤ) : Type 0 where
    pub come : (ρ : Valuation) (f : Forest) (us : List ℤ) → Rest ws cs starts ends at end ρ f us → (so_far : List ℤ) × Come us ρ i so_far × PutContract out₀ so_far out o

  pub writing_first : (out₀ : List ℤ) → Writing out₀ at 0 out₀
  writing_first out₀ = record { come = λ ρ f us r. ([], come_first ρ f us r, record { leaves = refl; many = refl }) }

  module _ (out₀ : List ℤ) (i o : ℕ) (out : List ℤ) (m : Writing out₀ i o out) where
    pub writing_fits : FittingRest ws cs starts ends at end (length out₀) → i < end → FittingItem ws cs starts ends i end (length (behind out o))
    writing_fits k h =
        let s = k.rest in
        let (so_far, c, p) = m.come s.valuation s.terms s.words s.is in
        record { rest = record { valuation = s.valuation; terms = c.later; words = c.words; is = c.rest }; before = h; fit = omega (arith, k.fit, put_room p, ap length c.joined, length-append so_far c.words) }

    pub writing_within : FittingRest ws cs starts ends at end (length out₀) → o ≤ length out₀
    writing_within k =
        let s = k.rest in
        let (so_far, c, p) = m.come s.valuation s.terms s.words s.is in
        omega (arith, k.fit, p.many, ap length c.joined, length-append so_far c.words)

    pub all_written : end ≤ i → WriteRightIs ws cs starts ends at end out₀ out o
    all_written h =
        record {
          is = λ ρ f us r. let (so_far, c, p) = m.come ρ f us r in p.leaves ∙ ap (λ (z : List ℤ). write z out₀) (come_end us ρ i so_far c h);
          many = λ ρ f us r. let (so_far, c, p) = m.come ρ f us r in p.many ∙ ap length (come_end us ρ i so_far c h);
        }

    module _ (v : List ℤ) (next : ℕ) (x : WordsAre ws cs starts ends i end v next) where
      pub writing_on : (o' : ℕ) (out' : List ℤ) → PutContract (behind out o) v out' o' → Writing out₀ next (o + o') (put_back out o out')
      writing_on o' out' q =
          record { come = λ ρ f us z. let (so_far, c, p) = m.come ρ f us z in (so_far ++ v, come_on us ρ i so_far c v next (come_words us ρ i so_far c v next x), put_then p q) }

      pub writing_forward : SomeRest ws cs starts ends at end → i < next
      writing_forward s = let (so_far, c, p) = m.come s.valuation s.terms s.words s.is in (come_words s.words s.valuation i so_far c v next x).forward
