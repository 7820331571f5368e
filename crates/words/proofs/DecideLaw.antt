-- `==` of two slices decides whether they are the same; slices whose last words or lengths differ differ.
use Rattle.std.proofs.Common.{◌≡◌, Bool, true, false, List, Bor, ◌-◌, length, sym, refl, ◌∙◌, ap, Some, None}
use Rattle.std.proofs.lemmas.Bool.{true≢false}
use Rattle.std.proofs.lemmas.Bool.Decides.{Decides-int_eq}
use Rattle.std.proofs.lemmas.Slice.Eq.{slice_eq-Decides}
use Rattle.std.specs.Prelude.{Option}
use Rattle.std.specs.Cmp.Lexicographic.{pointwise}
use Rattle.std.specs.List.{slice_get}
use Rattle.std.specs.Option.{option_copied, option_eq}
use Rattle.std.specs.Ordering.{int_eq}
use lib.IntN.{ℤ}
use Rattle.minuska.specs.Bridge.Place.{Decides}

pub same_decides : (a b : List ℤ) (r : Bool) → r ≡ pointwise int_eq a b → Decides r (a ≡ b)
same_decides a b r e =
    let d = slice_eq-Decides Decides-int_eq a b r e in
    record { yes = d.0; no = λ f q. true≢false (sym (d.1 q) ∙ f) }

-- the last words, as references: none of no words
last_equal : (x y : Option (Bor ℤ)) → option_copied x ≡ option_copied y → option_eq (λ p q. int_eq p.now q.now) x y ≡ true
last_equal None None e = refl
last_equal None (Some y) e = cc
last_equal (Some x) None e = cc
last_equal (Some x) (Some y) e = (Decides-int_eq x.now y.now).1 cc

pub last_decide : (a b : List ℤ) (x y : Option (Bor ℤ)) (r : Bool) → option_copied x ≡ slice_get a (length a - 1) → option_copied y ≡ slice_get b (length b - 1) → r ≡ option_eq (λ p q. int_eq p.now q.now) x y → r ≡ false → Decides r (a ≡ b)
last_decide a b x y r ex ey e f =
    record {
      yes = λ t. absurd (true≢false (sym t ∙ f));
      no = λ g q. true≢false (sym (e ∙ last_equal x y (ex ∙ ap (λ (l : List ℤ). slice_get l (length l - 1)) q ∙ sym ey)) ∙ f);
    }

pub lengths_decide : (a b : List ℤ) (r : Bool) → (length a ≡ length b → ⊥) → r ≡ false → Decides r (a ≡ b)
lengths_decide a b r h f = record { yes = λ t. absurd (true≢false (sym t ∙ f)); no = λ g q. h (ap length q) }
