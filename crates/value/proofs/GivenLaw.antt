-- WHAT A BUILT-IN FUNCTION GIVES is its value: each but a lookup and an update gives one node (`InterpretLaw`), and nothing else says so.
use mathlib.Core.Path.{◌≡◌, sym, ap}
use mathlib.Core.List.{List}
use Prim.Native.Nat.{ℕ}
use lib.IntN.{ℤ}
use Rattle.minuska.specs.Term.{Forest, Term, single, is_ground}
use Rattle.minuska.specs.Word.{ok, encode}
use Rattle.minuska.specs.Function.{argument, interpret}
use Rattle.minuska.proofs.Tests.{and_left, and_right}
use Rattle.value.specs.Builtin.{root_of, applied, ByRoots}
use Rattle.value.specs.Value.{value_words, Within, IsValue}
use Rattle.value.specs.declared.Value.TheVariants.{Computed}
use Rattle.value.proofs.InterpretLaw.{interpret_is, interpret_fine}

module _ (table config : List ℤ) (c : ℕ) (xs : Forest) (n : ByRoots c) where
  pub given_is : IsValue table config (Computed (root_of (applied c (argument 0 xs) (argument 1 xs) (argument 2 xs)))) (interpret c xs)
  unfolding value_words Within root_of
  given_is =
      let t = interpret c xs in
      let f = interpret_fine xs c n in
      record {
        good = and_left (ok (single t)) (is_ground (single t)) f;
        grounded = and_right (ok (single t)) (is_ground (single t)) f;
        words = sym (ap (λ (y : Term). encode (single y)) (interpret_is xs c n));
        within = tt;
      }

  pub given_root : applied c (argument 0 xs) (argument 1 xs) (argument 2 xs) ≡ (interpret c xs).label
  given_root = sym (ap (λ (t : Term). t.label) (interpret_is xs c n))
