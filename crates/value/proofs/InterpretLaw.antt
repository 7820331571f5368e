-- A built-in function's value is a leaf, and depends on the roots of its first three arguments alone; but for a lookup's and an update's.
use mathlib.Core.Path.{◌≡◌, refl, sym, ◌∙◌, subst}
use mathlib.Core.Bool.{Bool, true, false, cond}
use Prim.Native.Nat.{ℕ, ◌≤◌}
use native.Mathlib.Omega.{arith}
use lib.Dec.{ltb}
use lib.IntN.{ℤ}
use lib.ListN.{length, take, get_or, get_or-eq_default}
use lib.Seq.{get_or-take}
use borrow.Author.Tests.{ltb-true, ltb-false}
use Rattle.minuska.specs.Term.{whole, Forest, Term, leaf}
use Rattle.minuska.specs.Function.{in_word, share_range, out_of_range, argument, Function, functions, no_function, interpret}
use Rattle.minuska.proofs.FunctionLaw.{every_value}
use Rattle.minuska.proofs.KeepLaw.{Fine}
use Rattle.minuska.proofs.Tests.{◌also◌, every_at}
use Rattle.value.specs.Builtin.{leaves, applied, ByRoots}

-- ---- one node in range: these functions give nothing else
abbrev OneNode : Term → Type 0
OneNode t = (t ≡ leaf t.label) × Fine t

one_if : (b : Bool) (z : ℤ) → OneNode (cond b (leaf (whole z)) out_of_range)
one_if true z = (refl, tt)
one_if false z = (refl, tt)

one_node : (c : ℕ) (xs : Forest) → ByRoots c → OneNode (interpret c xs)
one_node =
    every_value (λ c xs. ByRoots c) OneNode (λ b. (refl, tt)) (refl, tt) (λ z. one_if (in_word z) z) (λ a b c. one_if (share_range a b c) _) (refl, tt)
    (λ xs n es k t p q. absurd (n.0 refl)) (λ xs n es k p q. absurd (n.1 refl))

-- ---- every row of the table, from the roots of the first three arguments; error where there is none
abbrev FromRoots : Forest → Function → Type 0
FromRoots xs f = f.meaning (leaves (argument 0 xs) (argument 1 xs) (argument 2 xs)) ≡ f.meaning xs

by_roots : (xs : Forest) (c : ℕ) → ByRoots c → FromRoots xs (get_or functions c no_function)
by_roots xs c n = pick (ltb c 16) refl
  where
    pick : (b : Bool) → ltb c 16 ≡ b → FromRoots xs (get_or functions c no_function)
    pick true e =
        subst (FromRoots xs) (get_or-take 16 functions c no_function (ltb-true c 16 e))
        (every_at (FromRoots xs) (take 16 functions) no_function
        (refl also refl also refl also refl also refl also refl also refl also refl also refl also refl also refl also refl also refl also refl also refl also refl also tt) refl c)
    pick false e =
        let a = ltb-false c 16 e in
        let f = n.0 in
        let g = n.1 in
        subst (FromRoots xs) (sym (get_or-eq_default functions no_function (let h : length functions ≤ c = omega arith in h))) refl

-- THE VALUE at any arguments, from their roots
pub interpret_is : (xs : Forest) (c : ℕ) → ByRoots c → interpret c xs ≡ leaf (applied c (argument 0 xs) (argument 1 xs) (argument 2 xs))
unfolding applied
interpret_is xs c n = sym (by_roots xs c n) ∙ (one_node c (leaves (argument 0 xs) (argument 1 xs) (argument 2 xs)) n).0

pub interpret_fine : (xs : Forest) (c : ℕ) → ByRoots c → Fine (interpret c xs)
interpret_fine xs c n = (one_node c xs n).1
