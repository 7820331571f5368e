-- Refusals 3, 4 and 5 are the outcome's, for any routine that tests them behind 1 and 2; where there is none, the outcome is the routine's answer.
use mathlib.Core.Path.{◌≡◌, refl, sym, ◌∙◌, ap}
use mathlib.Core.Bool.{Bool, true, false, ◌||◌, cond, true≢false}
use mathlib.Core.List.{List, [], ◌∷◌}
use Prim.Native.Nat.{ℕ, suc, ◌+◌, ◌*◌, ◌/◌, ◌≤◌, ◌<◌}
use native.Mathlib.Nat.{div-lt_iff_lt-mul, mul_assoc, mul_comm}
use native.Mathlib.Omega.{arith}
use lib.Dec.{eqb, ltb, leb}
use lib.IntN.{ℤ}
use lib.ListN.{length}
use borrow.Author.Tests.{le-ltb, ne_eqb, le-leb, lt-leb, ltb-true, ltb-false, eqb-false}
use Rattle.std.specs.Prelude.{Ok, Err}
use Rattle.minuska.specs.declared.Refusal.{Refusal}
use Rattle.minuska.specs.Term.{Term, node_count}
use Rattle.minuska.specs.Rule.{Table, max_nodes, IsTable, IsConfiguration}
use Rattle.minuska.specs.Answer.{Outcome, refused, gives}
use Rattle.minuska.specs.Computed.Outcome.{Test, tested, size_tests, limit_refused, on_words}
use Rattle.minuska.proofs.OutcomeLaw.{on_words_lem}
use Rattle.minuska.proofs.Bridge.AcceptedLaw.{configuration_length}
use Rattle.sizes.specs.Sizes.{first_test, limit_outside, size_check, SizesHold}

-- two tests that do not pass
pub neither : (a b : Bool) → a || b ≡ false → (a ≡ false) × (b ≡ false)
neither true b e = absurd (true≢false e)
neither false b e = (refl, e)

module _ (n most nodes limit : ℕ) (short : Bool) where
  -- ---- what holds where there is none, and the other way round
  none_given : (l b s : Bool) → first_test (size_tests l b s) ≡ Ok tt → (l ≡ false) × (b ≡ false) × (s ≡ false)
  none_given true b s e = cc
  none_given false true s e = cc
  none_given false false true e = cc
  none_given false false false e = (refl, refl, refl)

  pub sized : size_check n most nodes limit short ≡ Ok tt → SizesHold n most nodes limit short
  unfolding size_check
  sized e =
      let p = none_given (ltb most n) (limit_outside limit nodes) short e in
      let q = neither (eqb limit 0 || ltb max_nodes limit) (ltb limit nodes) p.1 in
      let r = neither (eqb limit 0) (ltb max_nodes limit) q.0 in
      let z : limit ≡ 0 → ⊥ = eqb-false limit 0 r.0 in
      record { few = ltb-false most n p.0; positive = omega (arith, z); bounded = ltb-false max_nodes limit r.1; fits = ltb-false limit nodes q.1; roomy = p.2 }

  pub sizes_good : SizesHold n most nodes limit short → size_check n most nodes limit short ≡ Ok tt
  unfolding size_check
  sizes_good s =
      let p = s.positive in
      let z : limit ≡ 0 → ⊥ = λ e. omega arith in
      rw (le-ltb most n s.few, ne_eqb limit 0 z, le-ltb max_nodes limit s.bounded, le-ltb limit nodes s.fits, s.roomy)

-- ---- words that do not hold frames, without a product
module _ (words frames nodes : ℕ) (some : 0 < frames) where
  all_words : frames * (2 * nodes + 2) ≡ 2 * (suc nodes * frames)
  all_words = let e : 2 * nodes + 2 ≡ 2 * suc nodes = omega arith in rw (e, mul_comm frames (2 * suc nodes)) (mul_assoc 2 (suc nodes) frames)

  pub frames_lacked : leb (words / 2 / frames) nodes ≡ ltb words (frames * (2 * nodes + 2))
  frames_lacked = pick (ltb words (frames * (2 * nodes + 2))) refl
    where
      pick : (b : Bool) → ltb words (frames * (2 * nodes + 2)) ≡ b → leb (words / 2 / frames) nodes ≡ b
      pick true e =
          let h = ltb-true words (frames * (2 * nodes + 2)) e in
          let k = (div-lt_iff_lt-mul {k = frames} {x = words / 2} {y = suc nodes} some).1 (omega (arith, h, all_words)) in
          le-leb (words / 2 / frames) nodes (omega arith)
      pick false e =
          let h = ltb-false words (frames * (2 * nodes + 2)) e in
          let no : words / 2 / frames ≤ nodes → ⊥ = λ l. let k = (div-lt_iff_lt-mul {k = frames} {x = words / 2} {y = suc nodes} some).0 (omega arith) in let f : ⊥ = omega (arith, h, k, all_words) in f in
          lt-leb (words / 2 / frames) nodes (omega (arith, no))

-- ---- tests in order, and what is answered behind them
module _ {A : Type 0} (x : A) where
  tested_refused : (ts : List Test) (r : Refusal) → first_test ts ≡ Err r → tested ts x ≡ refused r
  tested_refused [] r e = cc
  tested_refused (t ∷ ts) r e = pick t.given (λ h. tested_refused ts r h) e
    where
      pick : (b : Bool) → (first_test ts ≡ Err r → tested ts x ≡ refused r) → cond b (Err t.refusal) (first_test ts) ≡ Err r → cond b (refused t.refusal) (tested ts x) ≡ refused r
      pick true rest h = let f : t.refusal ≡ r = cc in ap {B = Outcome A} refused f
      pick false rest h = rest h

  tested_good : (ts : List Test) → first_test ts ≡ Ok tt → tested ts x ≡ gives x
  tested_good [] e = refl
  tested_good (t ∷ ts) e = pick t.given (λ h. tested_good ts h) e
    where
      pick : (b : Bool) → (first_test ts ≡ Ok tt → tested ts x ≡ gives x) → cond b (Err t.refusal) (first_test ts) ≡ Ok tt → cond b (refused t.refusal) (tested ts x) ≡ gives x
      pick true rest h = cc
      pick false rest h = rest h

-- ---- THE OUTCOME OF WORDS THAT ARE A TABLE AND A CONFIGURATION, by the check
module _ {A : Type 0} (ws cs : List ℤ) (t : Table) (g : Term) (p : IsTable ws t) (q : IsConfiguration cs g) (answer : Table → Term → A) (n most limit : ℕ) (short : Bool) where
  abbrev outcome : Outcome A
  outcome = on_words ws cs λ u h. tested (size_tests (ltb most n) (limit_refused limit h) short) (answer u h)

  abbrev tests : List Test
  tests = size_tests (ltb most n) (limit_refused limit g) short

  outcome_is : outcome ≡ tested tests (answer t g)
  outcome_is = on_words_lem ws cs t g p q (λ u h. tested (size_tests (ltb most n) (limit_refused limit h) short) (answer u h))

  check_is : size_check n most (length cs / 2) limit short ≡ first_test tests
  unfolding size_check
  check_is = let e : length cs / 2 ≡ node_count g = omega (arith, configuration_length cs g q) in rw e

  pub sizes_refuse : (r : Refusal) → size_check n most (length cs / 2) limit short ≡ Err r → outcome ≡ refused r
  sizes_refuse r e = outcome_is ∙ tested_refused (answer t g) tests r (sym check_is ∙ e)

  pub sizes_pass : SizesHold n most (length cs / 2) limit short → outcome ≡ gives (answer t g)
  sizes_pass s = outcome_is ∙ tested_good (answer t g) tests (sym check_is ∙ sizes_good n most (length cs / 2) limit short s)
