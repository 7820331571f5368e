-- What two words say by their tag; the functions on arguments of one kind, and what an argument of another kind is to them.
use mathlib.Core.Path.{◌≡◌, refl, sym, ap, ◌∙◌}
use mathlib.Core.Bool.{Bool, true, false, ◌&&◌, cond}
use mathlib.Core.Option.{Option, none, some}
use Prim.Native.Nat.{ℕ, zero, suc, ◌^◌, ◌≤◌, ◌<◌}
use native.Mathlib.Omega.{arith}
use lib.Dec.{eqb, leb, ltb}
use lib.ListN.{length, get_or-eq_default}
use lib.IntN.{ℤ, pos, negsuc, ◌*ℤ◌}
use lib.Signed.{mag, lt_z}
use borrow.Author.Tests.{ltb-true, ltb-false, le-leb, lt-leb, lt-ltb, ne_eqb}
use mir.Syntax.{w64}
use mir.Val.{SFits, of_z}
use Rattle.std.specs.Prelude as S
use Rattle.minuska.specs.Term.{leaf, Label, error, whole, symbol, dictionary, Term, as_symbol, as_truth, as_whole}
use Rattle.minuska.specs.Basics.{◌>>=◌, present, provided, same_whole}
use Rattle.minuska.specs.Nearest.{nearest}
use Rattle.minuska.specs.Function.{wrong_kind, or_wrong_kind, whole_term, share_range, share_of, Function, functions, no_function}
use Rattle.value.specs.Builtin.{unsigned, label_at, label_of, root_of, number_term, leaves, applied}
use Rattle.value.specs.declared.builtin.Root.{Root}
use Rattle.value.proofs.SignedLaw.{eq_bits, word_is, word_not}

-- ---- the kinds that functions ask for: the tag, a label read as one of the kind, what a datum says, and that the tag decides
unsigned_is : (z : ℤ) → unsigned z ≡ of_z w64 z
unsigned_is (pos n) = refl
unsigned_is (negsuc n) = refl

-- what no one looks for in an error, in a symbol and in a dictionary
other : {A : Type 0} (f : Label → Option A) (n : ℕ) → f error ≡ none → f (symbol n) ≡ none → f (dictionary n) ≡ none → (b c : Bool) → f (cond b (symbol n) (cond c (dictionary n) error)) ≡ none
other f n e s d true c = s
other f n e s d false true = d
other f n e s d false false = e

pub record Kind (A : Type 0) : Type 0 where
  pub tag : ℤ
  pub read : Label → Option A
  pub says : ℤ → A
  pub seen : (t d : ℤ) → read (label_at t d) ≡ provided (same_whole t tag) (says d)

pub truth_seen : (t d : ℤ) → as_truth (label_at t d) ≡ provided (same_whole t (pos 1)) (eqb (of_z w64 d) 1)
unfolding label_at
truth_seen (pos zero) d = refl
truth_seen (pos (suc zero)) d = rw (unsigned_is d)
truth_seen (pos (suc (suc zero))) d = refl
truth_seen (pos (suc (suc (suc n)))) d = rw (ne_eqb (suc (suc (suc n))) 1 (λ h. omega arith)) (other as_truth (unsigned d) refl refl refl (leb 5 n) (eqb n 2))
truth_seen (negsuc n) d = refl

pub whole_seen : (t d : ℤ) → as_whole (label_at t d) ≡ provided (same_whole t (pos 2)) d
unfolding label_at
whole_seen (pos zero) d = refl
whole_seen (pos (suc zero)) d = refl
whole_seen (pos (suc (suc zero))) d = refl
whole_seen (pos (suc (suc (suc n)))) d = rw (ne_eqb (suc (suc (suc n))) 2 (λ h. omega arith)) (other as_whole (unsigned d) refl refl refl (leb 5 n) (eqb n 2))
whole_seen (negsuc n) d = refl

abbrev pub truths : Kind Bool
truths = record { tag = pos 1; read = as_truth; says = λ d. eqb (of_z w64 d) 1; seen = truth_seen }

abbrev pub wholes : Kind ℤ
wholes = record { tag = pos 2; read = as_whole; says = λ d. d; seen = whole_seen }

-- ---- one, two and three arguments of a kind: what the function gives, or the error of another kind
with_one : {A : Type 0} (s : Bool) (x : A) (f : A → Term) → or_wrong_kind (provided s x >>= λ x. some (f x)) ≡ cond s (f x) wrong_kind
with_one true x f = refl
with_one false x f = refl

with_two : {A : Type 0} (s u : Bool) (x y : A) (f : A → A → Term) → or_wrong_kind (provided s x >>= λ x. provided u y >>= λ y. some (f x y)) ≡ cond (s && u) (f x y) wrong_kind
with_two true u x y f = with_one u y (f x)
with_two false u x y f = refl

with_three : {A : Type 0} (s u v : Bool) (x y z : A) (f : A → A → A → Term) →
    or_wrong_kind (provided s x >>= λ x. provided u y >>= λ y. provided v z >>= λ z. some (f x y z)) ≡ cond (s && u && v) (f x y z) wrong_kind
with_three true u v x y z f = with_two u v y z (f x)
with_three false u v x y z f = refl

module _ {A : Type 0} (k : Kind A) where
  abbrev pub on_one : (A → Term) → Label → Term
  on_one f l = or_wrong_kind (k.read l >>= λ x. some (f x))

  abbrev pub on_two : (A → A → Term) → Label → Label → Term
  on_two f l m = or_wrong_kind (k.read l >>= λ x. k.read m >>= λ y. some (f x y))

  abbrev pub on_three : (A → A → A → Term) → Label → Label → Label → Term
  on_three f l m n = or_wrong_kind (k.read l >>= λ x. k.read m >>= λ y. k.read n >>= λ z. some (f x y z))

-- ---- a tag compared with a kind's
pub tag_seen : (t : ℤ) (n : ℕ) → SFits w64 t → n < 2 ^ 63 → eqb (of_z w64 t) n ≡ same_whole t (pos n)
tag_seen t n f h = eq_bits t (pos n) f.sfits h

pub tag_is : (t : ℤ) (n : ℕ) → SFits w64 t → n < 2 ^ 63 → of_z w64 t ≡ n → same_whole t (pos n) ≡ true
tag_is t n f h e = word_is t (pos n) f (record { sfits = h }) e

pub tag_not : (t : ℤ) (n : ℕ) → SFits w64 t → n < 2 ^ 63 → (of_z w64 t ≡ n → ⊥) → same_whole t (pos n) ≡ false
tag_not t n f h e = word_not t (pos n) f (record { sfits = h }) e

-- ---- a function's value, from tests of the tags
there : {A : Type 0} (s : Bool) (v : A) → s ≡ present (provided s v)
there true v = refl
there false v = refl

module _ {A : Type 0} (k : Kind A) (a : Root) where
  -- bool.is and z.is look at the tag alone
  pub is_there : same_whole a.tag k.tag ≡ present (k.read (label_of a))
  is_there = rw (k.seen a.tag a.datum) (there (same_whole a.tag k.tag) (k.says a.datum))

  pub one_value : (f : A → Term) (s : Bool) → same_whole a.tag k.tag ≡ s → root_of (cond s (f (k.says a.datum)) wrong_kind).label ≡ root_of (on_one k f (label_of a)).label
  one_value f s e = rw (k.seen a.tag a.datum, ← e) (ap (λ (t : Term). root_of t.label) (sym (with_one (same_whole a.tag k.tag) (k.says a.datum) f)))

  module _ (b : Root) where
    pub two_value : (f : A → A → Term) (s : Bool) → s ≡ (same_whole a.tag k.tag && same_whole b.tag k.tag) → root_of (cond s (f (k.says a.datum) (k.says b.datum)) wrong_kind).label ≡ root_of (on_two k f (label_of a) (label_of b)).label
    two_value f s e =
        rw (k.seen a.tag a.datum, k.seen b.tag b.datum, e)
        (ap (λ (t : Term). root_of t.label) (sym (with_two (same_whole a.tag k.tag) (same_whole b.tag k.tag) (k.says a.datum) (k.says b.datum) f)))

    pub three_value : (c : Root) (f : A → A → A → Term) (s u : Bool) → s ≡ (same_whole a.tag k.tag && same_whole b.tag k.tag) → same_whole c.tag k.tag ≡ u →
        root_of (cond (s && u) (f (k.says a.datum) (k.says b.datum) (k.says c.datum)) wrong_kind).label ≡ root_of (on_three k f (label_of a) (label_of b) (label_of c)).label
    three_value c f s u e i =
        rw (k.seen a.tag a.datum, k.seen b.tag b.datum, k.seen c.tag c.datum, e, ← i)
        (ap (λ (t : Term). root_of t.label)
        (sym (with_three (same_whole a.tag k.tag) (same_whole b.tag k.tag) (same_whole c.tag k.tag) (k.says a.datum) (k.says b.datum) (k.says c.datum) f)))

-- ---- a code that is none of the functions' names no function
pub no_function_lem : (n : ℕ) (a b c : Label) → length functions ≤ n → error ≡ applied n a b c
unfolding applied
no_function_lem n a b c h = ap (λ (f : Function). (f.meaning (leaves a b c)).label) (sym (get_or-eq_default functions no_function h))

-- ---- symbols
pub is_symbol : (t d : ℤ) → lt_z t (pos 8) ≡ false → label_at t d ≡ symbol (of_z w64 d)
unfolding label_at
is_symbol (pos zero) d h = absurd (omega (arith, ltb-false 0 8 h))
is_symbol (pos (suc zero)) d h = absurd (omega (arith, ltb-false 1 8 h))
is_symbol (pos (suc (suc zero))) d h = absurd (omega (arith, ltb-false 2 8 h))
is_symbol (pos (suc (suc (suc n)))) d h = rw (le-leb 5 n (omega (arith, ltb-false (suc (suc (suc n))) 8 h)), unsigned_is d)
is_symbol (negsuc n) d h = absurd (let z : ◌≡◌ {A = ℕ} 0 1 = cc in omega arith)

pub no_symbol : (t d : ℤ) → lt_z t (pos 8) ≡ true → as_symbol (label_at t d) ≡ none
unfolding label_at
no_symbol (pos zero) d h = refl
no_symbol (pos (suc zero)) d h = refl
no_symbol (pos (suc (suc zero))) d h = refl
no_symbol (pos (suc (suc (suc n)))) d h = rw (lt-leb 5 n (omega (arith, ltb-true (suc (suc (suc n))) 8 h))) (pick (eqb n 2))
  where
    pick : (b : Bool) → as_symbol (cond b (dictionary (unsigned d)) error) ≡ none
    pick true = refl
    pick false = refl
no_symbol (negsuc n) d h = refl

-- ---- a product within the ranges of z.share
module _ (x y z : ℤ) where
  pub share_in : share_range x y z ≡ true → whole (nearest (x *ℤ y) z) ≡ (share_of x y z).label
  share_in e = rw e

-- ---- a sum or a difference, by whether it fits a word
word_in : (z : ℤ) → SFits w64 z → leaf (whole z) ≡ whole_term z
word_in z f = rw (lt-ltb (mag z) (2 ^ 63) f.sfits)

word_out : (z : ℤ) → (SFits w64 z → ⊥) → wrong_kind ≡ whole_term z
word_out z f = go (ltb (mag z) (2 ^ 63)) refl
  where
    go : (b : Bool) → ltb (mag z) (2 ^ 63) ≡ b → wrong_kind ≡ cond b (leaf (whole z)) wrong_kind
    go true e = absurd (f (record { sfits = ltb-true (mag z) (2 ^ 63) e }))
    go false e = refl

pub number_fits : (o : S.Option ℤ) (z : ℤ) → S.SomeIff o (SFits w64 z) z → number_term o ≡ whole_term z
number_fits S.None z e = word_out z e
number_fits (S.Some y) z e = ap (λ (x : ℤ). leaf (whole x)) e.1 ∙ word_in z e.0
