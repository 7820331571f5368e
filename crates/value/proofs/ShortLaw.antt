-- A call of two short arguments: what stands there, and that its value is meant.
use mathlib.Core.Path.{◌≡◌, refl, sym, ◌∙◌, ap, subst}
use mathlib.Core.Bool.{true}
use mathlib.Core.Logic.{◌⊎◌, inl, inr}
use mathlib.Core.List.{List}
use Prim.Native.Nat.{ℕ, zero, suc, ◌+◌, ◌≤◌, ◌<◌}
use native.Mathlib.Omega.{arith}
use lib.IntN.{ℤ, pos, negsuc, nat_abs}
use lib.ListN.{length, get_or}
use lib.Signed.{lt_z}
use borrow.Author.Tests.{ltb-true, lt-ltb, le-ltb}
use Rattle.minuska.specs.Term.{error, Forest, nil, node, Term, cons, single, term_count}
use Rattle.minuska.specs.Word.{encode}
use Rattle.minuska.specs.Function.{argument, function_at}
use Rattle.minuska.specs.Satisfaction.{Valuation}
use Rattle.minuska.specs.Bridge.Walk.{looking}
use Rattle.term.specs.TermEnd.{arity_of}
use Rattle.value.specs.Evaluate.{HasValue, first_of, rest_of}
use Rattle.value.specs.Short.{CallThere, Short}
use Rattle.term.specs.declared.Span.{Span}
use Rattle.value.proofs.SignedLaw.{abs_back}
use Rattle.value.proofs.RootLaw.{RootThere, root_stands}
use Rattle.value.proofs.ArityLaw.{arity_is}
use Rattle.value.proofs.CallLaw.{read_at, expression_room, the_call, code_is}
use Rattle.value.proofs.ExpressionLaw.{CallHere, is_variable, is_literal, is_more, no_more}
use Rattle.value.proofs.MeantLaw.{first_long}

one_less : (es : Forest) (n : ℕ) → term_count es ≡ suc n → term_count (rest_of es) ≡ n
one_less nil n e = absurd (let z : ⊥ = omega arith in z)
one_less (node l cs ss) n e = omega arith

-- a tag below 4 is a variable's or below
below_four : (z : ℤ) → lt_z z (pos 4) ≡ true → (z ≡ pos 3) ⊎ (lt_z z (pos 3) ≡ true)
below_four (pos zero) h = inr refl
below_four (pos (suc zero)) h = inr refl
below_four (pos (suc (suc zero))) h = inr refl
below_four (pos (suc (suc (suc zero)))) h = inl refl
below_four (pos (suc (suc (suc (suc n))))) h = absurd (let k : suc (suc (suc (suc n))) < 4 = ltb-true (suc (suc (suc (suc n)))) 4 h in omega arith)
below_four (negsuc n) h = inr refl

module _ (table config : List ℤ) (starts ends : List ℕ) (at : ℕ) (ρ : Valuation) where
  -- what a variable stands for stands where its part starts
  pub variable_root : (e t : Term) → HasValue table config starts ends at ρ e t → get_or table at (pos 0) ≡ pos 3 → (p : Span) → p ≡ record { from = get_or starts (read_at table (at + 1)) 0; to = get_or ends (read_at table (at + 1)) 0 } → RootThere config p.from t
  variable_root e t w q p s =
      let v = is_variable table config starts ends at ρ e t w q in
      let b = v.bound in
      let h = v.small in
      rw (s, abs_back _ v.number v.datum (omega arith)) (root_stands _ _ t b.good b.grounded b.stands)

  -- a short argument has two words
  pub short_long : (e t : Term) → HasValue table config starts ends at ρ e t → lt_z (get_or table at (pos 0)) (pos 4) ≡ true → length (encode (single e)) ≡ 2
  short_long e t w h = go (below_four (get_or table at (pos 0)) h)
    where
      go : (get_or table at (pos 0) ≡ pos 3) ⊎ (lt_z (get_or table at (pos 0)) (pos 3) ≡ true) → length (encode (single e)) ≡ 2
      go (inl p) = (is_variable table config starts ends at ρ e t w p).long
      go (inr p) = (is_literal table config starts ends at ρ e t w p).1

  -- the two arguments of a call of two
  pub record TwoHere (e t : Term) (k : CallHere table config starts ends at ρ e t) : Type 0 where
    pub a : Term
    pub x : Term
    pub b : Term
    pub y : Term
    pub first : HasValue table config starts ends (at + 2) ρ a x
    pub second : HasValue table config starts ends (at + 2 + length (encode (single a))) ρ b y
    pub long : length (encode (single e)) ≡ 2 + length (encode (single a)) + length (encode (single b))
    pub one : argument 0 k.terms ≡ x.label
    pub two : argument 1 k.terms ≡ y.label
    pub three : argument 2 k.terms ≡ error

  pub two_here : (e t : Term) (k : CallHere table config starts ends at ρ e t) → (function_at k.code).arity ≡ 2 → TwoHere e t k
  two_here e t k n =
      let c : term_count e.children ≡ 2 = k.many ∙ n in
      let m = is_more table config starts ends (at + 2) ρ e.children k.terms k.have (sym (lt-ltb 0 (term_count e.children) (omega arith))) in
      let d : term_count m.rest ≡ 1 = ap term_count (sym m.rest_is) ∙ one_less e.children 1 c in
      let o = is_more table config starts ends (at + 2 + length (encode (single m.expression))) ρ m.rest m.terms m.behind (sym (lt-ltb 0 (term_count m.rest) (omega arith))) in
      let f : term_count o.rest ≡ 0 = ap term_count (sym o.rest_is) ∙ one_less m.rest 0 d in
      let z = no_more table config starts ends _ ρ o.rest o.terms o.behind (sym (le-ltb 0 (term_count o.rest) (omega arith))) in
      let whole : cons m.term (cons o.term nil) ≡ k.terms = ap (λ (g : Forest). cons m.term (cons o.term g)) (sym z.1) ∙ (ap (cons m.term) o.are ∙ m.are) in
      let l₁ = first_long e.children in
      let l₂ = first_long m.rest in
      let a₁ : length (encode (first_of e.children)) ≡ length (encode (single m.expression)) = ap (λ (g : Forest). length (encode g)) m.first_is in
      let a₂ : length (encode (rest_of e.children)) ≡ length (encode m.rest) = ap (λ (g : Forest). length (encode g)) m.rest_is in
      let b₁ : length (encode (first_of m.rest)) ≡ length (encode (single o.expression)) = ap (λ (g : Forest). length (encode g)) o.first_is in
      let b₂ : length (encode (rest_of m.rest)) ≡ 0 = ap (λ (g : Forest). length (encode g)) (o.rest_is ∙ z.0) in
      let j = k.long in
      record {
        a = m.expression;
        x = m.term;
        b = o.expression;
        y = o.term;
        first = m.first;
        second = o.first;
        long = omega arith;
        one = sym (ap (argument 0) whole);
        two = sym (ap (argument 1) whole);
        three = sym (ap (argument 2) whole);
      }

-- the two arguments of a short call
module _ (table config : List ℤ) (starts ends : List ℕ) (at : ℕ) (ρ : Valuation) (e t : Term) (k : CallHere table config starts ends at ρ e t) (s : Short table at) where
  pub arguments : TwoHere table config starts ends at ρ e t k
  arguments = two_here table config starts ends at ρ e t k (ap (λ (n : ℕ). (function_at n).arity) (sym (ap nat_abs k.datum)) ∙ s.two)

  pub no_lookup : k.code ≡ looking → ⊥
  no_lookup q = s.no_lookup (ap nat_abs k.datum ∙ q)

  long_first : length (encode (single arguments.a)) ≡ 2
  long_first = short_long table config starts ends (at + 2) ρ arguments.a arguments.x arguments.first s.first

  pub second_at : HasValue table config starts ends (at + 4) ρ arguments.b arguments.y
  second_at =
      let l = long_first in
      let q : at + 2 + length (encode (single arguments.a)) ≡ at + 4 = omega arith in
      subst (λ (n : ℕ). HasValue table config starts ends n ρ arguments.b arguments.y) q arguments.second

  pub six : 6 ≡ length (encode (single e))
  six = let a = long_first in let b = short_long table config starts ends (at + 4) ρ arguments.b arguments.y second_at s.second in let c = arguments.long in omega arith

module _ (table config : List ℤ) (starts ends : List ℕ) (at : ℕ) (ρ : Valuation) where
  -- such a call has six words
  pub call_long : (e t : Term) (k : CallHere table config starts ends at ρ e t) → Short table at → length (encode (single e)) ≡ 6
  call_long e t k s = sym (six table config starts ends at ρ e t k s)

-- a call that the code has read as one of two arguments
pub record TwoThere (table : List ℤ) (at : ℕ) : Type 0 where
  pub code : read_at table (at + 1) ≡ nat_abs (get_or table (at + 1) (pos 0))
  pub two : (function_at (nat_abs (get_or table (at + 1) (pos 0)))).arity ≡ 2
  pub first : at + 4 ≤ length table
  pub second : lt_z (get_or table (at + 2) (pos 0)) (pos 4) ≡ true → at + 6 ≤ length table

pub two_there : {table : List ℤ} {at : ℕ} → CallThere table at → arity_of (read_at table (at + 1)) ≡ 2 → TwoThere table at
two_there {table} {at} c a =
    let e = c.call.expression in
    let k = the_call table c.config c.starts c.ends at e.valuation e.expression e.term e.has c.call.tag in
    let n = code_is table c.config c.starts c.ends at e.valuation e.expression e.term e.has c.call.tag in
    let two : (function_at k.code).arity ≡ 2 = sym (arity_is k.code) ∙ (ap arity_of (sym n) ∙ a) in
    let h = two_here table c.config c.starts c.ends at e.valuation e.expression e.term k two in
    let r = expression_room _ _ _ _ _ _ _ _ h.first in
    record {
      code = n ∙ sym (ap nat_abs k.datum);
      two = ap (λ (m : ℕ). (function_at m).arity) (ap nat_abs k.datum) ∙ two;
      first = omega arith;
      second = λ low. let l = short_long _ _ _ _ _ _ h.a h.x h.first low in let s = expression_room _ _ _ _ _ _ _ _ h.second in omega arith;
    }
