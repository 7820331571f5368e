-- A call: its code, and its arguments one after the other, of whatever call stands at a place.
use mathlib.Core.Path.{◌≡◌, sym, ap, ◌∙◌}
use mathlib.Core.List.{List}
use Prim.Native.Nat.{ℕ, ◌+◌, ◌≤◌}
use native.Mathlib.Omega.{arith}
use lib.Dec.{ltb}
use lib.IntN.{ℤ, pos, nat_abs}
use lib.ListN.{length, get_or}
use mir.Syntax.{w64}
use mir.Val.{to_z, of_z}
use Rattle.minuska.specs.Term.{nil, Term, single, term_count}
use Rattle.minuska.specs.Word.{encode}
use Rattle.minuska.specs.Satisfaction.{Valuation}
use Rattle.term.specs.TermEnd.{arity_of}
use Rattle.value.specs.Evaluate.{HasValue, HaveValues, ArgumentsContract, FirstMeant, rest_of}
use Rattle.value.specs.declared.Evaluated.{Evaluated}
use Rattle.value.proofs.SignedLaw.{abs_back}
use Rattle.value.proofs.ArityLaw.{arity_is, arity_few}
use Rattle.value.proofs.ExpressionLaw.{head_words, CallHere, is_call}
use Rattle.value.proofs.MeantLaw.{rest_behind, one_fewer, three_long}

-- the first two words of an expression
pub expression_room : (table config : List ℤ) (starts ends : List ℕ) (at : ℕ) (ρ : Valuation) (e x : Term) → HasValue table config starts ends at ρ e x → at + 2 ≤ length table
expression_room table config starts ends at ρ e x w = (head_words table at e.label e.children nil w.placed.stands).room

-- a number as the code reads it at a place
abbrev pub read_at : List ℤ → ℕ → ℕ
read_at ws i = nat_abs (to_z w64 (of_z w64 (get_or ws i (pos 0))))

module _ (table config : List ℤ) (starts ends : List ℕ) (at : ℕ) (ρ : Valuation) (e x : Term) (w : HasValue table config starts ends at ρ e x) (tag : get_or table at (pos 0) ≡ pos 4) where
  pub the_call : CallHere table config starts ends at ρ e x
  the_call = is_call table config starts ends at ρ e x w tag

  pub code_is : read_at table (at + 1) ≡ the_call.code
  code_is = let k = the_call in let h = k.small in abs_back _ k.code k.datum (omega arith)

  module _ (count : ℕ) (c : count ≡ arity_of (read_at table (at + 1))) where
    many : term_count e.children ≡ count
    many = the_call.many ∙ (sym (arity_is the_call.code) ∙ sym (c ∙ ap arity_of code_is))

    pub first_wanted : ltb 0 count ≡ ltb 0 (term_count e.children)
    first_wanted = ap (ltb 0) (sym many)

    pub second_wanted : ltb 1 count ≡ ltb 0 (term_count (rest_of e.children))
    second_wanted = ap (ltb 1) (sym many) ∙ one_fewer e.children 0

    pub third_wanted : ltb 2 count ≡ ltb 0 (term_count (rest_of (rest_of e.children)))
    third_wanted = ap (ltb 2) (sym many) ∙ (one_fewer e.children 1 ∙ one_fewer (rest_of e.children) 0)

    module _ (first : Evaluated) (f : ArgumentsContract table config starts ends (at + 2) (ltb 0 count) first) where
      pub first_is : FirstMeant table config starts ends (at + 2) e.children the_call.terms first
      first_is = f.meant ρ e.children the_call.terms the_call.have first_wanted

      pub behind_first : HaveValues table config starts ends first.next ρ (rest_of e.children) (rest_of the_call.terms)
      behind_first = rest_behind table config starts ends (at + 2) ρ e.children the_call.terms the_call.have first first_is

      module _ (second : Evaluated) (s : ArgumentsContract table config starts ends first.next (ltb 1 count) second) where
        pub second_is : FirstMeant table config starts ends first.next (rest_of e.children) (rest_of the_call.terms) second
        second_is = s.meant ρ (rest_of e.children) (rest_of the_call.terms) behind_first second_wanted

        pub behind_second : HaveValues table config starts ends second.next ρ (rest_of (rest_of e.children)) (rest_of (rest_of the_call.terms))
        behind_second = rest_behind table config starts ends first.next ρ (rest_of e.children) (rest_of the_call.terms) behind_first second second_is

        module _ (third : Evaluated) (t : ArgumentsContract table config starts ends second.next (ltb 2 count) third) where
          pub third_is : FirstMeant table config starts ends second.next (rest_of (rest_of e.children)) (rest_of (rest_of the_call.terms)) third
          third_is = t.meant ρ (rest_of (rest_of e.children)) (rest_of (rest_of the_call.terms)) behind_second third_wanted

          pub call_ends : third.next ≡ at + length (encode (single e))
          call_ends =
              let n₁ = first_is.next in
              let n₂ = second_is.next in
              let n₃ = third_is.next in
              let a = arity_few the_call.code in
              let b = the_call.many ∙ sym (arity_is the_call.code) in
              let l = three_long e.children (omega arith) in
              let j = the_call.long in
              omega arith
