-- The returns of the routine that answers an input.
use mathlib.Core.Path.{◌≡◌, refl, sym, ap, ◌∙◌, subst⁻¹}
use mathlib.Core.Bool.{◌&&◌}
use mathlib.Core.List.{List, []}
use Prim.Native.Nat.{ℕ, ◌≤◌}
use native.Mathlib.Omega.{arith}
use lib.IntN.{ℤ}
use lib.Dec.{leb, leb→le}
use lib.ListN.{length, take, drop}
use lib.Seq.{take_all, take-append_seam}
use Rattle.std.specs.Prelude.{Option, None, Some, option_map, unwrap_or, MatchOption, Result, Ok, Err, ⊤}
use Rattle.minuska.specs.declared.Refusal.{Refusal}
use Rattle.minuska.specs.declared.Refusal.TheVariants.{Unreadable}
use Rattle.minuska.specs.Slice.{write}
use Rattle.minuska.specs.Computed.Outcome.{replay_outcome}
use Rattle.minuska.proofs.Tests.{and_right}
use Rattle.decimal.specs.declared.print.Text.{Text}
use Rattle.decimal.specs.Computed.Put.{Puts}
use Rattle.decimal.specs.Computed.Line.{Items, word_of, items, log_items, accepted, limit_in, ReadInto}
use Rattle.decimal.proofs.LineLaw.{kept_some}
use Rattle.decimal.proofs.PrintTurn.{puts_none, puts_then}
use Rattle.cli.specs.declared.lines.Lines.{Lines}
use Rattle.cli.specs.Output.{answered, answer_text, refused_text}
use Rattle.cli.specs.Computed.Lines.{lines_of, texts, request_of, request_in}
use Rattle.cli.specs.Computed.Answer.{Answers, Unread}
use Rattle.cli.proofs.AnswerTurn.{write_fits}

-- ---- what was read into a slice
pub record Took {A : Type 0} (i : Items A) (room : ℕ) (out : List A) (n : ℕ) : Type 0 where
  pub is : accepted room i ≡ Some (take n out)
  pub within : n ≤ length out

counted_read : {A : Type 0} (o : Option (List A)) (n : ℕ) → Some n ≡ option_map length o → (xs : List A) × (o ≡ Some xs) × (n ≡ length xs)
counted_read None n e = let z : ◌≡◌ {A = ℕ} 0 1 = cc in absurd (omega arith)
counted_read (Some xs) n e = let f : n ≡ length xs = cc in (xs, refl, f)

counted_none : {A : Type 0} (o : Option (List A)) → None ≡ option_map length o → o ≡ None
counted_none None e = refl
counted_none (Some xs) e = let z : ◌≡◌ {A = ℕ} 0 1 = cc in absurd (omega arith)

module _ {A : Type 0} {i : Items A} {old out : List A} {r : Option ℕ} (k : ReadInto i old out r) where
  pub took : {n : ℕ} → r ≡ Some n → length out ≡ length old → Took i (length old) out n
  unfolding accepted
  took {n} e s =
      let (xs, q, m) = counted_read (accepted (length old) i) n (sym e ∙ k.answer) in
      let (t, l) = kept_some (i.whole && leb (length i.read) (length old)) i.read xs q in
      let few : length i.read ≤ length old = leb→le (length i.read) (length old) (and_right i.whole (leb (length i.read) (length old)) t) in
      let left : out ≡ write i.read old = k.leaves ∙ ap (λ (ys : List A). write ys old) (take_all (length old) i.read few) in
      let count : n ≡ length i.read = m ∙ ap length (sym l) in
      let whole : take n out ≡ i.read = ap (λ (j : ℕ). take j out) count ∙ (ap (take (length i.read)) left ∙ take-append_seam i.read (drop (length i.read) old)) in
      record { is = q ∙ ap Some (sym (whole ∙ l)); within = subst⁻¹ (λ (j : ℕ). j ≤ length out) count (write_fits i.read old out left s) }

  pub not_took : r ≡ None → accepted (length old) i ≡ None
  not_took e = counted_none (accepted (length old) i) (sym e ∙ k.answer)

-- ---- the four lines
-- an input that is no request, with nothing put
pub unread : {input : List ℕ} {text : Text} → request_in input ≡ None → Unread input text text
unread {input} {text} e = record { no_request = e; puts = puts_none text }

module _ (input : List ℕ) {r : Option Lines} (is : option_map texts r ≡ lines_of input) where
  pub no_lines : r ≡ None → request_in input ≡ None
  unfolding request_in
  no_lines e = rw (← is, e)

  module _ {lines : Lines} (e : r ≡ Some lines) where
    cut : request_in input ≡ request_of (texts lines)
    unfolding request_in
    cut = rw (← is, e)

    pub no_table : accepted 2048 (items word_of lines.table.now) ≡ None → request_in input ≡ None
    unfolding request_of
    no_table f = cut ∙ rw f

    module _ {table : List ℤ} (f : accepted 2048 (items word_of lines.table.now) ≡ Some table) where
      pub no_configuration : accepted 1024 (items word_of lines.configuration.now) ≡ None → request_in input ≡ None
      unfolding request_of
      no_configuration g = cut ∙ rw (f, g)

      module _ {configuration : List ℤ} (g : accepted 1024 (items word_of lines.configuration.now) ≡ Some configuration) where
        pub no_log : accepted 256 (log_items lines.log.now) ≡ None → request_in input ≡ None
        unfolding request_of
        no_log h = cut ∙ rw (f, g, h)

        module _ {log : List ℕ} (h : accepted 256 (log_items lines.log.now) ≡ Some log) where
          pub no_limit : limit_in lines.limit.now ≡ None → request_in input ≡ None
          unfolding request_of
          no_limit i = cut ∙ rw (f, g, h, i)

          pub all_read : {limit : ℕ} → limit_in lines.limit.now ≡ Some limit → answered (request_in input) ≡ replay_outcome table configuration log limit 1024 256 4096
          unfolding request_of answered
          all_read i = ap answered cut ∙ rw (f, g, h, i)

-- ---- an input that is refused, or no request
module _ (input : List ℕ) (a b c : Text) (o : Option (Result ⊤ Refusal)) (k : MatchOption o (Unread input a b) (Answers a (answered (request_in input)) b)) where
  by_answer : (o : Option (Result ⊤ Refusal)) → MatchOption o (Unread input a b) (Answers a (answered (request_in input)) b) → (why : Refusal) → unwrap_or o (Err Unreadable) ≡ Err why
      → Puts a [] b × (answer_text (answered (request_in input)) ≡ refused_text why)
  unfolding answered answer_text
  by_answer None h why e = let f : Unreadable ≡ why = cc in (h.puts, ap (λ q. answer_text (answered q)) h.no_request ∙ ap refused_text f)
  by_answer (Some (Ok u)) h why e = let z : ◌≡◌ {A = ℕ} 0 1 = cc in absurd (omega arith)
  by_answer (Some (Err r)) h why e = let f : r ≡ why = cc in (h.0, h.1 ∙ ap refused_text f)

  pub puts_refusal : (why : Refusal) → unwrap_or o (Err Unreadable) ≡ Err why → Puts b (refused_text why) c → a.at ≤ length a.output.now → Puts a (answer_text (answered (request_in input))) c
  puts_refusal why e p room =
      let h = by_answer o k why e in
      rw h.1 (puts_then a [] b (refused_text why) c h.0 p (omega (arith, h.0.same_length, h.0.wrote.end)))
