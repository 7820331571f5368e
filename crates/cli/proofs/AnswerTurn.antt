-- The returns of the routine that answers a request.
use mathlib.Core.Path.{◌≡◌, refl, sym, ap, ◌∙◌, subst, subst⁻¹}
use mathlib.Core.List.{List}
use Prim.Native.Nat.{ℕ, ◌+◌, ◌-◌, ◌*◌, ◌≤◌}
use native.Mathlib.Omega.{arith}
use lib.IntN.{ℤ}
use Rattle.std.specs.Prelude.{Option, None, Some, Result, Ok, Err}
use lib.ListN.{length, take, drop, length-append, length-drop}
use lib.Seq.{take-append_seam, take_at}
use Rattle.minuska.specs.Term.{Term, single, node_count}
use Rattle.minuska.specs.Word.{encode}
use Rattle.minuska.specs.declared.Refusal.{Refusal}
use Rattle.minuska.specs.declared.Refusal.TheVariants.{OverLimit}
use Rattle.minuska.specs.Answer.{Outcome, refused, gives, ReplayResult, reproduced, exceeded, not_reproduced}
use Rattle.minuska.specs.Slice.{write, replay_out, replay_choices}
use Rattle.minuska.specs.Computed.Outcome.{replay_outcome}
use Rattle.minuska.proofs.Bridge.AcceptedLaw.{term_length}
use Rattle.replay.specs.Counted.{counted_answer, uncounted, CountedContract}
use Rattle.cli.proofs.CallerLaw.{choices_length}
use Rattle.cli.specs.Output.{answer_text, reproduced_text, refused_text, not_reproduced_text}

-- ---- what an outcome's answer tells
not_reproduced_is : (o : Outcome (ReplayResult Term)) → Ok None ≡ counted_answer o → answer_text o ≡ not_reproduced_text
unfolding counted_answer answer_text
not_reproduced_is (refused r) e = let z : ◌≡◌ {A = ℕ} 0 1 = cc in absurd (omega arith)
not_reproduced_is (gives (reproduced ns h)) e = let z : ◌≡◌ {A = ℕ} 0 1 = cc in absurd (omega arith)
not_reproduced_is (gives exceeded) e = let z : ◌≡◌ {A = ℕ} 0 1 = cc in absurd (omega arith)
not_reproduced_is (gives not_reproduced) e = refl

refused_is : (o : Outcome (ReplayResult Term)) (r : Refusal) → Err r ≡ counted_answer o → answer_text o ≡ refused_text r
unfolding counted_answer answer_text
refused_is (refused q) r e = let f : r ≡ q = cc in ap refused_text (sym f)
refused_is (gives (reproduced ns h)) r e = let z : ◌≡◌ {A = ℕ} 0 1 = cc in absurd (omega arith)
refused_is (gives exceeded) r e = let f : r ≡ OverLimit = cc in ap refused_text (sym f)
refused_is (gives not_reproduced) r e = let z : ◌≡◌ {A = ℕ} 0 1 = cc in absurd (omega arith)

-- the list and the configuration that were found, of so many nodes
record Reproduced (o : Outcome (ReplayResult Term)) (nodes : ℕ) : Type 0 where
  pub choices : List ℕ
  pub last : Term
  pub is : o ≡ gives (reproduced choices last)
  pub counts : nodes ≡ node_count last

found : (o : Outcome (ReplayResult Term)) (nodes : ℕ) → Ok (Some nodes) ≡ counted_answer o → Reproduced o nodes
unfolding counted_answer
found (refused r) nodes e = let z : ◌≡◌ {A = ℕ} 0 1 = cc in absurd (omega arith)
found (gives (reproduced ns h)) nodes e = let f : nodes ≡ node_count h = cc in record { choices = ns; last = h; is = refl; counts = f }
found (gives exceeded) nodes e = let z : ◌≡◌ {A = ℕ} 0 1 = cc in absurd (omega arith)
found (gives not_reproduced) nodes e = let z : ◌≡◌ {A = ℕ} 0 1 = cc in absurd (omega arith)

-- a text written over a slice that keeps its length
pub write_fits : {A : Type 0} (xs old new : List A) → new ≡ write xs old → length new ≡ length old → length xs ≤ length new
write_fits xs old new e s =
    let l : length new ≡ length xs + (length old - length xs) = ap length e ∙ (length-append xs (drop (length xs) old) ∙ ap (λ (k : ℕ). length xs + k) (length-drop (length xs) old)) in
    omega arith

-- the replay reproduced the log: what `choices` and the first words of `out` are read as, and their text
pub record Shown (ws cs : List ℤ) (log : List ℕ) (n : ℕ) (out' : List ℤ) (choices' : List ℕ) (end : ℕ) : Type 0 where
  pub choices_room : length log ≤ length choices'
  pub words_room : end ≤ length out'
  pub text : answer_text (replay_outcome ws cs log n 1024 256 4096) ≡ reproduced_text (take (length log) choices') (take end out')

module _ {ws cs : List ℤ} {log : List ℕ} {n : ℕ} {out : List ℤ} {choices : List ℕ} {work out' : List ℤ} {choices' : List ℕ} {work' : List ℤ} {r : Result (Option ℕ) Refusal}
    (k : CountedContract ws cs log n out choices work out' choices' work' r) (a : length out ≡ 1024) (b : length choices ≡ 256) (c : length work ≡ 4096) where
  outcome_is : k.replays.outcome ≡ replay_outcome ws cs log n 1024 256 4096
  outcome_is = k.replays.is ∙ rw (a, b, c)

  pub not_reproduced_answer : {o : Option ℕ} → r ≡ Ok o → o ≡ None → answer_text (replay_outcome ws cs log n 1024 256 4096) ≡ not_reproduced_text
  not_reproduced_answer was is = rw (← outcome_is, not_reproduced_is k.replays.outcome (sym (was ∙ ap Ok is) ∙ k.counts))

  pub refused_answer : (why : Refusal) → r ≡ Err why → answer_text (replay_outcome ws cs log n 1024 256 4096) ≡ refused_text why
  refused_answer why e = rw (← outcome_is, refused_is k.replays.outcome why (sym e ∙ k.counts))

  module _ {o : Option ℕ} {nodes : ℕ} (was : r ≡ Ok o) (is : o ≡ Some nodes) (s : length out' ≡ length out) (t : length choices' ≡ length choices) where
    the : Reproduced k.replays.outcome nodes
    the = found k.replays.outcome nodes (sym (was ∙ ap Ok is) ∙ k.counts)

    chosen_is : choices' ≡ write the.choices choices
    unfolding replay_choices
    chosen_is = k.replays.leaves_choices ∙ ap (λ (o : Outcome (ReplayResult Term)). replay_choices o choices) the.is

    words_are : out' ≡ write (encode (single the.last)) out
    unfolding replay_out
    words_are = k.replays.leaves ∙ ap (λ (o : Outcome (ReplayResult Term)). replay_out o out) the.is

    count : length the.choices ≡ length log
    count = choices_length ws cs log n out choices work out' choices' work' (uncounted r) k.replays the.choices the.last the.is

    abbrev found_words_lem : List ℤ
    found_words_lem = encode (single the.last)

    choices_room_lem : length log ≤ length choices'
    choices_room_lem = subst (λ (m : ℕ). m ≤ length choices') count (write_fits the.choices choices choices' chosen_is t)

    chosen : take (length log) choices' ≡ the.choices
    chosen = ap (take (length log)) chosen_is ∙ take_at the.choices (drop (length the.choices) choices) (length log) count

    end_is_lem : 2 * nodes ≡ length found_words_lem
    end_is_lem = ap (λ (m : ℕ). 2 * m) the.counts ∙ sym (term_length the.last)

    words_room_lem : 2 * nodes ≤ length out'
    words_room_lem = subst⁻¹ (λ (m : ℕ). m ≤ length out') end_is_lem (write_fits found_words_lem out out' words_are s)

    configuration : take (2 * nodes) out' ≡ found_words_lem
    configuration = ap (λ (m : ℕ). take m out') end_is_lem ∙ (ap (take (length found_words_lem)) words_are ∙ take-append_seam found_words_lem (drop (length found_words_lem) out))

    text_is : answer_text (replay_outcome ws cs log n 1024 256 4096) ≡ reproduced_text (take (length log) choices') (take (2 * nodes) out')
    unfolding answer_text
    text_is = ap answer_text (sym outcome_is ∙ the.is) ∙ (ap (λ (l : List ℕ). reproduced_text l found_words_lem) (sym chosen) ∙ ap (reproduced_text (take (length log) choices')) (sym configuration))

    pub shown : Shown ws cs log n out' choices' (2 * nodes)
    shown = record { choices_room = choices_room_lem; words_room = words_room_lem; text = text_is }
