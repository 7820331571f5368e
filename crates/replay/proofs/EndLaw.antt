-- Before and after the search: what the slices hold once the initial configuration is entered, and once the answer is written.
use mathlib.Core.Path.{◌≡◌, refl, ap, ap₂, sym, ◌∙◌, subst, subst⁻¹}
use mathlib.Core.Bool.{false}
use mathlib.Core.Logic.{inl, inr}
use mathlib.Core.List.{List, [], ◌∷◌, ◌++◌, append_assoc}
use Prim.Native.Nat.{ℕ, ◌+◌, ◌-◌, ◌/◌, ◌≤◌, ◌<◌}
use native.Mathlib.Omega.{arith}
use lib.IntN.{ℤ}
use lib.ListN.{length, take, drop, length-drop, take-append-drop}
use lib.Seq.{paste, length-paste, length-take-le, take-length, take_at, drop_at, drop-append-le, drop-drop}
use Rattle.minuska.specs.Term.{Term, single, node_count}
use Rattle.minuska.specs.Word.{encode}
use Rattle.minuska.specs.Rule.{Table}
use Rattle.minuska.specs.Answer.{gives, ReplayResult, reproduced}
use Rattle.minuska.specs.Slice.{out_limit, replay_out, replay_choices, write, write_zeros}
use Rattle.minuska.specs.Computed.Step.{next, order}
use Rattle.minuska.specs.Computed.Replay.{replay}
use Rattle.minuska.specs.Bridge.Place.{Accepted}
use Rattle.std.specs.Prelude.{Option, Some, None, Result, Ok, Err}
use Rattle.minuska.specs.declared.Refusal.{Refusal}
use Rattle.minuska.proofs.Bridge.AcceptedLaw.{configuration_length}
use Rattle.minuska.proofs.ShutLaw.{replay_is, replay_out_reproduced, replay_out_exceeded, replay_out_not, replay_choices_reproduced, replay_choices_exceeded, replay_choices_not}
use Rattle.replay.specs.Reading.{table_of, term_of}
use Rattle.words.proofs.PartLaw.{drop_later}
use Rattle.words.proofs.CopyLaw.{paste_start, same_zeros}
use Rattle.memory.specs.Layout.{base, frame_at, length_of, entered, Enters, OwnFits}
use Rattle.replay.specs.Counted.{counted_answer}
use Rattle.replay.specs.Stack.{chosen}
use Rattle.replay.specs.Turns.{term_at, position_at, SoundFrames, Held, MemoryOf, state_of, SlicesFit, SearchSays, SearchContract}
use Rattle.replay.specs.Endings.{SetsUp, restored, concluded_as, found_words, choices_after, EndContract, AcceptedContract}
use Rattle.replay.proofs.ReadingLaw.{is_term}
use Rattle.replay.proofs.StackLaw as Stack
use Rattle.replay.proofs.StackLaw.{chosen_long}
use Rattle.replay.proofs.RecallLaw.{recalls_start}
use Rattle.memory.proofs.LayoutLaw.{frame_before, frame_long, empty_spare, enters, entered_long, with_long, with_behind, forgets_all}
use Rattle.replay.proofs.FrameLaw.{in_top, in_position, entered_held, in_sound}

-- reproduced: the last configuration's words in out
written : (out cs : List ℤ) (ns : List ℕ) (g : Term) → encode (single g) ≡ cs → replay_out (gives (reproduced ns g)) out ≡ cs ++ drop (length cs) out
written out cs ns g e = replay_out_reproduced out ns g ∙ ap (λ (c : List ℤ). write c out) e

-- two words a node
half_nodes : (cs : List ℤ) → Accepted cs → length cs / 2 ≡ node_count (term_of cs)
half_nodes cs acc = omega (arith, configuration_length cs (term_of cs) (is_term cs acc))

-- ---- the empty log
empty : (l : List ℕ) → length l ≡ 0 → l ≡ []
empty [] h = refl
empty (a ∷ l) h = absurd (let f : ⊥ = omega arith in f)

replay_empty : (t : Table) (limit : ℕ) (log : List ℕ) (g : Term) → length log ≡ 0 → replay t limit log g ≡ reproduced [] g
replay_empty t limit log g h = ap (λ (l : List ℕ). replay t limit l g) (empty log h) ∙ replay_is t limit [] g

pub answer_empty : (ws cs : List ℤ) (log : List ℕ) (room : ℕ) (out : List ℤ) (choices : List ℕ) (work out' work' : List ℤ) → Accepted cs → length log ≡ 0
    → out' ≡ paste out 0 cs (length cs) → work' ≡ write_zeros (base room (length log) + (room + 2)) work → AcceptedContract ws cs log room out choices work out' choices work' (Ok (Some (length cs / 2)))
unfolding counted_answer
answer_empty ws cs log room out choices work out' work' acc h ho hw =
    let e = replay_empty (table_of ws) (out_limit room) log (term_of cs) h in
    record {
      answer = rw e (ap (λ (k : ℕ). Ok (Some k)) (half_nodes cs acc));
      leaves = rw e (ho ∙ paste_start out cs ∙ sym (written out cs [] (term_of cs) (is_term cs acc).words));
      leaves_choices_lem = rw e (sym (replay_choices_reproduced choices [] (term_of cs)));
      leaves_work_lem = hw;
    }

-- out gets back what was kept for it
back : (room k at : ℕ) (out out' work' r : List ℤ) → k ≤ room → room ≤ length out → drop at work' ≡ take room out ++ r → drop room out' ≡ drop room out → restored room k at out' work' ≡ take k out' ++ drop k out
back room k at out out' work' r h q e f =
    let z : length (take room out) ≡ room = length-take-le room out q in
    let y : length (drop k (take room out)) ≡ room - k = length-drop k (take room out) ∙ ap (λ (m : ℕ). m - k) z in
    ap₂ (λ (a b : List ℤ). take k out' ++ (take (room - k) a ++ b)) (sym (drop-drop k at work') ∙ ap (drop k) e ∙ drop-append-le k (take room out) r (omega arith)) f
    ∙ ap (λ (a : List ℤ). take k out' ++ (a ++ drop room out)) (take_at (drop k (take room out)) r (room - k) y)
    ∙ ap (λ (a : List ℤ). take k out' ++ a) (sym (drop-append-le k (take room out) (drop room out) (omega arith)) ∙ ap (drop k) (take-append-drop room out))

-- ---- the initial configuration is entered
module _ (ws : List ℤ) (rules room : ℕ) (cs : List ℤ) (log : List ℕ) (out work : List ℤ) (rules_are : rules ≡ length (order (table_of ws))) (rm : SlicesFit room log out work) (small : length cs ≤ room) (some : 0 < length log) (acc : Accepted cs) where
  abbrev t : Table
  t = table_of ws

  abbrev last : ℕ
  last = base room (length log)

  kept_long : length (take room out) ≡ room
  kept_long = length-take-le room out rm.out_fits

  module _ (opened : List ℤ) (up : SetsUp room (length log) cs out work opened) where
    abbrev work₁ : List ℤ
    work₁ = up.cleared

    abbrev frame : List ℤ
    frame = frame_at room work₁ 0

    pasted_long : length (paste work last (take room out) room) ≡ length work
    pasted_long = length-paste work last (take room out) room (omega (arith, rm.work_fits)) (omega (arith, kept_long))

    long₁ : length work₁ ≡ length work
    long₁ = up.forgets.wide ∙ pasted_long

    one_frame : base room 0 + (room + 2) ≤ last
    one_frame = frame_before room 0 (length log) some

    fits₁ : base room 0 + (room + 2) ≤ length work₁
    fits₁ = omega (arith, one_frame, long₁, rm.work_fits)

    frame_small : length cs + 2 ≤ length frame
    frame_small = omega (arith, frame_long room work₁ 0 fits₁)

    ent : Enters frame (entered frame cs) cs
    ent = enters frame cs frame_small

    wide₁ : length (entered frame cs) ≡ room + 2
    wide₁ = entered_long frame cs frame_small ∙ frame_long room work₁ 0 fits₁

    opened_long : length opened ≡ length work
    opened_long = ap length up.is ∙ with_long room work₁ 0 (entered frame cs) fits₁ wide₁ ∙ long₁

    none_in : (i : ℕ) → i < length log → length_of (frame_at room work₁ i) ≡ 0
    none_in i h =
        forgets_all room (length log) (paste work last (take room out) room) work₁ up.forgets (omega (arith, rm.work_fits, pasted_long)) i h

    own_empty : (i : ℕ) → i < length log → OwnFits (frame_at room work₁ i)
    own_empty i h =
        let w = frame_long room work₁ i (omega (arith, frame_before room i (length log) h, rm.work_fits, long₁)) in
        empty_spare (frame_at room work₁ i) (omega arith) (none_in i h)

    pub opened_sound : SoundFrames rules room (length log) opened 0
    opened_sound =
        subst⁻¹ (λ (w : List ℤ). SoundFrames rules room (length log) w 0) up.is
        (in_sound rules room (length log) work₁ 0 (entered frame cs) cs fits₁ small ent acc (λ i h. absurd (let f : ⊥ = omega arith in f)) (λ i h. absurd (let f : ⊥ = omega arith in f)) (λ i h n. own_empty i h))

    opened_position : position_at room opened 0 ≡ 0
    opened_position = ap (λ (w : List ℤ). position_at room w 0) up.is ∙ in_position rules room (length log) work₁ 0 (entered frame cs) cs fits₁ small ent

    opened_term : term_at room opened 0 ≡ term_of cs
    opened_term = ap (λ (w : List ℤ). term_at room w 0) up.is ∙ in_top rules room (length log) work₁ 0 (entered frame cs) cs fits₁ small ent

    pub opened_memory : MemoryOf t room log opened false 0
    opened_memory =
        recalls_start node_count (out_limit room) (next t) (order t) log (Held room (length log) opened 0) (term_at room opened) (position_at room opened)
        (λ i u h. none_held i u h) opened_position false
      where
        before : (i : ℕ) (u : Term) → 0 < i → Held room (length log) opened 0 i u → Held room (length log) work₁ 0 i u
        before i u l h =
            entered_held rules room (length log) work₁ 0 (entered frame cs) cs fits₁ small ent 0 i u (omega arith) (λ e. let f : ⊥ = omega arith in f)
            (subst (λ (w : List ℤ). Held room (length log) w 0 i u) up.is h)

        none_there : (i : ℕ) (u : Term) → Held room (length log) work₁ 0 i u → ⊥
        none_there i u (inl h) = let e = none_in i h.1 in let k = h.2 in omega arith
        none_there i u (inr h) = let e = none_in i h.2 in let k = h.3.some in omega arith

        none_held : (i : ℕ) (u : Term) → Held room (length log) opened 0 i u → ⊥
        none_held i u (inl h) = none_there i u (before i u h.0 (inl h))
        none_held i u (inr h) = none_there i u (before i u h.1 (inr h))

    opened_state : state_of t room log opened false 0 ≡ replay t (out_limit room) log (term_of cs)
    unfolding state_of
    opened_state =
        Stack.start node_count (out_limit room) (next t) (order t) log (term_at room opened) (position_at room opened) (term_of cs) some
        opened_term opened_position
        ∙ sym (replay_is t (out_limit room) log (term_of cs))

    saved : drop last opened ≡ take room out ++ drop (last + room) work
    saved =
        ap (drop last) up.is
        ∙ with_behind room work₁ 0 (entered frame cs) fits₁ wide₁ last one_frame
        ∙ up.forgets.behind
        ∙ ap (drop last) (append_assoc (take last work) (take room (take room out)) (drop (last + room) work))
        ∙ drop_at (take last work) (take room (take room out) ++ drop (last + room) work) last (length-take-le last work (omega (arith, rm.work_fits)))
        ∙ ap (λ (a : List ℤ). a ++ drop (last + room) work) (ap (λ (m : ℕ). take m (take room out)) (sym kept_long) ∙ take-length (take room out))

    -- ---- the search has ended
    module _ (f : Result (Option ℕ) Refusal) (out' work' : List ℤ) (found : SearchContract ws rules room log out opened out' work' f) where
      saved' : drop last work' ≡ take room out ++ drop (last + room) work
      saved' = found.kept.work_kept ∙ saved

      end_fits : SlicesFit room log out' work'
      end_fits = record { out_fits = omega (arith, rm.out_fits, found.kept.wide); work_fits = omega (arith, rm.work_fits, opened_long, found.kept.long) }

      work_same : write_zeros (last + (room + 2)) work' ≡ write_zeros (last + (room + 2)) work
      work_same =
          let q : drop (last + room) work' ≡ drop (last + room) work = sym (drop-drop room last work') ∙ ap (drop room) saved' ∙ drop_at (take room out) (drop (last + room) work) room kept_long in
          same_zeros (last + (room + 2)) work work' (drop_later (last + room) (last + (room + 2)) work' work q (omega arith))

      restored_is : (k : ℕ) → k ≤ room → restored room k last out' work' ≡ take k out' ++ drop k out
      restored_is k q = back room k last out out' work' (drop (last + room) work) q rm.out_fits saved' found.kept.out_kept

      module _ (choices : List ℕ) where
        pub record Concludes (x : Result (Option ℕ) Refusal) (y : ReplayResult Term) : Type 0 where
          pub answer : concluded_as x ≡ counted_answer (gives y)
          pub leaves : restored room (found_words x) last out' work' ≡ replay_out (gives y) out
          pub leaves_choices_lem : choices_after x (order t) (length log) room work' choices ≡ replay_choices (gives y) choices

        ends : (x : Result (Option ℕ) Refusal) → SearchSays t rules room log opened out' work' x → Concludes x (state_of t room log opened false 0)
        unfolding counted_answer
        ends (Ok (Some k)) s =
            let z : length (take k out') ≡ k = length-take-le k out' (omega (arith, s.0.fits, end_fits.out_fits)) in
            let ns : List ℕ = chosen (order t) (position_at room work') (length log) in
            subst⁻¹ (Concludes (Ok (Some k))) s.1 (record {
              answer = ap (λ (m : ℕ). Ok (Some m)) (ap (λ (m : ℕ). m / 2) (sym z) ∙ half_nodes (take k out') s.0.accepted);
              leaves = restored_is k s.0.fits ∙ ap (λ (m : ℕ). take k out' ++ drop m out) (sym z) ∙ sym (written out (take k out') ns (term_of (take k out')) (is_term (take k out') s.0.accepted).words);
              leaves_choices_lem = ap (λ (m : ℕ). ns ++ drop m choices) (sym (chosen_long (order t) (position_at room work') (length log))) ∙ sym (replay_choices_reproduced choices ns (term_of (take k out')));
            })
        ends (Err r) s = subst⁻¹ (Concludes (Err r)) s.1 (record { answer = ap Err s.0; leaves = restored_is 0 (omega arith) ∙ sym (replay_out_exceeded out); leaves_choices_lem = sym (replay_choices_exceeded choices) })
        ends (Ok None) s = subst⁻¹ (Concludes (Ok None)) s (record { answer = refl; leaves = restored_is 0 (omega arith) ∙ sym (replay_out_not out); leaves_choices_lem = sym (replay_choices_not choices) })

        pub answered : (out'' : List ℤ) (choices'' : List ℕ) (work'' : List ℤ) (r : Result (Option ℕ) Refusal) → EndContract ws f (length log) room out' choices work' out'' choices'' work'' r → AcceptedContract ws cs log room out choices work out'' choices'' work'' r
        answered out'' choices'' work'' r e =
            let z : Concludes f (replay t (out_limit room) log (term_of cs)) = subst (Concludes f) opened_state (ends f found.says) in
            record { answer = e.answer ∙ z.answer; leaves = e.leaves ∙ z.leaves; leaves_choices_lem = e.leaves_choices_lem ∙ z.leaves_choices_lem; leaves_work_lem = e.leaves_work_lem ∙ work_same }
