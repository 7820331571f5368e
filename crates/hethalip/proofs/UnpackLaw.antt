-- THE PACKING LOSES NOTHING: each number is below 2 ^ 64 and reads back as the answer.
use mathlib.Core.Path.{◌≡◌, refl, sym, ◌∙◌, ap}
use Prim.Native.Nat.{ℕ, ◌+◌, ◌*◌, ◌/◌, ◌%◌, ◌^◌, ◌≤◌, ◌<◌}
use native.Mathlib.Omega.{arith}
use Rattle.std.specs.Prelude.{Option, Some, None, Result, Ok, Err}
use Rattle.minuska.specs.declared.Refusal.{Refusal}
use Rattle.minuska.specs.declared.Stepped.{Stepped}
use Rattle.minuska.specs.declared.Refusal.TheVariants.{BadTable, BadConfiguration, TooLong, BadLimit, ShortBuffer, OverLimit, Unreadable}
use Rattle.minuska.specs.declared.MatchAnswer.{MatchAnswer}
use Rattle.minuska.specs.declared.MatchAnswer.TheVariants as M
use Rattle.minuska.specs.declared.RunAnswer.{RunAnswer}
use Rattle.minuska.specs.declared.RunAnswer.TheVariants as R
use Rattle.minuska.specs.declared.ReplayAnswer.{ReplayAnswer}
use Rattle.minuska.specs.declared.ReplayAnswer.TheVariants as P
use Rattle.minuska.specs.Answer.{number}
use Rattle.minuska.specs.Slice.{check_says, match_says, reasons_says, step_says, run_says, replay_says}
use Rattle.hethalip.specs.Pack.{pack_check, pack_match, pack_reasons, pack_step, pack_run, pack_replay}
use Rattle.hethalip.specs.Range.{CheckInRange, MatchInRange, ReasonsInRange, StepInRange, RunInRange, ReplayInRange}
use Rattle.hethalip.specs.Unpack.{Lossless, unpack_check, unpack_match, unpack_reasons, unpack_step, unpack_run, unpack_replay}

lossless : {A : Type 0} (pack : A → ℕ) (unpack : ℕ → A) (InRange : A → Type 0) → ((a : A) → InRange a → pack a < 2 ^ 64) → ((a : A) → InRange a → unpack (pack a) ≡ a) → Lossless pack unpack InRange
lossless pack unpack InRange f u =
    record { fits = f; reads = u; injective = λ a b i j e. sym (u a i) ∙ (ap unpack e ∙ u b j) }

each : (F : Refusal → Type 0) → F BadTable → F BadConfiguration → F TooLong → F BadLimit → F ShortBuffer → F OverLimit → F Unreadable → (why : Refusal) → F why
each F a b c d e f g BadTable = a
each F a b c d e f g BadConfiguration = b
each F a b c d e f g TooLong = c
each F a b c d e f g BadLimit = d
each F a b c d e f g ShortBuffer = e
each F a b c d e f g OverLimit = f
each F a b c d e f g Unreadable = g

-- a field with something above it
low : (x above : ℕ) → x < 2 ^ 8 → (x + above * 2 ^ 8) % 2 ^ 8 ≡ x
low x above h = omega arith

low_half : (x above : ℕ) → x < 2 ^ 16 → (x + above * 2 ^ 16) % 2 ^ 16 ≡ x
low_half x above h = omega arith

-- ---- the checks
check_fits : (a : Result (Unit {0}) Refusal) → CheckInRange a → pack_check a < 2 ^ 64
unfolding pack_check check_says number
check_fits (Ok tt) h = omega arith
check_fits (Err why) h = omega arith

check_reads : (a : Result (Unit {0}) Refusal) → CheckInRange a → unpack_check (pack_check a) ≡ a
unfolding pack_check check_says unpack_check number
check_reads (Ok tt) h = refl
check_reads (Err why) h = each (λ w. unpack_check (number w) ≡ Err w) refl refl refl refl refl refl refl why

pub check_lossless : Lossless pack_check unpack_check CheckInRange
check_lossless = lossless pack_check unpack_check CheckInRange check_fits check_reads

-- ---- the left of one rule
match_fits : (a : Result MatchAnswer Refusal) → MatchInRange a → pack_match a < 2 ^ 64
unfolding pack_match match_says number
match_fits (Ok (M.Matches k)) h = omega arith
match_fits (Ok (M.Differs k)) h = omega arith
match_fits (Err why) h = omega arith

match_reads : (a : Result MatchAnswer Refusal) → MatchInRange a → unpack_match (pack_match a) ≡ a
unfolding pack_match match_says unpack_match number
match_reads (Ok (M.Matches k)) h =
    let e : pack_match (Ok (M.Matches k)) % 2 ^ 8 ≡ 22 = omega arith in
    let f : pack_match (Ok (M.Matches k)) / 2 ^ 8 ≡ k = omega arith in
    rw (e, f)
match_reads (Ok (M.Differs k)) h =
    let e : pack_match (Ok (M.Differs k)) % 2 ^ 8 ≡ 23 = omega arith in
    let f : pack_match (Ok (M.Differs k)) / 2 ^ 8 ≡ k = omega arith in
    rw (e, f)
match_reads (Err why) h = each (λ w. unpack_match (number w) ≡ Err w) refl refl refl refl refl refl refl why

pub match_lossless : Lossless pack_match unpack_match MatchInRange
match_lossless = lossless pack_match unpack_match MatchInRange match_fits match_reads

-- ---- the reasons
reasons_fits : (a : Result (Option ℕ) Refusal) → ReasonsInRange a → pack_reasons a < 2 ^ 64
unfolding pack_reasons reasons_says number
reasons_fits (Ok None) h = omega arith
reasons_fits (Ok (Some rule)) h = omega arith
reasons_fits (Err why) h = omega arith

reasons_reads : (a : Result (Option ℕ) Refusal) → ReasonsInRange a → unpack_reasons (pack_reasons a) ≡ a
unfolding pack_reasons reasons_says unpack_reasons number
reasons_reads (Ok None) h = refl
reasons_reads (Ok (Some rule)) h =
    let e : pack_reasons (Ok (Some rule)) % 2 ^ 8 ≡ 25 = omega arith in
    let f : pack_reasons (Ok (Some rule)) / 2 ^ 8 ≡ rule = omega arith in
    rw (e, f)
reasons_reads (Err why) h = each (λ w. unpack_reasons (number w) ≡ Err w) refl refl refl refl refl refl refl why

pub reasons_lossless : Lossless pack_reasons unpack_reasons ReasonsInRange
reasons_lossless = lossless pack_reasons unpack_reasons ReasonsInRange reasons_fits reasons_reads

-- ---- the step, and the step by one given rule
step_fits : (a : Result (Option Stepped) Refusal) → StepInRange a → pack_step a < 2 ^ 64
unfolding pack_step step_says number
step_fits (Ok (Some s)) h = omega arith
step_fits (Ok None) h = omega arith
step_fits (Err why) h = omega arith

step_reads : (a : Result (Option Stepped) Refusal) → StepInRange a → unpack_step (pack_step a) ≡ a
unfolding pack_step step_says unpack_step number
step_reads (Ok (Some s)) h =
    let r : ℕ = pack_step (Ok (Some s)) in
    let k : r % 2 ^ 8 ≡ 17 = omega arith in
    let p : r / 2 ^ 8 ≡ s.rule + (s.action + s.nodes * 2 ^ 16) * 2 ^ 8 = omega arith in
    let n : r / 2 ^ 8 % 2 ^ 8 ≡ s.rule = ap (λ (x : ℕ). x % 2 ^ 8) p ∙ low s.rule (s.action + s.nodes * 2 ^ 16) h.0 in
    let q : r / 2 ^ 16 ≡ s.action + s.nodes * 2 ^ 16 = omega arith in
    let a : r / 2 ^ 16 % 2 ^ 16 ≡ s.action = ap (λ (x : ℕ). x % 2 ^ 16) q ∙ low_half s.action s.nodes h.1 in
    let m : r / 2 ^ 32 ≡ s.nodes = omega arith in
    rw (k, n, a, m)
step_reads (Ok None) h = refl
step_reads (Err why) h = each (λ w. unpack_step (number w) ≡ Err w) refl refl refl refl refl refl refl why

pub step_lossless : Lossless pack_step unpack_step StepInRange
step_lossless = lossless pack_step unpack_step StepInRange step_fits step_reads

-- ---- the run
run_fits : (a : Result RunAnswer Refusal) → RunInRange a → pack_run a < 2 ^ 64
unfolding pack_run run_says number
run_fits (Ok (R.Stuck k)) h = omega arith
run_fits (Ok (R.Spent k)) h = omega arith
run_fits (Ok (R.Over k)) h = omega arith
run_fits (Err why) h = omega arith

run_reads : (a : Result RunAnswer Refusal) → RunInRange a → unpack_run (pack_run a) ≡ a
unfolding pack_run unpack_run run_says number
run_reads (Ok (R.Stuck k)) h =
    let e : pack_run (Ok (R.Stuck k)) % 2 ^ 8 ≡ 18 = omega arith in
    let f : pack_run (Ok (R.Stuck k)) / 2 ^ 8 ≡ k = omega arith in
    rw (e, f)
run_reads (Ok (R.Spent k)) h =
    let e : pack_run (Ok (R.Spent k)) % 2 ^ 8 ≡ 19 = omega arith in
    let f : pack_run (Ok (R.Spent k)) / 2 ^ 8 ≡ k = omega arith in
    rw (e, f)
run_reads (Ok (R.Over k)) h =
    let e : pack_run (Ok (R.Over k)) % 2 ^ 8 ≡ 6 = omega arith in
    let f : pack_run (Ok (R.Over k)) / 2 ^ 8 ≡ k = omega arith in
    rw (e, f)
run_reads (Err why) h =
    each (λ w. number w ≤ 5 → unpack_run (number w) ≡ Err w) (λ i. refl) (λ i. refl) (λ i. refl) (λ i. refl) (λ i. refl) (λ i. absurd (let z : ⊥ = omega arith in z)) (λ i. refl) why h

pub run_lossless : Lossless pack_run unpack_run RunInRange
run_lossless = lossless pack_run unpack_run RunInRange run_fits run_reads

-- ---- the replay
replay_fits : (a : Result ReplayAnswer Refusal) → ReplayInRange a → pack_replay a < 2 ^ 64
unfolding pack_replay replay_says number
replay_fits (Ok P.Reproduced) h = omega arith
replay_fits (Ok P.NotReproduced) h = omega arith
replay_fits (Err why) h = omega arith

replay_reads : (a : Result ReplayAnswer Refusal) → ReplayInRange a → unpack_replay (pack_replay a) ≡ a
unfolding pack_replay replay_says unpack_replay number
replay_reads (Ok P.Reproduced) h = refl
replay_reads (Ok P.NotReproduced) h = refl
replay_reads (Err why) h = each (λ w. unpack_replay (number w) ≡ Err w) refl refl refl refl refl refl refl why

pub replay_lossless : Lossless pack_replay unpack_replay ReplayInRange
replay_lossless = lossless pack_replay unpack_replay ReplayInRange replay_fits replay_reads
