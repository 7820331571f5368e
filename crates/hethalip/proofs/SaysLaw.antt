-- THE ONE PACKING of the code is the number of each routine's answer, which goes by what that answer says.
use mathlib.Core.Path.{◌≡◌, refl}
use Prim.Native.Nat.{ℕ}
use Rattle.std.specs.Prelude.{Option, Some, None, Result, Ok, Err}
use Rattle.minuska.specs.declared.Refusal.{Refusal}
use Rattle.minuska.specs.declared.Stepped.{Stepped}
use Rattle.minuska.specs.declared.MatchAnswer.{MatchAnswer}
use Rattle.minuska.specs.declared.RunAnswer.{RunAnswer}
use Rattle.minuska.specs.declared.ReplayAnswer.{ReplayAnswer}
use Rattle.minuska.specs.Answer.{number}
use Rattle.minuska.specs.Slice.{Said, check_says, match_says, reasons_says, step_says, run_says, replay_says}
use Rattle.hethalip.specs.Pack.{pack, pack_by, good_number, match_number, reasons_number, step_number, run_number, replay_number, pack_check, pack_match, pack_reasons, pack_step, pack_run, pack_replay}

-- where the number that a routine says of a refusal is the refusal's
packed_by : {A : Type 0} (of : A → ℕ) (says : Result A Refusal → Said) → ((why : Refusal) → number why ≡ (says (Err why)).number) → (a : Result A Refusal) → pack of a ≡ pack_by of says a
packed_by of says h (Ok answer) = refl
packed_by of says h (Err why) = h why

pub check_packed : (a : Result (Unit {0}) Refusal) → pack good_number a ≡ pack_check a
unfolding pack_check check_says
check_packed (Ok tt) = refl
check_packed (Err why) = refl

pub match_packed : (a : Result MatchAnswer Refusal) → pack match_number a ≡ pack_match a
unfolding pack_match match_says
match_packed = packed_by match_number match_says (λ why. refl)

pub reasons_packed : (a : Result (Option ℕ) Refusal) → pack reasons_number a ≡ pack_reasons a
unfolding pack_reasons reasons_says
reasons_packed = packed_by reasons_number reasons_says (λ why. refl)

pub step_packed : (a : Result (Option Stepped) Refusal) → pack step_number a ≡ pack_step a
unfolding pack_step step_says
step_packed = packed_by step_number step_says (λ why. refl)

pub run_packed : (a : Result RunAnswer Refusal) → pack run_number a ≡ pack_run a
unfolding pack_run run_says
run_packed = packed_by run_number run_says (λ why. refl)

pub replay_packed : (a : Result ReplayAnswer Refusal) → pack replay_number a ≡ pack_replay a
unfolding pack_replay replay_says
replay_packed = packed_by replay_number replay_says (λ why. refl)
