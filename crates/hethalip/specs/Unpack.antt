-- How a caller reads the number: the kind in the low byte, then the values. `proofs/UnpackLaw`: it is the answer that was packed.
use Rattle.std.specs.Prelude.{◌≡◌, cond, List, [], ◌∷◌, ℕ, ◌<◌, ◌/◌, ◌%◌, ◌^◌, eqb, Option, Some, None, Result, Ok, Err}
use Rattle.minuska.specs.declared.Refusal.{Refusal}
use Rattle.minuska.specs.declared.Stepped.{Stepped}
use Rattle.minuska.specs.declared.Refusal.TheVariants.{Unreadable}
use Rattle.minuska.specs.Answer.{number, refusals}
use Rattle.minuska.specs.declared.MatchAnswer.{MatchAnswer}
use Rattle.minuska.specs.declared.MatchAnswer.TheVariants as M
use Rattle.minuska.specs.declared.RunAnswer.{RunAnswer}
use Rattle.minuska.specs.declared.RunAnswer.TheVariants as R
use Rattle.minuska.specs.declared.ReplayAnswer.{ReplayAnswer}
use Rattle.minuska.specs.declared.ReplayAnswer.TheVariants as P

abbrev pub kind : ℕ → ℕ
kind r = r % 2 ^ 8

-- the refusal of a number
abbrev pub numbered : ℕ → List Refusal → Refusal
numbered n [] = Unreadable
numbered n (r ∷ rs) = cond (eqb (number r) n) r (numbered n rs)

abbrev pub refusal_of : ℕ → Refusal
refusal_of n = numbered n refusals

unfoldable pub unpack_check : ℕ → Result (Unit {0}) Refusal
unpack_check r = cond (eqb (kind r) 0) (Ok tt) (Err (refusal_of (kind r)))

unfoldable pub unpack_match : ℕ → Result MatchAnswer Refusal
unpack_match r =
    cond (eqb (kind r) 22) (Ok (M.Matches (r / 2 ^ 8))) (cond (eqb (kind r) 23) (Ok (M.Differs (r / 2 ^ 8))) (Err (refusal_of (kind r))))

unfoldable pub unpack_reasons : ℕ → Result (Option ℕ) Refusal
unpack_reasons r =
    cond (eqb (kind r) 24) (Ok None) (cond (eqb (kind r) 25) (Ok (Some (r / 2 ^ 8))) (Err (refusal_of (kind r))))

unfoldable pub unpack_step : ℕ → Result (Option Stepped) Refusal
unpack_step r =
    cond (eqb (kind r) 17) (Ok (Some (record { rule = r / 2 ^ 8 % 2 ^ 8; action = r / 2 ^ 16 % 2 ^ 16; nodes = r / 2 ^ 32 }))) (cond (eqb (kind r) 16) (Ok None) (Err (refusal_of (kind r))))

unfoldable pub unpack_run : ℕ → Result RunAnswer Refusal
unpack_run r =
    cond (eqb (kind r) 18) (Ok (R.Stuck (r / 2 ^ 8)))
    (cond (eqb (kind r) 19) (Ok (R.Spent (r / 2 ^ 8))) (cond (eqb (kind r) 6) (Ok (R.Over (r / 2 ^ 8))) (Err (refusal_of (kind r)))))

unfoldable pub unpack_replay : ℕ → Result ReplayAnswer Refusal
unpack_replay r = cond (eqb (kind r) 20) (Ok P.Reproduced) (cond (eqb (kind r) 21) (Ok P.NotReproduced) (Err (refusal_of (kind r))))

-- No digit is lost: the number of an answer in range is below 2 ^ 64, and reads back as that answer, so no other has it.
pub record Lossless {A : Type 0} (pack : A → ℕ) (unpack : ℕ → A) (InRange : A → Type 0) : Type 0 where
  pub fits : (a : A) → InRange a → pack a < 2 ^ 64
  pub reads : (a : A) → InRange a → unpack (pack a) ≡ a
  pub injective : (a b : A) → InRange a → InRange b → pack a ≡ pack b → a ≡ b
