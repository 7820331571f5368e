-- A replay's answer with the node count of the last configuration: what crates above the replay go by.
use Rattle.std.specs.Prelude.{◌≡◌, List, ℕ, ℤ, Option, Some, None, Result, Ok, Err}
use Rattle.minuska.specs.declared.Refusal.{Refusal}
use Rattle.minuska.specs.declared.Refusal.TheVariants.{OverLimit}
use Rattle.minuska.specs.declared.ReplayAnswer.{ReplayAnswer}
use Rattle.minuska.specs.declared.ReplayAnswer.TheVariants.{Reproduced, NotReproduced}
use Rattle.minuska.specs.Term.{Term, node_count}
use Rattle.minuska.specs.Answer.{Outcome, refused, gives, ReplayResult, reproduced, exceeded, not_reproduced}
use Rattle.minuska.specs.Contract.{ReplayContract}

unfoldable pub counted_answer : Outcome (ReplayResult Term) → Result (Option ℕ) Refusal
counted_answer (refused r) = Err r
counted_answer (gives (reproduced ns h)) = Ok (Some (node_count h))
counted_answer (gives exceeded) = Err OverLimit
counted_answer (gives not_reproduced) = Ok None

-- the public answer
abbrev pub uncounted : Result (Option ℕ) Refusal → Result ReplayAnswer Refusal
uncounted (Ok (Some k)) = Ok Reproduced
uncounted (Ok None) = Ok NotReproduced
uncounted (Err r) = Err r

-- the public contract, and the count
pub record CountedContract (table config : List ℤ) (log : List ℕ) (limit : ℕ) (out : List ℤ) (choices : List ℕ) (work : List ℤ) (out' : List ℤ) (choices' : List ℕ) (work' : List ℤ) (r : Result (Option ℕ) Refusal) : Type 0 where
  pub replays : ReplayContract table config log limit out choices work out' choices' work' (uncounted r)
  pub counts : r ≡ counted_answer replays.outcome
