-- Why no rule applies, over checked words: the obstacles of all rules, and their words.
use Rattle.std.specs.Prelude.{◌≡◌, List, [], ◌∷◌, ℕ, ◌^◌, ◌≤◌, ◌<◌, ℤ, pos, length, get_or, Option, Some, None}
use Rattle.std.proofs.Math.Option as mathlib
use Rattle.minuska.specs.Term.{Term}
use Rattle.minuska.specs.Obstacle.{Reason}
use Rattle.minuska.specs.Rule.{Rule, Table, IsTable, IsConfiguration}
use Rattle.minuska.specs.Slice.{write}
use Rattle.minuska.specs.Computed.Reasons.{reason}
use Rattle.minuska.specs.Computed.Step.{earliest}
use Rattle.step.specs.declared.rule.Obstacle.{Obstacle}
use Rattle.step.specs.declared.rule.Obstacle.TheVariants.{Left, Condition}
use Rattle.step.specs.Apply.{Candidate}
use Rattle.step.specs.Verdict.{obstacle_of}

-- the earliest rule that applies
abbrev pub found_as : mathlib.Option (ℕ × Term) → Option ℕ
found_as mathlib.none = None
found_as (mathlib.some nh) = Some nh.0

-- a list with room for every rule's obstacle, each that the left's first node disagrees
pub record Fresh (obstacles : List Obstacle) : Type 0 where
  pub room : 256 ≤ length obstacles
  pub each : (n : ℕ) → n < 256 → get_or obstacles n (Left 0) ≡ Left 0

-- the earliest rule; and where none applies, each rule's obstacle
pub record JudgeAllIs (ws cs : List ℤ) (obstacles' : List Obstacle) (r : Option ℕ) : Type 0 where
  pub room : 256 ≤ length obstacles'
  pub answer : (t : Table) (g : Term) → IsTable ws t → IsConfiguration cs g → r ≡ found_as (earliest t g)
  pub leaves : r ≡ None → (n : ℕ) (rule : Rule) (g : Term) (o : Reason) → Candidate ws cs n rule g → reason rule g ≡ mathlib.some o → get_or obstacles' n (Left 0) ≡ obstacle_of o

-- an obstacle's number is small enough for a word
abbrev pub IsSmall : Obstacle → Type 0
IsSmall (Left k) = k < 2 ^ 32
IsSmall (Condition k) = k < 2 ^ 32

-- two words for each obstacle: which kind it is, and its place or its number
abbrev pub obstacle_words : List Obstacle → List ℤ
obstacle_words [] = []
obstacle_words (Left k ∷ os) = pos 0 ∷ pos k ∷ obstacle_words os
obstacle_words (Condition k ∷ os) = pos 1 ∷ pos k ∷ obstacle_words os

-- their words, written from the start of the list; the words behind keep
pub record PutAllIs (obstacles : List Obstacle) (list list' : List ℤ) : Type 0 where
  pub is : list' ≡ write (obstacle_words obstacles) list
