-- The contracts of expressions and of values over a scope: those of `Evaluate`, `Short`, `Root`, `Lookup` and `Update` at its table, its configuration and its places.
use Rattle.std.specs.Prelude.{List, Bool, ℕ, ℤ, drop, Option, IfSome}
use Rattle.value.specs.Evaluate.{ExpressionIn, EvaluateContract, CallIn, ArgumentsIn, ArgumentsContract, LeafIn, LeafContract, ConditionIn, ConditionContract}
use Rattle.value.specs.Lookup.{LookupContract}
use Rattle.value.specs.Root.{ValueIn, RootIs, NodeIn}
use Rattle.value.specs.Short.{ShortIn, ShortContract, ArgumentIn, ArgumentContract}
use Rattle.value.specs.Update.{PlanContract, PlanFits}
use Rattle.value.specs.Value.{value_words, part_words, Within}
use Rattle.value.specs.declared.Scope.{Scope}
use Rattle.value.specs.declared.Value.{Value}
use Rattle.value.specs.declared.Evaluated.{Evaluated}
use Rattle.value.specs.declared.Tested.{Tested}
use Rattle.value.specs.declared.builtin.Root.{Root}
use Rattle.value.specs.declared.update.Plan.{Plan}

module _ (s : Scope) where
  -- ---- a value: its words, the part of either slice that holds them, that this lies within its slice
  abbrev pub words_of : Value → List ℤ
  words_of v = value_words s.table.now s.configuration.now v

  abbrev pub part_of : Value → List ℤ
  part_of v = part_words s.table.now s.configuration.now v

  abbrev pub IsWithin : Value → Type 0
  IsWithin v = Within s.table.now s.configuration.now v

  abbrev pub IsValueHere : Value → Type 0
  IsValueHere v = ValueIn s.table.now s.configuration.now v

  abbrev pub IsRootOf : Value → Root → Type 0
  IsRootOf v r = RootIs s.table.now s.configuration.now v r

  abbrev pub IsNodeHere : ℕ → Type 0
  IsNodeHere at = NodeIn s.table.now s.configuration.now at

  -- ---- what stands at a place, and what is answered
  abbrev pub ExpressionHere : ℕ → Type 0
  ExpressionHere at = ExpressionIn s.table.now s.configuration.now s.places.now.starts s.places.now.ends at

  abbrev pub EvaluateIs : ℕ → Evaluated → Type 0
  EvaluateIs at r = EvaluateContract s.table.now s.configuration.now s.places.now.starts s.places.now.ends at r

  abbrev pub CallHere : ℕ → Type 0
  CallHere at = CallIn s.table.now s.configuration.now s.places.now.starts s.places.now.ends at

  abbrev pub ArgumentsHere : ℕ → Bool → Type 0
  ArgumentsHere at wanted = ArgumentsIn s.table.now s.configuration.now s.places.now.starts s.places.now.ends at wanted

  abbrev pub ArgumentsAre : ℕ → Bool → Evaluated → Type 0
  ArgumentsAre at wanted r = ArgumentsContract s.table.now s.configuration.now s.places.now.starts s.places.now.ends at wanted r

  abbrev pub LeafHere : ℕ → Type 0
  LeafHere at = LeafIn s.table.now s.places.now.starts s.places.now.ends at

  abbrev pub LeafIs : ℕ → Evaluated → Type 0
  LeafIs at r = LeafContract s.table.now s.places.now.starts s.places.now.ends at r

  abbrev pub ShortHere : ℕ → Type 0
  ShortHere at = ShortIn s.table.now s.configuration.now s.places.now.starts at

  abbrev pub ShortIs : ℕ → Root → Type 0
  ShortIs at r = ShortContract s.table.now s.configuration.now s.places.now.starts at r

  abbrev pub ArgumentHere : ℕ → Type 0
  ArgumentHere at = ArgumentIn s.table.now s.configuration.now s.places.now.starts at

  abbrev pub ArgumentIs : ℕ → Root → Type 0
  ArgumentIs at r = ArgumentContract s.table.now s.configuration.now s.places.now.starts at r

  abbrev pub ConditionHere : ℕ → Type 0
  ConditionHere at = ConditionIn s.table.now s.configuration.now s.places.now.starts s.places.now.ends at

  abbrev pub ConditionIs : ℕ → Tested → Type 0
  ConditionIs at r = ConditionContract s.table.now s.configuration.now s.places.now.starts s.places.now.ends at r

  -- ---- a lookup and an update, by their arguments' values
  abbrev pub LookupIs : Value → Value → Value → Type 0
  LookupIs d k r = LookupContract s.table.now s.configuration.now d k r

  abbrev pub PlanIs : Value → Value → Option Plan → Type 0
  PlanIs d k r = PlanContract s.table.now s.configuration.now d k r

  abbrev pub PlanFitsHere : Value → Option Plan → Type 0
  PlanFitsHere d p = IfSome p (PlanFits (drop 2 (words_of d)))
