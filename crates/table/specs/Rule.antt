-- One rule of a table: where its parts stand, if it is accepted.
use Rattle.std.specs.Prelude.{◌≡◌, Bool, List, ℕ, zero, suc, ℤ, drop}
use Rattle.std.specs.Prelude as S
use Rattle.std.proofs.Math.Option.{Option, none, some}
use Rattle.minuska.specs.Basics.{◌>>=◌}
use Rattle.minuska.specs.Term.{single}
use Rattle.minuska.specs.Rule.{Rule}
use Rattle.minuska.specs.Computed.Read.{read_rule}
use Rattle.minuska.specs.Bridge.Walk.{fixed_nodes, variable_nodes}
use Rattle.minuska.specs.Bridge.Place.{right_from, conditions_from, end_from}
use Rattle.table.specs.Level.{Expression}
use Rattle.table.specs.declared.rule.Parts.{Parts}
use Rattle.table.specs.Walk.{part_end}

-- the place behind some conditions: two expressions each
abbrev pub conditions_end : ℕ → List ℤ → List Bool → ℕ → Option ℕ
conditions_end zero ws seen at = some at
conditions_end (suc k) ws seen at = part_end ws at Expression seen >>= λ e. part_end ws e Expression seen >>= λ e. conditions_end k ws seen e

-- An accepted rule starts at a place, these are its action and the places of its parts, and its right has these sizes.
pub record RuleAt (ws : List ℤ) (at : ℕ) (p : Parts) : Type 0 where
  pub rule : Rule
  pub read : read_rule (drop at ws) ≡ some (rule, drop p.end ws)
  pub action_is : rule.action ≡ p.action
  pub right_is : right_from at rule ≡ p.right
  pub conditions_is : conditions_from at rule ≡ p.conditions
  pub end_is : end_from at rule ≡ p.end
  pub fixed_is : fixed_nodes (single rule.right) ≡ p.sizes.fixed
  pub leaves_is : variable_nodes (single rule.right) ≡ p.sizes.leaves

-- What is found at a place, by the answer.
abbrev pub RuleIs : List ℤ → ℕ → S.Option Parts → Type 0
RuleIs ws at (S.Some p) = RuleAt ws at p
RuleIs ws at S.None = read_rule (drop at ws) ≡ none
