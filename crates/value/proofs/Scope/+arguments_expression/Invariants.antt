use Rattle.std.proofs.Common.{◌+◌, ◌-◌, ◌*◌, ◌/◌, length}
use Rattle.value.proofs.Scope.+arguments_expression.Given as goal

-- two for each node left, and one more in `arguments`
abbrev pub decreases-arguments : goal.decreases-arguments
decreases-arguments l = 2 * ((length l.self.now.table.now - l.at) / 2) + 1

abbrev pub decreases-expression : goal.decreases-expression
decreases-expression l = 2 * ((length l.self.now.table.now - l.at) / 2)
