-- The subterm at a place (document 01, "Fitting and value"): a place is a node's number in preorder, from 0.
use Rattle.std.proofs.Math.Option.{Option, none, some}
use Rattle.std.specs.Prelude.{ℕ, zero, suc, ◌-◌}
use Rattle.minuska.specs.Term.{Forest, nil, node, Term, nodes}

-- the first of two that is there
abbrev pub or_else : {A : Type 0} → Option A → Option A → Option A
or_else none o = o
or_else (some a) o = some a

-- the first node; else among its children; else behind them. "A place that is no node" has none.
abbrev pub subterm_at : Forest → ℕ → Option Term
subterm_at nil i = none
subterm_at (node l cs ss) zero = some (record { label = l; children = cs })
subterm_at (node l cs ss) (suc i) = or_else (subterm_at cs i) (subterm_at ss (i - nodes cs))
