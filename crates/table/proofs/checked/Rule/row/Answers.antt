-- A rule's row stands in the index at its number.
use Rattle.std.proofs.Common.{rules}
use Rattle.table.proofs.IndexLaw.{named_small, row_at}
use Rattle.table.proofs.checked.Rule.row.Goals as goal

pub offset_bounds-self-self : goal.offset_bounds-self-self
offset_bounds-self-self c = let h = named_small c.args.self.table.words.now c.args.self.number c.args.self.named in search rules

pub bounds-self-self : goal.bounds-self-self
bounds-self-self c = named_small _ _ c.args.self.named

pub returns : goal.returns
returns c = row_at _ _ _ _ c.args.self.table.indexed
