use Rattle.std.proofs.Common.{◌+◌, length, ◌∙◌, sym}
use Rattle.minuska.specs.Term.{single}
use Rattle.minuska.specs.Word.{encode}
use Rattle.term.specs.TermEnd.{any_label}
use Rattle.term.proofs.ChildrenLaw.{any_label_lem}
use Rattle.term.proofs.ExtentLaw.{stands_ends}
use Rattle.term.proofs.expression_end.Goals as goal

pub term_end-requires : goal.term_end-requires
term_end-requires c = let r = c.requires in record { end = c.args.at + length (encode (single r.term)); ends = stands_ends any_label c.args.s.now c.args.at r.term r.shape (any_label_lem (single r.term)) r.stands }

pub returns : goal.returns
returns c = record { ends = λ t x h. let e = sym c.term_end.ensures.is ∙ stands_ends any_label c.args.s.now c.args.at t x (any_label_lem (single t)) h in cc }
