use Rattle.std.proofs.Common.{◌+◌, length, ◌∙◌, sym}
use Rattle.minuska.specs.Term.{single}
use Rattle.minuska.specs.Word.{encode}
use Rattle.term.specs.TermEnd.{ground_label}
use Rattle.term.proofs.ExtentLaw.{stands_ends}
use Rattle.term.proofs.ground_end.Goals as goal

pub term_end-requires : goal.term_end-requires
term_end-requires c = let r = c.requires in record { end = c.args.at + length (encode (single r.term)); ends = stands_ends ground_label c.args.s.now c.args.at r.term r.shape r.grounded r.stands }

pub returns : goal.returns
returns c = record { ends = λ t x g h. let e = sym c.term_end.ensures.is ∙ stands_ends ground_label c.args.s.now c.args.at t x g h in cc }
