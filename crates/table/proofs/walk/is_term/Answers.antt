-- What is too long is no term; what is not, is one exactly if its dictionaries are in order.
use Rattle.std.proofs.Common.{arith}
use Rattle.table.proofs.PartLaw.{part_long, part_unmet, part_tested}
use Rattle.table.proofs.walk.is_term.Goals as goal

pub returns-then-end-at-gt-MAX_TERM_WORDS : goal.returns-then-end-at-gt-MAX_TERM_WORDS
returns-then-end-at-gt-MAX_TERM_WORDS c =
    record { is = λ l seen seen' r. let a = r.later in let b = r.inside in part_long (omega arith) r c.if-end-at-gt-MAX_TERM_WORDS.true }

pub returns-then-not-met : goal.returns-then-not-met
returns-then-not-met c =
    record { is = λ l seen seen' r. let a = r.later in let b = r.inside in rw c.if-not-met.true (part_unmet (omega arith) r c.if-end-at-gt-MAX_TERM_WORDS.false (c.requires.order.none c.if-not-met.true)) }

pub returns-else-not-met : goal.returns-else-not-met
returns-else-not-met c =
    record { is = λ l seen seen' r. let a = r.later in let b = r.inside in part_tested (omega arith) r c.if-end-at-gt-MAX_TERM_WORDS.false c.in_order.result c.in_order.ensures }
