-- a short output, and one that holds every answer
use Rattle.std.proofs.Common.{rules}
use Rattle.cli.proofs.ContractLaw.{too_short, written}
use Rattle.cli.proofs.answer.Goals as goal

pub returns-then-output-lt-MAX_OUTPUT : goal.returns-then-output-lt-MAX_OUTPUT
returns-then-output-lt-MAX_OUTPUT c = too_short c.args.input.now c.args.output.now c.if-output-lt-MAX_OUTPUT.true

pub returns : goal.returns
returns c = written c.args.input.now c.args.output.now _ c.new-text.result c.put_answer.new.text c.new-text.ensures.bytes c.new-text.ensures.empty c.if-output-lt-MAX_OUTPUT.false c.put_answer.ensures (search rules)
