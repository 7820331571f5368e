-- Each argument stands where the one in front of it ends.
use Rattle.std.proofs.Common.{rules}
use Rattle.step.proofs.RightLaw.{node_within}
use Rattle.step.proofs.UpdateLaw.{first_needs, second_needs, third_needs, parts_are}
use Rattle.step.proofs.right.Items.update_parts.Goals as goal

pub overflow_add-at : goal.overflow_add-at
overflow_add-at c = let h = node_within c.requires.0.1 c.requires.0.0 in let k = c.args.self.short in search rules

pub evaluate-dictionary-requires : goal.evaluate-dictionary-requires
evaluate-dictionary-requires c = first_needs _ _ _ _ _ _ c.requires.0.1 c.requires.1 c.requires.0.0

pub evaluate-key-requires : goal.evaluate-key-requires
evaluate-key-requires c = second_needs _ _ _ _ _ _ c.requires.0.1 c.requires.1 _ c.evaluate-dictionary.ensures c.requires.0.0

pub evaluate-term-requires : goal.evaluate-term-requires
evaluate-term-requires c = third_needs _ _ _ _ _ _ c.requires.0.1 c.requires.1 _ c.evaluate-dictionary.ensures _ c.evaluate-key.ensures c.requires.0.0

pub returns : goal.returns
returns c = parts_are _ _ _ _ _ _ c.requires.0.1 c.requires.1 _ c.evaluate-dictionary.ensures _ c.evaluate-key.ensures _ c.evaluate-term.ensures
