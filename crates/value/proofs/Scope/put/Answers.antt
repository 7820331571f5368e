use mathlib.Core.Path.{ap, ◌∙◌}
use native.Mathlib.Omega.{arith}
use lib.ListN.{length}
use Rattle.value.specs.Value.{size_of, value_words}
use Rattle.value.proofs.WordsLaw.{part_is, size_is}
use Rattle.value.proofs.Scope.put.Goals as goal

pub put_root-requires : goal.put_root-requires
unfolding size_of
put_root-requires c = let h = rw c.in-Computed.is at c.requires.1 in omega arith

pub put_words-requires : goal.put_words-requires
put_words-requires c =
    let a = ap length (c.part.ensures ∙ part_is _ _ c.args.v c.in_default.not-Computed) in
    let b = size_is _ _ c.args.v c.requires.0 in
    let h = c.requires.1 in
    omega arith

pub returns-in-Computed : goal.returns-in-Computed
unfolding value_words
returns-in-Computed c = rw c.in-Computed.is c.put_root.ensures

pub returns-in_default : goal.returns-in_default
returns-in_default c = rw (c.part.ensures ∙ part_is _ _ c.args.v c.in_default.not-Computed) at c.put_words.ensures
