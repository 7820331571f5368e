use mathlib.Core.Path.{◌∙◌, ap}
use Prim.Native.Nat.{◌-◌, ◌≤◌}
use native.Mathlib.Omega.{arith}
use lib.ListN.{length, drop, length-drop}
use lib.Seq.{take_all}
use Rattle.value.specs.Value.{value_words}
use Rattle.value.proofs.WordsLaw.{part_is}
use Rattle.value.proofs.UpdateLaw.{two_at_least}
use Rattle.value.proofs.Scope.entry_words.Goals as goal

-- the part has two words or more
two : (c : goal.After-part) → 2 ≤ length c.part.result.now
two c =
    let a = ap length (c.part.ensures ∙ (part_is _ _ c.args.v c.in_default.not-Computed ∙ c.requires.is.words)) in
    let b = two_at_least c.requires.term in
    omega arith

pub slice_bounds-result-count-in_default : goal.slice_bounds-result-count-in_default
slice_bounds-result-count-in_default c = two c

pub slice_bounds-result-start-in_default : goal.slice_bounds-result-start-in_default
slice_bounds-result-start-in_default c = two c

pub returns-in-Computed : goal.returns-in-Computed
unfolding value_words
returns-in-Computed c = rw c.in-Computed.is

pub returns-in_default : goal.returns-in_default
returns-in_default c =
    take_all (length c.part.result.now - 2) (drop 2 c.part.result.now) (let a = length-drop 2 c.part.result.now in omega arith) ∙
    ap (drop 2) (c.part.ensures ∙ part_is _ _ c.args.v c.in_default.not-Computed)
