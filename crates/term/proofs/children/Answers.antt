use Rattle.std.proofs.Common.{◌≡◌, pos, arith}
use Rattle.std.proofs.lemmas.Int.{to_z-of_z}
use Rattle.minuska.specs.Computed.Read.{call_tag}
use Rattle.term.proofs.ChildrenLaw.{call_count, other_node}
use Rattle.term.proofs.children.Goals as goal

pub returns-then-t-eq-CALL : goal.returns-then-t-eq-CALL
returns-then-t-eq-CALL c =
    let e : c.args.t ≡ pos call_tag = grind (arith, to_z-of_z) in
    grind (arith, to_z-of_z, call_count c.args.t c.args.d c.requires e)

pub returns : goal.returns
returns c =
    let e : c.args.t ≡ pos call_tag → ⊥ = λ e. grind arith in
    grind (arith, to_z-of_z, other_node c.args.t c.args.d c.requires e)
