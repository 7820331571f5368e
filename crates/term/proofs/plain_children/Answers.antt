use Rattle.std.proofs.Common.{◌≡◌, pos, arith}
use Rattle.std.proofs.lemmas.Int.{to_z-of_z}
use Rattle.minuska.specs.Computed.Read.{dictionary_tag}
use Rattle.term.proofs.NodeLaw.{plain_by_tag}
use Rattle.term.proofs.plain_children.Goals as goal

pub returns : goal.returns
returns c =
    let e : c.args.t ≡ pos dictionary_tag → ⊥ = λ e. grind arith in
    grind (arith, to_z-of_z, plain_by_tag c.args.t c.args.d e)
