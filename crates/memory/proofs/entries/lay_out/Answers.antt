-- The slots lie in the frame, and nothing is in them.
use Rattle.std.proofs.Common.{◌≡◌, ◌+◌, ◌-◌, ◌*◌, ◌/◌, ◌≤◌, length, arith}
use Rattle.std.proofs.Math.Nat.{mul-le-mul_right, div-mul-le_self}
use Rattle.memory.proofs.PutLaw.{anew_opens}
use Rattle.memory.proofs.entries.lay_out.Goals as goal

pub returns : goal.returns
returns c =
    let f = c.args.frame.now in
    let width = c.args.most + c.args.most / 4 + 2 in
    let count = c.min-count.result in
    let e : length f - 4 + 1 ≡ length f - 3 = omega arith in
    let h : count + 1 ≤ (length f - 4) / width = omega arith in
    let in_room : (count + 1) * width + 4 ≤ length f = omega (arith, mul-le-mul_right width h, div-mul-le_self (length f - 4) width) in
    rw (c.put-2.ensures, c.put.ensures, e) (anew_opens f (omega arith) width count c.empty.new.frame (omega arith) in_room c.empty.ensures)
