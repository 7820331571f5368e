use mathlib.Core.Path.{◌≡◌, ap}
use native.Mathlib.Omega.{arith}
use Prim.Native.Nat.{◌+◌, ◌-◌, ◌≤◌}
use lib.ListN.{length, drop}
use Rattle.value.specs.Update.{PlanFits, plan_words}
use Rattle.value.specs.Value.{value_words, size_of}
use Rattle.value.proofs.WordsLaw.{size_is, within_ordered}
use Rattle.value.proofs.UpdateLaw.{kept_length, size_small, behind_small}
use Rattle.value.proofs.Scope.plan_size.Goals as goal

pub returns-in_default : goal.returns-in_default
unfolding plan_words
returns-in_default c = rw c.in_default.is

pub size-requires : goal.size-requires
size-requires c = within_ordered _ _ c.args.v c.requires.1

-- the sum is small
fits : (c : goal.After-size) → PlanFits (drop 2 (value_words c.args.self.now.table.now c.args.self.now.configuration.now c.args.d)) c.in-Some.plan
fits c = rw c.in-Some.is at c.requires.2

small : (c : goal.After-size) → 4 + c.in-Some.plan.replaced.from + c.size.result + (length c.entry_words.result.now - c.in-Some.plan.replaced.to) ≤
    6 + (length c.args.self.now.table.now + length c.args.self.now.configuration.now) + (length c.args.self.now.table.now + length c.args.self.now.configuration.now)
small c =
    let a = size_small c.args.self.now.table.now c.args.self.now.configuration.now c.args.v c.requires.1 in
    let b = behind_small c.args.self.now.table.now c.args.self.now.configuration.now c.args.d c.requires.0 in
    let e = ap length c.entry_words.ensures in
    let f = fits c in
    let h : c.size.result ≡ size_of c.args.v = c.size.ensures in
    omega (arith, f.order, f.within)

pub overflow_add-result-2 : goal.overflow_add-result-2
overflow_add-result-2 c = let h = small c in omega arith

pub overflow_add-result-3 : goal.overflow_add-result-3
overflow_add-result-3 c = let h = small c in omega arith

pub returns : goal.returns
returns c =
    let a = kept_length (value_words c.args.self.now.table.now c.args.self.now.configuration.now c.args.d) c.in-Some.plan (value_words c.args.self.now.table.now c.args.self.now.configuration.now c.args.v) (fits c) in
    let b : c.size.result ≡ size_of c.args.v = c.size.ensures in
    let d = size_is c.args.self.now.table.now c.args.self.now.configuration.now c.args.v c.requires.1 in
    let e = ap length c.entry_words.ensures in
    rw c.in-Some.is (omega arith)
