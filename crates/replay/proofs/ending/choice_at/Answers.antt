use Rattle.std.proofs.Common.{ℕ, ◌≡◌, ◌<◌, ◌-◌, ◌∙◌, ap, length, get_or, arith, sub-one}
use Prim.Native.Nat.{pred}
use Rattle.minuska.specs.Computed.Step.{order}
use Rattle.replay.specs.Reading.{table_of}
use Rattle.replay.proofs.ReadingLaw.{checked_is}
use Rattle.replay.proofs.SeekLaw.{ordered_is, rule_small}
use Rattle.replay.proofs.ending.choice_at.Goals as goal

-- the position is in the order
there : (c : goal.After-ordered) → c.position.result - 1 < length (order (table_of c.args.search.now.table.words.now))
there c = let b = c.requires.1 in omega (arith, c.args.search.now.rules_are, c.position.ensures, b.some, b.within)

is : (c : goal.After-ordered) → c.ordered.result ≡ get_or (order (table_of c.args.search.now.table.words.now)) (c.position.result - 1) 0
is c = let s = c.args.search.now in ordered_is s.table.words.now (checked_is s.table.indexed) (c.position.result - 1) c.ordered.result (there c) c.ordered.ensures

pub overflow_cast-result : goal.overflow_cast-result
overflow_cast-result c =
    let s = c.args.search.now in
    let small = rule_small s.table.words.now (checked_is s.table.indexed) (c.position.result - 1) (there c) in
    omega (arith, is c)

pub returns : goal.returns
returns c = is c ∙ ap (λ (i : ℕ). get_or (order (table_of c.args.search.now.table.words.now)) i 0) (sub-one c.position.result ∙ ap pred c.position.ensures)
