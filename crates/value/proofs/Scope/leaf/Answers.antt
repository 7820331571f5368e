use mathlib.Core.Path.{ap}
use native.Mathlib.Omega.{arith}
use lib.Dec.{lit<}
use lib.IntN.{pos}
use lib.ListN.{get_or}
use mir.Syntax.{w64}
use mir.Val.{SFits, of_z}
use borrow.Author.Rules.{rules}
use Rattle.minuska.specs.Term.{single}
use Rattle.minuska.proofs.Bridge.ShapeLaw.{ok_shapely}
use Rattle.value.proofs.SignedLaw.{lit_pos, abs_back}
use Rattle.value.proofs.ExpressionLaw.{is_variable, is_ground_lem}
use Rattle.value.proofs.MeantLaw.{variable_meant, ground_meant, evaluated}
use Rattle.value.proofs.Scope.leaf.Goals as goal

pub returns-then-self-at-eq-VARIABLE : goal.returns-then-self-at-eq-VARIABLE
returns-then-self-at-eq-VARIABLE c =
    let f : SFits w64 (get_or c.args.self.now.table.now c.args.at (pos 0)) = search rules in
    let q = lit_pos _ 3 f.sfits (lit< tt) c.if-self-at-eq-VARIABLE.true in
    record {
      over = λ config. evaluated _ _ _ _ _ _ λ ρ e x w.
          let v = is_variable c.args.self.now.table.now config c.args.self.now.places.now.starts c.args.self.now.places.now.ends c.args.at ρ e x w q in
          let h = v.small in
          variable_meant _ _ _ _ _ ρ e x v _ (abs_back _ v.number v.datum (omega arith)) c.part.result c.part.ensures;
    }

pub ground_end-end-requires : goal.ground_end-end-requires
ground_end-end-requires c =
    let p = c.requires.expression in
    let g = is_ground_lem c.args.self.now.table.now c.requires.config c.args.self.now.places.now.starts c.args.self.now.places.now.ends c.args.at _ _ _ p.has (λ q. c.if-self-at-eq-VARIABLE.false (ap (of_z w64) q)) c.requires.tag in
    record { term = p.expression; shape = ok_shapely (single p.expression) p.has.placed.good; grounded = g.grounded; stands = p.has.placed.stands }

pub returns : goal.returns
returns c =
    record {
      over = λ config. evaluated _ _ _ _ _ _ λ ρ e x w.
          let g = is_ground_lem c.args.self.now.table.now config c.args.self.now.places.now.starts c.args.self.now.places.now.ends c.args.at ρ e x w (λ q. c.if-self-at-eq-VARIABLE.false (ap (of_z w64) q)) c.requires.tag in
          ground_meant _ _ _ _ _ ρ e x w g _ (c.ground_end-end.ensures.ends e (ok_shapely (single e) w.placed.good) g.grounded w.placed.stands);
    }
