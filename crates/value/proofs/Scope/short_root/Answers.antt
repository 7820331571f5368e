use mathlib.Core.Path.{◌≡◌, refl, ap, subst, subst⁻¹, ◌∙◌}
use native.Mathlib.Omega.{arith}
use Prim.Native.Nat.{ℕ, ◌<◌}
use lib.Dec.{lit<}
use lib.IntN.{ℤ, pos}
use lib.ListN.{get_or}
use lib.Signed.{lt_z}
use mathlib.Core.Bool.{true}
use mir.Syntax.{w64}
use mir.Val.{SFits, of_z}
use borrow.Author.Rules.{rules}
use borrow.Author.Tests.{ltb-true}
use Rattle.minuska.specs.Term.{Term, term_count}
use Rattle.value.specs.Root.{Head, root_at}
use Rattle.value.specs.declared.builtin.Root.{Root}
use Rattle.term.specs.declared.Span.{Span}
use Rattle.value.proofs.SignedLaw.{lit_pos}
use Rattle.value.proofs.RootLaw.{root_stands}
use Rattle.value.proofs.ExpressionLaw.{is_ground_lem}
use Rattle.value.proofs.ShortLaw.{variable_root}
use Rattle.value.proofs.Scope.short_root.Goals as goal

-- a part starts where its array says
from_start : (p : Span) (from to : ℕ) → p ≡ record { from = from; to = to } → p.from ≡ from
from_start p from to e = ap (λ (s : Span). s.from) e

no_call_lem : (z : ℤ) → lt_z z (pos 4) ≡ true → z ≡ pos 4 → ⊥
no_call_lem z l p = let k : 4 < 4 = ltb-true 4 4 (subst (λ (y : ℤ). lt_z y (pos 4) ≡ true) p l) in omega arith

pub root_at-requires : goal.root_at-requires
root_at-requires c =
    let f : SFits w64 (get_or c.args.self.now.table.now c.args.at (pos 0)) = search rules in
    let q = lit_pos _ 3 f.sfits (lit< tt) c.if-self-at-eq-VARIABLE.true in
    rw (from_start c.part-part.result _ _ c.part-part.ensures) (variable_root c.args.self.now.table.now c.args.self.now.configuration.now c.args.self.now.places.now.starts c.requires.ends c.args.at _ _ _ c.requires.expression.has q _ refl).room

pub returns-then-self-at-eq-VARIABLE : goal.returns-then-self-at-eq-VARIABLE
returns-then-self-at-eq-VARIABLE c =
    let f : SFits w64 (get_or c.args.self.now.table.now c.args.at (pos 0)) = search rules in
    let q = lit_pos _ 3 f.sfits (lit< tt) c.if-self-at-eq-VARIABLE.true in
    record {
      over = λ ends ρ e x w.
          subst⁻¹ (λ (r : Root). Head r x.label (term_count x.children)) (c.root_at.ensures ∙ ap (root_at c.args.self.now.configuration.now) (from_start c.part-part.result _ _ c.part-part.ensures))
          (variable_root c.args.self.now.table.now c.args.self.now.configuration.now c.args.self.now.places.now.starts ends c.args.at ρ e x w q _ refl).head;
    }

pub returns : goal.returns
returns c =
    record {
      over = λ ends ρ e x w.
          let g = is_ground_lem c.args.self.now.table.now c.args.self.now.configuration.now c.args.self.now.places.now.starts ends c.args.at ρ e x w (λ q. c.if-self-at-eq-VARIABLE.false (ap (of_z w64) q)) (no_call_lem _ c.requires.low) in
          subst⁻¹ (λ (r : Root). Head r x.label (term_count x.children)) c.root_at-2.ensures
          (subst (λ (y : Term). Head (root_at c.args.self.now.table.now c.args.at) y.label (term_count y.children)) g.is (root_stands _ _ e w.placed.good g.grounded w.placed.stands).head);
    }
