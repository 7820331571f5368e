use mathlib.Core.Path.{subst⁻¹}
use Rattle.minuska.specs.Term.{term_count}
use Rattle.value.specs.Root.{Head}
use Rattle.value.specs.declared.builtin.Root.{Root}
use Rattle.value.proofs.RootLaw.{table_root}
use Rattle.value.proofs.ConditionLaw.{roots_decide, same_roots_decide, node_alone}
use Rattle.value.proofs.Scope.is_node.Goals as goal

pub root_at-requires : goal.root_at-requires
root_at-requires c = let t = c.requires.1 in (table_root _ c.args.self.now.configuration.now t.term _ t.is).room

pub returns : goal.returns
returns c =
    let p = c.requires.0 in
    let t = c.requires.1 in
    let h = subst⁻¹ (λ (r : Root). Head r t.term.label (term_count t.term.children)) c.root_at.ensures (table_root _ c.args.self.now.configuration.now t.term _ t.is).head in
    rw (p.is.words, t.is.words) (roots_decide c.root.result c.root_at.result p.term t.term (c.root.ensures.is p.term p.is) h (node_alone _ _ _ t.term t.is) c.eq.result (same_roots_decide _ _ _ c.eq.ensures))
