-- By where the value is.
use mathlib.Core.Path.{subst, subst⁻¹}
use Rattle.minuska.specs.Term.{term_count}
use Rattle.value.specs.Value.{IsValue}
use Rattle.value.specs.Root.{Head}
use Rattle.value.specs.declared.Value.{Value}
use Rattle.value.specs.declared.builtin.Root.{Root}
use Rattle.value.proofs.RootLaw.{table_root, configuration_root, computed_root}
use Rattle.value.proofs.Scope.root.Goals as goal

pub root_at-requires : goal.root_at-requires
root_at-requires c =
    let p = c.requires in
    (table_root c.args.self.now.table.now c.args.self.now.configuration.now p.term _ (subst (λ (v : Value). IsValue c.args.self.now.table.now c.args.self.now.configuration.now v p.term) c.in-Table.is p.is)).room

pub root_at-requires-in-Configuration : goal.root_at-requires-in-Configuration
root_at-requires-in-Configuration c =
    let p = c.requires in
    (configuration_root c.args.self.now.table.now c.args.self.now.configuration.now p.term _ (subst (λ (v : Value). IsValue c.args.self.now.table.now c.args.self.now.configuration.now v p.term) c.in-Configuration.is p.is)).room

pub returns-in-Table : goal.returns-in-Table
returns-in-Table c =
    record {
      is = λ t i.
          subst⁻¹ (λ (r : Root). Head r t.label (term_count t.children)) c.root_at.ensures
          (table_root c.args.self.now.table.now c.args.self.now.configuration.now t _ (subst (λ (v : Value). IsValue c.args.self.now.table.now c.args.self.now.configuration.now v t) c.in-Table.is i)).head;
    }

pub returns-in-Configuration : goal.returns-in-Configuration
returns-in-Configuration c =
    record {
      is = λ t i.
          subst⁻¹ (λ (r : Root). Head r t.label (term_count t.children)) c.root_at-in-Configuration.ensures
          (configuration_root c.args.self.now.table.now c.args.self.now.configuration.now t _ (subst (λ (v : Value). IsValue c.args.self.now.table.now c.args.self.now.configuration.now v t) c.in-Configuration.is i)).head;
    }

pub returns-in-Computed : goal.returns-in-Computed
returns-in-Computed c =
    record { is = λ t i. computed_root c.args.self.now.table.now c.args.self.now.configuration.now t _ (subst (λ (v : Value). IsValue c.args.self.now.table.now c.args.self.now.configuration.now v t) c.in-Computed.is i) }
