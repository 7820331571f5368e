-- By where the dictionary is.
use mathlib.Core.Path.{subst}
use lib.Dec.{lit<}
use mir.Syntax.{w64}
use mir.Val.{SFits}
use mir.Facts.{to_z-of_z}
use borrow.Author.Rules.{rules}
use Rattle.value.specs.Value.{IsValue}
use Rattle.value.specs.declared.Value.{Value}
use Rattle.value.specs.declared.Value.TheVariants.{Table, Configuration}
use Rattle.value.proofs.BuiltinLaw.{tag_is, tag_not}
use Rattle.value.proofs.LookupLaw.{table_here, configuration_here, lookup_no_key, lookup_computed, lookup_made}
use Rattle.value.proofs.MeantLaw.{table_value, configuration_value}
use Rattle.value.proofs.Scope.lookup.Goals as goal

pub returns-then-key-ne-WHOLE : goal.returns-then-key-ne-WHOLE
returns-then-key-ne-WHOLE c =
    let f : SFits w64 c.root-key.result.tag = search rules in
    rw c.error.ensures (lookup_no_key _ _ _ _ c.root-key.result c.root-key.ensures (tag_not _ 2 f (lit< tt) c.if-key-ne-WHOLE.true))

pub find-requires : goal.find-requires
find-requires c =
    let p = c.requires.0 in
    record { term = p.term; here = table_here _ c.args.self.now.configuration.now _ p.term (subst (λ (v : Value). IsValue c.args.self.now.table.now c.args.self.now.configuration.now v p.term) c.in-Table.is p.is) }

pub find-requires-in-Configuration : goal.find-requires-in-Configuration
find-requires-in-Configuration c =
    let p = c.requires.0 in
    record { term = p.term; here = configuration_here c.args.self.now.table.now _ _ p.term (subst (λ (v : Value). IsValue c.args.self.now.table.now c.args.self.now.configuration.now v p.term) c.in-Configuration.is p.is) }

pub returns-in-Table : goal.returns-in-Table
returns-in-Table c =
    let k : SFits w64 c.root-key.result.tag = search rules in
    let e = tag_is _ 2 k (lit< tt) c.if-key-ne-WHOLE.false in
    let f : SFits w64 c.root-key.result.datum = search rules in
    lookup_made _ _ _ _ c.root-key.result c.root-key.ensures e _ Table (λ p. tt) _ c.in-Table.is (table_here _ _ _) (table_value _ _) _ (rw (to_z-of_z f) at c.find.ensures) _ (rw c.error.ensures at c.map_or.ensures)

pub returns-in-Configuration : goal.returns-in-Configuration
returns-in-Configuration c =
    let k : SFits w64 c.root-key.result.tag = search rules in
    let e = tag_is _ 2 k (lit< tt) c.if-key-ne-WHOLE.false in
    let f : SFits w64 c.root-key.result.datum = search rules in
    lookup_made _ _ _ _ c.root-key.result c.root-key.ensures e _ Configuration (λ p. tt) _ c.in-Configuration.is (configuration_here _ _ _) (configuration_value _ _) _ (rw (to_z-of_z f) at c.find-in-Configuration.ensures) _
    (rw c.error.ensures at c.map_or-in-Configuration.ensures)

pub returns-in-Computed : goal.returns-in-Computed
returns-in-Computed c =
    let k : SFits w64 c.root-key.result.tag = search rules in
    let e = tag_is _ 2 k (lit< tt) c.if-key-ne-WHOLE.false in
    rw c.error.ensures (lookup_computed _ _ _ _ c.root-key.result c.root-key.ensures e _ c.in-Computed.is)
