use mathlib.Core.Path.{ap, sym, ◌∙◌}
use Prim.Native.Nat.{ℕ, ◌+◌}
use Rattle.value.specs.Builtin.{root_of}
use Rattle.value.specs.declared.Value.TheVariants.{Computed}
use Rattle.value.specs.declared.builtin.Root.{Root}
use Rattle.value.proofs.RootLaw.{label_is, error_label}
use Rattle.value.proofs.MeantLaw.{call_meant, evaluated}
use Rattle.value.proofs.CallLaw.{the_call, code_is}
use Rattle.value.proofs.ShortLaw.{arguments, no_lookup, second_at, six}
use Rattle.value.proofs.Scope.short_call.Goals as goal

pub short_root-a-requires : goal.short_root-a-requires
short_root-a-requires c =
    let h = arguments c.args.self.now.table.now c.args.self.now.configuration.now c.args.self.now.places.now.starts c.requires.ends c.args.at _ c.requires.call.expression.expression c.requires.call.expression.term (the_call c.args.self.now.table.now c.args.self.now.configuration.now c.args.self.now.places.now.starts c.requires.ends c.args.at _ c.requires.call.expression.expression c.requires.call.expression.term c.requires.call.expression.has c.requires.call.tag) c.requires.short in
    record { ends = c.requires.ends; expression = record { valuation = _; expression = h.a; term = h.x; has = h.first }; low = c.requires.short.first }

pub short_root-b-requires : goal.short_root-b-requires
short_root-b-requires c =
    let h = arguments c.args.self.now.table.now c.args.self.now.configuration.now c.args.self.now.places.now.starts c.requires.ends c.args.at _ c.requires.call.expression.expression c.requires.call.expression.term (the_call c.args.self.now.table.now c.args.self.now.configuration.now c.args.self.now.places.now.starts c.requires.ends c.args.at _ c.requires.call.expression.expression c.requires.call.expression.term c.requires.call.expression.has c.requires.call.tag) c.requires.short in
    record { ends = c.requires.ends; expression = record { valuation = _; expression = h.b; term = h.y; has = second_at c.args.self.now.table.now c.args.self.now.configuration.now c.args.self.now.places.now.starts c.requires.ends c.args.at _ c.requires.call.expression.expression c.requires.call.expression.term (the_call c.args.self.now.table.now c.args.self.now.configuration.now c.args.self.now.places.now.starts c.requires.ends c.args.at _ c.requires.call.expression.expression c.requires.call.expression.term c.requires.call.expression.has c.requires.call.tag) c.requires.short }; low = c.requires.short.second }

pub returns : goal.returns
returns c =
    record {
      over = λ ends. evaluated _ _ _ _ _ _ λ ρ e x w.
          let k = the_call c.args.self.now.table.now c.args.self.now.configuration.now c.args.self.now.places.now.starts ends c.args.at ρ e x w c.requires.call.tag in
          let h = arguments c.args.self.now.table.now c.args.self.now.configuration.now c.args.self.now.places.now.starts ends c.args.at ρ e x (the_call c.args.self.now.table.now c.args.self.now.configuration.now c.args.self.now.places.now.starts ends c.args.at ρ e x w c.requires.call.tag) c.requires.short in
          let l₁ = label_is _ _ _ (c.short_root-a.ensures.over ends ρ h.a h.x h.first) ∙ sym h.one in
          let l₂ = label_is _ _ _ (c.short_root-b.ensures.over ends ρ h.b h.y (second_at c.args.self.now.table.now c.args.self.now.configuration.now c.args.self.now.places.now.starts ends c.args.at ρ e x (the_call c.args.self.now.table.now c.args.self.now.configuration.now c.args.self.now.places.now.starts ends c.args.at ρ e x w c.requires.call.tag) c.requires.short)) ∙ sym h.two in
          let l₃ = error_label ∙ sym h.three in
          call_meant _ _ _ _ _ ρ e x k (no_lookup c.args.self.now.table.now c.args.self.now.configuration.now c.args.self.now.places.now.starts ends c.args.at ρ e x (the_call c.args.self.now.table.now c.args.self.now.configuration.now c.args.self.now.places.now.starts ends c.args.at ρ e x w c.requires.call.tag) c.requires.short) _
          (ap (λ (r : Root). Computed r) ((rw c.error.ensures at c.apply.ensures) ∙ ap root_of (rw (code_is c.args.self.now.table.now c.args.self.now.configuration.now c.args.self.now.places.now.starts ends c.args.at ρ e x w c.requires.call.tag, l₁, l₂, l₃))))
          (ap (λ (n : ℕ). c.args.at + n) (six c.args.self.now.table.now c.args.self.now.configuration.now c.args.self.now.places.now.starts ends c.args.at ρ e x (the_call c.args.self.now.table.now c.args.self.now.configuration.now c.args.self.now.places.now.starts ends c.args.at ρ e x w c.requires.call.tag) c.requires.short));
    }
