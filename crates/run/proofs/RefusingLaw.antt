-- Refusals 1 to 5 of a run are the outcome's; where there is none, the outcome is the run.
use mathlib.Core.Path.{◌≡◌, ◌∙◌}
use mathlib.Core.List.{List}
use Prim.Native.Nat.{ℕ, ◌*◌, ◌/◌, ◌≤◌}
use lib.Dec.{ltb}
use lib.IntN.{ℤ}
use lib.ListN.{length}
use borrow.Author.Tests.{ltb-false}
use Rattle.std.specs.Prelude.{Err}
use Rattle.minuska.specs.declared.Refusal.{Refusal}
use Rattle.minuska.specs.Term.{Term}
use Rattle.minuska.specs.Rule.{Table, max_steps, IsTable, IsConfiguration}
use Rattle.minuska.specs.Answer.{refused, gives}
use Rattle.minuska.specs.Computed.Run.{run}
use Rattle.minuska.specs.Computed.Outcome.{run_short, run_outcome, table_check, configuration_check, or_second}
use Rattle.minuska.proofs.ShutLaw.{run_outcome_is}
use Rattle.minuska.proofs.Bridge.AcceptedLaw.{refused_first}
use Rattle.sizes.specs.Sizes.{size_check}
use Rattle.sizes.proofs.SizesLaw.{neither, sizes_refuse, sizes_pass}
use Rattle.run.specs.Allowed.{Allowed}

-- both slices hold the limit's words
pub roomy : (nodes budget limit out spare : ℕ) → Allowed nodes budget limit out spare → (2 * limit ≤ out) × (2 * limit ≤ spare)
roomy nodes budget limit out spare a =
    let s = neither (ltb out (2 * limit)) (ltb spare (2 * limit)) a.roomy in
    (ltb-false out (2 * limit) s.0, ltb-false spare (2 * limit) s.1)

module _ (ws cs : List ℤ) (budget limit out spare : ℕ) where
  -- refusals 1 and 2
  pub early_refused : (e : Refusal) → or_second (table_check ws) (configuration_check cs) ≡ Err e → run_outcome ws cs budget limit out spare ≡ refused e
  early_refused e h = run_outcome_is ws cs budget limit out spare ∙ refused_first ws cs _ e h

  module _ (t : Table) (g : Term) (p : IsTable ws t) (q : IsConfiguration cs g) where
    pub late_refused : (e : Refusal) → size_check budget max_steps (length cs / 2) limit (run_short limit out spare) ≡ Err e → run_outcome ws cs budget limit out spare ≡ refused e
    late_refused e r =
        run_outcome_is ws cs budget limit out spare ∙ sizes_refuse ws cs t g p q (λ u h. run u limit budget h) budget max_steps limit (run_short limit out spare) e r

    pub runs : Allowed (length cs / 2) budget limit out spare → run_outcome ws cs budget limit out spare ≡ gives (run t limit budget g)
    runs a =
        run_outcome_is ws cs budget limit out spare ∙ sizes_pass ws cs t g p q (λ u h. run u limit budget h) budget max_steps limit (run_short limit out spare) a
