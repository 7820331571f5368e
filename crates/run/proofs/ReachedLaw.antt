-- What a run has reached after k steps: the k-th configuration, and that the run is k steps and its rest. Each turn keeps this, and the last one ends with it.
use mathlib.Core.Path.{◌≡◌, refl, sym, ◌∙◌, ap}
use mathlib.Core.List.{List}
use Prim.Native.Nat.{ℕ, ◌+◌, ◌-◌, ◌*◌, ◌/◌, ◌≤◌}
use native.Mathlib.Nat.{min-eq_left, sub-zero}
use native.Mathlib.Omega.{arith}
use lib.IntN.{ℤ}
use lib.ListN.{length, take, drop}
use lib.Seq.{take-take, take_at, take_all}
use Rattle.std.specs.Prelude.{Option as StdOption, Result}
use Rattle.minuska.specs.declared.Refusal.{Refusal}
use Rattle.minuska.specs.declared.Stepped.{Stepped}
use Rattle.minuska.specs.declared.RunAnswer.{RunAnswer}
use Rattle.minuska.specs.Term.{Term, single, node_count}
use Rattle.minuska.specs.Word.{encode}
use Rattle.minuska.specs.Rule.{Table, max_nodes, IsTable, IsConfiguration}
use Rattle.minuska.specs.Answer.{Outcome, gives, StepResult}
use Rattle.minuska.specs.Slice.{write, out_limit, step_answer, step_out}
use Rattle.minuska.specs.Computed.Step.{step}
use Rattle.minuska.specs.Computed.Run.{run}
use Rattle.minuska.specs.Computed.Outcome.{step_outcome, run_outcome}
use Rattle.minuska.proofs.OutcomeLaw.{on_words_lem}
use Rattle.minuska.proofs.StepLaw.{step_meets}
use Rattle.minuska.proofs.KeepLaw.{keeps_configuration}
use Rattle.minuska.proofs.ShutLaw.{step_outcome_is, step_out_stepped}
use Rattle.minuska.proofs.Bridge.AcceptedLaw.{term_length, configuration_length}
use Rattle.run.specs.declared.Side.{Side}
use Rattle.run.specs.declared.Side.TheVariants.{Initial}
use Rattle.std.specs.declared.ops.ControlFlow.TheVariants.{Continue, Break}
use Rattle.run.specs.Sides.{by_side, other, StartsWith, StepsAcross, judged}
use Rattle.run.specs.Ending.{RunEnds}
use Rattle.run.proofs.SidesLaw.{next_stands, current_keeps, both_behind, either}
use Rattle.run.proofs.JudgedLaw.{after, after_none, succeeds, steps_on, ends}

-- a limit's words let a step write that many nodes
limit_of_words : (limit : ℕ) → limit ≤ max_nodes → out_limit (2 * limit) ≡ limit
limit_of_words limit h = let e : 2 * limit / 2 ≡ limit = omega arith in rw e (min-eq_left h)

-- the first words of what was written
front : (xs ys old : List ℤ) (n m : ℕ) → length xs ≡ n → n ≤ m → take m ys ≡ write xs old → take n ys ≡ xs
front xs ys old n m l h e = sym (take-take n m ys h) ∙ ap (take n) e ∙ take_at xs (drop (length xs) old) n l

module _ (ws cs : List ℤ) (budget limit : ℕ) (out₀ spare₀ : List ℤ) where
  pub record RunReached (side : Side) (nodes k : ℕ) (out spare : List ℤ) : Type 0 where
    pub table : Table
    pub is_table : IsTable ws table
    pub term : Term
    pub is : IsConfiguration (take (2 * nodes) (by_side side cs out spare)) term
    pub within : 2 * nodes ≤ length (by_side side cs out spare)
    pub fits : nodes ≤ limit
    pub bounded : limit ≤ max_nodes
    pub counts : k ≤ budget
    pub runs : run_outcome ws cs budget limit (length out₀) (length spare₀) ≡ gives (after k (run table limit (budget - k) term))
    pub out_long : length out ≡ length out₀
    pub spare_long : length spare ≡ length spare₀
    pub out_behind : drop (2 * limit) out ≡ drop (2 * limit) out₀
    pub spare_behind : drop (2 * limit) spare ≡ drop (2 * limit) spare₀

  -- AT FIRST
  pub reached_first : (t : Table) (g : Term) → IsTable ws t → IsConfiguration cs g → length cs / 2 ≤ limit → limit ≤ max_nodes →
      run_outcome ws cs budget limit (length out₀) (length spare₀) ≡ gives (run t limit budget g) → RunReached Initial (length cs / 2) 0 out₀ spare₀
  reached_first t g p q f b e =
      let l = configuration_length cs g q in
      let w : length cs ≤ 2 * (length cs / 2) = omega arith in
      record {
        table = t;
        is_table = p;
        term = g;
        is = rw (take_all (2 * (length cs / 2)) cs w) q;
        within = omega arith;
        fits = f;
        bounded = b;
        counts = omega arith;
        runs = e ∙ ap gives (sym (after_none (run t limit budget g)) ∙ rw (sub-zero budget));
        out_long = refl;
        spare_long = refl;
        out_behind = refl;
        spare_behind = refl;
      }

  module _ (side : Side) (nodes k : ℕ) (out spare : List ℤ) (s : RunReached side nodes k out spare) where
    pub reached_holds : StartsWith (by_side side cs out spare) nodes
    reached_holds = record { accepted = record { term = s.term; is = s.is }; within = s.within }

    abbrev current : List ℤ
    current = take (2 * nodes) (by_side side cs out spare)

    steps : step_outcome ws current (2 * limit) ≡ gives (step s.table limit s.term)
    steps =
        step_outcome_is ws current (2 * limit) ∙ on_words_lem ws current s.table s.term s.is_table s.is (λ t g. gives (step t (out_limit (2 * limit)) g)) ∙
        rw (limit_of_words limit s.bounded)

    module _ (out' spare' : List ℤ) (r : Result (StdOption Stepped) Refusal) (t : StepsAcross ws cs side nodes (2 * limit) out spare out' spare' r) where
      answers : r ≡ step_answer (gives (step s.table limit s.term))
      answers = t.steps.answer ∙ ap step_answer steps

      -- ONE STEP MORE
      pub reached_more : (n : ℕ) → judged r k budget ≡ Continue n → length out' ≡ length out → length spare' ≡ length spare → 2 * limit ≤ length out₀ → 2 * limit ≤ length spare₀ →
          RunReached (other side) n (k + 1) out' spare'
      reached_more n j o p ro rs =
          let m = succeeds k budget (step s.table limit s.term) n (rw answers at j) in
          let h = m.successor in
          let e = m.counts in
          let b = s.bounded in
          let q = ((step_meets s.table s.is_table.accepted limit s.term).steps m.rule m.action h).0 m.is in
          let f : node_count h ≤ limit = q.1 in
          let to = take (2 * limit) (by_side side out spare out) in
          let w : take (2 * limit) (by_side side out' spare' out') ≡ write (encode (single h)) to =
          t.steps.leaves ∙ ap (λ (o : Outcome StepResult). step_out o to) (steps ∙ ap gives m.is) ∙ step_out_stepped to m.rule m.action h in
          let x : take (2 * n) (by_side (other side) cs out' spare') ≡ encode (single h) =
          ap (take (2 * n)) (next_stands side cs out' spare') ∙ front (encode (single h)) (by_side side out' spare' out') to (2 * n) (2 * limit) (term_length h ∙ ap (λ (y : ℕ). 2 * y) e) (omega arith) w in
          let l = s.out_long in
          let v = s.spare_long in
          let z = both_behind (2 * limit) out spare out' spare' side t.steps.behind t.keeps in
          let y = m.early in
          record {
            table = s.table;
            is_table = s.is_table;
            term = h;
            is = record { accepted = keeps_configuration s.table s.is_table.accepted m.action m.rule s.term h s.is.accepted q.0.rewrites (omega arith); words = sym x };
            within = rw (next_stands side cs out' spare') (either (λ l. 2 * n ≤ length l) side out' spare' (omega arith) (omega arith));
            fits = omega arith;
            bounded = b;
            counts = omega arith;
            runs = s.runs ∙ ap gives (steps_on k budget s.table limit s.term m.rule m.action h m.is m.early);
            out_long = o ∙ l;
            spare_long = p ∙ v;
            out_behind = z.0 ∙ s.out_behind;
            spare_behind = z.1 ∙ s.spare_behind;
          }

      -- THE END
      pub reached_end : (answer : RunAnswer) → judged r k budget ≡ Break answer → RunEnds ws cs budget limit out₀ spare₀ out' spare' (record { answer = answer; last = record { side = side; nodes = nodes } })
      reached_end answer j =
          let e = ends k budget s.table limit s.term (step s.table limit s.term) answer refl (rw answers at j) in
          let c = current_keeps side cs out spare out' spare' t.keeps in
          let z = both_behind (2 * limit) out spare out' spare' side t.steps.behind t.keeps in
          record {
            result = after k (run s.table limit (budget - k) s.term);
            is = s.runs;
            answer = e.0;
            last = rw c (sym s.is.words ∙ ap (λ (g : Term). encode (single g)) (sym e.1));
            within = rw c s.within;
            fits = s.fits;
            out_behind = z.0 ∙ s.out_behind;
            spare_behind = z.1 ∙ s.spare_behind;
          }
