-- What a run leaves is what its contract says: the last configuration, zeros, and the words behind them; or, refused, every word.
use mathlib.Core.Path.{◌≡◌, sym, ◌∙◌, ap}
use mathlib.Core.List.{List, ◌++◌}
use Prim.Native.Nat.{ℕ, ◌-◌, ◌*◌, ◌≤◌}
use native.Mathlib.Omega.{arith}
use lib.IntN.{ℤ, pos}
use lib.ListN.{length, take, drop, replicate, length-append, length-replicate}
use lib.Seq.{length-take-le}
use Rattle.std.specs.Prelude.{Ok, Err}
use Rattle.minuska.specs.declared.Refusal.{Refusal}
use Rattle.minuska.specs.Term.{single}
use Rattle.minuska.specs.Word.{encode}
use Rattle.minuska.specs.Answer.{Outcome, refused, RunResult}
use Rattle.minuska.specs.Slice.{write_filled, run_answer, run_out, run_spare}
use Rattle.minuska.specs.Contract.{RunContract}
use Rattle.minuska.specs.Computed.Outcome.{run_outcome}
use Rattle.minuska.proofs.ContractLaw.{run_contract}
use Rattle.minuska.proofs.ShutLaw.{run_out_refused, run_out_gives, run_spare_refused, run_spare_gives}
use Rattle.words.proofs.CopyLaw.{same_zeros}
use Rattle.run.specs.declared.Ended.{Ended}
use Rattle.run.specs.Sides.{by_side}
use Rattle.run.specs.Ending.{RunEnds, Finishes}

-- ---- words and zeros written from the start of a slice
filled_length : (n : ℕ) (xs : List ℤ) → length xs ≤ n → length (xs ++ replicate (n - length xs) (pos 0)) ≡ n
filled_length n xs h = length-append xs (replicate (n - length xs) (pos 0)) ∙ rw (length-replicate (n - length xs) (pos 0)) (omega arith)

same_filled : (n : ℕ) (xs old old' : List ℤ) → length xs ≤ n → drop n old' ≡ drop n old → write_filled n xs old' ≡ write_filled n xs old
same_filled n xs old old' h e = rw (filled_length n xs h, e)

-- ---- the contract
module _ (ws cs : List ℤ) (budget limit : ℕ) (out spare : List ℤ) where
  abbrev outcome : Outcome RunResult
  outcome = run_outcome ws cs budget limit (length out) (length spare)

  pub ended : (r : Ended) (out₁ spare₁ out₂ spare₂ : List ℤ) → RunEnds ws cs budget limit out spare out₁ spare₁ r →
      Finishes (2 * limit) (take (2 * r.last.nodes) (by_side r.last.side cs out₁ spare₁)) out₁ spare₁ out₂ spare₂ → RunContract ws cs budget limit out spare out₂ spare₂ (Ok r.answer)
  ended r out₁ spare₁ out₂ spare₂ p q =
      let xs = encode (single p.result.last) in
      let l = length-take-le (2 * r.last.nodes) (by_side r.last.side cs out₁ spare₁) p.within in
      let m : length xs ≡ 2 * r.last.nodes = ap length (sym p.last) ∙ l in
      let f = p.fits in
      run_contract ws cs budget limit out spare out₂ spare₂ (Ok r.answer) (p.answer ∙ ap run_answer (sym p.is))
      (q.leaves ∙ ap (λ (y : List ℤ). write_filled (2 * limit) y out₁) p.last ∙ same_filled (2 * limit) xs out out₁ (omega arith) p.out_behind ∙
      sym (run_out_gives out limit p.result) ∙ ap (λ (o : Outcome RunResult). run_out limit o out) (sym p.is))
      (q.leaves_spare ∙ same_zeros (2 * limit) spare spare₁ p.spare_behind ∙
      sym (run_spare_gives spare limit p.result) ∙ ap (λ (o : Outcome RunResult). run_spare limit o spare) (sym p.is))

  pub turned_back_lem : (e : Refusal) → run_outcome ws cs budget limit (length out) (length spare) ≡ refused e → RunContract ws cs budget limit out spare out spare (Err e)
  unfolding run_answer
  turned_back_lem e p =
      run_contract ws cs budget limit out spare out spare (Err e) (ap run_answer (sym p))
      (sym (run_out_refused out limit e) ∙ ap (λ (o : Outcome RunResult). run_out limit o out) (sym p))
      (sym (run_spare_refused spare limit e) ∙ ap (λ (o : Outcome RunResult). run_spare limit o spare) (sym p))
