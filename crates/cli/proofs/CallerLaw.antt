-- What a caller of the replay reads off its contract: there are as many choices as actions, and the replay never says 7.
use mathlib.Core.Path.{◌≡◌, refl, ap, subst}
use mathlib.Core.List.{List, [], ◌∷◌}
use Prim.Native.Nat.{ℕ, suc, ◌≤◌, ◌<◌}
use native.Mathlib.Omega.{arith}
use lib.IntN.{ℤ}
use Rattle.std.specs.Prelude.{Result}
use Rattle.minuska.specs.declared.Refusal.{Refusal}
use lib.ListN.{length}
use Rattle.minuska.specs.declared.ReplayAnswer.{ReplayAnswer}
use Rattle.minuska.specs.Term.{Term, node_count}
use Rattle.minuska.specs.Rule.{max_actions}
use Rattle.minuska.specs.Claim.{size_rows, ReplayShort}
use Rattle.minuska.specs.Rewriting.{RewritesBy}
use Rattle.minuska.specs.Path.{Yields}
use Rattle.minuska.specs.declared.Refusal.TheVariants.{Unreadable}
use Rattle.minuska.specs.Answer.{number, Outcome, refused, gives, ReplayResult, reproduced}
use Rattle.minuska.specs.Computed.Outcome.{replay_outcome}
use Rattle.minuska.specs.Contract.{ReplayContract}
use Rattle.minuska.proofs.RefusalLaw.{NumberWithin, words_read, size_numbers, replay_refuses}

-- a path has a rule for each action
pub yields_length : {A : Type 0} (Next : ℕ → ℕ → A → A → Type 0) (Each : A → Type 0) (t : A) (log choices : List ℕ) (last : A) → Yields Next Each t log choices last → length choices ≡ length log
yields_length Next Each t [] [] last h = refl
yields_length Next Each t [] (n ∷ ns) last h = absurd h
yields_length Next Each t (a ∷ log) [] last h = absurd h
yields_length Next Each t (a ∷ log) (n ∷ ns) last h = ap suc (yields_length Next Each h.1.0 log ns last h.1.2)

pub choices_length : (ws cs : List ℤ) (log : List ℕ) (n : ℕ) (out : List ℤ) (choices : List ℕ) (work out' : List ℤ) (choices' : List ℕ) (work' : List ℤ) (r : Result ReplayAnswer Refusal)
    (k : ReplayContract ws cs log n out choices work out' choices' work' r) (ns : List ℕ) (h : Term) → k.outcome ≡ gives (reproduced ns h) → length ns ≡ length log
choices_length ws cs log n out choices work out' choices' work' r k ns h e =
    let (t, g, p, q, s) = words_read ws cs (size_rows cs n (max_actions < length log) (ReplayShort n log (length out) (length choices) (length work))) k.outcome (reproduced ns h) e k.refuses in
    let c = k.claim.meets t g (reproduced ns h) p q e in
    yields_length (RewritesBy t) (λ u. node_count u ≤ n) g log ns h (c.such ns h refl)

-- 7 is the command line program's alone
pub readable : (ws cs : List ℤ) (log : List ℕ) (n out choices work : ℕ) → replay_outcome ws cs log n out choices work ≡ refused Unreadable → ⊥
unfolding number
readable ws cs log n out choices work e =
    let h : NumberWithin 5 (replay_outcome ws cs log n out choices work) = size_numbers ws cs n (max_actions < length log) (ReplayShort n log out choices work) (replay_outcome ws cs log n out choices work) (replay_refuses ws cs log n out choices work) in
    let k : 7 ≤ 5 = subst (λ (o : Outcome (ReplayResult Term)). NumberWithin 5 o) e h in
    omega arith
