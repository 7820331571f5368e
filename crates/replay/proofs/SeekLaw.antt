-- Positions in the order of rules: which rule stands at one, and what it gives under an action.
use mathlib.Core.Path.{◌≡◌, sym, ◌∙◌, subst}
use mathlib.Core.Option.{none}
use mathlib.Core.List.{List}
use Prim.Native.Nat.{ℕ, ◌+◌, ◌≤◌, ◌<◌}
use native.Mathlib.Omega.{arith}
use native.Mathlib.Decide.{dec_lt}
use lib.IntN.{ℤ}
use lib.ListN.{length, get_or}
use Rattle.minuska.specs.Term.{Term}
use Rattle.minuska.specs.Rule.{Table, IsTable}
use Rattle.minuska.specs.Computed.Step.{next, order}
use Rattle.minuska.proofs.Bridge.PositionLaw.{element_at, element_there, few_rules, order_names, next_other}
use Rattle.minuska.specs.Bridge.Place.{ActionIs, OrderedIs}
use Rattle.replay.specs.Reading.{table_of}
use Rattle.replay.specs.Turns.{Carries, Skipped, Sought}

module _ (ws : List ℤ) (good : IsTable ws (table_of ws)) where
  abbrev t : Table
  t = table_of ws

  abbrev rule : ℕ → ℕ
  rule q = get_or (order t) q 0

  pub ordered_is : (q r : ℕ) → q < length (order t) → OrderedIs ws q r → r ≡ rule q
  ordered_is q r h o = o.is t good (rule q) (element_at (order t) 0 q h)

  pub rule_small : (q : ℕ) → q < length (order t) → rule q < 256
  rule_small q h = let a = order_names t q h in let b = few_rules t good.accepted in omega arith

  module _ (q b a : ℕ) (h : q < length (order t)) (is : ActionIs ws (rule q) b) where
    pub carries : b ≡ a → Carries t a (rule q)
    carries e = let r = element_there t (rule q) (order_names t q h) in record { rule = r.0; named = r.1; acts = sym (is.is t r.0 good r.1) ∙ e }

    pub gives_none : (g : Term) → (b ≡ a → ⊥) → next t a (rule q) g ≡ none
    gives_none g e = let r = element_there t (rule q) (order_names t q h) in next_other t a (rule q) r.0 r.1 g (λ f. e (is.is t r.0 good r.1 ∙ f))

  -- ---- the loop, at position p, as the code sees the rule there
  module _ (a from p r b : ℕ) (s : Skipped t a from p) (here : p < length (order t)) (o : OrderedIs ws p r) (is : ActionIs ws r b) where
    acts : ActionIs ws (rule p) b
    acts = subst (λ (x : ℕ). ActionIs ws x b) (ordered_is p r here o) is

    pub seek_found : from ≤ p → b ≡ a → Sought t (length (order t)) a from p
    seek_found above e = record { above = above; within = here; skipped = s; carried = carries p b a here acts e }

    pub seek_on : (b ≡ a → ⊥) → Skipped t a from (p + 1)
    seek_on e = λ q i j g. at q i j g (dec_lt q p)
      where
        at : (q : ℕ) → from ≤ q → q < p + 1 → (g : Term) → Dec (q < p) → next t a (rule q) g ≡ none
        at q i j g (yes k) = s q i k g
        at q i j g (no k) =
            let f : p ≡ q = omega arith in
            subst (λ (x : ℕ). next t a (rule x) g ≡ none) f (gives_none p b a here acts g e)
