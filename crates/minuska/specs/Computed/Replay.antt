-- The replay, computed: a search over any terms, sizes and successors, and over a table's. `proofs/ReplayLaw`: it meets `ReplayClaim`.
use Rattle.std.specs.Prelude.{true, false, List, [], ◌∷◌, ℕ, leb}
use Rattle.std.proofs.Math.Option.{Option, none, some}
use Rattle.minuska.specs.Term.{Term, node_count}
use Rattle.minuska.specs.Rule.{Table}
use Rattle.minuska.specs.Answer.{ReplayResult, reproduced, exceeded, not_reproduced}
use Rattle.minuska.specs.Computed.Step.{next, order}

-- of two answers the first if it is found, else the second if it is; exceeded if either is
abbrev pub or_later : {A : Type 0} → ReplayResult A → ReplayResult A → ReplayResult A
or_later (reproduced ns t) y = reproduced ns t
or_later exceeded (reproduced ns t) = reproduced ns t
or_later exceeded exceeded = exceeded
or_later exceeded not_reproduced = exceeded
or_later not_reproduced y = y

abbrev pub prepend : {A : Type 0} → ℕ → ReplayResult A → ReplayResult A
prepend n (reproduced ns t) = reproduced (n ∷ ns) t
prepend n exceeded = exceeded
prepend n not_reproduced = not_reproduced

abbrev pub try_all : {A : Type 0} → (ℕ → ReplayResult A) → List ℕ → ReplayResult A
try_all f [] = not_reproduced
try_all f (n ∷ ns) = or_later (f n) (try_all f ns)

-- a rule's successor, if it carries the action and applies (`next`): looked into where it is within the limit
module _ {A : Type 0} (size : A → ℕ) (limit : ℕ) where
  abbrev pub attempt : (A → ReplayResult A) → ℕ → Option A → ReplayResult A
  attempt go n none = not_reproduced
  attempt go n (some u) = elim (leb (size u) limit) [ true ↦ prepend n (go u) | false ↦ exceeded ]

  -- the rules are tried in their order
  module _ (next : ℕ → ℕ → A → Option A) (rules : List ℕ) where
    abbrev pub search : List ℕ → A → ReplayResult A
    search [] t = reproduced [] t
    search (a ∷ log) t = try_all (λ n. attempt (λ u. search log u) n (next a n t)) rules

unfoldable pub replay : Table → ℕ → List ℕ → Term → ReplayResult Term
replay table limit log g = search node_count limit (next table) (order table) log g
