-- Matching a left against a configuration in one walk over both: what the routines take for granted, and what they answer.
use Rattle.std.specs.Prelude.{◌≡◌, ◌↔◌, List, ℕ, ◌+◌, ◌-◌, ◌<◌, ◌≤◌, ℤ, T, length, get_or, Result, Ok, Err, Option, Some, None, IfSome, IfNone}
use Rattle.std.proofs.Math.Option.{none, some}
use Rattle.minuska.specs.Term.{Forest, Term, single, term_count, is_ground}
use Rattle.minuska.specs.Word.{ok, encode}
use Rattle.minuska.specs.Satisfaction.{Valuation, Matches}
use Rattle.minuska.specs.Rule.{is_symbolic, IsConfiguration}
use Rattle.minuska.specs.Computed.Match.{unbound, try_match}
use Rattle.minuska.specs.Computed.Compare.{Comparison, agreed, apart, later, compare, comparison}
use Rattle.minuska.specs.Bridge.Place.{part, Stands, BoundAt, Binds}
use Rattle.step.specs.declared.matching.LeftTurn.{LeftTurn}
use Rattle.step.specs.declared.matching.LeftTurn.TheVariants.{Same, Bind, Again}

-- An accepted left stands in a table from a place up to its end.
pub record IsLeft (table : List ℤ) (at end : ℕ) (l : Term) : Type 0 where
  pub good : T (ok (single l))
  pub symbolic : T (is_symbolic (single l))
  pub stands : Stands table at (encode (single l))
  pub ends : end ≡ at + length (encode (single l))

pub record LeftIn (table : List ℤ) (at end : ℕ) : Type 0 where
  pub left : Term
  pub is : IsLeft table at end left

-- A comparison as the code has it: that all nodes agree, or the place of the first that does not.
abbrev pub compared_by : Comparison → Result (Unit {0}) ℕ
compared_by (agreed ρ) = Ok tt
compared_by (apart k) = Err k

-- The answer for a left and a configuration: whether all nodes agree, or the place of the first that does not. So it says whether some valuation satisfies the left ("a left fits a configuration
-- under a valuation"). Of a match the arrays hold its valuation, with end 0 for a variable that the left has not.
pub record LeftMatched (config : List ℤ) (l g : Term) (starts' ends' : List ℕ) (r : Result (Unit {0}) ℕ) : Type 0 where
  pub answer : r ≡ compared_by (comparison l g)
  pub claim : (r ≡ Ok tt) ↔ ((ρ : Valuation) × Matches ρ (single l) (single g))
  pub binds : (ρ : Valuation) → try_match (single l) (single g) unbound ≡ some ρ → Binds config starts' ends' ρ
  pub free : (ρ : Valuation) → try_match (single l) (single g) unbound ≡ some ρ → (v : ℕ) → ρ v ≡ none → get_or ends' v 0 ≡ 0

-- THE CONTRACT, for every left and configuration that stand there. What the arrays held does not matter. After either answer a term of the
-- configuration stands where an end is not 0; where it is 0 the start keeps.
pub record MatchContract (table : List ℤ) (at end : ℕ) (config : List ℤ) (starts starts' ends' : List ℕ) (r : Result (Unit {0}) ℕ) : Type 0 where
  pub each : (l g : Term) → IsLeft table at end l → IsConfiguration config g → LeftMatched config l g starts' ends' r
  pub parts : (v : ℕ) → (get_or ends' v 0 ≡ 0 → ⊥) → (t : Term) × BoundAt config (get_or starts' v 0) (get_or ends' v 0) v t
  pub keeps : (v : ℕ) → get_or ends' v 0 ≡ 0 → get_or starts' v 0 ≡ get_or starts v 0

-- The words of a part that stand at a place too: the place behind them; none where other words stand, or too few.
pub record Recurs (config : List ℤ) (from to at : ℕ) (r : Option ℕ) : Type 0 where
  pub again : IfSome r (λ e. (e ≡ at + (to - from)) × (e ≤ length config) × (part config from to ≡ part config at e))
  pub other : IfNone r (at + (to - from) ≤ length config → part config from to ≡ part config at (at + (to - from)) → ⊥)

-- The walk has come behind n of the left's nodes, to word i of the table and word j of the configuration. There stand the rest of the left, f, and the rest
-- of the configuration, g, as many terms, each up to its end; σ, which the arrays hold, binds the variables met; and the comparison of the rest is the
-- outcome of the whole.
pub record Walk (table : List ℤ) (end : ℕ) (config : List ℤ) (n i j : ℕ) (starts ends : List ℕ) (f g : Forest) (σ : Valuation) (o : Comparison) : Type 0 where
  pub left_good : T (ok f)
  pub left_symbolic : T (is_symbolic f)
  pub left_stands : Stands table i (encode f)
  pub left_ends : end ≡ i + length (encode f)
  pub ground_good : T (ok g)
  pub ground_ground : T (is_ground g)
  pub ground_stands : Stands config j (encode g)
  pub ground_ends : length config ≡ j + length (encode g)
  pub as_many : term_count f ≡ term_count g
  pub binds : Binds config starts ends σ
  pub free : (v : ℕ) → σ v ≡ none → get_or ends v 0 ≡ 0
  pub outcome : later n (compare f g σ) ≡ o

pub record Walking (table : List ℤ) (end : ℕ) (config : List ℤ) (n i j : ℕ) (starts ends : List ℕ) (o : Comparison) : Type 0 where
  pub lefts : Forest
  pub grounds : Forest
  pub valuation : Valuation
  pub walk : Walk table end config n i j starts ends lefts grounds valuation o

-- one number of an array is put anew, the others keep
pub record Put (old new : List ℕ) (v x : ℕ) : Type 0 where
  pub here : get_or new v 0 ≡ x
  pub others : (u : ℕ) → (u ≡ v → ⊥) → get_or new u 0 ≡ get_or old u 0

-- One turn, from any such place before the left's end: the walk goes on behind what was found, with the same outcome; or the left disagrees there.
pub record TurnFrom (table : List ℤ) (i end : ℕ) (config : List ℤ) (j : ℕ) (starts ends : List ℕ) : Type 0 where
  pub before : i < end
  pub passed : ℕ
  pub outcome : Comparison
  pub walking : Walking table end config passed i j starts ends outcome

abbrev pub After : List ℤ → ℕ → List ℤ → ℕ → ℕ → ℕ → List ℕ → List ℕ → Comparison → Option LeftTurn → Type 0
After table end config n i j starts ends o (Some Same) = Walking table end config (n + 1) (i + 2) (j + 2) starts ends o
After table end config n i j starts ends o (Some (Bind v e)) =
    (v < 16) × (0 < e) × (e ≤ length config) × ((starts' ends' : List ℕ) → Put starts starts' v j → Put ends ends' v e → Walking table end config (n + 1) (i + 2) e starts' ends' o)
After table end config n i j starts ends o (Some (Again e)) = Walking table end config (n + 1) (i + 2) e starts ends o
After table end config n i j starts ends o None = o ≡ apart n

pub record LeftTurned (table : List ℤ) (i end : ℕ) (config : List ℤ) (j : ℕ) (starts ends : List ℕ) (r : Option LeftTurn) : Type 0 where
  pub after : (n : ℕ) (o : Comparison) → i < end → Walking table end config n i j starts ends o → After table end config n i j starts ends o r
