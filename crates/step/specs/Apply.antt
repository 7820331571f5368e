-- One rule at one configuration, over checked words. Each statement is about every rule and term that the words can be: there is only one of each.
use Rattle.std.specs.Prelude.{◌≡◌, Bool, cond, List, ℕ, ◌≤◌, ℤ, leb, length, Result, Ok, Err}
use Rattle.std.proofs.Math.Option.{some}
use Rattle.std.proofs.Math.ListN.{get_elem?}
use Rattle.minuska.specs.Term.{Term, single, node_count}
use Rattle.minuska.specs.Word.{encode}
use Rattle.minuska.specs.Satisfaction.{Valuation}
use Rattle.minuska.specs.Rule.{Rule, Table, IsTable, IsConfiguration}
use Rattle.minuska.specs.Slice.{write, out_limit}
use Rattle.minuska.specs.declared.Stepped.{Stepped}
use Rattle.minuska.specs.declared.Refusal.{Refusal}
use Rattle.minuska.specs.declared.Refusal.TheVariants.{OverLimit}
use Rattle.minuska.specs.Computed.Match.{try_match, unbound}
use Rattle.minuska.specs.Computed.Compare.{comparison}
use Rattle.minuska.specs.Computed.Reasons.{failing}
use Rattle.minuska.specs.Computed.Value.{value}
use Rattle.minuska.specs.Bridge.Place.{Binds}
use Rattle.term.specs.declared.places.Places.{Places}
use Rattle.step.specs.declared.rule.Attempt.{Attempt}
use Rattle.step.specs.Matching.{compared_by}
use Rattle.step.specs.Conditions.{failed_by}

-- rule number n of the table that the words are, and the configuration that they are
pub record Candidate (ws cs : List ℤ) (n : ℕ) (rule : Rule) (g : Term) : Type 0 where
  pub table : Table
  pub is : IsTable ws table
  pub numbered : get_elem? table n ≡ some rule
  pub configuration : IsConfiguration cs g

-- its left matches the configuration under ρ, and the two arrays hold where ρ's terms stand
pub record Matched (ws cs : List ℤ) (n : ℕ) (starts ends : List ℕ) (rule : Rule) (g : Term) (ρ : Valuation) : Type 0 where
  pub at : Candidate ws cs n rule g
  pub matched : try_match (single rule.left) (single g) unbound ≡ some ρ
  pub binds : Binds cs starts ends ρ

-- what the routines behind a match rely on: there is such a rule, configuration and valuation
pub record SomeMatched (ws cs : List ℤ) (n : ℕ) (starts ends : List ℕ) : Type 0 where
  pub rule : Rule
  pub configuration : Term
  pub valuation : Valuation
  pub is : Matched ws cs n starts ends rule configuration valuation

-- the left's answer: whether it matches, or where it disagrees; and, if it matches, where the variables' terms stand
pub record MatchIs (ws cs : List ℤ) (n : ℕ) (starts' ends' : List ℕ) (r : Result (Unit {0}) ℕ) : Type 0 where
  pub answer : (rule : Rule) (g : Term) → Candidate ws cs n rule g → r ≡ compared_by (comparison rule.left g)
  pub binds : (rule : Rule) (g : Term) (ρ : Valuation) → Candidate ws cs n rule g → try_match (single rule.left) (single g) unbound ≡ some ρ → Binds cs starts' ends' ρ

-- the conditions' answer: that they hold, or the first that fails
pub record HoldIs (ws cs : List ℤ) (n : ℕ) (starts ends : List ℕ) (r : Result (Unit {0}) ℕ) : Type 0 where
  pub is : (rule : Rule) (g : Term) (ρ : Valuation) → Matched ws cs n starts ends rule g ρ → r ≡ failed_by (failing ρ rule.conditions)

-- whether there is room for the right's words
pub record FitsIs (ws cs : List ℤ) (n : ℕ) (starts ends : List ℕ) (room : ℕ) (r : Bool) : Type 0 where
  pub is : (rule : Rule) (g : Term) (ρ : Valuation) (h : Term) → Matched ws cs n starts ends rule g ρ → value ρ rule.right ≡ some h → r ≡ leb (length (encode (single h))) room

-- the right's words fit; so many are written, and the words behind keep
pub record WordsFit (ws cs : List ℤ) (n : ℕ) (starts ends : List ℕ) (room : ℕ) : Type 0 where
  pub fit : (rule : Rule) (g : Term) (ρ : Valuation) (h : Term) → Matched ws cs n starts ends rule g ρ → value ρ rule.right ≡ some h → length (encode (single h)) ≤ room

pub record WriteIs (ws cs : List ℤ) (n : ℕ) (starts ends : List ℕ) (out out' : List ℤ) (r : ℕ) : Type 0 where
  pub is : (rule : Rule) (g : Term) (ρ : Valuation) (h : Term) → Matched ws cs n starts ends rule g ρ → value ρ rule.right ≡ some h → out' ≡ write (encode (single h)) out
  pub many : (rule : Rule) (g : Term) (ρ : Valuation) (h : Term) → Matched ws cs n starts ends rule g ρ → value ρ rule.right ≡ some h → r ≡ length (encode (single h))

-- the successor that the right gives, in the out slice and in the answer
unfoldable pub instantiated_as : ℕ → ℕ → ℕ → Term → Result Stepped Refusal
instantiated_as limit n a h = cond (leb (node_count h) limit) (Ok (record { rule = n; action = a; nodes = node_count h })) (Err OverLimit)

unfoldable pub instantiated_out : ℕ → Term → List ℤ → List ℤ
instantiated_out limit h out = cond (leb (node_count h) limit) (write (encode (single h)) out) out

pub record Instantiated (ws cs : List ℤ) (n : ℕ) (starts ends : List ℕ) (out out' : List ℤ) (r : Result Stepped Refusal) : Type 0 where
  pub answer : (rule : Rule) (g : Term) (ρ : Valuation) (h : Term) → Matched ws cs n starts ends rule g ρ → value ρ rule.right ≡ some h → r ≡ instantiated_as (out_limit (length out)) n rule.action h
  pub leaves : (rule : Rule) (g : Term) (ρ : Valuation) (h : Term) → Matched ws cs n starts ends rule g ρ → value ρ rule.right ≡ some h → out' ≡ instantiated_out (out_limit (length out)) h out

-- THE SAME OVER A RULE AT A CONFIGURATION AND THE PLACES OF A MATCH, as the contracts of the code name it
module _ (a : Attempt) (p : Places) where
  abbrev pub MatchedHere : Type 0
  MatchedHere = SomeMatched a.rule.table.words.now a.configuration.words.now a.rule.number p.starts p.ends

  abbrev pub MatchIsHere : Result (Unit {0}) ℕ → Type 0
  MatchIsHere r = MatchIs a.rule.table.words.now a.configuration.words.now a.rule.number p.starts p.ends r

  abbrev pub HoldIsHere : Result (Unit {0}) ℕ → Type 0
  HoldIsHere r = HoldIs a.rule.table.words.now a.configuration.words.now a.rule.number p.starts p.ends r

  abbrev pub FitsIsHere : ℕ → Bool → Type 0
  FitsIsHere room r = FitsIs a.rule.table.words.now a.configuration.words.now a.rule.number p.starts p.ends room r

  abbrev pub WordsFitHere : ℕ → Type 0
  WordsFitHere room = WordsFit a.rule.table.words.now a.configuration.words.now a.rule.number p.starts p.ends room

  abbrev pub WriteIsHere : List ℤ → List ℤ → ℕ → Type 0
  WriteIsHere out out' r = WriteIs a.rule.table.words.now a.configuration.words.now a.rule.number p.starts p.ends out out' r

  abbrev pub InstantiatedHere : List ℤ → List ℤ → Result Stepped Refusal → Type 0
  InstantiatedHere out out' r = Instantiated a.rule.table.words.now a.configuration.words.now a.rule.number p.starts p.ends out out' r
