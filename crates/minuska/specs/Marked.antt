-- P1 to P12, and cases of document 02: one table of cases, and what a case means, over the relations and demand 3's claim alone.
use Rattle.std.specs.Prelude.{◌≡◌, Bool, true, false, ◌↔◌, List, [], ◌∷◌, ℕ, ℤ, pos, negsuc, T}
use Rattle.std.proofs.Math.Option.{Option, none, some}
use Rattle.minuska.specs.Basics.{Every}
use Rattle.minuska.specs.Term.{Forest, Term, single}
use Rattle.minuska.specs.Word.{encode}
use Rattle.minuska.specs.Satisfaction.{Valuation, Matches, Evaluates}
use Rattle.minuska.specs.Misfit.{Disagrees}
use Rattle.minuska.specs.Rule.{Table, is_symbolic, is_expression, ok_term, IsTable, IsConfiguration}
use Rattle.minuska.specs.Rewriting.{First, Stuck}
use Rattle.minuska.specs.Answer.{OverLimit, number, reproduced, exceeded, not_reproduced}
use Rattle.minuska.specs.Claim.{ReplayClaim}

-- THE CASES. The paper's words are small, so most are written as ℕ.
abbrev pub words : List ℕ → List ℤ
words [] = []
words (n ∷ ns) = pos n ∷ words ns

-- the whole case's table and configuration
abbrev pub sample : List ℤ
sample =
    words
    (3 ∷ 10 ∷ 1 ∷ 9 ∷ 1 ∷ 3 ∷ 0 ∷ 9 ∷ 1 ∷ 4 ∷ 9 ∷ 3 ∷ 0 ∷ 2 ∷ 1 ∷ 4 ∷ 12 ∷ 2 ∷ 0 ∷ 3 ∷ 0 ∷ 1 ∷ 1 ∷ 10 ∷ 0 ∷ 9 ∷ 1 ∷ 3 ∷ 0 ∷ 10 ∷ 2 ∷ 3 ∷ 0 ∷ 9 ∷ 1 ∷ 3 ∷ 0 ∷ 20 ∷ 0 ∷ 10 ∷ 2 ∷ 3 ∷ 0 ∷ 3 ∷ 1 ∷ 3 ∷ 1 ∷ [])

abbrev pub initial : List ℤ
initial = words (9 ∷ 1 ∷ 2 ∷ 2 ∷ [])

-- what the command line program prints: choices and last words, `not reproduced`, or `refused,` and a number
pub data Printed : Type 0 where
  lines : List ℕ → List ℤ → Printed
  no_path : Printed
  refusal : ℕ → Printed

pub data Case : Type 0 where
  -- an expression's words and its value's
  evaluates : List ℤ → List ℤ → Case
  -- a left's words and a configuration's: does it match?
  matches : List ℤ → List ℤ → Bool → Case
  -- a left's words, a configuration's, and the place, from 0, of the left's node that disagrees
  differs : List ℤ → List ℤ → ℕ → Case
  -- on the sample table: a configuration's words; then the rule, its action and the successor's words, or stuck
  steps : List ℤ → Option (ℕ × ℕ × List ℤ) → Case
  -- on the sample table and configuration: a log and a limit; then what is printed
  replays : List ℕ → ℕ → Printed → Case

unfoldable pub cases : List Case
cases =
    -- P1, as document 02, request 2, has it: z.share(7,1,2) is 4, of -7 it is -4
    evaluates (words (4 ∷ 14 ∷ 2 ∷ 7 ∷ 2 ∷ 1 ∷ 2 ∷ 2 ∷ [])) (words (2 ∷ 4 ∷ [])) ∷
    evaluates (pos 4 ∷ pos 14 ∷ pos 2 ∷ negsuc 6 ∷ words (2 ∷ 1 ∷ 2 ∷ 2 ∷ [])) (pos 2 ∷ negsuc 3 ∷ []) ∷
    -- P2: 9223372036854775807 plus 1 is error
    evaluates (words (4 ∷ 8 ∷ 2 ∷ 9223372036854775807 ∷ 2 ∷ 1 ∷ [])) (words (0 ∷ 0 ∷ [])) ∷
    -- P3: pair[X,X] fits pair[3,3], not pair[3,4]
    matches (words (10 ∷ 4 ∷ 3 ∷ 0 ∷ 3 ∷ 0 ∷ [])) (words (10 ∷ 4 ∷ 2 ∷ 3 ∷ 2 ∷ 3 ∷ [])) true ∷
    matches (words (10 ∷ 4 ∷ 3 ∷ 0 ∷ 3 ∷ 0 ∷ [])) (words (10 ∷ 4 ∷ 2 ∷ 3 ∷ 2 ∷ 4 ∷ [])) false ∷
    -- P4: bool.and(true, 1) is error
    evaluates (words (4 ∷ 3 ∷ 1 ∷ 1 ∷ 2 ∷ 1 ∷ [])) (words (0 ∷ 0 ∷ [])) ∷
    -- P5: spin[2] steps by rule 0 to spin[1]
    steps (words (9 ∷ 1 ∷ 2 ∷ 2 ∷ [])) (some (0, 10, words (9 ∷ 1 ∷ 2 ∷ 1 ∷ []))) ∷
    -- P6: spin[0] steps by rule 1, to bonus[0, spin[0]]
    steps (words (9 ∷ 1 ∷ 2 ∷ 0 ∷ [])) (some (1, 10, words (10 ∷ 2 ∷ 2 ∷ 0 ∷ 9 ∷ 1 ∷ 2 ∷ 0 ∷ []))) ∷
    -- P7: hold[spin[2]] is stuck
    steps (words (9 ∷ 3 ∷ 9 ∷ 1 ∷ 2 ∷ 2 ∷ [])) none ∷
    -- P8: log 10,20, ceiling 4
    replays (10 ∷ 20 ∷ []) 4 (lines (1 ∷ 2 ∷ []) (words (9 ∷ 1 ∷ 2 ∷ 2 ∷ []))) ∷
    -- P9: the same with ceiling 3
    replays (10 ∷ 20 ∷ []) 3 (refusal 6) ∷
    -- P10: log 20
    replays (20 ∷ []) 4 no_path ∷
    -- P11: the empty log
    replays [] 4 (lines [] (words (9 ∷ 1 ∷ 2 ∷ 2 ∷ []))) ∷
    -- P12: log 10,10,20
    replays (10 ∷ 10 ∷ 20 ∷ []) 4 (lines (0 ∷ 1 ∷ 2 ∷ []) (words (9 ∷ 1 ∷ 2 ∷ 1 ∷ []))) ∷
    -- "5 over 2 gives 2" (document 02, request 2)
    evaluates (words (4 ∷ 14 ∷ 2 ∷ 5 ∷ 2 ∷ 1 ∷ 2 ∷ 2 ∷ [])) (words (2 ∷ 2 ∷ [])) ∷
    -- "a repeated variable's at its later place" (document 02, request 3): pair[X,X] and pair[3,4]; "another count": pair[pair[X],X] and pair[pair,3]
    differs (words (10 ∷ 4 ∷ 3 ∷ 0 ∷ 3 ∷ 0 ∷ [])) (words (10 ∷ 4 ∷ 2 ∷ 3 ∷ 2 ∷ 4 ∷ [])) 2 ∷
    differs (words (10 ∷ 4 ∷ 9 ∷ 4 ∷ 3 ∷ 0 ∷ 3 ∷ 0 ∷ [])) (words (10 ∷ 4 ∷ 8 ∷ 4 ∷ 2 ∷ 3 ∷ [])) 1 ∷ []

-- WHAT A CASE MEANS. These words are that term, which is an expression, or has no call.
pub record IsTerm (kind : Forest → Bool) (ws : List ℤ) (t : Term) : Type 0 where
  pub accepted : T (ok_term t)
  pub is_kind : T (kind (single t))
  pub encoded : encode (single t) ≡ ws

-- Under every valuation, g satisfies the expression and no other term does.
abbrev pub Worth : Term → Term → Type 0
Worth e g = (ρ : Valuation) (h : Term) → Evaluates ρ (single e) (single h) ↔ (g ≡ h)

-- The left matches under some valuation; under none.
abbrev pub Fits : Bool → Term → Term → Type 0
Fits true l g = (ρ : Valuation) × Matches ρ (single l) (single g)
Fits false l g = (ρ : Valuation) → Matches ρ (single l) (single g) → ⊥

-- The earliest rule that applies, its action and the successor's words; no rule and valuation relate g to any term.
abbrev pub Steps : Option (ℕ × ℕ × List ℤ) → Table → Term → Type 0
Steps none table g = Stuck table g
Steps (some x) table g = (h : Term) × IsConfiguration x.2 h × First table g x.0 x.1 h

-- Demand 3's claim, of the answer that is printed.
abbrev pub Prints : List ℕ → ℕ → Printed → Table → Term → Type 0
Prints log limit (lines choices ws) table g = (last : Term) × IsConfiguration ws last × ReplayClaim table limit log g (reproduced choices last)
Prints log limit no_path table g = ReplayClaim table limit log g not_reproduced
Prints log limit (refusal n) table g = (number OverLimit ≡ n) × ReplayClaim table limit log g exceeded

-- The case's words are a term or a table, and a configuration, of which that holds.
abbrev pub Means : Case → Type 0
Means (evaluates e v) = (t : Term) × (g : Term) × IsTerm is_expression e t × IsConfiguration v g × Worth t g
Means (matches l c b) = (t : Term) × (g : Term) × IsTerm is_symbolic l t × IsConfiguration c g × Fits b t g
Means (differs l c place) = (t : Term) × (g : Term) × IsTerm is_symbolic l t × IsConfiguration c g × Disagrees t g place
Means (steps c x) = (table : Table) × (g : Term) × IsTable sample table × IsConfiguration c g × Steps x table g
Means (replays log limit x) = (table : Table) × (g : Term) × IsTable sample table × IsConfiguration initial g × Prints log limit x table g

-- THE ONE STATEMENT: every case of the table (`proofs/MarkedLaw`: it holds).
abbrev pub AllMean : Type 0
AllMean = Every Means cases
