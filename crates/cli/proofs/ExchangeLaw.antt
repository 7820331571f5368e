-- P8 to P12, from the bytes that are read to the bytes that are written (`all_answered`).
use mathlib.Core.Path.{◌≡◌, refl, ap, ◌∙◌}
use mathlib.Core.Bool.{Bool, true, false, ◌&&◌}
use Rattle.std.specs.Prelude.{Some}
use mathlib.Core.List.{List, [], ◌∷◌, map}
use Prim.Native.Nat.{ℕ}
use lib.Dec.{T, leb, lit≤}
use lib.ListN.{length}
use borrow.Author.Tests.{le-leb}
use Rattle.minuska.specs.Basics.{every, Every}
use Rattle.minuska.specs.Term.{Term}
use Rattle.minuska.specs.Rule.{Table, ok_table}
use Rattle.minuska.specs.Answer.{Outcome, refused, gives, ReplayResult, reproduced, exceeded, not_reproduced}
use Rattle.minuska.specs.Claim.{ReplayClaim}
use Rattle.minuska.specs.Slice.{write, replay_says}
use Rattle.minuska.specs.Computed.Read.{read_table, read_configuration}
use Rattle.minuska.specs.Computed.Replay.{replay}
use Rattle.minuska.specs.Computed.Outcome.{replay_outcome}
use Rattle.minuska.specs.Marked as M
use Rattle.minuska.specs.Marked.{words, sample, initial, Printed, lines, no_path, refusal, evaluates, matches, differs, steps, replays, Prints, Means}
use Rattle.minuska.proofs.Tests.{and_left, and_right}
use Rattle.minuska.proofs.ReplayLaw.{replay_only}
use Rattle.minuska.proofs.OutcomeLaw.{replay_outcome_lem}
use Rattle.minuska.proofs.MarkedLaw.{all_mean}
use Rattle.decimal.specs.Decimal.{ascii, digits, decimal, whole_text}
use Rattle.decimal.specs.Line.{parted, is_word, is_action, is_limit}
use Rattle.cli.specs.Input.{line, Request, input_text, Field, IsInput}
use Rattle.cli.specs.Output.{answered, answer_text, reproduced_text, not_reproduced_text}
use Rattle.cli.specs.Contract.{max_output}
use Rattle.cli.specs.Exchange.{Exchange, cases, Answered, AllAnswered}

-- ---- what the program prints by the table of cases, as text
abbrev refusal_text : ℕ → List ℕ
refusal_text n = line (ascii "refused" ∷ decimal n ∷ [])

abbrev printed_text : Printed → List ℕ
printed_text (lines choices ws) = reproduced_text choices ws
printed_text no_path = not_reproduced_text
printed_text (refusal n) = refusal_text n

-- ---- a case on the sample table and configuration
abbrev sampled : List ℕ → ℕ → Request
sampled log limit = record { table = sample; configuration = initial; log = log; limit = limit }

-- the text of the answer that meets the case's claim
meant_text : (log : List ℕ) (limit : ℕ) (x : Printed) (table : Table) (g : Term) → T (ok_table table) → Prints log limit x table g → (y : ReplayResult Term) → ReplayClaim table limit log g y → answer_text (gives y) ≡ printed_text x
unfolding answer_text replay_says
meant_text log limit (lines choices ws) table g k p y c =
    ap (λ (z : ReplayResult Term). answer_text (gives z)) (replay_only table k limit log g y (reproduced choices p.0) c p.2) ∙
    ap (reproduced_text choices) p.1.words
meant_text log limit no_path table g k p y c =
    ap (λ (z : ReplayResult Term). answer_text (gives z)) (replay_only table k limit log g y not_reproduced c p)
meant_text log limit (refusal n) table g k p y c =
    ap (λ (z : ReplayResult Term). answer_text (gives z)) (replay_only table k limit log g y exceeded c p.1) ∙ ap refusal_text p.0

-- 1 to 5 are not given
abbrev is_answer : Outcome (ReplayResult Term) → Bool
is_answer (refused r) = false
is_answer (gives y) = true

answer_text_lem : (log : List ℕ) (limit : ℕ) (x : Printed) → Means (replays log limit x) → (o : Outcome (ReplayResult Term)) → replay_outcome sample initial log limit 1024 256 4096 ≡ o → T (is_answer o) → answer_text o ≡ printed_text x
answer_text_lem log limit x m (refused r) e t = absurd t
answer_text_lem log limit x m (gives y) e t =
    meant_text log limit x m.0 m.1 m.2.accepted m.4 y ((replay_outcome_lem sample initial log limit 1024 256 4096).meets m.0 m.1 y m.2 m.3 e)

abbrev is_answered : M.Case → Bool
is_answered (evaluates e v) = true
is_answered (matches l c b) = true
is_answered (differs l c k) = true
is_answered (steps c x) = true
is_answered (replays log limit x) = is_answer (replay_outcome sample initial log limit 1024 256 4096)

-- What the program writes for a replay of the table is what the case says.
abbrev Writes : M.Case → Type 0
Writes (evaluates e v) = Unit {0}
Writes (matches l c b) = Unit {0}
Writes (differs l c k) = Unit {0}
Writes (steps c x) = Unit {0}
Writes (replays log limit x) = answer_text (answered (Some (sampled log limit))) ≡ printed_text x

case_writes : (c : M.Case) → T (is_answered c) → Means c → Writes c
unfolding answered
case_writes (evaluates e v) t m = tt
case_writes (matches l c b) t m = tt
case_writes (differs l c k) t m = tt
case_writes (steps c x) t m = tt
case_writes (replays log limit x) t m = answer_text_lem log limit x m (replay_outcome sample initial log limit 1024 256 4096) refl t

every_writes : (cs : List M.Case) → T (every is_answered cs) → Every Means cs → Every Writes cs
every_writes [] t m = tt
every_writes (c ∷ cs) t m =
    (case_writes c (and_left (is_answered c) (every is_answered cs) t) m.0, every_writes cs (and_right (is_answered c) (every is_answered cs) t) m.1)

all_taken : T (every is_answered M.cases)
unfolding M.cases replay_outcome read_table read_configuration replay
all_taken = tt

all_written : Every Writes M.cases
all_written = every_writes M.cases all_taken all_mean

-- ---- its text is an input
abbrev field_test : {A : Type 0} → (A → List ℕ) → (A → Bool) → ℕ → ℕ → List A → Bool
field_test text fits least most xs = every fits xs && (leb least (length xs) && (leb (length xs) most && leb (length (parted (map text xs))) 16384))

field_holds : {A : Type 0} (text : A → List ℕ) (fits : A → Bool) (least most : ℕ) (xs : List A) → T (field_test text fits least most xs) → Field text fits least most xs
field_holds text fits least most xs t =
    let a = and_right (every fits xs) (leb least (length xs) && (leb (length xs) most && leb (length (parted (map text xs))) 16384)) t in
    let b = and_right (leb least (length xs)) (leb (length xs) most && leb (length (parted (map text xs))) 16384) a in
    record {
      each = and_left (every fits xs) (leb least (length xs) && (leb (length xs) most && leb (length (parted (map text xs))) 16384)) t;
      enough = lit≤ (and_left (leb least (length xs)) (leb (length xs) most && leb (length (parted (map text xs))) 16384) a);
      few = lit≤ (and_left (leb (length xs) most) (leb (length (parted (map text xs))) 16384) b);
      short = lit≤ (and_right (leb (length xs) most) (leb (length (parted (map text xs))) 16384) b);
    }

sample_input : (log : List ℕ) (limit : ℕ) (input : List ℕ) → input ≡ input_text (sampled log limit) → T (field_test decimal is_action 0 256 log) → T (field_test decimal is_limit 1 1 (limit ∷ [])) → IsInput input (sampled log limit)
unfolding whole_text decimal digits
sample_input log limit input text l n =
    record {
      text = text;
      table = field_holds whole_text is_word 1 2048 sample tt;
      configuration = field_holds whole_text is_word 1 1024 (initial) tt;
      log = field_holds decimal is_action 0 256 log l;
      limit = field_holds decimal is_limit 1 1 (limit ∷ []) n;
    }

-- ---- bytes that are the text of a replay of the table
answered_case : (log : List ℕ) (limit : ℕ) (x : Printed) (c : Exchange) → Writes (replays log limit x) → c.input ≡ input_text (sampled log limit)
    → T (field_test decimal is_action 0 256 log) → T (field_test decimal is_limit 1 1 (limit ∷ [])) → printed_text x ≡ c.output → Answered c
answered_case log limit x c w text l n out output output' r room k =
    let read : k.request ≡ Some (sampled log limit) = (k.reads (sampled log limit)).1 (sample_input log limit c.input text l n) in
    let prints : answer_text k.outcome ≡ c.output = ap answer_text (k.is ∙ ap answered read) ∙ (w ∙ out) in
    let says : k.text ≡ c.output = k.says ∙ rw (le-leb max_output (length output) room) prints in
    (k.leaves ∙ ap (λ (l : List ℕ). write l output) says, k.counts ∙ ap length says)

-- P8 TO P12, FROM BYTES TO BYTES: they stand behind nine others
pub all_answered : AllAnswered cases
unfolding M.cases input_text whole_text decimal digits
all_answered =
    let marked = all_written.1.1.1.1.1.1.1.1.1 in (
      answered_case (10 ∷ 20 ∷ []) 4 (lines (1 ∷ 2 ∷ []) (words (9 ∷ 1 ∷ 2 ∷ 2 ∷ []))) _ marked.0 refl tt tt refl,
      (
        answered_case (10 ∷ 20 ∷ []) 3 (refusal 6) _ marked.1.0 refl tt tt refl,
        (
          answered_case (20 ∷ []) 4 no_path _ marked.1.1.0 refl tt tt refl,
          (
            answered_case [] 4 (lines [] (words (9 ∷ 1 ∷ 2 ∷ 2 ∷ []))) _ marked.1.1.1.0 refl tt tt refl,
            (answered_case (10 ∷ 10 ∷ 20 ∷ []) 4 (lines (0 ∷ 1 ∷ 2 ∷ []) (words (9 ∷ 1 ∷ 2 ∷ 1 ∷ []))) _ marked.1.1.1.1.0 refl tt tt refl, tt),
          ),
        ),
      ),
    )
