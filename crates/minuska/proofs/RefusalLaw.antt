-- "Turned back": each refusal is given exactly if its sentence says, lower numbers first.
use mathlib.Core.Path.{◌≡◌, refl, sym, ◌∙◌, ap, subst, subst⁻¹}
use mathlib.Core.Bool.{Bool, true, false, ◌||◌, cond, true≢false}
use mathlib.Core.Logic.{◌⊎◌, inl, inr}
use mathlib.Core.Option.{Option, none, some, none-ne-some, some-injective}
use mathlib.Core.List.{List, [], ◌∷◌}
use Prim.Native.Nat.{ℕ, ◌*◌, ◌≤◌, ◌<◌}
use native.Mathlib.Omega.{arith}
use lib.Dec.{eqb, ltb, lit≤}
use lib.ListN.{length}
use lib.IntN.{ℤ}
use borrow.Author.Tests.{eqb-true, eqb-false, ltb-true, ltb-false}
use Rattle.minuska.specs.Term.{Term, node_count}
use Rattle.minuska.specs.Rule.{Table, max_nodes, max_steps, max_actions, IsTable, IsConfiguration}
use Rattle.minuska.specs.Answer.{Refusal, number, BadTable, BadConfiguration, Row, Outcome, refused, gives}
use Rattle.minuska.specs.Claim.{FirstGiven, table_row, configuration_row, word_rows, LimitOutside, short_row, size_rows, step_rows, ReasonsShort, reasons_rows, RunShort, run_rows, work_words, ReplayShort, replay_rows}
use Rattle.minuska.specs.Computed.Read.{read_table, read_configuration}
use Rattle.minuska.specs.Bridge.Place.{Decides}
use Rattle.minuska.specs.Computed.Compare.{match_rule}
use Rattle.minuska.specs.Computed.Step.{step_by_rule, step}
use Rattle.minuska.specs.Computed.Reasons.{reasons}
use Rattle.minuska.specs.Computed.Run.{run}
use Rattle.minuska.specs.Computed.Replay.{replay}
use Rattle.minuska.specs.Slice.{out_limit}
use Rattle.minuska.specs.Computed.Outcome.{need, on_words, Test, tested, size_tests, match_outcome, list_tests, reasons_outcome, rule_outcome, step_outcome, limit_refused, run_short, run_outcome, replay_short, replay_outcome}
use Rattle.minuska.proofs.TableLaw.{read_table_iff}
use Rattle.minuska.proofs.ConfigurationLaw.{read_configuration_iff}

-- ---- a test that decides a sentence
below : (a b : ℕ) → Decides (ltb a b) (a < b)
below a b = record { yes = ltb-true a b; no = λ e h. let k = ltb-false a b e in omega arith }

equal : (a b : ℕ) → Decides (eqb a b) (a ≡ b)
equal a b = record { yes = eqb-true a b; no = eqb-false a b }

either : (a b : Bool) (P Q : Type 0) → Decides a P → Decides b Q → Decides (a || b) (P ⊎ Q)
either true b P Q d e = record { yes = λ z. inl (d.yes refl); no = λ z. absurd (true≢false z) }
either false b P Q d e = record { yes = λ z. inr (e.yes z); no = pick }
  where
    pick : b ≡ false → P ⊎ Q → ⊥
    pick z (inl p) = d.no refl p
    pick z (inr q) = e.no z q

regroup : (b : Bool) (P Q R : Type 0) → Decides b ((P ⊎ Q) ⊎ R) → Decides b (P ⊎ Q ⊎ R)
regroup b P Q R d = record { yes = λ e. there (d.yes e); no = λ e h. d.no e (back h) }
  where
    there : (P ⊎ Q) ⊎ R → P ⊎ Q ⊎ R
    there (inl (inl p)) = inl p
    there (inl (inr q)) = inr (inl q)
    there (inr r) = inr (inr r)

    back : P ⊎ Q ⊎ R → (P ⊎ Q) ⊎ R
    back (inl p) = inl (inl p)
    back (inr (inl q)) = inl (inr q)
    back (inr (inr r)) = inr r

-- a refusal is no answer
refused_gives : {A : Type 0} (r : Refusal) (x : A) → refused r ≡ gives x → ⊥
refused_gives r x e = let z : ◌≡◌ {A = ℕ} 0 1 = cc in omega arith

-- ---- the first row that holds: a row that does not, a row above an answer
module _ {A : Type 0} (r : Row) (rows : List Row) (o : Outcome A) where
  pub row_passed : FirstGiven (r ∷ rows) o → (r.Given → ⊥) → FirstGiven rows o
  row_passed (inl h) f = absurd (f h.1)
  row_passed (inr h) f = h.1

  pub row_failed : (x : A) → o ≡ gives x → FirstGiven (r ∷ rows) o → (r.Given → ⊥) × FirstGiven rows o
  row_failed x e (inl h) = absurd (refused_gives r.refusal x (sym h.0 ∙ e))
  row_failed x e (inr h) = h

-- ---- the numbers that rows give
abbrev pub NumberWithin : {A : Type 0} → ℕ → Outcome A → Type 0
NumberWithin n (refused r) = number r ≤ n
NumberWithin n (gives x) = Unit {0}

abbrev pub RowsWithin : ℕ → List Row → Type 0
RowsWithin n [] = Unit {0}
RowsWithin n (r ∷ rows) = (number r.refusal ≤ n) × RowsWithin n rows

pub number_within : {A : Type 0} (n : ℕ) (rows : List Row) (o : Outcome A) → RowsWithin n rows → FirstGiven rows o → NumberWithin n o
number_within {A} n [] o w h = subst⁻¹ (λ (p : Outcome A). NumberWithin n p) h.1 tt
number_within {A} n (r ∷ rows) o w (inl h) = subst⁻¹ (λ (p : Outcome A). NumberWithin n p) h.0 w.0
number_within n (r ∷ rows) o w (inr h) = number_within n rows o w.1 h.1

-- ---- tests that decide their rows
abbrev DecideAll : List Test → List Row → Type 0
DecideAll [] [] = Unit {0}
DecideAll [] (r ∷ rows) = ⊥
DecideAll (t ∷ ts) [] = ⊥
DecideAll (t ∷ ts) (r ∷ rows) = (t.refusal ≡ r.refusal) × Decides t.given r.Given × DecideAll ts rows

tested_first : {A : Type 0} (ts : List Test) (rows : List Row) (x : A) → DecideAll ts rows → FirstGiven rows (tested ts x)
tested_first [] [] x d = (x, refl)
tested_first [] (r ∷ rows) x d = absurd d
tested_first (t ∷ ts) [] x d = absurd d
tested_first (t ∷ ts) (r ∷ rows) x d = pick t.given refl (tested_first ts rows x d.2)
  where
    pick : (b : Bool) → t.given ≡ b → FirstGiven rows (tested ts x) → FirstGiven (r ∷ rows) (cond b (refused t.refusal) (tested ts x))
    pick true e rest = inl (ap refused d.0, d.1.yes e)
    pick false e rest = inr (d.1.no e, rest)

-- ---- 1 and 2: words are a table or they are none
module _ (ws : List ℤ) where
  none_table : read_table ws ≡ none → (t : Table) → IsTable ws t → ⊥
  none_table e t p = none-ne-some t (sym e ∙ (read_table_iff ws t).1 p)

  some_table : (((t : Table) → IsTable ws t → ⊥) → ⊥) → (t : Table) × IsTable ws t
  some_table f = pick (read_table ws) refl
    where
      pick : (o : Option Table) → read_table ws ≡ o → (t : Table) × IsTable ws t
      pick none e = absurd (f (none_table e))
      pick (some t) e = (t, (read_table_iff ws t).0 e)

  none_configuration : read_configuration ws ≡ none → (g : Term) → IsConfiguration ws g → ⊥
  none_configuration e g p = none-ne-some g (sym e ∙ (read_configuration_iff ws g).1 p)

  some_configuration : (((g : Term) → IsConfiguration ws g → ⊥) → ⊥) → (g : Term) × IsConfiguration ws g
  some_configuration f = pick (read_configuration ws) refl
    where
      pick : (o : Option Term) → read_configuration ws ≡ o → (g : Term) × IsConfiguration ws g
      pick none e = absurd (f (none_configuration e))
      pick (some g) e = (g, (read_configuration_iff ws g).0 e)

module _ {A : Type 0} (ws cs : List ℤ) (rows : List Row) where
  -- an outcome on words has the rows of both, and then its own
  words_first : (go : Table → Term → Outcome A) → ((t : Table) (g : Term) → IsTable ws t → IsConfiguration cs g → FirstGiven rows (go t g)) → FirstGiven (word_rows ws cs rows) (on_words ws cs go)
  words_first go rest = table (read_table ws) refl
    where
      configuration : (t : Table) → IsTable ws t → (o : Option Term) → read_configuration cs ≡ o → FirstGiven (word_rows ws cs rows) (need BadConfiguration o λ g. go t g)
      configuration t p none e = inr ((λ f. f t p), inl (refl, none_configuration cs e))
      configuration t p (some g) e = let q = (read_configuration_iff cs g).0 e in inr ((λ f. f t p), inr ((λ f. f g q), rest t g p q))

      table : (o : Option Table) → read_table ws ≡ o → FirstGiven (word_rows ws cs rows) (need BadTable o λ t. need BadConfiguration (read_configuration cs) λ g. go t g)
      table none e = inl (refl, none_table ws e)
      table (some t) e = configuration t ((read_table_iff ws t).0 e) (read_configuration cs) refl

  -- what an answer was made from
  pub words_read : (o : Outcome A) (x : A) → o ≡ gives x → FirstGiven (word_rows ws cs rows) o → (t : Table) × (g : Term) × IsTable ws t × IsConfiguration cs g × FirstGiven rows o
  words_read o x e h =
      let (f, k) = row_failed (table_row ws) (configuration_row cs ∷ rows) o x e h in
      let (m, l) = row_failed (configuration_row cs) rows o x e k in
      let (t, p) = some_table ws f in
      let (g, q) = some_configuration cs m in
      (t, g, p, q, l)

  -- before any answer only 1 to 5 come
  pub early_number : (o : Outcome A) → RowsWithin 5 rows → FirstGiven (word_rows ws cs rows) o → NumberWithin 5 o
  unfolding number
  early_number o w = number_within 5 (word_rows ws cs rows) o (lit≤ tt, (lit≤ tt, w))

-- ---- its uses
bad_limit : (cs : List ℤ) (n : ℕ) (g : Term) → IsConfiguration cs g → Decides (limit_refused n g) ((h : Term) × IsConfiguration cs h × LimitOutside n h)
bad_limit cs n g p =
    let d : Decides (limit_refused n g) (LimitOutside n g) =
    regroup (limit_refused n g) (n ≡ 0) (max_nodes < n) (n < node_count g)
    (either (eqb n 0 || ltb max_nodes n) (ltb n (node_count g)) ((n ≡ 0) ⊎ (max_nodes < n)) (n < node_count g) (either (eqb n 0) (ltb max_nodes n) (n ≡ 0) (max_nodes < n) (equal n 0) (below max_nodes n)) (below n (node_count g))) in
    record { yes = λ e. (g, p, d.yes e); no = λ e h. d.no e (subst (LimitOutside n) (some-injective h.0 g (sym ((read_configuration_iff cs h.0).1 h.1) ∙ (read_configuration_iff cs g).1 p)) h.2) }

short_list : (ws : List ℤ) (list : ℕ) (t : Table) → IsTable ws t → Decides (ltb list (2 * length t)) (ReasonsShort ws list)
short_list ws list t p =
    record {
      yes = λ e. (t, p, (below list (2 * length t)).yes e);
      no = λ e h. (below list (2 * length t)).no e (subst (λ (u : Table). list < 2 * length u) (some-injective h.0 t (sym ((read_table_iff ws h.0).1 h.1) ∙ (read_table_iff ws t).1 p)) h.2);
    }

module _ (ws cs : List ℤ) where
  pub match_refuses : (n : ℕ) → FirstGiven (step_rows ws cs) (match_outcome ws cs n)
  unfolding match_outcome
  match_refuses n = words_first ws cs [] (λ t g. gives (match_rule t n g)) (λ t g p q. (match_rule t n g, refl))

  pub reasons_refuses : (list : ℕ) → FirstGiven (reasons_rows ws cs list) (reasons_outcome ws cs list)
  unfolding reasons_outcome
  reasons_refuses list =
      words_first ws cs (short_row (ReasonsShort ws list) ∷ []) (λ t g. tested (list_tests list t) (reasons t g))
      (λ t g p q. tested_first (list_tests list t) (short_row (ReasonsShort ws list) ∷ []) (reasons t g) (refl, short_list ws list t p, tt))

  pub rule_refuses : (n out : ℕ) → FirstGiven (step_rows ws cs) (rule_outcome ws cs n out)
  unfolding rule_outcome
  rule_refuses n out = words_first ws cs [] (λ t g. gives (step_by_rule t (out_limit out) n g)) (λ t g p q. (step_by_rule t (out_limit out) n g, refl))

  pub step_refuses : (out : ℕ) → FirstGiven (step_rows ws cs) (step_outcome ws cs out)
  unfolding step_outcome
  step_refuses out = words_first ws cs [] (λ t g. gives (step t (out_limit out) g)) (λ t g p q. (step t (out_limit out) g, refl))

  pub size_numbers : {A : Type 0} (n : ℕ) (Long Short : Type 0) (o : Outcome A) → FirstGiven (word_rows ws cs (size_rows cs n Long Short)) o → NumberWithin 5 o
  unfolding number
  size_numbers n Long Short o = early_number ws cs (size_rows cs n Long Short) o (lit≤ tt, (lit≤ tt, (lit≤ tt, tt)))

  sized : {A : Type 0} (long short : Bool) (n : ℕ) (Long Short : Type 0) (answer : Table → Term → A) → Decides long Long → Decides short Short → FirstGiven (word_rows ws cs (size_rows cs n Long Short)) (on_words ws cs (λ t g. tested (size_tests long (limit_refused n g) short) (answer t g)))
  sized long short n Long Short answer dl ds =
      words_first ws cs (size_rows cs n Long Short) (λ t g. tested (size_tests long (limit_refused n g) short) (answer t g))
      (λ t g p q. tested_first (size_tests long (limit_refused n g) short) (size_rows cs n Long Short) (answer t g) (refl, dl, (refl, bad_limit cs n g q, (refl, ds, tt))))

  pub run_refuses : (budget n out spare : ℕ) → FirstGiven (run_rows ws cs budget n out spare) (run_outcome ws cs budget n out spare)
  unfolding run_outcome
  run_refuses budget n out spare =
      sized (ltb max_steps budget) (run_short n out spare) n (max_steps < budget) (RunShort n out spare) (λ t g. run t n budget g) (below max_steps budget)
      (either (ltb out (2 * n)) (ltb spare (2 * n)) (out < 2 * n) (spare < 2 * n) (below out (2 * n)) (below spare (2 * n)))

  pub replay_refuses : (log : List ℕ) (n out choices work : ℕ) → FirstGiven (replay_rows ws cs log n out choices work) (replay_outcome ws cs log n out choices work)
  unfolding replay_outcome
  replay_refuses log n out choices work =
      sized (ltb max_actions (length log)) (replay_short n log out choices work) n (max_actions < length log) (ReplayShort n log out choices work) (λ t g. replay t n log g) (below max_actions (length log))
      (regroup (replay_short n log out choices work) (out < 2 * n) (choices < length log) (work < work_words n log)
      (either (ltb out (2 * n) || ltb choices (length log)) (ltb work (work_words n log)) ((out < 2 * n) ⊎ (choices < length log)) (work < work_words n log) (either (ltb out (2 * n)) (ltb choices (length log)) (out < 2 * n) (choices < length log) (below out (2 * n)) (below choices (length log))) (below work (work_words n log))))
