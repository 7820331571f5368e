-- P1 TO P12 MEAN WHAT THEY SAY. A test of a case by the computed definitions is sound by their laws, and the whole table passes it, by one computation.
use mathlib.Core.Path.{◌≡◌, refl, sym, ◌∙◌, ap, subst}
use mathlib.Core.Bool.{Bool, true, false, not, ◌&&◌}
use mathlib.Core.Option.{Option, none, some, some-injective, none-ne-some}
use mathlib.Core.List.{List, [], ◌∷◌}
use Prim.Native.Nat.{ℕ}
use lib.Dec.{T, eqb, leb, eqb→eq, leb→le}
use lib.IntN.{ℤ}
use Rattle.minuska.specs.Basics.{present, every, Every}
use Rattle.minuska.specs.Term.{Forest, nil, Term, single, node_count}
use Rattle.minuska.specs.Satisfaction.{Valuation}
use Rattle.minuska.specs.Rule.{Table, is_symbolic, is_expression, covers, ok_term, max_nodes, IsTable, IsConfiguration}
use Rattle.minuska.specs.Rewriting.{First}
use Rattle.minuska.specs.Answer.{OverLimit, number, StepResult, stepped, stuck, too_large, ReplayResult, reproduced, exceeded, not_reproduced}
use Rattle.minuska.specs.Claim.{StepClaim, ReplayClaim}
use Rattle.minuska.specs.Computed.Read.{decode_term, read_table, read_configuration}
use Rattle.minuska.specs.Computed.Match.{same_term, unbound, try_match}
use Rattle.minuska.specs.Computed.Value.{value}
use Rattle.minuska.specs.Misfit.{Disagrees}
use Rattle.minuska.specs.Computed.Compare.{Comparison, agreed, apart, comparison}
use Rattle.minuska.specs.Computed.Step.{step}
use Rattle.minuska.specs.Computed.Replay.{replay}
use Rattle.minuska.specs.Marked.{sample, initial, Printed, lines, no_path, refusal, Case, evaluates, matches, differs, steps, replays, cases, IsTerm, Worth, Fits, Steps, Prints, Means, AllMean}
use Rattle.minuska.proofs.Tests.{and_left, and_right, same_term_lem}
use Rattle.minuska.proofs.WordLaw.{decode_term_iff}
use Rattle.minuska.proofs.TableLaw.{read_table_iff}
use Rattle.minuska.proofs.ConfigurationLaw.{read_configuration_iff}
use Rattle.minuska.proofs.MatchLaw.{match_sound, match_complete}
use Rattle.minuska.proofs.MisfitLaw.{apart_disagrees}
use Rattle.minuska.proofs.ValueLaw.{value_iff_evaluates, value_agree}
use Rattle.minuska.proofs.StepLaw.{step_meets}
use Rattle.minuska.proofs.ReplayLaw.{replay_meets}

-- ---- two things that must be there, and a test of both
abbrev both : {A B : Type 0} → Option A → Option B → (A → B → Bool) → Bool
both none p f = false
both (some a) none f = false
both (some a) (some b) f = f a b

both_there : {A B : Type 0} (o : Option A) (p : Option B) (f : A → B → Bool) → T (both o p f) → (a : A) × (b : B) × (o ≡ some a) × (p ≡ some b) × T (f a b)
both_there none p f t = absurd t
both_there (some a) none f t = absurd t
both_there (some a) (some b) f t = (a, b, refl, refl, t)

abbrev is : Option Term → Term → Bool
is none h = false
is (some g) h = same_term g h

is_some : (o : Option Term) (h : Term) → T (is o h) → o ≡ some h
is_some none h t = absurd t
is_some (some g) h t = ap {B = Option Term} some (same_term_lem g h t)

configured : (ws : List ℤ) (h : Term) → T (is (read_configuration ws) h) → IsConfiguration ws h
configured ws h t = (read_configuration_iff ws h).0 (is_some (read_configuration ws) h t)

-- ---- an expression's value
abbrev of_kind : (Forest → Bool) → Term → Bool
of_kind kind t = ok_term t && kind (single t)

abbrev worth : Term → Term → Bool
worth e g = of_kind is_expression e && covers nil (single e) && is (value unbound e) g

is_worth : (e g : Term) → T (is_expression (single e)) → T (covers nil (single e)) → value unbound e ≡ some g → Worth e g
is_worth e g x c p ρ h =
    let q : value ρ e ≡ some g = value_agree nil ρ unbound (λ v t. absurd t) e c ∙ p in
    let i = value_iff_evaluates ρ e h x in
    ((λ w. some-injective g h (sym q ∙ i.1 w)), λ d. i.0 (q ∙ ap {B = Option Term} some d))

-- ---- a left
abbrev fit_is : Bool → Option Valuation → Bool
fit_is true o = present o
fit_is false o = not (present o)

abbrev fits : Bool → Term → Term → Bool
fits b l g = of_kind is_symbolic l && fit_is b (try_match (single l) (single g) unbound)

fit_means : (b : Bool) (l g : Term) (o : Option Valuation) → try_match (single l) (single g) unbound ≡ o → T (fit_is b o) → Fits b l g
fit_means true l g none e t = absurd t
fit_means true l g (some ρ) e t = (ρ, (match_sound (single l) (single g) unbound ρ e).0)
fit_means false l g none e t = λ ρ m.
    let k = match_complete (single l) (single g) unbound ρ m (λ v s d. absurd (none-ne-some s d)) in
    none-ne-some k.0 (sym e ∙ k.1)
fit_means false l g (some ρ) e t = absurd t

-- ---- the step, by the claim that its answer meets
abbrev step_is : Option (ℕ × ℕ × List ℤ) → StepResult → Bool
step_is none (stepped n a h) = false
step_is none stuck = true
step_is none too_large = false
step_is (some x) (stepped n a h) = eqb n x.0 && eqb a x.1 && is (read_configuration x.2) h
step_is (some x) stuck = false
step_is (some x) too_large = false

step_means : (x : Option (ℕ × ℕ × List ℤ)) (limit : ℕ) (table : Table) (g : Term) (y : StepResult) → StepClaim table limit g y → T (step_is x y) → Steps x table g
step_means none limit table g (stepped n a h) c t = absurd t
step_means none limit table g stuck c t = c.sticks.0 refl
step_means none limit table g too_large c t = absurd t
step_means (some x) limit table g (stepped n a h) c t =
    let p = eqb n x.0 in
    let q = eqb a x.1 in
    let r = is (read_configuration x.2) h in
    let m = eqb→eq n x.0 (and_left p q (and_left (p && q) r t)) in
    let b = eqb→eq a x.1 (and_right p q (and_left (p && q) r t)) in
    (h, configured x.2 h (and_right (p && q) r t), subst (λ (k : ℕ). First table g k x.1 h) m (subst (λ (k : ℕ). First table g n k h) b ((c.steps n a h).0 refl).0))
step_means (some x) limit table g stuck c t = absurd t
step_means (some x) limit table g too_large c t = absurd t

-- ---- the replay, by the claim that its answer meets
abbrev same_numbers : List ℕ → List ℕ → Bool
same_numbers [] [] = true
same_numbers [] (n ∷ ns) = false
same_numbers (m ∷ ms) [] = false
same_numbers (m ∷ ms) (n ∷ ns) = eqb m n && same_numbers ms ns

same_numbers_lem : (ms ns : List ℕ) → T (same_numbers ms ns) → ms ≡ ns
same_numbers_lem [] [] t = refl
same_numbers_lem [] (n ∷ ns) t = absurd t
same_numbers_lem (m ∷ ms) [] t = absurd t
same_numbers_lem (m ∷ ms) (n ∷ ns) t =
    let p : m ≡ n = eqb→eq m n (and_left (eqb m n) (same_numbers ms ns) t) in
    let q : ms ≡ ns = same_numbers_lem ms ns (and_right (eqb m n) (same_numbers ms ns) t) in
    cc

abbrev print_is : Printed → ReplayResult Term → Bool
print_is (lines ns ws) (reproduced ms h) = same_numbers ms ns && is (read_configuration ws) h
print_is (lines ns ws) exceeded = false
print_is (lines ns ws) not_reproduced = false
print_is no_path (reproduced ms h) = false
print_is no_path exceeded = false
print_is no_path not_reproduced = true
print_is (refusal n) (reproduced ms h) = false
print_is (refusal n) exceeded = eqb (number OverLimit) n
print_is (refusal n) not_reproduced = false

print_means : (log : List ℕ) (limit : ℕ) (x : Printed) (table : Table) (g : Term) (y : ReplayResult Term) → ReplayClaim table limit log g y → T (print_is x y) → Prints log limit x table g
print_means log limit (lines ns ws) table g (reproduced ms h) c t =
    let a = same_numbers ms ns in
    let b = is (read_configuration ws) h in
    (h, configured ws h (and_right a b t), subst (λ (l : List ℕ). ReplayClaim table limit log g (reproduced l h)) (same_numbers_lem ms ns (and_left a b t)) c)
print_means log limit (lines ns ws) table g exceeded c t = absurd t
print_means log limit (lines ns ws) table g not_reproduced c t = absurd t
print_means log limit no_path table g (reproduced ms h) c t = absurd t
print_means log limit no_path table g exceeded c t = absurd t
print_means log limit no_path table g not_reproduced c t = c
print_means log limit (refusal n) table g (reproduced ms h) c t = absurd t
print_means log limit (refusal n) table g exceeded c t = (eqb→eq (number OverLimit) n t, c)
print_means log limit (refusal n) table g not_reproduced c t = absurd t

abbrev prints : List ℕ → ℕ → Printed → Table → Term → Bool
prints log limit x table g = leb (node_count g) limit && print_is x (replay table limit log g)

-- ---- the test of a case
-- ---- a left and a configuration that disagree
abbrev apart_is : ℕ → Comparison → Bool
apart_is k (agreed ρ) = false
apart_is k (apart j) = eqb j k

abbrev parted : ℕ → Term → Term → Bool
parted k t g = of_kind is_symbolic t && apart_is k (comparison t g)

apart_means : (k : ℕ) (t g : Term) (c : Comparison) → comparison t g ≡ c → T (apart_is k c) → Disagrees t g k
apart_means k t g (agreed ρ) e x = absurd x
apart_means k t g (apart j) e x = apart_disagrees t g k (e ∙ ap apart (eqb→eq j k x))

unfoldable passes : Case → Bool
passes (evaluates e v) = both (decode_term e) (read_configuration v) worth
passes (matches l c b) = both (decode_term l) (read_configuration c) (fits b)
passes (differs l c k) = both (decode_term l) (read_configuration c) (parted k)
passes (steps c x) = both (read_table sample) (read_configuration c) λ table g. step_is x (step table max_nodes g)
passes (replays log limit x) = both (read_table sample) (read_configuration initial) (prints log limit x)

-- the words of a test that passes are what it says
of_term : (kind : Forest → Bool) (e v : List ℤ) (f : Term → Term → Bool) (Holds : Term → Term → Type 0) → ((t g : Term) → T (f t g) → T (of_kind kind t) × Holds t g) → T (both (decode_term e) (read_configuration v) f) → (t : Term) × (g : Term) × IsTerm kind e t × IsConfiguration v g × Holds t g
of_term kind e v f Holds h t =
    let k = both_there (decode_term e) (read_configuration v) f t in
    let w = h k.0 k.1 k.4 in (
      k.0,
      k.1,
      record { accepted = and_left (ok_term k.0) (kind (single k.0)) w.0; is_kind = and_right (ok_term k.0) (kind (single k.0)) w.0; encoded = ((decode_term_iff e k.0).0 k.2).1 },
      (read_configuration_iff v k.1).0 k.3,
      w.1,
    )

of_table : (c : List ℤ) (f : Table → Term → Bool) (Holds : Table → Term → Type 0) → ((table : Table) (g : Term) → IsTable sample table → T (f table g) → Holds table g) → T (both (read_table sample) (read_configuration c) f) → (table : Table) × (g : Term) × IsTable sample table × IsConfiguration c g × Holds table g
of_table c f Holds h t =
    let k = both_there (read_table sample) (read_configuration c) f t in
    let p = (read_table_iff sample k.0).0 k.2 in
    (k.0, k.1, p, (read_configuration_iff c k.1).0 k.3, h k.0 k.1 p k.4)

-- A CASE THAT PASSES MEANS WHAT IT SAYS
means : (c : Case) → T (passes c) → Means c
unfolding passes
means (evaluates e v) = of_term is_expression e v worth Worth tested
  where
    tested : (t g : Term) → T (worth t g) → T (of_kind is_expression t) × Worth t g
    tested t g x =
        let a = of_kind is_expression t in
        let b = covers nil (single t) in
        let c = is (value unbound t) g in
        let y = and_left a b (and_left (a && b) c x) in
        (y, is_worth t g (and_right (ok_term t) (is_expression (single t)) y) (and_right a b (and_left (a && b) c x)) (is_some (value unbound t) g (and_right (a && b) c x)))
means (matches l c b) = of_term is_symbolic l c (fits b) (Fits b) λ t g x.
    let o = try_match (single t) (single g) unbound in
    (and_left (of_kind is_symbolic t) (fit_is b o) x, fit_means b t g o refl (and_right (of_kind is_symbolic t) (fit_is b o) x))
means (differs l c k) = of_term is_symbolic l c (parted k) (λ t g. Disagrees t g k) λ t g x.
    let o = comparison t g in
    (and_left (of_kind is_symbolic t) (apart_is k o) x, apart_means k t g o refl (and_right (of_kind is_symbolic t) (apart_is k o) x))
means (steps c x) = of_table c (λ table g. step_is x (step table max_nodes g)) (Steps x) λ table g p t. step_means x max_nodes table g (step table max_nodes g) (step_meets table p.accepted max_nodes g) t
means (replays log limit x) = of_table initial (prints log limit x) (Prints log limit x) λ table g p t.
    let a = leb (node_count g) limit in
    let y = replay table limit log g in
    print_means log limit x table g y (replay_meets table p.accepted limit log g (leb→le (node_count g) limit (and_left a (print_is x y) t))) (and_right a (print_is x y) t)

every_means : (cs : List Case) → T (every passes cs) → Every Means cs
every_means [] t = tt
every_means (c ∷ cs) t = (means c (and_left (passes c) (every passes cs) t), every_means cs (and_right (passes c) (every passes cs) t))

-- THE TABLE PASSES, SO EVERY CASE OF IT HOLDS
all_pass : T (every passes cases)
unfolding passes cases read_table read_configuration step replay number
all_pass = tt

pub all_mean : AllMean
all_mean = every_means cases all_pass
