-- THE PLACE OF THE FIRST DISAGREEMENT is computed rightly: the nodes before it are satisfied by some valuation, those up to and including it by none.
use mathlib.Core.Path.{◌≡◌, refl, sym, ◌∙◌, ap, subst}
use mathlib.Core.Bool.{Bool, true, false, cond, true≢false}
use mathlib.Core.Option.{Option, none, some, some-injective, none-ne-some}
use Prim.Native.Nat.{ℕ, zero, suc, ◌+◌, ◌-◌, ◌≤◌, ◌<◌}
use native.Mathlib.Decide.{dec_lt}
use native.Mathlib.Omega.{arith}
use lib.ListN.{get_elem?}
use Rattle.minuska.specs.Term.{Label, Forest, nil, node, Term, single, term_count, nodes, node_count, Role, a_variable, a_call, plain, role}
use Rattle.minuska.specs.Satisfaction.{Valuation, MatchesAt, Matches}
use Rattle.minuska.specs.Misfit.{MatchesFirstAt, MatchesFirst, Disagrees}
use Rattle.minuska.specs.Rule.{Rule, Table}
use Rattle.minuska.specs.Answer.{MatchResult, matched, misfit}
use Rattle.minuska.specs.Claim.{MatchClaim}
use Rattle.minuska.specs.Computed.Match.{unbound, assign, try_match}
use Rattle.minuska.specs.Computed.Compare.{Comparison, agreed, apart, later, after, compare_bound, compare_at, compare, comparison, bound_by, nodes_compared, match_numbered, match_rule}
use Rattle.minuska.proofs.MatchLaw.{Extends, assign_complete, match_sound, match_complete, matches_count}
use Rattle.minuska.proofs.CompareLaw.{same_node, node_same, same_node_lem, compare_match}

-- ---- the first nodes
-- of no nodes nothing is asked
first_none : (ρ : Valuation) (f g : Forest) → MatchesFirst ρ f g 0
first_none ρ nil g = tt
first_none ρ (node l ls lss) g = tt

-- at one node: what holds below it may be replaced, and what a variable is bound to
first_at : (ρ σ : Valuation) (r : Role) (l : Label) (k : ℕ) (t : Term) {Below Other : Type 0} → ((v : ℕ) → ρ v ≡ some t → σ v ≡ some t) → (Below → Other) → MatchesFirstAt ρ r l k t Below → MatchesFirstAt σ r l k t Other
first_at ρ σ (a_variable v) l k t x go h = x v h
first_at ρ σ (a_call c) l k t x go h = h
first_at ρ σ plain l k t x go h = (h.0, h.1, go h.2)

-- what the first n nodes satisfy, fewer do
first_fewer : (ρ : Valuation) (f g : Forest) (m n : ℕ) → m ≤ n → MatchesFirst ρ f g n → MatchesFirst ρ f g m
first_fewer ρ nil g m n e h = tt
first_fewer ρ (node l ls lss) g zero n e h = tt
first_fewer ρ (node l ls lss) g (suc m) zero e h = absurd (let z : ⊥ = omega arith in z)
first_fewer ρ (node l ls lss) nil (suc m) (suc n) e h = h
first_fewer ρ (node l ls lss) (node g gs gss) (suc m) (suc n) e h =
    (first_at ρ ρ (role l) l (term_count ls) (record { label = g; children = gs }) (λ v q. q) (λ k. first_fewer ρ ls gs m n (omega arith) k) h.0, first_fewer ρ lss gss (m - nodes ls) (n - nodes ls) (omega arith) h.1)

-- a valuation that says more satisfies them too
first_more : (ρ σ : Valuation) → Extends σ ρ → (f g : Forest) (n : ℕ) → MatchesFirst ρ f g n → MatchesFirst σ f g n
first_more ρ σ x nil g n h = tt
first_more ρ σ x (node l ls lss) g zero h = tt
first_more ρ σ x (node l ls lss) nil (suc n) h = h
first_more ρ σ x (node l ls lss) (node g gs gss) (suc n) h =
    (first_at ρ σ (role l) l (term_count ls) (record { label = g; children = gs }) (λ v. x v (record { label = g; children = gs })) (λ k. first_more ρ σ x ls gs n k) h.0, first_more ρ σ x lss gss (n - nodes ls) h.1)

-- ---- all nodes: ⊨s
pub matches_first : (ρ : Valuation) (f g : Forest) (n : ℕ) → Matches ρ f g → MatchesFirst ρ f g n
matches_first ρ nil g n h = tt
matches_first ρ (node l ls lss) g zero h = tt
matches_first ρ (node l ls lss) nil (suc n) h = h
matches_first ρ (node l ls lss) (node g gs gss) (suc n) h = (at (role l) h.0 (λ k. matches_first ρ ls gs n k), matches_first ρ lss gss (n - nodes ls) h.1)
  where
    at : (r : Role) → MatchesAt ρ r l (record { label = g; children = gs }) (Matches ρ ls gs) → (Matches ρ ls gs → MatchesFirst ρ ls gs n) → MatchesFirstAt ρ r l (term_count ls) (record { label = g; children = gs }) (MatchesFirst ρ ls gs n)
    at (a_variable v) k ih = k
    at (a_call c) k ih = k
    at plain k ih = (k.0, matches_count ρ ls gs k.1, ih k.1)

pub first_matches : (ρ : Valuation) (f g : Forest) (n : ℕ) → nodes f ≤ n → term_count f ≡ term_count g → MatchesFirst ρ f g n → Matches ρ f g
first_matches ρ nil nil n e c h = tt
first_matches ρ nil (node g gs gss) n e c h = absurd (let z : ⊥ = omega (arith, c) in z)
first_matches ρ (node l ls lss) nil n e c h = absurd (let z : ⊥ = omega (arith, c) in z)
first_matches ρ (node l ls lss) (node g gs gss) zero e c h = absurd (let z : ⊥ = omega arith in z)
first_matches ρ (node l ls lss) (node g gs gss) (suc n) e c h = (at (role l) h.0 (λ d k. first_matches ρ ls gs n (omega arith) d k), first_matches ρ lss gss (n - nodes ls) (omega arith) (omega (arith, c)) h.1)
  where
    at : (r : Role) → MatchesFirstAt ρ r l (term_count ls) (record { label = g; children = gs }) (MatchesFirst ρ ls gs n) → (term_count ls ≡ term_count gs → MatchesFirst ρ ls gs n → Matches ρ ls gs) → MatchesAt ρ r l (record { label = g; children = gs }) (Matches ρ ls gs)
    at (a_variable v) k ih = k
    at (a_call c) k ih = k
    at plain k ih = (k.0, ih k.1 k.2)

-- ---- the computed place
agreed_apart : (ρ : Valuation) (k : ℕ) → agreed ρ ≡ apart k → ⊥
agreed_apart ρ k e = let z : ◌≡◌ {A = ℕ} 0 1 = cc in omega arith

later_apart : (n : ℕ) (c : Comparison) (k : ℕ) → later n c ≡ apart k → (i : ℕ) × (c ≡ apart i) × (k ≡ n + i)
later_apart n (agreed ρ) k e = absurd (agreed_apart ρ k e)
later_apart n (apart i) k e = (i, refl, cc)

-- The place k is among the nodes. A valuation that says all that σ says satisfies those before it; none satisfies those up to and including it.
record FirstApart (f g : Forest) (σ : Valuation) (k : ℕ) : Type 0 where
  low : k < nodes f
  before : (τ : Valuation) × Extends τ σ × MatchesFirst τ f g k
  here : (τ : Valuation) → Extends τ σ → MatchesFirst τ f g (suc k) → ⊥

-- one term of each before their rests
module _ (l : Label) (ls lss : Forest) (g : Label) (gs gss : Forest) (σ : Valuation) where
  abbrev term : Term
  term = record { label = g; children = gs }

  abbrev first : Role → Comparison
  first r = compare_at r l (term_count ls) term σ (λ τ. compare ls gs τ)

  abbrev Whole : ℕ → Type 0
  Whole k = FirstApart (node l ls lss) (node g gs gss) σ k

  -- the first node disagrees
  at_root : (k : ℕ) → k ≡ 0 → ((τ : Valuation) → Extends τ σ → MatchesFirstAt τ (role l) l (term_count ls) term (MatchesFirst τ ls gs 0) → ⊥) → Whole k
  at_root k e f =
      record {
        low = omega arith;
        before = (σ, (λ v t h. h), subst (MatchesFirst σ (node l ls lss) (node g gs gss)) (sym e) tt);
        here = λ τ x h. f τ x (subst (λ (n : ℕ). MatchesFirst τ (node l ls lss) (node g gs gss) (suc n)) e h).0;
      }

  -- a node below it does
  inside_it : (k i : ℕ) → k ≡ 1 + i → role l ≡ plain → l ≡ g → term_count ls ≡ term_count gs → FirstApart ls gs σ i → Whole k
  inside_it k i e r p q x =
      record {
        low = let h = x.low in omega arith;
        before = (x.before.0, x.before.1, subst (MatchesFirst x.before.0 (node l ls lss) (node g gs gss)) (let s : suc i ≡ k = omega arith in s) (rw r ((p, q, x.before.2), subst (MatchesFirst x.before.0 lss gss) (let h = x.low in let s : 0 ≡ i - nodes ls = omega arith in s) (first_none x.before.0 lss gss))));
        here = λ τ y h. x.here τ y (below τ (subst (λ (n : ℕ). MatchesFirst τ (node l ls lss) (node g gs gss) n) (let s : suc k ≡ suc (suc i) = omega arith in s) h).0);
      }
    where
      below : (τ : Valuation) → MatchesFirstAt τ (role l) l (term_count ls) term (MatchesFirst τ ls gs (suc i)) → MatchesFirst τ ls gs (suc i)
      below τ h = pick (role l) r h
        where
          pick : (s : Role) → s ≡ plain → MatchesFirstAt τ s l (term_count ls) term (MatchesFirst τ ls gs (suc i)) → MatchesFirst τ ls gs (suc i)
          pick (a_variable v) e h = absurd (let z : ◌≡◌ {A = ℕ} 0 1 = cc in let f : ⊥ = omega arith in f)
          pick (a_call c) e h = absurd h
          pick plain e h = h.2

  -- in or below the first node, by its role
  in_first : (k : ℕ) (r : Role) → role l ≡ r → first r ≡ apart k → (term_count ls ≡ term_count gs → (i : ℕ) → compare ls gs σ ≡ apart i → FirstApart ls gs σ i) → Whole k
  in_first k (a_variable v) r d ih = bound (assign σ v term) refl d
    where
      bound : (o : Option Valuation) → assign σ v term ≡ o → compare_bound o ≡ apart k → Whole k
      bound none a b =
          at_root k (let z : k ≡ 0 = cc in z) (λ τ x h. let s = assign_complete σ v term τ (subst (λ (s : Role). MatchesFirstAt τ s l (term_count ls) term (MatchesFirst τ ls gs 0)) r h) x in none-ne-some s.0 (sym a ∙ s.1))
      bound (some τ) a b = absurd (agreed_apart τ k b)
  in_first k (a_call f) r d ih = at_root k (let z : k ≡ 0 = cc in z) (λ τ x h. subst (λ (s : Role). MatchesFirstAt τ s l (term_count ls) term (MatchesFirst τ ls gs 0)) r h)
  in_first k plain r d ih = test (same_node l (term_count ls) g (term_count gs)) refl d
    where
      test : (b : Bool) → same_node l (term_count ls) g (term_count gs) ≡ b → cond b (later 1 (compare ls gs σ)) (apart 0) ≡ apart k → Whole k
      test true t u =
          let (i, a, b) = later_apart 1 (compare ls gs σ) k u in
          let (p, q) = same_node_lem l g (term_count ls) (term_count gs) t in
          inside_it k i b r p q (ih q i a)
      test false t u =
          at_root k (let z : k ≡ 0 = cc in z)
          (λ τ x h. let m = subst (λ (s : Role). MatchesFirstAt τ s l (term_count ls) term (MatchesFirst τ ls gs 0)) r h in true≢false (sym (node_same l g (term_count ls) (term_count gs) m.0 m.1) ∙ t))

  -- the first term agrees, under τ₀: a node behind it does not
  module _ (τ₀ : Valuation) (agrees : first (role l) ≡ agreed τ₀) where
    alone : try_match (node l ls nil) (node g gs nil) σ ≡ some τ₀
    alone = sym (compare_match (node l ls nil) (node g gs nil) σ) ∙ ap (λ (c : Comparison). bound_by (after (suc (nodes ls)) c (λ τ. agreed τ))) agrees

    behind_it : (k i : ℕ) → k ≡ suc (nodes ls) + i → FirstApart lss gss τ₀ i → Whole k
    behind_it k i e x =
        let s = match_sound (node l ls nil) (node g gs nil) σ τ₀ alone in
        let τ = x.before.0 in
        record {
          low = let h = x.low in omega arith;
          before = (τ, (λ v t h. x.before.1 v t (s.1 v t h)), subst (MatchesFirst τ (node l ls lss) (node g gs gss)) (let p : suc (nodes ls + i) ≡ k = omega arith in p) ((first_more τ₀ τ x.before.1 (node l ls nil) (node g gs nil) (suc (nodes ls + i)) (matches_first τ₀ (node l ls nil) (node g gs nil) (suc (nodes ls + i)) s.0)).0, subst (MatchesFirst τ lss gss) (let p : i ≡ nodes ls + i - nodes ls = omega arith in p) x.before.2));
          here = λ υ y h. x.here υ (more υ y h.0) (subst (MatchesFirst υ lss gss) (let p : k - nodes ls ≡ suc i = omega arith in p) h.1);
        }
      where
        -- a valuation that satisfies the first term says all that τ₀ says
        more : (υ : Valuation) → Extends υ σ → MatchesFirstAt υ (role l) l (term_count ls) term (MatchesFirst υ ls gs k) → Extends υ τ₀
        more υ y h =
            let m = first_matches υ (node l ls nil) (node g gs nil) (suc k) (omega arith) refl (h, tt) in
            let c = match_complete (node l ls nil) (node g gs nil) σ υ m y in
            subst (Extends υ) (some-injective c.0 τ₀ (sym c.1 ∙ alone)) c.2

apart_first : (f g : Forest) (σ : Valuation) → term_count f ≡ term_count g → (k : ℕ) → compare f g σ ≡ apart k → FirstApart f g σ k
apart_first nil nil σ c k e = absurd (agreed_apart σ k e)
apart_first nil (node g gs gss) σ c k e = absurd (let z : ⊥ = omega (arith, c) in z)
apart_first (node l ls lss) nil σ c k e = absurd (let z : ⊥ = omega (arith, c) in z)
apart_first (node l ls lss) (node g gs gss) σ c k e =
    pick (first l ls lss g gs gss σ (role l)) refl e (λ m i d. apart_first ls gs σ m i d) (λ τ i d. apart_first lss gss τ (omega (arith, c)) i d)
  where
    pick : (x : Comparison) → first l ls lss g gs gss σ (role l) ≡ x → after (suc (nodes ls)) x (λ τ. compare lss gss τ) ≡ apart k → (term_count ls ≡ term_count gs → (i : ℕ) → compare ls gs σ ≡ apart i → FirstApart ls gs σ i) → ((τ : Valuation) (i : ℕ) → compare lss gss τ ≡ apart i → FirstApart lss gss τ i) → FirstApart (node l ls lss) (node g gs gss) σ k
    pick (agreed τ) a b ih jh = let (i, p, q) = later_apart (suc (nodes ls)) (compare lss gss τ) k b in behind_it l ls lss g gs gss σ τ a k i q (jh τ i p)
    pick (apart j) a b ih jh = in_first l ls lss g gs gss σ k (role l) refl (a ∙ b) ih

-- ---- a left and a configuration
module _ (l g : Term) where
  nothing_said : (τ : Valuation) → Extends τ unbound
  nothing_said τ v t e = absurd (none-ne-some t e)

  pub agrees_matches : (ρ : Valuation) → comparison l g ≡ agreed ρ → Matches ρ (single l) (single g)
  agrees_matches ρ e = (match_sound (single l) (single g) unbound ρ (sym (compare_match (single l) (single g) unbound) ∙ ap bound_by e)).0

  pub matches_agrees : (ρ : Valuation) → Matches ρ (single l) (single g) → (k : ℕ) → comparison l g ≡ apart k → ⊥
  matches_agrees ρ m k e =
      let c = match_complete (single l) (single g) unbound ρ m (nothing_said ρ) in
      none-ne-some c.0 (ap bound_by (sym e) ∙ (compare_match (single l) (single g) unbound ∙ c.1))

  pub apart_disagrees : (k : ℕ) → comparison l g ≡ apart k → Disagrees l g k
  apart_disagrees k e =
      let x = apart_first (single l) (single g) unbound refl k e in
      record { before = (x.before.0, x.before.2); here = λ ρ h. x.here ρ (nothing_said ρ) h }

  -- there is one place at which they disagree
  pub one_place : (j k : ℕ) → Disagrees l g j → Disagrees l g k → j ≡ k
  one_place j k x y = pick (dec_lt j k) (dec_lt k j)
    where
      earlier : (m n : ℕ) → m < n → Disagrees l g m → Disagrees l g n → ⊥
      earlier m n h a b = a.here b.before.0 (first_fewer b.before.0 (single l) (single g) (suc m) n (omega arith) b.before.1)

      pick : Dec (j < k) → Dec (k < j) → j ≡ k
      pick (yes h) d = absurd (earlier j k h x y)
      pick (no f) (yes h) = absurd (earlier k j h y x)
      pick (no f) (no h) = omega (arith, f, h)

  -- THE COMPUTED PLACE IS THE ONE AT WHICH THEY DISAGREE
  pub disagrees_apart : (k : ℕ) → Disagrees l g k → comparison l g ≡ apart k
  disagrees_apart k d = pick (comparison l g) refl
    where
      pick : (c : Comparison) → comparison l g ≡ c → c ≡ apart k
      pick (agreed ρ) e = absurd (d.here ρ (matches_first ρ (single l) (single g) (suc k) (agrees_matches ρ e)))
      pick (apart j) e = ap apart (one_place j k (apart_disagrees j e) d)

  -- it is the place of one of the left's nodes
  pub place_low : (k : ℕ) → Disagrees l g k → k < node_count l
  place_low k d = omega (arith, (apart_first (single l) (single g) unbound refl k (disagrees_apart k d)).low)

-- ---- THE ANSWER FOR A RULE'S NUMBER MEETS ITS CLAIM
module _ (table : Table) (n : ℕ) (g : Term) where
  matched_misfit : (j k : ℕ) → matched j ≡ misfit k → ⊥
  matched_misfit j k e = let z : ◌≡◌ {A = ℕ} 0 1 = cc in omega arith

  -- the number names one rule
  named : (r s : Rule) → get_elem? table n ≡ some r → get_elem? table n ≡ some s → s ≡ r
  named r s e f = some-injective s r (sym f ∙ e)

  compared : (r : Rule) → get_elem? table n ≡ some r → (c : Comparison) → comparison r.left g ≡ c → MatchClaim table n g (nodes_compared r.left c)
  compared r e (agreed ρ) a =
      record {
        matches = λ k. ((λ q. (r, e, (let z : k ≡ node_count r.left = cc in z), ρ, agrees_matches r.left g ρ a)), (λ h. ap matched (ap (λ (s : Rule). node_count s.left) (sym (named r h.0 e h.1)) ∙ sym h.2)));
        disagrees = λ k. ((λ q. absurd (matched_misfit (node_count r.left) (suc k) q)), (λ h. absurd (agreed_apart ρ k (sym a ∙ disagrees_apart r.left g k (subst (λ (s : Rule). Disagrees s.left g k) (named r h.0 e h.1) h.2)))));
        names_none = ((λ q. absurd (matched_misfit (node_count r.left) 0 q)), (λ f. absurd (none-ne-some r (sym f ∙ e))));
      }
  compared r e (apart j) a =
      record {
        matches = λ k. ((λ q. absurd (matched_misfit k (suc j) (sym q))), (λ h. absurd (matches_agrees r.left g h.3 (subst (λ (s : Rule). Matches h.3 (single s.left) (single g)) (named r h.0 e h.1) h.4) j a)));
        disagrees = λ k. ((λ q. (r, e, subst (Disagrees r.left g) (let z : j ≡ k = cc in z) (apart_disagrees r.left g j a))), (λ h. ap (λ (i : ℕ). misfit (suc i)) (one_place r.left g j k (apart_disagrees r.left g j a) (subst (λ (s : Rule). Disagrees s.left g k) (named r h.0 e h.1) h.2))));
        names_none = ((λ q. absurd (let z : suc j ≡ 0 = cc in let f : ⊥ = omega arith in f)), (λ f. absurd (none-ne-some r (sym f ∙ e))));
      }

  pub match_meets : MatchClaim table n g (match_rule table n g)
  unfolding match_rule
  match_meets = pick (get_elem? table n) refl
    where
      pick : (o : Option Rule) → get_elem? table n ≡ o → MatchClaim table n g (match_numbered o g)
      pick (some r) e = compared r e (comparison r.left g) refl
      pick none e =
          record {
            matches = λ k. ((λ q. absurd (matched_misfit k 0 (sym q))), (λ h. absurd (none-ne-some h.0 (sym e ∙ h.1))));
            disagrees = λ k. ((λ q. absurd (let z : 0 ≡ suc k = cc in let f : ⊥ = omega arith in f)), (λ h. absurd (none-ne-some h.0 (sym e ∙ h.1))));
            names_none = ((λ q. e), (λ q. refl));
          }

  -- AND NO OTHER ANSWER DOES
  pub match_only : (x : MatchResult) → MatchClaim table n g x → match_rule table n g ≡ x
  match_only (matched k) c = (match_meets.matches k).1 ((c.matches k).0 refl)
  match_only (misfit zero) c = match_meets.names_none.1 (c.names_none.0 refl)
  match_only (misfit (suc k)) c = (match_meets.disagrees k).1 ((c.disagrees k).0 refl)
