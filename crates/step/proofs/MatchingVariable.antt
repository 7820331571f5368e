-- One turn of the walk at a variable: bound anew, or bound before to a here that has the same words.
use Rattle.std.specs.Prelude.{Some, None}
use mathlib.Core.Path.{◌≡◌, refl, sym, ◌∙◌, ap, subst, subst⁻¹, subst₂}
use mathlib.Core.Bool.{Bool, true, false, cond}
use mathlib.Core.Logic.{⊎_elim}
use mathlib.Core.Option.{Option, none, some, some-injective, none-ne-some}
use mathlib.Core.List.{List, [], ◌∷◌}
use Prim.Native.Nat.{ℕ, ◌+◌, ◌-◌, ◌<◌, ◌≤◌}
use native.Mathlib.Nat.{add-zero}
use native.Mathlib.Omega.{arith}
use native.Mathlib.Decide.{ℕ_discrete}
use lib.Dec.{T, lit<}
use lib.IntN.{ℤ, pos, nat_abs}
use lib.Signed.{non_neg}
use mir.Syntax.{w64}
use mir.Val.{SFits, to_z, of_z}
use mir.ValLaws.{to_z-of_z}
use lib.ListN.{length, take, drop, get_or, length-append}
use borrow.Author.Tests.{eq-eqb, ne_eqb}
use Rattle.minuska.specs.Basics.{provided}
use Rattle.minuska.specs.Term.{Label, variable, Forest, nil, node, Term, single, term_count, role, ground_at}
use Rattle.minuska.specs.Word.{variables, tag_word, datum_word, encode}
use Rattle.minuska.specs.Satisfaction.{Valuation}
use Rattle.minuska.specs.Rule.{symbolic_at}
use Rattle.minuska.specs.Computed.Read.{variable_tag, call_tag}
use Rattle.minuska.specs.Computed.Match.{same_term, assign_new, assign_at, assign}
use Rattle.minuska.specs.Bridge.Place.{part, Stands, GroundAt, GroundEnds, BoundAt, Binds}
use Rattle.minuska.proofs.Tests.{provided_true, same_term_lem, term_same}
use Rattle.minuska.proofs.NodeLaw.{variable_tag_lem, variable_label}
use Rattle.minuska.proofs.WordLaw.{okay, head_okay, childless}
use Rattle.minuska.proofs.Bridge.PlaceLaw.{stands_second, stands_unique}
use Rattle.minuska.proofs.Bridge.AppendedLaw.{first_words, labels}
use Rattle.minuska.specs.Computed.Compare.{Comparison, apart, later, after, compare_bound, compare}
use Rattle.std.proofs.lemmas.Bool.{cases_lt}
use Rattle.term.specs.declared.Span.{Span}
use Rattle.step.specs.Matching.{Recurs, Walk, Walking, TurnFrom, Put, LeftTurned}
use Rattle.step.specs.declared.matching.LeftTurn.TheVariants.{Bind, Again}
use Rattle.minuska.proofs.CompareLaw.{later_later}
use Rattle.step.proofs.MatchingLaw.{word, same_word, has_part, heads, left_tag, left_datum, words_here, good_here, term_at_lem}

module _ {table : List ℤ} {end : ℕ} {config : List ℤ} {i j : ℕ} {starts ends : List ℕ} {n : ℕ} {o : Comparison} where
  -- the walk is at a variable, if the tag says so
  at_variable : {X : Type 0} {v : ℕ} → Walking table end config n i j starts ends o → i < end → word table i ≡ pos variable_tag → v ≡ nat_abs (word table (i + 1)) → ((lss : Forest) (g : Label) (gs gss : Forest) (σ : Valuation) → v < variables → word table (i + 1) ≡ pos v → Walk table end config n i j starts ends (node (variable v) nil lss) (node g gs gss) σ o → X) → X
  at_variable {X} {v} w h three e go = heads w h pick
    where
      pick : (l : Label) (ls lss : Forest) (g : Label) (gs gss : Forest) (σ : Valuation) → Walk table end config n i j starts ends (node l ls lss) (node g gs gss) σ o → X
      pick l ls lss g gs gss σ k =
          let (u, r, x) = variable_tag_lem l (term_count ls) (head_okay l ls (okay l ls lss k.left_good).allowed) (sym (left_tag l ls lss g gs gss σ k) ∙ three) in
          let d : word table (i + 1) ≡ pos u = left_datum l ls lss g gs gss σ k ∙ x.datum in
          let same : v ≡ u = e ∙ ap nat_abs d in
          let p : l ≡ variable v = variable_label l u r ∙ ap variable (sym same) in
          let z = childless ls x.childless in
          go lss g gs gss σ (subst⁻¹ (λ (m : ℕ). m < variables) same x.small) (d ∙ ap pos (sym same))
          (subst₂ (λ (m : Label) (c : Forest). Walk table end config n i j starts ends (node m c lss) (node g gs gss) σ o) p z k)

  module _ (v : ℕ) (lss : Forest) (g : Label) (gs gss : Forest) (σ : Valuation) (w : Walk table end config n i j starts ends (node (variable v) nil lss) (node g gs gss) σ o) where
    abbrev here : Term
    here = record { label = g; children = gs }

    abbrev found : GroundAt config j
    found = term_at_lem (variable v) nil lss g gs gss σ w

    -- the walk goes on behind the variable and behind the here
    behind : (e : ℕ) → e ≡ j + length (encode (single here)) → (starts' ends' : List ℕ) (τ : Valuation) → Binds config starts' ends' τ → ((u : ℕ) → τ u ≡ none → get_or ends' u 0 ≡ 0) → later (n + 1) (compare lss gss τ) ≡ o → Walking table end config (n + 1) (i + 2) e starts' ends' o
    behind e at starts' ends' τ binds free outcome =
        let a = okay (variable v) nil lss w.left_good in
        let b = okay g gs gss w.ground_good in
        let c = labels (λ z. symbolic_at (role z)) (variable v) nil lss w.left_symbolic in
        let d = labels (λ z. ground_at (role z)) g gs gss w.ground_ground in
        record {
          lefts = lss;
          grounds = gss;
          valuation = τ;
          walk = record {
            left_good = a.rest;
            left_symbolic = c.rest;
            left_stands = stands_second (tag_word (variable v) 0 ∷ datum_word (variable v) ∷ []) (encode lss) w.left_stands;
            left_ends = omega (arith, w.left_ends);
            ground_good = b.rest;
            ground_ground = d.rest;
            ground_stands = rw at (stands_second (encode (single here)) (encode gss) (words_here (variable v) nil lss g gs gss σ w));
            ground_ends = omega (arith, w.ground_ends, ap length (first_words g gs gss), length-append (encode (single here)) (encode gss));
            as_many = omega (arith, w.as_many);
            binds = binds;
            free = free;
            outcome = outcome;
          };
        }

    -- the outcome, by whether the variable may hold the term
    assigned : (τ : Valuation) → assign σ v here ≡ some τ → later (n + 1) (compare lss gss τ) ≡ o
    assigned τ e =
        sym (later_later n 1 (compare lss gss τ)) ∙ (sym (ap (λ (x : Option Valuation). later n (after 1 (compare_bound x) (λ υ. compare lss gss υ))) e) ∙ w.outcome)

    not_assigned : assign σ v here ≡ none → o ≡ apart n
    not_assigned e = sym w.outcome ∙ (ap (λ (x : Option Valuation). later n (after 1 (compare_bound x) (λ υ. compare lss gss υ))) e ∙ ap apart (add-zero n))

    -- ---- a variable with no part yet
    no_part : get_or ends v 0 ≡ 0 → σ v ≡ none
    no_part z = pick (σ v) refl
      where
        pick : (x : Option Term) → σ v ≡ x → x ≡ none
        pick none e = refl
        pick (some s) e = absurd (let b = (w.binds.places v s e).ends in let f : ⊥ = omega arith in f)

    after_bind : v < variables → (e : ℕ) → get_or ends v 0 ≡ 0 → e ≡ j + length (encode (single here)) → (starts' ends' : List ℕ) → Put starts starts' v j → Put ends ends' v e → Walking table end config (n + 1) (i + 2) e starts' ends' o
    after_bind low e z at starts' ends' ps pe =
        behind e at starts' ends' (assign_new σ v here) (record { places = λ u. place u (ℕ_discrete u v) }) (λ u. open_end u (ℕ_discrete u v))
        (assigned (assign_new σ v here) (ap (λ (x : Option Term). assign_at x σ v here) (no_part z)))
      where
        at_it : (u : ℕ) → u ≡ v → assign_new σ v here u ≡ some here
        at_it u p = ap (λ (b : Bool). cond b (some here) (σ u)) (eq-eqb u v p)

        there : (u : ℕ) → (u ≡ v → ⊥) → assign_new σ v here u ≡ σ u
        there u f = ap (λ (b : Bool). cond b (some here) (σ u)) (ne_eqb u v f)

        place : (u : ℕ) → Dec (u ≡ v) → (t : Term) → assign_new σ v here u ≡ some t → BoundAt config (get_or starts' u 0) (get_or ends' u 0) u t
        place u (yes p) t q =
            rw (p, ps.here, pe.here)
            (subst (BoundAt config j e v) (some-injective here t (sym (at_it u p) ∙ q))
            (record { variable = low; good = good_here (variable v) nil lss g gs gss σ w; grounded = found.grounded; stands = found.stands; ends = at }))
        place u (no f) t q = rw (ps.others u f, pe.others u f) (w.binds.places u t (sym (there u f) ∙ q))

        open_end : (u : ℕ) → Dec (u ≡ v) → assign_new σ v here u ≡ none → get_or ends' u 0 ≡ 0
        open_end u (yes p) q = absurd (none-ne-some here (sym q ∙ at_it u p))
        open_end u (no f) q = pe.others u f ∙ w.free u (sym (there u f) ∙ q)

    -- ---- a variable that has a part
    module _ (s : Term) (p : σ v ≡ some s) where
      abbrev bound : BoundAt config (get_or starts v 0) (get_or ends v 0) v s
      bound = w.binds.places v s p

      -- the part's words are its term's
      part_words_lem : part config (get_or starts v 0) (get_or ends v 0) ≡ encode (single s)
      part_words_lem =
          let n : get_or ends v 0 - get_or starts v 0 ≡ length (encode (single s)) = omega (arith, bound.ends) in
          ap (λ (k : ℕ). take k (drop (get_or starts v 0) config)) n ∙ bound.stands.words

      again_assigns : assign σ v here ≡ provided (same_term s here) σ
      again_assigns = ap (λ (x : Option Term). assign_at x σ v here) p

      after_again : (e : ℕ) → e ≡ j + (get_or ends v 0 - get_or starts v 0) → e ≤ length config → part config (get_or starts v 0) (get_or ends v 0) ≡ part config j e → Walking table end config (n + 1) (i + 2) e starts ends o
      after_again e at h same =
          let n : length (encode (single s)) ≡ e - j = omega (arith, bound.ends) in
          let x : Stands config j (encode (single s)) = record { words = ap (λ (k : ℕ). take k (drop j config)) n ∙ (sym same ∙ part_words_lem); within = omega (arith, bound.ends) } in
          let q : s ≡ here = stands_unique s here bound.good (good_here (variable v) nil lss g gs gss σ w) x found.stands in
          behind e (omega (arith, bound.ends, ap (λ (t : Term). length (encode (single t))) q)) starts ends σ w.binds w.free
          (assigned σ (again_assigns ∙ provided_true (same_term s here) σ (subst (λ (t : Term). T (same_term s t)) q (term_same s))))

      after_differs : (s ≡ here → ⊥) → o ≡ apart n
      after_differs f = pick (same_term s here) refl
        where
          pick : (b : Bool) → same_term s here ≡ b → o ≡ apart n
          pick true e = absurd (f (same_term_lem s here (subst⁻¹ T e tt)))
          pick false e = not_assigned (again_assigns ∙ ap (λ (b : Bool). provided b σ) e)

      -- a part with other words is another term's; a term ends within the configuration
      after_other_words : (e : ℕ) → e ≡ j + (get_or ends v 0 - get_or starts v 0) → (part config (get_or starts v 0) (get_or ends v 0) ≡ part config j e → ⊥) → o ≡ apart n
      after_other_words e at f =
          after_differs λ q.
          let n : e - j ≡ length (encode (single here)) = omega (arith, bound.ends, ap (λ (t : Term). length (encode (single t))) q) in
          f (part_words_lem ∙ (ap (λ (t : Term). encode (single t)) q ∙ (sym found.stands.words ∙ ap (λ (k : ℕ). take k (drop j config)) (sym n))))

      after_long : (e : ℕ) → e ≡ j + (get_or ends v 0 - get_or starts v 0) → length config < e → o ≡ apart n
      after_long e at h =
          after_differs λ q.
          omega (arith, bound.ends, ap (λ (t : Term). length (encode (single t))) q, found.stands.within)

-- ---- a variable's two words, as they are read
pub tag_three : {z : ℤ} → SFits w64 z → of_z w64 z ≡ 3 → z ≡ pos variable_tag
tag_three f e = same_word f (record { sfits = lit< tt }) e

pub tag_four : {z : ℤ} → SFits w64 z → of_z w64 z ≡ 4 → z ≡ pos call_tag
tag_four f e = same_word f (record { sfits = lit< tt }) e

pub number_read : {z : ℤ} → SFits w64 z → nat_abs (to_z w64 (of_z w64 z)) ≡ nat_abs z
number_read {z} f = ap nat_abs (to_z-of_z w64 z f)

-- ---- what one turn answers at a variable
module _ {table : List ℤ} {i end : ℕ} {config : List ℤ} {j : ℕ} {starts ends : List ℕ} {v : ℕ} (three : word table i ≡ pos variable_tag) (number : v ≡ nat_abs (word table (i + 1))) where
  pub turned_bind : {to : ℕ} → to ≡ get_or ends v 0 → to ≡ 0 → {e : ℕ} → GroundEnds config j e → LeftTurned table i end config j starts ends (Some (Bind v e))
  turned_bind r z {e} t =
      record { after = λ n o h w. at_variable w h three number λ lss g gs gss σ low d k. let x = found v lss g gs gss σ k in let a = t.ends x.term x.shape x.grounded x.stands in (low, omega (arith, a), omega (arith, a, x.stands.within), after_bind v lss g gs gss σ k low e (sym r ∙ z) a) }

  -- a part from a start to an end that were read in the arrays
  module _ {from to : ℕ} (start : from ≡ get_or starts v 0) (stop : to ≡ get_or ends v 0) (z : to ≡ 0 → ⊥) where
    module _ {e : ℕ} (at : e ≡ j + (to - from)) where
      pub turned_again : e ≤ length config → part config from to ≡ part config j e → LeftTurned table i end config j starts ends (Some (Again e))
      turned_again h same =
          record { after = λ n o m w. at_variable w m three number λ lss g gs gss σ low d k. let x = has_part k v (λ q. z (stop ∙ q)) in after_again v lss g gs gss σ k x.0 x.1 e (rw (← stop, ← start) at) h (rw (← stop, ← start) same) }

      pub turned_differs : (part config from to ≡ part config j e → ⊥) → LeftTurned table i end config j starts ends None
      turned_differs f =
          record { after = λ n o m w. at_variable w m three number λ lss g gs gss σ low d k. let x = has_part k v (λ q. z (stop ∙ q)) in after_other_words v lss g gs gss σ k x.0 x.1 e (rw (← stop, ← start) at) (λ q. f (rw (stop, start) q)) }

      pub turned_long : length config < e → LeftTurned table i end config j starts ends None
      turned_long h =
          record { after = λ n o m w. at_variable w m three number λ lss g gs gss σ low d k. let x = has_part k v (λ q. z (stop ∙ q)) in after_long v lss g gs gss σ k x.0 x.1 e (rw (← stop, ← start) at) h }

    -- it lies in the configuration
    pub part_within : TurnFrom table i end config j starts ends → (from ≤ to) × (to ≤ length config)
    part_within t =
        at_variable t.walking t.before three number λ lss g gs gss σ low d k.
        let x = has_part k v (λ q. z (stop ∙ q)) in
        let b = bound v lss g gs gss σ k x.0 x.1 in
        let y = b.stands.within in
        let q = b.ends in
        (omega arith, omega arith)

  -- a part that a variable has, and its words looked for at the walk's place
  module _ {span : Span} (is : span ≡ record { from = get_or starts v 0; to = get_or ends v 0 }) (bound : get_or ends v 0 ≡ 0 → ⊥) where
    pub part_there : TurnFrom table i end config j starts ends → (span.from ≤ span.to) × (span.to ≤ length config)
    part_there = part_within (ap (λ (s : Span). s.from) is) (ap (λ (s : Span). s.to) is) (λ q. bound (sym (ap (λ (s : Span). s.to) is) ∙ q))

    pub turned_found : {e : ℕ} → Recurs config span.from span.to j (Some e) → LeftTurned table i end config j starts ends (Some (Again e))
    turned_found r = turned_again (ap (λ (s : Span). s.from) is) (ap (λ (s : Span). s.to) is) (λ q. bound (sym (ap (λ (s : Span). s.to) is) ∙ q)) r.again.0 r.again.1 r.again.2

    pub turned_unfound : Recurs config span.from span.to j None → LeftTurned table i end config j starts ends None
    turned_unfound r = ⊎_elim (turned_long (ap (λ (s : Span). s.from) is) (ap (λ (s : Span). s.to) is) (λ q. bound (sym (ap (λ (s : Span). s.to) is) ∙ q)) refl) (λ h. turned_differs (ap (λ (s : Span). s.from) is) (ap (λ (s : Span). s.to) is) (λ q. bound (sym (ap (λ (s : Span). s.to) is) ∙ q)) refl (r.other h)) (cases_lt (length config) (j + (span.to - span.from)))

  -- the variable's number is below 16
  pub number_fits : TurnFrom table i end config j starts ends → T (non_neg (word table (i + 1))) × (v < variables)
  number_fits t = at_variable t.walking t.before three number λ lss g gs gss σ low d k. (subst⁻¹ (λ (y : ℤ). T (non_neg y)) d tt, low)
