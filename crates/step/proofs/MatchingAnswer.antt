-- Where the walk begins, where it ends, and what is answered there.
use Rattle.std.specs.Prelude.{Some, None, Ok, Err}
use mathlib.Core.Path.{◌≡◌, refl, sym, ◌∙◌, ap, subst, subst⁻¹}
use mathlib.Core.Bool.{◌&&◌}
use mathlib.Core.Option.{none, some, some-injective, none-ne-some}
use mathlib.Core.List.{List}
use Prim.Native.Nat.{ℕ, zero, suc, ◌+◌, ◌-◌, ◌*◌, ◌/◌, ◌^◌, ◌<◌, ◌≤◌}
use native.Mathlib.Omega.{arith}
use native.Mathlib.Decide.{ℕ_discrete}
use lib.Dec.{T, leb, leb→le}
use lib.IntN.{ℤ}
use lib.ListN.{length, get_or, replicate, set}
use lib.Seq.{get_or-set_same, get_or-set_other}
use Rattle.minuska.specs.Term.{Forest, nil, node, Term, single, node_count, is_ground}
use Rattle.minuska.specs.Word.{ok}
use Rattle.minuska.specs.Satisfaction.{Valuation}
use Rattle.minuska.specs.Rule.{max_nodes, IsConfiguration}
use Rattle.minuska.specs.Computed.Match.{unbound, try_match}
use Rattle.minuska.specs.Bridge.Place.{Stands, BoundAt, Binds, Accepted}
use Rattle.minuska.proofs.Tests.{and_left, and_right}
use Rattle.minuska.proofs.Bridge.PlaceLaw.{stands_whole}
use Rattle.minuska.proofs.WordLaw.{encode_length}
use Rattle.minuska.proofs.MatchLaw.{match_sound, match_complete}
use Rattle.minuska.specs.Computed.Compare.{Comparison, apart, comparison, bound_by}
use Rattle.step.specs.Matching.{IsLeft, LeftIn, compared_by, LeftMatched, MatchContract, Walk, Walking, TurnFrom, Put, After, LeftTurned}
use Rattle.step.specs.declared.matching.LeftTurn.{LeftTurn}
use Rattle.step.specs.declared.matching.LeftTurn.TheVariants.{Bind}
use Rattle.minuska.proofs.CompareLaw.{later_none, compare_match}
use Rattle.step.proofs.MatchingLaw.{has_part, room}

zeros : (k v : ℕ) → ◌≡◌ {A = ℕ} (get_or (replicate k 0) v 0) 0
zeros zero v = refl
zeros (suc k) zero = refl
zeros (suc k) (suc v) = zeros k v

-- a configuration's term is in range, and ground
module _ {config : List ℤ} {g : Term} (y : IsConfiguration config g) where
  both_ground : T (ok (single g) && is_ground (single g))
  both_ground = and_left (ok (single g) && is_ground (single g)) (leb (node_count g) max_nodes) y.accepted

  pub ground_good_lem : T (ok (single g))
  ground_good_lem = and_left (ok (single g)) (is_ground (single g)) both_ground

  ground_ground_lem : T (is_ground (single g))
  ground_ground_lem = and_right (ok (single g)) (is_ground (single g)) both_ground

  -- its places are numbers of 32 bits
  pub few_words : length config < 2 ^ 32
  few_words = omega (arith, ap length y.words, encode_length (single g), leb→le (node_count g) max_nodes (and_right (ok (single g) && is_ground (single g)) (leb (node_count g) max_nodes) y.accepted))

-- at the first words nothing is bound
pub begins : {table : List ℤ} {at end : ℕ} {config : List ℤ} (starts : List ℕ) {l g : Term} → IsLeft table at end l → IsConfiguration config g → Walking table end config 0 at 0 starts (replicate 16 0) (comparison l g)
begins {table} {at} {end} {config} starts {l} {g} x y =
    record {
      lefts = single l;
      grounds = single g;
      valuation = unbound;
      walk = record {
        left_good = x.good;
        left_symbolic = x.symbolic;
        left_stands = x.stands;
        left_ends = x.ends;
        ground_good = ground_good_lem y;
        ground_ground = ground_ground_lem y;
        ground_stands = subst⁻¹ (Stands config 0) y.words (stands_whole config);
        ground_ends = omega (arith, ap length y.words);
        as_many = refl;
        binds = record { places = λ v t e. absurd (none-ne-some t e) };
        free = λ v e. zeros 16 v;
        outcome = later_none (comparison l g);
      };
    }

-- the comparison's valuation is the match's
module _ {table : List ℤ} {at end : ℕ} {config : List ℤ} {l g : Term} (x : IsLeft table at end l) (y : IsConfiguration config g) where
  matched_by : bound_by (comparison l g) ≡ try_match (single l) (single g) unbound
  matched_by = compare_match (single l) (single g) unbound

  -- at the left's end everything is matched
  pub all_matched : {n i j : ℕ} {starts ends : List ℕ} → end ≤ i → Walking table end config n i j starts ends (comparison l g) → LeftMatched config l g starts ends (Ok tt)
  all_matched {n} {i} {j} {starts} {ends} h w = pick w.lefts w.grounds w.walk
    where
      pick : (f f' : Forest) → Walk table end config n i j starts ends f f' w.valuation (comparison l g) → LeftMatched config l g starts ends (Ok tt)
      pick (node m ls lss) f' k = absurd (let e = k.left_ends in let f : ⊥ = omega arith in f)
      pick nil (node m gs gss) k = absurd (let f : ⊥ = omega (arith, k.as_many) in f)
      pick nil nil k =
          let e : some w.valuation ≡ try_match (single l) (single g) unbound = ap bound_by k.outcome ∙ matched_by in
          record {
            answer = ap compared_by k.outcome;
            claim = (λ z. (w.valuation, (match_sound (single l) (single g) unbound w.valuation (sym e)).0), λ z. refl);
            binds = λ ρ z. subst (Binds config starts ends) (some-injective w.valuation ρ (e ∙ z)) k.binds;
            free = λ ρ z v u. k.free v (ap (λ (τ : Valuation). τ v) (some-injective w.valuation ρ (e ∙ z)) ∙ u);
          }

  -- at a node that disagrees
  pub not_matched : {starts ends : List ℕ} {n : ℕ} → comparison l g ≡ apart n → LeftMatched config l g starts ends (Err n)
  not_matched {starts} {ends} {n} a =
      let e : try_match (single l) (single g) unbound ≡ none = sym matched_by ∙ ap bound_by a in
      record {
        answer = ap compared_by (sym a);
        claim = (λ f. cc, λ z. let c = match_complete (single l) (single g) unbound z.0 z.1 (λ v t q. absurd (none-ne-some t q)) in absurd (none-ne-some c.0 (sym e ∙ c.1)));
        binds = λ ρ f. absurd (none-ne-some ρ (sym e ∙ f));
        free = λ ρ f v z. absurd (none-ne-some ρ (sym e ∙ f));
      }

-- ---- the arrays, whatever is answered
pub held : {table : List ℤ} {end : ℕ} {config : List ℤ} {n i j : ℕ} {starts ends : List ℕ} {o : Comparison} → Walking table end config n i j starts ends o → (v : ℕ) → (get_or ends v 0 ≡ 0 → ⊥) → (t : Term) × BoundAt config (get_or starts v 0) (get_or ends v 0) v t
held w v z = let x = has_part w.walk v z in (x.0, w.walk.binds.places v x.0 x.1)

-- a number of an array is put anew
put_set : (xs : List ℕ) (v x : ℕ) → v < length xs → Put xs (set xs v x) v x
put_set xs v x h = record { here = get_or-set_same xs v x 0 h; others = λ u f. get_or-set_other xs v u x 0 f }

-- where its end is 0 after a number above 0 was put, the start is another's
kept : (starts ends : List ℕ) (v j e : ℕ) (first : List ℕ) → v < length ends → 0 < e → ((u : ℕ) → get_or ends u 0 ≡ 0 → get_or starts u 0 ≡ get_or first u 0) → (u : ℕ) → get_or (set ends v e) u 0 ≡ 0 → get_or (set starts v j) u 0 ≡ get_or first u 0
kept starts ends v j e first h much keeps u z = pick (ℕ_discrete u v)
  where
    pick : Dec (u ≡ v) → get_or (set starts v j) u 0 ≡ get_or first u 0
    pick (yes p) = absurd (let q : e ≡ 0 = sym (get_or-set_same ends v e 0 h) ∙ (ap (λ (w : ℕ). get_or (set ends v e) w 0) (sym p) ∙ z) in let f : ⊥ = omega arith in f)
    pick (no f) = get_or-set_other starts v u j 0 f ∙ keeps u (sym (get_or-set_other ends v u e 0 f) ∙ z)

-- ---- a turn of the loop
module _ (table : List ℤ) (at end : ℕ) (config : List ℤ) (first : List ℕ) where
  -- so many nodes are passed: of every left and configuration that stand there, the walk is where `Walking` says; a start keeps where the end is 0
  pub record MatchingAt (i j : ℕ) (starts ends : List ℕ) : Type 0 where
    pub passed : ℕ
    pub far : i ≡ at + 2 * passed
    pub walking : (l g : Term) → IsLeft table at end l → IsConfiguration config g → Walking table end config passed i j starts ends (comparison l g)
    pub keeps : (v : ℕ) → get_or ends v 0 ≡ 0 → get_or starts v 0 ≡ get_or first v 0

  pub matching_first : (starts ends : List ℕ) → ends ≡ replicate 16 0 → starts ≡ first → MatchingAt at 0 starts ends
  matching_first starts ends e f =
      record { passed = 0; far = omega arith; walking = λ l g x y. subst⁻¹ (λ (xs : List ℕ). Walking table end config 0 at 0 starts xs (comparison l g)) e (begins starts x y); keeps = λ v z. ap (λ (xs : List ℕ). get_or xs v 0) f }

  module _ {i j : ℕ} {starts ends : List ℕ} (m : MatchingAt i j starts ends) where
    pub matching_there : {k : ℕ} → k ≡ i → MatchingAt k j starts ends
    matching_there e = subst⁻¹ (λ (k : ℕ). MatchingAt k j starts ends) e m

    module _ (x : LeftIn table at end) (y : Accepted config) where
      here : Walking table end config m.passed i j starts ends (comparison x.left y.term)
      here = m.walking x.left y.term x.is y.is

      pub matching_parts : (v : ℕ) → (get_or ends v 0 ≡ 0 → ⊥) → (t : Term) × BoundAt config (get_or starts v 0) (get_or ends v 0) v t
      matching_parts = held here

      -- all its nodes are passed
      pub all_nodes : {n : ℕ} → i ≡ at + 2 * n → (end - at) / 2 ≤ n → end ≤ i
      all_nodes e h = omega (arith, x.is.ends, encode_length (single x.left))

      pub matched_all : end ≤ i → MatchContract table at end config first starts ends (Ok tt)
      matched_all h = record { each = λ l g a b. all_matched a b h (m.walking l g a b); parts = matching_parts; keeps = m.keeps }

      module _ (before : i < end) where
        pub matching_from : TurnFrom table i end config j starts ends
        matching_from = record { before = before; passed = m.passed; outcome = comparison x.left y.term; walking = here }

        -- the places that a turn gives a variable: they are numbers of 32 bits
        pub bind_fits : {v e : ℕ} → LeftTurned table i end config j starts ends (Some (Bind v e)) → (v < 16) × (j < 2 ^ 32) × (e < 2 ^ 32)
        bind_fits t =
            let h = few_words y.is in
            let k = t.after m.passed (comparison x.left y.term) before here in
            (k.0, omega (arith, (room matching_from).grounded), omega (arith, k.2))

    -- a node more is passed, or the first that disagrees is found
    module _ (before : i < end) where
      module _ {j' : ℕ} {turn : LeftTurn} (t : LeftTurned table i end config j starts ends (Some turn)) where
        pub matching_on : ((n : ℕ) (o : Comparison) → After table end config n i j starts ends o (Some turn) → Walking table end config (n + 1) (i + 2) j' starts ends o) → MatchingAt (i + 2) j' starts ends
        matching_on go = record { passed = m.passed + 1; far = omega (arith, m.far); walking = λ l g a b. go m.passed (comparison l g) (t.after m.passed (comparison l g) before (m.walking l g a b)); keeps = m.keeps }

      pub matching_bind : length starts ≡ 16 → length ends ≡ 16 → LeftIn table at end → Accepted config → {v e : ℕ} → LeftTurned table i end config j starts ends (Some (Bind v e)) → MatchingAt (i + 2) e (set starts v j) (set ends v e)
      matching_bind long wide x y {v} {e} t =
          let low = (bind_fits x y before t).0 in
          let some = (t.after m.passed (comparison x.left y.term) before (here x y)).1 in
          record {
            passed = m.passed + 1;
            far = omega (arith, m.far);
            walking = λ l g a b. (t.after m.passed (comparison l g) before (m.walking l g a b)).3 (set starts v j) (set ends v e) (put_set starts v j (omega arith)) (put_set ends v e (omega arith));
            keeps = kept starts ends v j e first (omega arith) some m.keeps;
          }

      pub matched_until : (x : LeftIn table at end) → Accepted config → LeftTurned table i end config j starts ends None → {n : ℕ} → n ≡ m.passed → MatchContract table at end config first starts ends (Err n)
      matched_until x y t e =
          subst⁻¹ (λ (k : ℕ). MatchContract table at end config first starts ends (Err k)) e
          (record { each = λ l g a b. not_matched a b (t.after m.passed (comparison l g) before (m.walking l g a b)); parts = matching_parts x y; keeps = m.keeps })
