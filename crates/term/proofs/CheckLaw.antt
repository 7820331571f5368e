-- The configuration check, from the place where a ground term at the start ends; and the part that is a subterm, from the check.
use mathlib.Core.Path.{◌≡◌, refl, sym, ◌∙◌, ap, subst, subst⁻¹}
use mathlib.Core.Bool.{true, false}
use mathlib.Core.List.{List, []}
use Prim.Native.Nat.{ℕ, ◌+◌, ◌-◌, ◌*◌, ◌/◌, ◌≤◌, ◌<◌}
use native.Mathlib.Nat.{zero-add}
use native.Mathlib.Omega.{arith}
use lib.Dec.{T}
use lib.IntN.{ℤ}
use lib.ListN.{length, take, drop}
use lib.Seq.{take_all, take-length}
use Rattle.minuska.proofs.ContractLaw.{check_configuration_contract}
use Rattle.minuska.proofs.OutcomeLaw.{configuration_check_lem}
use Rattle.minuska.proofs.SubtermLaw.{ConfigurationSubterm, configuration_subterm, subterm_some, subterm_malformed, subterm_past, subterm_contract}
use Rattle.minuska.proofs.Bridge.AppendedLaw.{ground_closed}
use Rattle.minuska.proofs.Bridge.PlaceLaw.{stands_whole}
use Rattle.minuska.proofs.Bridge.ShapeLaw.{ok_shapely, ok_ordered, shapely_ok}
use Rattle.minuska.proofs.Bridge.PartLaw.{configuration_good, good_configuration}
use Rattle.minuska.proofs.Bridge.AcceptedLaw.{term_length, configuration_length}
use Rattle.minuska.specs.Bridge.Place.{Stands, GroundAt, GroundEnds}
use Rattle.minuska.specs.Bridge.Shape.{shapely, ordered}
use Rattle.minuska.specs.Contract.{CheckConfigurationContract, SubtermContract}
use Rattle.minuska.specs.Rule.{max_nodes, IsConfiguration}
use Rattle.minuska.specs.Term.{Forest, Term, single, node_count, is_ground}
use Rattle.minuska.specs.Word.{encode}
use Rattle.minuska.specs.declared.Refusal.{Refusal}
use Rattle.minuska.specs.declared.Refusal.TheVariants.{BadConfiguration}
use Rattle.term.specs.TermEnd.{ground_label, ground_terms_end, NoneMet, GroundTermsAre}
use Rattle.term.specs.Order.{FillsTo, Filled, InOrder}
use Rattle.std.specs.Prelude.{Some, None, Result, Ok, Err}
use Rattle.std.specs.Result.{is_err}
use Rattle.term.specs.declared.ground.Walked.{Walked}
use Rattle.term.proofs.ExtentLaw.{ends_stands, stands_ends}
use Rattle.term.proofs.TermEndLaw.{ground_terms_are}
use Rattle.term.proofs.OrderLaw.{none_ordered}

module _ (ws : List ℤ) where
  -- a configuration is short, and ends where its words end
  configuration_short : (g : Term) → IsConfiguration ws g → length ws ≤ 65536
  configuration_short g c = let l = configuration_length ws g c in let f = (configuration_good g c.accepted).few in omega arith

  configuration_ends : (g : Term) → IsConfiguration ws g → ground_terms_end ws 0 1 ≡ Some (length ws)
  configuration_ends g c =
      let p = configuration_good g c.accepted in
      let e : length (encode (single g)) ≡ length ws = ap length c.words in
      let s : Stands ws 0 (encode (single g)) = record { words = ap (take (length (encode (single g)))) (sym c.words) ∙ (take-length (encode (single g))); within = omega arith } in
      ground_terms_are ws 0 1 ∙ (stands_ends ground_label ws 0 g (ok_shapely (single g) p.good) p.grounded s ∙ ap Some (zero-add (length (encode (single g))) ∙ e))

  -- the term that the words are, if the walk ends where they end
  pub record Read : Type 0 where
    pub term : Term
    pub shape : T (shapely (single term))
    pub grounded : T (is_ground (single term))
    pub words : encode (single term) ≡ ws

  pub read : {w : Walked} → GroundTermsAre ws 0 1 (Some w) → w.end ≡ length ws → Read
  read {w} g q =
      let e = w.end in
      let t = ends_stands ground_label ws 0 e (sym (ground_terms_are ws 0 1) ∙ sym g.place) in
      let xs = encode (single t.term) in
      let n : length xs ≡ length ws = let x = t.ends in omega arith in
      record { term = t.term; shape = t.shape; grounded = t.passes; words = sym t.stands.words ∙ take_all (length xs) ws (omega arith) }

  fills : (f : Forest) → T (shapely f) → T (is_ground f) → encode f ≡ ws → FillsTo ws 0 (length ws) f
  fills f x g w =
      let n : length (encode f) ≡ length ws = ap length w in
      record { shape = x; below = ground_closed f g; stands = subst⁻¹ (Stands ws 0) w (stands_whole ws); ends = omega arith }

  pub read_fills : Read → Filled ws 0 (length ws)
  read_fills t = record { forest = single t.term; fills = fills (single t.term) t.shape t.grounded t.words }

  accepted : Read → (length ws ≤ 65536) → ((t : Term) → FillsTo ws 0 (length ws) (single t) → T (ordered (single t))) → CheckConfigurationContract ws (Ok tt)
  accepted t h o =
      let g = t.term in
      let l = term_length t.term in
      let n : length (encode (single t.term)) ≡ length ws = ap length t.words in
      let f : node_count t.term ≤ max_nodes = omega arith in
      let x = o t.term (fills (single t.term) t.shape t.grounded t.words) in
      check_configuration_contract ws (Ok tt) (sym ((configuration_check_lem ws).good.1 (g, record { accepted = good_configuration t.term (record { good = shapely_ok (single t.term) t.shape x; grounded = t.grounded; few = f }); words = t.words })))

  -- no dictionary was met, or all are in order
  pub accepted_none : Read → length ws ≤ 65536 → NoneMet ws 0 (length ws) → CheckConfigurationContract ws (Ok tt)
  accepted_none t h m = accepted t h (λ g f. none_ordered m (single g) f.stands f.ends)

  pub accepted_order : Read → length ws ≤ 65536 → InOrder ws 0 (length ws) true → CheckConfigurationContract ws (Ok tt)
  accepted_order t h m = accepted t h (λ g f. subst T (m.is (single g) f) tt)

  refused : ((g : Term) → IsConfiguration ws g → ⊥) → CheckConfigurationContract ws (Err BadConfiguration)
  refused f = check_configuration_contract ws (Err BadConfiguration) (sym ((configuration_check_lem ws).bad.1 f))

  pub refused_long : 65536 < length ws → CheckConfigurationContract ws (Err BadConfiguration)
  refused_long h = refused (λ g c. let k = configuration_short g c in omega arith)

  pub refused_nowhere : GroundTermsAre ws 0 1 None → CheckConfigurationContract ws (Err BadConfiguration)
  refused_nowhere p = refused (λ g c. let q = configuration_ends g c in let r = p.place in let f : ⊥ = cc in f)

  pub refused_elsewhere : {w : Walked} → GroundTermsAre ws 0 1 (Some w) → (w.end ≡ length ws → ⊥) → CheckConfigurationContract ws (Err BadConfiguration)
  refused_elsewhere {w} p f = refused (λ g c. let q = configuration_ends g c in let r = p.place in f (let z : w.end ≡ length ws = cc in z))

  pub refused_order : InOrder ws 0 (length ws) false → CheckConfigurationContract ws (Err BadConfiguration)
  refused_order m =
      refused (λ g c.
      let p = configuration_good g c.accepted in
      let f = fills (single g) (ok_shapely (single g) p.good) p.grounded c.words in
      subst⁻¹ T (m.is (single g) f) (ok_ordered (single g) p.good))

-- ---- the part that is a subterm
module _ (ws : List ℤ) (place : ℕ) where
  pub past_part : length ws / 2 ≤ place → SubtermContract ws place []
  past_part h = subterm_contract ws place [] (sym (subterm_past ws place (omega arith)))

  pub refused_part : (x : Result (Unit {0}) Refusal) → CheckConfigurationContract ws x → is_err x ≡ true → SubtermContract ws place []
  refused_part (Ok t) check e = absurd (let f : ⊥ = cc in f)
  refused_part (Err r) check e = subterm_contract ws place [] (sym (subterm_malformed ws place (λ g c. let h = check.claim.good.1 (g, c) in let f : ⊥ = cc in f)))

  -- the subterm that stands at a place below the node count
  pub record Found : Type 0 where
    pub config : Term
    pub is : IsConfiguration ws config
    pub here : ConfigurationSubterm ws config place

  pub found : (x : Result (Unit {0}) Refusal) → CheckConfigurationContract ws x → is_err x ≡ false → place < length ws / 2 → Found
  found (Err r) check e h = absurd (let f : ⊥ = cc in f)
  found (Ok tt) check e h =
      let g = check.claim.good.0 refl in
      let l = configuration_length ws g.0 g.1 in
      record { config = g.0; is = g.1; here = configuration_subterm ws g.0 place g.1 (omega arith) }

  module _ (f : Found) where
    pub found_at : GroundAt ws (2 * place)
    found_at = record { term = f.here.term; shape = ok_shapely (single f.here.term) f.here.good; grounded = f.here.grounded; stands = f.here.stands }

    -- the part up to its end
    module _ (e : ℕ) (g : GroundEnds ws (2 * place) e) where
      end : e ≡ 2 * place + length (encode (single f.here.term))
      end = g.ends f.here.term (ok_shapely (single f.here.term) f.here.good) f.here.grounded f.here.stands

      pub found_within : (2 * place ≤ e) × (e ≤ length ws)
      found_within = let n = end in let w = f.here.stands.within in (omega arith, omega arith)

      pub found_part : SubtermContract ws place (take (e - 2 * place) (drop (2 * place) ws))
      found_part =
          let n = end in
          let m : e - 2 * place ≡ length (encode (single f.here.term)) = omega arith in
          subterm_contract ws place (take (e - 2 * place) (drop (2 * place) ws))
          (ap (λ (i : ℕ). take i (drop (2 * place) ws)) m ∙ (f.here.stands.words ∙ sym (subterm_some ws place f.config f.here.term f.is f.here.is)))
