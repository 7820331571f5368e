-- Ground terms: the walk of the crate `term` is the walk over nodes of the level `Ground`.
use mathlib.Core.Path.{◌≡◌, refl, sym, ◌∙◌, ap}
use mathlib.Core.Bool.{Bool, true, false, true≢false}
use mathlib.Core.Option.{Option, none, some}
use mathlib.Core.List.{List, [], ◌∷◌, ◌++◌}
use Prim.Native.Nat.{ℕ, zero, suc, ◌+◌, ◌≤◌}
use native.Mathlib.Nat.{add-zero}
use native.Mathlib.Omega.{arith}
use lib.IntN.{ℤ}
use lib.ListN.{length, drop, replicate, length-drop}
use lib.Seq.{drop-drop}
use Rattle.minuska.specs.Basics.{◌>>=◌, provided}
use Rattle.minuska.specs.Computed.Read.{read_node}
use Rattle.minuska.specs.Term.{Label, error, truth, whole, variable, call, symbol, dictionary}
use Rattle.term.specs.TermEnd.{ground_label, children_if, extent, place_of, ground_terms_end, GroundTermsAre}
use Rattle.term.proofs.TermEndLaw.{extent_long, ground_terms_are, place_some}
use Rattle.std.specs.Prelude.{Some, None}
use Rattle.table.specs.Level.{Level}
use Rattle.table.specs.Level as L
use Rattle.table.specs.Below.{Below}
use Rattle.table.specs.Below as B
use Rattle.table.specs.Node.{kind, node_as, node_in, node_of, admit_node, admitted}
use Rattle.table.specs.Walk.{Walked, onward, walk}
use Rattle.table.specs.Reach.{Reaches, Stops, Missed, Ends, EndIs}
use Rattle.term.specs.declared.ground.Walked as TW
use Rattle.std.specs.Prelude as S
use Rattle.table.proofs.BasicLaw.{never}
use Rattle.table.proofs.KeepLaw.{node_keeps}
use Rattle.table.proofs.MetLaw.{met_ground}
use Rattle.table.proofs.ReachLaw.{more}

-- ---- one node
below : Option ℕ → Below
below none = B.Bad
below (some k) = B.Are L.Ground k

ground_admitted : (t d : ℤ) (seen : List Bool) → admitted L.Ground t d seen ≡ below (children_if ground_label t d)
unfolding admitted node_of below
ground_admitted t d seen = pick (read_node t d)
  where
    at : (l : Label) (k : ℕ) → admit_node L.Ground seen (Some (node_as (kind l) k)) ≡ below (provided (ground_label l) k)
    at error k = refl
    at (truth b) k = refl
    at (whole z) k = refl
    at (variable v) k = refl
    at (call c) k = refl
    at (symbol s) k = refl
    at (dictionary n) k = refl

    pick : (o : Option (Label × ℕ)) → admit_node L.Ground seen (node_in o) ≡ below (o >>= λ n. provided (ground_label n.0) n.1)
    pick none = refl
    pick (some n) = at n.0 n.1

-- ---- so many terms
module _ (ls : List Level) (seen : List Bool) where
  behind : List ℤ → ℕ → Option ℕ → Walked
  behind xs at none = record { end = none; seen = seen }
  behind xs at (some m) = walk (drop m xs) (at + m) ls seen

  ground_walk : (xs : List ℤ) (k at : ℕ) → walk xs at (replicate k L.Ground ++ ls) seen ≡ behind xs at (extent ground_label xs k)
  unfolding behind below
  ground_walk [] zero at = ap (λ (n : ℕ). walk [] n ls seen) (sym (add-zero at))
  ground_walk [] (suc k) at = refl
  ground_walk (t ∷ []) zero at = ap (λ (n : ℕ). walk (t ∷ []) n ls seen) (sym (add-zero at))
  ground_walk (t ∷ []) (suc k) at = refl
  ground_walk (t ∷ d ∷ ws) zero at = ap (λ (n : ℕ). walk (t ∷ d ∷ ws) n ls seen) (sym (add-zero at))
  ground_walk (t ∷ d ∷ ws) (suc k) at =
      ap (λ (s : List Bool). onward (admitted L.Ground t d seen) (replicate k L.Ground ++ ls) s (λ ms s. walk ws (at + 2) ms s)) (node_keeps L.Ground tt t d seen) ∙
      (ap (λ (b : Below). onward b (replicate k L.Ground ++ ls) seen (λ ms s. walk ws (at + 2) ms s)) (ground_admitted t d seen) ∙
      pick (children_if ground_label t d) (λ j. ground_walk ws j (at + 2)))
    where
      last : (o : Option ℕ) → behind ws (at + 2) o ≡ behind (t ∷ d ∷ ws) at (o >>= λ e. some (2 + e))
      last none = refl
      last (some m) =
          let e : suc (suc m) ≡ 2 + m = omega arith in
          let f : at + 2 + m ≡ at + (2 + m) = omega arith in
          ap (λ (n : ℕ). walk (drop m ws) n ls seen) f ∙ ap (λ (n : ℕ). walk (drop n (t ∷ d ∷ ws)) (at + (2 + m)) ls seen) e

      pick : (o : Option ℕ) → ((j : ℕ) → walk ws (at + 2) (replicate j L.Ground ++ ls) seen ≡ behind ws (at + 2) (extent ground_label ws j)) →
          onward (below o) (replicate k L.Ground ++ ls) seen (λ ms s. walk ws (at + 2) ms s) ≡ behind (t ∷ d ∷ ws) at (o >>= λ m. extent ground_label ws (m + k) >>= λ e. some (2 + e))
      pick none i = refl
      pick (some n) i = ap (λ (x : List Level). walk ws (at + 2) x seen) (more L.Ground n k ls) ∙ (i (n + k) ∙ last (extent ground_label ws (n + k)))

module _ (ws : List ℤ) (at k : ℕ) (seen : List Bool) where
  ground_reaches : at ≤ length ws → (e : ℕ) → Some e ≡ ground_terms_end ws at k → Reaches ws L.Ground at k seen e 0 seen
  unfolding behind
  ground_reaches h e q =
      let a = place_some at e (extent ground_label (drop at ws) k) (sym (q ∙ ground_terms_are ws at k)) in
      let b = extent_long ground_label (drop at ws) k a.0 a.1 in
      let l = length-drop at ws in
      let z = a.2 in
      record {
        later = omega arith;
        inside = omega arith;
        same = λ ls. ground_walk ls seen (drop at ws) k at ∙
            (ap (behind ls seen (drop at ws) at) a.1 ∙
            (ap (λ (x : List ℤ). walk x (at + a.0) ls seen) (drop-drop a.0 at ws) ∙ ap (λ (n : ℕ). walk (drop n ws) n ls seen) z));
      }

  ground_stops : None ≡ ground_terms_end ws at k → Stops ws L.Ground at k seen seen
  unfolding behind
  ground_stops q = record { nowhere = λ ls. ground_walk ls seen (drop at ws) k at ∙ ap (behind ls seen (drop at ws) at) (no_place (extent ground_label (drop at ws) k) (q ∙ ground_terms_are ws at k)) }
    where
      no_place : (o : Option ℕ) → None ≡ place_of at o → o ≡ none
      no_place none e = refl
      no_place (some m) e = absurd (never (cc))

  -- what the walks answered
  pub ground_on : {mixed : Bool} → at ≤ length ws → {e : ℕ} {met : Bool} → GroundTermsAre ws at k (Some (record { end = e; met = met })) → (mixed ≡ false → met ≡ false) → Ends mixed ws L.Ground at k seen seen e met
  ground_on h {e} {met} g u = record { reaches = ground_reaches h e g.place; order = met_ground ws at k (record { end = e; met = met }) g; unmet = u }

  pub ground_off : {mixed : Bool} → GroundTermsAre ws at k None → Missed mixed ws L.Ground at k seen seen
  ground_off g = record { kept = refl; nowhere = λ m. ground_stops g.place }

  pub untold : {mixed : Bool} → mixed ≡ false → Missed mixed ws L.Ground at k seen seen
  untold f = record { kept = refl; nowhere = λ m. absurd (true≢false (sym m ∙ f)) }

  pub ground_answered : (mixed : Bool) → mixed ≡ true → at ≤ length ws → (r : S.Option TW.Walked) → GroundTermsAre ws at k r → EndIs mixed ws L.Ground at k seen seen r
  ground_answered mixed m h None g = ground_off g
  ground_answered mixed m h (Some w) g = ground_on h g (λ f. absurd (true≢false (sym m ∙ f)))
