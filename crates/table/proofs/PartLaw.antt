-- A term walked is a term read: the walk finds the place behind a term exactly if the words there are one that passes.
use mathlib.Core.Path.{◌≡◌, refl, sym, ◌∙◌, ap, subst, subst⁻¹}
use mathlib.Core.Bool.{Bool, true, false, cond}
use mathlib.Core.Option.{Option, none, some, none-ne-some, some-injective}
use mathlib.Core.List.{List, [], ◌∷◌, ◌++◌}
use Prim.Native.Nat.{ℕ, suc, ◌+◌, ◌-◌, ◌≤◌, ◌<◌}
use native.Mathlib.Omega.{arith}
use lib.Dec.{T, leb, leb→le, le→leb}
use lib.IntN.{ℤ}
use lib.ListN.{length, drop, replicate, length-append, length-replicate}
use lib.Seq.{drop-append_seam, drop-drop}
use Rattle.minuska.specs.Basics.{◌>>=◌, provided, present}
use Rattle.minuska.specs.Bridge.Shape.{shapely, ordered}
use Rattle.minuska.specs.Term.{Label, Term, single, node_count}
use Rattle.minuska.specs.Word.{ok, encode}
use Rattle.minuska.specs.Computed.Read.{span_terms, read_term}
use Rattle.minuska.proofs.Tests.{came, provided_some, provided_true}
use Rattle.minuska.proofs.WordLaw.{encode_length}
use Rattle.minuska.proofs.SpanLaw.{span_parts, read_term_iff}
use Rattle.minuska.proofs.Bridge.PlaceLaw.{stands_of}
use Rattle.minuska.proofs.Bridge.ReadLaw.{SpannedTerm, span_term, span_reads}
use Rattle.minuska.proofs.Bridge.ShapeLaw.{ok_shapely, ok_ordered}
use Rattle.term.proofs.OrderLaw.{none_ordered}
use Rattle.term.specs.Order.{FillsTo, Filled, InOrder}
use Rattle.term.specs.TermEnd.{NoneMet}
use Rattle.std.specs.Prelude.{Some, None}
use Rattle.table.specs.Level.{Level, Expression}
use Rattle.table.specs.Below.{Below}
use Rattle.table.specs.Below as B
use Rattle.table.specs.Node.{admitted, seen_after}
use Rattle.table.specs.Number.{answered}
use Rattle.table.specs.Reach.{Reaches, Stops, Met}
use Rattle.table.specs.Part.{Ending, ExpressionIs}
use Rattle.table.specs.Walk.{Walked, onward, walk, within, in_order, part_walk, part_end, part_seen, PartContract}
use Rattle.table.proofs.BasicLaw.{never}
use Rattle.table.proofs.NodeLaw.{admitted_read}
use Rattle.table.proofs.ScanLaw.{scan, found, walk_encode}
use Rattle.table.proofs.TestLaw.{scan_closed}
use Rattle.table.proofs.TurnLaw.{walk_done, part_bad, part_good, part_large, part_unordered}

-- ---- what is walked spans terms
walk_spans : (ws : List ℤ) (at : ℕ) (ls : List Level) (seen : List Bool) (e : ℕ) → (walk ws at ls seen).end ≡ some e → (p : List ℤ × List ℤ) × (span_terms ws (length ls) ≡ some p)
walk_spans [] at [] seen e h = (([], []), refl)
walk_spans [] at (l ∷ ls) seen e h = absurd (none-ne-some e h)
walk_spans (t ∷ []) at [] seen e h = (([], t ∷ []), refl)
walk_spans (t ∷ []) at (l ∷ ls) seen e h = absurd (none-ne-some e h)
walk_spans (t ∷ d ∷ ws) at [] seen e h = (([], t ∷ d ∷ ws), refl)
walk_spans (t ∷ d ∷ ws) at (l ∷ ls) seen e h = pick (admitted l t d seen) refl h (λ ms s. walk_spans ws (at + 2) ms s e)
  where
    pick : (b : Below) → admitted l t d seen ≡ b → (onward b ls (seen_after l t d seen) (λ ms s. walk ws (at + 2) ms s)).end ≡ some e →
        ((ms : List Level) (s : List Bool) → (walk ws (at + 2) ms s).end ≡ some e → (p : List ℤ × List ℤ) × (span_terms ws (length ms) ≡ some p)) →
        (p : List ℤ × List ℤ) × (span_terms (t ∷ d ∷ ws) (suc (length ls)) ≡ some p)
    pick B.Bad q g i = absurd (none-ne-some e g)
    pick (B.Are b k) q g i =
        let r = admitted_read l seen b k t d q in
        let j = i (replicate k b ++ ls) (seen_after l t d seen) g in
        let n : length (replicate k b ++ ls) ≡ k + length ls = length-append (replicate k b) ls ∙ ap (λ (m : ℕ). m + length ls) (length-replicate k b) in (
          (t ∷ d ∷ j.0.0, j.0.1),
          ap (λ (o : Option (Label × ℕ)). o >>= λ n. span_terms ws (n.1 + length ls) >>= λ p. some (t ∷ d ∷ p.0, p.1)) r.read ∙
              ap (λ (o : Option (List ℤ × List ℤ)). o >>= λ p. some (t ∷ d ∷ p.0, p.1)) (ap (span_terms ws) (sym n) ∙ j.1),
        )

-- ---- one term
abbrev ending : ℕ → List Bool → Option (ℕ × List Bool)
ending n s = some (n, s)

abbrev beside : List Bool → ℕ → Option (ℕ × List Bool)
beside s n = some (n, s)

walk_nothing : (ws : List ℤ) (at : ℕ) (seen : List Bool) → found (walk ws at [] seen) ≡ some (at, seen)
walk_nothing [] at seen = refl
walk_nothing (t ∷ []) at seen = refl
walk_nothing (t ∷ d ∷ ws) at seen = refl

module _ (xs : List ℤ) (at : ℕ) (l : Level) (seen : List Bool) where
  found_encode : (t : Term) (rest : List ℤ) → T (shapely (single t)) → encode (single t) ++ rest ≡ xs → found (walk xs at (l ∷ []) seen) ≡ (scan l (single t) seen >>= ending (at + length (encode (single t))))
  found_encode t rest x e =
      ap (λ (v : List ℤ). found (walk v at (l ∷ []) seen)) (sym e) ∙ (walk_encode (single t) x l [] at rest seen ∙ after (scan l (single t) seen))
    where
      after : (o : Option (List Bool)) → (o >>= λ s. found (walk rest (at + length (encode (single t))) [] s)) ≡ (o >>= ending (at + length (encode (single t))))
      after none = refl
      after (some s) = walk_nothing rest (at + length (encode (single t))) s

  pub found_some : (p : Term × List ℤ) → read_term xs ≡ some p → found (walk xs at (l ∷ []) seen) ≡ (scan l (single p.0) seen >>= ending (at + length (encode (single p.0))))
  found_some p q = let i = (read_term_iff xs p.0 p.1).0 q in found_encode p.0 p.1 (ok_shapely (single p.0) i.0) i.1

-- ---- a walk that ends fills the words up to there with a term; it is read exactly if that is in order
module _ (ws : List ℤ) (at : ℕ) (l : Level) (seen seen' : List Bool) (e : ℕ) (h : at ≤ length ws) (w : part_walk ws at l seen ≡ record { end = some e; seen = seen' }) where
  walk_fills : (t : Term) (rest : List ℤ) → T (shapely (single t)) → encode (single t) ++ rest ≡ drop at ws → FillsTo ws at e (single t)
  unfolding part_walk
  walk_fills t rest x q =
      let n = at + length (encode (single t)) in
      let f : (scan l (single t) seen >>= ending n) ≡ some (e, seen') = sym (found_encode (drop at ws) at l seen t rest x q) ∙ ap found w in
      let k = came (scan l (single t) seen) (ending n) (e, seen') f in
      let g : Path (ℕ × List Bool) (n, k.0) (e, seen') = some-injective (n, k.0) (e, seen') k.2 in
      record {
        shape = x;
        below = scan_closed (single t) l seen k.0 k.1;
        stands = stands_of (encode (single t)) rest (sym q) h;
        ends = sym (ap (λ (y : ℕ × List Bool). y.0) g);
      }

  spanned : (p : List ℤ × List ℤ) × (span_terms (drop at ws) 1 ≡ some p)
  unfolding part_walk
  spanned = walk_spans (drop at ws) at (l ∷ []) seen e (ap (λ (x : Walked). x.end) w)

  the_term : SpannedTerm spanned.0.0
  the_term = span_term (drop at ws) spanned.0 spanned.1

  the_fills : FillsTo ws at e (single the_term.term)
  the_fills =
      walk_fills the_term.term spanned.0.1 the_term.shape (ap (λ (v : List ℤ). v ++ spanned.0.1) the_term.words ∙ span_parts (drop at ws) 1 spanned.0 spanned.1)

  part_filled : Filled ws at e
  part_filled = record { forest = single the_term.term; fills = the_fills }

  ordered_read : T (ordered (single the_term.term)) → present (read_term (drop at ws)) ≡ true
  ordered_read o = ap present (span_reads (drop at ws) spanned.0 spanned.1 the_term o)

  -- no dictionary was met, or all are in order
  none_read : NoneMet ws at e → present (read_term (drop at ws)) ≡ true
  none_read m = ordered_read (none_ordered m (single the_term.term) the_fills.stands the_fills.ends)

  order_read : InOrder ws at e true → present (read_term (drop at ws)) ≡ true
  order_read m = ordered_read (subst T (m.is (single the_term.term) the_fills) tt)

  -- one is not
  order_unread : InOrder ws at e false → present (read_term (drop at ws)) ≡ false
  order_unread m = pick (read_term (drop at ws)) refl
    where
      pick : (o : Option (Term × List ℤ)) → read_term (drop at ws) ≡ o → present o ≡ false
      pick none q = refl
      pick (some p) q =
          let i = (read_term_iff (drop at ws) p.0 p.1).0 q in
          absurd (subst⁻¹ T (m.is (single p.0) (walk_fills p.0 p.1 (ok_shapely (single p.0) i.0) i.1)) (ok_ordered (single p.0) i.0))

-- ---- what is found of a term
pub record Part (ws : List ℤ) (at : ℕ) (l : Level) (seen seen' : List Bool) (e : ℕ) : Type 0 where
  pub term : Term
  pub read : read_term (drop at ws) ≡ some (term, drop e ws)
  pub ends : e ≡ at + length (encode (single term))
  pub in_range : T (ok (single term))
  pub small : node_count term ≤ 512
  pub scanned : scan l (single term) seen ≡ some seen'

twice : (t : Term) → length (encode (single t)) ≡ node_count t + node_count t
twice t = let e = encode_length (single t) in omega arith

-- an answer at a place, and nowhere
pub answered_some : (e : ℕ) (o : Option ℕ) → Some e ≡ answered o → o ≡ some e
answered_some e none h = absurd (never (cc))
answered_some e (some n) h = let p : n ≡ e = cc in ap {B = Option ℕ} some p

pub answered_none : (o : Option ℕ) → None ≡ answered o → o ≡ none
answered_none none h = refl
answered_none (some n) h = absurd (never (cc))

there : {A : Type 0} (o : Option A) → T (present o) → (a : A) × (o ≡ some a)
there none x = absurd x
there (some a) x = (a, refl)

ordered_some : (ws : List ℤ) (at e : ℕ) (o : Option ℕ) → in_order ws at o ≡ some e → (o ≡ some e) × T (present (read_term (drop at ws)))
ordered_some ws at e o h =
    let b = present (read_term (drop at ws)) in
    let c = came o (λ n. provided b n) e h in
    let w = provided_some b c.0 e c.2 in
    (c.1 ∙ ap {B = Option ℕ} some w.1, w.0)

within_some : (at e : ℕ) (o : Option ℕ) → within at o ≡ some e → (o ≡ some e) × (e - at ≤ 1024)
within_some at e o h =
    let c = came o (λ n. provided (leb (n - at) 1024) n) e h in
    let w = provided_some (leb (c.0 - at) 1024) c.0 e c.2 in
    (c.1 ∙ ap {B = Option ℕ} some w.1, subst (λ (n : ℕ). n - at ≤ 1024) w.1 (leb→le (c.0 - at) 1024 w.0))

module _ (ws : List ℤ) (at : ℕ) (l : Level) (seen : List Bool) where
  pub part_found : (e : ℕ) → part_end ws at l seen ≡ some e → Part ws at l seen (part_seen ws at l seen) e
  unfolding part_walk
  part_found e c =
      let o = ordered_some ws at e (within at w.end) c in
      let r = there (read_term (drop at ws)) o.1 in
      pick r.0 r.1 (within_some at e w.end o.0)
    where
      w : Walked
      w = walk (drop at ws) at (l ∷ []) seen

      build : (t : Term) (rest : List ℤ) (s : List Bool) → read_term (drop at ws) ≡ some (t, rest) → e - at ≤ 1024 → at + length (encode (single t)) ≡ e → scan l (single t) seen ≡ some s → s ≡ w.seen → Part ws at l seen w.seen e
      build t rest s q m n k h =
          let i = (read_term_iff (drop at ws) t rest).0 q in
          let d : rest ≡ drop e ws = sym (drop-append_seam (encode (single t)) rest) ∙ (ap (drop (length (encode (single t)))) i.1 ∙ (drop-drop (length (encode (single t))) at ws ∙ ap (λ (x : ℕ). drop x ws) n)) in
          let z = twice t in
          record { term = t; read = q ∙ ap (λ (x : List ℤ). some (t, x)) d; ends = sym n; in_range = i.0; small = omega arith; scanned = k ∙ ap {B = Option (List Bool)} some h }

      pick : (p : Term × List ℤ) → read_term (drop at ws) ≡ some p → (w.end ≡ some e) × (e - at ≤ 1024) → Part ws at l seen w.seen e
      pick p q h =
          let n = at + length (encode (single p.0)) in
          let f : (scan l (single p.0) seen >>= ending n) ≡ some (e, w.seen) = sym (found_some (drop at ws) at l seen p q) ∙ ap (λ (o : Option ℕ). o >>= beside w.seen) h.0 in
          let k = came (scan l (single p.0) seen) (ending n) (e, w.seen) f in
          let g : Path (ℕ × List Bool) (n, k.0) (e, w.seen) = some-injective (n, k.0) (e, w.seen) k.2 in
          build p.0 p.1 k.0 q h.1 (ap (λ (x : ℕ × List Bool). x.0) g) k.1 (ap (λ (x : ℕ × List Bool). x.1) g)

  pub part_missed : part_end ws at l seen ≡ none → (p : Term × List ℤ) → read_term (drop at ws) ≡ some p → node_count p.0 ≤ 512 → (s : List Bool) → scan l (single p.0) seen ≡ some s → ⊥
  unfolding part_walk
  part_missed c p q h s e =
      let n = at + length (encode (single p.0)) in
      let w = walk (drop at ws) at (l ∷ []) seen in
      let f : found w ≡ some (n, s) = found_some (drop at ws) at l seen p q ∙ ap (λ (o : Option (List Bool)). o >>= ending n) e in
      let k = came w.end (beside w.seen) (n, s) f in
      let g : k.0 ≡ n = ap (λ (x : ℕ × List Bool). x.0) (some-injective (k.0, w.seen) (n, s) k.2) in
      let z = twice p.0 in
      let b : provided (leb (n - at) 1024) n ≡ some n = provided_true (leb (n - at) 1024) n (le→leb (n - at) 1024 (omega arith)) in
      none-ne-some n (sym c ∙ (ap (λ (o : Option ℕ). in_order ws at (within at o)) (k.1 ∙ ap {B = Option ℕ} some g) ∙ (ap (in_order ws at) b ∙ ap (λ (o : Option (Term × List ℤ)). provided (present o) n) q)))

-- ---- what a walk over one term shows of the part: it stopped, or came to a place
module _ {ws : List ℤ} {l : Level} {at : ℕ} {seen seen' : List Bool} where
  pub part_stops : Stops ws l at 1 seen seen' → PartContract ws at l seen seen' None
  unfolding part_walk
  part_stops s = part_bad ws at l seen seen' (s.nowhere [])

  module _ {e : ℕ} (h : at ≤ length ws) (r : Reaches ws l at 1 seen e 0 seen') where
    walked : part_walk ws at l seen ≡ record { end = some e; seen = seen' }
    unfolding part_walk
    walked = r.same [] ∙ walk_done (drop e ws) e seen'

    pub part_fills : Filled ws at e
    part_fills = part_filled ws at l seen seen' e h walked

    pub part_long : 1024 < e - at → PartContract ws at l seen seen' None
    part_long m = part_large ws at l seen seen' e walked m

    module _ (m : e - at ≤ 1024) where
      pub part_unmet : NoneMet ws at e → PartContract ws at l seen seen' (Some e)
      part_unmet n = part_good ws at l seen seen' e walked m (none_read ws at l seen seen' e h walked n)

      pub part_rises : InOrder ws at e true → PartContract ws at l seen seen' (Some e)
      part_rises o = part_good ws at l seen seen' e walked m (order_read ws at l seen seen' e h walked o)

      pub part_falls : InOrder ws at e false → PartContract ws at l seen seen' None
      part_falls o = part_unordered ws at l seen seen' e walked m (order_unread ws at l seen seen' e h walked o)

      pub part_tested : (b : Bool) → InOrder ws at e b → PartContract ws at l seen seen' (cond b (Some e) None)
      part_tested true o = part_rises o
      part_tested false o = part_falls o

-- ---- what is answered of an expression
module _ {ws : List ℤ} {at : ℕ} {l : Level} {seen seen' : List Bool} where
  pub walk_ending : {e : ℕ} {met : Bool} → Reaches ws l at 1 seen e 0 seen' → Met ws at e met → Ending ws at e met
  walk_ending r m =
      let a = r.later in
      let b = r.inside in
      record { later = a; filled = part_fills (omega arith) r; order = m }

pub expression_missed : {mixed : Bool} {ws : List ℤ} {at : ℕ} {seen : List Bool} → (mixed ≡ true → PartContract ws at Expression seen seen None) → ExpressionIs mixed ws at seen None
expression_missed {mixed} {ws} {at} {seen} f = λ m. answered_none (part_end ws at Expression seen) (f m).answer

pub expression_found : {ws : List ℤ} {at : ℕ} {seen : List Bool} {e : ℕ} → PartContract ws at Expression seen seen (Some e) → part_end ws at Expression seen ≡ some e
expression_found {ws} {at} {seen} {e} p = answered_some e (part_end ws at Expression seen) p.answer
