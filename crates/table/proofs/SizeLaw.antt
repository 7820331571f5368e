-- The sizes of what a side's walk has passed over: turn after turn, from the node at a place, and of a whole side.
use mathlib.Core.Path.{◌≡◌, refl, sym, ◌∙◌, ap, ap₂, subst, subst⁻¹}
use mathlib.Core.Bool.{Bool}
use mathlib.Core.Option.{some, some-injective}
use mathlib.Core.List.{List, [], ◌∷◌, ◌++◌}
use Prim.Native.Nat.{ℕ, suc, ◌+◌, ◌-◌, ◌/◌, ◌<◌}
use native.Mathlib.Omega.{arith}
use lib.Dec.{T}
use lib.IntN.{ℤ, pos}
use lib.ListN.{length, drop, get_or, replicate}
use Rattle.minuska.specs.Basics.{◌>>=◌}
use Rattle.minuska.specs.Term.{Label, Forest, nil, node, Term, single, term_count, nodes, is_ground}
use Rattle.minuska.specs.Term as R
use Rattle.minuska.specs.Word.{tag_word, datum_word, ok, encode}
use Rattle.minuska.specs.Bridge.Place.{Stands}
use Rattle.minuska.specs.Bridge.Walk.{fixed_call, leaves_call, fixed_nodes, variable_nodes}
use Rattle.minuska.proofs.Tests.{came}
use Rattle.minuska.proofs.NodeLaw.{NodeIs}
use Rattle.minuska.proofs.WordLaw.{okay, head_okay, read_node_lem, childless, appended, encode_appended, encode_length}
use Rattle.minuska.proofs.Bridge.AppendedLaw.{appended_count, appended_ok}
use Rattle.minuska.proofs.Bridge.PlaceLaw.{stands_first, stands_second, stands_head, stands_word, stands_then}
use Rattle.minuska.proofs.Bridge.ShapeLaw.{ok_shapely}
use Rattle.minuska.proofs.Bridge.SizeLaw.{variable_sizes, call_sizes, plain_sizes, literal_sizes}
use Rattle.std.specs.Prelude.{Some, None}
use Rattle.table.specs.declared.node.Node.TheVariants as N
use Rattle.table.specs.declared.walk.Measured.{Measured}
use Rattle.table.specs.Level.{Level, Expression, Ground}
use Rattle.table.specs.Node.{Kind, a_variable, a_call, plain, literal, kind, node_as, node_in, node_of, NodeAt}
use Rattle.table.specs.Walk.{walk, PartContract}
use Rattle.table.specs.Reach.{Reaches}
use Rattle.table.specs.Size.{Remains, Counts, SidePartContract}
use Rattle.table.proofs.BasicLaw.{never}
use Rattle.table.proofs.NodeLaw.{role_of, role_kind, node_kind}
use Rattle.table.proofs.TestLaw.{Placed, placed_of}
use Rattle.table.proofs.TurnLaw.{walk_done}
use Rattle.table.proofs.ScanLaw.{scan, found, walk_encode}

-- ---- turn after turn
module _ (ws : List ℤ) (at n : ℕ) where
  pub counts_start : Counts ws at n at n 0 0
  counts_start = record { remains = λ f more x c s. record { rest = f; good = x; count = c; stands = s; ones = omega arith; variables = omega arith } }

  module _ (i k fixed leaves : ℕ) (c : Counts ws at n i k fixed leaves) where
    pub counts_on : 0 < k → (e m one leaf : ℕ) → Counts ws i 1 e m one leaf → Counts ws at n e (k - 1 + m) (fixed + one) (leaves + leaf)
    counts_on h e m one leaf t =
        record {
          remains = λ f more x q s.
              let r = c.remains f more x q s in
              let j = r.count in
              let u = t.remains r.rest (k - 1 + more) r.good (omega arith) r.stands in
              let a = r.ones in
              let b = r.variables in
              let p = u.ones in
              let v = u.variables in
              let w = u.count in
              record { rest = u.rest; good = u.good; count = omega arith; stands = u.stands; ones = omega arith; variables = omega arith };
        }

    pub counts_done : k ≡ 0 → Counts ws at n i 0 fixed leaves
    counts_done z = subst (λ (j : ℕ). Counts ws at n i j fixed leaves) z c

-- ---- the sizes of the term that stands there
pub counted : (ws : List ℤ) (at e fixed leaves : ℕ) → Counts ws at 1 e 0 fixed leaves → (t : Term) → T (ok (single t)) → Stands ws at (encode (single t)) → (fixed_nodes (single t) ≡ fixed) × (variable_nodes (single t) ≡ leaves)
counted ws at e fixed leaves c t x s =
    let r = c.remains (single t) 0 x refl s in
    let z : r.rest ≡ nil = childless r.rest r.count in
    let a : fixed_nodes r.rest ≡ 0 = ap fixed_nodes z in
    let b : variable_nodes r.rest ≡ 0 = ap variable_nodes z in
    let p = r.ones in
    let q = r.variables in
    (omega arith, omega arith)

-- ---- a walk over the terms that stand at a place ends behind them
pub walk_ends : (ws : List ℤ) (l : Level) (at e : ℕ) (seen seen' : List Bool) (f : Forest) → T (ok f) → Stands ws at (encode f) → Reaches ws l at (term_count f) seen e 0 seen' → e ≡ at + length (encode f)
walk_ends ws l at e seen seen' f x s r =
    let n = at + length (encode f) in
    let here : found (walk (drop at ws) at (replicate (term_count f) l ++ []) seen) ≡ some (e, seen') = ap found (r.same [] ∙ walk_done (drop e ws) e seen') in
    let there : found (walk (drop at ws) at (replicate (term_count f) l ++ []) seen) ≡ (scan l f seen >>= λ s. found (walk (drop n ws) n [] s)) =
    ap (λ (v : List ℤ). found (walk v at (replicate (term_count f) l ++ []) seen)) (stands_then s) ∙ walk_encode f (ok_shapely f x) l [] at (drop n ws) seen in
    let c = came (scan l f seen) (λ s. found (walk (drop n ws) n [] s)) (e, seen') (sym there ∙ here) in
    let g : Path (ℕ × List Bool) (n, c.0) (e, seen') = some-injective (n, c.0) (e, seen') (sym (ap found (walk_done (drop n ws) n c.0)) ∙ c.2) in
    sym (ap (λ (p : ℕ × List Bool). p.0) g)

-- ---- one turn: the node at a place is the first of whatever terms stand there
module _ {ws : List ℤ} {i : ℕ} where
  module _ (l : Label) (cs ss : Forest) (x : T (ok (node l cs ss))) (s : Stands ws i (encode (node l cs ss))) where
    as_read : node_of (get_or ws i (pos 0)) (get_or ws (i + 1) (pos 0)) ≡ Some (node_as (kind l) (term_count cs))
    unfolding node_of
    as_read =
        ap₂ node_of (stands_head s (pos 0)) (stands_word s 1 (pos 0) (omega arith)) ∙
        ap node_in (read_node_lem l (term_count cs) (head_okay l cs (okay l cs ss x).allowed))

    below_stands : Stands ws (i + 2) (encode cs ++ encode ss)
    below_stands = stands_second (tag_word l (term_count cs) ∷ datum_word l ∷ []) (encode cs ++ encode ss) s

    rest_stands : Stands ws (i + 2 + length (encode cs)) (encode ss)
    rest_stands = stands_second (encode cs) (encode ss) below_stands

  -- a symbol's children are to come, in front of the rest
  module _ {k : ℕ} (h : NodeAt ws i (N.Plain k)) where
    plain_remains : (f : Forest) (more : ℕ) → T (ok f) → term_count f ≡ 1 + more → Stands ws i (encode f) → Remains ws f (i + 2) (k + more) 1 0
    plain_remains nil more x c s = absurd (let z : ⊥ = omega arith in z)
    plain_remains (node l cs ss) more x c s = pick (kind l) refl (h.is ∙ as_read l cs ss x s)
      where
        pick : (r : Kind) → kind l ≡ r → Some (N.Plain k) ≡ Some (node_as r (term_count cs)) → Remains ws (node l cs ss) (i + 2) (k + more) 1 0
        pick (a_variable v) q y = absurd (never (cc))
        pick (a_call j) q y = absurd (never (cc))
        pick literal q y = absurd (never (cc))
        pick plain q y =
            let p : k ≡ term_count cs = cc in
            let o = okay l cs ss x in
            let z = plain_sizes l cs ss (role_kind l ∙ ap role_of q) in
            let n = appended_count cs ss in
            record {
              rest = appended cs ss;
              good = appended_ok cs ss o.children o.rest;
              count = omega arith;
              stands = subst⁻¹ (Stands ws (i + 2)) (encode_appended cs ss) (below_stands l cs ss x s);
              ones = z.ones;
              variables = z.variables;
            }

    pub plain_counts : Counts ws i 1 (i + 2) k 1 0
    plain_counts = record { remains = plain_remains }

  -- a call's arguments were walked
  module _ {k code : ℕ} (h : NodeAt ws i (N.Call k code)) (e : ℕ) (seen seen' : List Bool) (w : Reaches ws Expression (i + 2) k seen e 0 seen') where
    call_remains : (f : Forest) (more : ℕ) → T (ok f) → term_count f ≡ 1 + more → Stands ws i (encode f) → Remains ws f e (0 + more) (fixed_call code) (leaves_call code)
    call_remains nil more x c s = absurd (let z : ⊥ = omega arith in z)
    call_remains (node l cs ss) more x c s = pick (kind l) refl (h.is ∙ as_read l cs ss x s)
      where
        pick : (r : Kind) → kind l ≡ r → Some (N.Call k code) ≡ Some (node_as r (term_count cs)) → Remains ws (node l cs ss) e (0 + more) (fixed_call code) (leaves_call code)
        pick (a_variable v) q y = absurd (never (cc))
        pick plain q y = absurd (never (cc))
        pick literal q y = absurd (never (cc))
        pick (a_call j) q y =
            let p : k ≡ term_count cs = cc in
            let z' : j ≡ code = cc in
            let o = okay l cs ss x in
            let z = call_sizes l cs ss code (role_kind l ∙ (ap role_of q ∙ ap R.a_call z')) in
            let a : e ≡ i + 2 + length (encode cs) = walk_ends ws Expression (i + 2) e seen seen' cs o.children (stands_first (encode cs) (encode ss) (below_stands l cs ss x s)) (subst (λ (n : ℕ). Reaches ws Expression (i + 2) n seen e 0 seen') p w) in
            record { rest = ss; good = o.rest; count = omega arith; stands = subst⁻¹ (λ (n : ℕ). Stands ws n (encode ss)) a (rest_stands l cs ss x s); ones = z.ones; variables = z.variables }

    pub call_counts : Counts ws i 1 e 0 (fixed_call code) (leaves_call code)
    call_counts = record { remains = call_remains }

  -- all below a dictionary was walked, and is ground
  module _ {k : ℕ} (h : NodeAt ws i (N.Literal k)) (e : ℕ) (seen seen' : List Bool) (w : Reaches ws Ground (i + 2) k seen e 0 seen') where
    literal_remains : (f : Forest) (more : ℕ) → T (ok f) → term_count f ≡ 1 + more → Stands ws i (encode f) → Remains ws f e (0 + more) ((e - i) / 2) 0
    literal_remains nil more x c s = absurd (let z : ⊥ = omega arith in z)
    literal_remains (node l cs ss) more x c s = pick (kind l) refl (h.is ∙ as_read l cs ss x s)
      where
        pick : (r : Kind) → kind l ≡ r → Some (N.Literal k) ≡ Some (node_as r (term_count cs)) → Remains ws (node l cs ss) e (0 + more) ((e - i) / 2) 0
        pick (a_variable v) q y = absurd (never (cc))
        pick (a_call j) q y = absurd (never (cc))
        pick plain q y = absurd (never (cc))
        pick literal q y =
            let p : k ≡ term_count cs = cc in
            let o = okay l cs ss x in
            let g : T (is_ground cs) = subst (λ (r : Kind). Placed r cs) q (placed_of l cs o.allowed) in
            let z = literal_sizes l cs ss (role_kind l ∙ ap role_of q) g in
            let a : e ≡ i + 2 + length (encode cs) = walk_ends ws Ground (i + 2) e seen seen' cs o.children (stands_first (encode cs) (encode ss) (below_stands l cs ss x s)) (subst (λ (n : ℕ). Reaches ws Ground (i + 2) n seen e 0 seen') p w) in
            let n = encode_length cs in
            let w' : (e - i) / 2 ≡ suc (nodes cs) = omega arith in
            record {
              rest = ss;
              good = o.rest;
              count = omega arith;
              stands = subst⁻¹ (λ (n : ℕ). Stands ws n (encode ss)) a (rest_stands l cs ss x s);
              ones = z.ones ∙ ap (λ (n : ℕ). n + fixed_nodes ss) (sym w');
              variables = z.variables;
            }

    pub literal_counts : Counts ws i 1 e 0 ((e - i) / 2) 0
    literal_counts = record { remains = literal_remains }

  -- a variable has no children
  module _ {v : ℕ} (h : NodeAt ws i (N.Variable v)) where
    variable_remains : (f : Forest) (more : ℕ) → T (ok f) → term_count f ≡ 1 + more → Stands ws i (encode f) → Remains ws f (i + 2) (0 + more) 0 1
    variable_remains nil more x c s = absurd (let z : ⊥ = omega arith in z)
    variable_remains (node l cs ss) more x c s = pick (kind l) refl (node_kind l (term_count cs) (head_okay l cs (okay l cs ss x).allowed)) (h.is ∙ as_read l cs ss x s)
      where
        pick : (r : Kind) → kind l ≡ r → NodeIs (role_of r) (tag_word l (term_count cs)) (datum_word l) (term_count cs) → Some (N.Variable v) ≡ Some (node_as r (term_count cs)) → Remains ws (node l cs ss) (i + 2) (0 + more) 0 1
        pick (a_call j) q m y = absurd (never (cc))
        pick plain q m y = absurd (never (cc))
        pick literal q m y = absurd (never (cc))
        pick (a_variable u) q m y =
            let z = variable_sizes l cs ss u (role_kind l ∙ ap role_of q) in
            let a : length (encode cs) ≡ 0 = ap (λ (g : Forest). length (encode g)) (childless cs m.childless) in
            let b : i + 2 + length (encode cs) ≡ i + 2 = omega arith in
            record { rest = ss; good = (okay l cs ss x).rest; count = omega arith; stands = subst (λ (n : ℕ). Stands ws n (encode ss)) b (rest_stands l cs ss x s); ones = z.ones; variables = z.variables }

    pub variable_counts : Counts ws i 1 (i + 2) 0 0 1
    variable_counts = record { remains = variable_remains }

-- ---- what is answered of a side
module _ {ws : List ℤ} {at : ℕ} {l : Level} {seen seen' : List Bool} where
  pub no_side : PartContract ws at l seen seen' None → SidePartContract ws at l seen seen' None
  no_side p = record { part = p; sizes = λ s q. absurd (never (cc)) }

  pub a_side : (s : Measured) → PartContract ws at l seen seen' (Some s.end) → Counts ws at 1 s.end 0 s.sizes.fixed s.sizes.leaves → SidePartContract ws at l seen seen' (Some s)
  a_side s p c = record { part = p; sizes = λ s' q. let e : s ≡ s' = cc in subst (λ (x : Measured). Counts ws at 1 x.end 0 x.sizes.fixed x.sizes.leaves) e c }
