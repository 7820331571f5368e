-- The walk over a term's words is a walk over the term.
use mathlib.Core.Path.{◌≡◌, refl, sym, ◌∙◌, ap}
use mathlib.Core.Bool.{Bool, true, false, cond}
use mathlib.Core.Option.{Option, none, some}
use mathlib.Core.List.{List, ◌++◌, append_assoc}
use Prim.Native.Nat.{ℕ, ◌+◌}
use native.Mathlib.Omega.{arith}
use native.Mathlib.Nat.{add-zero}
use lib.Dec.{T}
use lib.IntN.{ℤ}
use lib.ListN.{length, get_or, replicate, length-append}
use Rattle.std.specs.Prelude.{Some}
use Rattle.minuska.specs.Basics.{◌>>=◌, provided}
use Rattle.minuska.specs.Bridge.Shape.{shapely}
use Rattle.minuska.specs.Term.{Label, Forest, nil, node, term_count}
use Rattle.minuska.specs.Word.{ok_head, encode, tag_word, datum_word}
use Rattle.minuska.proofs.Bridge.ShapeLaw.{shaped}
use Rattle.minuska.proofs.NodeLaw.{NodeIs}
use Rattle.minuska.proofs.WordLaw.{read_node_lem}
use Rattle.table.specs.Level.{Level, Expression, Ground}
use Rattle.table.specs.Below.{Below}
use Rattle.table.specs.Below as B
use Rattle.table.specs.Node.{Kind, a_variable, a_call, plain, literal, kind, takes_call, takes_variable, under_plain, flags, node_as, node_in, node_of, admit_node, flag_node, admitted, seen_after}
use Rattle.table.specs.Walk.{Walked, onward, walk}
use Rattle.table.proofs.NodeLaw.{role_of, node_kind}

-- a node at a level, by its kind: whether it passes, the level of its children, the flags afterwards
abbrev pub passes : Level → Kind → List Bool → Bool
passes l (a_variable v) seen = takes_variable l (get_or seen v false)
passes l (a_call c) seen = takes_call l c
passes l plain seen = true
passes l literal seen = true

abbrev pub below : Level → Kind → Level
below l (a_variable v) = l
below l (a_call c) = Expression
below l plain = under_plain l
below l literal = Ground

abbrev pub flagged : Level → Kind → List Bool → List Bool
flagged l (a_variable v) seen = flags l v seen
flagged l (a_call c) seen = seen
flagged l plain seen = seen
flagged l literal seen = seen

-- the flags after a list of terms, if all its nodes pass
abbrev pub scan : Level → Forest → List Bool → Option (List Bool)
scan l nil seen = some seen
scan l (node a cs ss) seen = provided (passes l (kind a) seen) (flagged l (kind a) seen) >>= λ s. scan (below l (kind a)) cs s >>= λ s. scan l ss s

-- ---- a node's own words
module _ (l : Level) (seen : List Bool) where
  admit_as : (r : Kind) (t d : ℤ) (k : ℕ) → NodeIs (role_of r) t d k → admit_node l seen (Some (node_as r k)) ≡ cond (passes l r seen) (B.Are (below l r) k) B.Bad
  admit_as (a_variable v) t d k n = ap (λ (m : ℕ). cond (takes_variable l (get_or seen v false)) (B.Are l m) B.Bad) (sym n.childless)
  admit_as (a_call c) t d k n = refl
  admit_as plain t d k n = refl
  admit_as literal t d k n = refl

  flag_as : (r : Kind) (k : ℕ) → flag_node l seen (Some (node_as r k)) ≡ flagged l r seen
  flag_as (a_variable v) k = refl
  flag_as (a_call c) k = refl
  flag_as plain k = refl
  flag_as literal k = refl

  admitted_node : (a : Label) (k : ℕ) → T (ok_head a k) → admitted l (tag_word a k) (datum_word a) seen ≡ cond (passes l (kind a) seen) (B.Are (below l (kind a)) k) B.Bad
  unfolding admitted node_of
  admitted_node a k x = ap (λ (o : Option (Label × ℕ)). admit_node l seen (node_in o)) (read_node_lem a k x) ∙ admit_as (kind a) (tag_word a k) (datum_word a) k (node_kind a k x)

  seen_node : (a : Label) (k : ℕ) → T (ok_head a k) → seen_after l (tag_word a k) (datum_word a) seen ≡ flagged l (kind a) seen
  unfolding seen_after node_of
  seen_node a k x = ap (λ (o : Option (Label × ℕ)). flag_node l seen (node_in o)) (read_node_lem a k x) ∙ flag_as (kind a) k

-- ---- a list of terms before other words
abbrev pub found : Walked → Option (ℕ × List Bool)
found w = w.end >>= λ e. some (e, w.seen)

pub walk_encode : (f : Forest) → T (shapely f) → (l : Level) (ls : List Level) (at : ℕ) (ws : List ℤ) (seen : List Bool) → found (walk (encode f ++ ws) at (replicate (term_count f) l ++ ls) seen) ≡ (scan l f seen >>= λ s. found (walk ws (at + length (encode f)) ls s))
walk_encode nil x l ls at ws seen = ap (λ (n : ℕ). found (walk ws n ls seen)) (sym (add-zero at))
walk_encode (node a cs ss) x l ls at ws seen =
    let o = shaped a cs ss x in
    let k = term_count cs in
    let h = o.head in
    let more = replicate (term_count ss) l ++ ls in
    let b = below l (kind a) in
    let s = flagged l (kind a) seen in
    let go : List Level → List Bool → Walked = λ (ms : List Level) (s : List Bool). walk ((encode cs ++ encode ss) ++ ws) (at + 2) ms s in
    let e = length-append (encode cs) (encode ss) in
    let far : at + 2 + length (encode cs) + length (encode ss) ≡ at + length (encode (node a cs ss)) = omega arith in
    ap (λ (c : Below). found (onward c more (seen_after l (tag_word a k) (datum_word a) seen) go)) (admitted_node l seen a k h) ∙
    (ap (λ (s : List Bool). found (onward (cond (passes l (kind a) seen) (B.Are b k) B.Bad) more s go)) (seen_node l seen a k h) ∙
    pick (passes l (kind a) seen) s
    (ap (λ (v : List ℤ). found (walk v (at + 2) (replicate k b ++ more) s)) (append_assoc (encode cs) (encode ss) ws) ∙ walk_encode cs o.children b more (at + 2) (encode ss ++ ws) s)
    (λ s. walk_encode ss o.rest l ls (at + 2 + length (encode cs)) ws s ∙ ap (λ (n : ℕ). scan l ss s >>= λ s. found (walk ws n ls s)) far))
  where
    pick : (p : Bool) (s : List Bool) → found (walk ((encode cs ++ encode ss) ++ ws) (at + 2) (replicate (term_count cs) (below l (kind a)) ++ (replicate (term_count ss) l ++ ls)) s) ≡ (scan (below l (kind a)) cs s >>= λ s. found (walk (encode ss ++ ws) (at + 2 + length (encode cs)) (replicate (term_count ss) l ++ ls) s)) →
        ((s : List Bool) → found (walk (encode ss ++ ws) (at + 2 + length (encode cs)) (replicate (term_count ss) l ++ ls) s) ≡ (scan l ss s >>= λ s. found (walk ws (at + length (encode (node a cs ss))) ls s))) →
        found (onward (cond p (B.Are (below l (kind a)) (term_count cs)) B.Bad) (replicate (term_count ss) l ++ ls) s (λ ms s. walk ((encode cs ++ encode ss) ++ ws) (at + 2) ms s)) ≡
        ((provided p s >>= λ s. scan (below l (kind a)) cs s >>= λ s. scan l ss s) >>= λ s. found (walk ws (at + length (encode (node a cs ss))) ls s))
    pick false s first rest = refl
    pick true s first rest = first ∙ after (scan (below l (kind a)) cs s)
      where
        after : (o : Option (List Bool)) → (o >>= λ s. found (walk (encode ss ++ ws) (at + 2 + length (encode cs)) (replicate (term_count ss) l ++ ls) s)) ≡ ((o >>= λ s. scan l ss s) >>= λ s. found (walk ws (at + length (encode (node a cs ss))) ls s))
        after none = refl
        after (some s) = rest s
