-- How far a walk over terms of one level has come: turn by turn, and from the node at a place.
use mathlib.Core.Path.{◌≡◌, refl, sym, ◌∙◌, ap}
use mathlib.Core.Bool.{Bool, true, false}
use mathlib.Core.List.{List, ◌∷◌, ◌++◌, append_assoc}
use mathlib.Core.Option.{none}
use Prim.Native.Nat.{ℕ, suc, ◌+◌, ◌-◌, ◌≤◌, ◌<◌}
use native.Mathlib.Omega.{arith}
use lib.Dec.{ltb}
use lib.IntN.{ℤ, pos}
use lib.ListN.{length, drop, get_or, replicate, length-drop, replicate-append-replicate}
use borrow.Author.Tests.{ltb-true, ltb-false}
use Rattle.std.specs.Prelude.{Option, Some, None}
use Rattle.minuska.specs.Computed.Read.{max_children}
use Rattle.table.specs.Level.{Level}
use Rattle.table.specs.declared.node.Node.{Node}
use Rattle.table.specs.Below.{Below}
use Rattle.table.specs.Below as B
use Rattle.table.specs.Node.{node_of, NodeAt, NoneAt, admit_node, flag_node, admitted, seen_after}
use Rattle.table.specs.Walk.{onward, walk}
use Rattle.table.specs.Reach.{Reaches, Stops, TurnOn}
use Rattle.table.proofs.NodeLaw.{admitted_few}
use Rattle.table.proofs.TurnLaw.{two_words, walk_short}

-- children in front of the terms that are to come anyway
pub more : (l : Level) (m k : ℕ) (ls : List Level) → replicate m l ++ (replicate k l ++ ls) ≡ replicate (m + k) l ++ ls
more l m k ls = sym (append_assoc (replicate m l) (replicate k l) ls) ∙ ap (λ (x : List Level). x ++ ls) (replicate-append-replicate m k l)

module _ (ws : List ℤ) (l : Level) (at n : ℕ) (seen : List Bool) where
  pub reach_start : at ≤ length ws → Reaches ws l at n seen at n seen
  reach_start h = record { later = omega arith; inside = h; same = λ ls. refl }

  module _ (i k : ℕ) (s : List Bool) (r : Reaches ws l at n seen i k s) (h : 0 < k) where
    first : (ls : List Level) → replicate k l ++ ls ≡ l ∷ (replicate (k - 1) l ++ ls)
    first ls = let e : k ≡ suc (k - 1) = omega arith in ap (λ (j : ℕ). replicate j l ++ ls) e

    pub reach_on : (s' : List Bool) (e m : ℕ) → TurnOn ws l i s s' e m → Reaches ws l at n seen e (k - 1 + m) s'
    reach_on s' e m t =
        let a = r.later in
        let b = t.on in
        let q : m + (k - 1) ≡ k - 1 + m = omega arith in
        record {
          later = omega arith;
          inside = t.reaches.inside;
          same = λ ls. r.same ls ∙
              (ap (λ (x : List Level). walk (drop i ws) i x s) (first ls) ∙
              (t.reaches.same (replicate (k - 1) l ++ ls) ∙
              ap (λ (x : List Level). walk (drop e ws) e x s') (more l m (k - 1) ls ∙ ap (λ (j : ℕ). replicate j l ++ ls) q)));
        }

    pub reach_stops : (s' : List Bool) → Stops ws l i 1 s s' → Stops ws l at n seen s'
    reach_stops s' t = record { nowhere = λ ls. r.same ls ∙ (ap (λ (x : List Level). walk (drop i ws) i x s) (first ls) ∙ t.nowhere (replicate (k - 1) l ++ ls)) }

  pub reach_done : (e k : ℕ) (s : List Bool) → Reaches ws l at n seen e k s → k ≡ 0 → Reaches ws l at n seen e 0 s
  reach_done e k s r z = record { later = r.later; inside = r.inside; same = λ ls. r.same ls ∙ ap (λ (j : ℕ). walk (drop e ws) e (replicate j l ++ ls) s) z }

-- ---- one turn
module _ {ws : List ℤ} {i : ℕ} {n : Node} (h : NodeAt ws i n) (l : Level) (seen : List Bool) where
  node_turn : (ls : List Level) → walk (drop i ws) i (l ∷ ls) seen ≡ onward (admit_node l seen (Some n)) ls (flag_node l seen (Some n)) (λ ms s. walk (drop (i + 2) ws) (i + 2) ms s)
  unfolding admitted seen_after
  node_turn ls =
      ap (λ (x : List ℤ). walk x i (l ∷ ls) seen) (two_words ws i h.room) ∙
      ap (λ (x : Option Node). onward (admit_node l seen x) ls (flag_node l seen x) (λ ms s. walk (drop (i + 2) ws) (i + 2) ms s)) (sym h.is)

  -- a node that may not stand there
  pub turn_refused : admit_node l seen (Some n) ≡ B.Bad → Stops ws l i 1 seen (flag_node l seen (Some n))
  turn_refused q = record { nowhere = λ ls. node_turn ls ∙ ap (λ (x : Below). onward x ls (flag_node l seen (Some n)) (λ ms s. walk (drop (i + 2) ws) (i + 2) ms s)) q }

  module _ (b : Level) (k : ℕ) (q : admit_node l seen (Some n) ≡ B.Are b k) where
    into : (ls : List Level) → walk (drop i ws) i (l ∷ ls) seen ≡ walk (drop (i + 2) ws) (i + 2) (replicate k b ++ ls) (flag_node l seen (Some n))
    into ls = node_turn ls ∙ ap (λ (x : Below). onward x ls (flag_node l seen (Some n)) (λ ms s. walk (drop (i + 2) ws) (i + 2) ms s)) q

    pub turn_few : k ≤ max_children
    unfolding admitted
    turn_few = admitted_few l seen b k (get_or ws i (pos 0)) (get_or ws (i + 1) (pos 0)) (sym (ap (admit_node l seen) h.is) ∙ q)

    -- children of a deeper level are walked in the same turn
    pub turn_below : (e : ℕ) (s : List Bool) → Reaches ws b (i + 2) k (flag_node l seen (Some n)) e 0 s → TurnOn ws l i seen s e 0
    turn_below e s r =
        let a = r.later in
        record { on = a; few = omega arith; reaches = record { later = omega arith; inside = r.inside; same = λ ls. into ls ∙ r.same ls } }

    pub turn_below_stops : (s : List Bool) → Stops ws b (i + 2) k (flag_node l seen (Some n)) s → Stops ws l i 1 seen s
    turn_below_stops s r = record { nowhere = λ ls. into ls ∙ r.nowhere ls }

  -- children of the same level are to come
  pub turn_children : (k : ℕ) → k ≤ 7 → admit_node l seen (Some n) ≡ B.Are l k → TurnOn ws l i seen (flag_node l seen (Some n)) (i + 2) k
  turn_children k f q = record { on = omega arith; few = f; reaches = record { later = omega arith; inside = h.room; same = λ ls. into l k q ls } }

-- no node stands there
words_none : (ws : List ℤ) (i : ℕ) → None ≡ node_of (get_or ws i (pos 0)) (get_or ws (i + 1) (pos 0)) → i + 2 ≤ length ws → (l : Level) (seen : List Bool) (ls : List Level) → walk (drop i ws) i (l ∷ ls) seen ≡ record { end = none; seen = seen }
unfolding admitted seen_after
words_none ws i h r l seen ls =
    ap (λ (x : List ℤ). walk x i (l ∷ ls) seen) (two_words ws i r) ∙
    ap (λ (x : Option Node). onward (admit_node l seen x) ls (flag_node l seen x) (λ ms s. walk (drop (i + 2) ws) (i + 2) ms s)) (sym h)

pub turn_none : {ws : List ℤ} {i : ℕ} → NoneAt ws i → (l : Level) (seen : List Bool) → Stops ws l i 1 seen seen
turn_none {ws} {i} h l seen = pick (ltb (length ws) (i + 2)) refl
  where
    pick : (b : Bool) → ltb (length ws) (i + 2) ≡ b → Stops ws l i 1 seen seen
    pick true q = let r = ltb-true (length ws) (i + 2) q in record { nowhere = λ ls. walk_short (drop i ws) i l ls seen (simp length-drop (omega arith)) }
    pick false q = let r = ltb-false (length ws) (i + 2) q in record { nowhere = λ ls. words_none ws i (h.none r) r l seen ls }
