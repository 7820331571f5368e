-- One turn, by what the node is: of an expression, and of a side.
use mathlib.Core.Path.{◌≡◌, refl, sym, ◌∙◌, ap, subst}
use mathlib.Core.Bool.{Bool, true, false, cond}
use mathlib.Core.List.{List, []}
use Prim.Native.Nat.{ℕ, ◌+◌, ◌-◌, ◌/◌, ◌≤◌}
use native.Mathlib.Omega.{arith}
use lib.IntN.{ℤ}
use lib.ListN.{get_or}
use Rattle.std.specs.Prelude.{Option, Some}
use Rattle.minuska.specs.Bridge.Walk.{fixed_call, leaves_call}
use Rattle.minuska.specs.Computed.Read.{max_children}
use Rattle.minuska.specs.Rule.{updating}
use Rattle.minuska.proofs.Bridge.SizeLaw.{call_few}
use Rattle.table.specs.Below as B
use Rattle.table.specs.Level.{Level, Left, Right, Expression, Ground}
use Rattle.table.specs.Node.{side_level, under_plain, takes_variable, KnownAt, UnknownAt, TakesVariable, admit_node, flag_node}
use Rattle.table.specs.Reach.{Kept, Missed, Ends, TurnOn, Turned}
use Rattle.table.specs.Size.{SideTurnOn, SideTurnIs}
use Rattle.table.specs.declared.side.SideTurn.{SideTurn}
use Rattle.table.specs.declared.node.Node.{Node}
use Rattle.table.specs.declared.node.Node.TheVariants as N
use Rattle.table.proofs.CallLaw.{an_expression, no_update}
use Rattle.table.proofs.KeepLaw.{kept_same, kept_flags}
use Rattle.table.proofs.MetLaw.{met_some, met_node, met_before}
use Rattle.table.proofs.NodeLaw.{node_few}
use Rattle.table.proofs.ReachLaw.{turn_none, turn_refused, turn_few, turn_below, turn_below_stops, turn_children}
use Rattle.table.proofs.SizeLaw.{plain_counts, variable_counts, call_counts, literal_counts}

-- no node is found there
pub none_missed : {mixed : Bool} {ws : List ℤ} {i : ℕ} → UnknownAt mixed ws i → (l : Level) (seen : List Bool) → Missed mixed ws l i 1 seen seen
none_missed h l seen = record { kept = kept_same l seen; nowhere = λ m. turn_none (h.none m) l seen }

-- a node that may not stand there
refused : {mixed : Bool} {ws : List ℤ} {i : ℕ} {n : Node} → KnownAt mixed ws i n → (l : Level) (seen : List Bool) → Kept l seen (flag_node l seen (Some n)) → admit_node l seen (Some n) ≡ B.Bad → Missed mixed ws l i 1 seen (flag_node l seen (Some n))
refused h l seen f q = record { kept = f; nowhere = λ m. turn_refused h.node l seen q }

-- ---- an expression: what is below a symbol is walked in the same turn, a call's arguments are to come
module _ {mixed : Bool} {ws : List ℤ} {i k : ℕ} (h : KnownAt mixed ws i (N.Plain k)) (seen : List Bool) where
  pub plain_few : k ≤ max_children
  plain_few = turn_few h.node Expression seen Ground k refl

  pub plain_missed : Missed mixed ws Ground (i + 2) k seen seen → Missed mixed ws Expression i 1 seen seen
  plain_missed w = record { kept = refl; nowhere = λ m. turn_below_stops h.node Expression seen Ground k refl seen (w.nowhere m) }

  pub plain_on : {e : ℕ} {met : Bool} → Ends mixed ws Ground (i + 2) k seen seen e met → Turned mixed ws Expression i seen seen e 0 met
  plain_on {e} {met} w = record { turn = turn_below h.node Expression seen Ground k refl e seen w.reaches; order = met_before h.node (λ x. x) e met w.order; unmet = w.unmet }

module _ {mixed : Bool} {ws : List ℤ} {i k c : ℕ} (h : KnownAt mixed ws i (N.Call k c)) (seen : List Bool) where
  pub argument_on : (c ≡ updating → ⊥) → Turned mixed ws Expression i seen seen (i + 2) k false
  argument_on f =
      record { turn = turn_children h.node Expression seen k (node_few h.node) (ap (λ (b : Bool). cond b (B.Are Expression k) B.Bad) (an_expression c f)); order = met_node h.node (λ x. x); unmet = λ m. refl }

  pub update_missed : c ≡ updating → Missed mixed ws Expression i 1 seen seen
  update_missed q = refused h Expression seen refl (ap (λ (b : Bool). cond b (B.Are Expression k) B.Bad) (no_update c q))

module _ {mixed : Bool} {ws : List ℤ} {i v : ℕ} (h : KnownAt mixed ws i (N.Variable v)) (seen : List Bool) where
  pub flagged_on : get_or seen v false ≡ true → Turned mixed ws Expression i seen seen (i + 2) 0 false
  flagged_on q = record { turn = turn_children h.node Expression seen 0 (omega arith) (ap (λ (b : Bool). cond b (B.Are Expression 0) B.Bad) q); order = met_node h.node (λ x. x); unmet = λ m. refl }

  pub unflagged : get_or seen v false ≡ false → Missed mixed ws Expression i 1 seen seen
  unflagged q = refused h Expression seen refl (ap (λ (b : Bool). cond b (B.Are Expression 0) B.Bad) q)

-- ---- a dictionary, and all below it
module _ {mixed : Bool} {ws : List ℤ} {i k : ℕ} (h : KnownAt mixed ws i (N.Literal k)) where
  pub literal_few : k ≤ max_children
  literal_few = turn_few h.node Ground [] Ground k refl

  module _ (l : Level) (seen : List Bool) where
    pub literal_missed : Missed mixed ws Ground (i + 2) k seen seen → Missed mixed ws l i 1 seen seen
    literal_missed w = record { kept = kept_same l seen; nowhere = λ m. turn_below_stops h.node l seen Ground k refl seen (w.nowhere m) }

    module _ {e : ℕ} {met : Bool} (w : Ends mixed ws Ground (i + 2) k seen seen e met) where
      pub literal_on : Turned mixed ws l i seen seen e 0 true
      literal_on = record { turn = turn_below h.node l seen Ground k refl e seen w.reaches; order = met_some ws i e; unmet = λ m. absurd (h.simple m) }

      pub literal_side : SideTurnOn mixed ws l i seen seen e 0 ((e - i) / 2) 0 true
      literal_side =
          let a = w.reaches.later in
          let t = literal_on in
          record { turn = t.turn; small = omega arith; counts = literal_counts h.node e seen seen w.reaches; order = t.order; unmet = t.unmet }

-- ---- a side: a symbol's children are to come
under_side : (left : Bool) → under_plain (side_level left) ≡ side_level left
under_side true = refl
under_side false = refl

pub side_plain : {mixed : Bool} {ws : List ℤ} {i k : ℕ} → KnownAt mixed ws i (N.Plain k) → (left : Bool) (seen : List Bool) → SideTurnOn mixed ws (side_level left) i seen seen (i + 2) k 1 0 false
side_plain {k = k} h left seen =
    record {
      turn = turn_children h.node (side_level left) seen k (node_few h.node) (ap (λ (l : Level). B.Are l k) (under_side left));
      small = omega arith;
      counts = plain_counts h.node;
      order = met_node h.node (λ x. x);
      unmet = λ m. refl;
    }

-- a variable, as `takes_variable` says
module _ {mixed : Bool} {ws : List ℤ} {i v : ℕ} (h : KnownAt mixed ws i (N.Variable v)) (l : Level) (seen : List Bool) {seen' : List Bool} {r : Bool} (t : TakesVariable l v seen seen' r) where
  taken : (b : Bool) → r ≡ b → cond (takes_variable l (get_or seen v false)) (B.Are l 0) B.Bad ≡ cond b (B.Are l 0) B.Bad
  taken b q = ap (λ (x : Bool). cond x (B.Are l 0) B.Bad) (sym t.answer ∙ q)

  pub side_variable : r ≡ true → SideTurnOn mixed ws l i seen seen' (i + 2) 0 0 1 false
  side_variable q =
      record {
        turn = subst (λ (s : List Bool). TurnOn ws l i seen s (i + 2) 0) (sym t.leaves) (turn_children h.node l seen 0 (omega arith) (taken true q));
        small = omega arith;
        counts = variable_counts h.node;
        order = met_node h.node (λ x. x);
        unmet = λ m. refl;
      }

  pub variable_missed : r ≡ false → Missed mixed ws l i 1 seen seen'
  variable_missed q = subst (Missed mixed ws l i 1 seen) (sym t.leaves) (refused h l seen (kept_flags l v seen refl) (taken false q))

-- ---- a call may not stand in a left; in a right it may, and its arguments are walked
pub call_in_left : {left : Bool} → left ≡ true → {mixed : Bool} {ws : List ℤ} {i k c : ℕ} → KnownAt mixed ws i (N.Call k c) → (seen : List Bool) → Missed mixed ws (side_level left) i 1 seen seen
call_in_left {left} q {mixed} {ws} {i} h seen = subst (λ (b : Bool). Missed mixed ws (side_level b) i 1 seen seen) (sym q) (refused h Left seen tt refl)

pub call_in_right : (left mixed : Bool) (ws : List ℤ) (i : ℕ) (seen : List Bool) (r : Option SideTurn) → left ≡ false → SideTurnIs mixed ws Right i seen seen r → SideTurnIs mixed ws (side_level left) i seen seen r
call_in_right left mixed ws i seen r q t = subst (λ (b : Bool). SideTurnIs mixed ws (side_level b) i seen seen r) (sym q) t

module _ {mixed : Bool} {ws : List ℤ} {i k c : ℕ} (h : KnownAt mixed ws i (N.Call k c)) (seen : List Bool) where
  pub call_children : k ≤ max_children
  call_children = turn_few h.node Right seen Expression k refl

  pub call_missed : Missed mixed ws Expression (i + 2) k seen seen → Missed mixed ws Right i 1 seen seen
  call_missed w = record { kept = refl; nowhere = λ m. turn_below_stops h.node Right seen Expression k refl seen (w.nowhere m) }

  pub call_on : {e : ℕ} {met : Bool} → Ends mixed ws Expression (i + 2) k seen seen e met → SideTurnOn mixed ws Right i seen seen e 0 (fixed_call c) (leaves_call c) met
  call_on {e} {met} w =
      let a = w.reaches.later in
      let s = call_few c in
      record {
        turn = turn_below h.node Right seen Expression k refl e seen w.reaches;
        small = omega arith;
        counts = call_counts h.node e seen seen w.reaches;
        order = met_before h.node (λ x. x) e met w.order;
        unmet = w.unmet;
      }
