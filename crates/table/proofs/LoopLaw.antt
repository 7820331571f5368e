-- The loops over expressions and over a side: how far one has come, turn by turn, and what it answers.
use mathlib.Core.Path.{◌≡◌, refl}
use mathlib.Core.Bool.{Bool, true, false, ◌||◌}
use mathlib.Core.List.{List}
use Prim.Native.Nat.{ℕ, ◌+◌, ◌-◌, ◌*◌, ◌≤◌, ◌<◌}
use native.Mathlib.Omega.{arith}
use lib.IntN.{ℤ}
use lib.ListN.{length}
use Rattle.minuska.specs.Computed.Read.{max_children}
use Rattle.table.specs.Level.{Level}
use Rattle.table.specs.Reach.{Reaches, Met, Missed, Turned, Ends}
use Rattle.table.specs.Size.{Counts, SideTurnOn, SideEnds}
use Rattle.table.proofs.MetLaw.{met_start, met_on}
use Rattle.table.proofs.ReachLaw.{reach_start, reach_on, reach_stops, reach_done}
use Rattle.table.proofs.KeepLaw.{kept_on}
use Rattle.table.proofs.SizeLaw.{counts_start, counts_on, counts_done}

neither : (a b : Bool) → a ≡ false → b ≡ false → (a || b) ≡ false
neither true b p q = p
neither false b p q = q

-- ---- terms of one level: of n from a place on, k are still to come at i
pub record SoFar (mixed : Bool) (ws : List ℤ) (l : Level) (at n : ℕ) (seen₀ : List Bool) (i k : ℕ) (met : Bool) (seen : List Bool) : Type 0 where
  pub few : k ≤ 3 * i + max_children
  pub reaches : Reaches ws l at n seen₀ i k seen
  pub order : Met ws at i met
  pub unmet : mixed ≡ false → met ≡ false

module _ (mixed : Bool) (ws : List ℤ) (l : Level) (at n : ℕ) (seen₀ : List Bool) where
  pub loop_start : at ≤ length ws → n ≤ max_children → SoFar mixed ws l at n seen₀ at n false seen₀
  loop_start h f = record { few = omega arith; reaches = reach_start ws l at n seen₀ h; order = met_start ws at; unmet = λ m. refl }

module _ {mixed : Bool} {ws : List ℤ} {l : Level} {at n : ℕ} {seen₀ : List Bool} {i k : ℕ} {met : Bool} {seen : List Bool} (s : SoFar mixed ws l at n seen₀ i k met seen) where
  pub loop_done : k ≡ 0 → Ends mixed ws l at n seen₀ seen i met
  loop_done z = record { reaches = reach_done ws l at n seen₀ i k seen s.reaches z; order = s.order; unmet = s.unmet }

  pub loop_missed : 0 < k → (s' : List Bool) → Missed mixed ws l i 1 seen s' → Missed mixed ws l at n seen₀ s'
  loop_missed h s' t =
      record { kept = kept_on ws l at n seen₀ i k seen s.reaches s' t.kept; nowhere = λ m. reach_stops ws l at n seen₀ i k seen s.reaches h s' (t.nowhere m) }

  module _ (h : 0 < k) {seen' : List Bool} {e m : ℕ} {b : Bool} (t : Turned mixed ws l i seen seen' e m b) where
    pub loop_on : SoFar mixed ws l at n seen₀ e (k - 1 + m) (met || b) seen'
    loop_on =
        let f = s.few in
        let o = t.turn.on in
        let g = t.turn.few in
        record { few = omega arith; reaches = reach_on ws l at n seen₀ i k seen s.reaches h seen' e m t.turn; order = met_on ws at i e met b s.order t.order; unmet = λ m. neither met b (s.unmet m) (t.unmet m) }

    -- the count stays small, and the place comes nearer to the end
    pub loop_few : k - 1 + m ≤ 3 * length ws + max_children
    loop_few = let f = loop_on.few in let o = loop_on.reaches.inside in omega arith

    pub loop_nearer : length ws - e < length ws - i
    loop_nearer = let o = t.turn.on in let f = t.turn.reaches.inside in omega arith

-- ---- one side, with its sizes
pub record SideSoFar (mixed : Bool) (ws : List ℤ) (l : Level) (at : ℕ) (seen₀ : List Bool) (i k fixed leaves : ℕ) (met : Bool) (seen : List Bool) : Type 0 where
  pub walked : SoFar mixed ws l at 1 seen₀ i k met seen
  pub small : fixed + leaves ≤ 2 * i
  pub counts : Counts ws at 1 i k fixed leaves

module _ (mixed : Bool) (ws : List ℤ) (l : Level) (at : ℕ) (seen₀ : List Bool) where
  pub side_start : at ≤ length ws → SideSoFar mixed ws l at seen₀ at 1 0 0 false seen₀
  side_start h = record { walked = loop_start mixed ws l at 1 seen₀ h (omega arith); small = omega arith; counts = counts_start ws at 1 }

module _ {mixed : Bool} {ws : List ℤ} {l : Level} {at : ℕ} {seen₀ : List Bool} {i k fixed leaves : ℕ} {met : Bool} {seen : List Bool} (s : SideSoFar mixed ws l at seen₀ i k fixed leaves met seen) where
  pub side_done : k ≡ 0 → SideEnds mixed ws l at seen₀ seen i fixed leaves met
  side_done z = let w = loop_done s.walked z in record { reaches = w.reaches; counts = counts_done ws at 1 i k fixed leaves s.counts z; order = w.order; unmet = w.unmet }

  module _ (h : 0 < k) {seen' : List Bool} {e m one leaf : ℕ} {b : Bool} (t : SideTurnOn mixed ws l i seen seen' e m one leaf b) where
    -- the turn without its sizes
    pub side_turned : Turned mixed ws l i seen seen' e m b
    side_turned = record { turn = t.turn; order = t.order; unmet = t.unmet }

    pub side_on : SideSoFar mixed ws l at seen₀ e (k - 1 + m) (fixed + one) (leaves + leaf) (met || b) seen'
    side_on =
        let f = s.small in
        let g = t.small in
        let o = t.turn.on in
        record { walked = loop_on s.walked h side_turned; small = omega arith; counts = counts_on ws at 1 i k fixed leaves s.counts h e m one leaf t.counts }

    pub side_few : (fixed + one ≤ 2 * length ws) × (leaves + leaf ≤ 2 * length ws)
    side_few = let f = side_on.small in let o = side_on.walked.reaches.inside in (omega arith, omega arith)
