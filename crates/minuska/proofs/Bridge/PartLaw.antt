-- What an accepted configuration is, part by part: the test `ok_configuration` is taken apart and put together here.
use mathlib.Core.Bool.{◌&&◌}
use Prim.Native.Nat.{◌≤◌}
use lib.Dec.{T, leb, leb→le, le→leb}
use Rattle.minuska.specs.Term.{Term, single, node_count, is_ground}
use Rattle.minuska.specs.Word.{ok}
use Rattle.minuska.specs.Rule.{max_nodes, ok_configuration}
use Rattle.minuska.proofs.Tests.{and_left, and_right, and_both}

pub record GoodConfiguration (g : Term) : Type 0 where
  pub good : T (ok (single g))
  pub grounded : T (is_ground (single g))
  pub few : node_count g ≤ max_nodes

module _ (g : Term) where
  pub configuration_good : T (ok_configuration g) → GoodConfiguration g
  configuration_good x =
      let a = ok (single g) in
      let b = is_ground (single g) in
      let c = leb (node_count g) max_nodes in
      let y = and_left (a && b) c x in
      record { good = and_left a b y; grounded = and_right a b y; few = leb→le (node_count g) max_nodes (and_right (a && b) c x) }

  pub good_configuration : GoodConfiguration g → T (ok_configuration g)
  good_configuration p =
      let a = ok (single g) in
      let b = is_ground (single g) in
      and_both (a && b) (leb (node_count g) max_nodes) (and_both a b p.good p.grounded) (le→leb (node_count g) max_nodes p.few)
