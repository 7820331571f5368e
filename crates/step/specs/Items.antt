-- Of one of a right's items, as the contracts of its methods name it: an item stands at a place in front of their end.
use Rattle.std.specs.Prelude.{List, ℕ, ◌<◌, ℤ}
use Rattle.value.specs.declared.Evaluated.{Evaluated}
use Rattle.value.specs.declared.Scope.{Scope}
use Rattle.step.specs.declared.right.Items.{Items}
use Rattle.step.specs.declared.right.Parts.{Parts}
use Rattle.step.specs.declared.right.Sized.{Sized}
use Rattle.step.specs.Right.{RestHere, ItemIs, PartsAre, SizedIs, FittingItem, WriteItemIs}

module _ (x : Items) where
  abbrev scope : Scope
  scope = x.scope.now

  abbrev pub ItemStands : ℕ → Type 0
  ItemStands at = RestHere scope at x.end × (at < x.end)

  abbrev pub ItemIsAt : ℕ → Evaluated → Type 0
  ItemIsAt at r = ItemIs scope.table.now scope.configuration.now scope.places.now.starts scope.places.now.ends at x.end r

  abbrev pub PartsAreAt : ℕ → Parts → Type 0
  PartsAreAt at r = PartsAre scope.table.now scope.configuration.now scope.places.now.starts scope.places.now.ends at x.end r

  abbrev pub SizedIsAt : ℕ → Sized → Type 0
  SizedIsAt at r = SizedIs scope.table.now scope.configuration.now scope.places.now.starts scope.places.now.ends at x.end r

  abbrev pub FittingItemAt : ℕ → ℕ → Type 0
  FittingItemAt at room = FittingItem scope.table.now scope.configuration.now scope.places.now.starts scope.places.now.ends at x.end room

  abbrev pub WriteItemIsAt : ℕ → List ℤ → List ℤ → Sized → Type 0
  WriteItemIsAt at out out' r = WriteItemIs scope.table.now scope.configuration.now scope.places.now.starts scope.places.now.ends at x.end out out' r
