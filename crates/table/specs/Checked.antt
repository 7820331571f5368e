-- Words are one table at most, so what a table's check establishes has one proof at most, and so has that a number names a rule, or that positions are there.
use Rattle.std.specs.Prelude.{◌≡◌, List, ℕ, ◌≤◌, ℤ, length, take}
use Rattle.std.proofs.Math.Option.{Option, none, some}
use Rattle.std.proofs.Math.ListN.{get_elem?}
use Rattle.std.proofs.Common.{refl, sym, ap, ◌∙◌}
use Rattle.std.proofs.Math.Dec.{T_prop}
use Rattle.std.specs.Coded.{Coded, Coded-set, code_by, coded_ℕ, coded_ℤ, coded_list, coded×}
use mathlib.Core.HLevel.{is_prop→PathP, Σ_prop}
use mathlib.Core.Path.{Singl, contract}
use denote.Struct.Props.{props}
use Rattle.minuska.specs.Rule.{Rule, Table, ok_table, table_words, IsTable}
use Rattle.minuska.specs.Computed.Step.{order}
use Rattle.minuska.specs.Bridge.Place.{places, Indexed, Names, Positions}
use Rattle.minuska.specs.declared.Row.{Row}
use Rattle.minuska.proofs.Bridge.IndexLaw.{one_table}

IsTable-prop : (ws : List ℤ) (t : Table) → IsProp (IsTable ws t)
IsTable-prop ws t x y =
    λ i. record {
      accepted = T_prop (ok_table t) x.accepted y.accepted i;
      words = Coded-set (coded_list coded_ℤ) (table_words t) ws x.words y.words i;
    }

-- a row as its numbers
abbrev Numbers : Type 0
Numbers = ℕ × (ℕ × (ℕ × (ℕ × (ℕ × (ℕ × (ℕ × ℕ))))))

abbrev numbers : Row → Numbers
numbers r = (r.left, (r.right, (r.conditions, (r.end, (r.key, (r.action, (r.fixed, r.leaves)))))))

abbrev row : Numbers → Row
row n =
    record {
      left = n.0;
      right = n.1.0;
      conditions = n.1.1.0;
      end = n.1.1.1.0;
      key = n.1.1.1.1.0;
      action = n.1.1.1.1.1.0;
      fixed = n.1.1.1.1.1.1.0;
      leaves = n.1.1.1.1.1.1.1;
    }

coded_row : Coded Row
coded_row =
    let two = coded× coded_ℕ coded_ℕ in
    code_by Numbers (coded× coded_ℕ (coded× coded_ℕ (coded× coded_ℕ (coded× coded_ℕ (coded× coded_ℕ (coded× coded_ℕ two)))))) numbers row (λ r. refl)

pub Indexed-prop : (ws : List ℤ) (index : List Row) → IsProp (Indexed ws index)
Indexed-prop ws index x y =
    let same : x.table ≡ y.table = one_table ws x.table y.table x.is y.is in
    λ i. record {
      table = same i;
      is = is_prop→PathP (λ j. IsTable ws (same j)) (λ j. IsTable-prop ws (same j)) x.is y.is i;
      indexed = is_prop→PathP (λ j. take (length (same j)) index ≡ places (same j)) (λ j. Coded-set (coded_list coded_row) (take (length (same j)) index) (places (same j))) x.indexed y.indexed i;
    }

-- an element that is there has one proof at most
abbrev Here : Option Rule → Type 0
Here none = ⊥
Here (some r) = Unit {0}

Here-prop : (o : Option Rule) → IsProp (Here o)
Here-prop none x y = absurd x
Here-prop (some r) x y = refl

abbrev Found : Option Rule → Type 0
Found o = (r : Rule) × (o ≡ some r)

found : (o z : Option Rule) → o ≡ z → Here z → Found o
found o none e h = absurd h
found o (some r) e h = (r, e)

abbrev There : Option Rule → Type 0
There o = (s : Singl o) × Here s.0

there-prop : (o : Option Rule) → IsProp (There o)
there-prop o = Σ_prop (λ x y. sym (contract x.1) ∙ contract y.1) (λ s. Here-prop s.0)

Found-prop : (o : Option Rule) → IsProp (Found o)
unfolding found
Found-prop o x y = ap (λ (s : There o). found o s.0.0 s.0.1 s.1) (there-prop o ((some x.0, x.1), tt) ((some y.0, y.1), tt))

pub Names-prop : (ws : List ℤ) (n : ℕ) → IsProp (Names ws n)
Names-prop ws n x y =
    let same : x.table ≡ y.table = one_table ws x.table y.table x.is y.is in
    let f = is_prop→PathP (λ j. Found (get_elem? (same j) n)) (λ j. Found-prop (get_elem? (same j) n)) (x.rule, x.numbered) (y.rule, y.numbered) in
    λ i. record {
      table = same i;
      is = is_prop→PathP (λ j. IsTable ws (same j)) (λ j. IsTable-prop ws (same j)) x.is y.is i;
      rule = (f i).0;
      numbered = (f i).1;
    }

pub Positions-prop : (ws : List ℤ) (to : ℕ) → IsProp (Positions ws to)
Positions-prop ws to = λ x y. let p : IsProp ((t : Table) → IsTable ws t → to ≤ length (order t)) = hlevel props in λ i. record { there = p x.there y.there i }
