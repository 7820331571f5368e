-- A table's index: what its numbers for a rule are, and what stands there.
use mathlib.Core.Path.{◌≡◌, refl, sym, ◌∙◌, ap, subst}
use mathlib.Core.Option.{some, none-ne-some, some-injective}
use mathlib.Core.List.{List, [], ◌∷◌, ◌++◌}
use Prim.Native.Nat.{ℕ, zero, suc, ◌+◌}
use lib.IntN.{ℤ, pos}
use lib.ListN.{length, take, get_elem?}
use Rattle.minuska.specs.Rule.{Rule, Table, rule_words, rules_words, IsTable}
use Rattle.minuska.specs.Bridge.Place.{Stands, left_words, right_words, conditions_words, left_from, right_from, conditions_from, rule_places, places_from, places, Indexed}
use Rattle.minuska.specs.declared.Row.{Row}
use Rattle.minuska.proofs.Bridge.PlaceLaw.{stands_whole, stands_first, stands_second}
use Rattle.minuska.proofs.TableLaw.{read_table_iff}

-- the words are one table only
pub one_table : (ws : List ℤ) (s t : Table) → IsTable ws s → IsTable ws t → s ≡ t
one_table ws s t p q = some-injective s t (sym ((read_table_iff ws s).1 p) ∙ (read_table_iff ws t).1 q)

-- rule number n starts at a place, and the index holds its row
pub record RulePlaced (ws : List ℤ) (index : List Row) (n : ℕ) (r : Rule) : Type 0 where
  pub start : ℕ
  pub row : get_elem? index n ≡ some (rule_places start r)
  pub stands : Stands ws start (rule_words r)

placed_from : (ws : List ℤ) (t : Table) (at n : ℕ) (r : Rule) → get_elem? t n ≡ some r → Stands ws at (rules_words t) → RulePlaced ws (places_from at t) n r
placed_from ws [] at zero r e s = absurd (none-ne-some r e)
placed_from ws [] at (suc n) r e s = absurd (none-ne-some r e)
placed_from ws (q ∷ t) at zero r e s = subst (RulePlaced ws (places_from at (q ∷ t)) 0) (some-injective q r e) (record { start = at; row = refl; stands = stands_first (rule_words q) (rules_words t) s })
placed_from ws (q ∷ t) at (suc n) r e s =
    let i = placed_from ws t (at + length (rule_words q)) n r e (stands_second (rule_words q) (rules_words t) s) in
    record { start = i.start; row = i.row; stands = i.stands }

taken_elem : (k : ℕ) (index : List Row) (n : ℕ) (row : Row) → get_elem? (take k index) n ≡ some row → get_elem? index n ≡ some row
taken_elem zero index zero row e = absurd (none-ne-some row e)
taken_elem zero index (suc n) row e = absurd (none-ne-some row e)
taken_elem (suc k) [] n row e = e
taken_elem (suc k) (x ∷ index) zero row e = e
taken_elem (suc k) (x ∷ index) (suc n) row e = taken_elem k index n row e

-- THE INDEX OF A TABLE, at a number that names a rule
pub rule_placed : (ws : List ℤ) (index : List Row) (t : Table) (n : ℕ) (r : Rule) → Indexed ws index → IsTable ws t → get_elem? t n ≡ some r → RulePlaced ws index n r
rule_placed ws index t n r x p e =
    let same : x.table ≡ t = one_table ws x.table t x.is p in
    let taken : take (length t) index ≡ places t = subst (λ (u : Table). take (length u) index ≡ places u) same x.indexed in
    let s : Stands ws 1 (rules_words t) = stands_second (pos (length t) ∷ []) (rules_words t) (subst (Stands ws 0) (sym p.words) (stands_whole ws)) in
    let i = placed_from ws t 1 n r e s in
    record { start = i.start; row = taken_elem (length t) index n (rule_places i.start r) (ap (λ (l : List Row). get_elem? l n) taken ∙ i.row); stands = i.stands }

-- the parts of a rule stand one behind the other
module _ (ws : List ℤ) (at : ℕ) (r : Rule) (s : Stands ws at (rule_words r)) where
  abbrev A : List ℤ
  A = left_words r

  abbrev B : List ℤ
  B = right_words r

  abbrev C : List ℤ
  C = conditions_words r

  abbrev head : List ℤ
  head = pos r.action ∷ pos (length r.conditions) ∷ []

  body_stands : Stands ws (left_from at) (A ++ (B ++ C))
  body_stands = stands_second head (A ++ (B ++ C)) s

  pub left_stands_lem : Stands ws (left_from at) A
  left_stands_lem = stands_first A (B ++ C) body_stands

  pub right_stands : Stands ws (right_from at r) B
  right_stands = stands_first B C (stands_second A (B ++ C) body_stands)

  pub conditions_stand : Stands ws (conditions_from at r) C
  conditions_stand = stands_second B C (stands_second A (B ++ C) body_stands)
