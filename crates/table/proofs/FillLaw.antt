-- The loop over a table's rules: what it has checked and written so far, and what it answers.
use mathlib.Core.Path.{◌≡◌, refl, sym, ◌∙◌, ap, ap₂}
use mathlib.Core.Bool.{Bool, true, false, ◌&&◌, cond, and-false}
use mathlib.Core.Option.{Option, none, some, some-injective}
use mathlib.Core.List.{List, [], ◌∷◌, ◌++◌, append_assoc, append-nil}
use Prim.Native.Nat.{ℕ, zero, suc, ◌+◌, ◌-◌, ◌≤◌, ◌<◌}
use native.Mathlib.Omega.{arith}
use lib.Dec.{leb}
use lib.IntN.{ℤ, pos}
use lib.ListN.{length, take, drop, get_or, set, length-append, length-drop, length-set, take-append-drop, drop_of_length-le}
use lib.Seq.{length-take-le, take_at, drop-drop}
use Rattle.std.proofs.lemmas.List.{take_more_set, drop-set-lt}
use Rattle.std.specs.Prelude.{Some, None}
use borrow.Author.Tests.{le-leb, lt-leb}
use Rattle.minuska.specs.Basics.{◌>>=◌, provided}
use Rattle.minuska.specs.Term.{single}
use Rattle.minuska.specs.Rule.{Rule, Table, rule_words}
use Rattle.std.specs.Prelude.{Result, Ok, Err}
use Rattle.minuska.specs.declared.Refusal.{Refusal}
use Rattle.minuska.specs.declared.Refusal.TheVariants.{BadTable}
use Rattle.minuska.specs.Slice.{write}
use Rattle.minuska.specs.Computed.Read.{number_below, is_empty, read_rule, read_rules, read_table}
use Rattle.minuska.specs.Computed.Outcome.{checked, table_check}
use Rattle.minuska.specs.Bridge.Place.{Stands, left_words, right_words, conditions_words, left_from, key_of, root_key, rule_places, places_from, places, Indexed}
use Rattle.minuska.proofs.Tests.{came, provided_some, and_right, true_of}
use Rattle.minuska.proofs.Good as G
use Rattle.minuska.proofs.Good.{good}
use Rattle.minuska.proofs.TableLaw.{rule_read, read_table_iff}
use Rattle.minuska.proofs.Bridge.PlaceLaw.{stands_of, stands_head, stands_word}
use Rattle.minuska.proofs.Bridge.IndexLaw.{left_stands_lem}
use Rattle.minuska.proofs.Bridge.SizeLaw.{sizes_few}
use Rattle.minuska.specs.declared.Row.{Row}
use Rattle.table.specs.declared.rule.Parts.{Parts}
use Rattle.table.specs.Number.{answered}
use Rattle.table.specs.Rule.{RuleAt}
use Rattle.table.specs.Index.{places_then, places_read, places_counted, places_found, row_of, RowFits, IndexTableContract}
use Rattle.table.proofs.BasicLaw.{none_after, never}
use Rattle.table.proofs.NumberLaw.{number_is}
use Rattle.table.proofs.PartLaw.{answered_some, answered_none}

abbrev bad : Result (Unit {0}) Refusal
bad = Err BadTable

-- ---- the places that were found are those of the table that was read
abbrev rule_then : ℕ → Rule × List ℤ → Option (Table × List ℤ)
rule_then k p = read_rules k p.1 >>= λ q. some (p.0 ∷ q.0, q.1)

abbrev more_then : Rule → Table × List ℤ → Option (Table × List ℤ)
more_then r q = some (r ∷ q.0, q.1)

places_read_lem : (k at : ℕ) (ws : List ℤ) (p : Table × List ℤ) → read_rules k ws ≡ some p → places_read k at ws ≡ places_from at p.0
places_read_lem zero at ws p e = ap (λ (q : Table × List ℤ). places_from at q.0) (some-injective ([], ws) p e)
places_read_lem (suc k) at ws p e =
    let a = came (read_rule ws) (rule_then k) p e in
    let r = a.0.0 in
    let b = came (read_rules k a.0.1) (more_then r) p a.2 in
    let i = at + length (rule_words r) in
    ap (λ (o : Option (Rule × List ℤ)). places_then at o (λ i xs. places_read k i xs)) a.1 ∙
    (ap (λ (xs : List Row). rule_places at r ∷ xs) (places_read_lem k i a.0.1 b.0 b.1) ∙
    ap (λ (q : Table × List ℤ). places_from at q.0) (some-injective (r ∷ b.0.0, b.0.1) p b.2))

abbrev table_then : List ℤ → Table × List ℤ → Option Table
table_then ws p = provided (is_empty p.1 && leb (suc (length ws)) 65536) p.0

pub places_found_lem : (ws : List ℤ) (t : Table) → read_table ws ≡ some t → places_found ws ≡ places t
unfolding read_table places_found
places_found_lem [] t e = absurd (never (cc))
places_found_lem (n ∷ ws) t e =
    let a = came (number_below 257 n) (λ k. read_rules k ws >>= table_then ws) t e in
    let b = came (read_rules a.0 ws) (table_then ws) t a.2 in
    let l = leb (suc (length ws)) 65536 in
    let w = provided_some (is_empty b.0.1 && l) b.0.0 t b.2 in
    ap (λ (c : Bool). cond c (places_counted (number_below 257 n) ws) []) (true_of l (and_right (is_empty b.0.1) l w.0)) ∙
    (ap (λ (o : Option ℕ). places_counted o ws) a.1 ∙ (places_read_lem a.0 1 ws b.0 b.1 ∙ ap places w.1))

pub places_length : (at : ℕ) (t : Table) → length (places_from at t) ≡ length t
places_length at [] = refl
places_length at (r ∷ t) = let e = places_length (at + length (rule_words r)) t in omega arith

-- ---- the answer and the index afterwards are all that the contract asks
pub index_contract : (ws : List ℤ) (old index : List Row) (r : Result (Unit {0}) Refusal) → r ≡ table_check ws → index ≡ write (places_found ws) old → IndexTableContract ws old index r
unfolding table_check
index_contract ws old index r e f = record { answer = e; leaves = f; indexed = λ g. pick (read_table ws) refl (sym g ∙ e) }
  where
    pick : (o : Option Table) → read_table ws ≡ o → Ok tt ≡ checked BadTable o → Indexed ws index
    pick none q g = absurd (never (cc))
    pick (some t) q g =
        let p : index ≡ write (places t) old = f ∙ ap (λ (xs : List Row). write xs old) (places_found_lem ws t q) in
        record { table = t; is = (read_table_iff ws t).0 q; indexed = ap (take (length t)) p ∙ take_at (places t) (drop (length (places t)) old) (length t) (places_length 1 t) }

-- ---- the table's first word
abbrev rest_check : Option (Table × List ℤ) → Result (Unit {0}) Refusal
rest_check none = bad
rest_check (some p) = cond (is_empty p.1) (Ok tt) bad

-- the loop: rule number `rule` is to be read at a place
pub record Reached (ws : List ℤ) (old index : List Row) (count rule at : ℕ) : Type 0 where
  pub check : table_check ws ≡ rest_check (read_rules (count - rule) (drop at ws))
  pub found : places_found ws ≡ take rule index ++ places_read (count - rule) at (drop at ws)
  pub kept : drop rule index ≡ drop rule old
  pub long : length index ≡ 256
  pub few : count ≤ 256
  pub below : rule ≤ count
  pub short : length ws ≤ 65536

-- ---- words that are no table before any rule is read
module _ (ws : List ℤ) (old : List Row) where
  unread : (read_table ws ≡ none) × (places_found ws ≡ []) → IndexTableContract ws old old bad
  unfolding table_check
  unread h = index_contract ws old old bad (sym (ap (checked BadTable) h.0)) (sym (ap (λ (xs : List Row). write xs old) h.1))

no_words : (ws : List ℤ) → length ws ≡ 0 → (read_table ws ≡ none) × (places_found ws ≡ [])
unfolding read_table places_found
no_words [] h = (refl, refl)
no_words (n ∷ ws) h = absurd (let f : ⊥ = omega arith in f)

long_words : (ws : List ℤ) → 65536 < length ws → (read_table ws ≡ none) × (places_found ws ≡ [])
unfolding read_table places_found
long_words [] h = (refl, refl)
long_words (n ∷ ws) h =
    let l = lt-leb (suc (length ws)) 65536 h in (
      none_after (number_below 257 n) (λ k. read_rules k ws >>= table_then ws) (λ k e. none_after (read_rules k ws) (table_then ws) (λ p f.
          ap (λ (b : Bool). provided (is_empty p.1 && b) p.0) l ∙ ap (λ (b : Bool). provided b p.0) (and-false (is_empty p.1)))),
      ap (λ (b : Bool). cond b (places_counted (number_below 257 n) ws) []) l,
    )

many_rules : (ws : List ℤ) → None ≡ answered (number_below 257 (get_or ws 0 (pos 0))) → (read_table ws ≡ none) × (places_found ws ≡ [])
unfolding read_table places_found
many_rules [] h = (refl, refl)
many_rules (n ∷ ws) h =
    let e = answered_none (number_below 257 n) h in (
      ap (λ (o : Option ℕ). o >>= λ k. read_rules k ws >>= table_then ws) e,
      ap (λ (o : Option ℕ). cond (leb (suc (length ws)) 65536) (places_counted o ws) []) e ∙ same (leb (suc (length ws)) 65536),
    )
  where
    same : (b : Bool) → ◌≡◌ {A = List Row} (cond b [] []) []
    same true = refl
    same false = refl

-- ---- the first word is a count in range
rest_is : (l : Bool) (o : Option (Table × List ℤ)) → l ≡ true → checked BadTable (o >>= λ p. provided (is_empty p.1 && l) p.0) ≡ rest_check o
rest_is l none e = refl
rest_is l (some p) e = ap (λ (b : Bool). checked BadTable (provided (is_empty p.1 && b) p.0)) e ∙ at (is_empty p.1)
  where
    at : (b : Bool) → checked BadTable (provided (b && true) p.0) ≡ cond b (Ok tt) bad
    at true = refl
    at false = refl

counted : (ws : List ℤ) (count : ℕ) → 0 < length ws → length ws ≤ 65536 → Some count ≡ answered (number_below 257 (get_or ws 0 (pos 0))) →
    (table_check ws ≡ rest_check (read_rules count (drop 1 ws))) × (places_found ws ≡ places_read count 1 (drop 1 ws))
unfolding table_check read_table places_found
counted [] count h l c = absurd (let f : ⊥ = omega arith in f)
counted (n ∷ ws) count h l c =
    let k = answered_some count (number_below 257 n) c in
    let b = le-leb (suc (length ws)) 65536 l in (
      ap (λ (o : Option ℕ). checked BadTable (o >>= λ k. read_rules k ws >>= table_then ws)) k ∙ rest_is (leb (suc (length ws)) 65536) (read_rules count ws) b,
      ap (λ (c : Bool). cond c (places_counted (number_below 257 n) ws) []) b ∙ ap (λ (o : Option ℕ). places_counted o ws) k,
    )

-- ---- one rule more
more_is : (r : Rule) (o : Option (Table × List ℤ)) → rest_check (o >>= more_then r) ≡ rest_check o
more_is r none = refl
more_is r (some p) = refl

module _ (ws : List ℤ) (at : ℕ) (parts : Parts) (p : RuleAt ws at parts) where
  abbrev r : Rule
  r = p.rule

  rule_length : at + length (rule_words r) ≡ parts.end
  rule_length =
      let a = left_words r in
      let b = right_words r in
      let c = conditions_words r in
      let e = p.end_is in
      let n = length-append a (b ++ c) in
      let m = length-append b c in
      omega arith

  read_words : rule_words r ++ drop parts.end ws ≡ drop at ws
  read_words = (rule_read (drop at ws) (r, drop parts.end ws) p.read).1

  okay : G.Good r
  okay = good r (rule_read (drop at ws) (r, drop parts.end ws) p.read).0

  rule_stands : Stands ws at (rule_words r)
  rule_stands =
      let n = ap length read_words in
      let m = length-append (rule_words r) (drop parts.end ws) in
      let k = length-drop at ws in
      stands_of (rule_words r) (drop parts.end ws) (sym read_words) (omega arith)

  root_key_lem : key_of (get_or ws (left_from at) (pos 0)) (get_or ws (left_from at + 1) (pos 0)) ≡ root_key r.left
  root_key_lem = let s = left_stands_lem ws at r rule_stands in ap₂ key_of (stands_head s (pos 0)) (stands_word s 1 (pos 0) (omega arith))

  -- its row is made of what was found
  row_is : rule_places at r ≡ row_of ws at parts
  row_is = cc (p.action_is, p.right_is, p.conditions_is, p.end_is, root_key_lem, p.fixed_is, p.leaves_is)

  pub row_fits : length ws ≤ 65536 → RowFits ws at parts
  row_fits h =
      let w = rule_stands.within in
      let n = rule_length in
      let a = length-append (left_words r) (right_words r ++ conditions_words r) in
      let b = length-append (right_words r) (conditions_words r) in
      let i = p.right_is in
      let j = p.conditions_is in
      let k = p.end_is in
      record {
        root = omega arith;
        right_after = omega arith;
        conditions_after = omega arith;
        end_after = omega arith;
        end_fits = omega arith;
        short = h;
        action_fits = let e = p.action_is in let g = okay.action in omega arith;
        ones = let s = sizes_few (single r.right) in let g = okay.right.small in let e = p.fixed_is in omega arith;
        variables = let s = sizes_few (single r.right) in let g = okay.right.small in let e = p.leaves_is in omega arith;
      }

-- ---- what the loop answers
module _ (ws : List ℤ) (old : List Row) where
  pub refused_empty : length ws ≡ 0 → IndexTableContract ws old old bad
  refused_empty h = unread ws old (no_words ws h)

  pub refused_long : 65536 < length ws → IndexTableContract ws old old bad
  refused_long h = unread ws old (long_words ws h)

  pub refused_count : None ≡ answered (number_below 257 (get_or ws 0 (pos 0))) → IndexTableContract ws old old bad
  refused_count h = unread ws old (many_rules ws h)

  pub starts : (count : ℕ) → 0 < length ws → length ws ≤ 65536 → Some count ≡ answered (number_below 257 (get_or ws 0 (pos 0))) → length old ≡ 256 → Reached ws old old count 0 1
  starts n h l c r =
      let t = counted ws n h l c in
      let f = (number_is 257 (get_or ws 0 (pos 0)) n c).1 in
      let e : n ≡ n - 0 = omega arith in
      record {
        check = t.0 ∙ ap (λ (k : ℕ). rest_check (read_rules k (drop 1 ws))) e;
        found = t.1 ∙ ap (λ (k : ℕ). places_read k 1 (drop 1 ws)) e;
        kept = refl;
        long = r;
        few = omega arith;
        below = omega arith;
        short = l;
      }

  module _ {index : List Row} {count rule at : ℕ} (r : Reached ws old index count rule at) where
    -- no more is found
    closed : places_read (count - rule) at (drop at ws) ≡ [] → index ≡ write (places_found ws) old
    closed e =
        let l = r.long in
        let f = r.few in
        let b = r.below in
        let p : places_found ws ≡ take rule index = r.found ∙ (ap (λ (xs : List Row). take rule index ++ xs) e ∙ append-nil (take rule index)) in
        let n : length (places_found ws) ≡ rule = ap length p ∙ length-take-le rule index (omega arith) in
        sym (ap (λ (xs : List Row). xs ++ drop (length (places_found ws)) old) p ∙ (ap (λ (k : ℕ). take rule index ++ drop k old) n ∙
        (ap (λ (xs : List Row). take rule index ++ xs) (sym r.kept) ∙ take-append-drop rule index)))

    module _ (h : rule < count) where
      one : count - rule ≡ suc (count - (rule + 1))
      one = omega arith

      pub refused_rule : read_rule (drop at ws) ≡ none → IndexTableContract ws old index bad
      refused_rule e =
          let k = count - (rule + 1) in
          index_contract ws old index bad
          (sym (r.check ∙ (ap (λ (n : ℕ). rest_check (read_rules n (drop at ws))) one ∙ ap (λ (o : Option (Rule × List ℤ)). rest_check (o >>= rule_then k)) e)))
          (closed (ap (λ (n : ℕ). places_read n at (drop at ws)) one ∙ ap (λ (o : Option (Rule × List ℤ)). places_then at o (λ i xs. places_read k i xs)) e))

      pub goes_on : (parts : Parts) → RuleAt ws at parts → Reached ws old (set index rule (row_of ws at parts)) count (rule + 1) parts.end
      goes_on parts p =
          let k = count - (rule + 1) in
          let end = parts.end in
          let v : Row = row_of ws at parts in
          let l = r.long in
          let f = r.few in
          let room : rule < length index = omega arith in
          let rest : List Row = places_read k end (drop end ws) in
          let n = length-set index rule v in
          record {
            check =
                r.check ∙ (ap (λ (n : ℕ). rest_check (read_rules n (drop at ws))) one ∙
                (ap (λ (o : Option (Rule × List ℤ)). rest_check (o >>= rule_then k)) p.read ∙ more_is p.rule (read_rules k (drop end ws))));
            found =
                r.found ∙ (ap (λ (xs : List Row). take rule index ++ xs)
                (ap (λ (n : ℕ). places_read n at (drop at ws)) one ∙ (ap (λ (o : Option (Rule × List ℤ)). places_then at o (λ i xs. places_read k i xs)) p.read ∙
                (ap (λ (x : Row). x ∷ places_read k (at + length (rule_words p.rule)) (drop end ws)) (row_is ws at parts p) ∙
                ap (λ (i : ℕ). v ∷ places_read k i (drop end ws)) (rule_length ws at parts p)))) ∙
                (sym (append_assoc (take rule index) (v ∷ []) rest) ∙
                ap (λ (xs : List Row). xs ++ rest) (sym (take_more_set index rule v room))));
            kept =
                drop-set-lt (rule + 1) index rule v (omega arith) ∙ (sym (drop-drop 1 rule index) ∙ (ap (drop 1) r.kept ∙ drop-drop 1 rule old));
            long = omega arith;
            few = f;
            below = omega arith;
            short = r.short;
          }

    module _ (h : count ≤ rule) where
      none_left : count - rule ≡ 0
      none_left = omega arith

      last : table_check ws ≡ cond (is_empty (drop at ws)) (Ok tt) bad
      last = r.check ∙ ap (λ (n : ℕ). rest_check (read_rules n (drop at ws))) none_left

      pub refused_rest : at < length ws → IndexTableContract ws old index bad
      refused_rest e =
          index_contract ws old index bad (sym (last ∙ ap (λ (b : Bool). cond b (Ok tt) bad) (some_left (drop at ws) (simp length-drop (omega arith)))))
          (closed (ap (λ (n : ℕ). places_read n at (drop at ws)) none_left))
        where
          some_left : (xs : List ℤ) → 0 < length xs → is_empty xs ≡ false
          some_left [] g = absurd (let f : ⊥ = omega arith in f)
          some_left (x ∷ xs) g = refl

      pub accepted : length ws ≤ at → IndexTableContract ws old index (Ok tt)
      accepted e =
          index_contract ws old index (Ok tt) (sym (last ∙ ap (λ (xs : List ℤ). cond (is_empty xs) (Ok tt) bad) (drop_of_length-le ws e)))
          (closed (ap (λ (n : ℕ). places_read n at (drop at ws)) none_left))
