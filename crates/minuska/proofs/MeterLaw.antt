-- Meters (document 02, request 1): a lookup in what an update gives, and that this is a dictionary again. The functions are 16, map.lookup, and 17, map.update.
use mathlib.Core.Path.{◌≡◌, refl, sym, ◌∙◌, ap, subst}
use mathlib.Core.Bool.{Bool, true, false, ◌&&◌, cond}
use mathlib.Core.Option.{Option, none, some, none-ne-some}
use lib.Dec.{T, leb}
use lib.IntN.{ℤ}
use lib.ListN.{length}
use Rattle.minuska.specs.Basics.{◌>>=◌}
use Prim.Native.Nat.{ℕ}
use Rattle.minuska.specs.Term.{whole, call, dictionary, Forest, node, Term, cons, single, leaf, term_count, is_ground}
use Rattle.minuska.specs.Dictionary.{Entries, max_entries, find, put, rising, dictionary_term, entries, all_rise}
use Rattle.minuska.specs.Word.{ok_head, ok_below, ok_node}
use Rattle.minuska.specs.Rule.{is_expression, is_expression_term}
use Rattle.minuska.specs.Function.{out_of_range, as_dictionary, or_wrong_kind, or_absent, kept, interpret}
use Rattle.minuska.proofs.Tests.{and_right}
use Rattle.minuska.proofs.DictionaryLaw.{find_put, find_other, entries_terms}
use Rattle.minuska.proofs.KeepLaw.{Fine, fine_apply, fine_cons}

-- a lookup and an update, with a whole number for the key
abbrev pub lookup : Term → ℤ → Term
lookup d k = interpret 16 (cons d (single (leaf (whole k))))

abbrev pub update : Term → ℤ → Term → Term
update d k v = interpret 17 (cons d (cons (leaf (whole k)) (single v)))

-- where an update gives a dictionary, its argument is one, and its entries are those with the new one put in
record Updated (d : Term) (k : ℤ) (v u : Term) : Type 0 where
  before : Entries
  was : as_dictionary d ≡ some before
  is : u ≡ dictionary_term (put k v before)

updated : (d : Term) (k : ℤ) (v : Term) (es : Entries) → as_dictionary (update d k v) ≡ some es → Updated d k v (update d k v)
updated d k v es e = pick (as_dictionary d) refl e
  where
    fits : (xs : Entries) (b : Bool) → as_dictionary (cond b (dictionary_term (put k v xs)) out_of_range) ≡ some es → cond b (dictionary_term (put k v xs)) out_of_range ≡ dictionary_term (put k v xs)
    fits xs true q = refl
    fits xs false q = absurd (none-ne-some es q)

    pick : (o : Option Entries) → as_dictionary d ≡ o → as_dictionary (or_wrong_kind (o >>= λ xs. some (kept (put k v xs)))) ≡ some es → Updated d k v (or_wrong_kind (o >>= λ xs. some (kept (put k v xs))))
    pick none p q = absurd (none-ne-some es q)
    pick (some xs) p q = record { before = xs; was = p; is = fits xs (leb (length (put k v xs)) max_entries) q }

looked : (d : Term) (es : Entries) (k : ℤ) → as_dictionary d ≡ some es → lookup d k ≡ or_absent (find k es)
looked d es k e = ap (λ (o : Option Entries). or_wrong_kind (o >>= λ xs. some (or_absent (find k xs)))) e

module _ (d : Term) (k : ℤ) (v : Term) (es : Entries) (given : as_dictionary (update d k v) ≡ some es) where
  after : (j : ℤ) → lookup (update d k v) j ≡ or_absent (find j (put k v (updated d k v es given).before))
  after j = let u = updated d k v es given in ap (λ (t : Term). lookup t j) u.is ∙ looked (dictionary_term (put k v u.before)) (put k v u.before) j (entries_terms (put k v u.before))

  -- AT ITS KEY AN UPDATE IS WORTH ITS VALUE
  pub lookup_updated : lookup (update d k v) k ≡ v
  lookup_updated = after k ∙ ap or_absent (find_put k v (updated d k v es given).before)

  -- AT ANY OTHER WHAT THE DICTIONARY GAVE BEFORE
  pub lookup_other : (j : ℤ) → (j ≡ k → ⊥) → lookup (update d k v) j ≡ lookup d j
  lookup_other j f = let u = updated d k v es given in after j ∙ (ap or_absent (find_other j k v u.before f) ∙ sym (looked d u.before j u.was))

-- AN UPDATED DICTIONARY IS ONE AGAIN, in range and its keys rising
pub update_fine : (d : Term) (k : ℤ) (v : Term) → Fine d → Fine v → Fine (update d k v)
update_fine d k v x y = fine_apply 17 (cons d (cons (leaf (whole k)) (single v))) (fine_cons d (cons (leaf (whole k)) (single v)) x (fine_cons (leaf (whole k)) (single v) tt y))

-- AN ACCEPTED DICTIONARY IS A LIST OF ENTRIES WHOSE KEYS RISE
pub has_entries : (n : ℕ) (cs : Forest) → T (ok_node (dictionary n) cs) → (es : Entries) × (as_dictionary (record { label = dictionary n; children = cs }) ≡ some es) × T (rising es)
has_entries n cs x = pick (entries cs) refl (and_right (is_ground cs) (all_rise (entries cs)) (and_right (ok_head (dictionary n) (term_count cs)) (ok_below (dictionary n) cs) x))
  where
    pick : (o : Option Entries) → entries cs ≡ o → T (all_rise (entries cs)) → (es : Entries) × (entries cs ≡ some es) × T (rising es)
    pick none p y = absurd (subst (λ (o : Option Entries). T (all_rise o)) p y)
    pick (some es) p y = (es, p, subst (λ (o : Option Entries). T (all_rise o)) p y)

-- AN UPDATE IS NO EXPRESSION, so that none stands in a condition, below a call or in another; in a right it stands over expressions
pub update_no_expression : (xs ss : Forest) → is_expression (node (call 17) xs ss) ≡ false
update_no_expression xs ss = refl

pub update_in_right : (xs ss : Forest) → is_expression_term (node (call 17) xs ss) ≡ (is_expression xs && is_expression_term ss)
update_in_right xs ss = refl
