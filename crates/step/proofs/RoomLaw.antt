-- How many words a right has at most under a match, by its sizes: two for each node that is its own; for each term that is a part of the configuration or of a literal of
-- the right, as many as either has at most.
use mathlib.Core.Path.{◌≡◌, refl, sym, ◌∙◌, ap, subst}
use mathlib.Core.Bool.{Bool, true, false, cond}
use mathlib.Core.Option.{some, some-injective, none-ne-some}
use mathlib.Core.List.{List, [], ◌∷◌}
use Prim.Native.Nat.{ℕ, zero, suc, ◌+◌, ◌*◌, ◌≤◌}
use native.Mathlib.Nat.{add-mul}
use native.Mathlib.Omega.{arith}
use native.Mathlib.Decide.{ℕ_discrete}
use lib.Dec.{T, eqb, leb}
use lib.IntN.{ℤ}
use lib.ListN.{length, length-append}
use lib.Signed.{lt_z}
use borrow.Author.Tests.{eq-eqb, ne_eqb}
use Rattle.minuska.specs.Basics.{◌>>=◌, same_whole}
use Rattle.minuska.specs.Term.{Label, error, truth, whole, variable, call, symbol, dictionary, Forest, nil, node, Term, cons, leaf, single, term_count, Role, a_variable, a_call, plain, role, is_ground, as_whole}
use Rattle.minuska.specs.Dictionary.{Entries, max_entries, find, put, entry_terms, dictionary_term, entries}
use Rattle.minuska.specs.Word.{tag_word, datum_word, encode}
use Rattle.minuska.specs.Function.{in_word, share_range, out_of_range, argument_term, as_dictionary_at, kept, interpret}
use Rattle.minuska.specs.Satisfaction.{Valuation}
use Rattle.minuska.specs.Rule.{in_expression, inner_at, is_expression, expression_at, is_expression_term}
use Rattle.minuska.specs.Computed.Value.{value_at, values}
use Rattle.minuska.specs.Bridge.Walk.{emit_at, emit, fixed_call, leaves_call, fixed_at, fixed_nodes, leaves_at, variable_nodes}
use Rattle.minuska.specs.Bridge.Place.{Binds}
use Rattle.minuska.proofs.Tests.{came, and_left, and_right}
use Rattle.minuska.proofs.FunctionLaw.{every_value}
use Rattle.minuska.proofs.ValueLaw.{ground_value}
use Rattle.minuska.proofs.Bridge.ItemLaw.{parted}
use Rattle.step.proofs.RightLaw.{one_node}

-- ---- a dictionary's entries have no more words than the terms that they are read from; a value at a key, no more than the entries; an update, an entry more at most
abbrev words : Entries → ℕ
words es = length (encode (entry_terms es))

abbrev size : Term → ℕ
size t = length (encode (single t))

entries_few : (f : Forest) (es : Entries) → entries f ≡ some es → words es ≤ length (encode f)
entries_few nil es e = let p = ap words (some-injective [] es e) in omega arith
entries_few (node l ls nil) es e = absurd (none-ne-some es e)
entries_few (node l ls (node m ms ss)) es e =
    let v : Term = record { label = m; children = ms } in
    let c = came (as_whole l) (λ k. entries ss >>= λ xs. some (record { key = k; value = v } ∷ xs)) es e in
    let d = came (entries ss) (λ xs. some (record { key = c.0; value = v } ∷ xs)) es c.2 in
    let p = ap words (some-injective (record { key = c.0; value = v } ∷ d.0) es d.2) in
    let h = entries_few ss d.0 d.1 in
    omega (arith, p, h, length-append (encode ms) (encode (entry_terms d.0)), length-append (encode ls) (encode (node m ms ss)), length-append (encode ms) (encode ss))

find_few : (k : ℤ) (es : Entries) (t : Term) → find k es ≡ some t → size t ≤ words es
find_few k [] t e = absurd (none-ne-some t e)
find_few k (x ∷ es) t e = pick (λ q. find_few k es t q) (same_whole k x.key) e
  where
    pick : (find k es ≡ some t → size t ≤ words es) → (b : Bool) → cond b (some x.value) (find k es) ≡ some t → size t ≤ words (x ∷ es)
    pick later true q =
        let p = ap size (some-injective x.value t q) in
        omega (arith, p, length-append (encode x.value.children) (encode (entry_terms es)), length-append (encode x.value.children) [])
    pick later false q = omega (arith, later q, length-append (encode x.value.children) (encode (entry_terms es)))

put_few : (k : ℤ) (v : Term) (es : Entries) → words (put k v es) ≤ 2 + size v + words es
put_few k v [] = omega arith
put_few k v (x ∷ es) = pick (put_few k v es) (lt_z k x.key) (same_whole k x.key)
  where
    pick : words (put k v es) ≤ 2 + size v + words es → (a b : Bool) → words (cond a (record { key = k; value = v } ∷ x ∷ es) (cond b (record { key = k; value = v } ∷ es) (x ∷ put k v es))) ≤ 2 + size v + words (x ∷ es)
    pick later true b = omega (arith, length-append (encode v.children) (encode (entry_terms (x ∷ es))), length-append (encode v.children) [])
    pick later false true = omega (arith, length-append (encode v.children) (encode (entry_terms es)), length-append (encode v.children) [], length-append (encode x.value.children) (encode (entry_terms es)))
    pick later false false = omega (arith, later, length-append (encode x.value.children) (encode (entry_terms (put k v es))), length-append (encode x.value.children) (encode (entry_terms es)))

dictionary_few : (l : Label) (cs : Forest) (es : Entries) → as_dictionary_at l cs ≡ some es → words es ≤ length (encode cs)
dictionary_few error cs es e = absurd (none-ne-some es e)
dictionary_few (truth b) cs es e = absurd (none-ne-some es e)
dictionary_few (whole z) cs es e = absurd (none-ne-some es e)
dictionary_few (variable v) cs es e = absurd (none-ne-some es e)
dictionary_few (call c) cs es e = absurd (none-ne-some es e)
dictionary_few (symbol s) cs es e = absurd (none-ne-some es e)
dictionary_few (dictionary n) cs es e = entries_few cs es e

-- two tests, answered
answered : (a b s t : Bool) (x y z : ℕ) → a ≡ s → b ≡ t → cond a x (cond b y z) ≡ cond s x (cond t y z)
answered a b s t x y z p q = cc

module _ (cs : List ℤ) (starts ends : List ℕ) (ρ : Valuation) (b : Binds cs starts ends ρ) (most : ℕ) (long : length cs ≤ most) where
  -- ---- terms with so many words at most, and the values of expressions that have no more themselves
  abbrev Small : Term → Type 0
  Small t = size t ≤ most

  abbrev AllSmall : Forest → Type 0
  AllSmall nil = Unit {0}
  AllSmall (node l ls ss) = Small (record { label = l; children = ls }) × AllSmall ss

  module _ (two : 2 ≤ most) where
    argument_small : (xs : Forest) (i : ℕ) → AllSmall xs → Small (argument_term i xs)
    argument_small nil zero x = two
    argument_small nil (suc i) x = two
    argument_small (node l ls ss) zero x = x.0
    argument_small (node l ls ss) (suc i) x = argument_small ss i x.1

    small_if : (t : Bool) (z : ℤ) → Small (cond t (leaf (whole z)) out_of_range)
    small_if true z = two
    small_if false z = two

    entries_small : (xs : Forest) (es : Entries) → AllSmall xs → as_dictionary_at (argument_term 0 xs).label (argument_term 0 xs).children ≡ some es → 2 + words es ≤ most
    entries_small xs es x p =
        let t = argument_term 0 xs in
        let h = dictionary_few t.label t.children es p in
        let s = argument_small xs 0 x in
        omega (arith, h, s, length-append (encode t.children) [])

    -- every function's value but an update's
    call_small : (c : ℕ) (xs : Forest) → AllSmall xs × (c ≡ 17 → ⊥) → Small (interpret c xs)
    call_small = every_value (λ c xs. AllSmall xs × (c ≡ 17 → ⊥)) Small (λ t. two) two (λ z. small_if (in_word z) z) (λ x y z. small_if (share_range x y z) _) two (λ xs x es k t p q. let h = entries_small xs es x.0 p in let g = find_few k es t q in omega arith) (λ xs x es k p q. absurd (x.1 refl))

    -- every function's
    abbrev Double : Term → Type 0
    Double t = size t ≤ 4 + 2 * most

    double_if : (t : Bool) (z : ℤ) → Double (cond t (leaf (whole z)) out_of_range)
    double_if true z = omega arith
    double_if false z = omega arith

    kept_double : (es : Entries) (k : ℤ) (v : Term) → 2 + words es ≤ most → Small v → Double (kept (put k v es))
    kept_double es k v h s = pick (leb (length (put k v es)) max_entries)
      where
        pick : (t : Bool) → Double (cond t (dictionary_term (put k v es)) out_of_range)
        pick true = omega (arith, put_few k v es, length-append (encode (entry_terms (put k v es))) [])
        pick false = omega arith

    call_double : (c : ℕ) (xs : Forest) → AllSmall xs → Double (interpret c xs)
    call_double = every_value (λ c xs. AllSmall xs) Double (λ t. omega arith) (omega arith) (λ z. double_if (in_word z) z) (λ x y z. double_if (share_range x y z) _) (omega arith) (λ xs x es k t p q. let h = entries_small xs es x p in let g = find_few k es t q in omega arith) (λ xs x es k p q. kept_double es k (argument_term 2 xs) (entries_small xs es x p) (argument_small xs 2 x))

    -- a call, by what it is known to give
    call_most : (c : ℕ) (xs : Forest) → AllSmall xs → size (interpret c xs) ≤ 2 * fixed_call c + leaves_call c * most
    call_most c xs x = pick (ℕ_discrete c 16) (ℕ_discrete c 17)
      where
        known : (m n : ℕ) → fixed_call c ≡ m → leaves_call c ≡ n → size (interpret c xs) ≤ 2 * m + n * most → size (interpret c xs) ≤ 2 * fixed_call c + leaves_call c * most
        known m n p q h = rw (p, q) h

        pick : Dec (c ≡ 16) → Dec (c ≡ 17) → size (interpret c xs) ≤ 2 * fixed_call c + leaves_call c * most
        pick (yes p) d =
            let e = eq-eqb c 16 p in
            let h = call_small c xs (x, λ q. let f : ⊥ = omega (arith, p, q) in f) in
            known 0 1 (ap (λ (t : Bool). cond t 0 (cond (eqb c 17) 2 1)) e) (ap (λ (t : Bool). cond t 1 (cond (eqb c 17) 2 0)) e) (omega arith)
        pick (no f) (yes p) =
            let e = ne_eqb c 16 f in
            let g = eq-eqb c 17 p in
            let h = call_double c xs x in
            known 2 2 (answered (eqb c 16) (eqb c 17) false true 0 2 1 e g) (answered (eqb c 16) (eqb c 17) false true 1 2 0 e g) (omega arith)
        pick (no f) (no n) =
            let e = ne_eqb c 16 f in
            let g = ne_eqb c 17 n in
            let h = one_node c xs (f, n) in
            known 1 0 (answered (eqb c 16) (eqb c 17) false false 0 2 1 e g) (answered (eqb c 16) (eqb c 17) false false 1 2 0 e g) (omega arith)

    -- one expression's value, by its root's role
    term_small : (r : Role) (l : Label) (ls : Forest) → T (inner_at r (is_expression ls) (is_ground ls)) → 2 + length (encode ls) ≤ most → ((xs : Forest) → T (is_expression ls) → values ρ ls ≡ some xs → AllSmall xs) → (t : Term) → value_at ρ r l (values ρ ls) ≡ some t → Small t
    term_small (a_variable v) l ls x h inside t e = omega (arith, (b.places v t e).stands.within)
    term_small (a_call c) l ls x h inside t e =
        let q = came (values ρ ls) (λ ys. some (interpret c ys)) t e in
        let i = inside q.0 (and_right (in_expression c) (is_expression ls) x) q.1 in
        subst Small (some-injective (interpret c q.0) t q.2) (call_small c q.0 (i, λ p. no_update c p (and_left (in_expression c) (is_expression ls) x)))
      where
        no_update : (d : ℕ) → d ≡ 17 → T (in_expression d) → ⊥
        no_update d p y = subst (λ (n : ℕ). T (in_expression n)) p y
    term_small plain l ls x h inside t e =
        let q = came (values ρ ls) (λ ys. some (record { label = l; children = ys })) t e in
        let g = some-injective ls q.0 (sym (ground_value ρ ls x) ∙ q.1) in
        let p = ap size (some-injective (record { label = l; children = q.0 }) t q.2) in
        let i = ap (λ (f : Forest). length (encode f)) g in
        omega (arith, p, i, length-append (encode q.0) [])

    values_small : (f xs : Forest) → T (is_expression f) → length (encode f) ≤ most → values ρ f ≡ some xs → AllSmall xs
    values_small nil xs x h e = subst AllSmall (some-injective nil xs e) tt
    values_small (node l ls ss) xs x h e =
        let c = came (value_at ρ (role l) l (values ρ ls)) (λ t. values ρ ss >>= λ f. some (cons t f)) xs e in
        let d = came (values ρ ss) (λ f. some (cons c.0 f)) xs c.2 in
        let a = inner_at (role l) (is_expression ls) (is_ground ls) in
        let n = length-append (encode ls) (encode ss) in
        let s = term_small (role l) l ls (and_left a (is_expression ss) x) (omega arith) (λ ys y q. values_small ls ys y (omega arith) q) c.0 c.1 in
        let r = values_small ss d.0 (and_right a (is_expression ss) x) (omega arith) d.1 in
        subst AllSmall (some-injective (cons c.0 d.0) xs d.2) (s, r)

  abbrev Most : ℕ → ℕ → List ℤ → Type 0
  Most fixed leaves us = length us ≤ 2 * fixed + leaves * most

  -- one term, by its root's role
  term_most : (r : Role) (l : Label) (ls : Forest) → T (expression_at r (is_expression ls) (is_expression_term ls)) → 2 + length (encode ls) ≤ most → ((us : List ℤ) → T (is_expression_term ls) → emit ρ ls ≡ some us → Most (fixed_nodes ls) (variable_nodes ls) us) → (us : List ℤ) → emit_at ρ r l (term_count ls) (values ρ ls) (emit ρ ls) ≡ some us → Most (fixed_at r (fixed_nodes ls)) (leaves_at r (variable_nodes ls)) us
  term_most (a_variable v) l ls x h inside us e =
      let q = came (ρ v) (λ t. some (encode (single t))) us e in
      omega (arith, ap length (some-injective (encode (single q.0)) us q.2), (b.places v q.0 q.1).stands.within)
  term_most (a_call c) l ls x h inside us e =
      let q = came (values ρ ls) (λ xs. some (encode (single (interpret c xs)))) us e in
      let two : 2 ≤ most = omega arith in
      let m = call_most two c q.0 (values_small two ls q.0 x (omega arith) q.1) in
      subst (λ (vs : List ℤ). length vs ≤ 2 * fixed_call c + leaves_call c * most) (some-injective (encode (single (interpret c q.0))) us q.2) m
  term_most plain l ls x h inside us e =
      let q = came (emit ρ ls) (λ vs. some (tag_word l (term_count ls) ∷ datum_word l ∷ vs)) us e in
      omega (arith, ap length (some-injective (tag_word l (term_count ls) ∷ datum_word l ∷ q.0) us q.2), inside q.0 x q.1)

  pub words_most : (f : Forest) (us : List ℤ) → T (is_expression_term f) → length (encode f) ≤ most → emit ρ f ≡ some us → length us ≤ 2 * fixed_nodes f + variable_nodes f * most
  words_most nil us x h e = omega (arith, ap length (some-injective [] us e))
  words_most (node l ls ss) us x h e =
      let (vs, rest, p, q, joined) = parted ρ l ls ss us e in
      let a = expression_at (role l) (is_expression ls) (is_expression_term ls) in
      let n = length-append (encode ls) (encode ss) in
      let i = term_most (role l) l ls (and_left a (is_expression_term ss) x) (omega arith) (λ ws y z. words_most ls ws y (omega arith) z) vs p in
      let y = words_most ss rest (and_right a (is_expression_term ss) x) (omega arith) q in
      omega (arith, i, y, ap length joined, length-append vs rest, add-mul (leaves_at (role l) (variable_nodes ls)) (variable_nodes ss) most)
