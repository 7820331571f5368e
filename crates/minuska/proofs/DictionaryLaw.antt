-- Dictionaries: what an update leaves at its key and elsewhere, that its keys rise, and that the terms of entries are those entries.
use mathlib.Core.Path.{◌≡◌, refl, sym, ◌∙◌, ap, subst, subst⁻¹}
use mathlib.Core.Bool.{Bool, true, false, cond}
use mathlib.Core.Option.{Option, none, some, some-injective, none-ne-some}
use mathlib.Core.List.{[], ◌∷◌}
use Prim.Native.Nat.{ℕ, suc, ◌*◌, ◌≤◌}
use native.Mathlib.Omega.{arith}
use lib.Dec.{T, ltb, ltb→lt, lt→ltb}
use lib.IntN.{ℤ, pos, negsuc}
use lib.Signed.{lt_z}
use lib.ListN.{length}
use borrow.Author.Tests.{ltb-false}
use Rattle.minuska.specs.Basics.{◌>>=◌, Every, same_whole}
use Rattle.minuska.specs.Term.{Label, Forest, nil, node, Term, term_count, as_whole}
use Rattle.minuska.specs.Dictionary.{Entry, Entries, find, put, below, rising, entry_terms, entries}
use Rattle.minuska.proofs.Tests.{came, and_left, and_right, and_both, same_whole_lem, whole_same, true_of}

-- ---- keys
other : (a b : ℤ) → (a ≡ b → ⊥) → same_whole a b ≡ false
other a b f = pick (same_whole a b) refl
  where
    pick : (x : Bool) → same_whole a b ≡ x → x ≡ false
    pick true e = absurd (f (same_whole_lem a b (subst⁻¹ T e tt)))
    pick false e = refl

above : (a b : ℕ) → ltb a b ≡ false → (a ≡ b → ⊥) → T (ltb b a)
above a b e f = pick (ltb b a) refl
  where
    pick : (y : Bool) → ltb b a ≡ y → T y
    pick true q = tt
    pick false q = absurd (f (omega (arith, ltb-false a b e, ltb-false b a q)))

-- a key that is not less, and another, is greater
greater : (a b : ℤ) → lt_z a b ≡ false → (a ≡ b → ⊥) → T (lt_z b a)
greater (pos a) (pos b) e f = above a b e (λ q. f (ap pos q))
greater (pos a) (negsuc b) e f = tt
greater (negsuc a) (pos b) e f = absurd (subst T e tt)
greater (negsuc a) (negsuc b) e f = above b a e (λ q. f (ap negsuc (sym q)))

below_trans : (a b c : ℤ) → T (lt_z a b) → T (lt_z b c) → T (lt_z a c)
below_trans (pos a) (pos b) (pos c) x y = let p = ltb→lt a b x in let q = ltb→lt b c y in lt→ltb a c (omega arith)
below_trans (pos a) (pos b) (negsuc c) x y = absurd y
below_trans (pos a) (negsuc b) c x y = absurd x
below_trans (negsuc a) (pos b) (pos c) x y = tt
below_trans (negsuc a) (pos b) (negsuc c) x y = absurd y
below_trans (negsuc a) (negsuc b) (pos c) x y = tt
below_trans (negsuc a) (negsuc b) (negsuc c) x y = let p = ltb→lt b a x in let q = ltb→lt c b y in lt→ltb c a (omega arith)

below_self : (a : ℤ) → T (lt_z a a) → ⊥
below_self (pos a) x = let p = ltb→lt a a x in omega arith
below_self (negsuc a) x = let p = ltb→lt a a x in omega arith

below_other : (a b : ℤ) → T (lt_z a b) → same_whole a b ≡ false
below_other a b x = pick (same_whole a b) refl
  where
    pick : (y : Bool) → same_whole a b ≡ y → y ≡ false
    pick true e = absurd (below_self b (subst (λ (z : ℤ). T (lt_z z b)) (same_whole_lem a b (subst⁻¹ T e tt)) x))
    pick false e = refl

below_rest : (k : ℤ) (e : Entry) (es : Entries) → T (lt_z k e.key) → T (below e.key es) → T (below k es)
below_rest k e [] x y = tt
below_rest k e (f ∷ es) x y = below_trans k e.key f.key x y

-- A KEY BELOW THE FIRST OF KEYS THAT RISE IS NOT AMONG THEM
pub find_below : (k : ℤ) (es : Entries) → T (rising es) → T (below k es) → find k es ≡ none
find_below k [] r x = refl
find_below k (e ∷ es) r x =
    ap (λ (b : Bool). cond b (some e.value) (find k es)) (below_other k e.key x) ∙
    find_below k es (and_right (below e.key es) (rising es) r) (below_rest k e es x (and_left (below e.key es) (rising es) r))

-- NO KEY STANDS TWICE
pub key_once : (e : Entry) (es : Entries) → T (rising (e ∷ es)) → find e.key es ≡ none
key_once e es r = find_below e.key es (and_right (below e.key es) (rising es) r) (and_left (below e.key es) (rising es) r)

abbrev pub entry : ℤ → Term → Entry
entry k v = record { key = k; value = v }

-- WHERE AN UPDATE PUTS ITS ENTRY: in front of the first that is greater, in place of the one with its key, or behind those that are less
pub put_cases : (P : Entries → Type 0) (k : ℤ) (v : Term) (e : Entry) (es : Entries) → (T (lt_z k e.key) → P (entry k v ∷ e ∷ es)) → (k ≡ e.key → P (entry k v ∷ es)) → ((k ≡ e.key → ⊥) → T (lt_z e.key k) → P (e ∷ put k v es)) → P (put k v (e ∷ es))
put_cases P k v e es front same later = pick (lt_z k e.key) refl (same_whole k e.key) refl
  where
    pick : (x : Bool) → lt_z k e.key ≡ x → (y : Bool) → same_whole k e.key ≡ y → P (cond x (entry k v ∷ e ∷ es) (cond y (entry k v ∷ es) (e ∷ put k v es)))
    pick true p y q = front (subst⁻¹ T p tt)
    pick false p true q = same (same_whole_lem k e.key (subst⁻¹ T q tt))
    pick false p false q = let n : k ≡ e.key → ⊥ = λ r. subst T q (subst (λ (z : ℤ). T (same_whole k z)) r (whole_same k)) in later n (greater k e.key p n)

-- ---- a lookup after an update
found : (k : ℤ) (v : Term) (es : Entries) → find k (entry k v ∷ es) ≡ some v
found k v es = ap (λ (b : Bool). cond b (some v) (find k es)) (true_of (same_whole k k) (whole_same k))

passed : (j : ℤ) (e : Entry) (es : Entries) → (j ≡ e.key → ⊥) → find j (e ∷ es) ≡ find j es
passed j e es f = ap (λ (b : Bool). cond b (some e.value) (find j es)) (other j e.key f)

-- AT ITS KEY IT GIVES THE NEW VALUE
pub find_put : (k : ℤ) (v : Term) (es : Entries) → find k (put k v es) ≡ some v
find_put k v [] = found k v []
find_put k v (e ∷ es) =
    put_cases (λ xs. find k xs ≡ some v) k v e es (λ x. found k v (e ∷ es)) (λ p. found k v es) (λ n x. passed k e (put k v es) n ∙ find_put k v es)

-- AT ANY OTHER WHAT IT GAVE BEFORE
pub find_other : (j k : ℤ) (v : Term) (es : Entries) → (j ≡ k → ⊥) → find j (put k v es) ≡ find j es
find_other j k v [] f = passed j (entry k v) [] f
find_other j k v (e ∷ es) f =
    put_cases (λ xs. find j xs ≡ find j (e ∷ es)) k v e es (λ x. passed j (entry k v) (e ∷ es) f) (λ p. passed j (entry k v) es f ∙ sym (passed j e es (λ q. f (q ∙ sym p))))
    (λ n x. ap (cond (same_whole j e.key) (some e.value)) (find_other j k v es f))

-- ---- the keys rise, and there is at most one more
below_put : (a k : ℤ) (v : Term) (es : Entries) → T (below a es) → T (lt_z a k) → T (below a (put k v es))
below_put a k v [] x y = y
below_put a k v (e ∷ es) x y = put_cases (λ xs. T (below a xs)) k v e es (λ z. y) (λ p. y) (λ n z. x)

pub rising_put : (k : ℤ) (v : Term) (es : Entries) → T (rising es) → T (rising (put k v es))
rising_put k v [] x = tt
rising_put k v (e ∷ es) x =
    let a = and_left (below e.key es) (rising es) x in
    let b = and_right (below e.key es) (rising es) x in
    put_cases (λ xs. T (rising xs)) k v e es (λ y. and_both (lt_z k e.key) (rising (e ∷ es)) y x)
    (λ p. and_both (below k es) (rising es) (subst⁻¹ (λ (z : ℤ). T (below z es)) p a) b)
    (λ n y. and_both (below e.key (put k v es)) (rising (put k v es)) (below_put e.key k v es a y) (rising_put k v es b))

pub length_put : (k : ℤ) (v : Term) (es : Entries) → length (put k v es) ≤ suc (length es)
length_put k v [] = omega arith
length_put k v (e ∷ es) =
    let i = length_put k v es in
    put_cases (λ xs. length xs ≤ suc (suc (length es))) k v e es (λ y. omega arith) (λ p. omega arith) (λ n y. omega arith)

-- ---- the terms of entries are those entries, two each
pub entries_terms : (es : Entries) → entries (entry_terms es) ≡ some es
entries_terms [] = refl
entries_terms (e ∷ es) = ap (λ (o : Option Entries). o >>= λ xs. some (e ∷ xs)) (entries_terms es)

pub terms_count : (es : Entries) → term_count (entry_terms es) ≡ 2 * length es
terms_count [] = refl
terms_count (e ∷ es) = let i = terms_count es in omega arith

-- ---- a fact of every entry: of those that terms are, of what a lookup finds, of what an update keeps
pub find_all : (P : Entry → Type 0) (k : ℤ) (es : Entries) (t : Term) → Every P es → find k es ≡ some t → (e : Entry) × P e × (e.value ≡ t)
find_all P k [] t x q = absurd (none-ne-some t q)
find_all P k (e ∷ es) t x q = pick (same_whole k e.key) q (find_all P k es t x.1)
  where
    pick : (b : Bool) → cond b (some e.value) (find k es) ≡ some t → (find k es ≡ some t → (f : Entry) × P f × (f.value ≡ t)) → (f : Entry) × P f × (f.value ≡ t)
    pick true r go = (e, x.0, some-injective e.value t r)
    pick false r go = go r

pub put_all : (P : Entry → Type 0) (k : ℤ) (v : Term) (es : Entries) → Every P es → P (entry k v) → Every P (put k v es)
put_all P k v [] x y = (y, tt)
put_all P k v (e ∷ es) x y = put_cases (λ xs. Every P xs) k v e es (λ z. (y, x)) (λ p. (y, x.1)) (λ n z. (x.0, put_all P k v es x.1 y))

pub entries_all : (Q : Forest → Type 0) (P : Entry → Type 0) → ((l m : Label) (ls ms ss : Forest) (k : ℤ) → Q (node l ls (node m ms ss)) → as_whole l ≡ some k → P (entry k (record { label = m; children = ms })) × Q ss) → (f : Forest) (es : Entries) → Q f → entries f ≡ some es → Every P es
entries_all Q P part nil es x e = subst (λ (y : Entries). Every P y) (some-injective [] es e) tt
entries_all Q P part (node l ls nil) es x e = absurd (none-ne-some es e)
entries_all Q P part (node l ls (node m ms ss)) es x e =
    let t : Term = record { label = m; children = ms } in
    let c = came (as_whole l) (λ k. entries ss >>= λ es. some (entry k t ∷ es)) es e in
    let d = came (entries ss) (λ es. some (entry c.0 t ∷ es)) es c.2 in
    let p = part l m ls ms ss c.0 x c.1 in
    subst (λ (y : Entries). Every P y) (some-injective (entry c.0 t ∷ d.0) es d.2) (p.0, entries_all Q P part ss d.0 p.1 d.1)
