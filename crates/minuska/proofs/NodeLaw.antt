-- The table of nodes, as every law uses it: what a node in range has by its role, so also by its tag, and its child count.
use mathlib.Core.Path.{◌≡◌, refl, sym, ◌∙◌, ap, subst⁻¹}
use mathlib.Core.Bool.{Bool, true, false, cond}
use Prim.Native.Nat.{ℕ, ◌+◌, ◌-◌, ◌*◌, ◌≤◌, ◌<◌}
use native.Mathlib.Omega.{arith}
use lib.Dec.{T, eqb, leb, ltb, eqb→eq, ltb→lt, leb→le, le→leb}
use lib.IntN.{ℤ, pos, nat_abs}
use lib.ListN.{length}
use Rattle.minuska.specs.Basics.{every}
use Rattle.minuska.specs.Term.{Label, error, truth, whole, variable, call, symbol, dictionary, Role, a_variable, a_call, plain, role}
use Rattle.minuska.specs.Dictionary.{max_entries}
use Rattle.minuska.specs.Function.{Function, functions, function_at, no_function}
use Rattle.minuska.specs.Word.{variables, Children, exactly, up_to, row, counted, allows, tag_word, datum_word, ok_head}
use Rattle.minuska.specs.Computed.Read.{count_at, child_count, children_at, plain_children, max_children, variable_tag, call_tag, dictionary_tag}
use Rattle.minuska.proofs.Tests.{and_left, and_right, every_passes, every_at, guess_right}

-- ---- what a node in range has, by its role: t and d are its two words, k its child count
pub record VariableNode (v : ℕ) (t d : ℤ) (k : ℕ) : Type 0 where
  pub tag : t ≡ pos variable_tag
  pub datum : d ≡ pos v
  pub small : v < variables
  pub childless : k ≡ 0

pub record CallNode (c : ℕ) (t d : ℤ) (k : ℕ) : Type 0 where
  pub tag : t ≡ pos call_tag
  pub datum : d ≡ pos c
  pub small : c < length functions
  pub arity : k ≡ (function_at c).arity

pub record PlainNode (t d : ℤ) (k : ℕ) : Type 0 where
  pub number : ℕ
  pub tag : t ≡ pos number
  pub no_variable : number ≡ variable_tag → ⊥
  pub no_call_lem : number ≡ call_tag → ⊥
  pub count : k ≡ plain_children t d

abbrev pub NodeIs : Role → ℤ → ℤ → ℕ → Type 0
NodeIs (a_variable v) t d k = VariableNode v t d k
NodeIs (a_call c) t d k = CallNode c t d k
NodeIs plain t d k = PlainNode t d k

-- a symbol's tag is no dictionary's
no_dictionary : (k : ℕ) → eqb (8 + k) dictionary_tag ≡ false
no_dictionary k = pick (eqb (8 + k) dictionary_tag) refl
  where
    pick : (b : Bool) → eqb (8 + k) dictionary_tag ≡ b → b ≡ false
    pick true e = absurd (let h = eqb→eq (8 + k) dictionary_tag (subst⁻¹ T e tt) in let f : ⊥ = omega arith in f)
    pick false e = refl

-- THE LAW OF THE TABLE
pub node_is : (l : Label) (k : ℕ) → T (ok_head l k) → NodeIs (role l) (tag_word l k) (datum_word l) k
unfolding plain_children
node_is error k x = record { number = 0; tag = refl; no_variable = omega arith; no_call_lem = omega arith; count = eqb→eq k 0 x }
node_is (truth b) k x = record { number = 1; tag = refl; no_variable = omega arith; no_call_lem = omega arith; count = eqb→eq k 0 x }
node_is (whole z) k x = record { number = 2; tag = refl; no_variable = omega arith; no_call_lem = omega arith; count = eqb→eq k 0 x }
node_is (variable v) k x =
    record { tag = refl; datum = refl; small = ltb→lt v variables (and_left (ltb v variables) (eqb k 0) x); childless = eqb→eq k 0 (and_right (ltb v variables) (eqb k 0) x) }
node_is (call c) k x =
    let a = ltb c (length functions) in
    let b = eqb k (function_at c).arity in
    record { tag = refl; datum = refl; small = ltb→lt c (length functions) (and_left a b x); arity = eqb→eq k (function_at c).arity (and_right a b x) }
node_is (symbol s) k x = record { number = 8 + k; tag = refl; no_variable = λ e. omega arith; no_call_lem = λ e. omega arith; count = sym (ap (λ (b : Bool). cond b (2 * s) (8 + k - 8)) (no_dictionary k) ∙ omega arith) }
node_is (dictionary n) k x =
    record { number = 5; tag = refl; no_variable = omega arith; no_call_lem = omega arith; count = eqb→eq k (2 * n) (and_right (leb n max_entries) (eqb k (2 * n)) x) }

-- the label of a variable
pub variable_label : (l : Label) (v : ℕ) → role l ≡ a_variable v → l ≡ variable v
variable_label error v e = cc
variable_label (truth b) v e = cc
variable_label (whole z) v e = cc
variable_label (variable w) v e = ap variable (cc)
variable_label (call c) v e = cc
variable_label (symbol s) v e = cc
variable_label (dictionary n) v e = cc

-- ---- the same by the tag
module _ (l : Label) (k : ℕ) (x : T (ok_head l k)) where
  pub variable_tag_lem : tag_word l k ≡ pos variable_tag → (v : ℕ) × (role l ≡ a_variable v) × VariableNode v (tag_word l k) (datum_word l) k
  variable_tag_lem e = pick (role l) refl (node_is l k x)
    where
      pick : (r : Role) → role l ≡ r → NodeIs r (tag_word l k) (datum_word l) k → (v : ℕ) × (role l ≡ a_variable v) × VariableNode v (tag_word l k) (datum_word l) k
      pick (a_variable v) q n = (v, q, n)
      pick (a_call c) q n = absurd (let t = n.tag in let z : ◌≡◌ {A = ℕ} variable_tag call_tag = cc in let f : ⊥ = omega arith in f)
      pick plain q n = absurd (n.no_variable (let t = n.tag in cc))

  pub call_tag_lem : tag_word l k ≡ pos call_tag → (c : ℕ) × (role l ≡ a_call c) × CallNode c (tag_word l k) (datum_word l) k
  call_tag_lem e = pick (role l) refl (node_is l k x)
    where
      pick : (r : Role) → role l ≡ r → NodeIs r (tag_word l k) (datum_word l) k → (c : ℕ) × (role l ≡ a_call c) × CallNode c (tag_word l k) (datum_word l) k
      pick (a_variable v) q n = absurd (let t = n.tag in let z : ◌≡◌ {A = ℕ} variable_tag call_tag = cc in let f : ⊥ = omega arith in f)
      pick (a_call c) q n = (c, q, n)
      pick plain q n = absurd (n.no_call_lem (let t = n.tag in cc))

  pub plain_tag : (tag_word l k ≡ pos variable_tag → ⊥) → (tag_word l k ≡ pos call_tag → ⊥) → role l ≡ plain
  plain_tag f g = pick (role l) refl (node_is l k x)
    where
      pick : (r : Role) → role l ≡ r → NodeIs r (tag_word l k) (datum_word l) k → role l ≡ plain
      pick (a_variable v) q n = absurd (f n.tag)
      pick (a_call c) q n = absurd (g n.tag)
      pick plain q n = q

-- a dictionary's, with its entry count and its children
pub record DictionaryNode (n : ℕ) (l : Label) (k : ℕ) : Type 0 where
  pub label : l ≡ dictionary n
  pub few : n ≤ max_entries
  pub two : k ≡ 2 * n

pub dictionary_tag_lem : (l : Label) (k : ℕ) → T (ok_head l k) → tag_word l k ≡ pos dictionary_tag → (n : ℕ) × DictionaryNode n l k
dictionary_tag_lem error k x e = absurd (let z : ◌≡◌ {A = ℕ} 0 dictionary_tag = cc in let f : ⊥ = omega arith in f)
dictionary_tag_lem (truth b) k x e = absurd (let z : ◌≡◌ {A = ℕ} 1 dictionary_tag = cc in let f : ⊥ = omega arith in f)
dictionary_tag_lem (whole z) k x e = absurd (let z : ◌≡◌ {A = ℕ} 2 dictionary_tag = cc in let f : ⊥ = omega arith in f)
dictionary_tag_lem (variable v) k x e = absurd (let z : ◌≡◌ {A = ℕ} variable_tag dictionary_tag = cc in let f : ⊥ = omega arith in f)
dictionary_tag_lem (call c) k x e = absurd (let z : ◌≡◌ {A = ℕ} call_tag dictionary_tag = cc in let f : ⊥ = omega arith in f)
dictionary_tag_lem (symbol s) k x e = absurd (let z : 8 + k ≡ dictionary_tag = cc in let f : ⊥ = omega arith in f)
dictionary_tag_lem (dictionary n) k x e =
    (n, record { label = refl; few = leb→le n max_entries (and_left (leb n max_entries) (eqb k (2 * n)) x); two = eqb→eq k (2 * n) (and_right (leb n max_entries) (eqb k (2 * n)) x) })

-- ---- the child count, from the tag and the datum
count_back : (t : ℕ) (c : Children) (k : ℕ) → T (allows c k) → count_at t c (counted t c k) ≡ k
count_back t (exactly n) k x = sym (eqb→eq k n x)
count_back t (up_to n) k x = omega arith

pub count_right : (l : Label) (k : ℕ) → T (ok_head l k) → child_count l (nat_abs (tag_word l k)) ≡ k
count_right l k x = count_back (row l).tag (row l).children k (and_right (row l).in_range (allows (row l).children k) x)

pub children_right : (l : Label) (k : ℕ) → T (ok_head l k) → children_at (tag_word l k) (datum_word l) ≡ k
children_right l k x = ap (λ (m : Label). child_count m (nat_abs (tag_word l k))) (guess_right l k) ∙ count_right l k x

-- ---- its bound
pub arity_most : (k : ℕ) → T (every (λ f. leb f.arity k) functions) → (c : ℕ) → (function_at c).arity ≤ k
arity_most k t c =
    leb→le (function_at c).arity k (every_at (λ (f : Function). T (leb f.arity k)) functions no_function (every_passes (λ f. leb f.arity k) functions t) (le→leb 0 k (omega arith)) c)

most : Children → ℕ
most (exactly n) = n
most (up_to n) = n

allows_most : (c : Children) (k : ℕ) → T (allows c k) → k ≤ most c
unfolding most
allows_most (exactly n) k x = let e = eqb→eq k n x in omega arith
allows_most (up_to n) k x = leb→le k n x

row_most : (l : Label) → T (row l).in_range → most (row l).children ≤ max_children
unfolding most
row_most error x = omega arith
row_most (truth b) x = omega arith
row_most (whole z) x = omega arith
row_most (variable v) x = omega arith
row_most (call c) x = arity_most max_children tt c
row_most (symbol s) x = omega arith
row_most (dictionary n) x = let a = leb→le n max_entries x in omega arith

pub few_children : (l : Label) (k : ℕ) → T (ok_head l k) → k ≤ max_children
few_children l k x =
    let a = allows_most (row l).children k (and_right (row l).in_range (allows (row l).children k) x) in
    let b = row_most l (and_left (row l).in_range (allows (row l).children k) x) in
    omega arith
