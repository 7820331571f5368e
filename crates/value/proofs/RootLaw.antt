-- The root that a ground node's two words say, and the two words of a term's root.
use mathlib.Core.Path.{◌≡◌, refl, sym, ◌∙◌, ap, ap₂}
use mathlib.Core.Bool.{Bool, true, false, ◌&&◌, cond}
use mathlib.Core.List.{List, [], ◌++◌}
use Prim.Native.Nat.{ℕ, suc, ◌+◌, ◌-◌, ◌<◌}
use native.Mathlib.Omega.{arith}
use lib.Dec.{T, eqb, leb}
use lib.IntN.{ℤ, pos}
use lib.ListN.{get_or, length, take, drop}
use borrow.Author.Tests.{le-leb}
use Rattle.minuska.specs.Term.{Label, error, truth, whole, variable, call, symbol, dictionary, nil, Term, single, term_count, role, ground_at, is_ground}
use Rattle.minuska.specs.Word.{tag_word, datum_word, ok, encode}
use Rattle.minuska.specs.Computed.Read.{children_at}
use Rattle.minuska.specs.Bridge.Place.{part, Stands}
use Rattle.minuska.proofs.Tests.{and_left}
use Rattle.minuska.proofs.NodeLaw.{children_right}
use Rattle.minuska.proofs.WordLaw.{okay, head_okay}
use Rattle.minuska.proofs.Bridge.PlaceLaw.{two_words}
use Rattle.term.specs.declared.Span.{Span}
use Rattle.value.specs.Builtin.{label_at, label_of, root_of}
use Rattle.value.specs.Root.{Head, root_at}
use Rattle.value.specs.Value.{value_words, IsValue}
use Rattle.value.specs.declared.Value.TheVariants.{Table, Configuration, Computed}
use Rattle.value.specs.declared.builtin.Root.{Root}

-- the label that a ground node's words say is the node's
label_said : (l : Label) (k : ℕ) → T (ground_at (role l)) → label_at (tag_word l k) (datum_word l) ≡ l
unfolding label_at
label_said error k g = refl
label_said (truth true) k g = refl
label_said (truth false) k g = refl
label_said (whole z) k g = refl
label_said (variable v) k g = absurd g
label_said (call c) k g = absurd g
label_said (symbol s) k g =
    let n : 8 + k ≡ suc (suc (suc (5 + k))) = omega arith in
    let e : leb 5 (5 + k) ≡ true = le-leb 5 (5 + k) (omega arith) in
    ap (λ (m : ℕ). label_at (pos m) (pos s)) n ∙ ap (λ (b : Bool). cond b (symbol s) (cond (eqb (5 + k) 2) (dictionary s) error)) e
label_said (dictionary n) k g = refl

pub label_is : (r : Root) (l : Label) (k : ℕ) → Head r l k → label_at r.tag r.datum ≡ l
label_is r l k h = ap₂ label_at h.tag h.datum ∙ label_said l k h.grounded

-- its child count
pub children_is : (r : Root) (l : Label) (k : ℕ) → Head r l k → k ≡ children_at r.tag r.datum
children_is r l k h = sym (children_right l k h.good) ∙ sym (ap₂ children_at h.tag h.datum)

-- the first two words of a ground term
pub own_head : (t : Term) (r : Root) → T (ok (single t)) → T (is_ground (single t)) → r.tag ≡ tag_word t.label (term_count t.children) → r.datum ≡ datum_word t.label → Head r t.label (term_count t.children)
own_head t r o g p q =
    let a = ground_at (role t.label) in
    let b = is_ground t.children in
    record { good = head_okay t.label t.children (okay t.label t.children nil o).allowed; grounded = and_left a b (and_left (a && b) true g); tag = p; datum = q }

-- the root of the term whose words are a part
pub record RootThere (ws : List ℤ) (at : ℕ) (t : Term) : Type 0 where
  pub room : at + 1 < length ws
  pub head : Head (root_at ws at) t.label (term_count t.children)

there : (ws : List ℤ) (at n : ℕ) (t : Term) → T (ok (single t)) → T (is_ground (single t)) → take n (drop at ws) ≡ encode (single t) → RootThere ws at t
unfolding root_at
there ws at n t o g e =
    let w = two_words ws at n (tag_word t.label (term_count t.children)) (datum_word t.label) (encode t.children ++ []) e in
    let r = w.room in
    record { room = omega arith; head = own_head t (root_at ws at) o g w.first w.second }

root_there : (ws : List ℤ) (from to : ℕ) (t : Term) → T (ok (single t)) → T (is_ground (single t)) → part ws from to ≡ encode (single t) → RootThere ws from t
root_there ws from to t o g e = there ws from (to - from) t o g e

pub root_stands : (ws : List ℤ) (at : ℕ) (t : Term) → T (ok (single t)) → T (is_ground (single t)) → Stands ws at (encode (single t)) → RootThere ws at t
root_stands ws at t o g s = there ws at (length (encode (single t))) t o g s.words

-- error's own words
pub error_label : label_of (root_of error) ≡ error
unfolding label_at root_of
error_label = refl

-- ---- the root of a value, by where it is
module _ (table config : List ℤ) (t : Term) where
  pub table_root : (s : Span) → IsValue table config (Table s) t → RootThere table s.from t
  unfolding value_words
  table_root s i = root_there table s.from s.to t i.good i.grounded i.words

  pub configuration_root : (s : Span) → IsValue table config (Configuration s) t → RootThere config s.from t
  unfolding value_words
  configuration_root s i = root_there config s.from s.to t i.good i.grounded i.words

  pub computed_root : (r : Root) → IsValue table config (Computed r) t → Head r t.label (term_count t.children)
  unfolding value_words
  computed_root r i = own_head t r i.good i.grounded (ap (λ (l : List ℤ). get_or l 0 (pos 0)) i.words) (ap (λ (l : List ℤ). get_or l 1 (pos 0)) i.words)
