-- Which two words are a node, and its child count.
use mathlib.Core.Path.{◌≡◌, refl, sym, ◌∙◌, ap, ap₂, subst, subst₂}
use mathlib.Core.Bool.{Bool, cond}
use mathlib.Core.Option.{Option, none, some}
use mathlib.Core.List.{List}
use Prim.Native.Nat.{ℕ, ◌+◌, ◌-◌, ◌*◌, ◌≤◌}
use native.Mathlib.Omega.{arith}
use lib.Dec.{T, leb, ltb, eqb→eq, leb→le}
use lib.IntN.{ℤ, pos, negsuc, nat_abs}
use lib.ListN.{get_or}
use borrow.Author.Tests.{ne_eqb}
use Rattle.minuska.proofs.Tests.{came, provided_some, provided_true, and_right}
use Rattle.minuska.proofs.NodeLaw.{NodeIs, node_is, children_right, few_children, dictionary_tag_lem}
use Rattle.minuska.proofs.WordLaw.{node_read, read_node_lem}
use Rattle.minuska.specs.Basics.{◌>>=◌, provided}
use Rattle.minuska.specs.Computed.Read.{read_node, children_at, plain_children, max_children, symbol_tag, dictionary_tag}
use Rattle.minuska.specs.Dictionary.{max_entries}
use Rattle.minuska.specs.Term.{Label, error, truth, whole, variable, call, symbol, dictionary, Role, a_variable, a_call, plain, role, ground_at}
use Rattle.minuska.specs.Word.{symbols, datum_word, ok_head, tag_word}
use Rattle.term.specs.TermAt.{NodeWords}
use Rattle.term.specs.TermEnd.{any_label, ground_label, tagged_label, children_if, children_of, tag_children, WalkedNode}

-- ---- a node in range whose label passes a test, with its words and its child count
pub record Node (p : Label → Bool) (t d : ℤ) (m : ℕ) : Type 0 where
  pub label : Label
  pub okay : T (ok_head label m)
  pub passes : T (p label)
  pub tag : tag_word label m ≡ t
  pub datum : datum_word label ≡ d

module _ (p : Label → Bool) (t d : ℤ) (m : ℕ) where
  pub node_children : Node p t d m → children_if p t d ≡ some m
  node_children n =
      ap (λ (x : ℤ). children_if p x d) (sym n.tag) ∙
      (ap (children_if p (tag_word n.label m)) (sym n.datum) ∙
      (ap (λ (o : Option (Label × ℕ)). o >>= λ y. provided (p y.0) y.1) (read_node_lem n.label m n.okay) ∙ provided_true (p n.label) m n.passes))

  pub children_node : children_if p t d ≡ some m → Node p t d m
  children_node e =
      let c = came (read_node t d) (λ n. provided (p n.0) n.1) m e in
      let r = node_read t d c.0 c.1 in
      let w = provided_some (p c.0.0) c.0.1 m c.2 in
      record {
        label = c.0.0;
        okay = subst (λ (k : ℕ). T (ok_head c.0.0 k)) w.1 r.0;
        passes = w.0;
        tag = subst (λ (k : ℕ). tag_word c.0.0 k ≡ t) w.1 r.1;
        datum = r.2;
      }

-- two words that are no such node's
pub no_node : (p : Label → Bool) (t d : ℤ) → ((m : ℕ) → Node p t d m → ⊥) → children_if p t d ≡ none
no_node p t d f = pick (children_if p t d) refl
  where
    pick : (o : Option ℕ) → children_if p t d ≡ o → o ≡ none
    pick none e = refl
    pick (some m) e = absurd (f m (children_node p t d m e))

-- ---- the child count that the two words say
module _ {p : Label → Bool} {t d : ℤ} {m : ℕ} (n : Node p t d m) where
  pub count_is : m ≡ children_of t d
  unfolding children_of
  count_is = sym (children_right n.label m n.okay) ∙ ap₂ children_at n.tag n.datum

  -- what the node has, by its role
  pub role_is : NodeIs (role n.label) t d m
  role_is = subst₂ (λ (x y : ℤ). NodeIs (role n.label) x y m) n.tag n.datum (node_is n.label m n.okay)

  pub few : m ≤ max_children
  few = few_children n.label m n.okay

-- a ground node's, without asking whether it is a call
pub ground_count : (t d : ℤ) (m : ℕ) → Node ground_label t d m → m ≡ plain_children t d
ground_count t d m n = pick (role n.label) n.passes (role_is n)
  where
    pick : (r : Role) → T (ground_at r) → NodeIs r t d m → m ≡ plain_children t d
    pick (a_variable v) g x = absurd g
    pick (a_call c) g x = absurd g
    pick plain g x = x.count

-- the same as what a walk reads
pub any_count : (p : Label → Bool) (t d : ℤ) → WalkedNode p t d → children_if p t d ≡ some (children_of t d)
any_count p t d w = w.is ∙ ap {B = Option ℕ} some (count_is (children_node p t d w.count w.is))

pub plain_count : (t d : ℤ) → WalkedNode ground_label t d → children_if ground_label t d ≡ some (plain_children t d)
plain_count t d w = w.is ∙ ap {B = Option ℕ} some (ground_count t d w.count (children_node ground_label t d w.count w.is))

-- a node that is no dictionary: its tag alone says its child count, which is small
tag_count : (l : Label) (k : ℕ) → T (ok_head l k) → T (tagged_label l) → k ≡ tag_children (tag_word l k)
unfolding tag_children
tag_count error k x g = let e = eqb→eq k 0 x in omega arith
tag_count (truth b) k x g = let e = eqb→eq k 0 x in omega arith
tag_count (whole z) k x g = let e = eqb→eq k 0 x in omega arith
tag_count (variable v) k x g = absurd g
tag_count (call c) k x g = absurd g
tag_count (symbol s) k x g = omega arith
tag_count (dictionary n) k x g = absurd g

tag_few : (l : Label) (k : ℕ) → T (ok_head l k) → T (tagged_label l) → k ≤ 7
tag_few error k x g = let e = eqb→eq k 0 x in omega arith
tag_few (truth b) k x g = let e = eqb→eq k 0 x in omega arith
tag_few (whole z) k x g = let e = eqb→eq k 0 x in omega arith
tag_few (variable v) k x g = absurd g
tag_few (call c) k x g = absurd g
tag_few (symbol s) k x g = leb→le k 7 (and_right (ltb s symbols) (leb k 7) x)
tag_few (dictionary n) k x g = absurd g

pub tagged_count : (t d : ℤ) (m : ℕ) → Node tagged_label t d m → m ≡ tag_children t
tagged_count t d m n = tag_count n.label m n.okay n.passes ∙ ap tag_children n.tag

pub tagged_few : (t d : ℤ) (m : ℕ) → Node tagged_label t d m → m ≤ 7
tagged_few t d m n = tag_few n.label m n.okay n.passes

pub tagged_other : (t d : ℤ) (m : ℕ) → Node tagged_label t d m → t ≡ pos dictionary_tag → ⊥
tagged_other t d m n e = let h = dictionary_tag_lem n.label m n.okay (n.tag ∙ e) in subst (λ (l : Label). T (tagged_label l)) h.1.label n.passes

-- any plain node but a dictionary
pub plain_by_tag : (t d : ℤ) → (t ≡ pos dictionary_tag → ⊥) → tag_children t ≡ plain_children t d
unfolding plain_children tag_children
plain_by_tag (pos t) d f = sym (ap (λ (b : Bool). cond b (2 * nat_abs d) (t - symbol_tag)) (ne_eqb t dictionary_tag (λ e. f (ap pos e))))
plain_by_tag (negsuc t) d f = refl

-- a test that passes less
pub weaker : (p q : Label → Bool) → ((l : Label) → T (p l) → T (q l)) → {t d : ℤ} {m : ℕ} → Node p t d m → Node q t d m
weaker p q f n = record { label = n.label; okay = n.okay; passes = f n.label n.passes; tag = n.tag; datum = n.datum }

pub tagged_ground : (l : Label) → T (tagged_label l) → T (ground_label l)
tagged_ground error x = tt
tagged_ground (truth b) x = tt
tagged_ground (whole z) x = tt
tagged_ground (variable v) x = absurd x
tagged_ground (call c) x = absurd x
tagged_ground (symbol s) x = tt
tagged_ground (dictionary n) x = absurd x

-- two words that are a node's, whatever its label passes
pub node_words : (p : Label → Bool) (t d : ℤ) (m : ℕ) → children_if p t d ≡ some m → NodeWords t d
node_words p t d m e = record { count = m; is = node_children any_label t d m (weaker p any_label (λ l x. tt) (children_node p t d m e)) }

-- a dictionary's words
pub dictionary_words : (t d : ℤ) → NodeWords t d → t ≡ pos dictionary_tag → (n : ℕ) × (d ≡ pos n) × (n ≤ max_entries)
dictionary_words t d w e =
    let n = children_node any_label t d w.count w.is in
    let h = dictionary_tag_lem n.label w.count n.okay (n.tag ∙ e) in
    (h.0, sym n.datum ∙ ap datum_word h.1.label, h.1.few)

-- a node with m children stands at a place
pub record NodeAt (p : Label → Bool) (s : List ℤ) (i m : ℕ) : Type 0 where
  pub children : children_if p (get_or s i (pos 0)) (get_or s (i + 1) (pos 0)) ≡ some m
  pub bounded : m ≤ max_children

pub node_at : (p : Label → Bool) (s : List ℤ) (i m : ℕ) → children_if p (get_or s i (pos 0)) (get_or s (i + 1) (pos 0)) ≡ some m → NodeAt p s i m
node_at p s i m e = record { children = e; bounded = few (children_node p (get_or s i (pos 0)) (get_or s (i + 1) (pos 0)) m e) }
