-- What two words are: a variable, a call, a node of a ground term, or no node.
use mathlib.Core.Path.{◌≡◌, refl, sym, ◌∙◌, ap, subst, subst⁻¹}
use mathlib.Core.Bool.{Bool, true, false, cond, true≢false}
use mathlib.Core.List.{List}
use mathlib.Core.Option.{Option, none, some, none-ne-some, some-injective}
use Prim.Native.Nat.{ℕ, ◌+◌, ◌*◌, ◌≤◌, ◌<◌}
use native.Mathlib.Omega.{arith}
use lib.Dec.{T, eqb, leb, ltb, lt→ltb, le→leb, leb→le, eqb→eq, eqb_refl}
use lib.IntN.{ℤ, pos}
use lib.ListN.{length, get_or}
use Rattle.std.specs.Prelude.{Some, None}
use Rattle.std.specs.Prelude as S
use Rattle.minuska.proofs.Tests.{and_both, and_right}
use Rattle.minuska.proofs.WordLaw.{node_read, read_node_lem}
use Rattle.minuska.proofs.NodeLaw.{NodeIs, node_is, variable_tag_lem, call_tag_lem, dictionary_tag_lem, arity_most, few_children}
use Rattle.minuska.specs.Basics.{◌>>=◌, provided}
use Rattle.minuska.specs.Computed.Read.{number_below, read_node, children_at, max_children, variable_tag, call_tag, dictionary_tag}
use Rattle.minuska.specs.Dictionary.{max_entries}
use Rattle.minuska.specs.Function.{functions, function_at}
use Rattle.minuska.specs.Term.{Label, error, truth, whole, variable, call, symbol, dictionary, Role, role}
use Rattle.minuska.specs.Term as R
use Rattle.minuska.specs.Word.{variables, symbols, ok_head, tag_word, datum_word}
use Rattle.term.specs.TermAt.{NodeWords}
use Rattle.term.specs.TermEnd.{any_label, tagged_label, children_if, children_of, tag_children, TaggedNode}
use Rattle.table.specs.Number.{answered}
use Rattle.table.specs.Node.{Kind, a_variable, a_call, plain, literal, kind, node_as, node_in, node_of, takes_call, takes_variable, admit_node, admitted, plain_functions, known_functions, Simple, Known, NodeAt}
use Rattle.table.specs.Level.{Level, Expression}
use Rattle.table.specs.Below as B
use Rattle.table.specs.declared.node.Node.{Node}
use Rattle.table.specs.declared.node.Node.TheVariants as N
use Rattle.table.proofs.BasicLaw.{never}
use Rattle.table.proofs.NumberLaw.{number_is, number_none}

-- ---- a node's kind says its role
abbrev pub role_of : Kind → Role
role_of (a_variable v) = R.a_variable v
role_of (a_call c) = R.a_call c
role_of plain = R.plain
role_of literal = R.plain

pub role_kind : (l : Label) → role l ≡ role_of (kind l)
role_kind error = refl
role_kind (truth b) = refl
role_kind (whole z) = refl
role_kind (variable v) = refl
role_kind (call c) = refl
role_kind (symbol s) = refl
role_kind (dictionary n) = refl

pub node_kind : (l : Label) (k : ℕ) → T (ok_head l k) → NodeIs (role_of (kind l)) (tag_word l k) (datum_word l) k
node_kind l k x = subst (λ (r : Role). NodeIs r (tag_word l k) (datum_word l) k) (role_kind l) (node_is l k x)

-- two words that are a node
pub record Read (t d : ℤ) (k : ℕ) : Type 0 where
  pub label : Label
  pub read : read_node t d ≡ some (label, k)
  pub in_range : T (ok_head label k)
  pub tag : tag_word label k ≡ t
  pub datum : datum_word label ≡ d

pub node_read_as : (t d : ℤ) (n : Label × ℕ) → read_node t d ≡ some n → Read t d n.1
node_read_as t d n e = let r = node_read t d n e in record { label = n.0; read = e; in_range = r.0; tag = r.1; datum = r.2 }

-- two words that are no node
no_node : (t d : ℤ) → ((n : Label × ℕ) → read_node t d ≡ some n → ⊥) → None ≡ node_of t d
unfolding node_of
no_node t d f = pick (read_node t d) refl
  where
    pick : (o : Option (Label × ℕ)) → read_node t d ≡ o → None ≡ node_in o
    pick none q = refl
    pick (some n) q = absurd (f n q)

-- ---- a variable
pub no_variable : (d : ℤ) → None ≡ answered (number_below variables d) → None ≡ node_of (pos variable_tag) d
no_variable d h =
    no_node (pos variable_tag) d (λ n q.
    let r = node_read (pos variable_tag) d n q in
    let w = variable_tag_lem n.0 n.1 r.0 r.1 in
    number_none variables d h w.0 (sym r.2 ∙ w.2.datum) w.2.small)

pub a_variable_lem : (d : ℤ) (v : ℕ) → Some v ≡ answered (number_below variables d) → Some (N.Variable v) ≡ node_of (pos variable_tag) d
unfolding node_of
a_variable_lem d v h =
    let n = number_is variables d v h in
    sym (ap (λ (z : ℤ). node_in (read_node (pos variable_tag) z)) n.0 ∙ ap node_in (read_node_lem (variable v) 0 (and_both (ltb v variables) true (lt→ltb v variables n.1) tt)))

-- ---- a call
pub no_call_lem : (mixed : Bool) (d : ℤ) → None ≡ answered (number_below (known_functions mixed) d) → mixed ≡ true → None ≡ node_of (pos call_tag) d
no_call_lem mixed d h m =
    no_node (pos call_tag) d (λ n q.
    let r = node_read (pos call_tag) d n q in
    let w = call_tag_lem n.0 n.1 r.0 r.1 in
    number_none (length functions) d (rw m at h) w.0 (sym r.2 ∙ w.2.datum) w.2.small)

code_small : (mixed : Bool) (c : ℕ) → c < known_functions mixed → c < length functions
code_small true c h = h
code_small false c h = omega arith

code_simple : (mixed : Bool) (c : ℕ) → c < known_functions mixed → mixed ≡ false → c < plain_functions
code_simple true c h m = absurd (true≢false m)
code_simple false c h m = h

module _ (mixed : Bool) (d : ℤ) (c : ℕ) (h : Some c ≡ answered (number_below (known_functions mixed) d)) where
  here : d ≡ pos c
  here = (number_is (known_functions mixed) d c h).0

  called : read_node (pos call_tag) (pos c) ≡ some (call c, (function_at c).arity)
  called =
      let m = (function_at c).arity in
      read_node_lem (call c) m (and_both (ltb c (length functions)) (eqb m m) (lt→ltb c (length functions) (code_small mixed c (number_is (known_functions mixed) d c h).1)) (eqb_refl m))

  pub call_words : NodeWords (pos call_tag) d
  call_words = record { count = (function_at c).arity; is = ap (children_if any_label (pos call_tag)) here ∙ ap (λ (o : Option (Label × ℕ)). o >>= λ n. provided true n.1) called }

  pub a_call_lem : Known mixed (pos call_tag) d (Some (N.Call (children_of (pos call_tag) d) c))
  unfolding node_of children_of
  a_call_lem = (
    ap (λ (z : ℤ). Some (N.Call (children_at (pos call_tag) z) c)) here ∙ sym (ap (λ (z : ℤ). node_in (read_node (pos call_tag) z)) here ∙ ap node_in called),
    code_simple mixed c (number_is (known_functions mixed) d c h).1,
  )

-- ---- a dictionary
pub no_dictionary : (d : ℤ) → None ≡ answered (number_below (max_entries + 1) d) → None ≡ node_of (pos dictionary_tag) d
no_dictionary d h =
    no_node (pos dictionary_tag) d (λ n q.
    let r = node_read (pos dictionary_tag) d n q in
    let w = dictionary_tag_lem n.0 n.1 r.0 r.1 in
    let s = w.1.few in
    number_none (max_entries + 1) d h w.0 (sym r.2 ∙ ap datum_word w.1.label) (omega arith))

pub a_dictionary : (d : ℤ) (n : ℕ) → Some n ≡ answered (number_below (max_entries + 1) d) → Some (N.Literal (2 * n)) ≡ node_of (pos dictionary_tag) d
unfolding node_of
a_dictionary d n h =
    let e = number_is (max_entries + 1) d n h in
    let l = e.1 in
    sym (ap (λ (z : ℤ). node_in (read_node (pos dictionary_tag) z)) e.0 ∙
    ap node_in (read_node_lem (dictionary n) (2 * n) (and_both (leb n max_entries) (eqb (2 * n) (2 * n)) (le→leb n max_entries (omega arith)) (eqb_refl (2 * n)))))

-- ---- any other node is a ground term's
pub a_plain : (t d : ℤ) → TaggedNode t d true → Some (N.Plain (tag_children t)) ≡ node_of t d
unfolding node_of
a_plain t d g = pick (read_node t d) g.children
  where
    counted : (j : ℕ) → some j ≡ some (tag_children t) → Some (N.Plain (tag_children t)) ≡ Some (N.Plain j)
    counted j e = ap (λ (n : ℕ). Some (N.Plain n)) (sym (some-injective j (tag_children t) e))

    at : (l : Label) (j : ℕ) → provided (tagged_label l) j ≡ some (tag_children t) → Some (N.Plain (tag_children t)) ≡ Some (node_as (kind l) j)
    at error j e = counted j e
    at (truth b) j e = counted j e
    at (whole z) j e = counted j e
    at (variable v) j e = absurd (none-ne-some (tag_children t) e)
    at (call c) j e = absurd (none-ne-some (tag_children t) e)
    at (symbol s) j e = counted j e
    at (dictionary n) j e = absurd (none-ne-some (tag_children t) e)

    pick : (o : Option (Label × ℕ)) → (o >>= λ n. provided (tagged_label n.0) n.1) ≡ some (tag_children t) → Some (N.Plain (tag_children t)) ≡ node_in o
    pick none e = absurd (none-ne-some (tag_children t) e)
    pick (some n) e = at n.0 n.1 e

untagged : (l : Label) (k : ℕ) → provided (tagged_label l) k ≡ none → (tag_word l k ≡ pos variable_tag → ⊥) → (tag_word l k ≡ pos call_tag → ⊥) → (tag_word l k ≡ pos dictionary_tag → ⊥) → ⊥
untagged error k e f g h = none-ne-some k (sym e)
untagged (truth b) k e f g h = none-ne-some k (sym e)
untagged (whole z) k e f g h = none-ne-some k (sym e)
untagged (variable v) k e f g h = f refl
untagged (call c) k e f g h = g refl
untagged (symbol s) k e f g h = none-ne-some k (sym e)
untagged (dictionary n) k e f g h = h refl

pub no_plain : (t d : ℤ) → TaggedNode t d false → (t ≡ pos variable_tag → ⊥) → (t ≡ pos call_tag → ⊥) → (t ≡ pos dictionary_tag → ⊥) → None ≡ node_of t d
no_plain t d g f h i =
    no_node t d (λ n q.
    let r = node_read t d n q in
    let e = sym (ap (λ (o : Option (Label × ℕ)). o >>= λ n. provided (tagged_label n.0) n.1) q) ∙ g.children in
    untagged n.0 n.1 e (λ e. f (sym r.1 ∙ e)) (λ e. h (sym r.1 ∙ e)) (λ e. i (sym r.1 ∙ e)))

-- ---- a variable and a dictionary are known to every walk that looks for them
simple_read : (t d : ℤ) (n : Node) → Some n ≡ node_of t d → (t ≡ pos call_tag → ⊥) → (t ≡ pos dictionary_tag → ⊥) → Simple n
unfolding node_of
simple_read t d n e f g = pick (read_node t d) refl e
  where
    at : (l : Label) (k : ℕ) → (tag_word l k ≡ pos call_tag → ⊥) → (tag_word l k ≡ pos dictionary_tag → ⊥) → Simple (node_as (kind l) k)
    at error k f g = tt
    at (truth b) k f g = tt
    at (whole z) k f g = tt
    at (variable v) k f g = tt
    at (call c) k f g = absurd (f refl)
    at (symbol s) k f g = tt
    at (dictionary n) k f g = absurd (g refl)

    pick : (o : Option (Label × ℕ)) → read_node t d ≡ o → Some n ≡ node_in o → Simple n
    pick none q h = absurd (never (cc))
    pick (some m) q h =
        let r = node_read t d m q in
        let p : n ≡ node_as (kind m.0) m.1 = cc in
        subst⁻¹ Simple p (at m.0 m.1 (λ x. f (sym r.1 ∙ x)) (λ x. g (sym r.1 ∙ x)))

pub known : (mixed : Bool) (t d : ℤ) (r : S.Option Node) → r ≡ node_of t d → (mixed ≡ false → t ≡ pos call_tag → ⊥) → (mixed ≡ false → t ≡ pos dictionary_tag → ⊥) → Known mixed t d r
known mixed t d None e f g = λ m. e
known mixed t d (Some n) e f g = (e, λ m. simple_read t d n e (f m) (g m))

-- ---- a node that is no dictionary has another tag
abbrev pub MayHave : S.Option Node → Type 0
MayHave (Some (N.Plain k)) = ⊥
MayHave (Some (N.Call k c)) = ⊥
MayHave (Some (N.Variable v)) = ⊥
MayHave (Some (N.Literal k)) = Unit {0}
MayHave None = Unit {0}

words_other : (t d : ℤ) (n : S.Option Node) → n ≡ node_of t d → t ≡ pos dictionary_tag → MayHave n
unfolding node_of
words_other t d n e q = subst⁻¹ MayHave e (pick (read_node t d) refl)
  where
    pick : (o : Option (Label × ℕ)) → read_node t d ≡ o → MayHave (node_in o)
    pick none p = tt
    pick (some m) p =
        let r = node_read t d m p in
        let w = dictionary_tag_lem m.0 m.1 r.0 (r.1 ∙ q) in
        subst⁻¹ (λ (l : Label). MayHave (Some (node_as (kind l) m.1))) w.1.label tt

-- the number of children is the one that the two words say
module _ (l : Level) (seen : List Bool) (b : Level) (k : ℕ) where
  chosen : (c : Bool) (x : Level) (j : ℕ) → cond c (B.Are x j) B.Bad ≡ B.Are b k → j ≡ k
  chosen true x j e = let p : j ≡ k = cc in p
  chosen false x j e = absurd (never (cc))

  count_is : (r : Kind) (t d : ℤ) (j : ℕ) → NodeIs (role_of r) t d j → admit_node l seen (Some (node_as r j)) ≡ B.Are b k → j ≡ k
  count_is (a_variable v) t d j n e = n.childless ∙ chosen (takes_variable l (get_or seen v false)) l 0 e
  count_is (a_call c) t d j n e = chosen (takes_call l c) Expression j e
  count_is plain t d j n e = let p : j ≡ k = cc in p
  count_is literal t d j n e = let p : j ≡ k = cc in p

  pub admitted_read : (t d : ℤ) → admitted l t d seen ≡ B.Are b k → Read t d k
  unfolding admitted node_of
  admitted_read t d e = pick (read_node t d) refl e
    where
      pick : (o : Option (Label × ℕ)) → read_node t d ≡ o → admit_node l seen (node_in o) ≡ B.Are b k → Read t d k
      pick none q h = absurd (never (cc))
      pick (some n) q h = subst (Read t d) (count_is (kind n.0) (tag_word n.0 n.1) (datum_word n.0) n.1 (node_kind n.0 n.1 (node_read t d n q).0) h) (node_read_as t d n q)

  pub admitted_few : (t d : ℤ) → admitted l t d seen ≡ B.Are b k → k ≤ max_children
  admitted_few t d e = let r = admitted_read t d e in few_children r.label k r.in_range

-- a symbol and a call have few of them
abbrev pub Few : S.Option Node → Type 0
Few (Some (N.Plain k)) = k ≤ 7
Few (Some (N.Call k c)) = k ≤ 7
Few (Some (N.Variable v)) = Unit {0}
Few (Some (N.Literal k)) = Unit {0}
Few None = Unit {0}

few_at : (l : Label) (k : ℕ) → T (ok_head l k) → Few (Some (node_as (kind l) k))
few_at error k x = let e = eqb→eq k 0 x in omega arith
few_at (truth b) k x = let e = eqb→eq k 0 x in omega arith
few_at (whole z) k x = let e = eqb→eq k 0 x in omega arith
few_at (variable v) k x = tt
few_at (call c) k x = let e = (node_is (call c) k x).arity in let m = arity_most 7 tt c in omega arith
few_at (symbol s) k x = leb→le k 7 (and_right (ltb s symbols) (leb k 7) x)
few_at (dictionary n) k x = tt

words_few : (t d : ℤ) (n : S.Option Node) → n ≡ node_of t d → Few n
unfolding node_of
words_few t d n e = subst⁻¹ Few e (pick (read_node t d) refl)
  where
    pick : (o : Option (Label × ℕ)) → read_node t d ≡ o → Few (node_in o)
    pick none p = tt
    pick (some m) p = few_at m.0 m.1 (node_read t d m p).0

-- a variable's number is a flag's
words_small : (t d : ℤ) (v : ℕ) → Some (N.Variable v) ≡ node_of t d → v < variables
unfolding node_of
words_small t d v e = pick (read_node t d) refl e
  where
    at : (r : Kind) (x y : ℤ) (k : ℕ) → NodeIs (role_of r) x y k → Some (N.Variable v) ≡ Some (node_as r k) → v < variables
    at (a_variable w) x y k n h = let p : v ≡ w = cc in let q = n.small in omega arith
    at (a_call c) x y k n h = absurd (never (cc))
    at plain x y k n h = absurd (never (cc))
    at literal x y k n h = absurd (never (cc))

    pick : (o : Option (Label × ℕ)) → read_node t d ≡ o → Some (N.Variable v) ≡ node_in o → v < variables
    pick none q h = absurd (never (cc))
    pick (some n) q h = at (kind n.0) (tag_word n.0 n.1) (datum_word n.0) n.1 (node_kind n.0 n.1 (node_read t d n q).0) h

-- ---- the same of a node at a place
module _ {ws : List ℤ} {i : ℕ} where
  pub node_other : {n : Node} → NodeAt ws i n → get_or ws i (pos 0) ≡ pos dictionary_tag → MayHave (Some n)
  node_other {n} h q = words_other (get_or ws i (pos 0)) (get_or ws (i + 1) (pos 0)) (Some n) h.is q

  pub node_few : {n : Node} → NodeAt ws i n → Few (Some n)
  node_few {n} h = words_few (get_or ws i (pos 0)) (get_or ws (i + 1) (pos 0)) (Some n) h.is

  pub number_small : {v : ℕ} → NodeAt ws i (N.Variable v) → v < variables
  number_small {v} h = words_small (get_or ws i (pos 0)) (get_or ws (i + 1) (pos 0)) v h.is
