-- One turn of the walk over a left and a configuration, over terms: what it finds keeps the outcome of the match.
use Rattle.std.specs.Prelude.{Some, None}
use mathlib.Core.Path.{◌≡◌, refl, sym, ◌∙◌, ap, subst}
use mathlib.Core.Bool.{Bool, true, false}
use mathlib.Core.Option.{Option, none, some, some-injective}
use mathlib.Core.List.{List, [], ◌∷◌, ◌++◌}
use Prim.Native.Nat.{ℕ, ◌+◌, ◌<◌, ◌≤◌}
use native.Mathlib.Nat.{add-zero}
use native.Mathlib.Omega.{arith}
use lib.Dec.{T}
use lib.IntN.{ℤ, pos}
use lib.ListN.{length, get_or, length-append}
use mir.Syntax.{w64}
use mir.Val.{SFits, of_z}
use Rattle.term.proofs.SignedLaw.{same_bits}
use Rattle.minuska.specs.Term.{Label, Forest, nil, node, Term, single, term_count, Role, a_variable, a_call, plain, role, ground_at}
use Rattle.minuska.specs.Computed.Read.{read_node, variable_tag}
use Rattle.minuska.specs.Word.{tag_word, datum_word, ok_head, ok, encode}
use Rattle.minuska.specs.Satisfaction.{Valuation}
use Rattle.minuska.specs.Rule.{symbolic_at}
use Rattle.minuska.specs.Bridge.Place.{Stands, GroundAt, GroundEnds}
use Rattle.minuska.proofs.NodeLaw.{NodeIs, node_is}
use Rattle.minuska.proofs.WordLaw.{read_node_lem, childless, okay, okay_all, head_okay, appended, encode_appended}
use Rattle.minuska.proofs.Bridge.PlaceLaw.{stands_word, stands_head, stands_first, stands_second}
use Rattle.minuska.proofs.Bridge.UniqueLaw.{count_unique}
use Rattle.minuska.proofs.Bridge.ShapeLaw.{ok_shapely}
use Rattle.minuska.proofs.Bridge.AppendedLaw.{first_words, appended_count, appended_ok, labels, labels_all, appended_labels}
use Rattle.minuska.specs.Computed.Compare.{Comparison, apart, later, compare}
use Rattle.step.specs.Matching.{Walk, Walking, TurnFrom, LeftTurned}
use Rattle.step.specs.declared.matching.LeftTurn.TheVariants.{Same}
use Rattle.minuska.proofs.CompareLaw.{later_later, same_node, same_node_lem, compare_plain, compare_on}

abbrev pub word : List ℤ → ℕ → ℤ
word ws i = get_or ws i (pos 0)

-- two words with the same bits
pub same_word : {a b : ℤ} → SFits w64 a → SFits w64 b → of_z w64 a ≡ of_z w64 b → a ≡ b
same_word {a} {b} f g e = same_bits a b f g e

-- two nodes in range with the same words have the same label and as many children
node_by_words : (l g : Label) (k m : ℕ) → T (ok_head l k) → T (ok_head g m) → tag_word l k ≡ tag_word g m → datum_word l ≡ datum_word g → (l ≡ g) × (k ≡ m)
node_by_words l g k m x y p q =
    let e : Path (Label × ℕ) (l, k) (g, m) =
    some-injective (l, k) (g, m) (sym (read_node_lem l k x) ∙ (ap (λ (t : ℤ). read_node t (datum_word l)) p ∙ (ap (read_node (tag_word g m)) q ∙ read_node_lem g m y))) in
    (ap (λ (z : Label × ℕ). z.0) e, ap (λ (z : Label × ℕ). z.1) e)

-- a left's label is a variable's, with its tag, or plain
symbolic_plain : (l : Label) (k : ℕ) → T (ok_head l k) → T (symbolic_at (role l)) → (tag_word l k ≡ pos variable_tag → ⊥) → role l ≡ plain
symbolic_plain l k x s f = pick (role l) refl s (node_is l k x)
  where
    pick : (r : Role) → role l ≡ r → T (symbolic_at r) → NodeIs r (tag_word l k) (datum_word l) k → role l ≡ plain
    pick (a_variable v) q s n = absurd (f n.tag)
    pick (a_call c) q s n = absurd s
    pick plain q s n = q

-- no words, no terms
no_words : (f : Forest) → length (encode f) ≡ 0 → term_count f ≡ 0
no_words nil e = refl
no_words (node l cs ss) e = absurd (let f : ⊥ = omega (arith, e) in f)

-- ---- a node of each before its rest
module _ {table : List ℤ} {end : ℕ} {config : List ℤ} {i j : ℕ} {starts ends : List ℕ} {n : ℕ} {o : Comparison} where
  -- a variable whose end is not 0 is bound
  pub has_part : {f g : Forest} {σ : Valuation} → Walk table end config n i j starts ends f g σ o → (v : ℕ) → (get_or ends v 0 ≡ 0 → ⊥) → (s : Term) × (σ v ≡ some s)
  has_part {f} {g} {σ} w v z = pick (σ v) refl
    where
      pick : (x : Option Term) → σ v ≡ x → (s : Term) × (σ v ≡ some s)
      pick none e = absurd (z (w.free v e))
      pick (some s) e = (s, e)

  -- the walk is at a node of each, unless the left is at its end
  pub heads : {X : Type 0} → Walking table end config n i j starts ends o → i < end → ((l : Label) (ls lss : Forest) (g : Label) (gs gss : Forest) (σ : Valuation) → Walk table end config n i j starts ends (node l ls lss) (node g gs gss) σ o → X) → X
  heads {X} w h go = pick w.lefts w.grounds w.walk
    where
      pick : (f g : Forest) → Walk table end config n i j starts ends f g w.valuation o → X
      pick nil g k = absurd (let e = k.left_ends in let f : ⊥ = omega arith in f)
      pick (node l ls lss) nil k = absurd (let f : ⊥ = omega (arith, k.as_many) in f)
      pick (node l ls lss) (node g gs gss) k = go l ls lss g gs gss w.valuation k

  module _ (l : Label) (ls lss : Forest) (g : Label) (gs gss : Forest) (σ : Valuation) (w : Walk table end config n i j starts ends (node l ls lss) (node g gs gss) σ o) where
    pub left_tag : word table i ≡ tag_word l (term_count ls)
    left_tag = stands_head w.left_stands (pos 0)

    pub left_datum : word table (i + 1) ≡ datum_word l
    left_datum = stands_word w.left_stands 1 (pos 0) (omega arith)

    ground_tag : word config j ≡ tag_word g (term_count gs)
    ground_tag = stands_head w.ground_stands (pos 0)

    ground_datum : word config (j + 1) ≡ datum_word g
    ground_datum = stands_word w.ground_stands 1 (pos 0) (omega arith)

    -- the configuration's term there
    abbrev pub term : Term
    term = record { label = g; children = gs }

    pub words_here : Stands config j (encode (single term) ++ encode gss)
    words_here = subst (Stands config j) (first_words g gs gss) w.ground_stands

    pub good_here : T (ok (single term))
    good_here = let p = okay g gs gss w.ground_good in okay_all g gs nil p.allowed p.children tt

    abbrev pub term_at_lem : GroundAt config j
    term_at_lem =
        let d = labels (λ z. ground_at (role z)) g gs gss w.ground_ground in
        record { term = term; shape = ok_shapely (single term) good_here; grounded = labels_all (λ z. ground_at (role z)) g gs nil d.here d.children tt; stands = stands_first (encode (single term)) (encode gss) words_here }

    -- ---- a plain node
    -- the label is plain, as the tag says
    plain_role : (word table i ≡ pos variable_tag → ⊥) → role l ≡ plain
    plain_role f = symbolic_plain l (term_count ls) (head_okay l ls (okay l ls lss w.left_good).allowed) (labels (λ z. symbolic_at (role z)) l ls lss w.left_symbolic).here (λ p. f (left_tag ∙ p))

    after_same : (word table i ≡ pos variable_tag → ⊥) → word table i ≡ word config j → word table (i + 1) ≡ word config (j + 1) → Walking table end config (n + 1) (i + 2) (j + 2) starts ends o
    after_same f p q =
        let p' : tag_word l (term_count ls) ≡ tag_word g (term_count gs) = sym left_tag ∙ (p ∙ ground_tag) in
        let q' : datum_word l ≡ datum_word g = sym left_datum ∙ (q ∙ ground_datum) in
        let a = okay l ls lss w.left_good in
        let b = okay g gs gss w.ground_good in
        let c = labels (λ z. symbolic_at (role z)) l ls lss w.left_symbolic in
        let d = labels (λ z. ground_at (role z)) g gs gss w.ground_ground in
        let (same, m) = node_by_words l g (term_count ls) (term_count gs) (head_okay l ls a.allowed) (head_okay g gs b.allowed) p' q' in
        let many : term_count (appended ls lss) ≡ term_count (appended gs gss) = omega (arith, w.as_many, appended_count ls lss, appended_count gs gss) in
        let good = appended_ok ls lss a.children a.rest in
        let sound = appended_ok gs gss b.children b.rest in
        let symbolic = appended_labels (λ z. symbolic_at (role z)) ls lss c.children c.rest in
        record {
          lefts = appended ls lss;
          grounds = appended gs gss;
          valuation = σ;
          walk = record {
            left_good = good;
            left_symbolic = symbolic;
            left_stands = rw (encode_appended ls lss) (stands_second (tag_word l (term_count ls) ∷ datum_word l ∷ []) (encode ls ++ encode lss) w.left_stands);
            left_ends = omega (arith, w.left_ends, ap length (encode_appended ls lss));
            ground_good = sound;
            ground_ground = appended_labels (λ z. ground_at (role z)) gs gss d.children d.rest;
            ground_stands = rw (encode_appended gs gss) (stands_second (tag_word g (term_count gs) ∷ datum_word g ∷ []) (encode gs ++ encode gss) w.ground_stands);
            ground_ends = omega (arith, w.ground_ends, ap length (encode_appended gs gss));
            as_many = many;
            binds = w.binds;
            free = w.free;
            outcome =
                sym (later_later n 1 (compare (appended ls lss) (appended gs gss) σ)) ∙
                (ap (later n) (sym (compare_on l ls lss g gs gss σ (plain_role f) same m)) ∙ w.outcome);
          };
        }

    after_other : (word table i ≡ pos variable_tag → ⊥) → (word table i ≡ word config j → word table (i + 1) ≡ word config (j + 1) → ⊥) → o ≡ apart n
    after_other f h = pick (same_node l (term_count ls) g (term_count gs)) refl
      where
        pick : (b : Bool) → same_node l (term_count ls) g (term_count gs) ≡ b → o ≡ apart n
        pick true e =
            let (p, q) = same_node_lem l g (term_count ls) (term_count gs) e in
            absurd (h (left_tag ∙ (ap (λ (z : Label). tag_word z (term_count ls)) p ∙ (ap (tag_word g) q ∙ sym ground_tag))) (left_datum ∙ (ap datum_word p ∙ sym ground_datum)))
        pick false e = sym w.outcome ∙ (ap (later n) (compare_plain l ls lss g gs gss σ (plain_role f) false e) ∙ ap apart (add-zero n))

-- ---- what one turn answers at a plain node
module _ {table : List ℤ} {i end : ℕ} {config : List ℤ} {j : ℕ} {starts ends : List ℕ} (plain : word table i ≡ pos variable_tag → ⊥) where
  pub turned_same : word table i ≡ word config j → word table (i + 1) ≡ word config (j + 1) → LeftTurned table i end config j starts ends (Some Same)
  turned_same p q = record { after = λ n o h w. heads w h (λ l ls lss g gs gss σ k. after_same l ls lss g gs gss σ k plain p q) }

  pub turned_other : (word table i ≡ word config j → word table (i + 1) ≡ word config (j + 1) → ⊥) → LeftTurned table i end config j starts ends None
  turned_other f = record { after = λ n o h w. heads w h (λ l ls lss g gs gss σ k. after_other l ls lss g gs gss σ k plain f) }

-- both have a node's two words there
pub record NodesThere (table : List ℤ) (i : ℕ) (config : List ℤ) (j : ℕ) : Type 0 where
  pub left : i + 2 ≤ length table
  pub grounded : j + 2 ≤ length config

pub room : {table : List ℤ} {i end : ℕ} {config : List ℤ} {j : ℕ} {starts ends : List ℕ} → TurnFrom table i end config j starts ends → NodesThere table i config j
room {table} {i} {end} {config} {j} t = heads t.walking t.before λ l ls lss g gs gss σ k. record { left = omega (arith, k.left_stands.within); grounded = omega (arith, k.ground_stands.within) }

pub ground_at_lem : {table : List ℤ} {i end : ℕ} {config : List ℤ} {j : ℕ} {starts ends : List ℕ} → TurnFrom table i end config j starts ends → GroundAt config j
ground_at_lem t = heads t.walking t.before term_at_lem

-- at the left's last node the configuration's term is all the rest
pub last_ends : {table : List ℤ} {i end : ℕ} {config : List ℤ} {j : ℕ} {starts ends : List ℕ} → TurnFrom table i end config j starts ends → i + 2 ≡ end → GroundEnds config j (length config)
last_ends {table} {i} {end} {config} {j} t last = heads t.walking t.before λ l ls lss g gs gss σ k.
    let x = term_at_lem l ls lss g gs gss σ k in
    let p : length (encode lss) ≡ 0 = omega (arith, k.left_ends, length-append (encode ls) (encode lss)) in
    let n : term_count gss ≡ 0 = omega (arith, no_words lss p, k.as_many) in
    let e : length config ≡ j + length (encode (single x.term)) = subst (λ (f : Forest). length config ≡ j + length (encode (node g gs f))) (childless gss n) k.ground_ends in
    record { ends = λ s good grounded stands. e ∙ ap (λ (y : Forest). j + length (encode y)) (count_unique (single x.term) (single s) x.shape good x.stands stands refl) }
