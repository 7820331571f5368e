-- The subterm at a place stands at word 2 × place of the words; there is none exactly if the place is not below the node count. And the contract.
use mathlib.Core.Path.{◌≡◌, refl, sym, ◌∙◌, ap, subst}
use mathlib.Core.Bool.{Bool, ◌&&◌}
use mathlib.Core.Option.{Option, none, some, none-ne-some}
use mathlib.Core.List.{List, [], ◌∷◌, ◌++◌, append_assoc, append-nil}
use Prim.Native.Nat.{ℕ, zero, suc, ◌+◌, ◌-◌, ◌*◌, ◌≤◌, ◌<◌}
use native.Mathlib.Decide.{dec_lt}
use native.Mathlib.Omega.{arith}
use lib.Dec.{T}
use lib.IntN.{ℤ}
use lib.ListN.{length, take, drop, length-append}
use lib.Seq.{take_at, drop_at}
use Rattle.minuska.specs.Basics.{◌>>=◌}
use Rattle.minuska.specs.Subterm.{or_else, subterm_at}
use Rattle.minuska.specs.Term.{Label, Forest, nil, node, Term, single, term_count, nodes, node_count, every_label, ground_at, role, is_ground}
use Rattle.minuska.specs.Word.{tag_word, datum_word, ok, encode}
use Rattle.minuska.specs.Rule.{IsConfiguration}
use Rattle.minuska.specs.Contract.{SubtermContract}
use Rattle.minuska.specs.Bridge.Place.{Stands}
use Rattle.minuska.specs.Computed.Read.{read_configuration}
use Rattle.minuska.specs.Computed.Outcome.{term_words, subterm_words}
use Rattle.minuska.proofs.Tests.{and_both, and_parts}
use Rattle.minuska.proofs.WordLaw.{okay, okay_all, encode_length}
use Rattle.minuska.proofs.ConfigurationLaw.{read_configuration_iff}
use Rattle.minuska.proofs.Bridge.PartLaw.{configuration_good}
use Rattle.minuska.proofs.Bridge.AcceptedLaw.{configuration_length}

-- ---- in a list of terms
-- what stands before the subterm's words and behind them; and the subterm keeps what every node of the list has
pub record SubtermIn (f : Forest) (i : ℕ) : Type 0 where
  pub term : Term
  pub is : subterm_at f i ≡ some term
  pub before : List ℤ
  pub behind : List ℤ
  pub words : before ++ (encode (single term) ++ behind) ≡ encode f
  pub starts : length before ≡ 2 * i
  pub good : T (ok f) → T (ok (single term))
  pub labels : (p : Label → Bool) → T (every_label p f) → T (every_label p (single term))

pub subterm_none : (f : Forest) (i : ℕ) → nodes f ≤ i → subterm_at f i ≡ none
subterm_none nil i h = refl
subterm_none (node l cs ss) zero h = absurd (let f : ⊥ = omega arith in f)
subterm_none (node l cs ss) (suc i) h =
    ap (λ (o : Option Term). or_else o (subterm_at ss (i - nodes cs))) (subterm_none cs i (omega arith)) ∙ subterm_none ss (i - nodes cs) (omega arith)

-- a test of every label, part by part
every_cases : (p : Label → Bool) (l : Label) (cs ss : Forest) → T (every_label p (node l cs ss)) → T (p l) × T (every_label p cs) × T (every_label p ss)
every_cases p l cs ss = and_parts (p l) (every_label p cs) (every_label p ss)

pub subterm_in : (f : Forest) (i : ℕ) → i < nodes f → SubtermIn f i
subterm_in nil i h = absurd (let f : ⊥ = omega arith in f)
subterm_in (node l cs ss) zero h =
    record {
      term = record { label = l; children = cs };
      is = refl;
      before = [];
      behind = encode ss;
      words = ap (λ (v : List ℤ). tag_word l (term_count cs) ∷ datum_word l ∷ (v ++ encode ss)) (append-nil (encode cs));
      starts = refl;
      good = λ x. let o = okay l cs ss x in okay_all l cs nil o.allowed o.children tt;
      labels = λ p x. let o = every_cases p l cs ss x in and_both (p l && every_label p cs) (every_label p nil) (and_both (p l) (every_label p cs) o.0 o.1) tt;
    }
subterm_in (node l cs ss) (suc i) h = pick (dec_lt i (nodes cs)) (subterm_in cs i) (subterm_in ss (i - nodes cs))
  where
    pick : Dec (i < nodes cs) → (i < nodes cs → SubtermIn cs i) → (i - nodes cs < nodes ss → SubtermIn ss (i - nodes cs)) → SubtermIn (node l cs ss) (suc i)
    pick (yes k) f g =
        let s = f k in
        record {
          term = s.term;
          is = ap (λ (o : Option Term). or_else o (subterm_at ss (i - nodes cs))) s.is;
          before = tag_word l (term_count cs) ∷ datum_word l ∷ s.before;
          behind = s.behind ++ encode ss;
          words = ap (λ (v : List ℤ). tag_word l (term_count cs) ∷ datum_word l ∷ v) (sym (simp append_assoc) ∙ ap (λ (v : List ℤ). v ++ encode ss) s.words);
          starts = omega (arith, s.starts);
          good = λ x. s.good (okay l cs ss x).children;
          labels = λ p x. s.labels p (every_cases p l cs ss x).1;
        }
    pick (no k) f g =
        let s = g (omega (arith, k)) in
        record {
          term = s.term;
          is = ap (λ (o : Option Term). or_else o (subterm_at ss (i - nodes cs))) (subterm_none cs i (omega (arith, k))) ∙ s.is;
          before = tag_word l (term_count cs) ∷ datum_word l ∷ (encode cs ++ s.before);
          behind = s.behind;
          words = ap (λ (v : List ℤ). tag_word l (term_count cs) ∷ datum_word l ∷ v) (append_assoc (encode cs) s.before (encode (single s.term) ++ s.behind) ∙ ap (λ (v : List ℤ). encode cs ++ v) s.words);
          starts = omega (arith, k, s.starts, length-append (encode cs) s.before, encode_length cs);
          good = λ x. s.good (okay l cs ss x).rest;
          labels = λ p x. s.labels p (every_cases p l cs ss x).2;
        }

-- ---- in a configuration
pub record ConfigurationSubterm (config : List ℤ) (g : Term) (place : ℕ) : Type 0 where
  pub term : Term
  pub is : subterm_at (single g) place ≡ some term
  pub good : T (ok (single term))
  pub grounded : T (is_ground (single term))
  pub stands : Stands config (2 * place) (encode (single term))

pub configuration_subterm : (config : List ℤ) (g : Term) (place : ℕ) → IsConfiguration config g → place < node_count g → ConfigurationSubterm config g place
configuration_subterm config g place c h =
    let s = subterm_in (single g) place (omega arith) in
    let parts = configuration_good g c.accepted in
    let xs = encode (single s.term) in
    let split : drop (2 * place) config ≡ xs ++ s.behind = ap (drop (2 * place)) (sym (s.words ∙ c.words)) ∙ drop_at s.before (xs ++ s.behind) (2 * place) s.starts in
    record {
      term = s.term;
      is = s.is;
      good = s.good parts.good;
      grounded = s.labels (λ l. ground_at (role l)) parts.grounded;
      stands = record {
        words = ap (take (length xs)) split ∙ take_at xs s.behind (length xs) refl;
        within = omega (arith, ap length (s.words ∙ c.words), length-append s.before (xs ++ s.behind), length-append xs s.behind, s.starts);
      };
    }

-- ---- the answer
module _ (config : List ℤ) (place : ℕ) where
  pub subterm_some : (g t : Term) → IsConfiguration config g → subterm_at (single g) place ≡ some t → subterm_words config place ≡ encode (single t)
  unfolding subterm_words
  subterm_some g t c e = ap (λ (o : Option Term). term_words (o >>= λ h. subterm_at (single h) place)) ((read_configuration_iff config g).1 c) ∙ ap term_words e

  pub subterm_no_node : (g : Term) → IsConfiguration config g → subterm_at (single g) place ≡ none → subterm_words config place ≡ []
  unfolding subterm_words
  subterm_no_node g c e = ap (λ (o : Option Term). term_words (o >>= λ h. subterm_at (single h) place)) ((read_configuration_iff config g).1 c) ∙ ap term_words e

  pub subterm_malformed : ((g : Term) → IsConfiguration config g → ⊥) → subterm_words config place ≡ []
  unfolding subterm_words
  subterm_malformed f = pick (read_configuration config) refl
    where
      pick : (o : Option Term) → read_configuration config ≡ o → term_words (o >>= λ h. subterm_at (single h) place) ≡ []
      pick none e = refl
      pick (some g) e = absurd (f g ((read_configuration_iff config g).0 e))

  -- a place that is not below the node count, whatever the words are
  pub subterm_past : length config < 2 * place + 2 → subterm_words config place ≡ []
  unfolding subterm_words
  subterm_past h = pick (read_configuration config) refl
    where
      pick : (o : Option Term) → read_configuration config ≡ o → term_words (o >>= λ h. subterm_at (single h) place) ≡ []
      pick none e = refl
      pick (some g) e =
          let n = configuration_length config g ((read_configuration_iff config g).0 e) in
          ap term_words (subterm_none (single g) place (omega arith))

  -- the answer is a part from word 2 × place on
  Part : List ℤ → Type 0
  Part xs = xs ≡ take (length xs) (drop (2 * place) config)

  subterm_part : Part (subterm_words config place)
  unfolding Part
  subterm_part = pick (read_configuration config) refl
    where
      node_or_not : (g : Term) → IsConfiguration config g → Dec (place < node_count g) → Part (subterm_words config place)
      node_or_not g c (no h) = subst Part (sym (subterm_no_node g c (subterm_none (single g) place (omega (arith, h))))) refl
      node_or_not g c (yes h) = let s = configuration_subterm config g place c h in subst Part (sym (subterm_some g s.term c s.is)) (sym s.stands.words)

      pick : (o : Option Term) → read_configuration config ≡ o → Part (subterm_words config place)
      pick none e = subst Part (sym (subterm_malformed (λ g c. none-ne-some g (sym e ∙ (read_configuration_iff config g).1 c)))) refl
      pick (some g) e = node_or_not g ((read_configuration_iff config g).0 e) (dec_lt place (node_count g))

  -- A PART WITH THE WORDS OF THE ANSWER meets the contract
  pub subterm_contract : (r : List ℤ) → r ≡ subterm_words config place → SubtermContract config place r
  unfolding Part
  subterm_contract r e =
      record {
        answer = e;
        part = subst Part (sym e) subterm_part;
        term = λ g t c i. e ∙ subterm_some g t c i;
        no_node = λ g c i. e ∙ subterm_no_node g c i;
        malformed = λ f. e ∙ subterm_malformed f;
      }
