-- A right's and a condition's walk, by the flags of a left: what passes is what an accepted rule has there.
use mathlib.Core.Path.{◌≡◌, refl, sym, ◌∙◌, ap, subst⁻¹}
use mathlib.Core.Bool.{Bool, ◌&&◌}
use mathlib.Core.Option.{Option, none, some, none-ne-some, some-injective}
use mathlib.Core.List.{List, [], ◌∷◌, ◌++◌}
use Prim.Native.Nat.{ℕ, zero, suc, ◌+◌}
use native.Mathlib.Omega.{arith}
use lib.Dec.{T, leb, le→leb}
use lib.IntN.{ℤ}
use lib.ListN.{length, drop, length-append}
use Rattle.minuska.specs.Basics.{◌>>=◌, every}
use Rattle.minuska.specs.Term.{Term, single, node_count}
use Rattle.minuska.specs.Word.{ok, encode}
use Rattle.minuska.specs.Satisfaction.{SideCondition}
use Rattle.minuska.specs.Rule.{is_expression, covers, ok_term, ok_condition, condition_words}
use Rattle.minuska.specs.Computed.Read.{read_term, read_conditions}
use Rattle.minuska.proofs.Tests.{came, and_left, and_right, and_both, provided_some, provided_true}
use Rattle.minuska.proofs.Good.{GoodTerm, GoodCondition, good_condition}
use Rattle.table.specs.Level.{Level, Expression}
use Rattle.table.specs.Walk.{part_end, part_seen}
use Rattle.table.specs.Rule.{conditions_end}
use Rattle.table.proofs.PartLaw.{part_found, part_missed}
use Rattle.table.proofs.TestLaw.{Inner, shape, Knows, scan_tests}

-- a term of a level, over the variables of a left, between two places
pub record Passed (ws : List ℤ) (at : ℕ) (l : Level) (left : Term) (e : ℕ) : Type 0 where
  pub term : Term
  pub read : read_term (drop at ws) ≡ some (term, drop e ws)
  pub ends : e ≡ at + length (encode (single term))
  pub okay : T (ok_term term)
  pub shaped : T (shape l (single term))
  pub covered : T (covers (single left) (single term))

module _ (ws : List ℤ) (seen : List Bool) (left : Term) (knows : Knows seen (single left)) where
  module _ (at : ℕ) (l : Level) (i : Inner l) where
    pub passed : (e : ℕ) → part_end ws at l seen ≡ some e → Passed ws at l left e
    passed e h =
        let p = part_found ws at l seen e h in
        let t = single p.term in
        let w = provided_some (shape l t && covers (single left) t) seen (part_seen ws at l seen) (sym (scan_tests seen (single left) knows t p.in_range l i) ∙ p.scanned) in
        record {
          term = p.term;
          read = p.read;
          ends = p.ends;
          okay = and_both (ok t) (leb (node_count p.term) 512) p.in_range (le→leb (node_count p.term) 512 p.small);
          shaped = and_left (shape l t) (covers (single left) t) w.0;
          covered = and_right (shape l t) (covers (single left) t) w.0;
        }

    pub not_passed : part_end ws at l seen ≡ none → (p : Term × List ℤ) → read_term (drop at ws) ≡ some p → GoodTerm p.0 → T (shape l (single p.0)) → T (covers (single left) (single p.0)) → ⊥
    not_passed h p q g s c =
        let t = single p.0 in
        let b = shape l t && covers (single left) t in
        part_missed ws at l seen h p q g.small seen
        (scan_tests seen (single left) knows t g.in_range l i ∙ provided_true b seen (and_both (shape l t) (covers (single left) t) s c))

-- ---- conditions
abbrev Read : Type 0
Read = List SideCondition × List ℤ

abbrev condition : Term → Term → SideCondition
condition s t = record { first = s; second = t }

abbrev more_then : SideCondition → Read → Option Read
more_then c r = some (c ∷ r.0, r.1)

abbrev second_then : ℕ → Term → Term × List ℤ → Option Read
second_then k s q = read_conditions k q.1 >>= more_then (condition s q.0)

abbrev first_then : ℕ → Term × List ℤ → Option Read
first_then k p = read_term p.1 >>= second_then k p.0

pub record Conditions (ws : List ℤ) (k at : ℕ) (left : Term) (e : ℕ) : Type 0 where
  pub conditions : List SideCondition
  pub read : read_conditions k (drop at ws) ≡ some (conditions, drop e ws)
  pub ends : e ≡ at + length (condition_words conditions)
  pub okay : T (every (ok_condition left) conditions)
  pub count : length conditions ≡ k

okay_condition : (left s t : Term) → T (ok_term s) → T (ok_term t) → T (is_expression (single s)) → T (is_expression (single t)) → T (covers (single left) (single s)) → T (covers (single left) (single t)) → T (ok_condition left (condition s t))
okay_condition left s t x₁ x₂ x₃ x₄ x₅ x₆ =
    let t₁ = ok_term s in
    let t₂ = ok_term t in
    let t₃ = is_expression (single s) in
    let t₄ = is_expression (single t) in
    let t₅ = covers (single left) (single s) in
    let t₆ = covers (single left) (single t) in
    and_both (t₁ && t₂ && t₃ && t₄ && t₅) t₆ (and_both (t₁ && t₂ && t₃ && t₄) t₅ (and_both (t₁ && t₂ && t₃) t₄ (and_both (t₁ && t₂) t₃ (and_both t₁ t₂ x₁ x₂) x₃) x₄) x₅) x₆

module _ (ws : List ℤ) (seen : List Bool) (left : Term) (knows : Knows seen (single left)) where
  pub conditions_found : (k at e : ℕ) → conditions_end k ws seen at ≡ some e → Conditions ws k at left e
  conditions_found zero at e h =
      let q = some-injective at e h in
      record { conditions = []; read = ap (λ (n : ℕ). some ([], drop n ws)) q; ends = omega arith; okay = tt; count = refl }
  conditions_found (suc k) at e h =
      let c = came (part_end ws at Expression seen) (λ m. part_end ws m Expression seen >>= λ n. conditions_end k ws seen n) e h in
      let d = came (part_end ws c.0 Expression seen) (λ n. conditions_end k ws seen n) e c.2 in
      let s = passed ws seen left knows at Expression tt c.0 c.1 in
      let t = passed ws seen left knows c.0 Expression tt d.0 d.1 in
      let r = conditions_found k d.0 e d.2 in
      let x = condition s.term t.term in
      let n = length-append (encode (single s.term)) (encode (single t.term) ++ condition_words r.conditions) in
      let m = length-append (encode (single t.term)) (condition_words r.conditions) in
      let p₁ = s.ends in
      let p₂ = t.ends in
      let p₃ = r.ends in
      record {
        conditions = x ∷ r.conditions;
        read =
            ap (λ (o : Option (Term × List ℤ)). o >>= first_then k) s.read ∙
            (ap (λ (o : Option (Term × List ℤ)). o >>= second_then k s.term) t.read ∙ ap (λ (o : Option Read). o >>= more_then x) r.read);
        ends = omega arith;
        okay =
            and_both (ok_condition left x) (every (ok_condition left) r.conditions)
            (okay_condition left s.term t.term s.okay t.okay s.shaped t.shaped s.covered t.covered) r.okay;
        count = ap suc r.count;
      }

  pub conditions_missed : (k at : ℕ) → conditions_end k ws seen at ≡ none → (p : Read) → read_conditions k (drop at ws) ≡ some p → T (every (ok_condition left) p.0) → ⊥
  conditions_missed zero at h p e x = none-ne-some at (sym h)
  conditions_missed (suc k) at h p e x =
      let a = came (read_term (drop at ws)) (first_then k) p e in
      let b = came (read_term a.0.1) (second_then k a.0.0) p a.2 in
      let c = condition a.0.0 b.0.0 in
      let d = came (read_conditions k b.0.1) (more_then c) p b.2 in
      let y = subst⁻¹ (λ (r : Read). T (every (ok_condition left) r.0)) (some-injective (c ∷ d.0.0, d.0.1) p d.2) x in
      let g = good_condition left c (and_left (ok_condition left c) (every (ok_condition left) d.0.0) y) in
      at_first a.0 b.0 d.0 a.1 b.1 d.1 g (and_right (ok_condition left c) (every (ok_condition left) d.0.0) y) (conditions_missed k) (part_end ws at Expression seen) refl
    where
      at_second : (m : ℕ) (q : Term × List ℤ) (r : Read) (s : Term) → part_end ws at Expression seen ≡ some m → read_term (drop m ws) ≡ some q → read_conditions k q.1 ≡ some r → GoodCondition left (condition s q.0) → T (every (ok_condition left) r.0) →
          ((n : ℕ) → conditions_end k ws seen n ≡ none → (r : Read) → read_conditions k (drop n ws) ≡ some r → T (every (ok_condition left) r.0) → ⊥) → (o : Option ℕ) → part_end ws m Expression seen ≡ o → ⊥
      at_second m q r s f u v g y i none z = not_passed ws seen left knows m Expression tt z q u g.second g.second_expression g.second_covered
      at_second m q r s f u v g y i (some n) z =
          let t = passed ws seen left knows m Expression tt n z in
          let j : Path (Term × List ℤ) (t.term, drop n ws) q = some-injective (t.term, drop n ws) q (sym t.read ∙ u) in
          let w : conditions_end k ws seen n ≡ none =
          sym (ap (λ (o : Option ℕ). o >>= λ m. part_end ws m Expression seen >>= λ n. conditions_end k ws seen n) f ∙ ap (λ (o : Option ℕ). o >>= λ n. conditions_end k ws seen n) z) ∙ h in
          i n w r (ap (λ (x : Term × List ℤ). read_conditions k x.1) j ∙ v) y

      at_first : (p q : Term × List ℤ) (r : Read) → read_term (drop at ws) ≡ some p → read_term p.1 ≡ some q → read_conditions k q.1 ≡ some r → GoodCondition left (condition p.0 q.0) → T (every (ok_condition left) r.0) →
          ((n : ℕ) → conditions_end k ws seen n ≡ none → (r : Read) → read_conditions k (drop n ws) ≡ some r → T (every (ok_condition left) r.0) → ⊥) → (o : Option ℕ) → part_end ws at Expression seen ≡ o → ⊥
      at_first p q r t u v g y i none z = not_passed ws seen left knows at Expression tt z p t g.first g.first_expression g.first_covered
      at_first p q r t u v g y i (some m) z =
          let s = passed ws seen left knows at Expression tt m z in
          let j : Path (Term × List ℤ) (s.term, drop m ws) p = some-injective (s.term, drop m ws) p (sym s.read ∙ t) in
          at_second m q r p.0 z (ap (λ (x : Term × List ℤ). read_term x.1) j ∙ u) v g y i (part_end ws m Expression seen) refl
