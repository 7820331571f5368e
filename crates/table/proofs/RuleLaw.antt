-- The parts that `rule_parts` finds are those of the rule that is read there.
use mathlib.Core.Path.{◌≡◌, refl, sym, ◌∙◌, ap, subst}
use mathlib.Core.Bool.{Bool, ◌&&◌}
use mathlib.Core.Option.{Option, none, some}
use mathlib.Core.List.{List, [], ◌∷◌}
use Prim.Native.Nat.{ℕ, ◌+◌, ◌≤◌, ◌<◌}
use native.Mathlib.Omega.{arith}
use lib.Dec.{T, leb, ltb, le→leb, lt→ltb}
use lib.IntN.{ℤ, pos}
use lib.ListN.{length, drop, get_or, length-append, length-drop}
use Rattle.minuska.specs.Basics.{◌>>=◌, provided, every}
use Rattle.minuska.specs.Term.{Term, single, node_count}
use Rattle.minuska.specs.Word.{ok, encode}
use Rattle.minuska.specs.Satisfaction.{SideCondition}
use Rattle.minuska.specs.Rule.{Rule, is_symbolic, is_expression_term, covers, ok_term, ok_condition, ok_rule}
use Rattle.minuska.specs.Computed.Read.{number_below, read_term, read_conditions, read_rule}
use Rattle.minuska.specs.Bridge.Place.{Stands, right_from, conditions_from, end_from, right_words, conditions_words}
use Rattle.minuska.proofs.Tests.{and_both, provided_some, provided_true}
use Rattle.minuska.proofs.Good.{good, good_term}
use Rattle.minuska.proofs.SpanLaw.{read_term_iff}
use Rattle.minuska.proofs.Bridge.PlaceLaw.{stands_of}
use Rattle.table.specs.Level.{Left, Right}
use Rattle.table.specs.Node.{unseen}
use Rattle.std.specs.Prelude.{Some, None}
use Rattle.std.specs.Prelude as S
use Rattle.table.specs.Number.{answered}
use Rattle.table.specs.Walk.{part_end, part_seen}
use Rattle.table.specs.Size.{Counts, SidePartContract}
use Rattle.table.specs.declared.index.RightSizes.{RightSizes}
use Rattle.table.specs.declared.walk.Measured.{Measured}
use Rattle.table.proofs.KeepLaw.{part_keeps}
use Rattle.table.specs.Rule.{conditions_end, RuleAt}
use Rattle.minuska.specs.Bridge.Place.{left_from}
use Rattle.table.proofs.BasicLaw.{none_after, refused}
use Rattle.table.proofs.NumberLaw.{number_is}
use Rattle.table.proofs.TurnLaw.{two_words}
use Rattle.table.proofs.PartLaw.{part_found, part_missed, answered_some, answered_none}
use Rattle.table.proofs.SizeLaw.{counted}
use Rattle.table.proofs.TestLaw.{Knows, marks, scan_left, knows_left}
use Rattle.table.proofs.ConditionLaw.{Passed, passed, not_passed, conditions_found, conditions_missed}

-- ---- what is read after a rule's numbers, its left, its right
abbrev rule_of : ℕ → Term → Term → List SideCondition → Rule
rule_of n l r cs = record { action = n; left = l; right = r; conditions = cs }

abbrev conditions_then : ℕ → Term → Term → List SideCondition × List ℤ → Option (Rule × List ℤ)
conditions_then n l r p = provided (ok_rule (rule_of n l r p.0)) (rule_of n l r p.0, p.1)

abbrev right_then : ℕ → ℕ → Term → Term × List ℤ → Option (Rule × List ℤ)
right_then n k l p = read_conditions k p.1 >>= conditions_then n l p.0

abbrev left_then : ℕ → ℕ → Term × List ℤ → Option (Rule × List ℤ)
left_then n k p = read_term p.1 >>= right_then n k p.0

-- a left between two places, and the flags after it
pub record LeftFound (ws : List ℤ) (at e : ℕ) : Type 0 where
  pub term : Term
  pub read : read_term (drop at ws) ≡ some (term, drop e ws)
  pub ends : e ≡ at + length (encode (single term))
  pub okay : T (ok_term term)
  pub symbolic : T (is_symbolic (single term))
  pub knows : Knows (part_seen ws at Left unseen) (single term)

pub left_found : (ws : List ℤ) (at e : ℕ) → part_end ws at Left unseen ≡ some e → LeftFound ws at e
left_found ws at e h =
    let p = part_found ws at Left unseen e h in
    let t = single p.term in
    let w = provided_some (is_symbolic t) (marks t unseen) (part_seen ws at Left unseen) (sym (scan_left t p.in_range unseen) ∙ p.scanned) in
    record {
      term = p.term;
      read = p.read;
      ends = p.ends;
      okay = and_both (ok t) (leb (node_count p.term) 512) p.in_range (le→leb (node_count p.term) 512 p.small);
      symbolic = w.0;
      knows = subst (λ (s : List Bool). Knows s t) w.1 (knows_left t p.in_range);
    }

okay_rule : (n : ℕ) (l r : Term) (cs : List SideCondition) → n < 65536 → length cs ≤ 8 → T (ok_term l) → T (ok_term r) → T (is_symbolic (single l)) → T (is_expression_term (single r)) → T (covers (single l) (single r)) → T (every (ok_condition l) cs) → T (ok_rule (rule_of n l r cs))
okay_rule n l r cs x₁ x₂ x₃ x₄ x₅ x₆ x₇ x₈ =
    let t₁ = ltb n 65536 in
    let t₂ = leb (length cs) 8 in
    let t₃ = ok_term l in
    let t₄ = ok_term r in
    let t₅ = is_symbolic (single l) in
    let t₆ = is_expression_term (single r) in
    let t₇ = covers (single l) (single r) in
    let t₈ = every (ok_condition l) cs in
    let y₂ = and_both t₁ t₂ (lt→ltb n 65536 x₁) (le→leb (length cs) 8 x₂) in
    let y₄ = and_both (t₁ && t₂ && t₃) t₄ (and_both (t₁ && t₂) t₃ y₂ x₃) x₄ in
    let y₆ = and_both (t₁ && t₂ && t₃ && t₄ && t₅) t₆ (and_both (t₁ && t₂ && t₃ && t₄) t₅ y₄ x₅) x₆ in
    and_both (t₁ && t₂ && t₃ && t₄ && t₅ && t₆ && t₇) t₈ (and_both (t₁ && t₂ && t₃ && t₄ && t₅ && t₆) t₇ y₆ x₇) x₈

-- ---- a rule that is not there
short_rule : (xs : List ℤ) → length xs < 2 → read_rule xs ≡ none
short_rule [] h = refl
short_rule (a ∷ []) h = refl
short_rule (a ∷ k ∷ xs) h = absurd (let f : ⊥ = omega arith in f)

pub rule_short : (ws : List ℤ) (at : ℕ) → length ws < left_from at → read_rule (drop at ws) ≡ none
rule_short ws at h = short_rule (drop at ws) (simp length-drop (omega arith))

-- the two numbers of a rule at a place
pub record Head (ws : List ℤ) (at action k : ℕ) : Type 0 where
  pub low : action < 65536
  pub few : k ≤ 8
  pub reads : read_rule (drop at ws) ≡ (read_term (drop (left_from at) ws) >>= left_then action k)

module _ (ws : List ℤ) (at : ℕ) (room : left_from at ≤ length ws) where
  module _ (action : ℕ) (ha : Some action ≡ answered (number_below 65536 (get_or ws at (pos 0)))) where
    numbers : read_rule (drop at ws) ≡ (number_below 9 (get_or ws (at + 1) (pos 0)) >>= λ m. read_term (drop (left_from at) ws) >>= left_then action m)
    numbers =
        ap read_rule (two_words ws at room) ∙
        ap (λ (o : Option ℕ). o >>= λ n. number_below 9 (get_or ws (at + 1) (pos 0)) >>= λ m. read_term (drop (left_from at) ws) >>= left_then n m) (answered_some action (number_below 65536 (get_or ws at (pos 0))) ha)

    pub rule_head : (count : ℕ) → Some count ≡ answered (number_below 9 (get_or ws (at + 1) (pos 0))) → Head ws at action count
    rule_head count h =
        let l = (number_is 65536 (get_or ws at (pos 0)) action ha).1 in
        let f = (number_is 9 (get_or ws (at + 1) (pos 0)) count h).1 in
        record {
          low = l;
          few = omega arith;
          reads = numbers ∙ ap (λ (o : Option ℕ). o >>= λ m. read_term (drop (left_from at) ws) >>= left_then action m) (answered_some count (number_below 9 (get_or ws (at + 1) (pos 0))) h);
        }

-- ---- its left, its right, its conditions
module _ (ws : List ℤ) (at n k : ℕ) (head : Head ws at n k) where
  pub rule_left : part_end ws (left_from at) Left unseen ≡ none → read_rule (drop at ws) ≡ none
  rule_left h =
      head.reads ∙ none_after (read_term (drop (left_from at) ws)) (left_then n k) (λ l e.
      none_after (read_term l.1) (right_then n k l.0) (λ r f. none_after (read_conditions k r.1) (conditions_then n l.0 r.0) (λ cs g.
      refused (ok_rule (rule_of n l.0 r.0 cs.0)) (rule_of n l.0 r.0 cs.0, cs.1) (λ x.
      let y = good (rule_of n l.0 r.0 cs.0) x in
      let t = single l.0 in
      part_missed ws (left_from at) Left unseen h l e y.left.small (marks t unseen) (scan_left t y.left.in_range unseen ∙ provided_true (is_symbolic t) (marks t unseen) y.symbolic)))))

  module _ (right : ℕ) (hl : part_end ws (left_from at) Left unseen ≡ some right) where
    the_left : LeftFound ws (left_from at) right
    the_left = left_found ws (left_from at) right hl

    rights : read_rule (drop at ws) ≡ (read_term (drop right ws) >>= right_then n k the_left.term)
    rights = head.reads ∙ ap (λ (o : Option (Term × List ℤ)). o >>= left_then n k) the_left.read

    pub rule_right : part_end ws right Right (part_seen ws (left_from at) Left unseen) ≡ none → read_rule (drop at ws) ≡ none
    rule_right h =
        let l = the_left in
        rights ∙ none_after (read_term (drop right ws)) (right_then n k l.term) (λ r f.
        none_after (read_conditions k r.1) (conditions_then n l.term r.0) (λ cs g.
        refused (ok_rule (rule_of n l.term r.0 cs.0)) (rule_of n l.term r.0 cs.0, cs.1) (λ x.
        let y = good (rule_of n l.term r.0 cs.0) x in
        not_passed ws (part_seen ws (left_from at) Left unseen) l.term l.knows right Right tt h r f y.right y.expression_term y.covered)))

    module _ (conditions : ℕ) (hr : part_end ws right Right (part_seen ws (left_from at) Left unseen) ≡ some conditions) where
      the_right : Passed ws right Right the_left.term conditions
      the_right = passed ws (part_seen ws (left_from at) Left unseen) the_left.term the_left.knows right Right tt conditions hr

      rest : read_rule (drop at ws) ≡ (read_conditions k (drop conditions ws) >>= conditions_then n the_left.term the_right.term)
      rest = rights ∙ ap (λ (o : Option (Term × List ℤ)). o >>= right_then n k the_left.term) the_right.read

      pub rule_conditions : conditions_end k ws (part_seen ws (left_from at) Left unseen) conditions ≡ none → read_rule (drop at ws) ≡ none
      rule_conditions h =
          let l = the_left in
          let r = the_right in
          rest ∙ none_after (read_conditions k (drop conditions ws)) (conditions_then n l.term r.term) (λ cs g.
          refused (ok_rule (rule_of n l.term r.term cs.0)) (rule_of n l.term r.term cs.0, cs.1) (λ x.
          conditions_missed ws (part_seen ws (left_from at) Left unseen) l.term l.knows k conditions h cs g (good (rule_of n l.term r.term cs.0) x).conditions))

      right_stands : Stands ws right (encode (single the_right.term))
      right_stands =
          let t = encode (single the_right.term) in
          let e = ((read_term_iff (drop right ws) the_right.term (drop conditions ws)).0 the_right.read).1 in
          let m = ap length e in
          let j = length-append t (drop conditions ws) in
          let i = length-drop right ws in
          stands_of t (drop conditions ws) (sym e) (omega arith)

      pub rule_good : (end : ℕ) → conditions_end k ws (part_seen ws (left_from at) Left unseen) conditions ≡ some end → (sizes : RightSizes) → Counts ws right 1 conditions 0 sizes.fixed sizes.leaves → RuleAt ws at (record { action = n; right = right; conditions = conditions; end = end; sizes = sizes })
      rule_good end h sizes sized =
          let l = the_left in
          let r = the_right in
          let c = conditions_found ws (part_seen ws (left_from at) Left unseen) l.term l.knows k conditions end h in
          let rule = rule_of n l.term r.term c.conditions in
          let few : length c.conditions ≤ 8 = let e = c.count in let g = head.few in omega arith in
          let x = okay_rule n l.term r.term c.conditions head.low few l.okay r.okay l.symbolic r.shaped r.covered c.okay in
          let e : read_rule (drop at ws) ≡ some (rule, drop end ws) =
          rest ∙ (ap (λ (o : Option (List SideCondition × List ℤ)). o >>= conditions_then n l.term r.term) c.read ∙ provided_true (ok_rule rule) (rule, drop end ws) x) in
          let p = l.ends in
          let q = r.ends in
          let s = c.ends in
          let a : right_from at rule ≡ right = sym p in
          let b : conditions_from at rule ≡ conditions = ap (λ (m : ℕ). m + length (right_words rule)) a ∙ sym q in
          let z : end_from at rule ≡ end = ap (λ (m : ℕ). m + length (conditions_words rule)) b ∙ sym s in
          let y = good_term r.term r.okay in
          let w = counted ws right conditions sizes.fixed sizes.leaves sized r.term y.in_range right_stands in
          record { rule = rule; read = e; action_is = refl; right_is = a; conditions_is = b; end_is = z; fixed_is = w.0; leaves_is = w.1 }

-- ---- the same, from what each part's walk answered
module _ (ws : List ℤ) (at : ℕ) (room : left_from at ≤ length ws) (action : ℕ) (ha : Some action ≡ answered (number_below 65536 (get_or ws at (pos 0)))) (count : ℕ) (hc : Some count ≡ answered (number_below 9 (get_or ws (at + 1) (pos 0)))) where
  head : Head ws at action count
  head = rule_head ws at room action ha count hc

  pub left_missed : {seen : List Bool} → SidePartContract ws (left_from at) Left unseen seen None → read_rule (drop at ws) ≡ none
  left_missed l = rule_left ws at action count head (answered_none (part_end ws (left_from at) Left unseen) l.part.answer)

  module _ {left : Measured} {seen : List Bool} (l : SidePartContract ws (left_from at) Left unseen seen (Some left)) where
    left_at : part_end ws (left_from at) Left unseen ≡ some left.end
    left_at = answered_some left.end (part_end ws (left_from at) Left unseen) l.part.answer

    by_flags : (r : S.Option ℕ) → r ≡ answered (part_end ws left.end Right seen) → r ≡ answered (part_end ws left.end Right (part_seen ws (left_from at) Left unseen))
    by_flags r e = e ∙ ap (λ (s : List Bool). answered (part_end ws left.end Right s)) l.part.leaves

    pub right_missed : {seen' : List Bool} → SidePartContract ws left.end Right seen seen' None → read_rule (drop at ws) ≡ none
    right_missed r = rule_right ws at action count head left.end left_at (answered_none (part_end ws left.end Right (part_seen ws (left_from at) Left unseen)) (by_flags None r.part.answer))

    module _ {right : Measured} {seen' : List Bool} (r : SidePartContract ws left.end Right seen seen' (Some right)) where
      right_at : part_end ws left.end Right (part_seen ws (left_from at) Left unseen) ≡ some right.end
      right_at = answered_some right.end (part_end ws left.end Right (part_seen ws (left_from at) Left unseen)) (by_flags (Some right.end) r.part.answer)

      kept : seen' ≡ part_seen ws (left_from at) Left unseen
      kept = r.part.leaves ∙ (part_keeps ws left.end Right seen tt ∙ l.part.leaves)

      conditions_are : (e : S.Option ℕ) → e ≡ answered (conditions_end count ws seen' right.end) → e ≡ answered (conditions_end count ws (part_seen ws (left_from at) Left unseen) right.end)
      conditions_are e q = q ∙ ap (λ (s : List Bool). answered (conditions_end count ws s right.end)) kept

      pub conditions_none : None ≡ answered (conditions_end count ws seen' right.end) → read_rule (drop at ws) ≡ none
      conditions_none q =
          rule_conditions ws at action count head left.end left_at right.end right_at
          (answered_none (conditions_end count ws (part_seen ws (left_from at) Left unseen) right.end) (conditions_are None q))

      pub rule_found : (end : ℕ) → Some end ≡ answered (conditions_end count ws seen' right.end) → RuleAt ws at (record { action = action; right = left.end; conditions = right.end; end = end; sizes = right.sizes })
      rule_found end q =
          rule_good ws at action count head left.end left_at right.end right_at end
          (answered_some end (conditions_end count ws (part_seen ws (left_from at) Left unseen) right.end) (conditions_are (Some end) q)) right.sizes (r.sizes right refl)
