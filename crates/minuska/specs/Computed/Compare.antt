-- How far lefts agree with terms, computed: the left's nodes in preorder, each compared with the term where the walk has come.
-- `proofs/CompareLaw`: where all agree it is `try_match`. `proofs/MisfitLaw`: where one does not, it is the place of `Disagrees`.
use Rattle.std.specs.Prelude.{◌&&◌, cond, ℕ, suc, ◌+◌, eqb}
use Rattle.std.proofs.Math.Option.{Option, none, some}
use Rattle.std.proofs.Math.ListN.{get_elem?}
use Rattle.minuska.specs.Term.{Label, Forest, nil, node, Term, single, term_count, nodes, node_count, Role, a_variable, a_call, plain, role}
use Rattle.minuska.specs.Satisfaction.{Valuation}
use Rattle.minuska.specs.Rule.{Rule, Table}
use Rattle.minuska.specs.Answer.{MatchResult, matched, misfit}
use Rattle.minuska.specs.Computed.Match.{same_label, assign, unbound}

-- all agree, under a valuation; or the place, from 0, of the first left node that does not
pub data Comparison : Type 0 where
  agreed : Valuation → Comparison
  apart : ℕ → Comparison

-- the same, for nodes that come n nodes later; and one comparison after another that takes n nodes
abbrev pub later : ℕ → Comparison → Comparison
later n (agreed ρ) = agreed ρ
later n (apart k) = apart (n + k)

abbrev pub after : ℕ → Comparison → (Valuation → Comparison) → Comparison
after n (agreed ρ) go = later n (go ρ)
after n (apart k) go = apart k

-- a node disagrees by "another tag, datum or count, or a repeated variable whose term differs from its first place"
abbrev pub compare_bound : Option Valuation → Comparison
compare_bound none = apart 0
compare_bound (some ρ) = agreed ρ

abbrev pub compare_at : Role → Label → ℕ → Term → Valuation → (Valuation → Comparison) → Comparison
compare_at (a_variable v) l k t ρ inside = compare_bound (assign ρ v t)
compare_at (a_call c) l k t ρ inside = apart 0
compare_at plain l k t ρ inside = cond (same_label l t.label && eqb k (term_count t.children)) (later 1 (inside ρ)) (apart 0)

abbrev pub compare : Forest → Forest → Valuation → Comparison
compare nil nil ρ = agreed ρ
compare nil (node g gs gss) ρ = apart 0
compare (node l ls lss) nil ρ = apart 0
compare (node l ls lss) (node g gs gss) ρ =
    after (suc (nodes ls)) (compare_at (role l) l (term_count ls) (record { label = g; children = gs }) ρ (λ σ. compare ls gs σ)) (λ σ. compare lss gss σ)

-- a left and a configuration: the valuation if all nodes agree, or the place of the first that does not
abbrev pub comparison : Term → Term → Comparison
comparison l g = compare (single l) (single g) unbound

abbrev pub bound_by : Comparison → Option Valuation
bound_by (agreed ρ) = some ρ
bound_by (apart k) = none

-- how many of the left's nodes were compared: "all where the left fits, else those up to and including the one that disagrees"
abbrev pub nodes_compared : Term → Comparison → MatchResult
nodes_compared l (agreed ρ) = matched (node_count l)
nodes_compared l (apart k) = misfit (suc k)

abbrev pub match_left : Term → Term → MatchResult
match_left l g = nodes_compared l (comparison l g)

-- by a rule's number: one that names no rule does not match
abbrev pub match_numbered : Option Rule → Term → MatchResult
match_numbered none g = misfit 0
match_numbered (some r) g = match_left r.left g

unfoldable pub match_rule : Table → ℕ → Term → MatchResult
match_rule table n g = match_numbered (get_elem? table n) g
