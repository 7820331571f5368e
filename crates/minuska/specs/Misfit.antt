-- How far a left matches (document 02, request 3): its nodes in preorder, one after the other, up to the first that disagrees.
use Rattle.std.specs.Prelude.{◌≡◌, ℕ, zero, suc, ◌-◌}
use Rattle.std.proofs.Math.Option.{some}
use Rattle.minuska.specs.Term.{Label, Forest, nil, node, Term, single, term_count, nodes, Role, a_variable, a_call, plain, role}
use Rattle.minuska.specs.Satisfaction.{Valuation}

-- ρ satisfies the first n nodes of lefts in preorder, as `Matches` (⊨s) asks it of all: a node, then the nodes below it, then those behind. A plain node is the
-- same over as many children, or it disagrees by "another tag, datum or count"; the nodes below it may be further on than n.
abbrev pub MatchesFirstAt : Valuation → Role → Label → ℕ → Term → Type 0 → Type 0
MatchesFirstAt ρ (a_variable v) l k g Below = ρ v ≡ some g
MatchesFirstAt ρ (a_call c) l k g Below = ⊥
MatchesFirstAt ρ plain l k g Below = (l ≡ g.label) × (k ≡ term_count g.children) × Below

abbrev pub MatchesFirst : Valuation → Forest → Forest → ℕ → Type 0
MatchesFirst ρ nil g n = Unit {0}
MatchesFirst ρ (node l ls lss) g zero = Unit {0}
MatchesFirst ρ (node l ls lss) nil (suc n) = ⊥
MatchesFirst ρ (node l ls lss) (node g gs gss) (suc n) =
    MatchesFirstAt ρ (role l) l (term_count ls) (record { label = g; children = gs }) (MatchesFirst ρ ls gs n) × MatchesFirst ρ lss gss (n - nodes ls)

-- "the first disagreement in preorder (a repeated variable's at its later place)": the left's node at this place, from 0. Some valuation satisfies the nodes
-- before it, and none those up to and including it.
pub record Disagrees (l g : Term) (place : ℕ) : Type 0 where
  pub before : (ρ : Valuation) × MatchesFirst ρ (single l) (single g) place
  pub here : (ρ : Valuation) → MatchesFirst ρ (single l) (single g) (suc place) → ⊥
