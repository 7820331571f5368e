-- What the two checks tell: how long accepted words are, and refusals 1 and 2 of any outcome.
use mathlib.Core.Path.{◌≡◌, sym, ◌∙◌, ap}
use mathlib.Core.Bool.{◌&&◌}
use mathlib.Core.Option.{Option, none, some}
use mathlib.Core.List.{List}
use Prim.Native.Nat.{ℕ, suc, ◌*◌, ◌≤◌}
use native.Mathlib.Nat.{add-zero}
use native.Mathlib.Omega.{arith}
use lib.IntN.{ℤ}
use lib.Dec.{leb, leb→le}
use lib.ListN.{length}
use Rattle.std.specs.Prelude.{Err}
use Rattle.minuska.specs.Term.{Term, single, node_count, nodes, is_ground}
use Rattle.minuska.specs.Word.{ok, encode}
use Rattle.minuska.specs.Rule.{Table, max_nodes, IsConfiguration}
use Rattle.minuska.specs.Answer.{Refusal, BadTable, BadConfiguration, Outcome, refused}
use Rattle.minuska.specs.Computed.Read.{read_table, read_configuration}
use Rattle.minuska.specs.Computed.Outcome.{need, on_words, checked, table_check, configuration_check, or_second}
use Rattle.minuska.proofs.Tests.{and_right}
use Rattle.minuska.proofs.WordLaw.{encode_length}

-- two words a node
pub term_length : (g : Term) → length (encode (single g)) ≡ 2 * node_count g
term_length g = encode_length (single g) ∙ ap (λ (n : ℕ). 2 * suc n) (add-zero (nodes g.children))

pub configuration_length : (ws : List ℤ) (g : Term) → IsConfiguration ws g → length ws ≡ 2 * node_count g
configuration_length ws g p = ap length (sym p.words) ∙ term_length g

pub configuration_most : (ws : List ℤ) (g : Term) → IsConfiguration ws g → length ws ≤ 2 * max_nodes
configuration_most ws g p =
    omega (arith, configuration_length ws g p, leb→le (node_count g) max_nodes (and_right (ok (single g) && is_ground (single g)) (leb (node_count g) max_nodes) p.accepted))

-- 1 AND 2 OF ANY OUTCOME ON WORDS ARE WHAT THE CHECKS SAY, the table's first
module _ {A : Type 0} (ws cs : List ℤ) (go : Table → Term → Outcome A) (r : Refusal) where
  pub refused_first : or_second (table_check ws) (configuration_check cs) ≡ Err r → on_words ws cs go ≡ refused r
  unfolding table_check configuration_check
  refused_first e = by (read_table ws) (read_configuration cs) e
    where
      by : (o : Option Table) (p : Option Term) → or_second (checked BadTable o) (checked BadConfiguration p) ≡ Err r → (need BadTable o λ t. need BadConfiguration p λ g. go t g) ≡ refused r
      by none p q = let z : BadTable ≡ r = cc in ap {B = Outcome A} refused z
      by (some t) none q = let z : BadConfiguration ≡ r = cc in ap {B = Outcome A} refused z
      by (some t) (some g) q = absurd (let z : ◌≡◌ {A = ℕ} 0 1 = cc in let f : ⊥ = omega arith in f)
