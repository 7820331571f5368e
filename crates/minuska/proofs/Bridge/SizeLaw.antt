-- The sizes of a right: of a first node by its role, with what is left behind it; of ground terms; and never more than four times its nodes.
use mathlib.Core.Path.{◌≡◌, refl, ◌∙◌, ap}
use mathlib.Core.Bool.{Bool, true, false, cond}
use Prim.Native.Nat.{ℕ, suc, ◌+◌, ◌*◌, ◌≤◌}
use native.Mathlib.Omega.{arith}
use lib.Dec.{T, eqb}
use Rattle.minuska.specs.Term.{Label, Forest, nil, node, nodes, Role, a_variable, a_call, plain, role, ground_at, is_ground}
use Rattle.minuska.specs.Rule.{updating}
use Rattle.minuska.specs.Bridge.Walk.{looking, fixed_call, leaves_call, fixed_at, fixed_nodes, leaves_at, variable_nodes}
use Rattle.minuska.proofs.WordLaw.{appended}
use Rattle.minuska.proofs.Bridge.AppendedLaw.{labels}

-- ---- two lists of terms, one behind the other
fixed_appended : (f g : Forest) → fixed_nodes (appended f g) ≡ fixed_nodes f + fixed_nodes g
fixed_appended nil g = omega arith
fixed_appended (node l cs ss) g = let e = fixed_appended ss g in omega arith

variables_appended : (f g : Forest) → variable_nodes (appended f g) ≡ variable_nodes f + variable_nodes g
variables_appended nil g = omega arith
variables_appended (node l cs ss) g = let e = variables_appended ss g in omega arith

-- ---- a list of terms, and what is left of it behind its first node: so many nodes more, so many variables more
pub record Larger (f g : Forest) (fixed leaves : ℕ) : Type 0 where
  pub ones : fixed_nodes f ≡ fixed + fixed_nodes g
  pub variables : variable_nodes f ≡ leaves + variable_nodes g

module _ (l : Label) (cs ss : Forest) where
  sizes_as : (r : Role) (fixed leaves : ℕ) (g : Forest) → role l ≡ r → fixed_at r (fixed_nodes cs) + fixed_nodes ss ≡ fixed + fixed_nodes g → leaves_at r (variable_nodes cs) + variable_nodes ss ≡ leaves + variable_nodes g → Larger (node l cs ss) g fixed leaves
  sizes_as r fixed leaves g q a b =
      record {
        ones = ap (λ (z : Role). fixed_at z (fixed_nodes cs) + fixed_nodes ss) q ∙ a;
        variables = ap (λ (z : Role). leaves_at z (variable_nodes cs) + variable_nodes ss) q ∙ b;
      }

  pub variable_sizes : (v : ℕ) → role l ≡ a_variable v → Larger (node l cs ss) ss 0 1
  variable_sizes v q = sizes_as (a_variable v) 0 1 ss q refl refl

  pub call_sizes : (c : ℕ) → role l ≡ a_call c → Larger (node l cs ss) ss (fixed_call c) (leaves_call c)
  call_sizes c q = sizes_as (a_call c) (fixed_call c) (leaves_call c) ss q refl refl

  pub plain_sizes : role l ≡ plain → Larger (node l cs ss) (appended cs ss) 1 0
  plain_sizes q =
      let a = fixed_appended cs ss in
      let b = variables_appended cs ss in
      sizes_as plain 1 0 (appended cs ss) q (omega arith) (omega arith)

-- ---- ground terms: all their nodes are their own
module _ (l : Label) (cs ss : Forest) where
  plain_of : T (ground_at (role l)) → role l ≡ plain
  plain_of x = pick (role l) refl x
    where
      pick : (r : Role) → role l ≡ r → T (ground_at r) → role l ≡ plain
      pick (a_variable v) q y = absurd y
      pick (a_call c) q y = absurd y
      pick plain q y = q

pub ground_sizes : (f : Forest) → T (is_ground f) → (fixed_nodes f ≡ nodes f) × (variable_nodes f ≡ 0)
ground_sizes nil x = (refl, refl)
ground_sizes (node l cs ss) x =
    let o = labels (λ k. ground_at (role k)) l cs ss x in
    let p = plain_of l cs ss o.here in
    let a = ground_sizes cs o.children in
    let b = ground_sizes ss o.rest in
    let a₀ = a.0 in
    let a₁ = a.1 in
    let b₀ = b.0 in
    let b₁ = b.1 in (
      ap (λ (z : Role). fixed_at z (fixed_nodes cs) + fixed_nodes ss) p ∙ (let e : suc (fixed_nodes cs) + fixed_nodes ss ≡ suc (nodes cs + nodes ss) = omega arith in e),
      ap (λ (z : Role). leaves_at z (variable_nodes cs) + variable_nodes ss) p ∙ (let e : variable_nodes cs + variable_nodes ss ≡ 0 = omega arith in e),
    )

pub literal_sizes : (l : Label) (cs ss : Forest) → role l ≡ plain → T (is_ground cs) → Larger (node l cs ss) ss (suc (nodes cs)) 0
literal_sizes l cs ss q x =
    let a = ground_sizes cs x in
    let a₀ = a.0 in
    let a₁ = a.1 in
    record {
      ones = ap (λ (z : Role). fixed_at z (fixed_nodes cs) + fixed_nodes ss) q ∙ (let e : suc (fixed_nodes cs) + fixed_nodes ss ≡ suc (nodes cs) + fixed_nodes ss = omega arith in e);
      variables = ap (λ (z : Role). leaves_at z (variable_nodes cs) + variable_nodes ss) q ∙ (let e : variable_nodes cs + variable_nodes ss ≡ 0 + variable_nodes ss = omega arith in e);
    }

-- ---- a call's, and never more than four a node
pub call_few : (c : ℕ) → fixed_call c + leaves_call c ≤ 4
call_few c = pick (eqb c looking) (eqb c updating)
  where
    pick : (a b : Bool) → cond a 0 (cond b 2 1) + cond a 1 (cond b 2 0) ≤ 4
    pick true b = omega arith
    pick false true = omega arith
    pick false false = omega arith

pub sizes_few : (f : Forest) → fixed_nodes f + variable_nodes f ≤ 4 * nodes f
sizes_few nil = omega arith
sizes_few (node l cs ss) = pick (role l) (sizes_few cs) (sizes_few ss)
  where
    pick : (r : Role) → fixed_nodes cs + variable_nodes cs ≤ 4 * nodes cs → fixed_nodes ss + variable_nodes ss ≤ 4 * nodes ss → (fixed_at r (fixed_nodes cs) + fixed_nodes ss) + (leaves_at r (variable_nodes cs) + variable_nodes ss) ≤ 4 * suc (nodes cs + nodes ss)
    pick (a_variable v) a b = omega arith
    pick (a_call c) a b = let k = call_few c in omega arith
    pick plain a b = omega arith
