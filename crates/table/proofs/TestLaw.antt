-- The walk over a term makes the tests that an accepted rule passes.
use mathlib.Core.Path.{◌≡◌, refl, sym, ◌∙◌, ap, subst, subst⁻¹}
use mathlib.Core.Bool.{Bool, true, false, ◌&&◌, ◌||◌, or-false}
use mathlib.Core.Option.{Option, none, some}
use mathlib.Core.List.{List}
use Prim.Native.Nat.{ℕ, ◌<◌}
use native.Mathlib.Omega.{arith}
use lib.Dec.{T, eqb}
use lib.ListN.{length, get_or, set, replicate, length-set, get_or-replicate}
use lib.Seq.{get_or-set_same, get_or-set_other}
use borrow.Author.Tests.{eqb-true, eqb-false}
use Rattle.minuska.specs.Basics.{◌>>=◌, provided}
use Rattle.minuska.specs.Dictionary.{entries, all_rise}
use Rattle.minuska.specs.Term.{Label, error, truth, whole, variable, call, symbol, dictionary, Forest, nil, node, term_count, Role, role, ground_at, is_ground}
use Rattle.minuska.specs.Term as R
use Rattle.minuska.specs.Word.{variables, ok_node, ok}
use Rattle.minuska.specs.Rule.{symbolic_at, is_symbolic, in_expression, inner_at, expression_at, is_expression, is_expression_term, occurs_at, occurs, covers_at, covers}
use Rattle.minuska.specs.Bridge.Shape.{shut_at, closed}
use Rattle.minuska.proofs.Tests.{came, and_left, and_both, provided_some, provided_true}
use Rattle.minuska.proofs.NodeLaw.{node_is}
use Rattle.minuska.proofs.WordLaw.{okay, head_okay, below_okay, childless}
use Rattle.minuska.proofs.Bridge.AppendedLaw.{labels, labels_all, closed_all}
use Rattle.table.specs.Level.{Level, Left, Right, Expression, Ground}
use Rattle.table.specs.Node.{Kind, a_variable, a_call, plain, literal, kind}
use Rattle.table.proofs.NodeLaw.{role_of, role_kind}
use Rattle.table.proofs.ScanLaw.{passes, below, flagged, scan}

-- ---- tests one after another
both : (seen : List Bool) (a b c d : Bool) → (provided (a && b) seen >>= λ s. provided (c && d) s) ≡ provided (a && c && (b && d)) seen
both seen true true c d = refl
both seen true false true d = refl
both seen true false false d = refl
both seen false b c d = refl

grouped : (o : Option (List Bool)) (f g : List Bool → Option (List Bool)) → (o >>= λ s. f s >>= g) ≡ ((o >>= f) >>= g)
grouped none f g = refl
grouped (some s) f g = refl

ended : (o : Option (List Bool)) → (o >>= λ s. some s) ≡ o
ended none = refl
ended (some s) = refl

-- ---- what a variable is: a leaf, with a number that has a flag
pub record Leaf (v : ℕ) (cs : Forest) : Type 0 where
  pub number : v < variables
  pub childless : cs ≡ nil

-- what is below a node, by its kind
abbrev pub Placed : Kind → Forest → Type 0
Placed (a_variable v) cs = Leaf v cs
Placed (a_call c) cs = Unit {0}
Placed plain cs = Unit {0}
Placed literal cs = T (is_ground cs)

pub placed_of : (a : Label) (cs : Forest) → T (ok_node a cs) → Placed (kind a) cs
placed_of error cs x = tt
placed_of (truth b) cs x = tt
placed_of (whole z) cs x = tt
placed_of (variable v) cs x = let n = node_is (variable v) (term_count cs) (head_okay (variable v) cs x) in record { number = n.small; childless = childless cs n.childless }
placed_of (call c) cs x = tt
placed_of (symbol s) cs x = tt
placed_of (dictionary n) cs x = and_left (is_ground cs) (all_rise (entries cs)) (below_okay (dictionary n) cs x)

-- ---- a right, an expression, a ground term
abbrev pub Inner : Level → Type 0
Inner Left = ⊥
Inner Right = Unit {0}
Inner Expression = Unit {0}
Inner Ground = Unit {0}

abbrev pub shape : Level → Forest → Bool
shape Left f = is_symbolic f
shape Right f = is_expression_term f
shape Expression f = is_expression f
shape Ground f = is_ground f

abbrev shape_at : Level → Role → Forest → Bool
shape_at Left r cs = symbolic_at r && is_symbolic cs
shape_at Right r cs = expression_at r (is_expression cs) (is_expression_term cs)
shape_at Expression r cs = inner_at r (is_expression cs) (is_ground cs)
shape_at Ground r cs = ground_at r && is_ground cs

shape_nil : (l : Level) → shape l nil ≡ true
shape_nil Left = refl
shape_nil Right = refl
shape_nil Expression = refl
shape_nil Ground = refl

shape_node : (l : Level) (a : Label) (cs ss : Forest) → shape l (node a cs ss) ≡ (shape_at l (role a) cs && shape l ss)
shape_node Left a cs ss = refl
shape_node Right a cs ss = refl
shape_node Expression a cs ss = refl
shape_node Ground a cs ss = refl

-- ---- a ground term passes at every level, and leaves the flags; it is what each level asks, and has no variable
ground_kind : (l : Label) (P : Kind → Type 0) → T (ground_at (role l)) → P plain → P literal → P (kind l)
ground_kind l P x y z = pick (kind l) (subst (λ (r : Role). T (ground_at r)) (role_kind l) x)
  where
    pick : (k : Kind) → T (ground_at (role_of k)) → P k
    pick (a_variable v) x = absurd x
    pick (a_call c) x = absurd x
    pick plain x = y
    pick literal x = z

abbrev ground_label : Label → Bool
ground_label l = ground_at (role l)

ground_scans : (f : Forest) → T (is_ground f) → (l : Level) (seen : List Bool) → scan l f seen ≡ some seen
ground_scans nil x l seen = refl
ground_scans (node a cs ss) x l seen =
    let o = labels ground_label a cs ss x in
    ground_kind a (λ k. (provided (passes l k seen) (flagged l k seen) >>= λ s. scan (below l k) cs s >>= λ s. scan l ss s) ≡ some seen) o.here
    (ap (λ (o : Option (List Bool)). o >>= λ s. scan l ss s) (ground_scans cs o.children (below l plain) seen) ∙ ground_scans ss o.rest l seen)
    (ap (λ (o : Option (List Bool)). o >>= λ s. scan l ss s) (ground_scans cs o.children Ground seen) ∙ ground_scans ss o.rest l seen)

plain_here : (l : Label) (P : Role → Type 0) → T (ground_at (role l)) → P R.plain → P (role l)
plain_here l P x y = pick (role l) x
  where
    pick : (r : Role) → T (ground_at r) → P r
    pick (R.a_variable v) x = absurd x
    pick (R.a_call c) x = absurd x
    pick R.plain x = y

ground_symbolic : (f : Forest) → T (is_ground f) → T (is_symbolic f)
ground_symbolic nil x = tt
ground_symbolic (node a cs ss) x =
    let o = labels ground_label a cs ss x in
    labels_all (λ l. symbolic_at (role l)) a cs ss (plain_here a (λ r. T (symbolic_at r)) o.here tt) (ground_symbolic cs o.children) (ground_symbolic ss o.rest)

ground_term : (f : Forest) → T (is_ground f) → T (is_expression_term f)
ground_term nil x = tt
ground_term (node a cs ss) x =
    let o = labels ground_label a cs ss x in
    and_both (expression_at (role a) (is_expression cs) (is_expression_term cs)) (is_expression_term ss)
    (plain_here a (λ r. T (expression_at r (is_expression cs) (is_expression_term cs))) o.here (ground_term cs o.children)) (ground_term ss o.rest)

ground_covers : (left f : Forest) → T (is_ground f) → T (covers left f)
ground_covers left nil x = tt
ground_covers left (node a cs ss) x =
    let o = labels ground_label a cs ss x in
    and_both (covers_at left (role a) (covers left cs)) (covers left ss) (plain_here a (λ r. T (covers_at left r (covers left cs))) o.here (ground_covers left cs o.children)) (ground_covers left ss o.rest)

-- ---- what was scanned is ground at the level of ground terms, and ground below its dictionaries at any level
scan_parts : (l : Level) (a : Label) (cs ss : Forest) (seen seen' : List Bool) → scan l (node a cs ss) seen ≡ some seen' →
    (s : List Bool) × (u : List Bool) × T (passes l (kind a) seen) × (scan (below l (kind a)) cs s ≡ some u) × (scan l ss u ≡ some seen')
scan_parts l a cs ss seen seen' e =
    let c = came (provided (passes l (kind a) seen) (flagged l (kind a) seen)) (λ s. scan (below l (kind a)) cs s >>= λ s. scan l ss s) seen' e in
    let d = came (scan (below l (kind a)) cs c.0) (λ s. scan l ss s) seen' c.2 in
    (c.0, d.0, (provided_some (passes l (kind a) seen) (flagged l (kind a) seen) c.0 c.1).0, d.1, d.2)

scan_ground : (f : Forest) (seen seen' : List Bool) → scan Ground f seen ≡ some seen' → T (is_ground f)
scan_ground nil seen seen' e = tt
scan_ground (node a cs ss) seen seen' e =
    let p = scan_parts Ground a cs ss seen seen' e in
    labels_all ground_label a cs ss (here (kind a) (role_kind a) p.2) (scan_ground cs p.0 p.1 (inside p.0 p.1 (kind a) p.2 p.3)) (scan_ground ss p.1 seen' p.4)
  where
    here : (k : Kind) → role a ≡ role_of k → T (passes Ground k seen) → T (ground_at (role a))
    here (a_variable v) q x = absurd x
    here (a_call c) q x = absurd x
    here plain q x = subst⁻¹ (λ (r : Role). T (ground_at r)) q tt
    here literal q x = subst⁻¹ (λ (r : Role). T (ground_at r)) q tt

    inside : (s u : List Bool) (k : Kind) → T (passes Ground k seen) → scan (below Ground k) cs s ≡ some u → scan Ground cs s ≡ some u
    inside s u (a_variable v) x q = absurd x
    inside s u (a_call c) x q = absurd x
    inside s u plain x q = q
    inside s u literal x q = q

pub scan_closed : (f : Forest) (l : Level) (seen seen' : List Bool) → scan l f seen ≡ some seen' → T (closed f)
scan_closed nil l seen seen' e = tt
scan_closed (node a cs ss) l seen seen' e =
    let p = scan_parts l a cs ss seen seen' e in
    closed_all a cs ss (shut p.0 p.1 a p.3) (scan_closed cs (below l (kind a)) p.0 p.1 p.3) (scan_closed ss l p.1 seen' p.4)
  where
    shut : (s u : List Bool) (a : Label) → scan (below l (kind a)) cs s ≡ some u → T (shut_at a (is_ground cs))
    shut s u error q = tt
    shut s u (truth b) q = tt
    shut s u (whole z) q = tt
    shut s u (variable v) q = tt
    shut s u (call c) q = tt
    shut s u (symbol n) q = tt
    shut s u (dictionary n) q = scan_ground cs s u q

-- the flags are the variables of a left
pub record Knows (seen : List Bool) (left : Forest) : Type 0 where
  pub flag : (v : ℕ) → v < variables → get_or seen v false ≡ occurs v left

module _ (seen : List Bool) (left : Forest) (k : Knows seen left) where
  inner_below : (l : Level) (r : Kind) → Inner l → Inner (below l r)
  inner_below Left r i = absurd i
  inner_below Right (a_variable v) i = tt
  inner_below Right (a_call c) i = tt
  inner_below Right plain i = tt
  inner_below Right literal i = tt
  inner_below Expression (a_variable v) i = tt
  inner_below Expression (a_call c) i = tt
  inner_below Expression plain i = tt
  inner_below Expression literal i = tt
  inner_below Ground (a_variable v) i = tt
  inner_below Ground (a_call c) i = tt
  inner_below Ground plain i = tt
  inner_below Ground literal i = tt

  here_variable : (l : Level) (v : ℕ) (cs : Forest) → Leaf v cs → (provided (get_or seen v false) seen >>= λ s. scan l cs s) ≡ provided (occurs v left) seen
  here_variable l v cs p =
      ap (λ (f : Forest). provided (get_or seen v false) seen >>= λ s. scan l f s) p.childless ∙
      (ended (provided (get_or seen v false) seen) ∙ ap (λ (b : Bool). provided b seen) (k.flag v p.number))

  called : (b x y : Bool) (cs : Forest) → scan Expression cs seen ≡ provided (x && y) seen → (provided b seen >>= λ s. scan Expression cs s) ≡ provided (b && x && y) seen
  called true x y cs h = h
  called false x y cs h = refl

  here_literal : (x : Bool) (cs : Forest) → T (is_ground cs) → T x → scan Ground cs seen ≡ provided (x && covers left cs) seen
  here_literal x cs g y = ground_scans cs g Ground seen ∙ sym (provided_true (x && covers left cs) seen (and_both x (covers left cs) y (ground_covers left cs g)))

  here : (l : Level) (r : Kind) (cs : Forest) → Inner l → Placed r cs → scan (below l r) cs seen ≡ provided (shape (below l r) cs && covers left cs) seen →
      (provided (passes l r seen) (flagged l r seen) >>= λ s. scan (below l r) cs s) ≡ provided (shape_at l (role_of r) cs && covers_at left (role_of r) (covers left cs)) seen
  here Left r cs i p h = absurd i
  here Right (a_variable v) cs i p h = here_variable Right v cs p
  here Right (a_call c) cs i p h = h
  here Right plain cs i p h = h
  here Right literal cs i p h = here_literal (is_expression_term cs) cs p (ground_term cs p)
  here Expression (a_variable v) cs i p h = here_variable Expression v cs p
  here Expression (a_call c) cs i p h = called (in_expression c) (is_expression cs) (covers left cs) cs h
  here Expression plain cs i p h = h
  here Expression literal cs i p h = here_literal (is_ground cs) cs p p
  here Ground (a_variable v) cs i p h = refl
  here Ground (a_call c) cs i p h = refl
  here Ground plain cs i p h = h
  here Ground literal cs i p h = here_literal (is_ground cs) cs p p

  pub scan_tests : (f : Forest) → T (ok f) → (l : Level) → Inner l → scan l f seen ≡ provided (shape l f && covers left f) seen
  scan_tests nil x l i = ap (λ (b : Bool). provided (b && true) seen) (sym (shape_nil l))
  scan_tests (node a cs ss) x l i =
      let o = okay a cs ss x in
      let r = kind a in
      let q = role_of (kind a) in
      let c = scan_tests cs o.children (below l r) (inner_below l r i) in
      let s = scan_tests ss o.rest l i in
      let t = shape_at l q cs && covers_at left q (covers left cs) in
      grouped (provided (passes l r seen) (flagged l r seen)) (λ s. scan (below l r) cs s) (λ s. scan l ss s) ∙
      (ap (λ (o : Option (List Bool)). o >>= λ s. scan l ss s) (here l r cs i (placed_of a cs o.allowed) c) ∙
      (after t (shape l ss && covers left ss) s ∙
      (both seen (shape_at l q cs) (covers_at left q (covers left cs)) (shape l ss) (covers left ss) ∙
      (ap (λ (r : Role). provided (shape_at l r cs && shape l ss && (covers_at left r (covers left cs) && covers left ss)) seen) (sym (role_kind a)) ∙
      ap (λ (b : Bool). provided (b && (covers_at left (role a) (covers left cs) && covers left ss)) seen) (sym (shape_node l a cs ss))))))
    where
      after : (t u : Bool) → scan l ss seen ≡ provided u seen → (provided t seen >>= λ s. scan l ss s) ≡ (provided t seen >>= λ s. provided u s)
      after true u h = h
      after false u h = refl

-- ---- a left
abbrev pub marks : Forest → List Bool → List Bool
marks nil seen = seen
marks (node a cs ss) seen = marks ss (marks cs (flagged Left (kind a) seen))

ground_marks : (f : Forest) → T (is_ground f) → (seen : List Bool) → marks f seen ≡ seen
ground_marks nil x seen = refl
ground_marks (node a cs ss) x seen =
    let o = labels ground_label a cs ss x in
    ground_marks ss o.rest (marks cs (flagged Left (kind a) seen)) ∙
    (ground_marks cs o.children (flagged Left (kind a) seen) ∙ ground_kind a (λ k. flagged Left k seen ≡ seen) o.here refl refl)

left_here : (r : Kind) (cs : Forest) (seen : List Bool) → Placed r cs → ((s : List Bool) → scan Left cs s ≡ provided (is_symbolic cs) (marks cs s)) →
    (provided (passes Left r seen) (flagged Left r seen) >>= λ s. scan (below Left r) cs s) ≡ provided (symbolic_at (role_of r) && is_symbolic cs) (marks cs (flagged Left r seen))
left_here (a_variable v) cs seen p h = h (set seen v true)
left_here (a_call c) cs seen p h = refl
left_here plain cs seen p h = h seen
left_here literal cs seen p h =
    ground_scans cs p Ground seen ∙
    sym (provided_true (is_symbolic cs) (marks cs seen) (ground_symbolic cs p) ∙ ap {B = Option (List Bool)} some (ground_marks cs p seen))

pub scan_left : (f : Forest) → T (ok f) → (seen : List Bool) → scan Left f seen ≡ provided (is_symbolic f) (marks f seen)
scan_left nil x seen = refl
scan_left (node a cs ss) x seen =
    let o = okay a cs ss x in
    let r = kind a in
    let m = marks cs (flagged Left (kind a) seen) in
    grouped (provided (passes Left r seen) (flagged Left r seen)) (λ s. scan (below Left r) cs s) (λ s. scan Left ss s) ∙
    (ap (λ (o : Option (List Bool)). o >>= λ s. scan Left ss s) (left_here r cs seen (placed_of a cs o.allowed) (scan_left cs o.children)) ∙
    (after (symbolic_at (role_of r) && is_symbolic cs) (marks cs (flagged Left r seen)) (scan_left ss o.rest) ∙
    ap (λ (q : Role). provided (symbolic_at q && is_symbolic cs && is_symbolic ss) (marks ss m)) (sym (role_kind a))))
  where
    after : (t : Bool) (s : List Bool) → ((s : List Bool) → scan Left ss s ≡ provided (is_symbolic ss) (marks ss s)) → (provided t s >>= λ s. scan Left ss s) ≡ provided (t && is_symbolic ss) (marks ss s)
    after true s h = h s
    after false s h = refl

flagged_length : (r : Kind) (seen : List Bool) → length (flagged Left r seen) ≡ length seen
flagged_length (a_variable v) seen = length-set seen v true
flagged_length (a_call c) seen = refl
flagged_length plain seen = refl
flagged_length literal seen = refl

marks_length : (f : Forest) (seen : List Bool) → length (marks f seen) ≡ length seen
marks_length nil seen = refl
marks_length (node a cs ss) seen = marks_length ss (marks cs (flagged Left (kind a) seen)) ∙ (marks_length cs (flagged Left (kind a) seen) ∙ flagged_length (kind a) seen)

flag_set : (seen : List Bool) (w v : ℕ) → v < length seen → get_or (set seen w true) v false ≡ (eqb v w || get_or seen v false)
flag_set seen w v h = pick (eqb v w) refl
  where
    pick : (b : Bool) → eqb v w ≡ b → get_or (set seen w true) v false ≡ (b || get_or seen v false)
    pick true e =
        let q = eqb-true v w e in
        let k : w < length seen = omega arith in
        ap (λ (n : ℕ). get_or (set seen w true) n false) q ∙ get_or-set_same seen w true false k
    pick false e = get_or-set_other seen w v true false (eqb-false v w e)

-- after a list of terms a flag is set if its variable occurs there, or it was set before
flag_here : (r : Kind) (cs : Forest) (seen : List Bool) (v : ℕ) → Placed r cs → v < length seen → get_or (marks cs (flagged Left r seen)) v false ≡ (occurs v cs || get_or (flagged Left r seen) v false) →
    get_or (marks cs (flagged Left r seen)) v false ≡ (occurs_at v (role_of r) (occurs v cs) || get_or seen v false)
flag_here (a_variable w) cs seen v p h e = ap (λ (f : Forest). get_or (marks f (set seen w true)) v false) p.childless ∙ flag_set seen w v h
flag_here (a_call c) cs seen v p h e = e
flag_here plain cs seen v p h e = e
flag_here literal cs seen v p h e = e

pub flag_after : (f : Forest) → T (ok f) → (seen : List Bool) (v : ℕ) → v < length seen → get_or (marks f seen) v false ≡ (occurs v f || get_or seen v false)
flag_after nil x seen v h = refl
flag_after (node a cs ss) x seen v h =
    let o = okay a cs ss x in
    let r = kind a in
    let m = marks cs (flagged Left r seen) in
    let n = flagged_length r seen in
    let k = marks_length cs (flagged Left r seen) in
    let c = flag_after cs o.children (flagged Left r seen) v (omega arith) in
    flag_after ss o.rest m v (omega arith) ∙
    (ap (λ (b : Bool). occurs v ss || b) (flag_here r cs seen v (placed_of a cs o.allowed) h c ∙ ap (λ (q : Role). occurs_at v q (occurs v cs) || get_or seen v false) (sym (role_kind a))) ∙
    swapped (occurs v ss) (occurs_at v (role a) (occurs v cs)) (get_or seen v false))
  where
    swapped : (a b c : Bool) → (a || (b || c)) ≡ (b || a || c)
    swapped true true c = refl
    swapped true false c = refl
    swapped false true c = refl
    swapped false false c = refl

-- the flags after a left, all of them unset before, are its variables
pub knows_left : (left : Forest) → T (ok left) → Knows (marks left (replicate variables false)) left
knows_left left x = record { flag = λ v h. flag_after left x (replicate variables false) v h ∙ (ap (λ (b : Bool). occurs v left || b) (get_or-replicate variables v false false h) ∙ or-false (occurs v left)) }
