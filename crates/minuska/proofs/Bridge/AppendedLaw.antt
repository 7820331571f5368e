-- Lists of terms one behind another: their words, their tests, their counts.
use mathlib.Core.Path.{◌≡◌, refl, sym, ◌∙◌, ap}
use mathlib.Core.Bool.{Bool, true, false, ◌&&◌}
use mathlib.Core.List.{List, ◌∷◌, ◌++◌, append-nil}
use Prim.Native.Nat.{ℕ, ◌+◌}
use native.Mathlib.Omega.{arith}
use lib.Dec.{T}
use lib.IntN.{ℤ}
use Rattle.minuska.specs.Term.{Label, error, truth, whole, variable, call, symbol, dictionary, Forest, nil, node, term_count, every_label, ground_at, role, is_ground}
use Rattle.minuska.specs.Word.{tag_word, datum_word, ok_below, ok, encode}
use Rattle.minuska.specs.Bridge.Shape.{shapely, ordered, shut_at, closed}
use Rattle.minuska.proofs.Tests.{and_parts, and_all}
use Rattle.minuska.proofs.WordLaw.{okay, okay_all, appended}
use Rattle.minuska.proofs.Bridge.ShapeLaw.{shaped, shaped_all}

-- the first term's words, then the others'
pub first_words : (l : Label) (cs ss : Forest) → encode (node l cs ss) ≡ encode (node l cs nil) ++ encode ss
first_words l cs ss = ap (λ (x : List ℤ). tag_word l (term_count cs) ∷ datum_word l ∷ (x ++ encode ss)) (sym (append-nil (encode cs)))

pub appended_count : (f g : Forest) → term_count (appended f g) ≡ term_count f + term_count g
appended_count nil g = omega arith
appended_count (node l cs ss) g = let e = appended_count ss g in omega arith

pub appended_ok : (f g : Forest) → T (ok f) → T (ok g) → T (ok (appended f g))
appended_ok nil g x y = y
appended_ok (node l cs ss) g x y = let o = okay l cs ss x in okay_all l cs (appended ss g) o.allowed o.children (appended_ok ss g o.rest y)

-- a test of every label, part by part
pub record Labels (p : Label → Bool) (l : Label) (cs ss : Forest) : Type 0 where
  pub here : T (p l)
  pub children : T (every_label p cs)
  pub rest : T (every_label p ss)

pub labels : (p : Label → Bool) (l : Label) (cs ss : Forest) → T (every_label p (node l cs ss)) → Labels p l cs ss
labels p l cs ss x =
    let o = and_parts (p l) (every_label p cs) (every_label p ss) x in record { here = o.0; children = o.1; rest = o.2 }

pub labels_all : (p : Label → Bool) (l : Label) (cs ss : Forest) → T (p l) → T (every_label p cs) → T (every_label p ss) → T (every_label p (node l cs ss))
labels_all p l cs ss = and_all (p l) (every_label p cs) (every_label p ss)

pub appended_labels : (p : Label → Bool) (f g : Forest) → T (every_label p f) → T (every_label p g) → T (every_label p (appended f g))
appended_labels p nil g x y = y
appended_labels p (node l cs ss) g x y =
    let o = labels p l cs ss x in labels_all p l cs (appended ss g) o.here o.children (appended_labels p ss g o.rest y)

-- ---- the walk's tests: in range, in order, ground below a dictionary
pub appended_shapely : (f g : Forest) → T (shapely f) → T (shapely g) → T (shapely (appended f g))
appended_shapely nil g x y = y
appended_shapely (node l cs ss) g x y = let o = shaped l cs ss x in shaped_all l cs (appended ss g) o.head o.children (appended_shapely ss g o.rest y)

pub shapely_appended : (f g : Forest) → T (shapely (appended f g)) → T (shapely f) × T (shapely g)
shapely_appended nil g x = (tt, x)
shapely_appended (node l cs ss) g x =
    let o = shaped l cs (appended ss g) x in
    let i = shapely_appended ss g o.rest in
    (shaped_all l cs ss o.head o.children i.0, i.1)

three : (a b c : Bool) → (a && b && c) ≡ (a && (b && c))
three true b c = refl
three false b c = refl

pub ordered_appended : (f g : Forest) → ordered (appended f g) ≡ (ordered f && ordered g)
ordered_appended nil g = refl
ordered_appended (node l cs ss) g =
    let a = ok_below l cs && ordered cs in ap (λ (b : Bool). ok_below l cs && ordered cs && b) (ordered_appended ss g) ∙ sym (three a (ordered ss) (ordered g))

-- a node and its children in front of others are in order exactly if the node is over its children, and then these and the others are
pub ordered_node : (l : Label) (cs ss : Forest) → ordered (node l cs ss) ≡ (ok_below l cs && ordered (appended cs ss))
ordered_node l cs ss = three (ok_below l cs) (ordered cs) (ordered ss) ∙ sym (ap (λ (b : Bool). ok_below l cs && b) (ordered_appended cs ss))

pub record Closed (l : Label) (cs ss : Forest) : Type 0 where
  pub here : T (shut_at l (is_ground cs))
  pub children : T (closed cs)
  pub rest : T (closed ss)

pub closed_parts : (l : Label) (cs ss : Forest) → T (closed (node l cs ss)) → Closed l cs ss
closed_parts l cs ss x =
    let o = and_parts (shut_at l (is_ground cs)) (closed cs) (closed ss) x in record { here = o.0; children = o.1; rest = o.2 }

pub closed_all : (l : Label) (cs ss : Forest) → T (shut_at l (is_ground cs)) → T (closed cs) → T (closed ss) → T (closed (node l cs ss))
closed_all l cs ss = and_all (shut_at l (is_ground cs)) (closed cs) (closed ss)

pub appended_closed : (f g : Forest) → T (closed f) → T (closed g) → T (closed (appended f g))
appended_closed nil g x y = y
appended_closed (node l cs ss) g x y = let o = closed_parts l cs ss x in closed_all l cs (appended ss g) o.here o.children (appended_closed ss g o.rest y)

-- ground terms are ground below their dictionaries
shut_ground : (l : Label) (b : Bool) → T b → T (shut_at l b)
shut_ground error b x = tt
shut_ground (truth c) b x = tt
shut_ground (whole z) b x = tt
shut_ground (variable v) b x = tt
shut_ground (call c) b x = tt
shut_ground (symbol s) b x = tt
shut_ground (dictionary n) b x = x

pub ground_closed : (f : Forest) → T (is_ground f) → T (closed f)
ground_closed nil x = tt
ground_closed (node l cs ss) x =
    let o = labels (λ k. ground_at (role k)) l cs ss x in
    closed_all l cs ss (shut_ground l (is_ground cs) o.children) (ground_closed cs o.children) (ground_closed ss o.rest)

-- any children are allowed below a node that is no dictionary
pub below_other : (l : Label) (cs : Forest) → ((n : ℕ) → l ≡ dictionary n → ⊥) → ok_below l cs ≡ true
below_other error cs f = refl
below_other (truth b) cs f = refl
below_other (whole z) cs f = refl
below_other (variable v) cs f = refl
below_other (call c) cs f = refl
below_other (symbol s) cs f = refl
below_other (dictionary n) cs f = absurd (f n refl)
