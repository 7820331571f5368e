-- In range and in order, node by node, is `ok`.
use lib.Dec.{T}
use Rattle.minuska.specs.Term.{Label, Forest, nil, node, term_count}
use Rattle.minuska.specs.Word.{ok_head, ok_below, ok}
use Rattle.minuska.specs.Bridge.Shape.{shapely, ordered}
use Rattle.minuska.proofs.Tests.{and_both, and_parts, and_all}
use Rattle.minuska.proofs.WordLaw.{okay, okay_all, head_okay, below_okay}

-- ---- a shapely list, part by part
pub record Shaped (l : Label) (cs ss : Forest) : Type 0 where
  pub head : T (ok_head l (term_count cs))
  pub children : T (shapely cs)
  pub rest : T (shapely ss)

pub shaped : (l : Label) (cs ss : Forest) → T (shapely (node l cs ss)) → Shaped l cs ss
shaped l cs ss x =
    let o = and_parts (ok_head l (term_count cs)) (shapely cs) (shapely ss) x in record { head = o.0; children = o.1; rest = o.2 }

pub shaped_all : (l : Label) (cs ss : Forest) → T (ok_head l (term_count cs)) → T (shapely cs) → T (shapely ss) → T (shapely (node l cs ss))
shaped_all l cs ss = and_all (ok_head l (term_count cs)) (shapely cs) (shapely ss)

pub ok_shapely : (f : Forest) → T (ok f) → T (shapely f)
ok_shapely nil x = tt
ok_shapely (node l cs ss) x = let o = okay l cs ss x in shaped_all l cs ss (head_okay l cs o.allowed) (ok_shapely cs o.children) (ok_shapely ss o.rest)

pub ok_ordered : (f : Forest) → T (ok f) → T (ordered f)
ok_ordered nil x = tt
ok_ordered (node l cs ss) x =
    let o = okay l cs ss x in
    and_all (ok_below l cs) (ordered cs) (ordered ss) (below_okay l cs o.allowed) (ok_ordered cs o.children) (ok_ordered ss o.rest)

pub shapely_ok : (f : Forest) → T (shapely f) → T (ordered f) → T (ok f)
shapely_ok nil x y = tt
shapely_ok (node l cs ss) x y =
    let s = shaped l cs ss x in
    let o = and_parts (ok_below l cs) (ordered cs) (ordered ss) y in
    okay_all l cs ss (and_both (ok_head l (term_count cs)) (ok_below l cs) s.head o.0) (shapely_ok cs s.children o.1) (shapely_ok ss s.rest o.2)
