-- Bridges to code: what one walk over words shows, that each node's own two words and its child count are in range; and what it does not, that a dictionary's
-- children are as they should be. `proofs/Bridge/ShapeLaw`: the two together are `ok`.
use Rattle.std.specs.Prelude.{Bool, true, ◌&&◌}
use Rattle.minuska.specs.Term.{Label, error, truth, whole, variable, call, symbol, dictionary, Forest, nil, node, term_count, is_ground}
use Rattle.minuska.specs.Word.{ok_head, ok_below}

abbrev pub shapely : Forest → Bool
shapely nil = true
shapely (node l cs ss) = ok_head l (term_count cs) && shapely cs && shapely ss

abbrev pub ordered : Forest → Bool
ordered nil = true
ordered (node l cs ss) = ok_below l cs && ordered cs && ordered ss

-- What stands below a dictionary is ground: "no variable and no call". The walks over a rule and over a configuration both know that before they ask for the order.
abbrev pub shut_at : Label → Bool → Bool
shut_at error grounded = true
shut_at (truth b) grounded = true
shut_at (whole z) grounded = true
shut_at (variable v) grounded = true
shut_at (call c) grounded = true
shut_at (symbol s) grounded = true
shut_at (dictionary n) grounded = grounded

abbrev pub closed : Forest → Bool
closed nil = true
closed (node l cs ss) = shut_at l (is_ground cs) && closed cs && closed ss
