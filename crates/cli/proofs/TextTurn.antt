-- The returns of the routines that put an answer's text: texts one behind the other.
use mathlib.Core.Path.{◌≡◌, ap}
use mathlib.Core.List.{List, ◌++◌, map, append-nil, append_assoc}
use Prim.Native.Nat.{ℕ, ◌≤◌}
use lib.IntN.{ℤ}
use lib.ListN.{length}
use Rattle.minuska.specs.declared.Refusal.{Refusal}
use Rattle.minuska.specs.Answer.{number}
use Rattle.minuska.specs.Slice.{replay_says}
use Rattle.decimal.specs.declared.print.Text.{Text}
use Rattle.decimal.specs.Decimal.{ascii, decimal, whole_text}
use Rattle.decimal.specs.Line.{continued, parted}
use Rattle.decimal.specs.Computed.Put.{Puts}
use Rattle.decimal.proofs.PrintTurn.{puts_then}
use Rattle.cli.specs.Output.{reproduced_text, refused_text}

refused_is : (r : Refusal) → refused_text r ≡ ascii "refused," ++ decimal (number r) ++ ascii "\n"
unfolding replay_says
refused_is r = ap (λ (l : List ℕ). ascii "refused," ++ l ++ ascii "\n") (append-nil (decimal (number r)))

pub puts_refused : (r : Refusal) (a b c d : Text) → Puts a (ascii "refused,") b → Puts b (decimal (number r)) c → Puts c (ascii "\n") d
    → b.at ≤ length b.output.now → c.at ≤ length c.output.now → Puts a (refused_text r) d
puts_refused r a b c d p q s h i =
    rw (refused_is r) (puts_then a (ascii "refused,") b (decimal (number r) ++ ascii "\n") d p (puts_then b (decimal (number r)) c (ascii "\n") d q s i) h)

reproduced_is : (ns : List ℕ) (ws : List ℤ) → reproduced_text ns ws ≡ ascii "reproduced," ++ (decimal (length ns) ++ (continued (map decimal ns) ++ (ascii "\n" ++ (parted (map whole_text ws) ++ ascii "\n"))))
reproduced_is ns ws = simp append_assoc

pub puts_reproduced : (ns : List ℕ) (ws : List ℤ) (a b c d e f g : Text) → Puts a (ascii "reproduced,") b → Puts b (decimal (length ns)) c → Puts c (continued (map decimal ns)) d
    → Puts d (ascii "\n") e → Puts e (parted (map whole_text ws)) f → Puts f (ascii "\n") g
    → b.at ≤ length b.output.now → c.at ≤ length c.output.now → d.at ≤ length d.output.now → e.at ≤ length e.output.now → f.at ≤ length f.output.now → Puts a (reproduced_text ns ws) g
puts_reproduced ns ws a b c d e f g p q r s t u h i j k l =
    rw (reproduced_is ns ws)
    (puts_then a (ascii "reproduced,") b _ g p
    (puts_then b (decimal (length ns)) c _ g q
    (puts_then c (continued (map decimal ns)) d _ g r
    (puts_then d (ascii "\n") e _ g s
    (puts_then e (parted (map whole_text ws)) f (ascii "\n") g t u l) k) j) i) h)
