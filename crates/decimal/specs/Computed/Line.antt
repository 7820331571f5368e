-- All numbers of a line, for a field: what a whole number is there, if anything.
use Rattle.std.specs.Prelude.{Bool, true, false, cond, ◌&&◌, List, [], ◌∷◌, ℕ, zero, suc, ℤ, pos, negsuc, eqb, leb, length, take, ◌≡◌, Option, None, Some, option_map}
use Rattle.minuska.specs.Slice.{write}
use Rattle.decimal.specs.declared.number.Reading.{Reading}
use Rattle.decimal.specs.Line.{is_word, is_action, is_limit}
use Rattle.decimal.specs.Computed.Number.{number_at}

-- the value where the test passes
abbrev pub kept : {A : Type 0} → Bool → A → Option A
kept true x = Some x
kept false x = None

-- the three fields
abbrev pub word_of : ℤ → Option ℤ
word_of z = kept (is_word z) z

abbrev pub action_of : ℤ → Option ℕ
action_of (pos n) = kept (is_action n) n
action_of (negsuc n) = None

abbrev pub limit_of : ℤ → Option ℕ
limit_of (pos n) = kept (is_limit n) n
limit_of (negsuc n) = None

-- a number that was read, as a field has it, and its end
abbrev pub item_of : {A : Type 0} → (ℤ → Option A) → Option Reading → Option A
item_of field None = None
item_of field (Some r) = field r.number

abbrev pub end_of : Option Reading → ℕ
end_of None = 0
end_of (Some r) = r.end

-- The numbers before the first fault, and whether there was none.
pub record Items (A : Type 0) : Type 0 where
  pub read : List A
  pub whole : Bool

-- a number, and behind it the line's end, or a comma and the rest
abbrev pub followed : {A : Type 0} → Bool → A → Items A → Items A
followed true x rest = record { read = x ∷ []; whole = true }
followed false x rest = record { read = x ∷ rest.read; whole = rest.whole }

module _ {A : Type 0} (field : ℤ → Option A) (line : List ℕ) where
  abbrev pub then_rest : (ℕ → Items A) → ℕ → Option A → Items A
  then_rest rest e None = record { read = []; whole = false }
  then_rest rest e (Some x) = followed (eqb e (length line)) x (rest (suc e))

  -- from a place on; the first argument bounds the recursion
  unfoldable pub items_from : ℕ → ℕ → Items A
  items_from zero at = record { read = []; whole = false }
  items_from (suc f) at = then_rest (λ e. items_from f e) (end_of (number_at line at)) (item_of field (number_at line at))

-- of the whole line
unfoldable pub items : {A : Type 0} → (ℤ → Option A) → List ℕ → Items A
items field line = items_from field line (suc (length line)) 0

-- an empty line is the empty log
unfoldable pub log_items : List ℕ → Items ℕ
log_items [] = record { read = []; whole = true }
log_items (b ∷ bs) = items action_of (b ∷ bs)

-- the numbers, where all were read and there is room for them
unfoldable pub accepted : {A : Type 0} → ℕ → Items A → Option (List A)
accepted room i = kept (i.whole && leb (length i.read) room) i.read

-- "The ceiling line holds one number."
unfoldable pub limit_in : List ℕ → Option ℕ
limit_in line = cond (eqb (end_of (number_at line 0)) (length line)) (item_of limit_of (number_at line 0)) None

-- A line was read into a slice, which has a prime afterwards: how many numbers it holds, if all were read and there is room for them. The numbers before the
-- first fault stand there, as many as there is room for, and what is behind them keeps.
pub record ReadInto {A : Type 0} (i : Items A) (out out' : List A) (r : Option ℕ) : Type 0 where
  pub answer : r ≡ option_map length (accepted (length out) i)
  pub leaves : out' ≡ write (take (length out) i.read) out
