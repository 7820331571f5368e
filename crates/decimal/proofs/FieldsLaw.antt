-- The fields: words and actions of a line, the log, which may be empty, and the limit.
use mathlib.Core.Path.{◌≡◌, refl, sym, ap, ◌∙◌, subst}
use mathlib.Core.Bool.{Bool, true, false, cond}
use mathlib.Core.List.{List, [], ◌∷◌, map, append-nil}
use Prim.Native.Nat.{ℕ, suc, ◌+◌, ◌^◌, ◌≤◌, ◌<◌}
use native.Mathlib.Omega.{arith}
use lib.IntN.{ℤ, pos, negsuc}
use lib.Dec.{T, eqb, leb, ltb→lt}
use lib.ListN.{length, length-append}
use borrow.Author.Tests.{eq-eqb, eqb-true, le-leb}
use Rattle.minuska.specs.Basics.{every}
use Rattle.std.specs.Prelude.{Option, None, Some}
use Rattle.decimal.specs.declared.number.Reading.{Reading}
use Rattle.decimal.specs.Decimal.{decimal, whole_text}
use Rattle.decimal.specs.Line.{continued, parted, is_word, is_action, is_limit}
use Rattle.decimal.specs.Computed.Number.{number_at}
use Rattle.decimal.specs.Computed.Line.{item_of, end_of, log_items, accepted, limit_in, word_of, action_of, limit_of}
use Rattle.decimal.proofs.ListLaw.{within}
use Rattle.decimal.specs.Number.{number_of, Small, Standing}
use Rattle.decimal.proofs.NumberLaw.{text_there, number_complete}
use Rattle.decimal.proofs.SoundLaw.{Sound, number_sound}
use Rattle.decimal.proofs.LineLaw.{kept_some, kept_true, FieldLaw, text_pos, no_bytes, field_complete, field_sound}

pub words : FieldLaw (λ z. z) whole_text is_word word_of
words = record { texts = λ z. refl; sound = λ z x e. let (t, q) = kept_some (is_word z) z x e in (q, subst (λ (y : ℤ). T (is_word y)) q t); complete = λ z t. kept_true (is_word z) z t; small = small }
  where
    small : (z : ℤ) → T (is_word z) → Small z
    small (pos n) t = omega (arith, ltb→lt n (2 ^ 63) t)
    small (negsuc n) t = omega (arith, ltb→lt n (2 ^ 63) t)

pub actions : FieldLaw pos decimal is_action action_of
unfolding whole_text
actions = record { texts = λ n. refl; sound = sound; complete = λ n t. kept_true (is_action n) n t; small = λ n t. omega (arith, ltb→lt n (2 ^ 16) t) }
  where
    sound : (z : ℤ) (n : ℕ) → action_of z ≡ Some n → (z ≡ pos n) × T (is_action n)
    sound (pos m) n e = let (t, q) = kept_some (is_action m) m n e in (ap pos q, subst (λ (k : ℕ). T (is_action k)) q t)
    sound (negsuc m) n e = let z : ◌≡◌ {A = ℕ} 0 1 = cc in absurd (omega arith)

-- an empty log; a log line
pub log_complete : (line : List ℕ) (room : ℕ) (xs : List ℕ) → line ≡ parted (map decimal xs) → T (every is_action xs) → length xs ≤ room → accepted room (log_items line) ≡ Some xs
unfolding accepted log_items
log_complete [] room [] s t q = rw (le-leb 0 room q)
log_complete [] room (x ∷ xs) s t q =
    let p : 0 < length (decimal x) = text_pos pos decimal is_action action_of actions [] x in
    let z : 0 ≡ length (decimal x) + length (continued (map decimal xs)) = ap length s ∙ length-append (decimal x) (continued (map decimal xs)) in
    absurd (omega arith)
log_complete (b ∷ bs) room [] s t q = let z : suc (length bs) ≡ 0 = ap length s in absurd (omega arith)
log_complete (b ∷ bs) room (x ∷ xs) s t q = field_complete pos decimal is_action action_of actions (b ∷ bs) room (x ∷ xs) s t (omega arith) q

pub log_sound : (line : List ℕ) (room : ℕ) (xs : List ℕ) → accepted room (log_items line) ≡ Some xs → (line ≡ parted (map decimal xs)) × T (every is_action xs) × (length xs ≤ room)
unfolding accepted log_items
log_sound [] room xs e = let (t, l) = kept_some (leb 0 room) [] xs e in rw (← l) (refl, tt, omega arith)
log_sound (b ∷ bs) room xs e = let s = field_sound pos decimal is_action action_of actions (b ∷ bs) room xs e in (s.0, s.1, s.3)

-- ---- the limit
pub limit_complete : (line : List ℕ) (n : ℕ) → line ≡ decimal n → T (is_limit n) → limit_in line ≡ Some n
unfolding limit_in whole_text
limit_complete line n s t =
    let r : number_at line 0 ≡ number_of (pos n) (0 + length (decimal n)) = number_complete line 0 (pos n) [] (s ∙ sym (append-nil (decimal n))) (ltb→lt n (2 ^ 64) t) tt in
    let e : 0 + length (decimal n) ≡ length line = rw s (omega arith) in
    rw (r, eq-eqb (0 + length (decimal n)) (length line) e) (kept_true (is_limit n) n t)

all_of : (line : List ℕ) (n e : ℕ) → Standing line 0 (pos n) e → e ≡ length line → line ≡ decimal n
unfolding whole_text
all_of line n e h q =
    let w = within line 0 (whole_text (pos n)) h.rest h.text (text_there (pos n)) in
    let nothing : h.rest ≡ [] = no_bytes h.rest (omega (arith, h.ends, w, q)) in
    h.text ∙ (rw nothing (append-nil (decimal n)))

by_limit : (line : List ℕ) (n : ℕ) (z : ℤ) (e : ℕ) → Standing line 0 z e → e ≡ length line → limit_of z ≡ Some n → (line ≡ decimal n) × T (is_limit n)
by_limit line n (pos m) e h q f = let (t, l) = kept_some (is_limit m) m n f in rw (← l) (all_of line m e h q, t)
by_limit line n (negsuc m) e h q f = let z : ◌≡◌ {A = ℕ} 0 1 = cc in absurd (omega arith)

no_limit : (b : Bool) (n : ℕ) → cond b None None ≡ Some n → ⊥
no_limit true n g = let z : ◌≡◌ {A = ℕ} 0 1 = cc in omega arith
no_limit false n g = let z : ◌≡◌ {A = ℕ} 0 1 = cc in omega arith

by_reading : (line : List ℕ) (n : ℕ) (x : Option Reading) → Sound line 0 x → cond (eqb (end_of x) (length line)) (item_of limit_of x) None ≡ Some n → (line ≡ decimal n) × T (is_limit n)
by_reading line n None h f = absurd (no_limit (eqb 0 (length line)) n f)
by_reading line n (Some r) h f = by_test (eqb r.end (length line)) refl f
  where
    by_test : (b : Bool) → eqb r.end (length line) ≡ b → cond b (limit_of r.number) None ≡ Some n → (line ≡ decimal n) × T (is_limit n)
    by_test true p f = by_limit line n r.number r.end h (eqb-true r.end (length line) p) f
    by_test false p f = let z : ◌≡◌ {A = ℕ} 0 1 = cc in absurd (omega arith)

pub limit_sound : (line : List ℕ) (n : ℕ) → limit_in line ≡ Some n → (line ≡ decimal n) × T (is_limit n)
unfolding limit_in
limit_sound line n e = by_reading line n (number_at line 0) (number_sound line 0) e
