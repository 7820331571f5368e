-- The input is read exactly if it is the text of a request, and then as that request.
use mathlib.Core.Path.{◌≡◌, refl, sym, ap, ◌∙◌}
use mathlib.Core.Bool.{Bool, true}
use mathlib.Core.Logic.{◌↔◌}
use mathlib.Core.List.{List, [], ◌∷◌, ◌++◌, map, append-nil, append_assoc}
use Prim.Native.Nat.{ℕ, suc, ◌+◌, ◌/◌, ◌%◌, ◌≤◌}
use native.Mathlib.Omega.{arith}
use lib.IntN.{ℤ, pos, negsuc}
use lib.Dec.{T}
use lib.ListN.{length, length-append}
use Rattle.minuska.specs.Basics.{every}
use Rattle.minuska.proofs.Tests.{and_left, and_both}
use Rattle.std.specs.Prelude.{Option, None, Some, option_map}
use Rattle.decimal.specs.Decimal.{digits, decimal, whole_text}
use Rattle.decimal.specs.Line.{continued, parted, is_word, is_action, is_limit}
use Rattle.cli.specs.Input.{line, Request, input_text, Field, IsInput}
use Rattle.decimal.specs.Computed.Line.{word_of, items, log_items, accepted, limit_in}
use Rattle.cli.specs.Computed.Lines.{FourLines, lines_of, request_of, request_in}
use Rattle.decimal.proofs.DecimalLaw.{digits_zero, digits_less, decimal_is, by_tenths}
use Rattle.decimal.proofs.LineLaw.{field_complete, field_sound}
use Rattle.decimal.proofs.FieldsLaw.{words, log_complete, log_sound, limit_complete, limit_sound}
use Rattle.cli.proofs.LinesLaw.{came, NoLf, Lined, lines_sound, lines_complete}

-- ---- no number has an LF
no_lf_append : (l m : List ℕ) → NoLf l → NoLf m → NoLf (l ++ m)
no_lf_append [] m p q = q
no_lf_append (b ∷ l) m p q = (p.0, no_lf_append l m p.1 q)

no_lf_digits : (n : ℕ) → NoLf (digits n)
no_lf_digits = by_tenths (λ n. NoLf (digits n)) (rw digits_zero tt) (λ n p i. rw (digits_less n p) (no_lf_append (digits (n / 10)) ((48 + n % 10) ∷ []) i ((λ e. omega arith), tt)))

no_lf_decimal : (n : ℕ) → NoLf (decimal n)
no_lf_decimal n = rw (decimal_is n) (no_lf_append (digits (n / 10)) ((48 + n % 10) ∷ []) (no_lf_digits (n / 10)) ((λ e. omega arith), tt))

no_lf_whole : (z : ℤ) → NoLf (whole_text z)
unfolding whole_text
no_lf_whole (pos n) = no_lf_decimal n
no_lf_whole (negsuc n) = ((λ e. omega arith), no_lf_decimal (suc n))

module _ {A : Type 0} (text : A → List ℕ) (none_has : (x : A) → NoLf (text x)) where
  no_lf_continued : (xs : List A) → NoLf (continued (map text xs))
  no_lf_continued [] = tt
  no_lf_continued (x ∷ xs) = ((λ e. omega arith), no_lf_append (text x) (continued (map text xs)) (none_has x) (no_lf_continued xs))

  no_lf_parted : (xs : List A) → NoLf (parted (map text xs))
  no_lf_parted [] = tt
  no_lf_parted (x ∷ xs) = no_lf_append (text x) (continued (map text xs)) (none_has x) (no_lf_continued xs)

-- ---- the text of a request is its four lines
four : (a b c d : List ℕ) → (a ++ (10 ∷ [])) ++ ((b ++ (10 ∷ [])) ++ ((c ++ (10 ∷ [])) ++ (d ++ (10 ∷ [])))) ≡ a ++ (10 ∷ (b ++ (10 ∷ (c ++ (10 ∷ (d ++ (10 ∷ [])))))))
four a b c d = simp append_assoc

one_number : (n : ℕ) → parted (decimal n ∷ []) ≡ decimal n
one_number n = append-nil (decimal n)

module _ (q : Request) where
  text_lines : input_text q ≡ parted (map whole_text q.table) ++ (10 ∷ (parted (map whole_text q.configuration) ++ (10 ∷ (parted (map decimal q.log) ++ (10 ∷ (parted (decimal q.limit ∷ []) ++ (10 ∷ [])))))))
  unfolding input_text
  text_lines = four (parted (map whole_text q.table)) (parted (map whole_text q.configuration)) (parted (map decimal q.log)) (parted (decimal q.limit ∷ []))

-- ---- complete
-- the lines of a request's text
abbrev lines_text : Request → FourLines
lines_text q = record { table = parted (map whole_text q.table); configuration = parted (map whole_text q.configuration); log = parted (map decimal q.log); limit = parted (decimal q.limit ∷ []) }

lines_read : (q : Request) → accepted 2048 (items word_of (lines_text q).table) ≡ Some q.table → accepted 1024 (items word_of (lines_text q).configuration) ≡ Some q.configuration
    → accepted 256 (log_items (lines_text q).log) ≡ Some q.log → limit_in (lines_text q).limit ≡ Some q.limit → request_of (lines_text q) ≡ Some q
unfolding request_of
lines_read q a b c d = rw (a, b, c, d)

request_complete : (input : List ℕ) (q : Request) → IsInput input q → request_in input ≡ Some q
unfolding request_in
request_complete input q h =
    let limit : T (is_limit q.limit) = and_left (is_limit q.limit) true h.limit.each in
    let cut : lines_of input ≡ Some (lines_text q) = ap lines_of (h.text ∙ text_lines q) ∙
    lines_complete (parted (map whole_text q.table)) (parted (map whole_text q.configuration)) (parted (map decimal q.log)) (parted (decimal q.limit ∷ []))
    (no_lf_parted whole_text no_lf_whole q.table) (no_lf_parted whole_text no_lf_whole q.configuration) (no_lf_parted decimal no_lf_decimal q.log) (no_lf_parted decimal no_lf_decimal (q.limit ∷ []))
    h.table.short h.configuration.short h.log.short h.limit.short in
    rw cut
    (lines_read q
    (field_complete (λ z. z) whole_text is_word word_of words (parted (map whole_text q.table)) 2048 q.table refl h.table.each h.table.enough h.table.few)
    (field_complete (λ z. z) whole_text is_word word_of words (parted (map whole_text q.configuration)) 1024 q.configuration refl h.configuration.each h.configuration.enough h.configuration.few)
    (log_complete (parted (map decimal q.log)) 256 q.log refl h.log.each h.log.few)
    (limit_complete (parted (decimal q.limit ∷ [])) q.limit (one_number q.limit) limit))

-- ---- sound
-- a line that holds numbers of a field
held : {A : Type 0} (text : A → List ℕ) (fits : A → Bool) (least most : ℕ) (l : List ℕ) (xs : List A) → l ≡ parted (map text xs) → T (every fits xs) → least ≤ length xs → length xs ≤ most → length l ≤ 16384 → Field text fits least most xs
held text fits least most l xs e t p q r = record { each = t; enough = p; few = q; short = rw (← e) r }

record LinesHeld (q : Request) (lines : FourLines) : Type 0 where
  pub table : accepted 2048 (items word_of lines.table) ≡ Some q.table
  pub configuration : accepted 1024 (items word_of lines.configuration) ≡ Some q.configuration
  pub log : accepted 256 (log_items lines.log) ≡ Some q.log
  pub limit : limit_in lines.limit ≡ Some q.limit

came_by : {A B : Type 0} (f : A → B) (o : Option A) (b : B) → option_map f o ≡ Some b → (a : A) × (o ≡ Some a) × (f a ≡ b)
came_by f None b e = let z : ◌≡◌ {A = ℕ} 0 1 = cc in absurd (omega arith)
came_by f (Some a) b e = let g : f a ≡ b = cc in (a, refl, g)

lines_held : (q : Request) (lines : FourLines) → request_of lines ≡ Some q → LinesHeld q lines
unfolding request_of
lines_held q lines e =
    let (table, a, e1) = came _ (accepted 2048 (items word_of lines.table)) q e in
    let (configuration, b, e2) = came _ (accepted 1024 (items word_of lines.configuration)) q e1 in
    let (log, c, e3) = came _ (accepted 256 (log_items lines.log)) q e2 in
    let (limit, d, is) = came_by _ (limit_in lines.limit) q e3 in
    record { table = a ∙ ap (λ (r : Request). Some r.table) is; configuration = b ∙ ap (λ (r : Request). Some r.configuration) is; log = c ∙ ap (λ (r : Request). Some r.log) is; limit = d ∙ ap (λ (r : Request). Some r.limit) is }

by_held : (input : List ℕ) (q : Request) (lines : FourLines) → Lined input lines → LinesHeld q lines → IsInput input q
by_held input q lines h k =
    let (e1, t1, p1, r1) = field_sound (λ z. z) whole_text is_word word_of words lines.table 2048 q.table k.table in
    let (e2, t2, p2, r2) = field_sound (λ z. z) whole_text is_word word_of words lines.configuration 1024 q.configuration k.configuration in
    let (e3, t3, r3) = log_sound lines.log 256 q.log k.log in
    let (e4, t4) = limit_sound lines.limit q.limit k.limit in
    record {
      text = h.text ∙ (rw (e1, e2, e3, e4, ← one_number q.limit) (sym (text_lines q)));
      table = held whole_text is_word 1 2048 lines.table q.table e1 t1 p1 r1 h.table;
      configuration = held whole_text is_word 1 1024 lines.configuration q.configuration e2 t2 p2 r2 h.configuration;
      log = held decimal is_action 0 256 lines.log q.log e3 t3 (omega arith) r3 h.log;
      limit = held decimal is_limit 1 1 lines.limit (q.limit ∷ []) (e4 ∙ sym (one_number q.limit)) (and_both (is_limit q.limit) true t4 tt) (omega arith) (omega arith) h.limit;
    }

request_sound : (input : List ℕ) (q : Request) → request_in input ≡ Some q → IsInput input q
unfolding request_in
request_sound input q e =
    let (lines, cut, f) = came request_of (lines_of input) q e in
    by_held input q lines (lines_sound input lines cut) (lines_held q lines f)

pub request_iff : (input : List ℕ) (q : Request) → (request_in input ≡ Some q) ↔ IsInput input q
request_iff input q = (request_sound input q, request_complete input q)

-- "At most 16,384 bytes a line without its LF": the longest input
line_length : (ts : List (List ℕ)) → length (parted ts) ≤ 16384 → length (line ts) ≤ 16385
line_length ts p = rw length-append (omega arith)

four_length : (a b c d : List ℕ) → length a ≤ 16385 → length b ≤ 16385 → length c ≤ 16385 → length d ≤ 16385 → length (a ++ (b ++ (c ++ d))) ≤ 65540
four_length a b c d p q r s = simp length-append (omega arith)

pub input_length : (input : List ℕ) (q : Request) → IsInput input q → length input ≤ 65540
unfolding input_text
input_length input q h =
    rw h.text
    (four_length (line (map whole_text q.table)) (line (map whole_text q.configuration)) (line (map decimal q.log)) (line (decimal q.limit ∷ []))
    (line_length (map whole_text q.table) h.table.short) (line_length (map whole_text q.configuration) h.configuration.short) (line_length (map decimal q.log) h.log.short) (line_length (decimal q.limit ∷ []) h.limit.short))
