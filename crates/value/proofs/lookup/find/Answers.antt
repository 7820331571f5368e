use mathlib.Core.Path.{◌≡◌, refl, sym, ◌∙◌, ap}
use Prim.Native.Nat.{ℕ}
use native.Mathlib.Omega.{arith}
use lib.Dec.{lit<}
use lib.IntN.{pos}
use lib.ListN.{get_or}
use mir.Syntax.{w64}
use mir.Val.{SFits, of_z}
use mir.Facts.{to_z-of_z}
use borrow.Author.Rules.{rules}
use Rattle.std.specs.Prelude as S
use Rattle.std.specs.Result.{result_ok}
use Rattle.term.specs.declared.Span.{Span}
use Rattle.value.proofs.SignedLaw.{lit_pos}
use Rattle.value.proofs.LookupLaw.{find_other, counted, entries_in, find_absent, find_here, find_room}
use Rattle.value.proofs.lookup.find.Goals as goal

-- what was searched, by what is left of it: an entry, or none
an_entry : (r : S.Result Span ℕ) (x : Span) → result_ok r ≡ S.Some x → r ≡ S.Ok x
an_entry (S.Ok y) x e = cc
an_entry (S.Err i) x e = cc

no_entry : (r : S.Result Span ℕ) → result_ok r ≡ S.None → (i : ℕ) × (r ≡ S.Err i)
no_entry (S.Ok y) e = absurd (cc)
no_entry (S.Err i) e = (i, refl)

pub returns-then-s-at-ne-DICTIONARY : goal.returns-then-s-at-ne-DICTIONARY
returns-then-s-at-ne-DICTIONARY c = find_other _ (λ e. c.if-s-at-ne-DICTIONARY.true (ap (of_z w64) e))

pub search-requires : goal.search-requires
search-requires c =
    let f : SFits w64 (get_or c.args.s.now c.args.at (pos 0)) = search rules in
    let e = lit_pos _ 5 f.sfits (lit< tt) c.if-s-at-ne-DICTIONARY.false in
    let n = counted e c.requires in
    rw n.back (entries_in e n.n n.is c.requires)

pub overflow_add-result : goal.overflow_add-result
overflow_add-result c =
    let f : SFits w64 (get_or c.args.s.now c.args.at (pos 0)) = search rules in
    let e = lit_pos _ 5 f.sfits (lit< tt) c.if-s-at-ne-DICTIONARY.false in
    let n = counted e c.requires in
    let r = find_room e n.n n.is _ c.requires c.in_ok-entry.entry (rw (to_z-of_z c.ranges.key, n.back, an_entry c.search.result _ (sym c.ok.ensures.value ∙ c.in_ok-entry.was)) at c.search.ensures) in
    omega arith

pub returns : goal.returns
returns c =
    let f : SFits w64 (get_or c.args.s.now c.args.at (pos 0)) = search rules in
    let e = lit_pos _ 5 f.sfits (lit< tt) c.if-s-at-ne-DICTIONARY.false in
    let n = counted e c.requires in
    find_here e n.n n.is _ c.in_ok-entry.entry (rw (to_z-of_z c.ranges.key, n.back, an_entry c.search.result _ (sym c.ok.ensures.value ∙ c.in_ok-entry.was)) at c.search.ensures)

pub returns-in_err-entry : goal.returns-in_err-entry
returns-in_err-entry c =
    let f : SFits w64 (get_or c.args.s.now c.args.at (pos 0)) = search rules in
    let e = lit_pos _ 5 f.sfits (lit< tt) c.if-s-at-ne-DICTIONARY.false in
    let n = counted e c.requires in
    let (i, p) = no_entry c.search.result (sym c.ok.ensures.value ∙ c.in_err-entry.was) in
    rw c.from_residual.ensures (find_absent e n.n n.is _ i (rw (to_z-of_z c.ranges.key, n.back, p) at c.search.ensures))
