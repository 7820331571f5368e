-- The words that a plan says, written one part behind another: a dictionary's root with what is in front of the entry and its key, the value, and what is behind.
use mathlib.Core.Path.{◌≡◌, sym, ◌∙◌, ap, subst, subst⁻¹}
use mathlib.Core.List.{List, [], ◌∷◌, ◌++◌}
use Prim.Native.Nat.{ℕ, ◌+◌, ◌-◌, ◌≤◌}
use native.Mathlib.Omega.{arith}
use lib.IntN.{ℤ, pos}
use lib.ListN.{length, take, drop, length-append, length-take, length-drop}
use lib.Seq.{take_all}
use mir.Syntax.{w64}
use mir.Val.{SFits, to_z, of_z}
use mir.Facts.{to_z-of_z}
use Rattle.std.specs.Prelude as S
use Rattle.value.specs.Copy.{PutContract}
use Rattle.value.specs.Update.{PlanFits, plan_words}
use Rattle.value.specs.declared.update.Plan.{Plan}
use Rattle.value.proofs.CopyLaw.{behind, put_back, put_room, put_then}
use Rattle.value.proofs.UpdateLaw.{kept_plan, kept_length}

-- a plan that is there: it fits the words behind a dictionary's root, and there is room for what it says
pub record Writes (out xs : List ℤ) (o : S.Option Plan) (vs : List ℤ) (p : Plan) (ws : List ℤ) : Type 0 where
  pub is : o ≡ S.Some p
  pub fits : PlanFits (drop 2 xs) p
  pub words : ws ≡ drop 2 xs
  pub room : length (plan_words xs o vs) ≤ length out

pub writes : {out xs : List ℤ} {o : S.Option Plan} {vs : List ℤ} {p : Plan} {ws : List ℤ} →
    o ≡ S.Some p → S.IfSome o (PlanFits (drop 2 xs)) → ws ≡ drop 2 xs → length (plan_words xs o vs) ≤ length out → Writes out xs o vs p ws
writes {xs = xs} is f words room = record { is = is; fits = subst (λ (q : S.Option Plan). S.IfSome q (PlanFits (drop 2 xs))) is f; words = words; room = room }

module _ {out xs : List ℤ} {o : S.Option Plan} {vs : List ℤ} {p : Plan} {ws : List ℤ} (w : Writes out xs o vs p ws) where
  all_room : 4 + p.replaced.from + length vs + (length ws - p.replaced.to) ≤ length out
  all_room =
      let a = w.room in
      let b = ap (λ (q : S.Option Plan). length (plan_words xs q vs)) w.is in
      let c = kept_length xs p vs w.fits in
      let d = ap length w.words in
      omega arith

  abbrev pub front : List ℤ
  front = (pos 5 ∷ pos p.count ∷ take p.replaced.from ws) ++ (pos 2 ∷ p.key ∷ [])

  abbrev pub last : List ℤ
  last = take (length ws - p.replaced.to) (drop p.replaced.to ws)

  taken_length : length (take p.replaced.from ws) ≡ p.replaced.from
  taken_length = let a = length-take p.replaced.from ws in let b = w.fits.order in let c = w.fits.within in let d = ap length w.words in omega arith

  front_length : length front ≡ 4 + p.replaced.from
  front_length = let a = length-append (pos 5 ∷ pos p.count ∷ take p.replaced.from ws) (pos 2 ∷ p.key ∷ []) in let b = taken_length in omega arith

  last_is : last ≡ drop p.replaced.to ws
  last_is = take_all (length ws - p.replaced.to) (drop p.replaced.to ws) (let a = length-drop p.replaced.to ws in omega arith)

  last_length : length last ≡ length ws - p.replaced.to
  last_length = ap length last_is ∙ length-drop p.replaced.to ws

  pub front_fits : (p.count ≤ 65) × (4 + length (take p.replaced.from ws) ≤ length out)
  front_fits = (w.fits.few, let a = all_room in let b = taken_length in omega arith)

  -- the key is stored as bits
  module _ {l : List ℤ} {r : ℕ} (g : SFits w64 p.key) (a : PutContract out ((pos 5 ∷ pos p.count ∷ take p.replaced.from ws) ++ (pos 2 ∷ to_z w64 (of_z w64 p.key) ∷ [])) l r) where
    front_put : PutContract out front l r
    front_put = rw (to_z-of_z g) at a

    pub value_room : length vs ≤ length (behind l r)
    value_room = let b = put_room front_put in let c = front_length in let d = all_room in omega arith

    module _ {m : List ℤ} {s : ℕ} (b : PutContract (behind l r) vs m s) where
      abbrev pub l₂ : List ℤ
      l₂ = put_back l r m

      two : PutContract out (front ++ vs) l₂ (r + s)
      two = put_then front_put b

      pub last_room : length last ≤ length (behind l₂ (r + s))
      last_room =
          let c = front_length in
          let d = all_room in
          let g = length-append front vs in
          let i = put_room two in
          let n = last_length in
          omega arith

      pub put_kept : {n : List ℤ} {t : ℕ} → PutContract (behind l₂ (r + s)) last n t → PutContract out (plan_words xs o vs) (put_back l₂ (r + s) n) (r + s + t)
      put_kept {n} {t} c =
          subst⁻¹ (λ (ys : List ℤ). PutContract out ys (put_back l₂ (r + s) n) (r + s + t))
          (ap (λ (q : S.Option Plan). plan_words xs q vs) w.is ∙ (kept_plan xs p vs ∙ ap (λ (us : List ℤ). (((pos 5 ∷ pos p.count ∷ take p.replaced.from us) ++ (pos 2 ∷ p.key ∷ [])) ++ vs) ++ drop p.replaced.to us) (sym w.words)))
          (subst (λ (ys : List ℤ). PutContract out ((front ++ vs) ++ ys) (put_back l₂ (r + s) n) (r + s + t)) last_is (put_then two c))
