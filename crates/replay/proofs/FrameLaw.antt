-- Frames that the search may stand at, after a store in one of them: the others stay, the one that goes on, the one that is entered.
use mathlib.Core.Path.{◌≡◌, sym, ap, ◌∙◌, subst, subst⁻¹}
use mathlib.Core.Logic.{◌⊎◌, inl, inr}
use mathlib.Core.List.{List}
use Prim.Native.Nat.{ℕ, suc, ◌+◌, ◌≤◌, ◌<◌}
use native.Mathlib.Omega.{arith}
use native.Mathlib.Decide.{dec_lt}
use lib.IntN.{ℤ}
use lib.ListN.{length}
use Rattle.minuska.specs.Bridge.Place.{Accepted}
use Rattle.minuska.specs.Term.{Term}
use Rattle.memory.specs.Layout.{base, frame_at, with_frame, position_of, words_of, OwnFits, advanced, Enters}
use Rattle.memory.specs.Memory.{Known, Keeps}
use Rattle.memory.proofs.MemoryLaw.{advanced_entry}
use Rattle.memory.proofs.LayoutLaw.{frame_long, with_same, with_other, advanced_long, advanced_length, advanced_words, advanced_position}
use Rattle.replay.specs.Reading.{term_of}
use Rattle.replay.specs.Turns.{term_at, position_at, Framed, SoundFrames, HeldIn, Held}

-- ---- the frame at depth d is another
module _ (room : ℕ) (w : List ℤ) (d : ℕ) (f : List ℤ) (fits : base room d + (room + 2) ≤ length w) (wide : length f ≡ room + 2) where
  abbrev w' : List ℤ
  w' = with_frame room w d f

  here : frame_at room w' d ≡ f
  here = with_same room w d f fits wide

  other : (i : ℕ) → (i ≡ d → ⊥) → frame_at room w' i ≡ frame_at room w i
  other i n = with_other room w d f fits wide i n

  below : (i : ℕ) → i < d → frame_at room w' i ≡ frame_at room w i
  below i h = other i (λ e. let x : ⊥ = omega arith in x)

  -- a fact of each frame, of the new one too
  each : (P : ℕ → List ℤ → Type 0) → ((i : ℕ) → (i ≡ d → ⊥) → P i (frame_at room w i)) → P d f → (i : ℕ) → P i (frame_at room w' i)
  each P old new i = side (dec_lt i d) (dec_lt d i)
    where
      side : Dec (i < d) → Dec (d < i) → P i (frame_at room w' i)
      side (yes h) k = subst⁻¹ (P i) (below i h) (old i (λ e. let x : ⊥ = omega arith in x))
      side (no h) (yes k) = subst⁻¹ (P i) (other i (λ e. let x : ⊥ = omega arith in x)) (old i (λ e. let x : ⊥ = omega arith in x))
      side (no h) (no k) =
          let e : d ≡ i = omega arith in
          subst (λ (x : ℕ). P x (frame_at room w' x)) e (subst⁻¹ (P d) here new)

-- ---- the frame at depth d goes on to a position
module _ (rules room m : ℕ) (w : List ℤ) (d p : ℕ) (fits : base room d + (room + 2) ≤ length w) (s : SoundFrames rules room m w d) where
  abbrev frame : List ℤ
  frame = frame_at room w d

  abbrev w₁ : List ℤ
  w₁ = with_frame room w d (advanced frame p)

  framed : Framed rules frame
  framed = s.frames d (omega arith)

  there : 2 ≤ length frame
  there = omega (arith, frame_long room w d fits)

  pub on_long : length (advanced frame p) ≡ room + 2
  on_long = advanced_long frame p there ∙ frame_long room w d fits

  pub on_terms : (i : ℕ) → i < d → term_at room w₁ i ≡ term_at room w i
  on_terms i h = ap (λ (l : List ℤ). term_of (words_of l)) (below room w d (advanced frame p) fits on_long i h)

  words_on : words_of (advanced frame p) ≡ words_of frame
  words_on = advanced_words frame p there framed.long

  pub on_top : term_at room w₁ d ≡ term_at room w d
  on_top = ap (λ (l : List ℤ). term_of (words_of l)) (here room w d (advanced frame p) fits on_long) ∙ ap term_of words_on

  pub on_positions : (i : ℕ) → i < d → position_at room w₁ i ≡ position_at room w i
  on_positions i h = ap position_of (below room w d (advanced frame p) fits on_long i h)

  pub on_position : position_at room w₁ d ≡ p
  on_position = ap position_of (here room w d (advanced frame p) fits on_long) ∙ advanced_position frame p there

  pub on_held : (i : ℕ) (u : Term) → Held room m w₁ d i u → Held room m w d i u
  on_held = each room w d (advanced frame p) fits on_long (λ (i : ℕ) (l : List ℤ). (u : Term) → HeldIn m d l i u → Held room m w d i u) (λ i n u h. h) at
    where
      at : (u : Term) → HeldIn m d (advanced frame p) d u → Held room m w d d u
      at u (inl h) = absurd (let x : ⊥ = omega (arith, h.0) in x)
      at u (inr h) = inr (h.0, h.1, h.2, advanced_entry frame p there h.0 h.3, h.4)

  own_on : OwnFits frame → OwnFits (advanced frame p)
  own_on h = omega (arith, advanced_length frame p there, advanced_long frame p there)

  pub on_sound : p ≤ rules → SoundFrames rules room m w₁ d
  on_sound h =
      record {
        frames = each room w d (advanced frame p) fits on_long (λ (i : ℕ) (l : List ℤ). i ≤ d → Framed rules l) (λ i n k. s.frames i k)
            (λ k. record { long = own_on framed.long; accepted = subst⁻¹ Accepted words_on framed.accepted; position = subst⁻¹ (λ (x : ℕ). x ≤ rules) (advanced_position frame p there) h });
        begun = λ i k. subst⁻¹ (λ (x : ℕ). 0 < x) (on_positions i k) (s.begun i k);
        spare = each room w d (advanced frame p) fits on_long (λ (i : ℕ) (l : List ℤ). i < m → OwnFits l) (λ i n k. s.spare i k) (λ k. own_on framed.long);
      }

-- ---- the frame at depth j is entered, those below it stand
module _ (rules room m : ℕ) (w : List ℤ) (j : ℕ) (f c : List ℤ) (fits : base room j + (room + 2) ≤ length w) (small : length c ≤ room) (ent : Enters (frame_at room w j) f c) where
  abbrev w₂ : List ℤ
  w₂ = with_frame room w j f

  pub in_long : length f ≡ room + 2
  in_long = ent.wide ∙ frame_long room w j fits

  pub in_terms : (i : ℕ) → i < j → term_at room w₂ i ≡ term_at room w i
  in_terms i h = ap (λ (l : List ℤ). term_of (words_of l)) (below room w j f fits in_long i h)

  pub in_positions : (i : ℕ) → i < j → position_at room w₂ i ≡ position_at room w i
  in_positions i h = ap position_of (below room w j f fits in_long i h)

  pub in_top : term_at room w₂ j ≡ term_of c
  in_top = ap (λ (l : List ℤ). term_of (words_of l)) (here room w j f fits in_long) ∙ ap term_of ent.words

  pub in_position : position_at room w₂ j ≡ 0
  in_position = ap position_of (here room w j f fits in_long) ∙ ent.position

  -- held for another depth, it was held
  pub entered_held : (d i : ℕ) (u : Term) → d ≤ j → (i ≡ j → ⊥) → Held room m w₂ j i u → Held room m w d i u
  entered_held d i u le n h = earlier (subst (λ (l : List ℤ). HeldIn m j l i u) (other room w j f fits in_long i n) h)
    where
      earlier : Held room m w j i u → Held room m w d i u
      earlier (inl k) = inl (omega (arith, k.0), k.1, k.2, k.3)
      earlier (inr k) = inr k

  -- held for this one, it was held, or stood in the frame
  pub in_held : Keeps (frame_at room w j) f → (d i : ℕ) (u : Term) → d < j → Held room m w₂ j i u → Held room m w d i u
  in_held ks d i u l h = side (dec_lt i j) (dec_lt j i) h
    where
      this : HeldIn m j f j u → Held room m w d j u
      this (inl k) = absurd (let x : ⊥ = omega (arith, k.0) in x)
      this (inr k) = from (ks k.0 k.3)
        where
          from : Known (frame_at room w j) k.0 → Held room m w d j u
          from (inl e) = inr (k.0, k.1, k.2, e, k.4)
          from (inr e) = inl (l, k.2, e.0, ap term_of (sym e.1) ∙ k.4)

      side : Dec (i < j) → Dec (j < i) → Held room m w₂ j i u → Held room m w d i u
      side (yes q) x k = entered_held d i u (omega arith) (λ e. let y : ⊥ = omega arith in y) k
      side (no q) (yes x) k = entered_held d i u (omega arith) (λ e. let y : ⊥ = omega arith in y) k
      side (no q) (no x) k =
          let e : j ≡ i = omega arith in
          subst (λ (x : ℕ). Held room m w₂ j x u → Held room m w d x u) e (λ k. this (subst (λ (l : List ℤ). HeldIn m j l j u) (here room w j f fits in_long) k)) k

  own_in : OwnFits f
  own_in = omega (arith, ent.long, in_long)

  pub in_sound : Accepted c → ((i : ℕ) → i < j → Framed rules (frame_at room w i)) → ((i : ℕ) → i < j → 0 < position_at room w i) → ((i : ℕ) → i < m → (i ≡ j → ⊥) → OwnFits (frame_at room w i)) → SoundFrames rules room m w₂ j
  in_sound acc fs beg sp =
      record {
        frames = each room w j f fits in_long (λ (i : ℕ) (l : List ℤ). i ≤ j → Framed rules l) (λ i n k. fs i (omega arith))
            (λ k. record { long = own_in; accepted = subst⁻¹ Accepted ent.words acc; position = subst⁻¹ (λ (x : ℕ). x ≤ rules) ent.position (omega arith) });
        begun = λ i k. subst⁻¹ (λ (x : ℕ). 0 < x) (in_positions i k) (beg i k);
        spare = each room w j f fits in_long (λ (i : ℕ) (l : List ℤ). i < m → OwnFits l) (λ i n k. sp i k n) (λ k. own_in);
      }

-- back from depth d: its configuration is held
pub back_held : (room m : ℕ) (w : List ℤ) (d i : ℕ) (u : Term) → Held room m w d i u → Held room m w (suc d) i u ⊎ ((suc d ≡ i) × (term_at room w (suc d) ≡ u))
back_held room m w d i u (inl h) = at (dec_lt (suc d) i)
  where
    at : Dec (suc d < i) → Held room m w (suc d) i u ⊎ ((suc d ≡ i) × (term_at room w (suc d) ≡ u))
    at (yes k) = inl (inl (k, h.1, h.2, h.3))
    at (no k) =
        let e : suc d ≡ i = omega (arith, h.0) in
        inr (e, subst⁻¹ (λ (x : ℕ). term_at room w x ≡ u) e h.3)
back_held room m w d i u (inr h) = inl (inr h)
