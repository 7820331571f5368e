-- One turn of the search: whatever the rule's answer, the search will say what it would have said.
use mathlib.Core.Path.{◌≡◌, refl, sym, ap, ap₂, ◌∙◌, subst, subst⁻¹}
use mathlib.Core.Bool.{Bool, true, false}
use mathlib.Core.Logic.{inl, inr}
use mathlib.Core.Option.{none, some}
use mathlib.Core.List.{List, ◌++◌}
use Prim.Native.Nat.{ℕ, suc, ◌+◌, ◌-◌, ◌*◌, ◌≤◌, ◌<◌}
use native.Mathlib.Numerals.{add-one}
use native.Mathlib.Omega.{arith}
use native.Mathlib.Decide.{dec_lt}
use lib.Dec.{leb}
use lib.IntN.{ℤ}
use lib.ListN.{length, get_or, take, drop}
use borrow.Author.Tests.{leb-true}
use Rattle.minuska.specs.Term.{Term, single, node_count}
use Rattle.minuska.specs.Word.{encode}
use Rattle.minuska.specs.Rule.{Table, IsTable, IsConfiguration}
use Rattle.minuska.specs.Answer.{reproduced, not_reproduced}
use Rattle.minuska.specs.Slice.{out_limit}
use Rattle.minuska.specs.Computed.Step.{next, order}
use Rattle.std.specs.Prelude.{Ok, Err, Some, None}
use Rattle.minuska.proofs.KeepLaw.{keeps_configuration}
use Rattle.minuska.proofs.ReplayLaw.{next_iff}
use Rattle.replay.specs.declared.search.Search.{Search}
use Rattle.replay.specs.declared.search.Turned.{Turned}
use Rattle.replay.specs.declared.search.Turned.TheVariants.{On, Beyond, Made, Exhausted}
use Rattle.replay.specs.Reading.{table_of, term_of}
use Rattle.memory.specs.Layout.{max_room, base, frame_at, with_frame, words_of, OwnFits, advanced, Enters}
use Rattle.memory.specs.Memory.{Keeps, Known}
use Rattle.replay.specs.Stack.{mark, chosen, rest}
use Rattle.replay.specs.Turns.{term_at, position_at, Framed, Begun, SoundFrames, Held, state_of, left_of, SlicesFit, Kept, Skipped, Sought, TryContract, MadeWithin, Entered, Settles, Same, TurnSays, TurnContract}
use Rattle.replay.proofs.ReadingLaw.{term_of_lem, is_term, checked_is}
use Rattle.replay.proofs.StackLaw as Stack
use Rattle.replay.proofs.RecallLaw as Recall
use Rattle.memory.proofs.LayoutLaw.{frame_before, with_long, with_behind, lent_frame, lent_back}
use Rattle.replay.proofs.FrameLaw.{on_long, on_terms, on_top, on_positions, on_position, on_held, on_sound, in_long, in_terms, in_positions, in_top, in_position, in_held, in_sound, back_held}
use Rattle.minuska.proofs.Bridge.AcceptedLaw.{term_length}
use Rattle.replay.proofs.ToldLaw.{limit_words, Answer, Tells, tried_tells}

-- what a search has, by the facts of `Search` and of the slices
pub record Searches (ws : List ℤ) (rules room : ℕ) (log : List ℕ) (out work : List ℤ) : Type 0 where
  pub good : IsTable ws (table_of ws)
  pub rules_are : rules ≡ length (order (table_of ws))
  pub few : rules ≤ 256
  pub narrow : room ≤ max_room
  pub slices : SlicesFit room log out work

pub searches : (s : Search) (out work : List ℤ) → SlicesFit s.room s.log.now out work → Searches s.table.words.now s.rules s.room s.log.now out work
searches s out work f = record { good = checked_is s.table.indexed; rules_are = s.rules_are; few = s.few; narrow = s.narrow; slices = f }

module _ (ws : List ℤ) (rules room : ℕ) (log : List ℕ) (out work : List ℤ) (d : ℕ) (rm : Searches ws rules room log out work) (deep : d < length log) (s : SoundFrames rules room (length log) work d) where
  abbrev t : Table
  t = table_of ws

  abbrev term : ℕ → Term
  term = term_at room work

  abbrev position : ℕ → ℕ
  position = position_at room work

  abbrev action : ℕ
  action = get_or log d 0

  good : IsTable ws t
  good = rm.good

  pub frame_fits : base room d + (room + 2) ≤ length work
  frame_fits = omega (arith, frame_before room d (length log) deep, rm.slices.work_fits)

  -- ---- no position is left
  module _ (none_left : Skipped t action (position d) rules) where
    abbrev Nothing : ℕ → Type 0
    Nothing i = rest node_count (out_limit room) (next t) (order t) log i (term i) (position i) ≡ not_reproduced

    nothing : Nothing d
    nothing =
        Stack.exhausted node_count (out_limit room) (next t) (order t) log d (term d) (position d) (omega (arith, (s.frames d (omega arith)).position, rm.rules_are))
        (λ i a b. none_left i a (omega (arith, rm.rules_are)) (term d))

    same : Kept room (length log) out work out work
    same = record { long = refl; work_kept = refl; wide = refl; out_kept = refl }

    pub turn_ended : d ≡ 0 → TurnContract ws rules room log d out work out work Exhausted
    unfolding state_of
    turn_ended e =
        let ends : (b : Bool) → state_of t room log work b 0 ≡ mark b = λ b. Stack.turn_end node_count (out_limit room) (next t) (order t) log term position b (subst Nothing e nothing) in
        record { kept = same; says = λ b. subst⁻¹ (λ (i : ℕ). state_of t room log work b i ≡ mark b) e (ends b) }

    pub turn_back : (e : ℕ) → d ≡ suc e → TurnContract ws rules room log d out work out work (On e)
    unfolding state_of left_of
    turn_back e h =
        let ups : Same t room log (suc e) work e work = λ b m. (
          Stack.turn_up node_count (out_limit room) (next t) (order t) log term position b e (subst Nothing h nothing),
          Recall.recalls_up node_count (out_limit room) (next t) (order t) log (Held room (length log) work (suc e)) (Held room (length log) work e) term position e (λ i u. back_held room (length log) work e i u) (omega arith) (subst Nothing h nothing) b m,
        ) in
        record {
          kept = same;
          says = (
            omega arith,
            record { frames = λ i j. s.frames i (omega arith); begun = λ i j. s.begun i (omega arith); spare = s.spare },
            subst⁻¹ (λ (i : ℕ). Same t room log i work e work) h ups,
            subst⁻¹ (λ (i : ℕ). left_of t room log work e < left_of t room log work i) h (Stack.left_up node_count (out_limit room) (next t) (order t) log term position e),
          );
        }

  -- ---- the rule at q is tried
  module _ (q : ℕ) (k : Sought t rules action (position d) q) where
    abbrev rule : ℕ
    rule = get_or (order t) q 0

    work₁ : List ℤ
    work₁ = with_frame room work d (advanced (frame_at room work d) (q + 1))

    advanced_long : length (advanced (frame_at room work d) (q + 1)) ≡ room + 2
    advanced_long = on_long rules room (length log) work d (q + 1) frame_fits s

    long₁ : length work₁ ≡ length work
    unfolding work₁
    long₁ = with_long room work d (advanced (frame_at room work d) (q + 1)) frame_fits advanced_long

    behind₁ : drop (base room (length log)) work₁ ≡ drop (base room (length log)) work
    unfolding work₁
    behind₁ = with_behind room work d (advanced (frame_at room work d) (q + 1)) frame_fits advanced_long (base room (length log)) (frame_before room d (length log) deep)

    sound₁ : SoundFrames rules room (length log) work₁ d
    unfolding work₁
    sound₁ = on_sound rules room (length log) work d (q + 1) frame_fits s (omega arith)

    held₁ : (i : ℕ) (u : Term) → Held room (length log) work₁ d i u → Held room (length log) work d i u
    unfolding work₁
    held₁ = on_held rules room (length log) work d (q + 1) frame_fits s

    -- what the stack's laws ask, of a work area in which these frames stand
    tries : (w : List ℤ) → ((i : ℕ) → i < suc d → term_at room w i ≡ term_at room work₁ i) → ((i : ℕ) → i < suc d → position_at room w i ≡ position_at room work₁ i) → Stack.Tries node_count (out_limit room) (next t) (order t) log term (term_at room w) position (position_at room w) d q
    unfolding work₁
    tries w ht hp =
        record {
          terms = λ i h. ht i (omega arith) ∙ on_terms rules room (length log) work d (q + 1) frame_fits s i h;
          positions = λ i h. hp i (omega arith) ∙ on_positions rules room (length log) work d (q + 1) frame_fits s i h;
          top = ht d (omega arith) ∙ on_top rules room (length log) work d (q + 1) frame_fits s;
          on = hp d (omega arith) ∙ on_position rules room (length log) work d (q + 1) frame_fits s ∙ add-one q;
          there = omega (arith, rm.rules_are);
          idle = Stack.skipped node_count (out_limit room) (next t) (order t) log d (term d) (position d) q k.above (omega (arith, rm.rules_are)) (λ i a b. k.skipped i a b (term d));
        }

    tries₁ : Stack.Tries node_count (out_limit room) (next t) (order t) log term (term_at room work₁) position (position_at room work₁) d q
    tries₁ = tries work₁ (λ i h. refl) (λ i h. refl)

    -- every frame up to d has tried a rule
    begun₁ : (i : ℕ) → i < suc d → Begun rules (frame_at room work₁ i)
    begun₁ i h = at (dec_lt i d)
      where
        at : Dec (i < d) → Begun rules (frame_at room work₁ i)
        at (yes x) = let f = sound₁.frames i (omega arith) in record { some = sound₁.begun i x; within = f.position }
        at (no x) =
            let z : d ≡ i = omega arith in
            subst (λ (y : ℕ). Begun rules (frame_at room work₁ y)) z (record { some = omega (arith, tries₁.on); within = omega (arith, tries₁.on) })

    -- a successor within the limit is a configuration
    is_configuration : (h : Term) → next t action rule (term d) ≡ some h → leb (node_count h) (out_limit room) ≡ true → IsConfiguration (encode (single h)) h
    is_configuration h e fit =
        let few = leb-true (node_count h) (out_limit room) fit in
        let here = is_term (words_of (frame_at room work d)) (s.frames d (omega arith)).accepted in
        record { accepted = keeps_configuration t good.accepted action rule (term d) h here.accepted ((next_iff t good.accepted action rule (term d) h).0 e) (omega arith); words = refl }

    module _ (out' : List ℤ) where
      turned_none : next t action rule (term d) ≡ none → TurnSays t rules room log d work out' work₁ (On d)
      unfolding state_of left_of
      turned_none e = (
        deep,
        sound₁,
        (λ b m. (
          Stack.turn_none node_count (out_limit room) (next t) (order t) log term (term_at room work₁) position (position_at room work₁) d q tries₁ b e,
          Recall.recalls_none node_count (out_limit room) (next t) (order t) log (Held room (length log) work d) (Held room (length log) work₁ d) term (term_at room work₁) position (position_at room work₁) d q tries₁ b m held₁ (rw e),
        )),
        Stack.left_try node_count (out_limit room) (next t) (order t) log term (term_at room work₁) position (position_at room work₁) d q tries₁,
      )

      module _ (h : Term) (e : next t action rule (term d) ≡ some h) where
        turned_beyond : leb (node_count h) (out_limit room) ≡ false → TurnSays t rules room log d work out' work₁ Beyond
        unfolding state_of left_of
        turned_beyond large = (
          sound₁,
          (λ b m. (
            Stack.turn_beyond node_count (out_limit room) (next t) (order t) log term (term_at room work₁) position (position_at room work₁) d q tries₁ b h e large,
            Recall.recalls_beyond node_count (out_limit room) (next t) (order t) log (Held room (length log) work d) (Held room (length log) work₁ d) term (term_at room work₁) position (position_at room work₁) d q tries₁ b m held₁
                (Stack.attempted node_count (out_limit room) (next t) (order t) log term (term_at room work₁) position (position_at room work₁) d q tries₁ h false e large),
          )),
          Stack.left_try node_count (out_limit room) (next t) (order t) log term (term_at room work₁) position (position_at room work₁) d q tries₁,
        )

        module _ (fit : leb (node_count h) (out_limit room) ≡ true) (n : ℕ) (count : node_count h ≡ n) (front : take (2 * n) out' ≡ encode (single h)) where
          few : 2 * n ≤ room
          few = let z = limit_words room (node_count h) fit in omega arith

          is : IsConfiguration (take (2 * n) out') h
          is = subst⁻¹ (λ (c : List ℤ). IsConfiguration c h) front (is_configuration h e fit)

          -- it is the last
          turned_made : length log ≤ d + 1 → TurnSays t rules room log d work out' work₁ (Made (2 * n))
          unfolding state_of
          turned_made l =
              let all : length log ≡ suc d = omega arith in (
                record { fits = few; accepted = record { term = h; is = is }; begun = λ i j. begun₁ i (omega arith) },
                λ b. Stack.turn_made node_count (out_limit room) (next t) (order t) log term (term_at room work₁) position (position_at room work₁) d q tries₁ b h e fit (omega arith)
                    ∙ ap₂ (λ (m : ℕ) (g : Term). reproduced (chosen (order t) (position_at room work₁) m) g) (sym all) (sym (term_of_lem (take (2 * n) out') h is)),
              )

          -- it is not
          module _ (l : suc d < length log) where
            abbrev c : List ℤ
            c = take (2 * n) out'

            -- it is known
            known_held : Known (frame_at room work₁ (suc d)) c → Held room (length log) work₁ d (suc d) h
            known_held (inl k) = inr (c, omega arith, l, k, term_of_lem c h is)
            known_held (inr k) = inl (omega arith, l, k.0, ap term_of (sym k.1) ∙ term_of_lem c h is)

            turned_known : Known (frame_at room work₁ (suc d)) c → TurnSays t rules room log d work out' work₁ (On d)
            unfolding state_of left_of
            turned_known k =
                let own : Held room (length log) work₁ d (suc d) h = known_held k in
                let try = Stack.attempted node_count (out_limit room) (next t) (order t) log term (term_at room work₁) position (position_at room work₁) d q tries₁ h true e fit in (
                  deep,
                  sound₁,
                  (λ b m. (
                    Recall.turn_skip node_count (out_limit room) (next t) (order t) log (Held room (length log) work d) (Held room (length log) work₁ d) term (term_at room work₁) position (position_at room work₁) d q tries₁ b m h try (held₁ (suc d) h own),
                    Recall.recalls_skip node_count (out_limit room) (next t) (order t) log (Held room (length log) work d) (Held room (length log) work₁ d) term (term_at room work₁) position (position_at room work₁) d q tries₁ b m h try held₁ (held₁ (suc d) h own),
                  )),
                  Stack.left_try node_count (out_limit room) (next t) (order t) log term (term_at room work₁) position (position_at room work₁) d q tries₁,
                )

            -- it is entered
            module _ (f : List ℤ) (ent : Enters (frame_at room work₁ (suc d)) f c) (ks : Keeps (frame_at room work₁ (suc d)) f) where
              work₂ : List ℤ
              work₂ = with_frame room work₁ (suc d) f

              small : length c ≤ room
              small = omega (arith, ap length front, term_length h, few)

              fits₂ : base room (suc d) + (room + 2) ≤ length work₁
              fits₂ = omega (arith, frame_before room (suc d) (length log) l, rm.slices.work_fits, long₁)

              frames₁ : (i : ℕ) → i < suc d → Framed rules (frame_at room work₁ i)
              frames₁ i j = sound₁.frames i (omega arith)

              position₂ : position_at room work₂ (suc d) ≡ 0
              unfolding work₂
              position₂ = in_position rules room (length log) work₁ (suc d) f c fits₂ small ent

              tries₂ : Stack.Tries node_count (out_limit room) (next t) (order t) log term (term_at room work₂) position (position_at room work₂) d q
              unfolding work₂
              tries₂ = tries (with_frame room work₁ (suc d) f) (in_terms rules room (length log) work₁ (suc d) f c fits₂ small ent) (in_positions rules room (length log) work₁ (suc d) f c fits₂ small ent)

              top₂ : term_at room work₂ (suc d) ≡ h
              unfolding work₂
              top₂ = in_top rules room (length log) work₁ (suc d) f c fits₂ small ent ∙ term_of_lem c h is

              held₂ : (i : ℕ) (u : Term) → Held room (length log) work₂ (suc d) i u → Held room (length log) work d i u
              unfolding work₂
              held₂ i u k = held₁ i u (in_held rules room (length log) work₁ (suc d) f c fits₂ small ent ks d i u (omega arith) k)

              sound₂ : SoundFrames rules room (length log) work₂ (suc d)
              unfolding work₂
              sound₂ = in_sound rules room (length log) work₁ (suc d) f c fits₂ small ent (record { term = h; is = is }) frames₁ (λ i j. (begun₁ i j).some) (λ i j k. sound₁.spare i j)

              turned_down : TurnSays t rules room log d work out' work₂ (On (suc d))
              unfolding state_of left_of
              turned_down = (
                l,
                sound₂,
                (λ b m. (
                  Stack.turn_down node_count (out_limit room) (next t) (order t) log term (term_at room work₂) position (position_at room work₂) d q tries₂ b h e fit l top₂ position₂,
                  Recall.recalls_down node_count (out_limit room) (next t) (order t) log (Held room (length log) work d) (Held room (length log) work₂ (suc d)) term (term_at room work₂) position (position_at room work₂) d q tries₂ b m h
                      (Stack.attempted node_count (out_limit room) (next t) (order t) log term (term_at room work₂) position (position_at room work₂) d q tries₂ h true e fit) held₂ top₂ position₂,
                )),
                Stack.left_down node_count (out_limit room) (next t) (order t) log term (term_at room work₂) position (position_at room work₂) d q tries₂ h e l top₂ position₂,
              )

              wide₂ : length f ≡ room + 2
              wide₂ = in_long rules room (length log) work₁ (suc d) f c fits₂ small ent

              down_kept : length out' ≡ length out → drop room out' ≡ drop room out → Kept room (length log) out work out' work₂
              unfolding work₂
              down_kept a b =
                  record {
                    long = with_long room work₁ (suc d) f fits₂ wide₂ ∙ long₁;
                    work_kept = with_behind room work₁ (suc d) f fits₂ wide₂ (base room (length log)) (frame_before room (suc d) (length log) l) ∙ behind₁;
                    wide = a;
                    out_kept = b;
                  }

              down : length out' ≡ length out → drop room out' ≡ drop room out → TurnContract ws rules room log d out work out' (with_frame room work₁ (suc d) f) (On (suc d))
              unfolding work₂
              down a b = record { kept = down_kept a b; says = turned_down }

    -- THE TURN, by the rule's answer
    module _ (out' : List ℤ) where
      kept : (w : List ℤ) → length w ≡ length work → drop (base room (length log)) w ≡ drop (base room (length log)) work → length out' ≡ length out → drop room out' ≡ drop room out → Kept room (length log) out work out' w
      kept w e f a b = record { long = e; work_kept = f; wide = a; out_kept = b }

      unmoved : (r x : Turned) (w : List ℤ) → r ≡ x → w ≡ work₁ → length out' ≡ length out → drop room out' ≡ drop room out → TurnSays t rules room log d work out' work₁ x → TurnContract ws rules room log d out work out' w r
      unmoved r x w e f a b z = rw (e, f) (record { kept = kept work₁ long₁ behind₁ a b; says = z })

      settled : (a : Answer) → Tells (next t action rule (term d)) room out out' a → (remember : Bool) (w : List ℤ) (r : Turned) → Settles a (length log) room remember d out' work₁ w r → TurnContract ws rules room log d out work out' w r
      settled (Ok None) z remember w r k = unmoved r (On d) w k.0 k.1 z.wide z.kept (turned_none out' z.told)
      settled (Err x) z remember w r k = unmoved r Beyond w k.0 k.1 z.wide z.kept (turned_beyond out' z.told.0 z.told.1 z.told.2)
      settled (Ok (Some a)) z remember w r (inl k) =
          let l : suc d < length log = omega (arith, k.0) in
          let ent : Entered room work₁ w (suc d) (take (2 * a.nodes) out') = rw (add-one d) at k.2 in
          let on : r ≡ On (suc d) = rw (add-one d) at k.1 in
          rw (on, ent.is) (down out' z.told.0 z.told.1 z.told.2 a.nodes z.told.3 z.told.4 l ent.frame ent.enters ent.keeps z.wide z.kept)
      settled (Ok (Some a)) z remember w r (inr (inl k)) =
          let l : suc d < length log = omega (arith, k.0) in
          let known : Known (frame_at room work₁ (suc d)) (take (2 * a.nodes) out') = rw (add-one d) at k.4 in
          unmoved r (On d) w k.1 k.2 z.wide z.kept (turned_known out' z.told.0 z.told.1 z.told.2 a.nodes z.told.3 z.told.4 l known)
      settled (Ok (Some a)) z remember w r (inr (inr k)) =
          unmoved r (Made (2 * a.nodes)) w k.1 k.2 z.wide z.kept (turned_made out' z.told.0 z.told.1 z.told.2 a.nodes z.told.3 z.told.4 k.0)

    -- the same, of what `try_at` answers and leaves
    module _ (out' : List ℤ) (r : Answer) (tr : TryContract ws (words_of (frame_at room work d)) rule room out out' r) where
      tells : Tells (next t action rule (term d)) room out out' r
      tells = tried_tells ws (words_of (frame_at room work d)) t (term d) good (is_term (words_of (frame_at room work d)) (s.frames d (omega arith)).accepted) action rule room k.carried out out' r rm.slices.out_fits tr

      pub turned : (remember : Bool) (w : List ℤ) (x : Turned) → Settles r (length log) room remember d out' (with_frame room work d (advanced (frame_at room work d) (q + 1))) w x → TurnContract ws rules room log d out work out' w x
      unfolding work₁
      turned remember w x k = settled out' r tells remember w x k

      -- what `settle` asks of the answer and of the frames
      within : (x : Answer) → Tells (next t action rule (term d)) room out out' x → MadeWithin x room (length out')
      within (Ok None) z = tt
      within (Err x) z = tt
      within (Ok (Some a)) z =
          let f = limit_words room (node_count z.told.0) z.told.2 in
          let g : node_count z.told.0 ≡ a.nodes = z.told.3 in
          (omega arith, omega arith, omega (arith, z.wide, rm.slices.out_fits))

      pub made_within : MadeWithin r room (length out')
      made_within = within r tells

    pub spare_within : (i : ℕ) → i < length log → OwnFits (frame_at room (with_frame room work d (advanced (frame_at room work d) (q + 1))) i)
    unfolding work₁
    spare_within = sound₁.spare

-- ---- the same, of the frame as it is lent: from place `start` of the work area up to place `end`
module _ (s : Search) (out work : List ℤ) (d q : ℕ) (f : SlicesFit s.room s.log.now out work) (deep : d < length s.log.now) (k : Sought (table_of s.table.words.now) s.rules (get_or s.log.now d 0) (position_at s.room work d) q) (sound : SoundFrames s.rules s.room (length s.log.now) work d) where
  abbrev t₁ : Table
  t₁ = table_of s.table.words.now

  module _ (start end : ℕ) (from : start ≡ base s.room d) (to : end ≡ base s.room d + (s.room + 2)) (frame' : List ℤ) (e : frame' ≡ advanced (take (end - start) (drop start work)) (q + 1)) where
    after : take start work ++ (frame' ++ drop (end - start) (drop start work)) ≡ with_frame s.room work d (advanced (frame_at s.room work d) (q + 1))
    after = lent_back s.room work d start end from to frame' ∙ ap (with_frame s.room work d) (e ∙ ap (λ (l : List ℤ). advanced l (q + 1)) (lent_frame s.room work d start end from to))

    pub lent_spare : (i : ℕ) → i < length s.log.now → OwnFits (frame_at s.room (take start work ++ (frame' ++ drop (end - start) (drop start work))) i)
    lent_spare i h = subst⁻¹ (λ (w : List ℤ). OwnFits (frame_at s.room w i)) after (spare_within _ _ _ _ out work d (searches s out work f) deep sound q k i h)

    module _ (out' : List ℤ) (r : Answer) (tr : TryContract s.table.words.now (words_of (take (end - start) (drop start work))) (get_or (order t₁) q 0) s.room out out' r) where
      tried_here : TryContract s.table.words.now (words_of (frame_at s.room work d)) (get_or (order t₁) q 0) s.room out out' r
      tried_here = subst (λ (l : List ℤ). TryContract s.table.words.now (words_of l) (get_or (order t₁) q 0) s.room out out' r) (lent_frame s.room work d start end from to) tr

      pub lent_made : MadeWithin r s.room (length out')
      lent_made = made_within _ _ _ _ out work d (searches s out work f) deep sound q k out' r tried_here

      pub lent_turned : (w : List ℤ) (x : Turned) → Settles r (length s.log.now) s.room s.remember d out' (take start work ++ (frame' ++ drop (end - start) (drop start work))) w x
          → TurnContract s.table.words.now s.rules s.room s.log.now d out work out' w x
      lent_turned w x z =
          turned _ _ _ _ out work d (searches s out work f) deep sound q k out' r tried_here s.remember w x
          (subst (λ (l : List ℤ). Settles r (length s.log.now) s.room s.remember d out' l w x) after z)
