-- A whole call: refused by the checks, refused by the sizes, or answered.
use mathlib.Core.Path.{◌≡◌, refl, ap, sym, ◌∙◌}
use mathlib.Core.Bool.{Bool, ◌||◌}
use mathlib.Core.List.{List}
use Prim.Native.Nat.{ℕ, ◌+◌, ◌*◌, ◌/◌, ◌≤◌}
use native.Mathlib.Nat.{suc-mul}
use native.Mathlib.Numerals.{add-one}
use native.Mathlib.Omega.{arith}
use lib.Dec.{ltb}
use lib.IntN.{ℤ}
use lib.ListN.{length}
use borrow.Author.Tests.{ltb-false}
use Rattle.minuska.specs.Term.{Term}
use Rattle.minuska.specs.Rule.{max_actions, IsTable, IsConfiguration}
use Rattle.minuska.specs.Answer.{Outcome, refused, gives, ReplayResult, reproduced, exceeded, not_reproduced}
use Rattle.minuska.specs.Claim.{work_words}
use Rattle.minuska.specs.Slice.{out_limit, replay_answer, replay_out, replay_choices, replay_work, write_zeros}
use Rattle.minuska.specs.Contract.{ReplayContract}
use Rattle.minuska.specs.Computed.Replay.{replay}
use Rattle.minuska.specs.Computed.Outcome.{table_check, configuration_check, or_second, replay_short, replay_outcome}
use Rattle.std.specs.Prelude.{Option, Result, Ok, Err}
use Rattle.minuska.specs.declared.Refusal.{Refusal}
use Rattle.minuska.proofs.ContractLaw.{replay_contract}
use Rattle.minuska.proofs.ShutLaw.{replay_outcome_is, replay_out_refused, replay_choices_refused, replay_work_refused, replay_work_gives}
use Rattle.minuska.proofs.Bridge.PositionLaw.{few_rules, order_length}
use Rattle.minuska.specs.Bridge.Place.{RuleCountIs}
use Rattle.minuska.proofs.Bridge.AcceptedLaw.{configuration_length, refused_first}
use Rattle.minuska.specs.Bridge.Place.{Accepted}
use Rattle.sizes.specs.Sizes.{size_check, SizesHold}
use Rattle.sizes.proofs.SizesLaw.{neither, sized, sizes_refuse, sizes_pass}
use Rattle.memory.specs.Layout.{base}
use Rattle.replay.specs.Reading.{table_of, term_of}
use Rattle.replay.specs.Counted.{counted_answer, uncounted, CountedContract}
use Rattle.memory.specs.Layout.{max_room}
use Rattle.minuska.specs.Computed.Step.{order}
use Rattle.replay.specs.Turns.{SlicesFit}
use Rattle.replay.specs.Endings.{AcceptedContract}
use Rattle.replay.proofs.ReadingLaw.{is_term}

-- the public answer of an outcome
uncounted_is : (o : Outcome (ReplayResult Term)) → uncounted (counted_answer o) ≡ replay_answer o
unfolding counted_answer replay_answer
uncounted_is (refused r) = refl
uncounted_is (gives (reproduced ns h)) = refl
uncounted_is (gives exceeded) = refl
uncounted_is (gives not_reproduced) = refl

-- what the check of the sizes says, by the slices' lengths
pub size_is : (a b : Bool) (count nodes limit : ℕ) (x y : Result (Unit {0}) Refusal) → x ≡ size_check count max_actions nodes limit a → a ≡ b → x ≡ y → size_check count max_actions nodes limit b ≡ y
size_is a b count nodes limit x y e f g = ap (size_check count max_actions nodes limit) (sym f) ∙ sym e ∙ g

module _ (ws cs : List ℤ) (log : List ℕ) (limit : ℕ) (out : List ℤ) (choices : List ℕ) (work : List ℤ) where
  abbrev outcome : Outcome (ReplayResult Term)
  outcome = replay_outcome ws cs log limit (length out) (length choices) (length work)

  abbrev short : Bool
  short = replay_short limit log (length out) (length choices) (length work)

  pub sizes_hold : (b : Bool) (x : Result (Unit {0}) Refusal) → x ≡ size_check (length log) max_actions (length cs / 2) limit b → b ≡ short → x ≡ Ok tt → SizesHold (length log) max_actions (length cs / 2) limit short
  sizes_hold b x e f g = sized (length log) max_actions (length cs / 2) limit short (size_is b short (length log) (length cs / 2) limit x (Ok tt) e f g)

  -- what is answered and left is the outcome's
  counted : (out' : List ℤ) (choices' : List ℕ) (work' : List ℤ) (r : Result (Option ℕ) Refusal) → r ≡ counted_answer outcome → out' ≡ replay_out outcome out → choices' ≡ replay_choices outcome choices → work' ≡ replay_work limit log outcome work
      → CountedContract ws cs log limit out choices work out' choices' work' r
  counted out' choices' work' r e f g h =
      let k : ReplayContract ws cs log limit out choices work out' choices' work' (uncounted r) = replay_contract ws cs log limit out choices work out' choices' work' (uncounted r) (ap uncounted e ∙ uncounted_is outcome) f g h in
      record { replays = k; counts = e ∙ ap counted_answer (sym k.is) }

  -- a refusal: every slice keeps its words
  pub refusal : (e : Refusal) → outcome ≡ refused e → CountedContract ws cs log limit out choices work out choices work (Err e)
  unfolding counted_answer
  refusal e h =
      counted out choices work (Err e) (ap counted_answer (sym h))
      (sym (ap (λ (o : Outcome (ReplayResult Term)). replay_out o out) h ∙ replay_out_refused out e))
      (sym (ap (λ (o : Outcome (ReplayResult Term)). replay_choices o choices) h ∙ replay_choices_refused choices e))
      (sym (ap (λ (o : Outcome (ReplayResult Term)). replay_work limit log o work) h ∙ replay_work_refused work limit log e))

  -- ---- 1 and 2
  pub not_accepted : (e : Refusal) → or_second (table_check ws) (configuration_check cs) ≡ Err e → CountedContract ws cs log limit out choices work out choices work (Err e)
  not_accepted e h = refusal e (replay_outcome_is ws cs log limit (length out) (length choices) (length work) ∙ refused_first ws cs _ e h)

  -- ---- the words are accepted
  module _ (table : IsTable ws (table_of ws)) (acc : Accepted cs) where
    config : IsConfiguration cs (term_of cs)
    config = is_term cs acc

    -- the rules that a step tries
    pub counted_rules : (rules : ℕ) → RuleCountIs ws rules → (rules ≡ length (order (table_of ws))) × (rules ≤ 256)
    counted_rules rules k =
        let e = k.is (table_of ws) table in
        (e ∙ sym (order_length (table_of ws)), let b = few_rules (table_of ws) table.accepted in omega arith)

    -- 3, 4 and 5
    pub not_sized : (e : Refusal) → size_check (length log) max_actions (length cs / 2) limit short ≡ Err e → CountedContract ws cs log limit out choices work out choices work (Err e)
    not_sized e s =
        refusal e (replay_outcome_is ws cs log limit (length out) (length choices) (length work) ∙ sizes_refuse ws cs (table_of ws) (term_of cs) table config (λ u v. replay u limit log v) (length log) max_actions limit short e s)

    -- none of them: the replay
    module _ (f : SizesHold (length log) max_actions (length cs / 2) limit short) where
      roomy : (2 * limit ≤ length out) × (length log ≤ length choices) × (work_words limit log ≤ length work)
      roomy =
          let p = neither (ltb (length out) (2 * limit) || ltb (length choices) (length log)) (ltb (length work) (work_words limit log)) f.roomy in
          let q = neither (ltb (length out) (2 * limit)) (ltb (length choices) (length log)) p.0 in
          (ltb-false (length out) (2 * limit) q.0, ltb-false (length choices) (length log) q.1, ltb-false (length work) (work_words limit log) p.1)

      frames : base (2 * limit) (length log) + (2 * limit + 2) ≡ work_words limit log
      frames = sym (suc-mul (length log) (2 * limit + 2)) ∙ ap (λ (k : ℕ). k * (2 * limit + 2)) (sym (add-one (length log)))

      pub lent : SlicesFit (2 * limit) log out work
      lent = record { out_fits = roomy.0; work_fits = omega (arith, frames, roomy.2) }

      pub narrow : 2 * limit ≤ max_room
      narrow = omega (arith, f.bounded)

      pub slices_fit : (length cs ≤ 2 * limit) × (length log ≤ length choices)
      slices_fit = (omega (arith, f.fits, configuration_length cs (term_of cs) config), roomy.1)

      within : out_limit (2 * limit) ≡ limit
      within = omega (arith, f.bounded)

      answers : gives (replay (table_of ws) (out_limit (2 * limit)) log (term_of cs)) ≡ outcome
      answers =
          ap (λ (n : ℕ). gives (replay (table_of ws) n log (term_of cs))) within
          ∙ sym (replay_outcome_is ws cs log limit (length out) (length choices) (length work) ∙ sizes_pass ws cs (table_of ws) (term_of cs) table config (λ u v. replay u limit log v) (length log) max_actions limit short f)

      pub called : (out' : List ℤ) (choices' : List ℕ) (work' : List ℤ) (x : Result (Option ℕ) Refusal) → AcceptedContract ws cs log (2 * limit) out choices work out' choices' work' x → CountedContract ws cs log limit out choices work out' choices' work' x
      called out' choices' work' x k =
          counted out' choices' work' x (k.answer ∙ ap counted_answer answers)
          (k.leaves ∙ ap (λ (o : Outcome (ReplayResult Term)). replay_out o out) answers)
          (k.leaves_choices_lem ∙ ap (λ (o : Outcome (ReplayResult Term)). replay_choices o choices) answers)
          (k.leaves_work_lem ∙ ap (λ (n : ℕ). write_zeros n work) frames ∙ sym (replay_work_gives work limit log (replay (table_of ws) (out_limit (2 * limit)) log (term_of cs))) ∙ ap (λ (o : Outcome (ReplayResult Term)). replay_work limit log o work) answers)
