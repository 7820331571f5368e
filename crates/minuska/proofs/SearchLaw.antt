-- The search's answer, for any terms, sizes, successors and order: what it means of all paths, and that no other answer means that.
use mathlib.Core.Path.{◌≡◌, refl, sym, ◌∙◌, ap, subst, subst⁻¹}
use mathlib.Core.Bool.{Bool, true, false}
use mathlib.Core.Logic.{◌⊎◌, inl, inr, ◌↔◌}
use mathlib.Core.Option.{Option, none, some, some-injective, some-ne-none}
use mathlib.Core.List.Memᴰ
use mathlib.Core.List.{List, [], ◌∷◌, ◌++◌, Memᴰ}
use Prim.Native.Nat.{ℕ, ◌≤◌, ◌<◌}
use native.Mathlib.Omega.{arith}
use lib.Dec.{leb}
use borrow.Author.Tests.{leb-true, leb-false}
use Rattle.minuska.specs.Path.{Yields, Before, Exceeds}
use Rattle.minuska.specs.Answer.{ReplayResult, reproduced, exceeded, not_reproduced}
use Rattle.minuska.specs.Computed.Replay.{or_later, prepend, try_all, attempt, search}
use Rattle.minuska.proofs.OrderLaw.{Sorted}

-- a list is another or comes before it
abbrev pub NotAfter : (ℕ → ℕ → Type 0) → List ℕ → List ℕ → Type 0
NotAfter Earlier ps qs = (qs ≡ ps) ⊎ Before Earlier ps qs

-- ---- what an answer says of a set of paths and of whether the limit was exceeded
abbrev Says : {A : Type 0} → (ℕ → ℕ → Type 0) → (List ℕ → A → Type 0) → Type 0 → ReplayResult A → Type 0
Says Earlier P O (reproduced ps w) = P ps w × ((qs : List ℕ) (v : _) → P qs v → NotAfter Earlier ps qs)
Says Earlier P O exceeded = ((qs : List ℕ) (v : _) → P qs v → ⊥) × O
Says Earlier P O not_reproduced = ((qs : List ℕ) (v : _) → P qs v → ⊥) × (O → ⊥)

module _ {A : Type 0} (size : A → ℕ) (limit : ℕ) (next : ℕ → ℕ → A → Option A) (Next : ℕ → ℕ → A → A → Type 0)
    (computes : (a n : ℕ) (t u : A) → (next a n t ≡ some u) ↔ Next a n t u) (Earlier : ℕ → ℕ → Type 0) where
  abbrev Small : A → Type 0
  Small u = size u ≤ limit

  abbrev Paths : A → List ℕ → List ℕ → A → Type 0
  Paths = Yields Next Small

  starts_small : (t : A) (log ps : List ℕ) (w : A) → Paths t log ps w → Small t
  starts_small t [] [] w p = p.0
  starts_small t [] (q ∷ ps) w p = absurd p
  starts_small t (a ∷ log) [] w p = absurd p
  starts_small t (a ∷ log) (q ∷ ps) w p = p.0

  -- the limit is exceeded, by recursion on the log
  abbrev Met : List ℕ → A → Type 0
  Met [] t = ⊥
  Met (a ∷ log) t = (r : ℕ) × (u : A) × Next a r t u × ((limit < size u) ⊎ (Small u × Met log u))

  module _ (a : ℕ) (log : List ℕ) (t : A) where
    abbrev Via : ℕ → List ℕ → A → Type 0
    Via q qs w = (u : A) × Next a q t u × Paths u log qs w

    abbrev MetBy : ℕ → Type 0
    MetBy r = (u : A) × Next a r t u × ((limit < size u) ⊎ (Small u × Met log u))

    -- by one rule; by one of some rules
    abbrev POne : ℕ → List ℕ → A → Type 0
    POne r [] w = ⊥
    POne r (q ∷ qs) w = (q ≡ r) × Via q qs w

    abbrev PIn : List ℕ → List ℕ → A → Type 0
    PIn rs [] w = ⊥
    PIn rs (q ∷ qs) w = Memᴰ q rs × Via q qs w

    abbrev OIn : List ℕ → Type 0
    OIn rs = (r : ℕ) × Memᴰ r rs × MetBy r

    -- a rule that gives nothing
    one_none : (r : ℕ) → next a r t ≡ none → Says Earlier (POne r) (MetBy r) not_reproduced
    one_none r e = (none_path, λ m. some-ne-none m.0 (sym ((computes a r t m.0).1 m.1) ∙ e))
      where
        none_path : (qs : List ℕ) (v : A) → POne r qs v → ⊥
        none_path [] v p = p
        none_path (q ∷ qs) v p =
            some-ne-none p.1.0 (sym ((computes a q t p.1.0).1 p.1.1) ∙ ap (λ (x : ℕ). next a x t) p.0 ∙ e)

    -- the term that a path by r goes to is r's successor
    same : (r q : ℕ) (u w : A) → next a r t ≡ some u → q ≡ r → Next a q t w → w ≡ u
    same r q u w e p f = some-injective w u (sym ((computes a q t w).1 f) ∙ ap (λ (x : ℕ). next a x t) p ∙ e)

    one_large : (r : ℕ) (u : A) → next a r t ≡ some u → limit < size u → Says Earlier (POne r) (MetBy r) exceeded
    one_large r u e h = (none_path, (u, (computes a r t u).0 e, inl h))
      where
        clash : (w : A) → w ≡ u → Small w → ⊥
        clash w p s = let k : size u ≤ limit = subst Small p s in omega arith

        none_path : (qs : List ℕ) (v : A) → POne r qs v → ⊥
        none_path [] v p = p
        none_path (q ∷ qs) v p = clash p.1.0 (same r q u p.1.0 e p.0 p.1.1) (starts_small p.1.0 log qs v p.1.2)

    -- a rule whose successor is small: the answer from there, with the rule in front
    module _ (r : ℕ) (u : A) (e : next a r t ≡ some u) (h : Small u) where
      down : (qs : List ℕ) (v : A) → POne r qs v → (ps : List ℕ) × (qs ≡ r ∷ ps) × Paths u log ps v
      down [] v p = absurd p
      down (q ∷ qs) v p =
          (qs, ap (λ (x : ℕ). x ∷ qs) p.0, subst (λ (x : A). Paths x log qs v) (same r q u p.1.0 e p.0 p.1.1) p.1.2)

      below : (limit < size u) ⊎ (Small u × Met log u) → Met log u
      below (inl k) = absurd (let f : ⊥ = omega arith in f)
      below (inr m) = m.1

      up : MetBy r → Met log u
      up m = below (subst (λ (x : A). (limit < size x) ⊎ (Small x × Met log x)) (same r r u m.0 e refl m.1) m.2)

      under : (ps qs : List ℕ) → NotAfter Earlier ps qs → NotAfter Earlier (r ∷ ps) (r ∷ qs)
      under ps qs (inl d) = inl (ap (λ (x : List ℕ). r ∷ x) d)
      under ps qs (inr b) = inr (inr (refl, b))

      one_small : (x : ReplayResult A) → Says Earlier (Paths u log) (Met log u) x → Says Earlier (POne r) (MetBy r) (prepend r x)
      one_small (reproduced ps w) s = ((refl, (u, (computes a r t u).0 e, s.0)), least)
        where
          least : (qs : List ℕ) (v : A) → POne r qs v → NotAfter Earlier (r ∷ ps) qs
          least qs v p =
              let d = down qs v p in
              subst⁻¹ (λ (x : List ℕ). NotAfter Earlier (r ∷ ps) x) d.1 (under ps d.0 (s.1 d.0 v d.2))
      one_small exceeded s = ((λ qs v p. let d = down qs v p in s.0 d.0 v d.2), (u, (computes a r t u).0 e, inr (h, s.1)))
      one_small not_reproduced s = ((λ qs v p. let d = down qs v p in s.0 d.0 v d.2), λ m. s.1 (up m))

    one_rule : (r : ℕ) (go : A → ReplayResult A) → ((u : A) → Small u → Says Earlier (Paths u log) (Met log u) (go u)) → Says Earlier (POne r) (MetBy r) (attempt size limit go r (next a r t))
    one_rule r go ih = pick (next a r t) refl
      where
        sized : (u : A) → next a r t ≡ some u → (b : Bool) → leb (size u) limit ≡ b → Says Earlier (POne r) (MetBy r) (elim b as (λ (x : Bool). ReplayResult A) [ true ↦ prepend r (go u) | false ↦ exceeded ])
        sized u e true k = let h = leb-true (size u) limit k in one_small r u e h (go u) (ih u h)
        sized u e false k = one_large r u e (leb-false (size u) limit k)

        pick : (o : Option A) → next a r t ≡ o → Says Earlier (POne r) (MetBy r) (attempt size limit go r o)
        pick none e = one_none r e
        pick (some u) e = sized u e (leb (size u) limit) refl

    -- a path by one of r ∷ rs is by r, or by one of rs
    part : (r : ℕ) (rs : List ℕ) (X : Type 0) (qs : List ℕ) (v : A) → (POne r qs v → X) → (PIn rs qs v → X) → PIn (r ∷ rs) qs v → X
    part r rs X [] v f g p = absurd p
    part r rs X (q ∷ qs) v f g p = pick (Memᴰ.cases_cons p.0)
      where
        pick : (q ≡ r) ⊎ Memᴰ q rs → X
        pick (inl e) = f (e, p.1)
        pick (inr m) = g (m, p.1)

    here_one : (r : ℕ) (rs : List ℕ) (qs : List ℕ) (v : A) → POne r qs v → PIn (r ∷ rs) qs v
    here_one r rs [] v p = p
    here_one r rs (q ∷ qs) v p = (Memᴰ.head p.0, p.1)

    there_in : (r : ℕ) (rs : List ℕ) (qs : List ℕ) (v : A) → PIn rs qs v → PIn (r ∷ rs) qs v
    there_in r rs [] v p = p
    there_in r rs (q ∷ qs) v p = (Memᴰ.tail p.0, p.1)

    part_met : (r : ℕ) (rs : List ℕ) → (MetBy r → ⊥) → (OIn rs → ⊥) → OIn (r ∷ rs) → ⊥
    part_met r rs f g m = pick (Memᴰ.cases_cons m.1)
      where
        pick : (m.0 ≡ r) ⊎ Memᴰ m.0 rs → ⊥
        pick (inl e) = f (subst MetBy e m.2)
        pick (inr k) = g (m.0, k, m.2)

    -- r's choices stand before those of any later rule
    before_later : (r : ℕ) (rs : List ℕ) → ((s : ℕ) → Memᴰ s rs → Earlier r s) → (ps : List ℕ) (w : A) → POne r ps w → (qs : List ℕ) (v : A) → PIn rs qs v → NotAfter Earlier ps qs
    before_later r rs f [] w p qs v k = absurd p
    before_later r rs f (q ∷ ps) w p [] v k = absurd k
    before_later r rs f (q ∷ ps) w p (s ∷ qs) v k = inr (inl (subst⁻¹ (λ (x : ℕ). Earlier x s) p.0 (f s k.0)))

    merge : (r : ℕ) (rs : List ℕ) → ((s : ℕ) → Memᴰ s rs → Earlier r s) → (x y : ReplayResult A) → Says Earlier (POne r) (MetBy r) x → Says Earlier (PIn rs) (OIn rs) y → Says Earlier (PIn (r ∷ rs)) (OIn (r ∷ rs)) (or_later x y)
    merge r rs f (reproduced ps w) y s k =
        (here_one r rs ps w s.0, λ qs v. part r rs (NotAfter Earlier ps qs) qs v (s.1 qs v) (before_later r rs f ps w s.0 qs v))
    merge r rs f exceeded (reproduced ps w) s k =
        (there_in r rs ps w k.0, λ qs v. part r rs (NotAfter Earlier ps qs) qs v (λ p. absurd (s.0 qs v p)) (k.1 qs v))
    merge r rs f exceeded exceeded s k = ((λ qs v. part r rs ⊥ qs v (s.0 qs v) (k.0 qs v)), (r, Memᴰ.head refl, s.1))
    merge r rs f exceeded not_reproduced s k = ((λ qs v. part r rs ⊥ qs v (s.0 qs v) (k.0 qs v)), (r, Memᴰ.head refl, s.1))
    merge r rs f not_reproduced (reproduced ps w) s k =
        (there_in r rs ps w k.0, λ qs v. part r rs (NotAfter Earlier ps qs) qs v (λ p. absurd (s.0 qs v p)) (k.1 qs v))
    merge r rs f not_reproduced exceeded s k =
        ((λ qs v. part r rs ⊥ qs v (s.0 qs v) (k.0 qs v)), (k.1.0, Memᴰ.tail k.1.1, k.1.2))
    merge r rs f not_reproduced not_reproduced s k = ((λ qs v. part r rs ⊥ qs v (s.0 qs v) (k.0 qs v)), part_met r rs s.1 k.1)

    some_rules : (go : A → ReplayResult A) → ((u : A) → Small u → Says Earlier (Paths u log) (Met log u) (go u)) → (rs : List ℕ) → Sorted Earlier rs → Says Earlier (PIn rs) (OIn rs) (try_all (λ r. attempt size limit go r (next a r t)) rs)
    some_rules go ih [] s = (none_path, λ m. Memᴰ.not-nil m.1)
      where
        none_path : (qs : List ℕ) (v : A) → PIn [] qs v → ⊥
        none_path [] v p = p
        none_path (q ∷ qs) v p = Memᴰ.not-nil p.0
    some_rules go ih (r ∷ rs) s =
        merge r rs s.0 (attempt size limit go r (next a r t)) (try_all (λ x. attempt size limit go x (next a x t)) rs) (one_rule r go ih) (some_rules go ih rs s.1)

  module _ (rules : List ℕ) (sorted : Sorted Earlier rules) (listed : (a r : ℕ) (t u : A) → Next a r t u → Memᴰ r rules) where
    -- from all listed rules to all rules
    all_rules : (a : ℕ) (log : List ℕ) (t : A) → Small t → (x : ReplayResult A) → Says Earlier (PIn a log t rules) (OIn a log t rules) x → Says Earlier (Paths t (a ∷ log)) (Met (a ∷ log) t) x
    all_rules a log t st x s = go x s
      where
        in_out : (ps : List ℕ) (w : A) → PIn a log t rules ps w → Paths t (a ∷ log) ps w
        in_out [] w p = p
        in_out (q ∷ ps) w p = (st, p.1)

        out_in : (ps : List ℕ) (w : A) → Paths t (a ∷ log) ps w → PIn a log t rules ps w
        out_in [] w p = p
        out_in (q ∷ ps) w p = (listed a q t p.1.0 p.1.1, p.1)

        go : (y : ReplayResult A) → Says Earlier (PIn a log t rules) (OIn a log t rules) y → Says Earlier (Paths t (a ∷ log)) (Met (a ∷ log) t) y
        go (reproduced ps w) k = (in_out ps w k.0, λ qs v p. k.1 qs v (out_in qs v p))
        go exceeded k = ((λ qs v p. k.0 qs v (out_in qs v p)), (k.1.0, k.1.2.0, k.1.2.1, k.1.2.2))
        go not_reproduced k =
            ((λ qs v p. k.0 qs v (out_in qs v p)), λ m. k.1 (m.0, listed a m.0 t m.1 m.2, (m.1, m.2, m.3)))

    says : (log : List ℕ) (t : A) → Small t → Says Earlier (Paths t log) (Met log t) (search size limit next rules log t)
    says [] t st = ((st, refl), least)
      where
        least : (qs : List ℕ) (v : A) → Paths t [] qs v → NotAfter Earlier [] qs
        least [] v p = inl refl
        least (q ∷ qs) v p = absurd p
    says (a ∷ log) t st =
        all_rules a log t st (search size limit next rules (a ∷ log) t) (some_rules a log t (λ u. search size limit next rules log u) (λ u h. says log u h) rules sorted)

  -- ---- the limit is exceeded, as the claim says it
  met_exceeds : (log : List ℕ) (t : A) → Small t → Met log t → Exceeds size limit Next t log
  met_exceeds [] t st m = absurd m
  met_exceeds (a ∷ log) t st m = pick (λ h k. met_exceeds log m.1 h k) m.3
    where
      shift : Exceeds size limit Next m.1 log → Exceeds size limit Next t (a ∷ log)
      shift v =
          record { before = a ∷ v.before; action = v.action; after = v.after; parted = ap (λ (x : List ℕ). a ∷ x) v.parted; choices = m.0 ∷ v.choices; end = v.end; path = (st, (m.1, m.2, v.path)); rule = v.rule; successor = v.successor; steps = v.steps; above = v.above }

      pick : (Small m.1 → Met log m.1 → Exceeds size limit Next m.1 log) → (limit < size m.1) ⊎ (Small m.1 × Met log m.1) → Exceeds size limit Next t (a ∷ log)
      pick ih (inl h) =
          record { before = []; action = a; after = log; parted = refl; choices = []; end = t; path = (st, refl); rule = m.0; successor = m.1; steps = m.2; above = h }
      pick ih (inr k) = shift (ih k.0 k.1)

  met_at_lem : (before : List ℕ) (a : ℕ) (after : List ℕ) (ps : List ℕ) (t w : A) → Paths t before ps w → (r : ℕ) (u : A) → Next a r w u → limit < size u → Met (before ++ (a ∷ after)) t
  met_at_lem [] a after [] t w p r u e h = (r, u, subst⁻¹ (λ (x : A). Next a r x u) p.1 e, inl h)
  met_at_lem [] a after (q ∷ ps) t w p r u e h = absurd p
  met_at_lem (b ∷ before) a after [] t w p r u e h = absurd p
  met_at_lem (b ∷ before) a after (q ∷ ps) t w p r u e h =
      let k = p.1 in
      (q, k.0, k.1, inr (starts_small k.0 before ps w k.2, met_at_lem before a after ps k.0 w k.2 r u e h))

  exceeds_met : (log : List ℕ) (t : A) → Exceeds size limit Next t log → Met log t
  exceeds_met log t v =
      subst⁻¹ (λ (x : List ℕ). Met x t) v.parted (met_at_lem v.before v.action v.after v.choices t v.end v.path v.rule v.successor v.steps v.above)

  -- ---- WHAT AN ANSWER MEANS, of all paths within the limit that yield the log
  module _ (log : List ℕ) (t : A) where
    abbrev pub Found : Type 0
    Found = (ns : List ℕ) × (w : A) × Yields Next (λ u. size u ≤ limit) t log ns w

    abbrev pub Means : ReplayResult A → Type 0
    Means (reproduced ps w) = Yields Next (λ u. size u ≤ limit) t log ps w × ((qs : List ℕ) (v : A) → Yields Next (λ u. size u ≤ limit) t log qs v → NotAfter Earlier ps qs)
    Means exceeded = (Found → ⊥) × Exceeds size limit Next t log
    Means not_reproduced = (Found → ⊥) × (Exceeds size limit Next t log → ⊥)

  -- THE SEARCH'S ANSWER MEANS IT
  module _ (rules : List ℕ) (sorted : Sorted Earlier rules) (listed : (a r : ℕ) (t u : A) → Next a r t u → Memᴰ r rules) where
    pub search_means : (log : List ℕ) (t : A) → size t ≤ limit → Means log t (search size limit next rules log t)
    search_means log t st = go (search size limit next rules log t) (says rules sorted listed log t st)
      where
        go : (x : ReplayResult A) → Says Earlier (Paths t log) (Met log t) x → Means log t x
        go (reproduced ps w) s = s
        go exceeded s = ((λ f. s.0 f.0 f.1 f.2), met_exceeds log t st s.1)
        go not_reproduced s = ((λ f. s.0 f.0 f.1 f.2), λ v. s.1 (exceeds_met log t v))

  -- where it means "not reproduced", no path of any size yields the log
  any_size : (log : List ℕ) (t : A) → Small t → (ps : List ℕ) (w : A) → Yields Next (λ u. Unit {0}) t log ps w → Paths t log ps w ⊎ Met log t
  any_size [] t st [] w p = inl (st, p.1)
  any_size [] t st (q ∷ ps) w p = absurd p
  any_size (a ∷ log) t st [] w p = absurd p
  any_size (a ∷ log) t st (q ∷ ps) w p = test (leb (size p.1.0) limit) refl (λ h. any_size log p.1.0 h ps w p.1.2)
    where
      deep : Small p.1.0 → Paths p.1.0 log ps w ⊎ Met log p.1.0 → Paths t (a ∷ log) (q ∷ ps) w ⊎ Met (a ∷ log) t
      deep h (inl k) = inl (st, (p.1.0, p.1.1, k))
      deep h (inr m) = inr (q, p.1.0, p.1.1, inr (h, m))

      test : (b : Bool) → leb (size p.1.0) limit ≡ b → (Small p.1.0 → Paths p.1.0 log ps w ⊎ Met log p.1.0) → Paths t (a ∷ log) (q ∷ ps) w ⊎ Met (a ∷ log) t
      test true e ih = let h = leb-true (size p.1.0) limit e in deep h (ih h)
      test false e ih = inr (q, p.1.0, p.1.1, inl (leb-false (size p.1.0) limit e))

  pub none_of_any_size_lem : (log : List ℕ) (t : A) → size t ≤ limit → Means log t not_reproduced → (ps : List ℕ) (w : A) → Yields Next (λ u. Unit {0}) t log ps w → ⊥
  none_of_any_size_lem log t st c ps w p = pick (any_size log t st ps w p)
    where
      pick : Paths t log ps w ⊎ Met log t → ⊥
      pick (inl k) = c.0 (ps, w, k)
      pick (inr m) = c.1 (met_exceeds log t st m)

  -- NO OTHER ANSWER MEANS IT
  module _ (asymmetric : (p q : ℕ) → Earlier p q → Earlier q p → ⊥) where
    no_self : (p q : ℕ) → Earlier p q → p ≡ q → ⊥
    no_self p q h e = asymmetric q q (subst (λ (x : ℕ). Earlier x q) e h) (subst (λ (x : ℕ). Earlier x q) e h)

    not_both : (ps qs : List ℕ) → Before Earlier ps qs → Before Earlier qs ps → ⊥
    not_both [] [] h k = h
    not_both [] (q ∷ qs) h k = k
    not_both (p ∷ ps) [] h k = h
    not_both (p ∷ ps) (q ∷ qs) h k = pick h k (λ a b. not_both ps qs a b)
      where
        pick : Earlier p q ⊎ ((p ≡ q) × Before Earlier ps qs) → Earlier q p ⊎ ((q ≡ p) × Before Earlier qs ps) → (Before Earlier ps qs → Before Earlier qs ps → ⊥) → ⊥
        pick (inl a) (inl b) ih = asymmetric p q a b
        pick (inl a) (inr b) ih = no_self p q a (sym b.0)
        pick (inr a) (inl b) ih = no_self q p b (sym a.0)
        pick (inr a) (inr b) ih = ih a.1 b.1

    antisymmetric : (ps qs : List ℕ) → NotAfter Earlier ps qs → NotAfter Earlier qs ps → ps ≡ qs
    antisymmetric ps qs (inl e) k = sym e
    antisymmetric ps qs (inr b) (inl e) = e
    antisymmetric ps qs (inr b) (inr c) = absurd (not_both ps qs b c)

    same_end : (log : List ℕ) (t : A) (ps : List ℕ) (w v : A) → Paths t log ps w → Paths t log ps v → w ≡ v
    same_end [] t [] w v p q = sym p.1 ∙ q.1
    same_end [] t (r ∷ ps) w v p q = absurd p
    same_end (a ∷ log) t [] w v p q = absurd p
    same_end (a ∷ log) t (r ∷ ps) w v p q =
        let k = p.1 in
        let j = q.1 in
        let e : j.0 ≡ k.0 = some-injective j.0 k.0 (sym ((computes a r t j.0).1 j.1) ∙ (computes a r t k.0).1 k.1) in
        same_end log k.0 ps w v k.2 (subst (λ (x : A). Paths x log ps v) e j.2)

    pub one_meaning : (log : List ℕ) (t : A) (x y : ReplayResult A) → Means log t x → Means log t y → x ≡ y
    one_meaning log t (reproduced ps w) (reproduced qs v) c d =
        let e : ps ≡ qs = antisymmetric ps qs (c.1 qs v d.0) (d.1 ps w c.0) in
        let f : w ≡ v = same_end log t qs w v (subst (λ (x : List ℕ). Paths t log x w) e c.0) d.0 in
        cc
    one_meaning log t (reproduced ps w) exceeded c d = absurd (d.0 (ps, w, c.0))
    one_meaning log t (reproduced ps w) not_reproduced c d = absurd (d.0 (ps, w, c.0))
    one_meaning log t exceeded (reproduced qs v) c d = absurd (c.0 (qs, v, d.0))
    one_meaning log t exceeded exceeded c d = refl
    one_meaning log t exceeded not_reproduced c d = absurd (d.1 c.1)
    one_meaning log t not_reproduced (reproduced qs v) c d = absurd (c.0 (qs, v, d.0))
    one_meaning log t not_reproduced exceeded c d = absurd (c.1 d.1)
    one_meaning log t not_reproduced not_reproduced c d = refl
