-- A pass in the subject's words, from how its walk goes. Assumes nothing.
use Rattle.std.proofs.Common.{◌≡◌, ℕ, ◌-◌, ◌^◌, ◌<◌, ◌≤◌, Bool, true, false, cond, not, ◌&&◌, ◌||◌, ltb, List, [], ◌∷◌, length, get_or, set, Some, None, Decides, Option, sym, refl, ap, ◌∙◌, subst, inl, inr, ⊎_elim, arith}
use Rattle.std.proofs.lemmas.List.{get_or_past}
use Rattle.std.proofs.lemmas.Bool.{both_ways, and_parts, and_from, cases_Bool, cases_lt, cond-true, cond-false, lt-ltb, le-ltb, leb-true, le-leb}
use Rattle.address.specs.Bits.{bit}
use Rattle.address.specs.Parts.{right}
use Rattle.address.specs.SearchOrder.{Agree, Before}
use Rattle.address.specs.Numbers.{bit_beyond}
use Rattle.address.specs.Orders.{search_order}
use Rattle.line.specs.Searching.{answered}
use Rattle.listing.specs.Rule.{State, Walk, silent, stopped, reached, found, spoilt, closed_at, deepest, closing, told, told_value, wanted, forks, walk, searched, outcome_of, opens_by, passed}
use Rattle.listing.specs.Runs.{On, Narrow}
use Rattle.listing.specs.Passes.{Sought, Above, First, Fork, Read, is_closed, StopsAt, Searches, PassesSearch, Comes, starts, goes_on, Reads}
use Rattle.listing.proofs.Answering.{answers, answered_some, sent_small}
use Rattle.listing.proofs.Flags.{Deep, deepest_deep, deepest_none, none_some, above_free, closing_above, closing_below, closing_at, closing_long}
use Rattle.listing.proofs.Levels.{levels_slots}
use Rattle.listing.proofs.Steps.{walk_on}
use Rattle.listing.proofs.Walks.{AsTold, told-down, Stops, Reaches, Goes, Live, goes, lives_on, one_answered, on_narrow}

-- ---- sought is as told

pub sought_told : (d : Option ℕ) (last x : ℕ) → Sought d last x → AsTold d last x
sought_told None last x h j e = absurd (both_ways false refl e)
sought_told (Some k) last x h j e =
    ⊎_elim (λ (l : j < k). h.0 j l ∙ sym (cond-true (ltb j k) (bit j last) true (lt-ltb j k l)))
    (λ l. let same : j ≡ k = omega (arith, leb-true j k e) in
    ap (λ (m : ℕ). bit m x) same ∙ h.1 ∙ sym (cond-false (ltb j k) (bit j last) true (le-ltb j k l))) (cases_lt j k)

-- the values told, at bits below 64
AsToldBelow : Option ℕ → ℕ → ℕ → Type 0
AsToldBelow d last x = (j : ℕ) → j < 64 → told d j ≡ true → bit j x ≡ told_value d last j

told-sought : (d : Option ℕ) (f : List Bool) (last x : ℕ) → Deep d f → AsToldBelow d last x → Sought d last x
unfolding AsToldBelow
told-sought None f last x deep h = tt
told-sought (Some k) f last x deep h =
    let low = (deep.at k refl).0 in (
      (λ j l. h j (omega arith) (le-leb j k (omega arith)) ∙ cond-true (ltb j k) (bit j last) true (lt-ltb j k l)),
      h k low (le-leb k k (omega arith)) ∙ cond-false (ltb k k) (bit k last) true (le-ltb k k (omega arith)),
    )

-- a bit that is 1 is below 64
one_below : (x j : ℕ) → x < 2 ^ 64 → bit j x ≡ true → j < 64
one_below x j small e = ⊎_elim (λ l. l) (λ l. absurd (both_ways (bit j x) (bit_beyond x 64 j small l) e)) (cases_lt j 64)

or_none : (b : Bool) → (b || false) ≡ b
or_none true = refl
or_none false = refl

-- ---- the address reached

module _ (xs : List ℕ) (d : Option ℕ) (last : ℕ) (f : List Bool) (narrow : Narrow xs) (deep : Deep d f) (a : ℕ) (g : List Bool) (h : Reaches xs d last 0 0 f a g) where
  small : a < 2 ^ 64
  small = on_narrow xs a narrow h.on

  tells : (j : ℕ) → j < 64 → told d j ≡ true → bit j a ≡ told_value d last j
  tells j l e = h.values j (omega arith) l ∙ cond-true (told d j) _ _ e

  frees : (j : ℕ) → j < 64 → told d j ≡ false → bit j a ≡ not (answered false j a xs)
  frees j l e = h.values j (omega arith) l ∙ cond-false (told d j) _ _ e

  reached_first : First xs d last a
  unfolding AsToldBelow
  reached_first =
      record {
        on = h.on;
        sought = told-sought d f last a deep tells;
        first = λ x on sought.
            ⊎_elim inl
            (⊎_elim inr (λ (b : Before x a). absurd (behind x on sought b.0 b.1 b.2 b.3)))
            (search_order.total a x);
      }
    where
      behind : (x : ℕ) → On x xs → Sought d last x → (j : ℕ) → Agree j x a → bit j x ≡ false → bit j a ≡ true → ⊥
      behind x on sought j same zero-x one-a =
          let below = one_below a j small one-a in
          ⊎_elim (λ e. both_ways (bit j x) zero-x (sought_told d last x sought j e ∙ sym (tells j below e) ∙ one-a))
          (λ e. both_ways (bit j a) (frees j below e ∙ ap not (answers false j a xs x on same zero-x)) one-a)
          (cases_Bool (told d j))

  -- above d, a flag is whether both values are answered
  above_flag : (j : ℕ) → j < 64 → Above d j → get_or (closing d g) j false ≡ (answered false j a xs && answered true j a xs)
  above_flag j l up =
      closing_above d g j up ∙ h.flags j (omega arith) l
      ∙ (λ i. deep.above j up i || (not (above_free d j up i) && (answered false j a xs && answered true j a xs)))

  -- an address that goes with a up to a bit above d is sought too
  goes_with : (x j : ℕ) → Above d j → Agree j x a → Sought d last x
  unfolding AsToldBelow
  goes_with x j up same =
      told-sought d f last x deep
      (λ i l e. let below : i < j = told_below i e in same i below ∙ tells i l e)
    where
      told_below : (i : ℕ) → told d i ≡ true → i < j
      told_below i e = by_d d up e
        where
          by_d : (c : Option ℕ) → Above c j → told c i ≡ true → i < j
          by_d None u t = absurd (both_ways false refl t)
          by_d (Some k) u t = omega (arith, leb-true i k t)

  reached_opened : (j : ℕ) → Above d j → Decides (get_or (closing d g) j false) (Fork xs d last j a)
  reached_opened j up = (
    (λ e. ⊎_elim (λ (l : j < 64). forked l (sym (above_flag j l up) ∙ e))
        (λ l. absurd (both_ways _ (get_or_past (closing d g) j false (long_enough l)) e)) (cases_lt j 64)),
    (λ k. let l = one_below k.other j (on_narrow xs k.other narrow k.on) k.there in
        above_flag j l up
        ∙ and_from _ _ (answers false j a xs a h.on (λ _ _. refl) k.here) (answers true j a xs k.other k.on k.same k.there)),
  )
    where
      long_enough : 64 ≤ j → length (closing d g) ≤ j
      long_enough l = omega (arith, closing_long d g, h.long)

      forked : j < 64 → (answered false j a xs && answered true j a xs) ≡ true → Fork xs d last j a
      forked l e =
          let both = and_parts _ _ e in
          let some = answered_some true j a xs both.1 in
          record {
            other = some.0;
            on = some.1;
            sought = goes_with some.0 j up some.2;
            same = some.2;
            here = frees j l (above_free d j up) ∙ ap not both.0;
            there = some.3;
          }

  reached_shut : (k : ℕ) → d ≡ Some k → get_or (closing d g) k false ≡ false
  reached_shut k e =
      subst (λ (c : Option ℕ). get_or (closing c g) k false ≡ false) (sym e)
      (closing_at k g (omega (arith, (deep.at k e).0, h.long)))

  reached_kept : (k : ℕ) → d ≡ Some k → (j : ℕ) → j < k → get_or (closing d g) j false ≡ get_or f j false
  reached_kept k e j l =
      subst (λ (c : Option ℕ). get_or (closing c g) j false ≡ get_or g j false) (sym e) (closing_below k g j l)
      ∙ h.flags j (omega arith) (omega (arith, (deep.at k e).0))
      ∙ ap (λ (t : Bool). get_or f j false || (not t && (answered false j a xs && answered true j a xs)))
      (subst (λ (c : Option ℕ). told c j ≡ true) (sym e) (le-leb j k (omega arith)))
      ∙ or_none (get_or f j false)

-- ---- a pass

-- how a pass over xs goes
Went : List ℕ → State → Walk → Type 0
Went xs s silent = xs ≡ []
Went xs s (stopped j) = Stops xs (deepest s.opens) s.last 0 0 j
Went xs s (reached a g) = Reaches xs (deepest s.opens) s.last 0 0 s.opens a g

goes_went : (xs : List ℕ) (s : State) (w : Walk) → Goes xs (deepest s.opens) s.last 0 0 s.opens w → Went xs s w
unfolding Went
goes_went xs s silent h = absurd h
goes_went xs s (stopped j) h = h
goes_went xs s (reached a g) h = h

went : (xs : List ℕ) (s : State) → Narrow xs → length s.opens ≡ 64 → Went xs s (searched xs s)
unfolding Went
went [] s narrow long = refl
went (x ∷ xs) s narrow long =
    goes_went (x ∷ xs) s (searched (x ∷ xs) s)
    (goes (x ∷ xs) (deepest s.opens) s.last narrow 64 0 0 s.opens refl long (omega arith) (x, inl refl, λ j l. absurd (omega arith)))

read_same : (t : Bool) (a b : ℕ) → Read (cond t (found b) (spoilt b)) a → b ≡ a
read_same true a b e = e
read_same false a b e = e

read_open : (t : Bool) (a : ℕ) → is_closed (cond t (found a) (spoilt a)) ≡ false
read_open true a = refl
read_open false a = refl

found_right : (t : Bool) (a b : ℕ) → right b ≡ t → cond t (found b) (spoilt b) ≡ found a → right a ≡ true
found_right true a b r e = let same : b ≡ a = cc in subst (λ (x : ℕ). right x ≡ true) same r
found_right false a b r e = let z : ◌≡◌ {A = ℕ} 0 1 = cc in absurd (omega arith)

spoilt_wrong : (t : Bool) (a b : ℕ) → right b ≡ t → cond t (found b) (spoilt b) ≡ spoilt a → right a ≡ false
spoilt_wrong true a b r e = let z : ◌≡◌ {A = ℕ} 0 1 = cc in absurd (omega arith)
spoilt_wrong false a b r e = let same : b ≡ a = cc in subst (λ (x : ℕ). right x ≡ false) same r

none_on : (xs : List ℕ) → ((x : ℕ) → On x xs → ⊥) → xs ≡ []
none_on [] h = refl
none_on (x ∷ xs) h = absurd (h x (inl refl))

pub all_sought : (d : Option ℕ) (last x : ℕ) → d ≡ None → Sought d last x
all_sought None last x e = tt
all_sought (Some k) last x e = absurd (none_some k (sym e))

module _ (xs : List ℕ) (s : State) (narrow : Narrow xs) (long : length s.opens ≡ 64) where
  deep : Deep (deepest s.opens) s.opens
  deep = deepest_deep s.opens long

  finds : (w : Walk) → Went xs s w → (a : ℕ) → Read (outcome_of w) a → First xs (deepest s.opens) s.last a
  unfolding Went
  finds silent h a r = absurd r
  finds (stopped j) h a r = absurd r
  finds (reached b g) h a r =
      subst (First xs (deepest s.opens) s.last) (read_same (right b) a b r)
      (reached_first xs (deepest s.opens) s.last s.opens narrow deep b g h)

  finds_right : (w : Walk) (a : ℕ) → outcome_of w ≡ found a → right a ≡ true
  finds_right silent a e = let z : ◌≡◌ {A = ℕ} 0 1 = cc in absurd (omega arith)
  finds_right (stopped j) a e = let z : ◌≡◌ {A = ℕ} 0 1 = cc in absurd (omega arith)
  finds_right (reached b g) a e = found_right (right b) a b refl e

  spoils_wrong : (w : Walk) (a : ℕ) → outcome_of w ≡ spoilt a → right a ≡ false
  spoils_wrong silent a e = let z : ◌≡◌ {A = ℕ} 0 1 = cc in absurd (omega arith)
  spoils_wrong (stopped j) a e = let z : ◌≡◌ {A = ℕ} 0 1 = cc in absurd (omega arith)
  spoils_wrong (reached b g) a e = spoilt_wrong (right b) a b refl e

  closes : (w : Walk) → Went xs s w → Decides (is_closed (outcome_of w)) ((x : ℕ) → On x xs → Sought (deepest s.opens) s.last x → ⊥)
  unfolding Went
  closes silent h = (λ _ x on _. subst (On x) h on, λ _. refl)
  closes (stopped j) h = (
    λ _ x on sought.
        h.none x on (λ i l. absurd (omega arith))
        (λ m l q. sought_told (deepest s.opens) s.last x sought m (told-down (deepest s.opens) m j q h.tells)),
    λ _. refl,
  )
  closes (reached a g) h =
      let first = reached_first xs (deepest s.opens) s.last s.opens narrow deep a g h in
      (λ e. absurd (both_ways _ (read_open (right a) a) e), λ none. absurd (none a first.on first.sought))

  closes_at : (w : Walk) → Went xs s w → (i : ℕ) → outcome_of w ≡ closed_at i → StopsAt xs (deepest s.opens) s.last i
  unfolding Went
  closes_at silent h i e = let z : ◌≡◌ {A = ℕ} 0 1 = cc in absurd (omega arith)
  closes_at (stopped j) h i e =
      let same : j ≡ i = cc in
      let n = h.near in
      subst (StopsAt xs (deepest s.opens) s.last) same
      (record {
        tells = h.tells;
        near = (n.0, n.1, λ m l. n.3 m (omega arith) l);
        none = λ x on asked. h.none x on (λ m l. absurd (omega arith)) (λ m l q. asked m (omega arith));
      })
  closes_at (reached a g) h i e = absurd (both_ways _ (read_open (right a) a) (ap is_closed e))

  opened : (w : Walk) → Went xs s w → (a : ℕ) → Read (outcome_of w) a → (j : ℕ) → Above (deepest s.opens) j → Decides (get_or (opens_by w s.opens) j false) (Fork xs (deepest s.opens) s.last j a)
  unfolding Went
  opened silent h a r j up = absurd r
  opened (stopped i) h a r j up = absurd r
  opened (reached b g) h a r j up =
      subst (λ (x : ℕ). Decides (get_or (opens_by (reached b g) s.opens) j false) (Fork xs (deepest s.opens) s.last j x)) (read_same (right b) a b r)
      (reached_opened xs (deepest s.opens) s.last s.opens narrow deep b g h j up)

  closed_above : (j : ℕ) → Above (deepest s.opens) j → get_or (closing (deepest s.opens) s.opens) j false ≡ false
  closed_above j up = closing_above (deepest s.opens) s.opens j up ∙ deep.above j up

  opens_none : (w : Walk) → is_closed (outcome_of w) ≡ true → (j : ℕ) → Above (deepest s.opens) j → get_or (opens_by w s.opens) j false ≡ false
  opens_none silent e j up = closed_above j up
  opens_none (stopped i) e j up = closed_above j up
  opens_none (reached a g) e j up = absurd (both_ways _ (read_open (right a) a) e)

  closed_shut : (k : ℕ) → deepest s.opens ≡ Some k → get_or (closing (deepest s.opens) s.opens) k false ≡ false
  closed_shut k e =
      subst (λ (c : Option ℕ). get_or (closing c s.opens) k false ≡ false) (sym e) (closing_at k s.opens (omega (arith, (deep.at k e).0)))

  shut : (w : Walk) → Went xs s w → (k : ℕ) → deepest s.opens ≡ Some k → get_or (opens_by w s.opens) k false ≡ false
  unfolding Went
  shut silent h k e = closed_shut k e
  shut (stopped j) h k e = closed_shut k e
  shut (reached a g) h k e = reached_shut xs (deepest s.opens) s.last s.opens narrow deep a g h k e

  closed_kept : (k : ℕ) → deepest s.opens ≡ Some k → (j : ℕ) → j < k → get_or (closing (deepest s.opens) s.opens) j false ≡ get_or s.opens j false
  closed_kept k e j l = subst (λ (c : Option ℕ). get_or (closing c s.opens) j false ≡ get_or s.opens j false) (sym e) (closing_below k s.opens j l)

  kept : (w : Walk) → Went xs s w → (k : ℕ) → deepest s.opens ≡ Some k → (j : ℕ) → j < k → get_or (opens_by w s.opens) j false ≡ get_or s.opens j false
  unfolding Went
  kept silent h k e j l = closed_kept k e j l
  kept (stopped i) h k e j l = closed_kept k e j l
  kept (reached a g) h k e j l = reached_kept xs (deepest s.opens) s.last s.opens narrow deep a g h k e j l

  opens_long : (w : Walk) → Went xs s w → length (opens_by w s.opens) ≡ 64
  unfolding Went
  opens_long silent h = closing_long (deepest s.opens) s.opens ∙ long
  opens_long (stopped j) h = closing_long (deepest s.opens) s.opens ∙ long
  opens_long (reached a g) h = closing_long (deepest s.opens) g ∙ h.long

  -- a pass leaves 64 flags
  pub passed_long : length (passed xs s).opens ≡ 64
  passed_long = opens_long (searched xs s) (went xs s narrow long)

  pub searches : Searches xs s
  searches =
      let w = searched xs s in
      let h = went xs s narrow long in
      record {
        finds = finds w h;
        finds_right = finds_right w;
        spoils_wrong = spoils_wrong w;
        closes = closes w h;
        closes_empty = λ e. (
          (λ c. none_on xs (λ x on. (closes w h).0 c x on (all_sought (deepest s.opens) s.last x e))),
          (λ q. (closes w h).1 (λ x on _. subst (On x) q on)),
        );
        closes_at = closes_at w h;
        opened = opened w h;
        opens_none = opens_none w;
        shut = shut w h;
        kept = kept w h;
        completes = deepest_none (passed xs s).opens passed_long;
        slots_given = levels_slots xs s;
      }

pub passes_search : PassesSearch
passes_search xs s narrow long = searches xs s narrow long

-- ---- what a walk reads

comes_live : {xs : List ℕ} {d : Option ℕ} {last i sent : ℕ} → ((x : ℕ) × On x xs) → Comes xs d last i sent → (sent < 2 ^ i) × Live xs i sent
comes_live some starts = (omega arith, (some.0, some.1, λ j l. absurd (omega arith)))
comes_live {xs} {d} {last} some (goes_on {i = i} {sent = sent} c e) =
    let h = comes_live some c in
    (sent_small i sent (wanted d last i (answered false i sent xs)) h.0, lives_on xs d last i sent h.0 h.1 e)

comes_walk : {xs : List ℕ} {d : Option ℕ} {last i sent : ℕ} (f : List Bool) → i ≤ 64 → Comes xs d last i sent → (g : List Bool) × (walk xs d last 64 0 0 f ≡ walk xs d last (64 - i) i sent g)
comes_walk f l starts = (f, refl)
comes_walk {xs} {d} {last} f l (goes_on {i = i} {sent = sent} c e) =
    let so_far = comes_walk f (omega arith) c in (
      cond (forks d i (answered false i sent xs) (answered true i sent xs)) (set so_far.0 i true) so_far.0,
      so_far.1 ∙ walk_on xs d last i sent so_far.0 (omega arith) e,
    )

pub reads : Reads
reads =
    record {
      answers = λ xs v i sent. (answered_some v i sent xs, λ some. answers v i sent xs some.0 some.1 some.2 some.3);
      comes = λ xs d last i sent f l c. comes_walk f l c;
      one_always = λ x xs d last i sent c e.
          let h = comes_live (x, inl refl) c in
          either (answered false i sent (x ∷ xs)) (answered true i sent (x ∷ xs)) (λ q. subst (λ (b : Bool). answered (not b) i sent (x ∷ xs) ≡ true) q (one_answered (x ∷ xs) i sent h.1));
    }
  where
    either : (s t : Bool) → (s ≡ false → t ≡ true) → (s || t) ≡ true
    either true t h = refl
    either false t h = h refl
