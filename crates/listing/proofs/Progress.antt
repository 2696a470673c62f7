-- Progress: passes over a line that stays complete a listing or reach its limit. Assumes nothing.
use Rattle.std.proofs.Common.{◌≡◌, ℕ, zero, suc, ◌+◌, ◌-◌, ◌^◌, ◌<◌, ◌≤◌, max, Bool, true, false, cond, not, ◌&&◌, leb, ◌⊎◌, List, [], ◌∷◌, length, get_or, is_some, Some, None, Decides, Option, sym, refl, ap, ◌∙◌, subst, inl, inr, ⊎_elim, arith}
use Rattle.std.specs.List.{range_with_len, AllByRecursion}
use Rattle.std.proofs.lemmas.Bool.{both_ways, and_parts, and_from, and_left, cond-true, cond-false, not-true, lt-leb}
use Rattle.address.specs.Orders.{search_order}
use Rattle.line.specs.Searching.{answered}
use Rattle.listing.specs.declared.answer.PassRefusal.TheVariants.{Complete, LimitReached}
use Rattle.listing.specs.Rule.{State, deepest, outcome, passed, pass_refusal}
use Rattle.listing.specs.Runs.{pass, does, after, passes, Pass, On, Narrow, NoneOpen}
use Rattle.listing.specs.Passes.{Sought, Above, Read, is_closed, Searches}
use Rattle.listing.specs.Still.{Alike, again, open_bits, PassesProgress}
use Rattle.listing.proofs.Answering.{all_on, agree_flip, agree_less, answers, answered_some, answered_like}
use Rattle.listing.proofs.Counts.{count, count_le, count_lt, count_all, count_none, on_counting, open_counted, later, later_before, before_later, not_later}
use Rattle.listing.proofs.Flags.{deepest_deep, deepest_none}
use Rattle.listing.proofs.Members.{passes_see_addresses}
use Rattle.listing.proofs.Moves.{Ends, pass_ends, place, sought_at, Zeros, passed_zeros, read_later}
use Rattle.listing.proofs.Passes.{searches, passed_long}
use Rattle.listing.proofs.Runs.{Sound, after_sound}

-- ---- refused or not

-- a pass that is refused changes nothing, and so do those behind it
refused_stays : (n : ℕ) (xs : List ℕ) (s : State) → is_some (pass_refusal s) ≡ true → again n xs s ≡ s
unfolding again
refused_stays zero xs s e = refl
refused_stays (suc n) xs s e =
    let same : does (pass xs) s ≡ s = cond-true (is_some (pass_refusal s)) s (passed xs s) e in
    ap (again n xs) same ∙ refused_stays n xs s e

pub again_none : (xs : List ℕ) (s : State) → again 0 xs s ≡ s
unfolding again
again_none xs s = refl

pub again_more : (n : ℕ) (xs : List ℕ) (s : State) → is_some (pass_refusal s) ≡ false → again (suc n) xs s ≡ again n xs (passed xs s)
unfolding again
again_more n xs s e = ap (again n xs) (cond-false (is_some (pass_refusal s)) s (passed xs s) e)

not_refused : (s : State) → is_some (pass_refusal s) ≡ false → s.complete ≡ false
not_refused s e = by_complete s.complete refl e
  where
    by_complete : (t : Bool) → s.complete ≡ t → is_some (cond t (Some Complete) (cond (leb s.limit (length s.listed)) (Some LimitReached) None)) ≡ false → s.complete ≡ false
    by_complete true c q = absurd (both_ways true q refl)
    by_complete false c q = c

complete_refuses : (s : State) → s.complete ≡ true → is_some (pass_refusal s) ≡ true
complete_refuses s e =
    ap (λ (t : Bool). is_some (cond t (Some Complete) (cond (leb s.limit (length s.listed)) (Some LimitReached) None))) e

pub going_on : (s : State) → s.complete ≡ false → length s.listed < s.limit → pass_refusal s ≡ None
going_on s c l =
    ap (λ (t : Bool). cond t (Some Complete) (cond (leb s.limit (length s.listed)) (Some LimitReached) None)) c
    ∙ ap (λ (t : Bool). cond t (Some LimitReached) None) (lt-leb s.limit (length s.listed) l)

-- ---- a listing with passes

-- 64 flags, the last address has 0 at the open bits, and complete is to have none
pub record Steady (s : State) : Type 0 where
  pub long : length s.opens ≡ 64
  pub zeros : Zeros s.opens s.last
  pub ends : Decides s.complete (NoneOpen s.opens)

pub passed_steady : (xs : List ℕ) (s : State) → Narrow xs → length s.opens ≡ 64 → Zeros s.opens s.last → Steady (passed xs s)
passed_steady xs s narrow long zeros =
    record { long = passed_long xs s narrow long; zeros = passed_zeros xs s narrow long zeros; ends = (searches xs s narrow long).completes }

-- a bit is open, or the listing is complete
pub deepest_open : (s : State) → Steady s → s.complete ≡ false → (k : ℕ) × (deepest s.opens ≡ Some k)
deepest_open s h c = by_d (deepest s.opens) refl
  where
    by_d : (d : Option ℕ) → deepest s.opens ≡ d → (k : ℕ) × (deepest s.opens ≡ Some k)
    by_d None e =
        let none = (deepest_none s.opens h.long).0 (ap (λ (d : Option ℕ). not (is_some d)) e) in
        absurd (both_ways s.complete c (h.ends.1 none))
    by_d (Some k) e = (k, e)

-- ---- what is still to do

-- bit j is open, and nothing lies behind it
idle : List ℕ → List Bool → ℕ → ℕ → Bool
idle xs f last j = get_or f j false && not (answered true j last xs)

-- how many there are
idles : List ℕ → List Bool → ℕ → ℕ
idles xs f last = count (idle xs f last) (range_with_len 0 64)

-- the addresses after the last one, and the bits behind which nothing lies
left : List ℕ → State → ℕ
left xs s = count (later s.last) xs + idles xs s.opens s.last

module _ (xs : List ℕ) (s : State) (narrow : Narrow xs) (long : length s.opens ≡ 64) (zeros : Zeros s.opens s.last) where
  law : Searches xs s
  law = searches xs s narrow long

  -- an open bit above d has an address behind it
  pub opened_busy : (a : ℕ) → Read (outcome xs s) a → (j : ℕ) → Above (deepest s.opens) j → get_or (passed xs s).opens j false ≡ true → answered true j a xs ≡ true
  opened_busy a r j up o = let k = (law.opened a r j up).0 o in answers true j a xs k.other k.on k.same k.there

  -- below d the address read has the bits of the last one
  pub like_last : (a : ℕ) → Read (outcome xs s) a → (j k : ℕ) → deepest s.opens ≡ Some k → j < k → answered true j s.last xs ≡ answered true j a xs
  like_last a r j k e l =
      let with-last = (sought_at (deepest s.opens) k s.last a e (law.finds a r).sought).0 in
      let less : j ≤ k = omega arith in
      answered_like true j s.last a xs xs (agree_flip j a s.last (agree_less j k a s.last less with-last)) (λ _ o. o) (λ _ o. o)

  -- a pass that closes does away with a bit behind which nothing lies
  closed_falls : (k : ℕ) → deepest s.opens ≡ Some k → is_closed (outcome xs s) ≡ true → idles xs (passed xs s).opens s.last < idles xs s.opens s.last
  unfolding idles idle
  closed_falls k e c =
      let at-k = (deepest_deep s.opens long).at k e in
      count_lt (idle xs (passed xs s).opens s.last) (idle xs s.opens s.last) (range_with_len 0 64) (λ j _ t. still_open j t)
      k (on_counting 0 64 k (omega arith) (omega (arith, at-k.0)))
      (and_left (get_or (passed xs s).opens k false) _ (law.shut k e))
      (and_from (get_or s.opens k false) (not (answered true k s.last xs)) at-k.1 (nothing (answered true k s.last xs) refl))
    where
      still_open : (j : ℕ) → idle xs (passed xs s).opens s.last j ≡ true → idle xs s.opens s.last j ≡ true
      still_open j t =
          let parts = and_parts (get_or (passed xs s).opens j false) (not (answered true j s.last xs)) t in
          and_from (get_or s.opens j false) (not (answered true j s.last xs))
          (⊎_elim (λ up. absurd (both_ways _ (law.opens_none c j up) parts.0))
          (⊎_elim (λ q. absurd (both_ways _ (law.shut j q) parts.0))
          (λ (p : (m : ℕ) × (deepest s.opens ≡ Some m) × (j < m)). sym (law.kept p.0 p.1 j p.2) ∙ parts.0)) (place (deepest s.opens) j))
          parts.1

      nothing : (t : Bool) → answered true k s.last xs ≡ t → not t ≡ true
      nothing true q =
          let some = answered_some true k s.last xs q in
          absurd (law.closes.0 c some.0 some.1 (subst (λ (d : Option ℕ). Sought d s.last some.0) (sym e) (some.2, some.3)))
      nothing false q = refl

  -- a pass that reads an address leaves fewer behind it
  read_falls : (a k : ℕ) → deepest s.opens ≡ Some k → Read (outcome xs s) a → count (later a) xs < count (later s.last) xs
  read_falls a k e r =
      let after_last = read_later xs s narrow long a k r e zeros in
      count_lt (later a) (later s.last) xs
      (λ x _ t. before_later s.last x (search_order.transitive s.last a x after_last (later_before a x t)))
      a (law.finds a r).on (not_later a a (search_order.irreflexive a)) (before_later s.last a after_last)

  -- and no more bits behind which nothing lies
  read_keeps : (a : ℕ) → Read (outcome xs s) a → idles xs (passed xs s).opens a ≤ idles xs s.opens s.last
  unfolding idles idle
  read_keeps a r = count_le (idle xs (passed xs s).opens a) (idle xs s.opens s.last) (range_with_len 0 64) (λ j _ t. was_idle j t)
    where
      was_idle : (j : ℕ) → idle xs (passed xs s).opens a j ≡ true → idle xs s.opens s.last j ≡ true
      was_idle j t =
          let parts = and_parts (get_or (passed xs s).opens j false) (not (answered true j a xs)) t in
          ⊎_elim (λ up. absurd (both_ways _ (not-true _ parts.1) (opened_busy a r j up parts.0)))
          (⊎_elim (λ q. absurd (both_ways _ (law.shut j q) parts.0))
          (λ (p : (m : ℕ) × (deepest s.opens ≡ Some m) × (j < m)).
          and_from (get_or s.opens j false) (not (answered true j s.last xs)) (sym (law.kept p.0 p.1 j p.2) ∙ parts.0)
          (ap not (like_last a r j p.0 p.1 p.2) ∙ parts.1))) (place (deepest s.opens) j)

  -- with d, every pass leaves less to do
  falls : (k : ℕ) → deepest s.opens ≡ Some k → left xs (passed xs s) < left xs s
  unfolding left
  falls k e = by_end (pass_ends xs s)
    where
      by_end : Ends (outcome xs s) s.last (passed xs s).last → count (later (passed xs s).last) xs + idles xs (passed xs s).opens (passed xs s).last < count (later s.last) xs + idles xs s.opens s.last
      by_end (inl h) =
          subst (λ (y : ℕ). count (later y) xs + idles xs (passed xs s).opens y < count (later s.last) xs + idles xs s.opens s.last) (sym h.2)
          (omega (arith, closed_falls k e h.0))
      by_end (inr h) =
          subst (λ (y : ℕ). count (later y) xs + idles xs (passed xs s).opens y < count (later s.last) xs + idles xs s.opens s.last) (sym h.3)
          (omega (arith, read_falls h.0 k e h.1, read_keeps h.0 h.1))

  -- with d absent every open bit of a pass has an address behind it
  first_busy : (a : ℕ) → Read (outcome xs s) a → deepest s.opens ≡ None → idles xs (passed xs s).opens a ≡ 0
  unfolding idles idle
  first_busy a r e =
      count_none (idle xs (passed xs s).opens a) (range_with_len 0 64)
      (λ j _ t. let parts = and_parts (get_or (passed xs s).opens j false) (not (answered true j a xs)) t in
      both_ways _ (not-true _ parts.1) (opened_busy a r j (subst (λ (d : Option ℕ). Above d j) (sym e) tt) parts.0))

  first_fewer : (a : ℕ) → Read (outcome xs s) a → count (later a) xs < length xs
  first_fewer a r =
      let fewer = count_lt (later a) (λ _. true) xs (λ _ _ _. refl) a (law.finds a r).on (not_later a a (search_order.irreflexive a)) refl in
      omega (arith, count_all xs)

  -- with d absent a pass completes the listing, or reads one of the addresses
  first_pass : deepest s.opens ≡ None → ((passed xs s).complete ≡ true) ⊎ (left xs (passed xs s) < length xs)
  unfolding left
  first_pass e = by_end (pass_ends xs s)
    where
      by_end : Ends (outcome xs s) s.last (passed xs s).last → ((passed xs s).complete ≡ true) ⊎ (count (later (passed xs s).last) xs + idles xs (passed xs s).opens (passed xs s).last < length xs)
      by_end (inl h) = inl (law.completes.1 (λ j. law.opens_none h.0 j (subst (λ (d : Option ℕ). Above d j) (sym e) tt)))
      by_end (inr h) =
          inr (subst (λ (y : ℕ). count (later y) xs + idles xs (passed xs s).opens y < length xs) (sym h.3) (omega (arith, first_busy h.0 h.1 e, first_fewer h.0 h.1)))

-- ---- progress

-- as many passes as there is left to do
steady_refused : (n : ℕ) (xs : List ℕ) (s : State) → Narrow xs → Steady s → left xs s ≤ n → is_some (pass_refusal (again n xs s)) ≡ true
steady_refused zero xs s narrow h l = by_refusal (is_some (pass_refusal s)) refl
  where
    by_refusal : (t : Bool) → is_some (pass_refusal s) ≡ t → is_some (pass_refusal (again 0 xs s)) ≡ true
    by_refusal true e = ap (λ (u : State). is_some (pass_refusal u)) (again_none xs s) ∙ e
    by_refusal false e =
        let k = deepest_open s h (not_refused s e) in
        let less = falls xs s narrow h.long h.zeros k.0 k.1 in
        absurd (omega (arith, less))
steady_refused (suc n) xs s narrow h l =
    by_refusal (is_some (pass_refusal s)) refl (λ m. steady_refused n xs (passed xs s) narrow (passed_steady xs s narrow h.long h.zeros) m)
  where
    by_refusal : (t : Bool) → is_some (pass_refusal s) ≡ t → (left xs (passed xs s) ≤ n → is_some (pass_refusal (again n xs (passed xs s))) ≡ true) → is_some (pass_refusal (again (suc n) xs s)) ≡ true
    by_refusal true e rest = ap (λ (u : State). is_some (pass_refusal u)) (refused_stays (suc n) xs s e) ∙ e
    by_refusal false e rest =
        let k = deepest_open s h (not_refused s e) in
        let less = falls xs s narrow h.long h.zeros k.0 k.1 in
        ap (λ (u : State). is_some (pass_refusal u)) (again_more n xs s e) ∙ rest (omega (arith, less))

idle_few : (ys : List ℕ) (f : List Bool) (last : ℕ) → length f ≡ 64 → idles ys f last ≤ open_bits f
unfolding idles idle
idle_few ys f last e =
    subst (λ (n : ℕ). count (idle ys f last) (range_with_len 0 64) ≤ n) (sym (open_counted f e))
    (count_le (idle ys f last) (λ j. get_or f j false) (range_with_len 0 64) (λ j _ t. (and_parts (get_or f j false) (not (answered true j last ys)) t).0))

-- what is left to do is no more than the addresses and the open bits
left_few : (xs : List ℕ) (s : State) → length s.opens ≡ 64 → left xs s ≤ length xs + open_bits s.opens
unfolding left
left_few xs s long =
    let addresses : count (later s.last) xs ≤ length xs = omega (arith, count_le (later s.last) (λ _. true) xs (λ _ _ _. refl), count_all xs) in
    let few = idle_few xs s.opens s.last long in
    omega arith

sound_refused : (n : ℕ) (xs : List ℕ) (s : State) (ps : List Pass) → Narrow xs → Sound s ps → length xs + open_bits s.opens ≤ suc n → is_some (pass_refusal (again (suc n) xs s)) ≡ true
sound_refused n xs s ps narrow h l = by_refusal (is_some (pass_refusal s)) refl
  where
    first : is_some (pass_refusal s) ≡ false → deepest s.opens ≡ None → is_some (pass_refusal (again n xs (passed xs s))) ≡ true
    first e none =
        ⊎_elim
        (λ c. let r = complete_refuses (passed xs s) c in ap (λ (u : State). is_some (pass_refusal u)) (refused_stays n xs (passed xs s) r) ∙ r)
        (λ (less : left xs (passed xs s) < length xs). steady_refused n xs (passed xs s) narrow (passed_steady xs s narrow h.long h.zeros) (omega arith))
        (first_pass xs s narrow h.long h.zeros none)

    by_d : is_some (pass_refusal s) ≡ false → (d : Option ℕ) → deepest s.opens ≡ d → is_some (pass_refusal (again (suc n) xs s)) ≡ true
    by_d e None q = ap (λ (u : State). is_some (pass_refusal u)) (again_more n xs s e) ∙ first e q
    by_d e (Some k) q =
        steady_refused (suc n) xs s narrow
        (record {
          long = h.long;
          zeros = h.zeros;
          ends = (h.complete_closed, λ none. absurd (both_ways _ (none k) ((deepest_deep s.opens h.long).at k q).1));
        })
        (omega (arith, left_few xs s h.long))

    by_refusal : (t : Bool) → is_some (pass_refusal s) ≡ t → is_some (pass_refusal (again (suc n) xs s)) ≡ true
    by_refusal true e = ap (λ (u : State). is_some (pass_refusal u)) (refused_stays (suc n) xs s e) ∙ e
    by_refusal false e = by_d e (deepest s.opens) refl

-- ---- lines with the same addresses

all_from_on : (P : ℕ → Type 0) (xs : List ℕ) → ((x : ℕ) → On x xs → P x) → AllByRecursion P xs
all_from_on P [] h = tt
all_from_on P (x ∷ xs) h = (h x (inl refl), all_from_on P xs (λ y on. h y (inr on)))

pub alike_narrow : (line xs : List ℕ) → Alike line xs → Narrow line → Narrow xs
alike_narrow line xs same narrow = all_from_on (λ a. a < 2 ^ 64) xs (λ x on. all_on (λ a. a < 2 ^ 64) line x narrow (same.back x on))

pub again_like : (n : ℕ) (line xs : List ℕ) → Alike line xs → (s : State) → again n line s ≡ again n xs s
unfolding again
again_like zero line xs same s = refl
again_like (suc n) line xs same s =
    ap (again n line) (ap (λ (t : State). cond (is_some (pass_refusal s)) s t) (passes_see_addresses line xs same s).state) ∙ again_like n line xs same (does (pass xs) s)

pub passes_progress : PassesProgress
passes_progress calls ns line xs narrow same =
    let s = after calls in
    let n = max (length xs + open_bits s.opens) 1 in
    let some : suc (n - 1) ≡ n = omega arith in
    ap (λ (u : State). is_some (pass_refusal u)) (again_like n line xs same s)
    ∙ subst (λ (m : ℕ). is_some (pass_refusal (again m xs s)) ≡ true) some
    (sound_refused (n - 1) xs s (passes calls) (alike_narrow line xs same narrow) (after_sound calls ns) (omega arith))
