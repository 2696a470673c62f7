-- After a begin, n different addresses on a line that stays take n passes. Assumes nothing.
use Rattle.std.proofs.Common.{◌≡◌, ℕ, zero, suc, ◌+◌, ◌<◌, ◌≤◌, max, Bool, true, false, cond, ◌⊎◌, List, [], ◌∷◌, length, get_or, is_some, Some, None, Option, sym, refl, ap, ◌∙◌, subst, inl, inr, ⊎_elim, arith}
use Rattle.std.proofs.lemmas.List.{length-append}
use Rattle.std.proofs.lemmas.Bool.{both_ways, cases_Bool, le-ltb}
use Rattle.address.specs.SearchOrder.{Before}
use Rattle.address.specs.Orders.{search_order}
use Rattle.line.specs.Searching.{answered}
use Rattle.listing.specs.declared.begin_refusal.BeginRefusal.TheVariants.{LimitTooHigh}
use Rattle.listing.specs.Rule.{State, begun, deepest, outcome, lists, passed, pass_refusal}
use Rattle.listing.specs.Runs.{begin, does, On, Narrow}
use Rattle.listing.specs.Passes.{Sought, Read, is_closed, Searches}
use Rattle.listing.specs.Still.{Alike, again, Different, Straight, StillLinesList}
use Rattle.listing.proofs.Answering.{agree_flip, answered_some, same_test}
use Rattle.listing.proofs.Counts.{count, count_drop, count_all, count_some, counted_some, later, later_before, before_later, not_later}
use Rattle.listing.proofs.Flags.{deepest_deep}
use Rattle.listing.proofs.Members.{passes_see_addresses}
use Rattle.listing.proofs.Moves.{Ends, pass_ends, place, Behind, Zeros, moves_read, later_behind, read_later}
use Rattle.listing.proofs.Passes.{searches}
use Rattle.listing.proofs.Progress.{Steady, passed_steady, deepest_open, again_none, again_more, going_on, opened_busy, like_last, alike_narrow, again_like}
use Rattle.listing.proofs.Runs.{lists_few, begun_zeros}

-- what lies behind an open bit comes after the last address
behind_later : (f : List Bool) (last x : ℕ) → Zeros f last → Behind f last x → Before last x
behind_later f last x z b = (b.0, agree_flip b.0 x last b.2, z b.0 b.1, b.3)

-- i passes were made over xs, and each read another address
record Nearly (xs : List ℕ) (limit i : ℕ) (s : State) : Type 0 where
  steady : Steady s
  -- every address was read, or lies behind an open bit
  seen : (x : ℕ) → On x xs → (x ≡ s.last) ⊎ (Before x s.last ⊎ Behind s.opens s.last x)
  -- an address lies behind every open bit
  busy : (j : ℕ) → get_or s.opens j false ≡ true → answered true j s.last xs ≡ true
  counted : count (later s.last) xs + i ≡ length xs
  few : length s.listed ≤ i
  limits : s.limit ≡ limit

module _ (xs : List ℕ) (limit : ℕ) (narrow : Narrow xs) (apart : Different xs) where
  few_more : (i : ℕ) (s : State) → length s.listed ≤ i → length (passed xs s).listed ≤ i + 1
  few_more i s l = omega (arith, length-append s.listed (lists (outcome xs s)), lists_few (outcome xs s))

  module _ (i : ℕ) (s : State) (h : Nearly xs limit i s) where
    law : Searches xs s
    law = searches xs s narrow h.steady.long

    -- what comes after the last address lies behind an open bit
    ahead_behind : (x : ℕ) → On x xs → Before s.last x → Behind s.opens s.last x
    ahead_behind x on b =
        ⊎_elim (λ (e : x ≡ s.last). absurd (search_order.irreflexive x (subst (λ (y : ℕ). Before y x) (sym e) b)))
        (⊎_elim (λ c. absurd (search_order.irreflexive x (search_order.transitive x s.last x c b))) (λ k. k)) (h.seen x on)

    incomplete : i < length xs → s.complete ≡ false
    incomplete l =
        let some = count_some (later s.last) xs (omega (arith, h.counted)) in
        let b = ahead_behind some.0 some.1 (later_before s.last some.0 some.2) in
        ⊎_elim (λ c. absurd (both_ways _ (h.steady.ends.0 c b.0) b.1)) (λ c. c) (cases_Bool s.complete)

    unrefused : i < length xs → length xs ≤ limit → pass_refusal s ≡ None
    unrefused l m = going_on s (incomplete l) (omega (arith, h.few, h.limits))

    not_closed : (k : ℕ) → deepest s.opens ≡ Some k → is_closed (outcome xs s) ≡ true → ⊥
    not_closed k e c =
        let some = answered_some true k s.last xs (h.busy k ((deepest_deep s.opens h.steady.long).at k e).1) in
        law.closes.0 c some.0 some.1 (subst (λ (d : Option ℕ). Sought d s.last some.0) (sym e) (some.2, some.3))

    reads : i < length xs → is_closed (outcome xs s) ≡ false
    reads l =
        let k = deepest_open s h.steady (incomplete l) in
        ⊎_elim (λ c. absurd (not_closed k.0 k.1 c)) (λ c. c) (cases_Bool (is_closed (outcome xs s)))

    complete : i ≡ length xs → s.complete ≡ true
    complete e =
        h.steady.ends.1
        (λ j. ⊎_elim
        (λ o. let some = answered_some true j s.last xs (h.busy j o) in
        let b = behind_later s.opens s.last some.0 h.steady.zeros (j, o, some.2, some.3) in
        let none : count (later s.last) xs ≡ 0 = omega (arith, h.counted) in
        absurd (counted_some (later s.last) xs some.0 some.1 (before_later s.last some.0 b) none))
        (λ o. o) (cases_Bool (get_or s.opens j false)))

    module _ (a k : ℕ) (r : Read (outcome xs s) a) (e : deepest s.opens ≡ Some k) where
      after_last : Before s.last a
      after_last = read_later xs s narrow h.steady.long a k r e h.steady.zeros

      now_seen : (x : ℕ) → On x xs → (x ≡ a) ⊎ (Before x a ⊎ Behind (passed xs s).opens a x)
      now_seen x on =
          ⊎_elim (λ (q : x ≡ s.last). inr (inl (subst (λ (y : ℕ). Before y a) (sym q) after_last)))
          (⊎_elim (λ b. inr (inl (search_order.transitive x s.last a b after_last)))
          (λ b. ⊎_elim (λ (q : a ≡ x). inl (sym q)) (λ c. inr (inr c)) (moves_read xs s narrow h.steady.long a r x on b))) (h.seen x on)

      now_busy : (j : ℕ) → get_or (passed xs s).opens j false ≡ true → answered true j a xs ≡ true
      now_busy j o =
          ⊎_elim (λ up. opened_busy xs s narrow h.steady.long h.steady.zeros a r j up o)
          (⊎_elim (λ q. absurd (both_ways _ (law.shut j q) o))
          (λ (p : (m : ℕ) × (deepest s.opens ≡ Some m) × (j < m)).
          sym (like_last xs s narrow h.steady.long h.steady.zeros a r j p.0 p.1 p.2) ∙ h.busy j (sym (law.kept p.0 p.1 j p.2) ∙ o)))
          (place (deepest s.opens) j)

      now_ahead : Zeros (passed xs s).opens a → (x : ℕ) → On x xs → (x ≡ a → ⊥) → later a x ≡ later s.last x
      now_ahead z x on other =
          same_test (later a x) (later s.last x)
          (λ t. before_later s.last x (search_order.transitive s.last a x after_last (later_before a x t)))
          (λ t. ⊎_elim (λ (q : a ≡ x). absurd (other (sym q))) (λ b. before_later a x (behind_later (passed xs s).opens a x z b))
          (moves_read xs s narrow h.steady.long a r x on (ahead_behind x on (later_before s.last x t))))

    nearly_more : i < length xs → Nearly xs limit (i + 1) (passed xs s)
    nearly_more l = by_end (deepest_open s h.steady (incomplete l)) (pass_ends xs s)
      where
        by_end : (k : ℕ) × (deepest s.opens ≡ Some k) → Ends (outcome xs s) s.last (passed xs s).last → Nearly xs limit (i + 1) (passed xs s)
        by_end k (inl c) = absurd (not_closed k.0 k.1 c.0)
        by_end k (inr c) =
            let a = c.0 in
            let r = c.1 in
            let steady = passed_steady xs s narrow h.steady.long h.steady.zeros in
            let zeros = subst (Zeros (passed xs s).opens) c.3 steady.zeros in
            let drop =
            count_drop (later a) (later s.last) xs apart a (law.finds a r).on (not_later a a (search_order.irreflexive a))
            (before_later s.last a (after_last a k.0 r k.1)) (now_ahead a k.0 r k.1 zeros) in
            record {
              steady = steady;
              seen = subst (λ (y : ℕ). (x : ℕ) → On x xs → (x ≡ y) ⊎ (Before x y ⊎ Behind (passed xs s).opens y x)) (sym c.3) (now_seen a k.0 r k.1);
              busy = subst (λ (y : ℕ). (j : ℕ) → get_or (passed xs s).opens j false ≡ true → answered true j y xs ≡ true) (sym c.3) (now_busy a k.0 r k.1);
              counted = subst (λ (y : ℕ). count (later y) xs + (i + 1) ≡ length xs) (sym c.3) (omega (arith, h.counted, drop));
              few = few_more i s h.few;
              limits = h.limits;
            }

  -- ---- the first pass

  first_law : Searches xs (begun limit)
  first_law = searches xs (begun limit) narrow refl

  first_reads : 0 < length xs → is_closed (outcome xs (begun limit)) ≡ false
  first_reads l =
      ⊎_elim (λ c. let none = ap length ((first_law.closes_empty refl).0 c) in absurd (omega (arith, none))) (λ c. c)
      (cases_Bool (is_closed (outcome xs (begun limit))))

  nearly_first : 0 < length xs → Nearly xs limit 1 (passed xs (begun limit))
  nearly_first l = by_end (pass_ends xs (begun limit))
    where
      by_end : Ends (outcome xs (begun limit)) 0 (passed xs (begun limit)).last → Nearly xs limit 1 (passed xs (begun limit))
      by_end (inl c) = absurd (both_ways _ (first_reads l) c.0)
      by_end (inr c) =
          let a = c.0 in
          let r = c.1 in
          let first = first_law.finds a r in
          let after-a : (x : ℕ) → On x xs → (x ≡ a → ⊥) → Before a x =
          λ x on other. ⊎_elim (λ (q : a ≡ x). absurd (other (sym q))) (λ b. b) (first.first x on tt) in
          let drop =
          count_drop (later a) (λ _. true) xs apart a first.on (not_later a a (search_order.irreflexive a)) refl
          (λ x on other. before_later a x (after-a x on other)) in
          record {
            steady = passed_steady xs (begun limit) narrow refl (begun_zeros limit);
            seen = subst (λ (y : ℕ). (x : ℕ) → On x xs → (x ≡ y) ⊎ (Before x y ⊎ Behind (passed xs (begun limit)).opens y x)) (sym c.3)
                (λ x on.
                ⊎_elim (λ (q : a ≡ x). inl (sym q)) (λ b. inr (inr (later_behind xs (begun limit) narrow refl a x r on tt b))) (first.first x on tt));
            busy = subst (λ (y : ℕ). (j : ℕ) → get_or (passed xs (begun limit)).opens j false ≡ true → answered true j y xs ≡ true) (sym c.3)
                (λ j o. opened_busy xs (begun limit) narrow refl (begun_zeros limit) a r j tt o);
            counted = subst (λ (y : ℕ). count (later y) xs + 1 ≡ length xs) (sym c.3) (omega (arith, count_all xs, drop));
            few = few_more 0 (begun limit) (omega arith);
            limits = refl;
          }

-- ---- all passes

-- n passes from here on read addresses, and then the listing is complete
record Rest (xs : List ℕ) (n : ℕ) (s : State) : Type 0 where
  unrefused : (j : ℕ) → j < n → pass_refusal (again j xs s) ≡ None
  reads : (j : ℕ) → j < n → is_closed (outcome xs (again j xs s)) ≡ false
  ends : (again n xs s).complete ≡ true

-- what holds here and after each pass behind the next holds after each from here
each_more : (P : State → Type 0) (xs : List ℕ) (n : ℕ) (s : State) → pass_refusal s ≡ None → P s → ((j : ℕ) → j < n → P (again j xs (passed xs s))) → (j : ℕ) → j < suc n → P (again j xs s)
each_more P xs n s e here rest zero l = subst P (sym (again_none xs s)) here
each_more P xs n s e here rest (suc j) l = subst P (sym (again_more j xs s (ap is_some e))) (rest j (omega arith))

rest_more : (xs : List ℕ) (n : ℕ) (s : State) → pass_refusal s ≡ None → is_closed (outcome xs s) ≡ false → Rest xs n (passed xs s) → Rest xs (suc n) s
rest_more xs n s e r h =
    record {
      unrefused = each_more (λ t. pass_refusal t ≡ None) xs n s e e h.unrefused;
      reads = each_more (λ t. is_closed (outcome xs t) ≡ false) xs n s e r h.reads;
      ends = ap (λ (t : State). t.complete) (again_more n xs s (ap is_some e)) ∙ h.ends;
    }

module _ (xs : List ℕ) (limit : ℕ) (narrow : Narrow xs) (apart : Different xs) (room : length xs ≤ limit) where
  rest : (n i : ℕ) (s : State) → Nearly xs limit i s → i + n ≡ length xs → Rest xs n s
  rest zero i s h e =
      record {
        unrefused = λ j l. absurd (omega arith);
        reads = λ j l. absurd (omega arith);
        ends = ap (λ (t : State). t.complete) (again_none xs s) ∙ complete xs limit narrow apart i s h (omega arith);
      }
  rest (suc n) i s h e =
      let l : i < length xs = omega arith in
      rest_more xs n s (unrefused xs limit narrow apart i s h l room) (reads xs limit narrow apart i s h l)
      (rest n (i + 1) (passed xs s) (nearly_more xs limit narrow apart i s h l) (omega arith))

  all_rest : (n : ℕ) → length xs ≡ suc n → Rest xs (suc n) (begun limit)
  all_rest n e =
      let l : 0 < length xs = omega arith in
      rest_more xs n (begun limit) (going_on (begun limit) refl (omega arith)) (first_reads xs limit narrow apart l)
      (rest n 1 (passed xs (begun limit)) (nearly_first xs limit narrow apart l) (omega arith))

straight : (xs : List ℕ) (limit : ℕ) → Narrow xs → Different xs → max (length xs) 1 ≤ limit → Straight xs xs (begun limit)
straight [] limit narrow apart room =
    let open-yet = going_on (begun limit) refl (omega arith) in
    record {
      unrefused = λ i l. let first : i ≡ 0 = omega arith in subst (λ (j : ℕ). pass_refusal (again j [] (begun limit)) ≡ None) (sym first) (ap pass_refusal (again_none [] (begun limit)) ∙ open-yet);
      reads = λ i l. absurd (omega arith);
      ends = ap (λ (t : State). t.complete) (again_more 0 [] (begun limit) (ap is_some open-yet) ∙ again_none [] (passed [] (begun limit)));
    }
straight (x ∷ xs) limit narrow apart room =
    let h = all_rest (x ∷ xs) limit narrow apart (omega arith) (length xs) refl in
    let many : max (length (x ∷ xs)) 1 ≡ suc (length xs) = omega arith in
    record {
      unrefused = λ i l. h.unrefused i (omega arith);
      reads = h.reads;
      ends = ap (λ (n : ℕ). (again n (x ∷ xs) (begun limit)).complete) many ∙ h.ends;
    }

straight_alike : (line xs : List ℕ) (s : State) → Alike line xs → Straight xs xs s → Straight line xs s
straight_alike line xs s same h =
    record {
      unrefused = λ i l. ap pass_refusal (again_like i line xs same s) ∙ h.unrefused i l;
      reads = λ i l.
          ap is_closed (ap (outcome line) (again_like i line xs same s) ∙ (passes_see_addresses line xs same (again i xs s)).answer) ∙ h.reads i l;
      ends = ap (λ (t : State). t.complete) (again_like (max (length xs) 1) line xs same s) ∙ h.ends;
    }

pub still_lines_list : StillLinesList
still_lines_list s limit line xs narrow same apart room low =
    let begins : does (begin limit) s ≡ begun limit = ap (λ (t : Bool). cond (is_some (cond t (Some LimitTooHigh) None)) s (begun limit)) (le-ltb 128 limit low) in
    subst (Straight line xs) (sym begins) (straight_alike line xs (begun limit) same (straight xs limit (alike_narrow line xs same narrow) apart room))
