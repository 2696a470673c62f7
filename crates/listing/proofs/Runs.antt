-- The law over runs: what is true of a listing after every list of calls. Assumes nothing.
use Rattle.std.proofs.Common.{◌≡◌, ℕ, ◌≤◌, Bool, true, false, cond, not, ltb, leb, ◌⊎◌, List, [], ◌∷◌, ◌++◌, length, replicate, is_some, Some, None, Decides, Option, sym, refl, ap, ◌∙◌, subst, inl, inr, ⊎_elim, arith}
use Rattle.std.specs.List.{flat_map, AllByRecursion}
use Rattle.std.proofs.ByRecursion.{All-push, All-weaker}
use Rattle.std.proofs.lemmas.List.{append-nil, get_or_past, get_or-replicate, length-append}
use Rattle.std.proofs.lemmas.Bool.{both_ways, cases_lt, cond-true, leb-false, ltb-false}
use Rattle.address.specs.Parts.{right}
use Rattle.address.specs.SearchOrder.{Before}
use Rattle.address.specs.Orders.{search_order}
use Rattle.listing.specs.declared.begin_refusal.BeginRefusal.{BeginRefusal}
use Rattle.listing.specs.declared.begin_refusal.BeginRefusal.TheVariants.{LimitTooHigh}
use Rattle.listing.specs.declared.answer.PassRefusal.{PassRefusal}
use Rattle.listing.specs.declared.answer.PassRefusal.TheVariants.{Complete, LimitReached}
use Rattle.listing.specs.Rule.{State, Outcome, found, spoilt, closed_at, closed_empty, begun, deepest, outcome, lists, passed, begin_refusal, pass_refusal}
use Rattle.listing.specs.Runs.{Reachable, Call, begin, pass, does, run, after, Pass, pass_of, joins, passes_from, passes, On, Rising, NoneOpen, EndsClosed, Narrow, NarrowCall, Truthful, ListingsAreTruthful, Limited, Goes}
use Rattle.listing.specs.Passes.{Sought, Read}
use Rattle.listing.proofs.Flags.{deepest_deep, none_some}
use Rattle.listing.proofs.Passes.{searches, passed_long, all_sought}
use Rattle.listing.proofs.Rising.{rising_push, times_one, on_left, on_right, all_front, ends_push, joined_push}
use Rattle.listing.proofs.Moves.{Ends, pass_ends, Behind, Zeros, moves_closed, later_behind, moves_read, passed_zeros, read_later}

-- ---- what holds after every call

pub record Sound (s : State) (ps : List Pass) : Type 0 where
  pub long : length s.opens ≡ 64
  pub zeros : Zeros s.opens s.last
  pub upto : AllByRecursion (λ a. (a ≡ s.last) ⊎ Before a s.last) s.listed
  pub rising : Rising s.listed
  pub listed : s.listed ≡ flat_map (λ p. lists p.answer) ps
  pub there : AllByRecursion (λ p. AllByRecursion (λ a. On a p.line) (lists p.answer)) ps
  pub complete_when : Decides s.complete (EndsClosed ps)
  pub complete_closed : s.complete ≡ true → NoneOpen s.opens
  -- without passes no bit is open, and with no bit open there are none, or the listing is complete
  pub unopened : ps ≡ [] → NoneOpen s.opens
  pub fresh : deepest s.opens ≡ None → s.complete ≡ false → ps ≡ []
  -- a right address that was there in all passes is listed, or lies behind an open bit
  pub covered : (ps ≡ [] → ⊥) → (a : ℕ) → right a ≡ true → AllByRecursion (λ p. On a p.line) ps → On a s.listed ⊎ Behind s.opens s.last a

none_open_yet : NoneOpen (replicate 64 false)
none_open_yet k = ⊎_elim (λ l. get_or-replicate 64 k false false l) (λ l. get_or_past (replicate 64 false) k false l) (cases_lt k 64)

pub begun_zeros : (limit : ℕ) → Zeros (begun limit).opens (begun limit).last
begun_zeros limit j o = absurd (both_ways _ (none_open_yet j) o)

begun_sound : (limit : ℕ) → Sound (begun limit) []
begun_sound limit =
    record {
      long = refl;
      zeros = begun_zeros limit;
      upto = tt;
      rising = tt;
      listed = refl;
      there = tt;
      complete_when = ((λ e. absurd (both_ways false refl e)), (λ h. absurd h));
      complete_closed = λ e. absurd (both_ways false refl e);
      unopened = λ _. none_open_yet;
      fresh = λ _ _. refl;
      covered = λ some. absurd (some refl);
    }

module _ (xs : List ℕ) (s : State) (ps : List Pass) (narrow : Narrow xs) (sound : Sound s ps) (going : s.complete ≡ false) where
  -- how this pass ends
  This : Type 0
  This = Ends (outcome xs s) s.last (passed xs s).last

  -- with d absent there was no pass yet
  none_listed : deepest s.opens ≡ None → s.listed ≡ []
  none_listed e = sound.listed ∙ ap (flat_map (λ p. lists p.answer)) (sound.fresh e going)

  earlier : (a : ℕ) → Read (outcome xs s) a → (d : Option ℕ) → deepest s.opens ≡ d → AllByRecursion (λ x. Before x a) s.listed
  earlier a r None e = subst (AllByRecursion (λ x. Before x a)) (sym (none_listed e)) tt
  earlier a r (Some k) e =
      let later = read_later xs s narrow sound.long a k r e sound.zeros in
      All-weaker (λ x. (x ≡ s.last) ⊎ Before x s.last) (λ x. Before x a)
      (λ x. ⊎_elim (λ (q : x ≡ s.last). subst (λ (y : ℕ). Before y a) (sym q) later) (λ b. search_order.transitive x s.last a b later))
      s.listed sound.upto

  -- the list with what a pass adds, whether right or not
  grown : (P : List ℕ → Type 0) (a : ℕ) → P s.listed → P (s.listed ++ a ∷ []) → lists (outcome xs s) ≡ cond (right a) (a ∷ []) [] → P (s.listed ++ lists (outcome xs s))
  grown P a p q e = subst (λ (l : List ℕ). P (s.listed ++ l)) (sym e) (by_right (right a))
    where
      by_right : (t : Bool) → P (s.listed ++ cond t (a ∷ []) [])
      by_right true = q
      by_right false = subst P (sym (append-nil s.listed)) p

  kept_list : (P : List ℕ → Type 0) → P s.listed → lists (outcome xs s) ≡ [] → P (s.listed ++ lists (outcome xs s))
  kept_list P p e = subst P (sym (ap (λ (l : List ℕ). s.listed ++ l) e ∙ append-nil s.listed)) p

  upto : This → AllByRecursion (λ x. (x ≡ (passed xs s).last) ⊎ Before x (passed xs s).last) (s.listed ++ lists (outcome xs s))
  unfolding This
  upto (inl h) =
      subst (λ (y : ℕ). AllByRecursion (λ x. (x ≡ y) ⊎ Before x y) (s.listed ++ lists (outcome xs s))) (sym h.2)
      (kept_list (AllByRecursion (λ x. (x ≡ s.last) ⊎ Before x s.last)) sound.upto h.1)
  upto (inr h) =
      let before = All-weaker (λ x. Before x h.0) (λ x. (x ≡ h.0) ⊎ Before x h.0) (λ x b. inr b) s.listed (earlier h.0 h.1 (deepest s.opens) refl) in
      subst (λ (y : ℕ). AllByRecursion (λ x. (x ≡ y) ⊎ Before x y) (s.listed ++ lists (outcome xs s))) (sym h.3)
      (grown (AllByRecursion (λ x. (x ≡ h.0) ⊎ Before x h.0)) h.0 before (All-push (λ x. (x ≡ h.0) ⊎ Before x h.0) s.listed h.0 before (inl refl)) h.2)

  rising : This → Rising (s.listed ++ lists (outcome xs s))
  unfolding This
  rising (inl h) = kept_list Rising sound.rising h.1
  rising (inr h) =
      grown Rising h.0 sound.rising (rising_push s.listed h.0 sound.rising (earlier h.0 h.1 (deepest s.opens) refl)) h.2

  there : This → AllByRecursion (λ a. On a xs) (lists (outcome xs s))
  unfolding This
  there (inl h) = subst (AllByRecursion (λ a. On a xs)) (sym h.1) tt
  there (inr h) = subst (AllByRecursion (λ a. On a xs)) (sym h.2) (by_right (right h.0))
    where
      by_right : (t : Bool) → AllByRecursion (λ a. On a xs) (cond t (h.0 ∷ []) [])
      by_right true = (((searches xs s narrow sound.long).finds h.0 h.1).on, tt)
      by_right false = tt

  -- a right address that is read is listed
  put_on : (a x : ℕ) → right x ≡ true → a ≡ x → lists (outcome xs s) ≡ cond (right a) (a ∷ []) [] → On x (s.listed ++ lists (outcome xs s))
  put_on a x fine e l =
      let one : lists (outcome xs s) ≡ a ∷ [] = l ∙ cond-true (right a) (a ∷ []) [] (ap right e ∙ fine) in
      on_right s.listed (lists (outcome xs s)) x (subst (On x) (sym one) (inl (sym e)))

  -- a right address on the line, by where it was before this pass
  now_covered : This → (x : ℕ) → right x ≡ true → On x xs → Sought (deepest s.opens) s.last x ⊎ (On x s.listed ⊎ Behind s.opens s.last x) → On x (s.listed ++ lists (outcome xs s)) ⊎ Behind (passed xs s).opens (passed xs s).last x
  unfolding This
  now_covered t x fine on (inr (inl was)) = inl (on_left s.listed (lists (outcome xs s)) x was)
  now_covered (inl h) x fine on (inr (inr b)) =
      inr (subst (λ (y : ℕ). Behind (passed xs s).opens y x) (sym h.2) (moves_closed xs s narrow sound.long h.0 x on b))
  now_covered (inr h) x fine on (inr (inr b)) =
      ⊎_elim (λ (e : h.0 ≡ x). inl (put_on h.0 x fine e h.2)) (λ k. inr (subst (λ (y : ℕ). Behind (passed xs s).opens y x) (sym h.3) k))
      (moves_read xs s narrow sound.long h.0 h.1 x on b)
  now_covered (inl h) x fine on (inl so) = absurd ((searches xs s narrow sound.long).closes.0 h.0 x on so)
  now_covered (inr h) x fine on (inl so) =
      ⊎_elim (λ (e : h.0 ≡ x). inl (put_on h.0 x fine e h.2))
      (λ b. inr (subst (λ (y : ℕ). Behind (passed xs s).opens y x) (sym h.3) (later_behind xs s narrow sound.long h.0 x h.1 on so b)))
      (((searches xs s narrow sound.long).finds h.0 h.1).first x on so)

  was_covered : (d : Option ℕ) → deepest s.opens ≡ d → (x : ℕ) → right x ≡ true → AllByRecursion (λ p. On x p.line) ps → Sought (deepest s.opens) s.last x ⊎ (On x s.listed ⊎ Behind s.opens s.last x)
  was_covered None e x fine on = inl (all_sought (deepest s.opens) s.last x e)
  was_covered (Some k) e x fine on =
      inr (sound.covered (λ none. both_ways _ (sound.unopened none k) ((deepest_deep s.opens sound.long).at k e).1) x fine on)

  not_none : (qs : List Pass) (q : Pass) → qs ++ q ∷ [] ≡ [] → ⊥
  not_none [] q e = let z : ◌≡◌ {A = ℕ} 0 1 = cc in omega arith
  not_none (p ∷ qs) q e = let z : ◌≡◌ {A = ℕ} 0 1 = cc in omega arith

  none_left : (d : Option ℕ) → d ≡ None → not (is_some d) ≡ false → ⊥
  none_left None e c = both_ways true c refl
  none_left (Some k) e c = none_some k (sym e)

  pass_sound : Sound (passed xs s) (ps ++ pass_of xs s ∷ [])
  unfolding This
  pass_sound =
      let this = pass_ends xs s in
      let now = searches xs s narrow sound.long in
      let last = ends_push ps (pass_of xs s) in
      record {
        long = passed_long xs s narrow sound.long;
        zeros = passed_zeros xs s narrow sound.long sound.zeros;
        upto = upto this;
        rising = rising this;
        listed = ap (λ (l : List ℕ). l ++ lists (outcome xs s)) sound.listed ∙ sym (joined_push (λ p. lists p.answer) ps (pass_of xs s));
        there = All-push (λ p. AllByRecursion (λ a. On a p.line) (lists p.answer)) ps (pass_of xs s) sound.there (there this);
        complete_when = ((λ e. last.1 (now.completes.0 e)), (λ h. now.completes.1 (last.0 h)));
        complete_closed = now.completes.0;
        unopened = λ e. absurd (not_none ps (pass_of xs s) e);
        fresh = λ e c. absurd (none_left (deepest (passed xs s).opens) e c);
        covered = λ _ x fine on.
            let parts = all_front (λ p. On x p.line) ps (pass_of xs s) on in
            now_covered this x fine parts.1 (was_covered (deepest s.opens) refl x fine parts.0);
      }

-- ---- calls and runs

call_sound : (c : Call) (s : State) (ps : List Pass) → NarrowCall c → Sound s ps → Sound (does c s) (joins c s ps)
call_sound (begin limit) s ps narrow h = by_limit (ltb 128 limit)
  where
    by_limit : (t : Bool) → Sound (cond (is_some (cond t (Some LimitTooHigh) None)) s (begun limit)) (cond (is_some (cond t (Some LimitTooHigh) None)) ps [])
    by_limit true = h
    by_limit false = begun_sound limit
call_sound (pass xs) s ps narrow h = by_refusal s.complete refl (leb s.limit (length s.listed))
  where
    by_refusal : (t : Bool) → s.complete ≡ t → (u : Bool) → Sound (cond (is_some (cond t (Some Complete) (cond u (Some LimitReached) None))) s (passed xs s)) (cond (is_some (cond t (Some Complete) (cond u (Some LimitReached) None))) ps (ps ++ pass_of xs s ∷ []))
    by_refusal true e u = h
    by_refusal false e true = h
    by_refusal false e false = pass_sound xs s ps narrow h e

run_sound : (cs : List Call) (s : State) (ps : List Pass) → AllByRecursion NarrowCall cs → Sound s ps → Sound (run cs s) (passes_from cs s ps)
unfolding run passes_from
run_sound [] s ps n h = h
run_sound (c ∷ cs) s ps n h = run_sound cs (does c s) (joins c s ps) n.1 (call_sound c s ps n.0 h)

-- every listing that calls lead to is sound
pub after_sound : (calls : List Call) → AllByRecursion NarrowCall calls → Sound (after calls) (passes calls)
after_sound calls n = run_sound calls (begun 0) [] n (begun_sound 0)

-- what is sound is truthful
sound_truthful : (calls : List Call) (s : State) → s ≡ after calls → Sound s (passes calls) → Truthful calls s
sound_truthful calls s e h =
    record {
      state = e;
      listed = h.listed;
      rising = h.rising;
      there = h.there;
      complete_when = h.complete_when;
      whole = λ c a fine on.
          times_one s.listed a h.rising
          (⊎_elim (λ o. o) (λ (b : Behind s.opens s.last a). absurd (both_ways _ (h.complete_closed c b.0) b.1))
          (h.covered (λ none. subst EndsClosed none (h.complete_when.0 c)) a fine on));
    }

pub truthful : (calls : List Call) (s : State) → AllByRecursion NarrowCall calls → s ≡ after calls → Truthful calls s
truthful calls s n e = sound_truthful calls s e (subst (λ (t : State). Sound t (passes calls)) (sym e) (after_sound calls n))

run_append : (cs ds : List Call) (s : State) → run (cs ++ ds) s ≡ run ds (run cs s)
unfolding run
run_append [] ds s = refl
run_append (c ∷ cs) ds s = run_append cs ds (does c s)

run_one : (c : Call) (s : State) → run (c ∷ []) s ≡ does c s
unfolding run
run_one c s = refl

run_none : (s : State) → run [] s ≡ s
unfolding run
run_none s = refl

-- one call more
pub after_more : (calls : List Call) (c : Call) → after (calls ++ c ∷ []) ≡ does c (after calls)
after_more calls c = run_append calls (c ∷ []) (begun 0) ∙ run_one c (after calls)

one_more : (calls : List Call) (c : Call) (s t : State) → t ≡ does c s → s ≡ after calls → t ≡ after (calls ++ c ∷ [])
one_more calls c s t e r = e ∙ ap (does c) r ∙ sym (after_more calls c)

-- ---- limits

pub lists_few : (o : Outcome) → length (lists o) ≤ 1
lists_few (found a) = omega arith
lists_few (spoilt a) = omega arith
lists_few (closed_at i) = omega arith
lists_few closed_empty = omega arith

call_limited : (c : Call) (s : State) → Limited s → Limited (does c s)
call_limited (begin limit) s h = by_limit (ltb 128 limit) refl
  where
    by_limit : (t : Bool) → ltb 128 limit ≡ t → Limited (cond (is_some (cond t (Some LimitTooHigh) None)) s (begun limit))
    by_limit true e = h
    by_limit false e = record { within = omega arith; limited = ltb-false 128 limit e }
call_limited (pass xs) s h = by_refusal s.complete (leb s.limit (length s.listed)) refl
  where
    by_refusal : (t u : Bool) → leb s.limit (length s.listed) ≡ u → Limited (cond (is_some (cond t (Some Complete) (cond u (Some LimitReached) None))) s (passed xs s))
    by_refusal true u e = h
    by_refusal false true e = h
    by_refusal false false e =
        record {
          within = omega (arith, length-append s.listed (lists (outcome xs s)), lists_few (outcome xs s), leb-false s.limit (length s.listed) e);
          limited = h.limited;
        }

run_limited : (cs : List Call) (s : State) → Limited s → Limited (run cs s)
unfolding run
run_limited [] s h = h
run_limited (c ∷ cs) s h = run_limited cs (does c s) (call_limited c s h)

-- ---- every call

goes : (c : Call) (s t : State) → NarrowCall c → t ≡ does c s → Goes c s t
goes c s t n e =
    record {
      state = e;
      truthful = record { truthful = λ calls ns r. truthful (calls ++ c ∷ []) t (All-push NarrowCall calls c ns n) (one_more calls c s t e r) };
      reachable = λ h. record { calls = h.calls ++ c ∷ []; narrow = All-push NarrowCall h.calls c h.narrow n; state = one_more h.calls c s t e h.state };
      limits = λ h. subst Limited (sym e) (call_limited c s h);
    }

-- what `does` comes to, by the refusal
by_begin : (limit : ℕ) (s : State) (o : Option BeginRefusal) → begin_refusal limit ≡ o → does (begin limit) s ≡ cond (is_some o) s (begun limit)
by_begin limit s o e = ap (λ (r : Option BeginRefusal). cond (is_some r) s (begun limit)) e

by_pass : (xs : List ℕ) (s : State) (o : Option PassRefusal) → pass_refusal s ≡ o → does (pass xs) s ≡ cond (is_some o) s (passed xs s)
by_pass xs s o e = ap (λ (r : Option PassRefusal). cond (is_some r) s (passed xs s)) e

pub new_truthful : (s : State) → s ≡ begun 0 → Truthful [] s
new_truthful s e = truthful [] s tt (e ∙ sym (run_none (begun 0)))

pub new_reachable : (s : State) → s ≡ begun 0 → Reachable s
new_reachable s e = record { calls = []; narrow = tt; state = e ∙ sym (run_none (begun 0)) }

pub new_limited : (s : State) → s ≡ begun 0 → Limited s
new_limited s e = subst Limited (sym e) (record { within = omega arith; limited = omega arith })

pub begins : (limit : ℕ) (s t : State) → begin_refusal limit ≡ None → t ≡ begun limit → Goes (begin limit) s t
begins limit s t r e = goes (begin limit) s t tt (e ∙ sym (by_begin limit s None r))

pub begin_refused : (limit : ℕ) (refusal : BeginRefusal) (s t : State) → begin_refusal limit ≡ Some refusal → t ≡ s → Goes (begin limit) s t
begin_refused limit refusal s t r e = goes (begin limit) s t tt (e ∙ sym (by_begin limit s (Some refusal) r))

pub listings_are_truthful : ListingsAreTruthful
listings_are_truthful =
    record {
      new = new_truthful;
      start = new_reachable;
      begins = begins;
      begin_refused = begin_refused;
      passes = λ xs s t n r e. goes (pass xs) s t n (e ∙ sym (by_pass xs s None r));
      pass_refused = λ xs refusal s t n r e. goes (pass xs) s t n (e ∙ sym (by_pass xs s (Some refusal) r));
      limited = λ calls. run_limited calls (begun 0) (record { within = omega arith; limited = omega arith });
    }
