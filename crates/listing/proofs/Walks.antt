-- How a walk goes: where it stops, which address it reaches, and which bits it opens. Assumes nothing.
use Rattle.std.proofs.Common.{◌≡◌, ℕ, zero, suc, ◌+◌, ◌^◌, ◌<◌, ◌≤◌, Bool, true, false, cond, not, ◌||◌, List, length, get_or, set, Some, None, Option, sym, refl, ap, ◌∙◌, subst, ⊎_elim, arith}
use Rattle.std.proofs.lemmas.List.{get_or-set_same, get_or-set_other, length-set}
use Rattle.std.proofs.lemmas.Bool.{both_ways, cases_Bool, cases_eq, cond-true, cond-false, and_parts, and_cases, not-true, not-false, leb-true, le-leb}
use Rattle.address.specs.Bits.{bit}
use Rattle.address.specs.SearchOrder.{Agree}
use Rattle.address.specs.Numbers.{agree_same, agree_more}
use Rattle.line.specs.Searching.{answered}
use Rattle.line.specs.Stages.{with_bit}
use Rattle.listing.specs.Rule.{Walk, silent, stopped, reached, told, told_value, wanted, forks, walk}
use Rattle.listing.specs.Runs.{On, Narrow}
use Rattle.listing.proofs.Steps.{halts, onward, flagged}
use Rattle.listing.proofs.Answering.{all_on, agree_flip, agree_then, agree_less, answers, answered_some, answered_like, sent_small, sent_below, sent_here}

-- every bit below a told one is told
pub told-down : (d : Option ℕ) (i j : ℕ) → i ≤ j → told d j ≡ true → told d i ≡ true
told-down None i j l e = e
told-down (Some k) i j l e = let m = leb-true j k e in le-leb i k (omega arith)

-- what holds at i and from i + 1 on holds from i on
from_here : (P : ℕ → Type 0) {i : ℕ} (j : ℕ) → i ≤ j → P i → (i + 1 ≤ j → P j) → P j
from_here P {i} j l here rest = ⊎_elim (λ (e : j ≡ i). subst P (sym e) here) (λ e. rest (omega (arith, e))) (cases_eq j i)

-- x has the values told
abbrev pub AsTold : Option ℕ → ℕ → ℕ → Type 0
AsTold d last x = (j : ℕ) → told d j ≡ true → bit j x ≡ told_value d last j

pub on_narrow : (xs : List ℕ) (x : ℕ) → Narrow xs → On x xs → x < 2 ^ 64
on_narrow xs x n h = all_on (λ a. a < 2 ^ 64) xs x n h

-- from bit i on, with what is sent so far: the walk stops at bit j
pub record Stops (xs : List ℕ) (d : Option ℕ) (last i sent j : ℕ) : Type 0 where
  pub tells : told d j ≡ true
  pub from : i ≤ j
  pub near : (x : ℕ) × On x xs × Agree i x sent × ((m : ℕ) → i ≤ m → m < j → bit m x ≡ told_value d last m)
  pub none : (x : ℕ) → On x xs → Agree i x sent → ((m : ℕ) → i ≤ m → m ≤ j → bit m x ≡ told_value d last m) → ⊥

-- from bit i on, with what is sent so far and the flags f: the walk reaches a with the flags g
pub record Reaches (xs : List ℕ) (d : Option ℕ) (last i sent : ℕ) (f : List Bool) (a : ℕ) (g : List Bool) : Type 0 where
  pub on : On a xs
  pub begins : Agree i a sent
  pub values : (j : ℕ) → i ≤ j → j < 64 → bit j a ≡ wanted d last j (answered false j a xs)
  pub kept : (j : ℕ) → j < i → get_or g j false ≡ get_or f j false
  pub flags : (j : ℕ) → i ≤ j → j < 64 → get_or g j false ≡ (get_or f j false || forks d j (answered false j a xs) (answered true j a xs))
  pub long : length g ≡ 64

-- the walk goes one of the two ways
abbrev pub Goes : List ℕ → Option ℕ → ℕ → ℕ → ℕ → List Bool → Walk → Type 0
Goes xs d last i sent f silent = ⊥
Goes xs d last i sent f (stopped j) = Stops xs d last i sent j
Goes xs d last i sent f (reached a g) = Reaches xs d last i sent f a g

-- some address has the bits sent so far
abbrev pub Live : List ℕ → ℕ → ℕ → Type 0
Live xs i sent = (x : ℕ) × On x xs × Agree i x sent

cond_answered : (v : Bool) (i sent : ℕ) (xs : List ℕ) → cond v (answered true i sent xs) (answered false i sent xs) ≡ answered v i sent xs
cond_answered true i sent xs = refl
cond_answered false i sent xs = refl

-- one value is answered where some address has the bits sent so far
pub one_answered : (xs : List ℕ) (i sent : ℕ) → Live xs i sent → answered (not (answered false i sent xs)) i sent xs ≡ true
one_answered xs i sent live = by_low (answered false i sent xs) refl
  where
    by_low : (t : Bool) → answered false i sent xs ≡ t → answered (not t) i sent xs ≡ true
    by_low true e = e
    by_low false e =
        ⊎_elim (λ h. answers true i sent xs live.0 live.1 live.2 h)
        (λ h. absurd (both_ways _ e (answers false i sent xs live.0 live.1 live.2 h))) (cases_Bool (bit i live.0))

-- ---- flags

or_same : (b t : Bool) → cond t true b ≡ (b || t)
or_same true true = refl
or_same true false = refl
or_same false true = refl
or_same false false = refl

module _ (f : List Bool) (i : ℕ) (l : i < 64) (long : length f ≡ 64) where
  set_here : (t : Bool) → get_or (cond t (set f i true) f) i false ≡ cond t true (get_or f i false)
  set_here true = get_or-set_same f i true false (omega arith)
  set_here false = refl

  set_other : (t : Bool) (j : ℕ) → (j ≡ i → ⊥) → get_or (cond t (set f i true) f) j false ≡ get_or f j false
  set_other true j ne = get_or-set_other f i j true false ne
  set_other false j ne = refl

  set_long : (t : Bool) → length (cond t (set f i true) f) ≡ 64
  set_long true = length-set f i true ∙ long
  set_long false = long

-- ---- one bit

module _ (xs : List ℕ) (d : Option ℕ) (last i sent : ℕ) (small : sent < 2 ^ i) where
  -- the value sent at bit i
  abbrev value : Bool
  value = wanted d last i (answered false i sent xs)

  -- the value wanted is answered where the walk does not stop
  wanted_answered : Live xs i sent → halts xs d last i sent ≡ false → answered value i sent xs ≡ true
  wanted_answered live e =
      ⊎_elim
      (λ t. subst (λ (v : Bool). answered v i sent xs ≡ true) (sym (cond-true (told d i) (told_value d last i) _ t))
      (⊎_elim (λ f. absurd (both_ways _ f t)) (λ f. sym (cond_answered (told_value d last i) i sent xs) ∙ not-false _ f) (and_cases (told d i) _ e)))
      (λ t. subst (λ (v : Bool). answered v i sent xs ≡ true) (sym (cond-false (told d i) (told_value d last i) _ t)) (one_answered xs i sent live))
      (cases_Bool (told d i))

  one_more : (x : ℕ) → Agree i x sent → bit i x ≡ value → Agree (i + 1) x (with_bit i value sent)
  one_more x h e =
      agree_more i x (with_bit i value sent) (agree_then i x sent (with_bit i value sent) h (agree_flip i (with_bit i value sent) sent (sent_below i sent value)))
      (e ∙ sym (sent_here i sent value small))

  one_less : (x : ℕ) → Agree (i + 1) x (with_bit i value sent) → Agree i x sent × (bit i x ≡ value)
  one_less x h = (
    agree_then i x (with_bit i value sent) sent (agree_less i (i + 1) x (with_bit i value sent) (omega arith) h) (sent_below i sent value),
    h i (omega arith) ∙ sent_here i sent value small,
  )

  pub lives_on : Live xs i sent → halts xs d last i sent ≡ false → Live xs (i + 1) (with_bit i value sent)
  lives_on live e =
      let some = answered_some value i sent xs (wanted_answered live e) in
      (some.0, some.1, one_more some.0 some.2 some.3)

  stops_here : Live xs i sent → halts xs d last i sent ≡ true → Stops xs d last i sent i
  stops_here live e =
      let parts = and_parts (told d i) _ e in
      let silence = sym (cond_answered (told_value d last i) i sent xs) ∙ not-true _ parts.1 in
      record {
        tells = parts.0;
        from = omega arith;
        near = (live.0, live.1, live.2, λ m l q. absurd (omega arith));
        none = λ x on same asked. both_ways _ silence (answers (told_value d last i) i sent xs x on same (asked i (omega arith) (omega arith)));
      }

  -- what a walk does from bit i + 1 on, it does from bit i on
  back : (f : List Bool) → i < 64 → length f ≡ 64 → (w : Walk) → Goes xs d last (i + 1) (with_bit i value sent) (flagged xs d i sent f) w → Goes xs d last i sent f w
  back f l long silent h = h
  back f l long (stopped j) h =
      let below : i ≤ j = omega (arith, h.from) in
      let tells : value ≡ told_value d last i = cond-true (told d i) _ _ (told-down d i j below h.tells) in
      let n = h.near in
      let first = one_less n.0 n.2 in
      record {
        tells = h.tells;
        from = below;
        near = (n.0, n.1, first.0, λ m p q. from_here (λ k. bit k n.0 ≡ told_value d last k) m p (first.1 ∙ tells) (λ r. n.3 m r q));
        none = λ x on same asked. h.none x on (one_more x same (asked i (omega arith) below ∙ sym tells)) (λ m p q. asked m (omega arith) q);
      }
  back f l long (reached a g) h =
      let t = forks d i (answered false i sent xs) (answered true i sent xs) in
      let first = one_less a h.begins in
      let like : (u : Bool) → answered u i sent xs ≡ answered u i a xs =
      λ u. answered_like u i sent a xs xs (agree_flip i a sent first.0) (λ _ o. o) (λ _ o. o) in
      record {
        on = h.on;
        begins = first.0;
        values = λ j p q.
            from_here (λ k. bit k a ≡ wanted d last k (answered false k a xs)) j p (first.1 ∙ ap (wanted d last i) (like false)) (λ r. h.values j r q);
        kept = λ j p. let m : j < i + 1 = omega arith in h.kept j m ∙ set_other f i l long t j (λ e. omega (arith, e));
        flags = λ j p q.
            from_here (λ k. get_or g k false ≡ (get_or f k false || forks d k (answered false k a xs) (answered true k a xs))) j p
            (h.kept i (omega arith) ∙ set_here f i l long t ∙ or_same (get_or f i false) t ∙ (λ k. get_or f i false || forks d i (like false k) (like true k)))
            (λ r. h.flags j r q ∙ ap (λ (b : Bool). b || forks d j (answered false j a xs) (answered true j a xs)) (set_other f i l long t j (λ e. omega (arith, e))));
        long = h.long;
      }

-- ---- all bits

pub goes : (xs : List ℕ) (d : Option ℕ) (last : ℕ) → Narrow xs → (n i sent : ℕ) (f : List Bool) → i + n ≡ 64 → length f ≡ 64 → sent < 2 ^ i → Live xs i sent → Goes xs d last i sent f (walk xs d last n i sent f)
unfolding walk
goes xs d last narrow zero i sent f e long small live =
    let end : i ≡ 64 = omega arith in
    let sent-64 : sent < 2 ^ 64 = subst (λ (k : ℕ). sent < 2 ^ k) end small in
    let all : Agree 64 live.0 sent = subst (λ (k : ℕ). Agree k live.0 sent) end live.2 in
    let same : live.0 ≡ sent = agree_same 64 live.0 sent (on_narrow xs live.0 narrow live.1) sent-64 all in
    record {
      on = subst (λ (x : ℕ). On x xs) same live.1;
      begins = λ j l. refl;
      values = λ j l m. absurd (omega arith);
      kept = λ j l. refl;
      flags = λ j l m. absurd (omega arith);
      long = long;
    }
goes xs d last narrow (suc n) i sent f e long small live =
    by_halt (halts xs d last i sent) refl
    (λ v g lg sm more. goes xs d last narrow n (i + 1) v g (omega arith) lg sm more)
  where
    by_halt : (t : Bool) → halts xs d last i sent ≡ t → ((v : ℕ) (g : List Bool) → length g ≡ 64 → v < 2 ^ (i + 1) → Live xs (i + 1) v → Goes xs d last (i + 1) v g (walk xs d last n (i + 1) v g)) → Goes xs d last i sent f (cond t (stopped i) (walk xs d last n (i + 1) (onward xs d last i sent) (flagged xs d i sent f)))
    by_halt true q rest = stops_here xs d last i sent small live q
    by_halt false q rest =
        back xs d last i sent small f (omega arith) long (walk xs d last n (i + 1) (onward xs d last i sent) (flagged xs d i sent f))
        (rest (onward xs d last i sent) (flagged xs d i sent f) (set_long f i (omega arith) long (forks d i (answered false i sent xs) (answered true i sent xs)))
        (sent_small i sent (wanted d last i (answered false i sent xs)) small) (lives_on xs d last i sent small live q))
