-- A pass, refused or made: what it leaves on the line. Assumes nothing.
use Rattle.std.proofs.Common.{◌≡◌, ℕ, zero, suc, ◌+◌, ◌^◌, ◌<◌, ◌≤◌, Bool, true, false, cond, not, ltb, leb, List, [], ◌∷◌, map, set, is_some, Some, None, Option, sym, refl, ap, ◌∙◌, subst, add-one, arith}
use Rattle.std.specs.List.{AllByRecursion}
use Rattle.std.proofs.lemmas.Bool.{both_ways, and_parts, cond-true, leb-true, le-leb, lt-ltb}
use Rattle.address.specs.Bits.{bit}
use Rattle.address.specs.Parts.{right}
use Rattle.address.specs.SearchOrder.{Agree}
use Rattle.address.specs.Numbers.{agree_more}
use Rattle.line.specs.declared.signal.Signal.{Signal}
use Rattle.line.specs.declared.signal.Signal.TheVariants.{Reset, Slot}
use Rattle.line.specs.declared.stage.Stage.{Stage}
use Rattle.line.specs.declared.stage.Stage.TheVariants.{Deaf, Search}
use Rattle.line.specs.declared.stage.Turn.TheVariants.{Bit, Opposite, Listen}
use Rattle.line.specs.Matching.{staged, chosen_by}
use Rattle.line.specs.Searching.{on_line, agree, answered}
use Rattle.line.specs.Seats.{Seat, is_chosen}
use Rattle.line.specs.Signals.{signalled, played, slots}
use Rattle.line.specs.Stages.{with_bit}
use Rattle.line.proofs.Staged.{Unchosen, stepped, all_taken}
use Rattle.line.proofs.Strings.{strings_follow}
use Rattle.line.proofs.Walks.{walked, search_at, turned, at_bit, bit_read, opposite_read, turn_unchosen, listened, walk_ends}
use Rattle.listing.specs.declared.answer.PassRefusal.{PassRefusal}
use Rattle.listing.specs.Calls.{signals, leaves, Passed}
use Rattle.listing.specs.Rule.{State, Walk, stopped, found, spoilt, told, told_value, wanted, stops, forks, walk, walk_levels, outcome_of, outcome, levels, deepest, passed, pass_refusal}
use Rattle.listing.specs.Runs.{pass, Goes, Limited, Narrow}
use Rattle.listing.proofs.Answering.{sent_small, sent_below, sent_here}
use Rattle.listing.proofs.Lines.{agree_by, gone_on_lem, played_first, played_nothing, begun_given}
use Rattle.listing.proofs.Runs.{listings_are_truthful}

-- ---- what a walk leaves

-- what was sent is told by the last address as long as the next bit is told
abbrev pub Told : Option ℕ → ℕ → ℕ → ℕ → Type 0
Told d last i sent = told d i ≡ true → Agree i sent last

-- a bit below a told one has the last address's value
told-value : (d : Option ℕ) (last i : ℕ) (low : Bool) → told d (i + 1) ≡ true → (told d i ≡ true) × (wanted d last i low ≡ bit i last)
told-value None last i low e = absurd (both_ways false refl e)
told-value (Some k) last i low e =
    let below : i + 1 ≤ k = leb-true (i + 1) k e in
    let here : leb i k ≡ true = le-leb i k (omega arith) in
    let strictly : ltb i k ≡ true = lt-ltb i k (omega arith) in
    (here, cond-true (leb i k) (cond (ltb i k) (bit i last) true) (not low) here ∙ cond-true (ltb i k) (bit i last) true strictly)

still_told : (d : Option ℕ) (last i sent : ℕ) (low : Bool) → sent < 2 ^ i → Told d last i sent → Told d last (i + 1) (with_bit i (wanted d last i low) sent)
still_told d last i sent low small h e =
    let v = wanted d last i low in
    let next = told-value d last i low e in
    agree_more i (with_bit i v sent) last (λ j l. sent_below i sent v j l ∙ h next.0 j l) (sent_here i sent v small ∙ next.1)

-- a slot of the walk, for all seats
stepped_slot : (f g : ℕ → Stage) (b : Bool) (rest : List Signal) (ss : List Seat) → Unchosen f → stepped b f ≡ g → map (played (Slot b ∷ rest)) (map (staged f) ss) ≡ map (played rest) (map (staged g) ss)
stepped_slot f g b rest ss u e =
    sym (played_first (Slot b) rest (map (staged f) ss))
    ∙ ap (map (played rest)) (all_taken f u b ss ∙ ap (λ (h : ℕ → Stage). map (staged h) ss) e)

module _ (xs : List ℕ) (d : Option ℕ) (last : ℕ) (ss : List Seat) (narrow : AllByRecursion (λ s. s.address < 2 ^ 64) ss) where
  -- the two reads of a bit
  two_reads : (i sent : ℕ) (rest : List Signal) → i < 64 → (t u : Bool) → map (played (Slot t ∷ Slot u ∷ rest)) (map (staged (walked search_at sent i)) ss) ≡ map (played rest) (map (staged (turned Listen sent i)) ss)
  two_reads i sent rest h t u =
      stepped_slot (walked search_at sent i) (turned Opposite sent i) t (Slot u ∷ rest) ss
      (λ x. ap (λ (f : ℕ → Stage). is_chosen (f x)) (at_bit search_at sent i h) ∙ turn_unchosen Bit sent i x)
      (ap (stepped t) (at_bit search_at sent i h) ∙ bit_read t sent i)
      ∙ stepped_slot (turned Opposite sent i) (turned Listen sent i) u rest ss (turn_unchosen Opposite sent i) (opposite_read u sent i)

  -- and the value sent
  one_sent : (i sent : ℕ) (rest : List Signal) (v : Bool) → sent < 2 ^ i → map (played (Slot v ∷ rest)) (map (staged (turned Listen sent i)) ss) ≡ map (played rest) (map (staged (walked search_at (with_bit i v sent) (i + 1))) ss)
  one_sent i sent rest v small =
      stepped_slot (turned Listen sent i) (walked search_at (with_bit i v sent) (i + 1)) v rest ss (turn_unchosen Listen sent i)
      ((λ j x. listened v (agree i x sent) i x j) ∙ (λ j x. gone_on_lem v sent i x small j) ∙ ap (walked search_at (with_bit i v sent)) (sym (add-one i)))

  -- what a walk leaves, once it has come to bit i
  abbrev Result : List Bool → ℕ → ℕ → Walk → Type 0
  Result levels i sent w = map (played (slots levels)) (map (staged (walked search_at sent i)) ss) ≡ map (leaves (outcome_of w) last) ss

  ended : (r : Bool) (i sent : ℕ) → i ≡ 64 → sent < 2 ^ i → map (played []) (map (staged (walked search_at sent i)) ss) ≡ map (leaves (cond r (found sent) (spoilt sent)) last) ss
  ended r i sent e small =
      played_nothing (map (staged (walked search_at sent i)) ss)
      ∙ ap (λ (n : ℕ). map (staged (walked search_at sent n)) ss) e
      ∙ walk_ends search_at sent (subst (λ (n : ℕ). sent < 2 ^ n) e small) ss narrow
      ∙ either r
    where
      either : (b : Bool) → map (chosen_by sent) ss ≡ map (leaves (cond b (found sent) (spoilt sent)) last) ss
      either true = refl
      either false = refl

  -- a bit at which the walk stops, or goes on
  by_stop : (b : Bool) (i sent : ℕ) (t u v : Bool) (rest : List Bool) (w : Walk) → i < 64 → sent < 2 ^ i → (b ≡ true → Agree i sent last) → Result rest (i + 1) (with_bit i v sent) w → Result (t ∷ u ∷ cond b [] (v ∷ rest)) i sent (cond b (stopped i) w)
  by_stop true i sent t u v rest w h small same next =
      two_reads i sent [] h t u
      ∙ played_nothing (map (staged (turned Listen sent i)) ss)
      ∙ ap (λ (f : ℕ → Stage). map (staged f) ss) (λ j x. cond (agree_by i x sent last (same refl) j) (Search i Listen) Deaf)
  by_stop false i sent t u v rest w h small same next = two_reads i sent (slots (v ∷ rest)) h t u ∙ one_sent i sent (slots rest) v small ∙ next

  walk_leaves : (n i sent : ℕ) (f : List Bool) → i + n ≡ 64 → sent < 2 ^ i → Told d last i sent → Result (walk_levels xs d last n i sent) i sent (walk xs d last n i sent f)
  unfolding walk walk_levels
  walk_leaves zero i sent f e small h = ended (right sent) i sent (omega arith) small
  walk_leaves (suc n) i sent f e small h =
      let low = answered false i sent xs in
      let high = answered true i sent xs in
      let v = wanted d last i low in
      by_stop (stops d last i low high) i sent (not low) (not high) v (walk_levels xs d last n (i + 1) (with_bit i v sent)) (walk xs d last n (i + 1) (with_bit i v sent) (cond (forks d i low high) (set f i true) f)) (omega arith) small
      (λ s. h (and_parts (told d i) (not (cond (told_value d last i) high low)) s).0)
      (walk_leaves n (i + 1) (with_bit i v sent) (cond (forks d i low high) (set f i true) f) (omega arith) (sent_small i sent v small) (still_told d last i sent low small h))

-- what a pass leaves that is not refused
pass_leaves : (ss : List Seat) (xs : List ℕ) (s : State) → AllByRecursion (λ x. x.address < 2 ^ 64) ss → map (played (Reset ∷ slots (levels xs s))) ss ≡ map (leaves (outcome xs s) s.last) ss
unfolding played
pass_leaves ss [] s n = refl
pass_leaves ss (x ∷ xs) s n =
    let d = deepest s.opens in
    sym (begun_given (walk_levels (x ∷ xs) d s.last 64 0 0) ss)
    ∙ walk_leaves (x ∷ xs) d s.last ss n 64 0 0 s.opens refl (omega arith) (λ e j l. absurd (omega arith))

-- ---- a pass, refused or made

pub narrow_on : (ss : List Seat) → AllByRecursion (λ s. s.address < 2 ^ 64) ss → Narrow (on_line ss)
narrow_on [] h = tt
narrow_on (s ∷ ss) h = by_mark s.attached (narrow_on ss h.1)
  where
    by_mark : (t : Bool) → Narrow (on_line ss) → Narrow (cond t (s.address ∷ on_line ss) (on_line ss))
    by_mark true n = (h.0, n)
    by_mark false n = n

-- signals change no address, and what is off stays off
on_played : (xs : List Signal) (s : Seat) → ((played xs s).address ≡ s.address) × ((played xs s).attached ≡ s.attached)
unfolding played
on_played [] s = (refl, refl)
on_played (Reset ∷ xs) s = on_played xs (signalled Reset s)
on_played (Slot level ∷ xs) s = on_played xs (signalled (Slot level) s)

same_on : (xs : List Signal) (ss : List Seat) → on_line (map (played xs) ss) ≡ on_line ss
same_on xs [] = refl
same_on xs (s ∷ ss) = λ i. cond ((on_played xs s).1 i) ((on_played xs s).0 i ∷ same_on xs ss i) (same_on xs ss i)

by_refusal : (xs : List ℕ) (s : State) (o : Option PassRefusal) → pass_refusal s ≡ o → signals xs s ≡ cond (is_some o) [] (Reset ∷ slots (levels xs s))
by_refusal xs s o e = ap (λ (r : Option PassRefusal). cond (is_some r) [] (Reset ∷ slots (levels xs s))) e

passed_by_lem : (ss after : List Seat) (s t : State) → AllByRecursion (λ x. x.address < 2 ^ 64) ss → Limited t → Goes (pass (on_line ss)) s t → after ≡ map (played (signals (on_line ss) s)) ss → Passed ss after s t
passed_by_lem ss after s t n l goes given =
    record {
      left = λ r. given ∙ ap (λ (xs : List Signal). map (played xs) ss) (by_refusal (on_line ss) s None r) ∙ pass_leaves ss (on_line ss) s n;
      goes = goes;
      limits = l;
      given = given;
      there = ap on_line given ∙ same_on (signals (on_line ss) s) ss;
      lives = strings_follow.signals (signals (on_line ss) s) ss after given;
    }

pub unmade : (ss : List Seat) (s : State) (refusal : PassRefusal) → AllByRecursion (λ x. x.address < 2 ^ 64) ss → Limited s → pass_refusal s ≡ Some refusal → Passed ss ss s s
unmade ss s refusal n l e =
    passed_by_lem ss ss s s n l (listings_are_truthful.pass_refused (on_line ss) refusal s s (narrow_on ss n) e refl)
    (sym (ap (λ (xs : List Signal). map (played xs) ss) (by_refusal (on_line ss) s (Some refusal) e) ∙ played_nothing ss))

pub pass_made : (ss after : List Seat) (s t : State) → AllByRecursion (λ x. x.address < 2 ^ 64) ss → Limited t → pass_refusal s ≡ None → t ≡ passed (on_line ss) s → after ≡ map (played (Reset ∷ slots (levels (on_line ss) s))) ss → Passed ss after s t
pass_made ss after s t n l r e given =
    passed_by_lem ss after s t n l (listings_are_truthful.passes (on_line ss) s t (narrow_on ss n) r e)
    (given ∙ sym (ap (λ (xs : List Signal). map (played xs) ss) (by_refusal (on_line ss) s None r)))
