-- The walk of a pass over the seats of a line, bit by bit. Assumes nothing.
use Rattle.std.proofs.Common.{◌≡◌, ℕ, zero, suc, ◌+◌, ◌-◌, ◌^◌, ◌<◌, Bool, true, false, cond, not, ◌&&◌, ◌||◌, ltb, List, [], ◌∷◌, ◌++◌, map, set, Option, Ok, Err, if◌then◌else◌, sym, refl, ap, ◌∙◌, subst, lt_trans, lt-suc_self, add-one, arith}
use mathlib.Core.Bool.{beq}
use Rattle.std.proofs.lemmas.Simd.{map-map}
use Rattle.std.proofs.lemmas.Bool.{both_ways}
use Rattle.address.specs.Bits.{bit, bits}
use Rattle.address.specs.SearchOrder.{Agree}
use Rattle.line.specs.declared.signal.Signal.{Signal}
use Rattle.line.specs.declared.presence.Presence.TheVariants.{Empty}
use Rattle.line.specs.declared.signal.Signal.TheVariants.{Reset, Slot}
use Rattle.line.specs.declared.stage.Stage.{Stage}
use Rattle.line.specs.declared.stage.Stage.TheVariants.{Deaf, Search, Chosen}
use Rattle.line.specs.declared.stage.Turn.TheVariants.{Bit, Listen}
use Rattle.line.specs.Matching.{staged}
use Rattle.line.specs.Searching.{on_line, agree, answered}
use Rattle.line.specs.Seats.{Seat, drives_line, takes_seat, reset_seat, occupied, presence}
use Rattle.line.specs.Sending.{sent_bit, sent}
use Rattle.line.specs.Signals.{signalled, played, slots}
use Rattle.line.specs.Stages.{with_bit}
use Rattle.line.proofs.Staged.{line_silent, reset_staged}
use Rattle.line.proofs.Walks.{walked, search_at, turned, at_bit, first_read, second_read, gone_on, value_sent, asked_line, turn_unchosen, listen_silent, search_sent, command_silent, commanded}
use Rattle.listing.specs.Rule.{levels, Walk, silent, stopped, reached, wanted, stops, forks, walk, walk_over, walk_levels, levels_over}
use Rattle.listing.specs.Meaning.{walk_of}
use Rattle.listing.specs.declared.walk.Stop.{Stop}
use Rattle.listing.specs.declared.walk.Stop.TheVariants.{At}
use Rattle.listing.proofs.Answering.{sent_below, sent_here}
use Rattle.listing.proofs.Steps.{walk_end, walk_stops, walk_on, levels_end, levels_stop, levels_on}

-- ---- what a bit reads

not_not : (b : Bool) → not (not b) ≡ b
not_not true = refl
not_not false = refl

at_turn : (a k : ℕ) (ss : List Seat) → k < 64 → map (staged (walked search_at a k)) ss ≡ map (staged (turned Bit a k)) ss
at_turn a k ss h = ap (λ (f : ℕ → Stage). map (staged f) ss) (at_bit search_at a k h)

first_level : (a k : ℕ) (ss : List Seat) → k < 64 → drives_line (map (staged (walked search_at a k)) ss) ≡ not (answered false k a (on_line ss))
first_level a k ss h = ap drives_line (at_turn a k ss h) ∙ asked_line false a k ss

second_level : (a k : ℕ) (ss : List Seat) → k < 64 → drives_line (sent_bit true (map (staged (walked search_at a k)) ss)) ≡ not (answered true k a (on_line ss))
second_level a k ss h =
    ap (λ (l : List Seat). drives_line (sent_bit true l)) (at_turn a k ss h) ∙ ap drives_line (first_read a k ss) ∙ asked_line true a k ss

-- the seats listen after the two reads
listening : (a k : ℕ) (ss : List Seat) → k < 64 → sent_bit true (sent_bit true (map (staged (walked search_at a k)) ss)) ≡ map (staged (turned Listen a k)) ss
listening a k ss h =
    ap (λ (l : List Seat). sent_bit true (sent_bit true l)) (at_turn a k ss h) ∙ ap (sent_bit true) (first_read a k ss) ∙ second_read a k ss

-- ---- what a bit sends

pub agree_by : (k x a b : ℕ) → Agree k a b → agree k x a ≡ agree k x b
agree_by zero x a b h = refl
agree_by (suc k) x a b h = λ i. agree_by k x a b (λ j l. h j (lt_trans l (lt-suc_self k))) i && beq (h k (lt-suc_self k) i) (bit k x)

pub gone_on_lem : (v : Bool) (a k x : ℕ) → a < 2 ^ k → gone_on v a k x ≡ walked search_at (with_bit k v a) (suc k) x
gone_on_lem v a k x small =
    λ i. cond (sym (agree_by k x (with_bit k v a) a (sent_below k a v)) i && beq (sym (sent_here k a v small) i) (bit k x)) (cond (ltb (suc k) 64) (Search (suc k) Bit) Chosen) Deaf

-- those go on that have what is sent
pub sent_on : (v : Bool) (a k : ℕ) (ss : List Seat) → a < 2 ^ k → sent_bit v (map (staged (turned Listen a k)) ss) ≡ map (staged (walked search_at (with_bit k v a) (k + 1))) ss
sent_on v a k ss small =
    value_sent v a k ss
    ∙ ap (λ (f : ℕ → Stage). map (staged f) ss) (λ i x. gone_on_lem v a k x small i)
    ∙ ap (λ (n : ℕ). map (staged (walked search_at (with_bit k v a) n)) ss) (sym (add-one k))

-- ---- levels

pub played_first : (x : Signal) (xs : List Signal) (ss : List Seat) → map (played xs) (map (signalled x) ss) ≡ map (played (x ∷ xs)) ss
unfolding played
played_first x xs ss = map-map (played xs) (signalled x) ss

pub played_nothing : (ss : List Seat) → map (played []) ss ≡ ss
unfolding played
played_nothing [] = refl
played_nothing (s ∷ ss) = ap (λ (l : List Seat). s ∷ l) (played_nothing ss)

-- a bit that is read is a slot with the level that the line drives
read_slot : (l : Bool) (ss : List Seat) → drives_line ss ≡ l → sent_bit true ss ≡ map (signalled (Slot l)) ss
read_slot l ss e = ap (λ (b : Bool). map (takes_seat b) ss) e

quiet_slot : (v : Bool) (ss : List Seat) → drives_line ss ≡ true → sent_bit v ss ≡ map (signalled (Slot v)) ss
quiet_slot true ss e = ap (λ (b : Bool). map (takes_seat b) ss) e
quiet_slot false ss e = refl

-- what the value to send is
pub wants : (b x y : Bool) (i : ℕ) → Ok y ≡ (if b then Err (At i) else Ok x) → (b ≡ false) × (y ≡ x)
wants true x y i e = let z : ◌≡◌ {A = ℕ} 0 1 = cc in absurd (omega arith)
wants false x y i e = (refl, cc)

pub wants_none : (b x : Bool) (i : ℕ) (s : Stop) → Err s ≡ (if b then Err (At i) else Ok x) → (b ≡ true) × (s ≡ At i)
wants_none true x i s e = (refl, cc)
wants_none false x i s e = let z : ◌≡◌ {A = ℕ} 0 1 = cc in absurd (omega arith)

-- ---- the walk under way

-- where a walk has come to at bit i: the seats, what is left of the walk, and what is left to be given
pub record Going (ss : List Seat) (d : Option ℕ) (last : ℕ) (before : List Bool) (start : List Seat) (i sent : ℕ) (f : List Bool) (here : List Seat) : Type 0 where
  pub seats : here ≡ map (staged (walked search_at sent i)) ss
  pub left : walk (on_line ss) d last (64 - i) i sent f ≡ walk (on_line ss) d last 64 0 0 before
  pub given : map (played (slots (walk_levels (on_line ss) d last (64 - i) i sent))) here ≡ map (played (slots (walk_levels (on_line ss) d last 64 0 0))) start

-- the same walk, by another name for what it has come to
moved : (ss : List Seat) (d : Option ℕ) (last : ℕ) (before : List Bool) (start : List Seat) (i : ℕ) {m n : ℕ} {f g : List Bool} {l r : List Seat} → m ≡ n → f ≡ g → l ≡ r → Going ss d last before start i m f l → Going ss d last before start i n g r
moved ss d last before start i {m} {n} {f} {g} {l} {r} p q s going =
    subst (λ (x : List Seat). Going ss d last before start i n g x) s
    (subst (λ (x : List Bool). Going ss d last before start i n x l) q (subst (λ (x : ℕ). Going ss d last before start i x f l) p going))

module _ (ss : List Seat) (d : Option ℕ) (last : ℕ) (before : List Bool) (start : List Seat) where
  -- before the first bit
  pub going_first : start ≡ map (staged (λ _. Search 0 Bit)) ss → Going ss d last before start 0 0 before start
  going_first e = record { seats = e; left = refl; given = refl }

  module _ (i sent : ℕ) (f : List Bool) (here : List Seat) (going : Going ss d last before start i sent f here) (in-range : i < 64) where
    pub zero_read : not (drives_line here) ≡ answered false i sent (on_line ss)
    zero_read = ap not (ap drives_line going.seats ∙ first_level sent i ss in-range) ∙ not_not (answered false i sent (on_line ss))

    pub one_read : not (drives_line (sent_bit true here)) ≡ answered true i sent (on_line ss)
    one_read = ap not (ap (λ (l : List Seat). drives_line (sent_bit true l)) going.seats ∙ second_level sent i ss in-range) ∙ not_not (answered true i sent (on_line ss))

    -- the two reads as slots
    reads : sent_bit true (sent_bit true here) ≡ map (signalled (Slot (not (answered true i sent (on_line ss))))) (map (signalled (Slot (not (answered false i sent (on_line ss))))) here)
    reads =
        read_slot (not (answered true i sent (on_line ss))) (sent_bit true here) (ap (λ (l : List Seat). drives_line (sent_bit true l)) going.seats ∙ second_level sent i ss in-range)
        ∙ ap (map (signalled (Slot (not (answered true i sent (on_line ss)))))) (read_slot (not (answered false i sent (on_line ss))) here (ap drives_line going.seats ∙ first_level sent i ss in-range))

    heard : sent_bit true (sent_bit true here) ≡ map (staged (turned Listen sent i)) ss
    heard = ap (λ (l : List Seat). sent_bit true (sent_bit true l)) going.seats ∙ listening sent i ss in-range

    -- one bit more
    pub goes_on_lem : sent < 2 ^ i → stops d last i (answered false i sent (on_line ss)) (answered true i sent (on_line ss)) ≡ false → Going ss d last before start (i + 1) (with_bit i (wanted d last i (answered false i sent (on_line ss))) sent) (cond (forks d i (answered false i sent (on_line ss)) (answered true i sent (on_line ss))) (set f i true) f) (sent_bit (wanted d last i (answered false i sent (on_line ss))) (sent_bit true (sent_bit true here)))
    goes_on_lem small e =
        let xs = on_line ss in
        let t = not (answered false i sent xs) in
        let u = not (answered true i sent xs) in
        let v = wanted d last i (answered false i sent xs) in
        let next = with_bit i v sent in
        let rest = slots (walk_levels xs d last (64 - (i + 1)) (i + 1) next) in
        let quiet = ap drives_line heard ∙ line_silent (turned Listen sent i) (turn_unchosen Listen sent i) (listen_silent sent i) ss in
        record {
          seats = ap (sent_bit v) heard ∙ sent_on v sent i ss small;
          left = sym (walk_on xs d last i sent f in-range e) ∙ going.left;
          given =
              ap (map (played rest)) (quiet_slot v (sent_bit true (sent_bit true here)) quiet ∙ ap (map (signalled (Slot v))) reads)
              ∙ played_first (Slot v) rest (map (signalled (Slot u)) (map (signalled (Slot t)) here))
              ∙ played_first (Slot u) (Slot v ∷ rest) (map (signalled (Slot t)) here)
              ∙ played_first (Slot t) (Slot u ∷ Slot v ∷ rest) here
              ∙ ap (λ (l : List Bool). map (played (slots l)) here) (sym (levels_on xs d last i sent in-range e))
              ∙ going.given;
        }

    -- the value told is not answered
    pub stops_here : stops d last i (answered false i sent (on_line ss)) (answered true i sent (on_line ss)) ≡ true → (stopped i ≡ walk (on_line ss) d last 64 0 0 before) × (sent_bit true (sent_bit true here) ≡ map (played (slots (walk_levels (on_line ss) d last 64 0 0))) start)
    stops_here e =
        let xs = on_line ss in
        let t = not (answered false i sent xs) in
        let u = not (answered true i sent xs) in (
          sym (walk_stops xs d last i sent f in-range e) ∙ going.left,
          reads
              ∙ sym (played_nothing (map (signalled (Slot u)) (map (signalled (Slot t)) here)))
              ∙ played_first (Slot u) [] (map (signalled (Slot t)) here)
              ∙ played_first (Slot t) (Slot u ∷ []) here
              ∙ ap (λ (l : List Bool). map (played (slots l)) here) (sym (levels_stop xs d last i sent in-range e))
              ∙ going.given,
        )

    -- the same, as the code has it
    pub bit_goes_on : (lo hi v : Bool) (next : ℕ) (g : List Bool) (asked after : List Seat) → sent < 2 ^ i → lo ≡ not (drives_line here) → hi ≡ not (drives_line (sent_bit true here)) → asked ≡ sent_bit true (sent_bit true here) → Ok v ≡ (if stops d last i lo hi then Err (At i) else Ok (wanted d last i lo)) → g ≡ cond (forks d i lo hi) (set f i true) f → after ≡ sent_bit v asked → next ≡ with_bit i v sent → Going ss d last before start (i + 1) next g after
    bit_goes_on lo hi v next g asked after small z o q w fork s n =
        let low = z ∙ zero_read in
        let high = o ∙ one_read in
        let wish = wants (stops d last i lo hi) (wanted d last i lo) v i w in
        let value = wish.1 ∙ ap (wanted d last i) low in
        let on = goes_on_lem small (sym (λ j. stops d last i (low j) (high j)) ∙ wish.0) in
        moved ss d last before start (i + 1) (sym (n ∙ ap (λ (b : Bool). with_bit i b sent) value)) (sym (fork ∙ (λ j. cond (forks d i (low j) (high j)) (set f i true) f))) (sym (s ∙ (λ j. sent_bit (value j) (q j)))) on

    pub bit_stops : (lo hi : Bool) (stop : Stop) (asked : List Seat) → lo ≡ not (drives_line here) → hi ≡ not (drives_line (sent_bit true here)) → asked ≡ sent_bit true (sent_bit true here) → Err stop ≡ (if stops d last i lo hi then Err (At i) else Ok (wanted d last i lo)) → (walk_of (Err stop) ≡ walk (on_line ss) d last 64 0 0 before) × (asked ≡ map (played (slots (walk_levels (on_line ss) d last 64 0 0))) start)
    bit_stops lo hi stop asked z o q w =
        let low = z ∙ zero_read in
        let high = o ∙ one_read in
        let none = wants_none (stops d last i lo hi) (wanted d last i lo) i stop w in
        let both = stops_here (sym (λ j. stops d last i (low j) (high j)) ∙ none.0) in
        (ap (λ (s : Stop). walk_of (Err s)) none.1 ∙ both.0, q ∙ both.1)

  -- after the last bit
  pub ends_here : (i sent : ℕ) (f : List Bool) (here : List Seat) → Going ss d last before start i sent f here → i ≡ 64 → (reached sent f ≡ walk (on_line ss) d last 64 0 0 before) × (here ≡ map (played (slots (walk_levels (on_line ss) d last 64 0 0))) start)
  ends_here i sent f here going e =
      let none : 64 - i ≡ 0 = omega arith in
      let xs = on_line ss in (
        sym (walk_end xs d last i sent f) ∙ ap (λ (n : ℕ). walk xs d last n i sent f) (sym none) ∙ going.left,
        sym (played_nothing here)
            ∙ ap (λ (l : List Bool). map (played (slots l)) here) (sym (levels_end xs d last i sent) ∙ ap (λ (n : ℕ). walk_levels xs d last n i sent) (sym none))
            ∙ going.given,
      )

-- ---- before the walk

from_empty : (b : Bool) → Empty ≡ presence b → b ≡ false
from_empty true e = let z : ◌≡◌ {A = ℕ} 0 1 = cc in absurd (omega arith)
from_empty false e = refl

none_on_by : (t : Bool) (x : ℕ) (rest : Bool) (xs : List ℕ) → (rest ≡ false → xs ≡ []) → (t || rest) ≡ false → cond t (x ∷ xs) xs ≡ []
none_on_by true x rest xs h e = absurd (both_ways true e refl)
none_on_by false x rest xs h e = h e

pub none_on : (ss : List Seat) → occupied ss ≡ false → on_line ss ≡ []
none_on [] e = refl
none_on (s ∷ ss) e = none_on_by s.attached s.address (occupied ss) (on_line ss) (none_on ss) e

some_on_by : (t : Bool) (x : ℕ) (rest : Bool) (xs : List ℕ) → (rest ≡ true → xs ≡ [] → ⊥) → (t || rest) ≡ true → cond t (x ∷ xs) xs ≡ [] → ⊥
some_on_by true x rest xs h e n = let z : ◌≡◌ {A = ℕ} 0 1 = cc in omega arith
some_on_by false x rest xs h e n = h e n

some_on : (ss : List Seat) → occupied ss ≡ true → on_line ss ≡ [] → ⊥
some_on [] e n = both_ways false refl e
some_on (s ∷ ss) e n = some_on_by s.attached s.address (occupied ss) (on_line ss) (some_on ss) e n

pub over_some : (xs : List ℕ) (d : Option ℕ) (last : ℕ) (f : List Bool) → (xs ≡ [] → ⊥) → (walk_over xs d last f ≡ walk xs d last 64 0 0 f) × (levels_over xs d last ≡ bits 0xf0 ++ walk_levels xs d last 64 0 0)
over_some [] d last f h = absurd (h refl)
over_some (x ∷ xs) d last f h = (refl, refl)

-- an empty reset: there is no walk, and the reset is all that is given
pub nothing_there : (ss : List Seat) (d : Option ℕ) (last : ℕ) (f : List Bool) → Empty ≡ presence (occupied ss) → (silent ≡ walk_over (on_line ss) d last f) × (map reset_seat ss ≡ map (played (Reset ∷ slots (levels_over (on_line ss) d last))) ss)
unfolding played
nothing_there ss d last f e =
    let none = none_on ss (from_empty (occupied ss) e) in
    (ap (λ (xs : List ℕ). walk_over xs d last f) (sym none), ap (λ (xs : List ℕ). map (played (Reset ∷ slots (levels_over xs d last))) ss) (sym none))

-- a search that has begun
pub search_begins : (ss : List Seat) → sent (bits 0xf0) (map reset_seat ss) ≡ map (staged (λ _. Search 0 Bit)) ss
search_begins ss = ap (sent (bits 0xf0)) (reset_staged ss) ∙ search_sent ss

pub begun_given : (levels : List Bool) (ss : List Seat) → map (played (slots levels)) (map (staged (λ _. Search 0 Bit)) ss) ≡ map (played (Reset ∷ slots (bits 0xf0 ++ levels))) ss
begun_given levels [] = refl
begun_given levels (s ∷ ss) = λ i. sym (commanded 0xf0 levels command_silent s) i ∷ begun_given levels ss i

-- and the walk that follows it
pub searched_given : (ss : List Seat) (d : Option ℕ) (last : ℕ) (f : List Bool) (w : Walk) (begun after : List Seat) → (Empty ≡ presence (occupied ss) → ⊥) → begun ≡ map (staged (λ _. Search 0 Bit)) ss → w ≡ walk (on_line ss) d last 64 0 0 f → after ≡ map (played (slots (walk_levels (on_line ss) d last 64 0 0))) begun → (w ≡ walk_over (on_line ss) d last f) × (after ≡ map (played (Reset ∷ slots (levels_over (on_line ss) d last))) ss)
searched_given ss d last f w begun after present b p q =
    let some = some_on ss (occupied_by (occupied ss) present) in
    let over = over_some (on_line ss) d last f some in (
      p ∙ sym over.0,
      q
          ∙ ap (map (played (slots (walk_levels (on_line ss) d last 64 0 0)))) b
          ∙ begun_given (walk_levels (on_line ss) d last 64 0 0) ss
          ∙ ap (λ (l : List Bool). map (played (Reset ∷ slots l)) ss) (sym over.1),
    )
  where
    occupied_by : (t : Bool) → (Empty ≡ presence t → ⊥) → t ≡ true
    occupied_by true h = refl
    occupied_by false h = absurd (h refl)
