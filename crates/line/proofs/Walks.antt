-- A match and a search that are walked with an address, bit by bit. Assumes nothing.
use Rattle.std.proofs.Common.{◌≡◌, ℕ, zero, suc, ◌+◌, ◌^◌, ◌<◌, Bool, true, false, cond, not, ◌&&◌, ◌||◌, eqb, ltb, List, [], ◌∷◌, ◌++◌, map, Option, sym, refl, ap, ◌∙◌, ⊎_elim, add-one, arith}
use mathlib.Core.Bool.{beq}
use Rattle.std.specs.Option.{option_map}
use Rattle.std.specs.List.{AllByRecursion, range_with_len}
use Rattle.std.proofs.lemmas.List.{map-append}
use Rattle.std.proofs.lemmas.Bool.{cond-false, cond-true, lt-ltb, le-ltb, cases_lt}
use Rattle.ds2760.specs.Commands.{after_reset}
use Rattle.ds2760.specs.States.{State}
use Rattle.address.specs.Bits.{bit, bits}
use Rattle.address.specs.Parts.{address_bits}
use Rattle.line.specs.declared.stage.Stage.{Stage}
use Rattle.line.specs.declared.stage.Stage.TheVariants.{Deaf, Command, Search, Match, Chosen}
use Rattle.line.specs.declared.stage.Turn.{Turn}
use Rattle.line.specs.declared.stage.Turn.TheVariants.{Bit, Opposite, Listen}
use Rattle.line.specs.declared.signal.Signal.{Signal}
use Rattle.line.specs.declared.signal.Signal.TheVariants.{Reset, Slot}
use Rattle.line.specs.Choosing.{match_levels, match_signals, walk_levels, search_signals}
use Rattle.line.specs.Matching.{staged, chosen_by}
use Rattle.line.specs.Searching.{on_line, agree, answered}
use Rattle.line.specs.Seats.{Seat, is_chosen, drives_seat, drives_line, takes_seat, reset_seat}
use Rattle.line.specs.Sending.{sent_bit, sent}
use Rattle.line.specs.Signals.{played, slots}
use Rattle.line.specs.Stages.{drives_stage, takes}
use Rattle.line.proofs.Agrees.{agree_all}
use Rattle.line.proofs.Plays.{played_append}
use Rattle.line.proofs.Staged.{Unchosen, Silent, SilentAll, stepped, stepped_all, sent_all, sent_staged, all_taken, seat_taken, played_all, reset_staged}

-- a command of eight bits is silent, and none of its slots reaches a store
pub command_silent : SilentAll (bits 0x55) (λ _. Command 0 0)
command_silent =
    (λ x. refl, λ x. refl, (λ x. refl, λ x. refl, (λ x. refl, λ x. refl, (λ x. refl, λ x. refl, (λ x. refl, λ x. refl, (λ x. refl, λ x. refl, (λ x. refl, λ x. refl, (λ x. refl, λ x. refl, tt))))))))

-- 55h leads every seat to match, F0h to search
pub match_sent : (ss : List Seat) → sent (bits 0x55) (map (staged (λ _. Command 0 0)) ss) ≡ map (staged (λ _. Match 0)) ss
match_sent ss = sent_all (bits 0x55) (λ _. Command 0 0) command_silent ss

pub search_sent : (ss : List Seat) → sent (bits 0xf0) (map (staged (λ _. Command 0 0)) ss) ≡ map (staged (λ _. Search 0 Bit)) ss
search_sent ss = sent_all (bits 0xf0) (λ _. Command 0 0) command_silent ss

-- ---- where a walk has come to

-- the stage of address x once k bits of a are sent: the walk's own at bit k, or chosen after the last
abbrev pub walked : (ℕ → Stage) → ℕ → ℕ → ℕ → Stage
walked here a k x = cond (agree k x a) (cond (ltb k 64) (here k) Chosen) Deaf

-- a search's stage at the start of a bit
abbrev pub search_at : ℕ → Stage
search_at k = Search k Bit

-- the stage of address x in one of the turns at bit k
abbrev pub turned : Turn → ℕ → ℕ → ℕ → Stage
turned turn a k x = cond (agree k x a) (Search k turn) Deaf

-- what only depends on whether the address agrees
by_agreement : (P : Stage → Type 0) (t : Bool) (st : Stage) → P st → P Deaf → P (cond t st Deaf)
by_agreement P true st p q = p
by_agreement P false st p q = q

-- a walk at a bit is at the walk's own stage
pub at_bit : (here : ℕ → Stage) (a k : ℕ) → k < 64 → walked here a k ≡ (λ x. cond (agree k x a) (here k) Deaf)
at_bit here a k h = λ i x. cond (agree k x a) (cond-true (ltb k 64) (here k) Chosen (lt-ltb k 64 h) i) Deaf

-- the last bit's test, whichever way it is counted
same_test : (k : ℕ) → ltb k 63 ≡ ltb (suc k) 64
same_test k = ⊎_elim (λ l. lt-ltb k 63 l ∙ sym (lt-ltb (suc k) 64 (omega arith))) (λ l. le-ltb k 63 l ∙ sym (le-ltb (suc k) 64 (omega arith))) (cases_lt k 63)

onward_walked : (here : ℕ → Stage) (k : ℕ) → cond (ltb k 63) (here (k + 1)) Chosen ≡ cond (ltb (suc k) 64) (here (suc k)) Chosen
onward_walked here k = λ i. cond (same_test k i) (here (add-one k i)) Chosen

-- ---- a match

match_unchosen : (a k : ℕ) → Unchosen (λ x. cond (agree k x a) (Match k) Deaf)
match_unchosen a k x = by_agreement (λ st. is_chosen st ≡ false) (agree k x a) (Match k) refl refl

match_quiet : (a k : ℕ) → Silent (λ x. cond (agree k x a) (Match k) Deaf)
match_quiet a k x = by_agreement (λ st. drives_stage x st ≡ true) (agree k x a) (Match k) refl refl

match_heard : (t : Bool) (a k x : ℕ) → takes x (cond t (Match k) Deaf) (bit k a) ≡ cond (t && beq (bit k a) (bit k x)) (cond (ltb (suc k) 64) (Match (suc k)) Chosen) Deaf
match_heard true a k x = λ i. cond (beq (bit k a) (bit k x)) (onward_walked Match k i) Deaf
match_heard false a k x = refl

-- ---- a search

pub turn_unchosen : (turn : Turn) (a k : ℕ) → Unchosen (turned turn a k)
turn_unchosen turn a k x = by_agreement (λ st. is_chosen st ≡ false) (agree k x a) (Search k turn) refl refl

pub listen_silent : (a k : ℕ) → Silent (turned Listen a k)
listen_silent a k x = by_agreement (λ st. drives_stage x st ≡ true) (agree k x a) (Search k Listen) refl refl

after_bit : (t b : Bool) (k x : ℕ) → takes x (cond t (Search k Bit) Deaf) b ≡ cond t (Search k Opposite) Deaf
after_bit true b k x = refl
after_bit false b k x = refl

after_opposite : (t b : Bool) (k x : ℕ) → takes x (cond t (Search k Opposite) Deaf) b ≡ cond t (Search k Listen) Deaf
after_opposite true b k x = refl
after_opposite false b k x = refl

-- whatever is read, the turns come one after the other
pub bit_read : (b : Bool) (a k : ℕ) → stepped b (turned Bit a k) ≡ turned Opposite a k
bit_read b a k = λ i x. after_bit (agree k x a) b k x i

pub opposite_read : (b : Bool) (a k : ℕ) → stepped b (turned Opposite a k) ≡ turned Listen a k
opposite_read b a k = λ i x. after_opposite (agree k x a) b k x i

-- then those go on that have the value sent
pub listened : (v t : Bool) (k x : ℕ) → takes x (cond t (Search k Listen) Deaf) v ≡ cond (t && beq v (bit k x)) (cond (ltb (suc k) 64) (Search (suc k) Bit) Chosen) Deaf
listened v true k x = λ i. cond (beq v (bit k x)) (onward_walked search_at k i) Deaf
listened v false k x = refl

-- a turn that is read, for all seats
turn_read : (turn after : Turn) (a k : ℕ) → ((b : Bool) → stepped b (turned turn a k) ≡ turned after a k) → (ss : List Seat) → sent_bit true (map (staged (turned turn a k)) ss) ≡ map (staged (turned after a k)) ss
turn_read turn after a k h ss =
    let level = drives_line (map (staged (turned turn a k)) ss) in
    all_taken (turned turn a k) (turn_unchosen turn a k) level ss ∙ ap (λ (f : ℕ → Stage). map (staged f) ss) (h level)

pub first_read : (a k : ℕ) (ss : List Seat) → sent_bit true (map (staged (turned Bit a k)) ss) ≡ map (staged (turned Opposite a k)) ss
first_read a k ss = turn_read Bit Opposite a k (λ b. bit_read b a k) ss

pub second_read : (a k : ℕ) (ss : List Seat) → sent_bit true (map (staged (turned Opposite a k)) ss) ≡ map (staged (turned Listen a k)) ss
second_read a k ss = turn_read Opposite Listen a k (λ b. opposite_read b a k) ss

-- the stages of a search once the value v is sent at bit k
abbrev pub gone_on : Bool → ℕ → ℕ → ℕ → Stage
gone_on v a k x = cond (agree k x a && beq v (bit k x)) (cond (ltb (suc k) 64) (Search (suc k) Bit) Chosen) Deaf

pub value_sent : (v : Bool) (a k : ℕ) (ss : List Seat) → sent_bit v (map (staged (turned Listen a k)) ss) ≡ map (staged (gone_on v a k)) ss
value_sent v a k ss =
    sent_staged (turned Listen a k) (turn_unchosen Listen a k) (listen_silent a k) v ss
    ∙ ap (λ (f : ℕ → Stage). map (staged f) ss) (λ i x. listened v (agree k x a) k x i)

-- ---- what is read

-- the turn in which a value is asked for
abbrev pub asking : Bool → Turn
asking false = Bit
asking true = Opposite

is_not_false : (b : Bool) → b ≡ not (beq false b)
is_not_false true = refl
is_not_false false = refl

not-true : (b : Bool) → not b ≡ not (beq true b)
not-true true = refl
not-true false = refl

asked_drives : (v t : Bool) (k x : ℕ) → drives_stage x (cond t (Search k (asking v)) Deaf) ≡ not (t && beq v (bit k x))
asked_drives true true k x = not-true (bit k x)
asked_drives false true k x = is_not_false (bit k x)
asked_drives true false k x = refl
asked_drives false false k x = refl

not_either : (p q : Bool) → (not p && not q) ≡ not (p || q)
not_either true q = refl
not_either false q = refl

asked_seat : (v : Bool) (a k x : ℕ) (t : Bool) (st : Stage) (o : Option State) (rest : List ℕ) → (drives_seat (staged (turned (asking v) a k) (record { address = x; attached = t; stage = st; store = o })) && not (answered v k a rest)) ≡ not (answered v k a (cond t (x ∷ rest) rest))
asked_seat v a k x true st o rest =
    ap (λ (b : Bool). b && not (answered v k a rest))
    (cond-false (is_chosen (turned (asking v) a k x)) _ (drives_stage x (turned (asking v) a k x)) (turn_unchosen (asking v) a k x) ∙ asked_drives v (agree k x a) k x)
    ∙ not_either (agree k x a && beq v (bit k x)) (answered v k a rest)
asked_seat v a k x false st o rest = refl

-- a line drives 0 just when the value that is asked for is answered
pub asked_line : (v : Bool) (a k : ℕ) (ss : List Seat) → drives_line (map (staged (turned (asking v) a k)) ss) ≡ not (answered v k a (on_line ss))
asked_line v a k [] = refl
asked_line v a k (s ∷ ss) =
    ap (λ (b : Bool). drives_seat (staged (turned (asking v) a k) s) && b) (asked_line v a k ss)
    ∙ asked_seat v a k s.address s.attached s.stage s.store (on_line ss)

-- ---- one bit, and all of them

-- one bit of a match, for all seats
pub match_more : (a k : ℕ) (ss : List Seat) → k < 64 → sent_bit (bit k a) (map (staged (walked Match a k)) ss) ≡ map (staged (walked Match a (k + 1))) ss
match_more a k ss h =
    ap (λ (f : ℕ → Stage). sent_bit (bit k a) (map (staged f) ss)) (at_bit Match a k h)
    ∙ sent_staged (λ x. cond (agree k x a) (Match k) Deaf) (match_unchosen a k) (match_quiet a k) (bit k a) ss
    ∙ ap (λ (f : ℕ → Stage). map (staged f) ss) (λ i x. (match_heard (agree k x a) a k x ∙ ap (λ (n : ℕ). walked Match a n x) (sym (add-one k))) i)

-- one bit of a search, for all seats
pub search_more : (a k : ℕ) (ss : List Seat) → k < 64 → sent_bit (bit k a) (sent_bit true (sent_bit true (map (staged (walked search_at a k)) ss))) ≡ map (staged (walked search_at a (k + 1))) ss
search_more a k ss h =
    ap (λ (f : ℕ → Stage). sent_bit (bit k a) (sent_bit true (sent_bit true (map (staged f) ss)))) (at_bit search_at a k h)
    ∙ ap (λ (l : List Seat). sent_bit (bit k a) (sent_bit true l)) (first_read a k ss)
    ∙ ap (sent_bit (bit k a)) (second_read a k ss)
    ∙ value_sent (bit k a) a k ss
    ∙ ap (λ (n : ℕ). map (staged (walked search_at a n)) ss) (sym (add-one k))

-- a walk that has come to its end has chosen the address
seat_ends : (here : ℕ → Stage) (a : ℕ) → a < 2 ^ 64 → (s : Seat) → s.address < 2 ^ 64 → staged (walked here a 64) s ≡ chosen_by a s
seat_ends here a q s h =
    let ends : walked here a 64 s.address ≡ cond (eqb s.address a) Chosen Deaf = ap (λ (t : Bool). cond t Chosen Deaf) (agree_all s.address a h q) in
    λ i. record {
      address = s.address;
      attached = s.attached;
      stage = cond s.attached (ends i) s.stage;
      store = cond s.attached (option_map after_reset s.store) s.store;
    }

pub walk_ends : (here : ℕ → Stage) (a : ℕ) → a < 2 ^ 64 → (ss : List Seat) → AllByRecursion (λ s. s.address < 2 ^ 64) ss → map (staged (walked here a 64)) ss ≡ map (chosen_by a) ss
walk_ends here a q [] h = refl
walk_ends here a q (s ∷ ss) h = λ i. seat_ends here a q s h.0 i ∷ walk_ends here a q ss h.1 i

-- all bits of a match, for all seats
sent_match : (n k a : ℕ) (ss : List Seat) → k + n ≡ 64 → sent (map (λ j. bit j a) (range_with_len k n)) (map (staged (walked Match a k)) ss) ≡ map (staged (walked Match a 64)) ss
unfolding sent
sent_match zero k a ss e = let last : k ≡ 64 = omega arith in ap (λ (m : ℕ). map (staged (walked Match a m)) ss) last
sent_match (suc n) k a ss e =
    let h : k < 64 = omega arith in
    ap (sent (map (λ j. bit j a) (range_with_len (k + 1) n))) (match_more a k ss h) ∙ sent_match n (k + 1) a ss (omega arith)

-- a reset, 55h and an address choose the seats with that address
pub matched : (a : ℕ) (ss : List Seat) → a < 2 ^ 64 → AllByRecursion (λ s. s.address < 2 ^ 64) ss → sent (address_bits a) (sent (bits 0x55) (map reset_seat ss)) ≡ map (chosen_by a) ss
matched a ss q narrow =
    ap (λ (l : List Seat). sent (address_bits a) (sent (bits 0x55) l)) (reset_staged ss)
    ∙ ap (sent (address_bits a)) (match_sent ss)
    ∙ sent_match 64 0 a ss refl
    ∙ walk_ends Match a q ss narrow

-- ---- the signals of a walk

at_end : (here : ℕ → Stage) (a k : ℕ) (s : Seat) → k + 0 ≡ 64 → staged (walked here a k) s ≡ staged (walked here a 64) s
at_end here a k s e = let last : k ≡ 64 = omega arith in ap (λ (n : ℕ). staged (walked here a n) s) last

match_levels_lem : (n k a : ℕ) (s : Seat) → k + n ≡ 64 → played (slots (match_levels n k a)) (staged (walked Match a k) s) ≡ staged (walked Match a 64) s
unfolding match_levels played
match_levels_lem zero k a s e = at_end Match a k s e
match_levels_lem (suc n) k a s e =
    let h : k < 64 = omega arith in
    let rest = played (slots (match_levels n (k + 1) a)) in
    ap (λ (f : ℕ → Stage). rest (takes_seat (bit k a) (staged f s))) (at_bit Match a k h)
    ∙ ap rest (seat_taken (λ x. cond (agree k x a) (Match k) Deaf) (match_unchosen a k) (bit k a) s)
    ∙ ap (λ (f : ℕ → Stage). rest (staged f s)) (λ i x. (match_heard (agree k x a) a k x ∙ ap (λ (m : ℕ). walked Match a m x) (sym (add-one k))) i)
    ∙ match_levels_lem n (k + 1) a s (omega arith)

search_levels : (n k a : ℕ) (xs : List ℕ) (s : Seat) → k + n ≡ 64 → played (slots (walk_levels n k a xs)) (staged (walked search_at a k) s) ≡ staged (walked search_at a 64) s
unfolding walk_levels played
search_levels zero k a xs s e = at_end search_at a k s e
search_levels (suc n) k a xs s e =
    let h : k < 64 = omega arith in
    let rest = played (slots (walk_levels n (k + 1) a xs)) in
    let t = not (answered false k a xs) in
    let u = not (answered true k a xs) in
    let v = bit k a in
    ap (λ (f : ℕ → Stage). rest (takes_seat v (takes_seat u (takes_seat t (staged f s))))) (at_bit search_at a k h)
    ∙ ap (λ (r : Seat). rest (takes_seat v (takes_seat u r))) (seat_taken (turned Bit a k) (turn_unchosen Bit a k) t s ∙ ap (λ (f : ℕ → Stage). staged f s) (bit_read t a k))
    ∙ ap (λ (r : Seat). rest (takes_seat v r)) (seat_taken (turned Opposite a k) (turn_unchosen Opposite a k) u s ∙ ap (λ (f : ℕ → Stage). staged f s) (opposite_read u a k))
    ∙ ap rest (seat_taken (turned Listen a k) (turn_unchosen Listen a k) v s)
    ∙ ap (λ (f : ℕ → Stage). rest (staged f s)) (λ i x. (listened v (agree k x a) k x ∙ ap (λ (m : ℕ). walked search_at a m x) (sym (add-one k))) i)
    ∙ search_levels n (k + 1) a xs s (omega arith)

-- a command byte and then levels, after a reset
pub commanded : (byte : ℕ) (levels : List Bool) → SilentAll (bits byte) (λ _. Command 0 0) → (s : Seat) → played (Reset ∷ slots (bits byte ++ levels)) s ≡ played (slots levels) (staged (stepped_all (bits byte) (λ _. Command 0 0)) s)
unfolding played
commanded byte levels q s =
    ap (λ (xs : List Signal). played xs (reset_seat s)) (map-append (λ level. Slot level) (bits byte) levels)
    ∙ played_append (slots (bits byte)) (slots levels) (reset_seat s)
    ∙ ap (played (slots levels)) (played_all (bits byte) (λ _. Command 0 0) q s)

pub match_signals_lem : (a : ℕ) → a < 2 ^ 64 → (ss : List Seat) → AllByRecursion (λ s. s.address < 2 ^ 64) ss → map (chosen_by a) ss ≡ map (played (match_signals a)) ss
match_signals_lem a q [] h = refl
match_signals_lem a q (s ∷ ss) h =
    let here = commanded 0x55 (match_levels 64 0 a) command_silent s ∙ match_levels_lem 64 0 a s refl ∙ seat_ends Match a q s h.0 in
    λ i. sym here i ∷ match_signals_lem a q ss h.1 i

pub search_signals_lem : (a : ℕ) → a < 2 ^ 64 → (xs : List ℕ) (ss : List Seat) → AllByRecursion (λ s. s.address < 2 ^ 64) ss → map (chosen_by a) ss ≡ map (played (search_signals a xs)) ss
search_signals_lem a q xs [] h = refl
search_signals_lem a q xs (s ∷ ss) h =
    let here = commanded 0xf0 (walk_levels 64 0 a xs) command_silent s ∙ search_levels 64 0 a xs s refl ∙ seat_ends search_at a q s h.0 in
    λ i. sym here i ∷ search_signals_lem a q xs ss h.1 i
