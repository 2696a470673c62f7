-- Seats that a reset has reached, and then slots that did not reach their stores. Assumes nothing.
use Rattle.std.proofs.Common.{◌≡◌, ℕ, Bool, true, false, ◌&&◌, List, [], ◌∷◌, map, Option, refl, ap, ◌∙◌}
use Rattle.std.specs.Option.{option_map}
use Rattle.std.proofs.lemmas.Bool.{cond-false, and_from}
use Rattle.ds2760.specs.Commands.{slotted, after_reset}
use Rattle.ds2760.specs.States.{State}
use Rattle.line.specs.declared.stage.Stage.{Stage}
use Rattle.line.specs.declared.stage.Stage.TheVariants.{Command}
use Rattle.line.specs.Matching.{staged}
use Rattle.line.specs.Seats.{Seat, is_chosen, drives_seat, drives_line, takes_seat, reset_seat}
use Rattle.line.specs.Sending.{sent_bit, sent, Quiet}
use Rattle.line.specs.Signals.{played, slots}
use Rattle.line.specs.Stages.{drives_stage, takes}

-- no slot reaches a store
abbrev pub Unchosen : (ℕ → Stage) → Type 0
Unchosen f = (x : ℕ) → is_chosen (f x) ≡ false

-- nothing is driven
abbrev pub Silent : (ℕ → Stage) → Type 0
Silent f = (x : ℕ) → drives_stage x (f x) ≡ true

-- the stages after a level
abbrev pub stepped : Bool → (ℕ → Stage) → ℕ → Stage
stepped b f x = takes x (f x) b

and_true : (b : Bool) → (b && true) ≡ b
and_true true = refl
and_true false = refl

silent_at : (f : ℕ → Stage) → Unchosen f → Silent f → (a : ℕ) (t : Bool) (st : Stage) (o : Option State) → drives_seat (staged f (record { address = a; attached = t; stage = st; store = o })) ≡ true
silent_at f u h a true st o = cond-false (is_chosen (f a)) _ (drives_stage a (f a)) (u a) ∙ h a
silent_at f u h a false st o = refl

pub line_silent : (f : ℕ → Stage) → Unchosen f → Silent f → (ss : List Seat) → drives_line (map (staged f) ss) ≡ true
line_silent f u h [] = refl
line_silent f u h (s ∷ ss) = and_from _ _ (silent_at f u h s.address s.attached s.stage s.store) (line_silent f u h ss)

taken_at : (f : ℕ → Stage) → Unchosen f → (b : Bool) (a : ℕ) (t : Bool) (st : Stage) (o : Option State) → takes_seat b (staged f (record { address = a; attached = t; stage = st; store = o })) ≡ staged (stepped b f) (record { address = a; attached = t; stage = st; store = o })
taken_at f u b a true st o =
    let kept = cond-false (is_chosen (f a)) (option_map (slotted b) (option_map after_reset o)) (option_map after_reset o) (u a) in
    λ i. record { address = a; attached = true; stage = takes a (f a) b; store = kept i }
taken_at f u b a false st o = refl

-- one seat takes a level
pub seat_taken : (f : ℕ → Stage) → Unchosen f → (b : Bool) (s : Seat) → takes_seat b (staged f s) ≡ staged (stepped b f) s
seat_taken f u b s = taken_at f u b s.address s.attached s.stage s.store

-- all do
pub all_taken : (f : ℕ → Stage) → Unchosen f → (b : Bool) (ss : List Seat) → map (takes_seat b) (map (staged f) ss) ≡ map (staged (stepped b f)) ss
all_taken f u b [] = refl
all_taken f u b (s ∷ ss) = λ i. seat_taken f u b s i ∷ all_taken f u b ss i

-- a bit that is sent while nothing is driven is taken as sent
pub sent_staged : (f : ℕ → Stage) → Unchosen f → Silent f → (b : Bool) (ss : List Seat) → sent_bit b (map (staged f) ss) ≡ map (staged (stepped b f)) ss
sent_staged f u h b ss =
    ap (λ (l : Bool). map (takes_seat l) (map (staged f) ss)) (ap (λ (d : Bool). b && d) (line_silent f u h ss) ∙ and_true b) ∙ all_taken f u b ss

-- ---- bits in a row

-- the stages after levels
abbrev pub stepped_all : List Bool → (ℕ → Stage) → ℕ → Stage
stepped_all [] f = f
stepped_all (b ∷ bs) f = stepped_all bs (stepped b f)

-- no slot reaches a store, and nothing is driven, while these levels come
abbrev pub SilentAll : List Bool → (ℕ → Stage) → Type 0
SilentAll [] f = Unit {0}
SilentAll (b ∷ bs) f = Unchosen f × Silent f × SilentAll bs (stepped b f)

pub sent_all : (bs : List Bool) (f : ℕ → Stage) → SilentAll bs f → (ss : List Seat) → sent bs (map (staged f) ss) ≡ map (staged (stepped_all bs f)) ss
unfolding sent
sent_all [] f h ss = refl
sent_all (b ∷ bs) f h ss = ap (sent bs) (sent_staged f h.0 h.1 b ss) ∙ sent_all bs (stepped b f) h.2 ss

pub played_all : (bs : List Bool) (f : ℕ → Stage) → SilentAll bs f → (s : Seat) → played (slots bs) (staged f s) ≡ staged (stepped_all bs f) s
unfolding played
played_all [] f h s = refl
played_all (b ∷ bs) f h s = ap (played (slots bs)) (seat_taken f h.0 b s) ∙ played_all bs (stepped b f) h.2 s

-- bits that are sent while nothing drives 0 are taken as sent
pub taken_as_sent : (bs : List Bool) (ss : List Seat) → Quiet bs ss → sent bs ss ≡ map (played (slots bs)) ss
unfolding sent played Quiet
taken_as_sent [] ss q = unchanged ss
  where
    unchanged : (ss : List Seat) → ss ≡ map (played []) ss
    unchanged [] = refl
    unchanged (s ∷ ss) = ap (λ (l : List Seat). s ∷ l) (unchanged ss)
taken_as_sent (b ∷ bs) ss q =
    ap (λ (l : Bool). sent bs (map (takes_seat l) ss)) (ap (λ (d : Bool). b && d) q.0 ∙ and_true b)
    ∙ taken_as_sent bs (map (takes_seat b) ss) q.1
    ∙ again ss
  where
    again : (ss : List Seat) → map (played (slots bs)) (map (takes_seat b) ss) ≡ map (played (slots (b ∷ bs))) ss
    again [] = refl
    again (s ∷ ss) = ap (λ (l : List Seat). played (slots bs) (takes_seat b s) ∷ l) (again ss)

-- a reset
pub reset_staged : (ss : List Seat) → map reset_seat ss ≡ map (staged (λ _. Command 0 0)) ss
reset_staged [] = refl
reset_staged (s ∷ ss) = ap (λ (l : List Seat). reset_seat s ∷ l) (reset_staged ss)
