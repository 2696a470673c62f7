-- The seats of a string follow each other, each by its own calls. Assumes nothing.
use Rattle.std.proofs.Common.{◌≡◌, ℕ, Bool, true, false, List, [], ◌∷◌, ◌++◌, map, Option, sym, refl, ap, ◌∙◌, subst}
use Rattle.std.proofs.lemmas.Bool.{both_ways}
use Rattle.ds2760.specs.Runs.{Call}
use Rattle.ds2760.specs.States.{State}
use Rattle.line.specs.declared.signal.Signal.{Signal}
use Rattle.line.specs.declared.signal.Signal.TheVariants.{Reset, Slot}
use Rattle.line.specs.declared.stage.Stage.{Stage}
use Rattle.line.specs.Lives.{life, itself, FollowsBy}
use Rattle.line.specs.Seats.{Seat, reset_seat, off, through}
use Rattle.line.specs.Signals.{signalled, played}
use Rattle.line.specs.Strings.{FollowEach, none, more, call_of, reaching, nothing, and_then, attaching, StringsFollow, SocketFollows, SocketsFollow}
use Rattle.line.proofs.Lives.{life_none, follows_by, follows_around, follows_on}

-- a seat that is on takes signals as the calls that they are
played_on : (xs : List Signal) (a : ℕ) (st : Stage) (o : Option State) → itself (played xs (record { address = a; attached = true; stage = st; store = o })) ≡ life (map call_of xs) (record { address = a; attached = true; stage = st; store = o })
unfolding played life
played_on [] a st o = refl
played_on (Reset ∷ xs) a st o =
    let s = signalled Reset (record { address = a; attached = true; stage = st; store = o }) in played_on xs a s.stage s.store
played_on (Slot level ∷ xs) a st o =
    let s = signalled (Slot level) (record { address = a; attached = true; stage = st; store = o }) in played_on xs a s.stage s.store

-- one that is off takes none
played_off : (xs : List Signal) (a : ℕ) (st : Stage) (o : Option State) → played xs (record { address = a; attached = false; stage = st; store = o }) ≡ record { address = a; attached = false; stage = st; store = o }
unfolding played
played_off [] a st o = refl
played_off (Reset ∷ xs) a st o = played_off xs a st o
played_off (Slot level ∷ xs) a st o = played_off xs a st o

signals_follow : (xs : List Signal) (a : ℕ) (t : Bool) (st : Stage) (o : Option State) → let s : Seat = record { address = a; attached = t; stage = st; store = o } in FollowsBy (reaching xs s) s (played xs s)
signals_follow xs a true st o =
    let s : Seat = record { address = a; attached = true; stage = st; store = o } in follows_by (map call_of xs) s (played xs s) (played_on xs a st o)
signals_follow xs a false st o =
    let s : Seat = record { address = a; attached = false; stage = st; store = o } in
    follows_by [] s (played xs s) (ap itself (played_off xs a st o) ∙ sym (life_none (itself s)))

each_signal : (xs : List Signal) (ss : List Seat) → FollowEach (map (reaching xs) ss) ss (map (played xs) ss)
each_signal xs [] = none
each_signal xs (s ∷ ss) = more (signals_follow xs s.address s.attached s.stage s.store) (each_signal xs ss)

left_alone : (s : Seat) → FollowsBy [] s s
left_alone s = follows_by [] s s (sym (life_none (itself s)))

each_still : (ss : List Seat) → FollowEach (nothing ss) ss ss
each_still [] = none
each_still (s ∷ ss) = more (left_alone s) (each_still ss)

each_pair : {cs ds : List (List Call)} {ss tt uu vv : List Seat} → FollowEach cs ss tt → FollowEach ds uu vv → FollowEach (cs ++ ds) (ss ++ uu) (tt ++ vv)
each_pair none g = g
each_pair (more f fs) g = more f (each_pair fs g)

-- what is around a seat makes no difference
each_around : (b c : Bool) {cs : List (List Call)} {ss tt : List Seat} → FollowEach cs ss tt → FollowEach cs (through b ss) (through c tt)
each_around true true f = f
each_around true false none = none
each_around true false (more {calls} {s} {t} f fs) = more (follows_around calls s t s (off t) refl refl f) (each_around true false fs)
each_around false true none = none
each_around false true (more {calls} {s} {t} f fs) = more (follows_around calls s t (off s) t refl refl f) (each_around false true fs)
each_around false false none = none
each_around false false (more {calls} {s} {t} f fs) = more (follows_around calls s t (off s) (off t) refl refl f) (each_around false false fs)

each_then : {cs ds : List (List Call)} {ss tt uu : List Seat} → FollowEach cs ss tt → FollowEach ds tt uu → FollowEach (and_then cs ds) ss uu
each_then none none = none
each_then (more {calls} {s} {t} f fs) (more {calls = ds} {t = u} g gs) = more (follows_on calls ds s t u f g) (each_then fs gs)

pub signals_followed : (xs : List Signal) (ss tt : List Seat) → tt ≡ map (played xs) ss → FollowEach (map (reaching xs) ss) ss tt
signals_followed xs ss after e = subst (λ (l : List Seat). FollowEach (map (reaching xs) ss) ss l) (sym e) (each_signal xs ss)

pub strings_follow : StringsFollow
strings_follow =
    record {
      signals = signals_followed;
      still = λ ss after e. subst (λ (l : List Seat). FollowEach (nothing ss) ss l) (sym e) (each_still ss);
      pair = λ cs ds ss ss' rr rr' f g. each_pair f g;
      socket = λ b c cs ss after f. each_around b c f;
      and_then = λ cs ds ss mid after f g. each_then f g;
    }

-- ---- sockets

played_one : (x : Signal) (ss : List Seat) → map (signalled x) ss ≡ map (played (x ∷ [])) ss
unfolding played
played_one x ss = refl

pub attached_by : (b : Bool) (ss tt : List Seat) → b ≡ false → tt ≡ map reset_seat ss → SocketFollows b true (map (attaching b) ss) ss tt
attached_by true ss after e r = absurd (both_ways true e refl)
attached_by false ss after e r =
    let reset : FollowEach (map (reaching (Reset ∷ [])) ss) ss after = strings_follow.signals (Reset ∷ []) ss after (r ∙ played_one Reset ss) in
    record { each = strings_follow.socket false true (map (reaching (Reset ∷ [])) ss) ss after reset }

pub already_by : (b : Bool) (ss : List Seat) → b ≡ true → SocketFollows b b (map (attaching b) ss) ss ss
already_by true ss e = record { each = unreached ss }
  where
    unreached : (ss : List Seat) → FollowEach (map (attaching true) ss) ss ss
    unreached [] = none
    unreached (s ∷ ss) = more (left_alone s) (unreached ss)
already_by false ss e = absurd (both_ways false refl e)

unmoved_by : (b c : Bool) (ss : List Seat) → SocketFollows b c (nothing ss) ss ss
unmoved_by b c ss = record { each = strings_follow.socket b c (nothing ss) ss ss (strings_follow.still ss ss refl) }

pub detached_by : (b : Bool) (ss : List Seat) → b ≡ true → SocketFollows b false (nothing ss) ss ss
detached_by b ss e = unmoved_by b false ss

pub off_by : (b : Bool) (ss : List Seat) → b ≡ false → SocketFollows b b (nothing ss) ss ss
off_by b ss e = unmoved_by b b ss

pub sockets_follow : SocketsFollow
sockets_follow = record { attached = attached_by; already = already_by; detached = λ b ss e. unmoved_by b false ss; off = λ b ss e. unmoved_by b b ss }
