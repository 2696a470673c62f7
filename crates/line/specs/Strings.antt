-- The seats of a string, each with its own life. Assumes nothing.
use Rattle.std.specs.Prelude.{◌≡◌, Bool, true, false, cond, List, [], ◌∷◌, ◌++◌, map}
use Rattle.ds2760.specs.Runs.{Call, slot, reset}
use Rattle.line.specs.declared.signal.Signal.{Signal}
use Rattle.line.specs.declared.signal.Signal.TheVariants.{Reset, Slot}
use Rattle.line.specs.Lives.{FollowsBy}
use Rattle.line.specs.Seats.{Seat, reset_seat, through}
use Rattle.line.specs.Signals.{played}

-- each seat of tt follows the one at its place in ss, by its own calls
pub data FollowEach : List (List Call) → List Seat → List Seat → Type 0 where
  none : FollowEach [] [] []
  more : {calls : List Call} {s t : Seat} {rest : List (List Call)} {ss tt : List Seat} → FollowsBy calls s t → FollowEach rest ss tt → FollowEach (calls ∷ rest) (s ∷ ss) (t ∷ tt)

-- a signal as the call that a seat takes it for
abbrev pub call_of : Signal → Call
call_of Reset = reset
call_of (Slot level) = slot level

-- what reaches a seat of the signals that its line is given: all of them where it is on, else none
abbrev pub reaching : List Signal → Seat → List Call
reaching signals s = cond s.attached (map call_of signals) []

-- nothing reaches any of these seats
abbrev pub nothing : List Seat → List (List Call)
nothing [] = []
nothing (s ∷ ss) = [] ∷ nothing ss

-- what reaches each seat first, and then what reaches it after that
abbrev pub and_then : List (List Call) → List (List Call) → List (List Call)
and_then [] later = []
and_then (c ∷ cs) [] = []
and_then (c ∷ cs) (d ∷ ds) = (c ++ d) ∷ and_then cs ds

-- what attaching a socket gives a seat of its line: a reset, or nothing where the socket is attached already
abbrev pub attaching : Bool → Seat → List Call
attaching true s = []
attaching false s = reaching (Reset ∷ []) s

-- how the seats of a string follow each other, whatever string it is
pub record StringsFollow : Type 0 where
  -- a line that is given signals
  pub signals : (signals : List Signal) (ss tt : List Seat) → tt ≡ map (played signals) ss → FollowEach (map (reaching signals) ss) ss tt
  -- a line that is left alone
  pub still : (ss tt : List Seat) → tt ≡ ss → FollowEach (nothing ss) ss tt
  -- a pair, by its two lines
  pub pair : (cs ds : List (List Call)) (ss tt uu vv : List Seat) → FollowEach cs ss tt → FollowEach ds uu vv → FollowEach (cs ++ ds) (ss ++ uu) (tt ++ vv)
  -- a socket, attached or not before and after, by its line
  pub socket : (before after : Bool) (cs : List (List Call)) (ss tt : List Seat) → FollowEach cs ss tt → FollowEach cs (through before ss) (through after tt)
  -- one thing after the other
  pub and_then : (cs ds : List (List Call)) (ss tt uu : List Seat) → FollowEach cs ss tt → FollowEach ds tt uu → FollowEach (and_then cs ds) ss uu

-- the seats of a socket follow each other, attached or not before and after, each by its own calls
pub record SocketFollows (before after : Bool) (calls : List (List Call)) (ss tt : List Seat) : Type 0 where
  pub each : FollowEach calls (through before ss) (through after tt)

-- how the seats of a socket follow each other when it is attached or detached
pub record SocketsFollow : Type 0 where
  pub attached : (before : Bool) (ss tt : List Seat) → before ≡ false → tt ≡ map reset_seat ss → SocketFollows before true (map (attaching before) ss) ss tt
  pub already : (before : Bool) (ss : List Seat) → before ≡ true → SocketFollows before before (map (attaching before) ss) ss ss
  pub detached : (before : Bool) (ss : List Seat) → before ≡ true → SocketFollows before false (nothing ss) ss ss
  pub off : (before : Bool) (ss : List Seat) → before ≡ false → SocketFollows before before (nothing ss) ss ss
