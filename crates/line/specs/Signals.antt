-- What a master gives a line, and what the seats make of it. Assumes nothing.
use Rattle.std.specs.Prelude.{Bool, List, [], ◌∷◌, map}
use Rattle.line.specs.declared.signal.Signal.{Signal}
use Rattle.line.specs.declared.signal.Signal.TheVariants.{Reset, Slot}
use Rattle.line.specs.Seats.{Seat, takes_seat, reset_seat}

-- a seat after a signal
abbrev pub signalled : Signal → Seat → Seat
signalled Reset s = reset_seat s
signalled (Slot level) s = takes_seat level s

-- a seat after signals, the first first
unfoldable pub played : List Signal → Seat → Seat
played [] s = s
played (x ∷ xs) s = played xs (signalled x s)

-- slots with these levels
abbrev pub slots : List Bool → List Signal
slots levels = map (λ level. Slot level) levels
