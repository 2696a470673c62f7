-- Bits that the master sends; reading a bit is sending 1. Assumes nothing.
use Rattle.std.specs.Prelude.{◌≡◌, ℕ, zero, suc, ◌+◌, ◌*◌, Bool, true, ◌&&◌, List, [], ◌∷◌, map}
use Rattle.address.specs.CheckByte.{one}
use Rattle.line.specs.Seats.{Seat, drives_line, takes_seat}

-- the seats after a bit is sent: the level is the bit, unless a seat drives 0
abbrev pub sent_bit : Bool → List Seat → List Seat
sent_bit b ss = map (takes_seat (b && drives_line ss)) ss

-- the seats after bits are sent, the first first
unfoldable pub sent : List Bool → List Seat → List Seat
sent [] ss = ss
sent (b ∷ bs) ss = sent bs (sent_bit b ss)

-- nothing drives 0 while these bits are sent
unfoldable pub Quiet : List Bool → List Seat → Type 0
Quiet [] ss = Unit {0}
Quiet (b ∷ bs) ss = (drives_line ss ≡ true) × Quiet bs (map (takes_seat b) ss)

-- the seats after n bits are read
unfoldable pub read_on : ℕ → List Seat → List Seat
read_on zero ss = ss
read_on (suc n) ss = read_on n (sent_bit true ss)

-- n bits that are read, as a number: the first is the lowest
unfoldable pub read_value : ℕ → List Seat → ℕ
read_value zero ss = 0
read_value (suc n) ss = one (drives_line ss) + 2 * read_value n (sent_bit true ss)
