-- The seats of each kind of line. Assumes nothing.
use Rattle.std.specs.Prelude.{ℕ, true, None}
use Rattle.address.specs.Parts.{number}
use Rattle.line.specs.declared.stage.Stage.TheVariants.{Deaf}
use Rattle.line.specs.declared.tag.Tag.{Tag}
use Rattle.line.specs.Seats.{Seat}

-- the one seat of a tag
abbrev pub seat_of : Tag → Seat
seat_of t = record { address = number t.address; attached = true; stage = t.stage; store = None }

-- the seat of a new tag: deaf, with no store
abbrev pub new_seat : ℕ → Seat
new_seat a = record { address = a; attached = true; stage = Deaf; store = None }
