-- A pack's one seat. Assumes nothing.
use Rattle.std.specs.Prelude.{ℕ, true, List, Some}
use Rattle.std.specs.Option.{option_map}
use Rattle.ds2760.specs.Commands.{made, ticked, measured}
use Rattle.ds2760.specs.Meaning.{state_of}
use Rattle.ds2760.specs.States.{State}
use Rattle.gauge.specs.declared.measure.Measurement.{Measurement}
use Rattle.line.specs.declared.stage.Stage.TheVariants.{Deaf}
use Rattle.line.specs.Kinds as kinds
use Rattle.line.specs.Seats.{Seat}
use Rattle.pack.specs.declared.Pack.{Pack}

-- all that the pack's store holds
abbrev pub store_of : Pack → State
store_of p = state_of p.store

-- the one seat of a pack: that of a tag, with a store
abbrev pub seat_of : Pack → Seat
seat_of p =
    record {
      address = (kinds.seat_of p.tag).address;
      attached = true;
      stage = (kinds.seat_of p.tag).stage;
      store = Some (store_of p);
    }

-- the seat of a new pack: deaf, with a new store
abbrev pub new_seat : ℕ → List ℕ → Seat
new_seat a bytes = record { address = a; attached = true; stage = Deaf; store = Some (made bytes) }

-- a seat whose store has seen a tick
abbrev pub ticked_seat : Seat → Seat
ticked_seat s = record { address = s.address; attached = s.attached; stage = s.stage; store = option_map ticked s.store }

-- a seat whose store took a measurement
abbrev pub measured_seat : Measurement → Seat → Seat
measured_seat m s = record { address = s.address; attached = s.attached; stage = s.stage; store = option_map (measured m) s.store }
