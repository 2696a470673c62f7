-- What a match leaves on a line. Assumes nothing.
use Rattle.std.specs.Prelude.{ℕ, cond, ◌==◌}
use Rattle.std.specs.Option.{option_map}
use Rattle.ds2760.specs.Commands.{after_reset}
use Rattle.line.specs.declared.stage.Stage.{Stage}
use Rattle.line.specs.declared.stage.Stage.TheVariants.{Deaf, Chosen}
use Rattle.line.specs.Seats.{Seat}

-- a seat after a reset and then slots that did not reach its store: its stage goes by its address
abbrev pub staged : (ℕ → Stage) → Seat → Seat
staged f s =
    record {
      address = s.address;
      attached = s.attached;
      stage = cond s.attached (f s.address) s.stage;
      store = cond s.attached (option_map after_reset s.store) s.store;
    }

-- the seats with address a are chosen, and all others are deaf
abbrev pub chosen_by : ℕ → Seat → Seat
chosen_by a s = staged (λ x. cond (x == a) Chosen Deaf) s
