-- The seats of a line, and what the three calls do to them. Assumes nothing.
use Rattle.std.specs.Prelude.{ℕ, Bool, true, false, cond, ◌&&◌, ◌||◌, List, [], ◌∷◌, map, Some, None, Option}
use Rattle.std.specs.Option.{option_map}
use Rattle.ds2760.specs.Commands.{slotted, drives, after_reset}
use Rattle.ds2760.specs.States.{State}
use Rattle.line.specs.declared.presence.Presence.{Presence}
use Rattle.line.specs.declared.presence.Presence.TheVariants.{Present, Empty}
use Rattle.line.specs.declared.stage.Stage.{Stage}
use Rattle.line.specs.declared.stage.Stage.TheVariants.{Deaf, Command, Search, Match, Tell, Chosen}
use Rattle.line.specs.Stages.{drives_stage, takes}

-- one place on a line: a tag has no store, a pack has one
pub record Seat : Type 0 where
  pub address : ℕ
  -- every socket around it is attached
  pub attached : Bool
  pub stage : Stage
  pub store : Option State

-- whether a stage is chosen
abbrev pub is_chosen : Stage → Bool
is_chosen Deaf = false
is_chosen (Command count bits) = false
is_chosen (Search k turn) = false
is_chosen (Match k) = false
is_chosen (Tell k) = false
is_chosen Chosen = true

-- what a store drives, if there is one
abbrev pub drives_store : Option State → Bool
drives_store None = true
drives_store (Some s) = drives s

-- the level that a seat drives; a seat that is off drives nothing
abbrev pub drives_seat : Seat → Bool
drives_seat s = cond s.attached (cond (is_chosen s.stage) (drives_store s.store) (drives_stage s.address s.stage)) true

-- a seat takes a level; its store takes it only when the seat is chosen
abbrev pub takes_seat : Bool → Seat → Seat
takes_seat level s =
    record {
      address = s.address;
      attached = s.attached;
      stage = cond s.attached (takes s.address s.stage level) s.stage;
      store = cond (s.attached && is_chosen s.stage) (option_map (slotted level) s.store) s.store;
    }

-- a seat takes a reset
abbrev pub reset_seat : Seat → Seat
reset_seat s =
    record {
      address = s.address;
      attached = s.attached;
      stage = cond s.attached (Command 0 0) s.stage;
      store = cond s.attached (option_map after_reset s.store) s.store;
    }

-- a seat inside a detached socket
abbrev pub off : Seat → Seat
off s = record { address = s.address; attached = false; stage = s.stage; store = s.store }

-- a line drives 0 when some seat does
abbrev pub drives_line : List Seat → Bool
drives_line [] = true
drives_line (s ∷ ss) = drives_seat s && drives_line ss

-- some seat is on the line
abbrev pub occupied : List Seat → Bool
occupied [] = false
occupied (s ∷ ss) = s.attached || occupied ss

-- the answer to a reset
abbrev pub presence : Bool → Presence
presence true = Present
presence false = Empty

-- the seats of a line behind a socket
abbrev pub through : Bool → List Seat → List Seat
through attached ss = cond attached ss (map off ss)
