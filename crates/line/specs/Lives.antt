-- The life of a seat: the calls that reach it, from its making. Assumes nothing.
use Rattle.std.specs.Prelude.{◌≡◌, ℕ, true, cond, List, [], ◌∷◌, ◌++◌, length, Some, None, Option}
use Rattle.std.specs.Option.{option_map}
use Rattle.ds2760.specs.Commands.{slotted, after_reset, ticked, made}
use Rattle.ds2760.specs.Runs.{Call, slot, reset, tick, measure, does, Kept}
use Rattle.ds2760.specs.States.{State}
use Rattle.line.specs.declared.stage.Stage.TheVariants.{Deaf, Command}
use Rattle.line.specs.Seats.{Seat, is_chosen}
use Rattle.line.specs.Stages.{takes}

-- a call that reaches a seat: a slot reaches its store only in the stage chosen
abbrev pub reaches : Call → Seat → Seat
reaches (slot level) s =
    record {
      address = s.address;
      attached = s.attached;
      stage = takes s.address s.stage level;
      store = cond (is_chosen s.stage) (option_map (slotted level) s.store) s.store;
    }
reaches reset s = record { address = s.address; attached = s.attached; stage = Command 0 0; store = option_map after_reset s.store }
reaches tick s = record { address = s.address; attached = s.attached; stage = s.stage; store = option_map ticked s.store }
reaches (measure m) s = record { address = s.address; attached = s.attached; stage = s.stage; store = option_map (does (measure m)) s.store }

-- the seat after the calls that reached it, the first first
unfoldable pub life : List Call → Seat → Seat
life [] s = s
life (c ∷ cs) s = life cs (reaches c s)

-- the calls that reach its store: all but the slots that met it in another stage than chosen
unfoldable pub store_calls : List Call → Seat → List Call
store_calls [] s = []
store_calls (slot level ∷ cs) s = cond (is_chosen s.stage) (slot level ∷ store_calls cs (reaches (slot level) s)) (store_calls cs (reaches (slot level) s))
store_calls (reset ∷ cs) s = reset ∷ store_calls cs (reaches reset s)
store_calls (tick ∷ cs) s = tick ∷ store_calls cs (reaches tick s)
store_calls (measure m ∷ cs) s = measure m ∷ store_calls cs (reaches (measure m) s)

-- the seat of a new tag, or of a new pack with these EEPROM bytes: deaf
abbrev pub deaf_seat : ℕ → Option (List ℕ) → Seat
deaf_seat a eeprom = record { address = a; attached = true; stage = Deaf; store = option_map made eeprom }

-- how a seat came to be what it is: its making, and then the calls that reached it
pub record History : Type 0 where
  pub address : ℕ
  -- the bytes that a pack was made with; a tag has none
  pub eeprom : Option (List ℕ)
  pub calls : List Call

-- the seat as it was made
abbrev pub born : History → Seat
born h = deaf_seat h.address h.eeprom

-- a history that goes on with these calls
abbrev pub longer : History → List Call → History
longer h more = record { address = h.address; eeprom = h.eeprom; calls = h.calls ++ more }

-- a seat as it is by itself, whatever socket is around it
abbrev pub itself : Seat → Seat
itself s = record { address = s.address; attached = true; stage = s.stage; store = s.store }

-- the history leads to the seat
pub record LeadsTo (h : History) (s : Seat) : Type 0 where
  pub sized : (bytes : List ℕ) → h.eeprom ≡ Some bytes → length bytes ≡ 32
  pub state : itself s ≡ life h.calls (born h)

-- what of an earlier point holds still: that of the store, by the calls that reached it since
abbrev pub KeptSeat : List Call → Seat → Seat → Type 0
KeptSeat calls s t = (x y : State) → s.store ≡ Some x → t.store ≡ Some y → Kept (store_calls calls s) x y

-- the seat is what its history makes of it, and keeps what each earlier point had to keep
pub record LawfulHistory (h : History) (s : Seat) : Type 0 where
  pub led : LeadsTo h s
  pub kept : (before later : List Call) → before ++ later ≡ h.calls → KeptSeat later (life before (born h)) s

-- t follows s by these calls: whatever history led to s, with these calls it is lawful at t
pub record FollowsBy (calls : List Call) (s t : Seat) : Type 0 where
  pub lawful : (h : History) → LeadsTo h s → LawfulHistory (longer h calls) t

-- every life is lawful, from its making on
pub record HistoriesAreLawful : Type 0 where
  pub tag : (a : ℕ) (s : Seat) → s ≡ deaf_seat a None → LawfulHistory (record { address = a; eeprom = None; calls = [] }) s
  pub pack : (a : ℕ) (bytes : List ℕ) (s : Seat) → length bytes ≡ 32 → s ≡ deaf_seat a (Some bytes) → LawfulHistory (record { address = a; eeprom = Some bytes; calls = [] }) s
  pub follows : (c : Call) (s t : Seat) → t ≡ reaches c s → FollowsBy (c ∷ []) s t
