-- What a chosen pack does with a slot, and what resets, ticks and measurements do. Assumes nothing.
use Rattle.std.specs.Prelude.{◌≡◌, ℕ, ◌+◌, ◌-◌, ◌/◌, ◌%◌, ◌^◌, min, Bool, true, false, cond, not, ◌&&◌, List, [], ◌∷◌, ◌++◌, take, drop, ℤ, pos, negsuc, ◌*ℤ◌, Some, None, Option, Ok, Err, Result, MatchResult, ◌==◌, bit_and, nat_lt, slice_index}
use Rattle.std.specs.Option.{unwrap_or}
use Rattle.gauge.specs.declared.measure.Measurement.{Measurement}
use Rattle.gauge.specs.Charges.{whole, added}
use Rattle.gauge.specs.Measures.{voltage_count, current_count, temperature_count}
use Rattle.gauge.specs.Registers.{register}
use Rattle.ds2760.specs.declared.block.Block.{Block}
use Rattle.ds2760.specs.declared.block.Block.TheVariants.{Zero, One}
use Rattle.ds2760.specs.declared.command.Command.{Command}
use Rattle.ds2760.specs.declared.command.Command.TheVariants.{Read, Write, Copy, Recall, Lock}
use Rattle.ds2760.specs.declared.command.UnknownOpcode.{UnknownOpcode}
use Rattle.ds2760.specs.declared.partial.Partial.{Partial}
use Rattle.ds2760.specs.declared.progress.Copying.{Copying}
use Rattle.ds2760.specs.declared.progress.Copying.TheVariants.{Waiting, Running}
use Rattle.ds2760.specs.declared.progress.Driven.{Driven}
use Rattle.ds2760.specs.declared.progress.Progress.{Progress}
use Rattle.ds2760.specs.declared.progress.Progress.TheVariants.{Opcode, Address, Reading, Writing, Finished}
use Rattle.ds2760.specs.Map.{Place, protection, status, eeprom, feature, voltage, current, amount, temperature, block0, block1, sram, reserved, place_of, eec, bit_of, held, written, writable}
use Rattle.ds2760.specs.Soundness.{flag_of}
use Rattle.ds2760.specs.States.{State, with_status, with_lock, with_locked0, with_locked1, with_copying, with_registers, with_charge, with_shadow, with_eeprom, with_progress}

-- ---- blocks

-- the block that a place is in
abbrev pub block_at : Place → Option Block
block_at protection = None
block_at status = None
block_at eeprom = None
block_at feature = None
block_at voltage = None
block_at current = None
block_at amount = None
block_at temperature = None
block_at block0 = Some Zero
block_at block1 = Some One
block_at sram = None
block_at reserved = None

-- the block that holds an address, if one does
abbrev pub block_of : ℕ → Option Block
block_of a = block_at (place_of a)

-- the bytes of `into`, but for one block, which is that of `from`
abbrev pub replaced : Block → List ℕ → List ℕ → List ℕ
replaced Zero from into = take 16 from ++ drop 16 into
replaced One from into = take 16 into ++ drop 16 from

-- whether a block is locked
abbrev pub is_locked : Block → State → Bool
is_locked block s = flag_of s.locked0 s.locked1 block

-- bits 5, 4 and 3 of 31h
abbrev pub recalled_status : List ℕ → ℕ
recalled_status bytes = bit_and (slice_index bytes 0x11) 0x38

-- the EEPROM block goes to the shadow, and of block 1 also to 01h
abbrev pub recalled : Block → State → State
recalled Zero s = with_shadow (replaced Zero s.eeprom s.shadow) s
recalled One s = with_status (recalled_status s.eeprom) (with_shadow (replaced One s.eeprom s.shadow) s)

-- the shadow block goes to the EEPROM
abbrev pub copied : Block → State → State
copied block s = with_eeprom (replaced block s.shadow s.eeprom) s

-- the block's flag is set, and LOCK is cleared
abbrev pub locked : Block → State → State
locked Zero s = with_locked0 true (with_lock false s)
locked One s = with_locked1 true (with_lock false s)

-- ---- commands that act on a block

-- a copy waits, unless the block is locked or a copy runs
abbrev pub copy_asked : Block → State → State
copy_asked block s = cond (writable (is_locked block s) s) (with_copying (Some (Waiting block)) s) s

-- a recall, unless a copy runs
abbrev pub recall_asked : Block → State → State
recall_asked block s = cond (eec s.copying) s (recalled block s)

-- a lock, if LOCK is 1 and no copy runs
abbrev pub lock_asked : Block → State → State
lock_asked block s = cond (s.lock && not (eec s.copying)) (locked block s) s

-- outside the blocks they do nothing
abbrev pub within : (Block → State → State) → Option Block → State → State
within f None s = s
within f (Some block) s = f block s

-- ---- slots

-- a byte of which no bit has come
abbrev pub empty : Partial
empty = record { count = 0; bits = 0 }

-- a bit enters at the top and moves the others down, so that after eight the first is the lowest
abbrev pub shifted : Bool → ℕ → ℕ
shifted level bits = bits / 2 + bit_of level 0x80

-- a bit more of a byte: `Ok` and the whole byte, or `Err` and what there is of it so far
abbrev pub pushed : Bool → Partial → Result ℕ Partial
pushed level p = cond (nat_lt p.count 7) (Err (record { count = p.count + 1; bits = shifted level p.bits })) (Ok (shifted level p.bits))

-- the command of an opcode
abbrev pub command_of : ℕ → Option Command
command_of opcode =
    cond (opcode == 0x69) (Some Read)
    (cond (opcode == 0x6c) (Some Write)
    (cond (opcode == 0x48) (Some Copy)
    (cond (opcode == 0xb8) (Some Recall)
    (cond (opcode == 0x6a) (Some Lock) None))))

-- the result is the command of an opcode, or an error with an opcode of none
abbrev pub Decodes : ℕ → Result Command UnknownOpcode → Type 0
Decodes opcode r = MatchResult r (λ command. command_of opcode ≡ Some command) (λ e. (command_of opcode ≡ None) × (e.0 ≡ opcode))

-- what follows an opcode: an address, or nothing where it is unknown
abbrev pub after_opcode : Option Command → Progress
after_opcode None = Finished
after_opcode (Some command) = Address command empty

-- the byte at an address, before its first bit
abbrev pub unread : ℕ → Driven
unread a = record { address = a; count = 0; byte = None }

-- what a command does at the last bit of its address
abbrev pub asked : Command → ℕ → State → State
asked Read a s = with_progress (Reading (unread a)) s
asked Write a s = with_progress (Writing a empty) s
asked Copy a s = within copy_asked (block_of a) (with_progress Finished s)
asked Recall a s = within recall_asked (block_of a) (with_progress Finished s)
asked Lock a s = within lock_asked (block_of a) (with_progress Finished s)

-- the address after a byte; it rises to one past FFh
abbrev pub next_of : ℕ → ℕ
next_of a = min (a + 1) 256

-- the byte that is read: from its first bit's slot on it is fixed
abbrev pub read_byte : Driven → State → ℕ
read_byte d s = unwrap_or d.byte (held d.address s)

-- a bit more of an opcode, or the whole of it, here and below
abbrev pub opcode_taken : Result ℕ Partial → State → State
opcode_taken (Err partial) s = with_progress (Opcode partial) s
opcode_taken (Ok opcode) s = with_progress (after_opcode (command_of opcode)) s

-- a bit more of an address
abbrev pub address_taken : Command → Result ℕ Partial → State → State
address_taken command (Err partial) s = with_progress (Address command partial) s
address_taken command (Ok a) s = asked command a s

-- a bit of a byte read has passed
abbrev pub read_on : Driven → State → State
read_on d s =
    with_progress
    (cond (nat_lt d.count 7) (Reading (record { address = d.address; count = d.count + 1; byte = Some (read_byte d s) })) (Reading (unread (next_of d.address))))
    s

-- a bit more of a byte to write; with its last bit it is written
abbrev pub data_taken : ℕ → Result ℕ Partial → State → State
data_taken a (Err partial) s = with_progress (Writing a partial) s
data_taken a (Ok b) s = with_progress (Writing (next_of a) empty) (written a b s)

-- a slot's level, by how far the command has come
abbrev pub taken : Progress → Bool → State → State
taken (Opcode partial) level s = opcode_taken (pushed level partial) s
taken (Address command partial) level s = address_taken command (pushed level partial) s
taken (Reading driven) level s = read_on driven s
taken (Writing a partial) level s = data_taken a (pushed level partial) s
taken Finished level s = s

-- a copy that waits begins: EEC is 1, and ten ticks are to come
abbrev pub begun : Option Copying → Option Copying
begun None = None
begun (Some (Waiting block)) = Some (Running block 10)
begun (Some (Running block ticks)) = Some (Running block ticks)

abbrev pub started : State → State
started s = with_copying (begun s.copying) s

-- the state after a slot
abbrev pub slotted : Bool → State → State
slotted level s = taken s.progress level (started s)

-- what a chosen pack drives
abbrev pub drives_by : Progress → State → Bool
drives_by (Opcode partial) s = true
drives_by (Address command partial) s = true
drives_by (Reading d) s = read_byte d s / 2 ^ d.count % 2 == 1
drives_by (Writing a partial) s = true
drives_by Finished s = true

abbrev pub drives : State → Bool
drives s = drives_by s.progress s

-- ---- resets, ticks, measurements, making

-- the state after a reset: a waiting copy begins, and an opcode comes next
abbrev pub after_reset : State → State
after_reset s = with_progress (Opcode empty) (started s)

-- a copy that runs has a tick less to come, and with the last one it is made
abbrev pub ticked_by : Option Copying → State → State
ticked_by None s = s
ticked_by (Some (Waiting block)) s = s
ticked_by (Some (Running block ticks)) s =
    cond (ticks == 1) (with_copying None (copied block s)) (with_copying (Some (Running block (ticks - 1))) s)

abbrev pub ticked : State → State
ticked s = ticked_by s.copying s

-- a byte as a signed number
abbrev pub signed : ℕ → ℤ
signed b = cond (nat_lt b 128) (pos b) (negsuc (255 - b))

-- the bias: the signed shadow byte at 33h
abbrev pub bias_of : State → ℤ
bias_of s = signed (slice_index s.shadow 0x13)

-- the current count of a measurement
abbrev pub current_in : Measurement → State → ℤ
current_in m s = current_count m.sense_voltage (bias_of s)

-- the state after a measurement in range
abbrev pub measured : Measurement → State → State
measured m s =
    with_registers
    (register (voltage_count m.cell_voltage *ℤ pos 32))
    (register (current_in m s *ℤ pos 8))
    (register (temperature_count m.temperature *ℤ pos 32))
    (with_charge (added (current_in m s) s.charge) s)

-- a new store: both blocks are recalled, and all else is 0
abbrev pub made : List ℕ → State
made bytes =
    record {
      protection = 0;
      status = recalled_status bytes;
      lock = false;
      locked0 = false;
      locked1 = false;
      copying = None;
      voltage = 0 ∷ 0 ∷ [];
      current = 0 ∷ 0 ∷ [];
      temperature = 0 ∷ 0 ∷ [];
      charge = whole (pos 0);
      shadow = bytes;
      eeprom = bytes;
      sram = 0 ∷ 0 ∷ 0 ∷ 0 ∷ 0 ∷ 0 ∷ 0 ∷ 0 ∷ 0 ∷ 0 ∷ 0 ∷ 0 ∷ 0 ∷ 0 ∷ 0 ∷ 0 ∷ [];
      progress = Opcode empty;
    }
