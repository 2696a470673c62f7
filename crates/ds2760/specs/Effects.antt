-- What writes, recalls and copies come to. Assumes nothing.
use Rattle.std.specs.Prelude.{◌≡◌, ℕ, zero, suc, ◌<◌, true, false, cond, length, pos, negsuc, ◌≤ℤ◌, Some, ◌==◌, bit_and}
use Rattle.ds2760.specs.declared.block.Block.{Block}
use Rattle.ds2760.specs.declared.command.Command.TheVariants.{Copy, Recall}
use Rattle.ds2760.specs.Commands.{block_of, is_locked, asked, ticked}
use Rattle.ds2760.specs.Map.{Place, protection, status, eeprom, feature, voltage, current, amount, temperature, block0, block1, sram, reserved, place_of, eec, flags, held, held_at, written, writable}
use Rattle.ds2760.specs.Runs.{Call, slot, reset, tick, measure, does, half}
use Rattle.ds2760.specs.States.{State, with_lock}

-- a state as a store has it: memory of the right lengths, an amount of 16 bits
pub record Whole (s : State) : Type 0 where
  pub shadow : length s.shadow ≡ 32
  pub eeprom : length s.eeprom ≡ 32
  pub sram : length s.sram ≡ 16
  pub low : negsuc 32767 ≤ℤ s.charge.amount
  pub high : s.charge.amount ≤ℤ pos 32767

-- what is read at an address once b was written there: b, or some of its bits, or what was there
abbrev pub back_at : Place → ℕ → ℕ → State → ℕ
back_at protection a b s = bit_and b 0x03
back_at status a b s = held_at status a s
back_at eeprom a b s = flags (with_lock (bit_and b 0x40 == 0x40) s)
back_at feature a b s = held_at feature a s
back_at voltage a b s = held_at voltage a s
back_at current a b s = held_at current a s
back_at amount a b s = b
back_at temperature a b s = held_at temperature a s
back_at block0 a b s = cond (writable s.locked0 s) b (held_at block0 a s)
back_at block1 a b s = cond (writable s.locked1 s) b (held_at block1 a s)
back_at sram a b s = b
back_at reserved a b s = held_at reserved a s

-- every address reads back what the map says of a write there
abbrev pub WritesReadBack : Type 0
WritesReadBack = (s : State) → Whole s → (a b : ℕ) → b < 256 → held a (written a b s) ≡ back_at (place_of a) a b s

-- a recall that is not ignored makes the shadow block equal to its EEPROM
abbrev pub RecallsRestore : Type 0
RecallsRestore =
    (block : Block) (a : ℕ) (s : State) → Whole s → block_of a ≡ Some block → eec s.copying ≡ false
    → half block (asked Recall a s).shadow ≡ half block s.eeprom

-- a copy that waits begins with a slot or a reset
abbrev pub Starts : Call → Type 0
Starts (slot level) = Unit {0}
Starts reset = Unit {0}
Starts tick = ⊥
Starts (measure m) = ⊥

-- the state n ticks later
abbrev pub ticks : ℕ → State → State
ticks zero s = s
ticks (suc n) s = ticked (ticks n s)

-- what a copy asked for in s comes to, from its start at t on
pub record Completes (block : Block) (s t : State) : Type 0 where
  -- fewer than ten ticks change no EEPROM byte, and EEC is 1
  pub before : (n : ℕ) → n < 10 → ((ticks n t).eeprom ≡ s.eeprom) × (eec (ticks n t).copying ≡ true)
  -- the tenth makes the block equal to its shadow, and EEC is 0
  pub then : (half block (ticks 10 t).eeprom ≡ half block s.shadow) × (eec (ticks 10 t).copying ≡ false)

-- a copy that is not ignored completes
abbrev pub CopiesComplete : Type 0
CopiesComplete =
    (block : Block) (a : ℕ) (s : State) → Whole s → block_of a ≡ Some block → writable (is_locked block s) s ≡ true
    → (c : Call) → Starts c → Completes block s (does c (asked Copy a s))
