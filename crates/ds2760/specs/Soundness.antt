-- What holds of a store's parts at any time. Assumes nothing.
use Rattle.std.specs.Prelude.{ℕ, Bool, true, false, not, ◌&&◌, ◌==◌, None, Some, Option, nat_le, nat_lt}
use Rattle.ds2760.specs.declared.block.Block.{Block}
use Rattle.ds2760.specs.declared.block.Block.TheVariants.{Zero, One}
use Rattle.ds2760.specs.declared.block.Locks.{Locks}
use Rattle.ds2760.specs.declared.progress.Copying.{Copying}
use Rattle.ds2760.specs.declared.progress.Copying.TheVariants.{Waiting, Running}
use Rattle.ds2760.specs.declared.progress.Progress.{Progress}
use Rattle.ds2760.specs.declared.progress.Progress.TheVariants.{Opcode, Address, Reading, Writing, Finished}

-- a byte that is read is fixed just when its first bit has passed
abbrev pub fixed : Option ℕ → ℕ → Bool
fixed None count = count == 0
fixed (Some byte) count = nat_lt 0 count

-- fewer than eight bits have come of the byte under way, and an address is at most one past FFh
abbrev pub underway : Progress → Bool
underway (Opcode partial) = nat_lt partial.count 8
underway (Address command partial) = nat_lt partial.count 8
underway (Reading driven) = nat_lt driven.count 8 && nat_le driven.address 256 && fixed driven.byte driven.count
underway (Writing address partial) = nat_lt partial.count 8 && nat_le address 256
underway Finished = true

-- the flag of a block, of the two
abbrev pub flag_of : Bool → Bool → Block → Bool
flag_of locked0 locked1 Zero = locked0
flag_of locked0 locked1 One = locked1

-- the flags, with that of a block set
abbrev pub with_flag : Block → Locks → Locks
with_flag Zero locks = record { zero = true; one = locks.one }
with_flag One locks = record { zero = locks.zero; one = true }

-- a block that waits for its copy or is copied is not locked, and a copy has from one to ten ticks to go
abbrev pub copies : Bool → Bool → Option Copying → Bool
copies locked0 locked1 None = true
copies locked0 locked1 (Some (Waiting block)) = not (flag_of locked0 locked1 block)
copies locked0 locked1 (Some (Running block ticks)) = not (flag_of locked0 locked1 block) && (nat_le 1 ticks && nat_le ticks 10)

-- a copy waits for its start
abbrev pub waits : Option Copying → Bool
waits None = false
waits (Some (Waiting block)) = true
waits (Some (Running block ticks)) = false
