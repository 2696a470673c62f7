-- Whole runs of calls on a store, from its making. Assumes nothing.
use Rattle.std.specs.Prelude.{◌≡◌, ℕ, Bool, true, false, cond, List, [], ◌∷◌, ◌++◌, length, take, drop}
use Rattle.gauge.specs.declared.measure.Measurement.{Measurement}
use Rattle.gauge.specs.Measures.{in_range}
use Rattle.ds2760.specs.declared.block.Block.{Block}
use Rattle.ds2760.specs.declared.block.Block.TheVariants.{Zero, One}
use Rattle.ds2760.specs.Commands.{is_locked, slotted, after_reset, ticked, measured, made}
use Rattle.ds2760.specs.States.{State}

-- a call on a store
pub data Call : Type 0 where
  slot : Bool → Call
  reset : Call
  tick : Call
  measure : Measurement → Call

-- the state after a call; a measurement out of range changes nothing
abbrev pub does : Call → State → State
does (slot level) s = slotted level s
does reset s = after_reset s
does tick s = ticked s
does (measure m) s = cond (in_range m) (measured m s) s

-- the state after calls, the first first
unfoldable pub run : List Call → State → State
run [] s = s
run (c ∷ cs) s = run cs (does c s)

-- no slot is among the calls
abbrev pub slotless : List Call → Bool
slotless [] = true
slotless (slot level ∷ cs) = false
slotless (reset ∷ cs) = slotless cs
slotless (tick ∷ cs) = slotless cs
slotless (measure m ∷ cs) = slotless cs

-- the bytes of a block
abbrev pub half : Block → List ℕ → List ℕ
half Zero bytes = take 16 bytes
half One bytes = drop 16 bytes

-- what of a state s holds still in t, which the calls lead to
pub record Kept (calls : List Call) (s t : State) : Type 0 where
  -- the EEPROM of a block that was locked
  pub eeprom : (block : Block) → is_locked block s ≡ true → half block t.eeprom ≡ half block s.eeprom
  -- where no slot came, the shadow, the SRAM and the lock flags
  pub shadow : slotless calls ≡ true → t.shadow ≡ s.shadow
  pub sram : slotless calls ≡ true → t.sram ≡ s.sram
  pub flags : slotless calls ≡ true → (t.locked0 ≡ s.locked0) × (t.locked1 ≡ s.locked1) × (t.lock ≡ s.lock)

-- s is what these calls make of a new store, and keeps what each earlier point had to keep
pub record Lawful (bytes : List ℕ) (calls : List Call) (s : State) : Type 0 where
  pub state : s ≡ run calls (made bytes)
  pub kept : (before later : List Call) → before ++ later ≡ calls → Kept later (run before (made bytes)) s

-- t follows s by a call: whatever run led to s, with this call it is lawful at t
pub record Follows (c : Call) (s t : State) : Type 0 where
  pub lawful : (bytes : List ℕ) (calls : List Call) → length bytes ≡ 32 → s ≡ run calls (made bytes) → Lawful bytes (calls ++ c ∷ []) t

-- every call follows, from the making on
pub record RunsAreLawful : Type 0 where
  pub makes : (bytes : List ℕ) (s : State) → length bytes ≡ 32 → s ≡ made bytes → Lawful bytes [] s
  pub follows : (c : Call) (s t : State) → t ≡ does c s → Follows c s t
