-- What a store holds. Assumes nothing.
use Rattle.std.specs.Prelude.{ℕ, Bool, List, Option}
use Rattle.gauge.specs.Charges.{Charge}
use Rattle.ds2760.specs.declared.progress.Copying.{Copying}
use Rattle.ds2760.specs.declared.progress.Progress.{Progress}

pub record State : Type 0 where
  -- 00h: CE and DE, bits 1 and 0
  pub protection : ℕ
  -- 01h: bits 5, 4 and 3 of 31h as last recalled
  pub status : ℕ
  -- LOCK: a block may be locked
  pub lock : Bool
  -- BL0: block 0 is locked
  pub locked0 : Bool
  -- BL1: block 1 is locked
  pub locked1 : Bool
  -- the copy that waits or runs, if one does
  pub copying : Option Copying
  -- 0Ch and 0Dh
  pub voltage : List ℕ
  -- 0Eh and 0Fh
  pub current : List ℕ
  -- 18h and 19h
  pub temperature : List ℕ
  -- 10h and 11h, with the residue
  pub charge : Charge
  -- 20h to 3Fh: what is read and written there
  pub shadow : List ℕ
  -- what is copied from the shadow and recalled to it
  pub eeprom : List ℕ
  -- 80h to 8Fh
  pub sram : List ℕ
  -- how far a command has come
  pub progress : Progress

-- the same state, but for one part
abbrev pub with_protection : ℕ → State → State
with_protection x s = record { protection = x; status = s.status; lock = s.lock; locked0 = s.locked0; locked1 = s.locked1; copying = s.copying; voltage = s.voltage; current = s.current; temperature = s.temperature; charge = s.charge; shadow = s.shadow; eeprom = s.eeprom; sram = s.sram; progress = s.progress }

abbrev pub with_status : ℕ → State → State
with_status x s = record { protection = s.protection; status = x; lock = s.lock; locked0 = s.locked0; locked1 = s.locked1; copying = s.copying; voltage = s.voltage; current = s.current; temperature = s.temperature; charge = s.charge; shadow = s.shadow; eeprom = s.eeprom; sram = s.sram; progress = s.progress }

abbrev pub with_lock : Bool → State → State
with_lock x s = record { protection = s.protection; status = s.status; lock = x; locked0 = s.locked0; locked1 = s.locked1; copying = s.copying; voltage = s.voltage; current = s.current; temperature = s.temperature; charge = s.charge; shadow = s.shadow; eeprom = s.eeprom; sram = s.sram; progress = s.progress }

abbrev pub with_locked0 : Bool → State → State
with_locked0 x s = record { protection = s.protection; status = s.status; lock = s.lock; locked0 = x; locked1 = s.locked1; copying = s.copying; voltage = s.voltage; current = s.current; temperature = s.temperature; charge = s.charge; shadow = s.shadow; eeprom = s.eeprom; sram = s.sram; progress = s.progress }

abbrev pub with_locked1 : Bool → State → State
with_locked1 x s = record { protection = s.protection; status = s.status; lock = s.lock; locked0 = s.locked0; locked1 = x; copying = s.copying; voltage = s.voltage; current = s.current; temperature = s.temperature; charge = s.charge; shadow = s.shadow; eeprom = s.eeprom; sram = s.sram; progress = s.progress }

abbrev pub with_copying : Option Copying → State → State
with_copying x s = record { protection = s.protection; status = s.status; lock = s.lock; locked0 = s.locked0; locked1 = s.locked1; copying = x; voltage = s.voltage; current = s.current; temperature = s.temperature; charge = s.charge; shadow = s.shadow; eeprom = s.eeprom; sram = s.sram; progress = s.progress }

abbrev pub with_charge : Charge → State → State
with_charge x s = record { protection = s.protection; status = s.status; lock = s.lock; locked0 = s.locked0; locked1 = s.locked1; copying = s.copying; voltage = s.voltage; current = s.current; temperature = s.temperature; charge = x; shadow = s.shadow; eeprom = s.eeprom; sram = s.sram; progress = s.progress }

abbrev pub with_shadow : List ℕ → State → State
with_shadow x s = record { protection = s.protection; status = s.status; lock = s.lock; locked0 = s.locked0; locked1 = s.locked1; copying = s.copying; voltage = s.voltage; current = s.current; temperature = s.temperature; charge = s.charge; shadow = x; eeprom = s.eeprom; sram = s.sram; progress = s.progress }

abbrev pub with_eeprom : List ℕ → State → State
with_eeprom x s = record { protection = s.protection; status = s.status; lock = s.lock; locked0 = s.locked0; locked1 = s.locked1; copying = s.copying; voltage = s.voltage; current = s.current; temperature = s.temperature; charge = s.charge; shadow = s.shadow; eeprom = x; sram = s.sram; progress = s.progress }

abbrev pub with_sram : List ℕ → State → State
with_sram x s = record { protection = s.protection; status = s.status; lock = s.lock; locked0 = s.locked0; locked1 = s.locked1; copying = s.copying; voltage = s.voltage; current = s.current; temperature = s.temperature; charge = s.charge; shadow = s.shadow; eeprom = s.eeprom; sram = x; progress = s.progress }

abbrev pub with_progress : Progress → State → State
with_progress x s = record { protection = s.protection; status = s.status; lock = s.lock; locked0 = s.locked0; locked1 = s.locked1; copying = s.copying; voltage = s.voltage; current = s.current; temperature = s.temperature; charge = s.charge; shadow = s.shadow; eeprom = s.eeprom; sram = s.sram; progress = x }

abbrev pub with_registers : List ℕ → List ℕ → List ℕ → State → State
with_registers v c t s = record { protection = s.protection; status = s.status; lock = s.lock; locked0 = s.locked0; locked1 = s.locked1; copying = s.copying; voltage = v; current = c; temperature = t; charge = s.charge; shadow = s.shadow; eeprom = s.eeprom; sram = s.sram; progress = s.progress }
