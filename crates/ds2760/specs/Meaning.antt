-- A store as the state that it holds. Assumes nothing.
use Rattle.gauge.specs.Charges.{charge_of}
use Rattle.ds2760.specs.declared.store.Store.{Store}
use Rattle.ds2760.specs.States.{State}

abbrev pub state_of : Store → State
state_of s =
    record {
      protection = s.protection;
      status = s.status;
      lock = s.lock;
      locked0 = s.locks.zero;
      locked1 = s.locks.one;
      copying = s.copying;
      voltage = s.voltage;
      current = s.current;
      temperature = s.temperature;
      charge = charge_of s.accumulator;
      shadow = s.shadow;
      eeprom = s.eeprom;
      sram = s.sram;
      progress = s.progress;
    }
