-- What a measurement's counts are. Assumes nothing.
use Rattle.std.specs.Prelude.{◌≡◌, ℤ}
use Rattle.gauge.specs.declared.counts.Counts.{Counts}
use Rattle.gauge.specs.declared.measure.Measurement.{Measurement}
use Rattle.gauge.specs.Measures.{voltage_count, current_count, temperature_count}

-- the count of the cell voltage
abbrev pub voltage_of : Counts → ℤ
voltage_of c = c.voltage.units

-- the count of the current, less the bias
abbrev pub current_of : Counts → ℤ
current_of c = c.current.units

-- the count of the temperature
abbrev pub temperature_of : Counts → ℤ
temperature_of c = c.temperature.units

-- c has the counts of m, with the bias subtracted from the current
pub record Counted (m : Measurement) (bias : ℤ) (c : Counts) : Type 0 where
  pub voltage : voltage_of c ≡ voltage_count m.cell_voltage
  pub current : current_of c ≡ current_count m.sense_voltage bias
  pub temperature : temperature_of c ≡ temperature_count m.temperature
