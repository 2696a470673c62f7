-- From a measurement to its counts. Assumes nothing.
use Rattle.std.specs.Prelude.{ℕ, ◌<◌, Bool, ◌&&◌, ℤ, pos, negsuc, ◌+ℤ◌, ◌-ℤ◌, ◌*ℤ◌, ◌≤ℤ◌, ◌<ℤ◌, int_le}
use Rattle.std.specs.Int.{int_div_euclid, int_max, int_min}
use Rattle.gauge.specs.declared.measure.Measurement.{Measurement}
use Rattle.gauge.specs.declared.measure.Refusal.{Refusal}
use Rattle.gauge.specs.declared.measure.Refusal.TheVariants.{OutOfRange}

-- every number is within its range
abbrev pub in_range : Measurement → Bool
in_range m =
    (int_le (pos 0) m.cell_voltage && int_le m.cell_voltage (pos 20000000))
    && ((int_le (negsuc 999999999) m.sense_voltage && int_le m.sense_voltage (pos 1000000000))
    && (int_le (negsuc 273149) m.temperature && int_le m.temperature (pos 1000000)))

-- the number of the refusal
abbrev pub number_of : Refusal → ℕ
number_of OutOfRange = 9

-- how many whole units z has, rounded towards the lower number
abbrev pub floor : ℤ → ℤ → ℤ
floor z unit = int_div_euclid z unit

-- z, or the limit that it passes
abbrev pub limited : ℤ → ℤ → ℤ → ℤ
limited low high z = int_max low (int_min z high)

-- the count of a cell voltage in µV
unfoldable pub voltage_count : ℤ → ℤ
voltage_count v = limited (pos 0) (pos 1023) (floor v (pos 4880))

-- the count of a sense voltage in nV, less the bias
unfoldable pub current_count : ℤ → ℤ → ℤ
current_count v bias = limited (negsuc 4095) (pos 4095) (limited (negsuc 4095) (pos 4095) (floor v (pos 15625)) -ℤ bias)

-- the count of a temperature in thousandths of a degree
unfoldable pub temperature_count : ℤ → ℤ
temperature_count t = limited (negsuc 1023) (pos 1023) (floor t (pos 125))

-- c units are at most z, and one more is above it
abbrev pub Floor : ℤ → ℤ → ℤ → Type 0
Floor z unit c = ((c *ℤ unit) ≤ℤ z) × (z <ℤ ((c +ℤ pos 1) *ℤ unit))

-- every quotient by a unit is rounded towards the lower number
abbrev pub RoundsDown : Type 0
RoundsDown = (z : ℤ) (unit : ℕ) → 0 < unit → Floor z (pos unit) (floor z (pos unit))
