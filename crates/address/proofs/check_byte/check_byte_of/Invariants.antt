use Rattle.std.proofs.Common.{◌≡◌, ◌<◌, drop}
use Rattle.std.specs.List.{flat_map}
use Rattle.address.specs.Bits.{bits}
use Rattle.address.specs.CheckByte.{fed, stages, cleared}
use Rattle.address.proofs.check_byte.check_byte_of.Given as goal

-- the bytes that are left give what all of them give from a cleared register
abbrev pub invariant-loop-byte : goal.invariant-loop-byte
invariant-loop-byte l =
    (l.register < 256)
    × (fed (flat_map bits (drop l.byte-index l.bytes)) (stages l.register) ≡ fed (flat_map bits l.bytes) cleared)
