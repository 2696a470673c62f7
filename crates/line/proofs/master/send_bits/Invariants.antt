use Rattle.std.proofs.Common.{◌≡◌, drop}
use Rattle.line.specs.Sending.{sent}
use Rattle.line.proofs.master.send_bits.Given as goal

-- the bits that are left lead to where all of them lead from the start
abbrev pub invariant-loop-bit : goal.invariant-loop-bit
invariant-loop-bit g l =
    sent (drop l.bit-index l.bits) (g.L.Line.seats l.line) ≡ sent l.bits (g.L.Line.seats l.initial.line)
