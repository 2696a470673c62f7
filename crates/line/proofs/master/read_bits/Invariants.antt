use Rattle.std.proofs.Common.{◌≡◌, ◌+◌, ◌-◌, ◌*◌, ◌^◌, ◌<◌}
use Rattle.line.specs.Sending.{read_on, read_value}
use Rattle.line.proofs.master.read_bits.Given as goal

-- the bits so far, and what is left to read, are what all of them are from the start
abbrev pub invariant-loop-k : goal.invariant-loop-k
invariant-loop-k g l =
    (l.byte < 2 ^ l.k)
    × (l.byte + 2 ^ l.k * read_value (8 - l.k) (g.L.Line.seats l.line) ≡ read_value 8 (g.L.Line.seats l.initial.line))
    × (read_on (8 - l.k) (g.L.Line.seats l.line) ≡ read_on 8 (g.L.Line.seats l.initial.line))
