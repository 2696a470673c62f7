use Rattle.std.proofs.Common.{◌≡◌, drop}
use Rattle.std.specs.List.{flat_map}
use Rattle.line.specs.Presences.{together}
use Rattle.line.specs.Seats.{reset_seat, occupied, presence}
use Rattle.row.proofs.Rows.{Changed}
use Rattle.row.proofs.reset_all.Given as goal

-- the lines so far have had the reset, and with the others they answer what all do
abbrev pub invariant-loop-line : goal.invariant-loop-line
invariant-loop-line g l =
    Changed g.L.Line.seats reset_seat l.initial.lines l.line-index l.lines
    × (together l.answer (presence (occupied (flat_map g.L.Line.seats (drop l.line-index l.initial.lines)))) ≡ presence (occupied (flat_map g.L.Line.seats l.initial.lines)))
