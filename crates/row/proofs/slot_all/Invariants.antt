use Rattle.line.specs.Seats.{takes_seat}
use Rattle.row.proofs.Rows.{Changed}
use Rattle.row.proofs.slot_all.Given as goal

-- the lines so far have had the slot
abbrev pub invariant-loop-line : goal.invariant-loop-line
invariant-loop-line g l = Changed g.L.Line.seats (takes_seat l.level) l.initial.lines l.line-index l.lines
