use Rattle.std.proofs.Common.{◌≡◌, ◌^◌, ◌<◌, List, map}
use Rattle.address.specs.Parts.{number}
use Rattle.line.specs.declared.stage.Stage.TheVariants.{Search}
use Rattle.line.specs.declared.stage.Turn.TheVariants.{Bit}
use Rattle.line.specs.Matching.{staged}
use Rattle.line.specs.Seats.{Seat}
use Rattle.listing.proofs.Lines.{Going}
use Rattle.listing.proofs.walking.walk_bits.Given as goal

-- the bits that are left lead to where all of them lead from the start
abbrev pub invariant-loop-bit : goal.invariant-loop-bit
invariant-loop-bit g l =
    (number l.address < 2 ^ l.bit)
    × ((ss : List Seat) → g.L.Line.seats l.initial.line ≡ map (staged (λ _. Search 0 Bit)) ss
    → Going ss l.guide.deepest (number l.guide.last) l.initial.opens.flags (g.L.Line.seats l.initial.line) l.bit (number l.address) l.opens.flags (g.L.Line.seats l.line))
