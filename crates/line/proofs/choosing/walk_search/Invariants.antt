use Rattle.std.proofs.Common.{◌≡◌, List, map}
use Rattle.address.specs.Parts.{number}
use Rattle.line.specs.Matching.{staged}
use Rattle.line.specs.Seats.{Seat}
use Rattle.line.proofs.Walks.{walked, search_at}
use Rattle.line.proofs.choosing.walk_search.Given as goal

-- each seat that began to search is as far as its bits agree
abbrev pub invariant-loop-bit : goal.invariant-loop-bit
invariant-loop-bit g l =
    (ss : List Seat) → g.L.Line.seats l.initial.line ≡ map (staged (walked search_at (number l.fn.address) 0)) ss
    → g.L.Line.seats l.line ≡ map (staged (walked search_at (number l.fn.address) l.bit-index)) ss
