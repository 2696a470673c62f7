-- The law that a socket owes as a line: every address on it has 64 bits. Assumes nothing.
use Rattle.std.specs.Prelude.{◌^◌, ◌<◌, Bool, true, false, cond, List, map}
use Rattle.std.specs.List.{AllByRecursion}
use Rattle.std.proofs.ByRecursion.{All-map}
use Rattle.line.specs.Seats.{Seat, off}

-- attached or not, the addresses are those of the line inside
pub either : (b : Bool) (xs : List Seat) → AllByRecursion (λ (s : Seat). s.address < 2 ^ 64) xs → AllByRecursion (λ (s : Seat). s.address < 2 ^ 64) (cond b xs (map off xs))
either true xs h = h
either false xs h = All-map (λ (s : Seat). s.address < 2 ^ 64) off xs h
