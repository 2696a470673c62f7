-- The law that a row owes as a line: every address on it has 64 bits. Assumes nothing.
use Rattle.std.specs.Prelude.{◌^◌, ◌<◌, List, [], ◌∷◌}
use Rattle.std.specs.List.{flat_map, AllByRecursion}
use Rattle.std.proofs.ByRecursion.{All-append}
use Rattle.line.specs.Seats.{Seat}

module _ {L : Type 0} (f : L → List Seat) where
  pub narrow_row : (xs : List L) → ((x : L) → AllByRecursion (λ s. s.address < 2 ^ 64) (f x)) → AllByRecursion (λ s. s.address < 2 ^ 64) (flat_map f xs)
  narrow_row [] h = tt
  narrow_row (x ∷ xs) h = All-append (λ s. s.address < 2 ^ 64) (f x) (flat_map f xs) (h x) (narrow_row xs h)
