-- The addresses on a line, and what a search reads of them. Assumes nothing.
use Rattle.std.specs.Prelude.{ℕ, zero, suc, Bool, true, false, cond, not, ◌&&◌, ◌||◌, List, [], ◌∷◌}
use Rattle.std.specs.Bool.{beq}
use Rattle.address.specs.Bits.{bit}
use Rattle.line.specs.Seats.{Seat}

-- the addresses on the line: those of the seats that are not off
abbrev pub on_line : List Seat → List ℕ
on_line [] = []
on_line (s ∷ ss) = cond s.attached (s.address ∷ on_line ss) (on_line ss)

-- x and a have the same bits below k
abbrev pub agree : ℕ → ℕ → ℕ → Bool
agree zero x a = true
agree (suc k) x a = agree k x a && beq (bit k a) (bit k x)

-- value v is answered at bit k: some address that has a's bits below k has v there
abbrev pub answered : Bool → ℕ → ℕ → List ℕ → Bool
answered v k a [] = false
answered v k a (x ∷ xs) = (agree k x a && beq v (bit k x)) || answered v k a xs

-- the levels of a search's three turns at bit k, once a's bits below k were sent: two are read, then v is sent
abbrev pub turns : Bool → ℕ → ℕ → List ℕ → List Bool
turns v k a xs = not (answered false k a xs) ∷ not (answered true k a xs) ∷ v ∷ []
