-- A socket's parts, and its refusal. Assumes nothing.
use Rattle.std.specs.Prelude.{ℕ, Bool}
use Rattle.line.specs.declared.socket.Refusal.{Refusal}
use Rattle.line.specs.declared.socket.Refusal.TheVariants.{Already}
use Rattle.line.specs.declared.socket.Socket.{Socket}

-- the number of the refusal
abbrev pub number_of : Refusal → ℕ
number_of Already = 10

-- whether the line inside is on the wire
abbrev pub is_attached : {L : Type 0} → Socket L → Bool
is_attached s = s.attached
