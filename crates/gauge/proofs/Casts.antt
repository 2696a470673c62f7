-- What a cast that loses nothing gives. Assumes nothing.
use Rattle.std.proofs.lemmas.Int.{to_z-of_z}

pub ruleset casts = (to_z-of_z)
