-- What a master gives a line to choose the seats of one address. Assumes nothing.
use Rattle.std.specs.Prelude.{ℕ, zero, suc, ◌+◌, Bool, List, [], ◌∷◌, ◌++◌}
use Rattle.address.specs.Bits.{bit, bits}
use Rattle.line.specs.declared.signal.Signal.{Signal}
use Rattle.line.specs.declared.signal.Signal.TheVariants.{Reset}
use Rattle.line.specs.Searching.{turns}
use Rattle.line.specs.Signals.{slots}

-- n bits of address a from bit k on, as a match sends them
unfoldable pub match_levels : ℕ → ℕ → ℕ → List Bool
match_levels zero k a = []
match_levels (suc n) k a = bit k a ∷ match_levels n (k + 1) a

-- what a match with address a gives the line: a reset, 55h and the address
abbrev pub match_signals : ℕ → List Signal
match_signals a = Reset ∷ slots (bits 0x55 ++ match_levels 64 0 a)

-- the levels of a search that is walked with address a, for n bits from bit k on, where the addresses xs are on the line
unfoldable pub walk_levels : ℕ → ℕ → ℕ → List ℕ → List Bool
walk_levels zero k a xs = []
walk_levels (suc n) k a xs = turns (bit k a) k a xs ++ walk_levels n (k + 1) a xs

-- what a search that is walked with address a gives the line: a reset, F0h and three turns for each bit
abbrev pub search_signals : ℕ → List ℕ → List Signal
search_signals a xs = Reset ∷ slots (bits 0xf0 ++ walk_levels 64 0 a xs)
