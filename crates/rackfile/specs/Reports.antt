-- What is printed of a rack file. Assumes nothing.
use Rattle.std.specs.Prelude.{◌≡◌, ℕ, ◌+◌, cond, ◌⊎◌, List, [], ◌∷◌, ◌++◌, length, Some, codes, decimal, nat_lt}
use Rattle.address.specs.Hexadecimal.{hexadecimal}
use Rattle.address.specs.Parts.{sent}
use Rattle.rackfile.specs.declared.Refusal.{Refusal}
use Rattle.rackfile.specs.Files.{width, Listed, entries_in}
use Rattle.rackfile.specs.Refusals.{number_of, Sound, First}

-- a number in decimal, with at least two digits
abbrev pub figures : ℕ → List ℕ
figures n = cond (nat_lt n 10) (codes "0" ++ decimal n) (decimal n)

-- the line of an entry: its place, its address in sending order, its name
unfoldable pub line : ℕ → Listed → List ℕ
line place e =
    figures place ++ (codes " " ++ (hexadecimal (sent e.address) ++ (codes " " ++ (e.name ++ codes "\n"))))

-- the lines of entries that stand from a place on
unfoldable pub lines : ℕ → List Listed → List ℕ
lines place [] = []
lines place (e ∷ es) = line place e ++ lines (place + 1) es

-- the first line: how many entries there are, and how many bytes a name has
unfoldable pub heading : ℕ → ℕ → List ℕ
heading n w = codes "rack " ++ (figures n ++ (codes " width " ++ (figures w ++ codes "\n")))

-- the whole table of a rack file with names of w bytes; places count from 1
abbrev pub table : ℕ → List Listed → List ℕ
table w es = heading (length es) w ++ lines 1 es

-- the line of a refusal
abbrev pub refused_line : ℕ → List ℕ
refused_line n = codes "refused " ++ (figures n ++ codes "\n")

-- the text says of the file what it holds, or with which number it is first refused
abbrev pub Reported : List ℕ → List ℕ → Type 0
Reported f text =
    (Sound f × (text ≡ table (width f) (entries_in f)))
    ⊎ ((e : Refusal) × (n : ℕ) × First f e × (number_of e ≡ Some n) × (text ≡ refused_line n))
