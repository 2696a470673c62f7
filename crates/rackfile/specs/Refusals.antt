-- Which rack files are refused, and with what. Assumes nothing.
use Rattle.std.specs.Prelude.{◌≡◌, ℕ, ◌+◌, ◌*◌, ◌<◌, false, ◌⊎◌, List, length, Some, None, Option, slice_index}
use Rattle.address.specs.Parts.{right}
use Rattle.rackfile.specs.declared.Flaw.{Flaw}
use Rattle.rackfile.specs.declared.Flaw.TheVariants.{WrongCheckByte, RepeatedAddress, UnprintableName}
use Rattle.rackfile.specs.declared.RackFile.{RackFile}
use Rattle.rackfile.specs.declared.Refusal.{Refusal}
use Rattle.rackfile.specs.declared.Refusal.TheVariants.{Malformed, Flawed, Memory}
use Rattle.rackfile.specs.Files.{count, width, WellFormed, address_at, name_at, entries_in, entries_of, width_of}

-- the number of each flaw
abbrev pub flaw_number : Flaw → ℕ
flaw_number WrongCheckByte = 6
flaw_number RepeatedAddress = 14
flaw_number UnprintableName = 13

-- the number of each refusal; want of memory has none
abbrev pub number_of : Refusal → Option ℕ
number_of Malformed = Some 12
number_of (Flawed entry flaw) = Some (flaw_number flaw)
number_of Memory = None

-- some byte of a name is outside 20h to 7Eh
abbrev pub Unprintable : List ℕ → Type 0
Unprintable name = (k : ℕ) × (k < length name) × ((slice_index name k < 0x20) ⊎ (0x7e < slice_index name k))

-- entry i of the file has the flaw
abbrev pub Has : List ℕ → ℕ → Flaw → Type 0
Has f i WrongCheckByte = right (address_at f i) ≡ false
Has f i RepeatedAddress = (j : ℕ) × (j < i) × (address_at f j ≡ address_at f i)
Has f i UnprintableName = Unprintable (name_at f i)

-- the file gives cause for the refusal; none gives cause for want of memory
abbrev pub Cause : List ℕ → Refusal → Type 0
Cause f Malformed = WellFormed f → ⊥
Cause f (Flawed entry flaw) = (entry < count f) × Has f entry flaw
Cause f Memory = ⊥

-- where a flaw stands among those of one entry
abbrev pub flaw_turn : Flaw → ℕ
flaw_turn WrongCheckByte = 0
flaw_turn RepeatedAddress = 1
flaw_turn UnprintableName = 2

-- what is found of an entry: no flaw, or one that it has and none that is looked for before
abbrev pub FirstFlaw : List ℕ → ℕ → Option Flaw → Type 0
FirstFlaw f i None = (w : Flaw) → Has f i w → ⊥
FirstFlaw f i (Some w) = Has f i w × ((v : Flaw) → flaw_turn v < flaw_turn w → Has f i v → ⊥)

-- when a refusal has its turn: the file's form first, then entry by entry
abbrev pub turn : Refusal → ℕ
turn Malformed = 0
turn (Flawed entry flaw) = 1 + 3 * entry + flaw_turn flaw
turn Memory = 0

-- nothing in the file gives cause for a refusal
abbrev pub Sound : List ℕ → Type 0
Sound f = (e : Refusal) → Cause f e → ⊥

-- the file gives cause for e, and for nothing that has its turn before
abbrev pub First : List ℕ → Refusal → Type 0
First f e = Cause f e × ((d : Refusal) → turn d < turn e → Cause f d → ⊥)

-- no two refusals are first
abbrev pub OneFirst : List ℕ → Type 0
OneFirst f = (d e : Refusal) → First f d → First f e → d ≡ e

-- what a refusal says of the file: it is the first cause, or the file is sound and memory ran out
abbrev pub Refused : List ℕ → Refusal → Type 0
Refused f Malformed = First f Malformed
Refused f (Flawed entry flaw) = First f (Flawed entry flaw)
Refused f Memory = Sound f

-- what a rack file that was read says of the file: it is sound, and each entry is what the file has at its place
pub record Holds (f : List ℕ) (r : RackFile) : Type 0 where
  pub sound : Sound f
  pub wide : width_of r ≡ width f
  pub whole : entries_of r ≡ entries_in f
