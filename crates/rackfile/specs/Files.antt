-- A rack file, by its bytes: a count, a name width, the addresses, the names. Assumes nothing.
use Rattle.std.specs.Prelude.{◌≡◌, ℕ, ◌+◌, ◌*◌, ◌≤◌, List, map, length, take, drop, vec_items, string_bytes, slice_index}
use Rattle.std.specs.List.{range_with_len}
use Rattle.address.specs.Parts.{number, received}
use Rattle.rackfile.specs.declared.Entry.{Entry}
use Rattle.rackfile.specs.declared.RackFile.{RackFile}

-- how many entries the file says it has: its first byte
abbrev pub count : List ℕ → ℕ
count f = slice_index f 0

-- how many bytes a name has: its second byte
abbrev pub width : List ℕ → ℕ
width f = slice_index f 1

-- the sizes are in range, and the length is theirs
pub record WellFormed (f : List ℕ) : Type 0 where
  pub few : count f ≤ 128
  pub named : 1 ≤ width f
  pub short : width f ≤ 12
  pub whole : length f ≡ 2 + count f * (8 + width f)

-- the file is well-formed, with n entries and names of w bytes
pub record Measured (f : List ℕ) (n w : ℕ) : Type 0 where
  pub form : WellFormed f
  pub counted : n ≡ count f
  pub wide : w ≡ width f

-- the address of entry i: the addresses begin behind the two sizes
abbrev pub address_at : List ℕ → ℕ → ℕ
address_at f i = received (take 8 (drop (2 + 8 * i) f))

-- the name of entry i: the names begin behind the addresses
abbrev pub name_at : List ℕ → ℕ → List ℕ
name_at f i = take (width f) (drop (2 + 8 * count f + width f * i) f)

-- an entry: its address as a number, its name as bytes
pub record Listed : Type 0 where
  pub address : ℕ
  pub name : List ℕ

-- entry i of the file, counted from 0
abbrev pub entry_in : List ℕ → ℕ → Listed
entry_in f i = record { address = address_at f i; name = name_at f i }

-- the entries that the file has, in file order
abbrev pub entries_in : List ℕ → List Listed
entries_in f = map (entry_in f) (range_with_len 0 (count f))

-- an entry as it is held
abbrev pub listed : Entry → Listed
listed e = record { address = number e.address; name = string_bytes e.name }

-- the entries that a rack file holds
abbrev pub entries_of : RackFile → List Listed
entries_of r = map listed (vec_items r.entries)

-- the name width that a rack file holds
abbrev pub width_of : RackFile → ℕ
width_of r = r.width
