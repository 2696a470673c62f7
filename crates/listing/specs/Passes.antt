-- A pass in the subject's words: what it looks for, what it finds, and which bits it opens. Assumes nothing.
use Rattle.std.specs.Prelude.{◌≡◌, ℕ, ◌+◌, ◌-◌, ◌<◌, ◌≤◌, Bool, true, false, ◌||◌, ◌⊎◌, List, [], ◌∷◌, length, Some, None, Decides, Option, slice_index_or}
use Rattle.address.specs.Bits.{bit}
use Rattle.address.specs.Parts.{right}
use Rattle.address.specs.SearchOrder.{Agree, Before}
use Rattle.line.specs.Searching.{answered}
use Rattle.line.specs.Stages.{with_bit}
use Rattle.listing.specs.Rule.{State, Outcome, found, spoilt, closed_at, closed_empty, deepest, told, told_value, wanted, stops, walk, outcome, slots, levels, passed}
use Rattle.listing.specs.Runs.{On, Narrow, NoneOpen}

-- x is sought: with d absent every address is, else those that agree with the last one below d and have 1 there
abbrev pub Sought : Option ℕ → ℕ → ℕ → Type 0
Sought None last x = Unit {0}
Sought (Some k) last x = Agree k x last × (bit k x ≡ true)

-- bit j is above d, or d is absent
abbrev pub Above : Option ℕ → ℕ → Type 0
Above None j = Unit {0}
Above (Some k) j = k < j

-- a is the first in search order of the addresses of xs that are sought
pub record First (xs : List ℕ) (d : Option ℕ) (last a : ℕ) : Type 0 where
  pub on : On a xs
  pub sought : Sought d last a
  pub first : (x : ℕ) → On x xs → Sought d last x → (a ≡ x) ⊎ Before a x

-- another address that is sought first differs from a at bit j
pub record Fork (xs : List ℕ) (d : Option ℕ) (last j a : ℕ) : Type 0 where
  pub other : ℕ
  pub on : On other xs
  pub sought : Sought d last other
  pub same : Agree j other a
  pub here : bit j a ≡ false
  pub there : bit j other ≡ true

-- x has the values told below bit i
abbrev pub ToldBelow : Option ℕ → ℕ → ℕ → ℕ → Type 0
ToldBelow d last i x = (j : ℕ) → j < i → bit j x ≡ told_value d last j

-- bit i is the first at which no address has the values told
pub record StopsAt (xs : List ℕ) (d : Option ℕ) (last i : ℕ) : Type 0 where
  pub tells : told d i ≡ true
  pub near : (x : ℕ) × On x xs × ToldBelow d last i x
  pub none : (x : ℕ) → On x xs → ToldBelow d last (i + 1) x → ⊥

-- a pass read address a
abbrev pub Read : Outcome → ℕ → Type 0
Read (found x) a = x ≡ a
Read (spoilt x) a = x ≡ a
Read (closed_at i) a = ⊥
Read closed_empty a = ⊥

-- a pass closed
abbrev pub is_closed : Outcome → Bool
is_closed (found x) = false
is_closed (spoilt x) = false
is_closed (closed_at i) = true
is_closed closed_empty = true

-- what a pass over xs does to a listing s
pub record Searches (xs : List ℕ) (s : State) : Type 0 where
  -- the address read is the first in search order of those sought
  pub finds : (a : ℕ) → Read (outcome xs s) a → First xs (deepest s.opens) s.last a
  -- found means right
  pub finds_right : (a : ℕ) → outcome xs s ≡ found a → right a ≡ true
  -- spoilt means not right
  pub spoils_wrong : (a : ℕ) → outcome xs s ≡ spoilt a → right a ≡ false
  -- it closes just when no address is sought
  pub closes : Decides (is_closed (outcome xs s)) ((x : ℕ) → On x xs → Sought (deepest s.opens) s.last x → ⊥)
  -- with d absent it closes just when the line is empty
  pub closes_empty : deepest s.opens ≡ None → Decides (is_closed (outcome xs s)) (xs ≡ [])
  -- the bit at which it closes is the first at which no address has the values told
  pub closes_at : (i : ℕ) → outcome xs s ≡ closed_at i → StopsAt xs (deepest s.opens) s.last i
  -- above d a bit is opened just when another address that is sought first differs there from the one read
  pub opened : (a : ℕ) → Read (outcome xs s) a → (j : ℕ) → Above (deepest s.opens) j → Decides (slice_index_or (passed xs s).opens j false) (Fork xs (deepest s.opens) s.last j a)
  -- a pass that closes opens no bit
  pub opens_none : is_closed (outcome xs s) ≡ true → (j : ℕ) → Above (deepest s.opens) j → slice_index_or (passed xs s).opens j false ≡ false
  -- d is no longer open
  pub shut : (k : ℕ) → deepest s.opens ≡ Some k → slice_index_or (passed xs s).opens k false ≡ false
  -- below d all bits are open or not as before
  pub kept : (k : ℕ) → deepest s.opens ≡ Some k → (j : ℕ) → j < k → slice_index_or (passed xs s).opens j false ≡ slice_index_or s.opens j false
  -- complete just when no bit is left open
  pub completes : Decides (passed xs s).complete (NoneOpen (passed xs s).opens)
  -- the slots are those of the answer
  pub slots_given : length (levels xs s) ≡ slots (outcome xs s)

-- every pass over a line of addresses of 64 bits does so
abbrev pub PassesSearch : Type 0
PassesSearch = (xs : List ℕ) (s : State) → Narrow xs → length s.opens ≡ 64 → Searches xs s

-- a walk over xs comes to bit i with what is sent
pub data Comes (xs : List ℕ) (d : Option ℕ) (last : ℕ) : ℕ → ℕ → Type 0 where
  starts : Comes xs d last 0 0
  goes_on : {i sent : ℕ} → Comes xs d last i sent → stops d last i (answered false i sent xs) (answered true i sent xs) ≡ false → Comes xs d last (i + 1) (with_bit i (wanted d last i (answered false i sent xs)) sent)

-- what a walk reads at each bit
pub record Reads : Type 0 where
  -- a value is answered just when some address that has the bits sent so far has it
  pub answers : (xs : List ℕ) (v : Bool) (i sent : ℕ) → Decides (answered v i sent xs) ((x : ℕ) × On x xs × Agree i x sent × (bit i x ≡ v))
  -- a walk of 64 bits comes so far, whatever flags it starts with
  pub comes : (xs : List ℕ) (d : Option ℕ) (last i sent : ℕ) (f : List Bool) → i ≤ 64 → Comes xs d last i sent → (g : List Bool) × (walk xs d last 64 0 0 f ≡ walk xs d last (64 - i) i sent g)
  -- on a line that is not empty one value is always answered where none is told
  pub one_always : (x : ℕ) (xs : List ℕ) (d : Option ℕ) (last i sent : ℕ) → Comes (x ∷ xs) d last i sent → told d i ≡ false → (answered false i sent (x ∷ xs) || answered true i sent (x ∷ xs)) ≡ true
