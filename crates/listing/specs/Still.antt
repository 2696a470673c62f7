-- Passes over a line on which nothing moves, and lines with the same addresses. Assumes nothing.
use Rattle.std.specs.Prelude.{◌≡◌, ℕ, zero, suc, ◌+◌, ◌<◌, ◌≤◌, max, Bool, true, false, cond, List, [], ◌∷◌, length, is_some, None}
use Rattle.std.specs.List.{AllByRecursion}
use Rattle.listing.specs.Rule.{State, outcome, slots, levels, passed, pass_refusal}
use Rattle.listing.specs.Runs.{Call, begin, pass, does, after, On, Narrow, NarrowCall}
use Rattle.listing.specs.Passes.{is_closed}

-- the same addresses are on both lines
pub record Alike (xs ys : List ℕ) : Type 0 where
  pub there : (x : ℕ) → On x xs → On x ys
  pub back : (x : ℕ) → On x ys → On x xs

-- a pass over either line does the same
pub record SamePass (xs ys : List ℕ) (s : State) : Type 0 where
  pub answer : outcome xs s ≡ outcome ys s
  pub slot_count : slots (outcome xs s) ≡ slots (outcome ys s)
  pub slot_levels : levels xs s ≡ levels ys s
  pub state : passed xs s ≡ passed ys s

-- a pass depends on the line only through which addresses are on it
abbrev pub PassesSeeAddresses : Type 0
PassesSeeAddresses = (xs ys : List ℕ) → Alike xs ys → (s : State) → SamePass xs ys s

-- n passes over the same line
unfoldable pub again : ℕ → List ℕ → State → State
again zero xs s = s
again (suc n) xs s = again n xs (does (pass xs) s)

-- how many bits are open
abbrev pub open_bits : List Bool → ℕ
open_bits [] = 0
open_bits (b ∷ bs) = cond b 1 0 + open_bits bs

-- no two of the addresses are the same
abbrev pub Different : List ℕ → Type 0
Different [] = Unit {0}
Different (x ∷ xs) = (On x xs → ⊥) × Different xs

-- on a line that stays, with the n addresses xs on it and m bits open, at most max (n + m) 1 passes complete a listing or reach its limit
abbrev pub PassesProgress : Type 0
PassesProgress =
    (calls : List Call) → AllByRecursion NarrowCall calls → (line xs : List ℕ) → Narrow line → Alike line xs → is_some (pass_refusal (again (max (length xs + open_bits (after calls).opens) 1) line (after calls))) ≡ true

-- passes after a begin, over a line that stays, with the n different addresses xs on it
pub record Straight (line xs : List ℕ) (s : State) : Type 0 where
  -- before max n 1 passes it is not complete, nor at its limit
  pub unrefused : (i : ℕ) → i < max (length xs) 1 → pass_refusal (again i line s) ≡ None
  -- each pass reads an address, unless the line is empty
  pub reads : (i : ℕ) → i < length xs → is_closed (outcome line (again i line s)) ≡ false
  -- max n 1 passes make it complete
  pub ends : (again (max (length xs) 1) line s).complete ≡ true

-- after a begin with room for them, n different addresses on a line that stays take max n 1 passes
abbrev pub StillLinesList : Type 0
StillLinesList =
    (s : State) (limit : ℕ) (line xs : List ℕ) → Narrow line → Alike line xs → Different xs → max (length xs) 1 ≤ limit → limit ≤ 128 → Straight line xs (does (begin limit) s)
