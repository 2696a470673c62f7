-- The life of a pack: the calls that reach it, from its making. Assumes nothing.
use Rattle.std.specs.Prelude.{◌≡◌, ℕ, List, [], ◌∷◌, ◌++◌, length}
use Rattle.ds2760.specs.Runs.{Call}
use Rattle.line.specs.Lives.{reaches, life, KeptSeat}
use Rattle.line.specs.Seats.{Seat}
use Rattle.pack.specs.Packs.{new_seat}

-- s is what these calls make of a new pack, and keeps what each earlier point had to keep
pub record LawfulSeat (a : ℕ) (bytes : List ℕ) (calls : List Call) (s : Seat) : Type 0 where
  pub state : s ≡ life calls (new_seat a bytes)
  pub kept : (before later : List Call) → before ++ later ≡ calls → KeptSeat later (life before (new_seat a bytes)) s

-- t follows s by a call: whatever life led to s, with this call it is lawful at t
pub record FollowsSeat (c : Call) (s t : Seat) : Type 0 where
  pub lawful : (a : ℕ) (bytes : List ℕ) (calls : List Call) → length bytes ≡ 32 → s ≡ life calls (new_seat a bytes) → LawfulSeat a bytes (calls ++ c ∷ []) t

-- every life is lawful
pub record LivesAreLawful : Type 0 where
  pub makes : (a : ℕ) (bytes : List ℕ) (s : Seat) → length bytes ≡ 32 → s ≡ new_seat a bytes → LawfulSeat a bytes [] s
  pub follows : (c : Call) (s t : Seat) → t ≡ reaches c s → FollowsSeat c s t
