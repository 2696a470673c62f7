-- Worked cases. Assumes nothing.
use Rattle.std.specs.Prelude.{◌≡◌, ℕ, true, List, [], ◌∷◌, ◌++◌, map, Some, sum}
use Rattle.address.specs.Parts.{received}
use Rattle.listing.specs.declared.begin_refusal.BeginRefusal.TheVariants.{LimitTooHigh}
use Rattle.listing.specs.declared.answer.PassRefusal.TheVariants.{Complete, LimitReached}
use Rattle.listing.specs.Rule.{Outcome, found, spoilt, closed_at, closed_empty, slots, pass_refusal, begin_refusal}
use Rattle.listing.specs.Runs.{Call, begin, pass, after, passes}

abbrev pub buoy1 : ℕ
buoy1 = received (0x30 ∷ 0x01 ∷ 0x00 ∷ 0x00 ∷ 0x00 ∷ 0x00 ∷ 0x00 ∷ 0x23 ∷ [])

abbrev pub buoy2 : ℕ
buoy2 = received (0x30 ∷ 0x02 ∷ 0x00 ∷ 0x00 ∷ 0x00 ∷ 0x00 ∷ 0x00 ∷ 0x7a ∷ [])

abbrev pub buoy3 : ℕ
buoy3 = received (0x30 ∷ 0x03 ∷ 0x00 ∷ 0x00 ∷ 0x00 ∷ 0x00 ∷ 0x00 ∷ 0x4d ∷ [])

-- the first with a wrong check byte
abbrev pub wrong1 : ℕ
wrong1 = received (0x30 ∷ 0x01 ∷ 0x00 ∷ 0x00 ∷ 0x00 ∷ 0x00 ∷ 0x00 ∷ 0x24 ∷ [])

-- the answers of a run's passes
abbrev pub answers : List Call → List Outcome
answers calls = map (λ p. p.answer) (passes calls)

-- three packs on the line
abbrev pub buoys : List ℕ
buoys = buoy1 ∷ buoy2 ∷ buoy3 ∷ []

abbrev pub three_passes : List Call
three_passes = begin 128 ∷ pass buoys ∷ pass buoys ∷ pass buoys ∷ []

-- the first and the third are pulled behind the first pass
abbrev pub two_pulled : List Call
two_pulled = begin 128 ∷ pass buoys ∷ pass (buoy2 ∷ []) ∷ []

-- nothing is on the line
abbrev pub none_there : List Call
none_there = begin 128 ∷ pass [] ∷ []

-- one of three packs has a wrong check byte
abbrev pub mixed : List ℕ
mixed = wrong1 ∷ buoy2 ∷ buoy3 ∷ []

abbrev pub mixed_passes : List Call
mixed_passes = begin 128 ∷ pass mixed ∷ pass mixed ∷ pass mixed ∷ []

-- room for one address
abbrev pub one_room : List Call
one_room = begin 1 ∷ pass buoys ∷ []

-- what these runs come to
pub record WorkedCases : Type 0 where
  pub three : answers three_passes ≡ found buoy2 ∷ found buoy1 ∷ found buoy3 ∷ []
  pub three_listed : (after three_passes).listed ≡ buoy2 ∷ buoy1 ∷ buoy3 ∷ []
  pub three_slots : sum (map slots (answers three_passes)) ≡ 600
  pub three_complete : (after three_passes).complete ≡ true
  pub pulled : answers two_pulled ≡ found buoy2 ∷ closed_at 8 ∷ []
  pub pulled_slots : slots (closed_at 8) ≡ 34
  pub pulled_complete : (after two_pulled).complete ≡ true
  pub empty : answers none_there ≡ closed_empty ∷ []
  pub empty_slots : slots closed_empty ≡ 0
  pub empty_complete : (after none_there).complete ≡ true
  pub mixed_answers : answers mixed_passes ≡ found buoy2 ∷ spoilt wrong1 ∷ found buoy3 ∷ []
  pub mixed_listed : (after mixed_passes).listed ≡ buoy2 ∷ buoy3 ∷ []
  pub mixed_complete : (after mixed_passes).complete ≡ true
  pub full : pass_refusal (after one_room) ≡ Some LimitReached
  pub full_stays : (after (one_room ++ pass buoys ∷ [])).listed ≡ buoy2 ∷ []
  pub complete_refused : pass_refusal (after three_passes) ≡ Some Complete
  pub too_high : begin_refusal 129 ≡ Some LimitTooHigh
