-- The worked cases, by computing them. Assumes nothing.
use Rattle.std.proofs.Common.{refl}
use Rattle.address.specs.CheckByte.{check_byte, fed}
use Rattle.listing.specs.Cases.{WorkedCases}
use Rattle.listing.specs.Rule.{walk}
use Rattle.listing.specs.Runs.{run, passes_from}

pub worked : WorkedCases
unfolding check_byte fed walk run passes_from
worked =
    record {
      three = refl;
      three_listed = refl;
      three_slots = refl;
      three_complete = refl;
      pulled = refl;
      pulled_slots = refl;
      pulled_complete = refl;
      empty = refl;
      empty_slots = refl;
      empty_complete = refl;
      mixed_answers = refl;
      mixed_listed = refl;
      mixed_complete = refl;
      full = refl;
      full_stays = refl;
      complete_refused = refl;
      too_high = refl;
    }
