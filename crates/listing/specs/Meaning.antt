-- What a listing's types mean to its rule. Assumes nothing.
use Rattle.std.specs.Prelude.{map, vec_items, Result, Ok, Err}
use Rattle.address.specs.Parts.{number}
use Rattle.listing.specs.declared.answer.Answer.{Answer}
use Rattle.listing.specs.declared.answer.Answer.TheVariants.{Found, Spoilt, ClosedAt, ClosedEmpty}
use Rattle.listing.specs.declared.listing.Listing.{Listing}
use Rattle.listing.specs.declared.walk.Reading.{Reading}
use Rattle.listing.specs.declared.walk.Stop.{Stop}
use Rattle.listing.specs.declared.walk.Stop.TheVariants.{Silent, At}
use Rattle.listing.specs.Rule as rule

-- all that a listing holds
abbrev pub state_of : Listing → rule.State
state_of l = record { listed = map number (vec_items l.addresses); last = number l.last; opens = l.opens.flags; limit = l.limit; complete = l.complete }

-- an answer
abbrev pub meant : Answer → rule.Outcome
meant (Found address) = rule.found (number address)
meant (Spoilt address) = rule.spoilt (number address)
meant (ClosedAt bit) = rule.closed_at bit
meant ClosedEmpty = rule.closed_empty

-- what a walk that stopped closes
abbrev pub closed_by : Stop → rule.Outcome
closed_by Silent = rule.closed_empty
closed_by (At bit) = rule.closed_at bit

-- a walk of the code
abbrev pub walk_of : Result Reading Stop → rule.Walk
walk_of (Ok r) = rule.reached (number r.address) r.opens.flags
walk_of (Err Silent) = rule.silent
walk_of (Err (At bit)) = rule.stopped bit
