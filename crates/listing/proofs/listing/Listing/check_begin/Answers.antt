use Rattle.std.proofs.Common.{refl, rules}
use Rattle.listing.specs.declared.begin_refusal.BeginRefusal.TheVariants.{LimitTooHigh}
use Rattle.listing.proofs.Runs.{begin_refused}
use Rattle.listing.proofs.listing.Listing.check_begin.Goals as goal

pub returns-then-limit-gt-ROOM-clause-goes : goal.returns-then-limit-gt-ROOM-clause-goes
returns-then-limit-gt-ROOM-clause-goes c = begin_refused c.args.limit LimitTooHigh _ _ (search rules) refl
