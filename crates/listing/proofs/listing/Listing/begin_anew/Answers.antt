use Rattle.std.proofs.Common.{rules}
use Rattle.listing.proofs.Runs.{begins}
use Rattle.listing.proofs.listing.Listing.begin_anew.Goals as goal

pub returns-clause-goes : goal.returns-clause-goes
returns-clause-goes c = begins c.args.limit _ _ c.requires (search rules)
