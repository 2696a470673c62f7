use Rattle.std.proofs.Common.{rules}
use Rattle.listing.proofs.Runs.{new_truthful}
use Rattle.listing.proofs.listing.Listing.over.Goals as goal

pub returns-clause-truthful : goal.returns-clause-truthful
returns-clause-truthful c = new_truthful _ (search rules)
