use Rattle.ds2760.proofs.Effects.{copies_complete}
use Rattle.ds2760.proofs.store.Store.tick.Goals as goal

pub returns-clause-copies : goal.returns-clause-copies
returns-clause-copies c = copies_complete
