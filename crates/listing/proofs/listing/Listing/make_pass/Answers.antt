use Rattle.listing.specs.Meaning.{state_of}
use Rattle.listing.proofs.Leaves.{pass_made}
use Rattle.listing.proofs.listing.Listing.make_pass.Goals as goal

pub returns : goal.returns
returns g c =
    let line = c.args.line.now in
    record {
      answer = c.search-answer.ensures.answer;
      passed =
          pass_made (g.L.Line.seats line) (g.L.Line.seats c.search-answer.new.line) (state_of c.args.self.now) (state_of c.search-answer.new.self) (g.met.L.Line.narrow line) c.keeps_room.ensures c.requires.refusal
          c.search-answer.ensures.state c.search-answer.ensures.given;
    }
