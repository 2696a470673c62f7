use Rattle.std.proofs.Common.{◌≡◌, ◌^◌, ◌<◌, List, length, Some, None, Result, Ok, Err, MatchResult, OnErr, arith}
use Rattle.std.specs.List.{AllByRecursion}
use Rattle.line.specs.Searching.{on_line}
use Rattle.line.specs.Seats.{Seat}
use Rattle.listing.specs.declared.answer.PassRefusal.{PassRefusal}
use Rattle.listing.specs.Calls.{Passed}
use Rattle.listing.specs.Meaning.{state_of}
use Rattle.listing.specs.Rule.{State, pass_refusal}
use Rattle.listing.specs.Runs.{Limited}
use Rattle.listing.proofs.Leaves.{narrow_on, unmade}
use Rattle.listing.proofs.Members.{passes_see_addresses}
use Rattle.listing.proofs.Passes.{passes_search, reads}
use Rattle.listing.proofs.Progress.{passes_progress}
use Rattle.listing.proofs.Still.{still_lines_list}
use Rattle.listing.proofs.listing.Listing.check_pass.Goals as goal

-- a pass that is refused changes nothing
stays : (ss : List Seat) (s : State) (r : Result (Unit {0}) PassRefusal) → AllByRecursion (λ x. x.address < 2 ^ 64) ss → Limited s → MatchResult r (λ _. pass_refusal s ≡ None) (λ e. pass_refusal s ≡ Some e) → OnErr r (Passed ss ss s s)
stays ss s (Ok done) n l e = tt
stays ss s (Err refusal) n l e = unmade ss s refusal n l e

pub returns : goal.returns
returns g c =
    let ss = g.L.Line.seats c.args.line.now in
    let s = state_of c.args.self.now in
    let narrow = g.met.L.Line.narrow c.args.line.now in
    let long : length s.opens ≡ 64 = omega arith in
    record {
      value = c.check.ensures.value;
      room = c.check.ensures.room;
      searches = passes_search (on_line ss) s (narrow_on ss narrow) long;
      reads = reads;
      alike = passes_see_addresses;
      progress = passes_progress;
      still = still_lines_list;
      passed = stays ss s c.check.result narrow c.keeps_room.ensures c.check.ensures.value;
    }
