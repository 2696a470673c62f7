use Rattle.std.proofs.Common.{◌≡◌, map, sym, ◌∙◌, rules}
use Rattle.line.specs.declared.presence.Presence.TheVariants.{Empty}
use Rattle.address.specs.Bits.{bits}
use Rattle.address.specs.Parts.{number}
use Rattle.line.specs.declared.stage.Stage.TheVariants.{Search}
use Rattle.line.specs.declared.stage.Turn.TheVariants.{Bit}
use Rattle.line.specs.Matching.{staged}
use Rattle.line.specs.Sending.{sent}
use Rattle.listing.specs.Meaning.{walk_of}
use Rattle.listing.proofs.Lines.{nothing_there, search_begins, searched_given}
use Rattle.listing.proofs.walking.walk.Goals as goal

pub returns-then-eq : goal.returns-then-eq
returns-then-eq g c =
    let empty : c.reset.result ≡ Empty = search rules in
    let none = nothing_there (g.L.Line.seats c.args.line.now) c.args.guide.deepest (number c.args.guide.last) c.args.opens.flags (sym empty ∙ c.reset.ensures.present) in
    record { walk = none.0; given = c.reset.ensures.after ∙ none.1 }

pub returns : goal.returns
returns g c =
    let some : c.reset.result ≡ Empty → ⊥ = search rules in
    let ss = g.L.Line.seats c.args.line.now in
    let begun : g.L.Line.seats c.send_byte.new.line ≡ map (staged (λ _. Search 0 Bit)) ss =
    c.send_byte.ensures.after ∙ (λ i. sent (bits (c.byte.ensures i)) (c.reset.ensures.after i)) ∙ search_begins ss in
    let both =
    searched_given ss c.args.guide.deepest (number c.args.guide.last) c.args.opens.flags (walk_of c.walk_bits.result) (g.L.Line.seats c.send_byte.new.line) (g.L.Line.seats c.walk_bits.new.line) (λ e. some (c.reset.ensures.present ∙ sym e)) begun
    (c.walk_bits.ensures.walk ss begun) (c.walk_bits.ensures.given ss begun) in
    record { walk = both.0; given = both.1 }
