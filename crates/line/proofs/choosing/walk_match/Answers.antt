use Rattle.std.proofs.Common.{◌≡◌, ◌^◌, ◌<◌, map, ◌∙◌, rules}
use Rattle.address.specs.Bits.{bits}
use Rattle.address.specs.Parts.{number}
use Rattle.line.specs.Matching.{chosen_by}
use Rattle.line.specs.Sending.{sent}
use Rattle.line.proofs.Walks.{matched, match_signals_lem}
use Rattle.line.proofs.choosing.walk_match.Goals as goal

pub returns : goal.returns
returns g c =
    let a = number c.args.address in
    let ss = g.L.Line.seats c.args.line.now in
    let narrow = g.met.L.Line.narrow c.args.line.now in
    let small : a < 2 ^ 64 = search rules in
    let commanded = c.send_byte.ensures.after ∙ (λ i. sent (bits (c.byte.ensures i)) (c.reset.ensures.after i)) in
    let chosen : g.L.Line.seats c.send_bits.new.line ≡ map (chosen_by a) ss =
    c.send_bits.ensures.after ∙ (λ i. sent (c.bits.ensures i) (commanded i)) ∙ matched a ss small narrow in
    record { chosen = chosen; given = chosen ∙ match_signals_lem a small ss narrow }
