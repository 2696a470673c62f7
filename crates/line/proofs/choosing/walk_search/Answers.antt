use Rattle.std.proofs.Common.{◌≡◌, ℕ, ◌^◌, ◌<◌, Bool, true, false, List, map, get_or, zero-add, ap, ◌∙◌, arith, rules}
use Rattle.std.proofs.lemmas.List.FromFn.{get_or-map-range_with_len}
use Rattle.address.specs.Bits.{bit, bits}
use Rattle.address.specs.Parts.{number}
use Rattle.line.specs.Matching.{staged, chosen_by}
use Rattle.line.specs.Searching.{on_line}
use Rattle.line.specs.Seats.{Seat}
use Rattle.line.specs.Sending.{sent_bit, sent}
use Rattle.line.proofs.Staged.{reset_staged}
use Rattle.line.proofs.Walks.{search_sent, walked, search_at, search_more, walk_ends, search_signals_lem}
use Rattle.line.proofs.choosing.walk_search.Goals as goal

pub loop-bit-preserved : goal.loop-bit-preserved
loop-bit-preserved g c = λ ss e.
    let a = number c.args.address in
    let k = c.loop-bit.bit-index in
    let here : get_or c.bits-bit-items.result k false ≡ bit k a =
    ap (λ (bs : List Bool). get_or bs k false) c.bits-bit-items.ensures ∙ get_or-map-range_with_len (λ j. bit j a) 0 64 k k false c.loop-bit-test.true (zero-add k) in
    c.send_bit.ensures.after
    ∙ ap (λ (b : Bool). sent_bit b (g.L.Line.seats c.ask.new.line)) here
    ∙ ap (sent_bit (bit k a)) c.ask.ensures.after
    ∙ ap (λ (l : List Seat). sent_bit (bit k a) (sent_bit true (sent_bit true l))) (c.loop-bit.invariant ss e)
    ∙ search_more a k ss c.loop-bit-test.true

pub returns : goal.returns
returns g c =
    let a = number c.args.address in
    let ss = g.L.Line.seats c.args.line.now in
    let narrow = g.met.L.Line.narrow c.args.line.now in
    let small : a < 2 ^ 64 = search rules in
    let start : g.L.Line.seats c.send_byte.new.line ≡ map (staged (walked search_at a 0)) ss =
    c.send_byte.ensures.after ∙ (λ i. sent (bits (c.byte.ensures i)) (c.reset.ensures.after i)) ∙ ap (sent (bits 0xf0)) (reset_staged ss) ∙ search_sent ss in
    let last : c.loop-bit.bit-index ≡ 64 = omega arith in
    let chosen : g.L.Line.seats c.loop-bit.line ≡ map (chosen_by a) ss =
    c.loop-bit.invariant ss start
    ∙ ap (λ (k : ℕ). map (staged (walked search_at a k)) ss) last
    ∙ walk_ends search_at a small ss narrow in
    record { chosen = chosen; given = chosen ∙ search_signals_lem a small (on_line ss) ss narrow }
