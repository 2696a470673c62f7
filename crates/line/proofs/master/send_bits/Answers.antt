use Rattle.std.proofs.Common.{◌+◌, Bool, List, drop, sym, ap, ◌∙◌}
use Rattle.std.proofs.lemmas.List.{drop_all}
use Rattle.line.specs.Sending.{sent}
use Rattle.line.proofs.Sends.{sent_none, sent_more}
use Rattle.line.proofs.Staged.{taken_as_sent}
use Rattle.line.proofs.master.send_bits.Goals as goal

pub loop-bit-preserved : goal.loop-bit-preserved
loop-bit-preserved g c =
    let i = c.loop-bit.bit-index in
    ap (sent (drop (i + 1) c.args.bits.now)) c.send_bit.ensures.after
    ∙ sym (sent_more c.args.bits.now i (g.L.Line.seats c.loop-bit.line) c.loop-bit-test.true)
    ∙ c.loop-bit.invariant

pub returns : goal.returns
returns g c =
    let all = c.args.bits.now in
    let ss = g.L.Line.seats c.loop-bit.line in
    let after = sym (sent_none ss) ∙ ap (λ (bs : List Bool). sent bs ss) (sym (drop_all c.loop-bit.bit-index all c.loop-bit-test.false)) ∙ c.loop-bit.invariant in
    record { after = after; quiet = λ q. after ∙ taken_as_sent all (g.L.Line.seats c.args.line.now) q }
