use Rattle.std.proofs.Common.{◌<◌, ◌≤◌, map, length, sym, ap, ◌∙◌, arith}
use Rattle.line.specs.Seats.{takes_seat}
use Rattle.row.proofs.Rows.{change_more, change_all}
use Rattle.row.proofs.slot_all.Goals as goal

pub loop-line-preserved : goal.loop-line-preserved
loop-line-preserved g c =
    let xs = c.args.lines.now in
    let ys = c.loop-line.lines in
    let i = c.loop-line.line-index in
    let x = c.line-item.result in
    let f = g.L.Line.seats in
    let within : i < length ys = omega (arith, c.loop-line.auto.lines, c.loop-line-test.true) in
    change_more f (takes_seat c.args.level) xs ys i x c.slot.new.self within c.loop-line.auto.lines c.line-item.is
    (c.slot.ensures ∙ ap (λ z. map (takes_seat c.args.level) (f z)) (sym c.line-item.is)) c.loop-line.invariant

pub returns : goal.returns
returns g c =
    let ys = c.loop-line.lines in
    let i = c.loop-line.line-index in
    let all : length ys ≤ i = omega (arith, c.loop-line.auto.lines, c.loop-line-test.false) in
    change_all g.L.Line.seats (takes_seat c.args.level) c.args.lines.now ys i c.loop-line.auto.lines all c.loop-line.invariant
