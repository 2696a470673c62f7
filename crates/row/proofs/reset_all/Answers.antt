use Rattle.std.proofs.Common.{◌+◌, ◌<◌, ◌≤◌, map, length, drop, sym, ap, ◌∙◌, arith}
use Rattle.std.specs.List.{flat_map}
use Rattle.line.specs.Presences.{together}
use Rattle.line.specs.Seats.{reset_seat, occupied, presence}
use Rattle.row.proofs.Rows.{change_more, change_all, same_element, presence_from, none_left, together_more, together_none}
use Rattle.row.proofs.reset_all.Goals as goal

pub loop-line-preserved : goal.loop-line-preserved
loop-line-preserved g c =
    let xs = c.args.lines.now in
    let ys = c.loop-line.lines in
    let i = c.loop-line.line-index in
    let x = c.line-item.result in
    let f = g.L.Line.seats in
    let p = c.loop-line.answer in
    let within : i < length ys = omega (arith, c.loop-line.auto.lines, c.loop-line-test.true) in
    let item = c.line-item.is in
    let rest = presence (occupied (flat_map f (drop (i + 1) xs))) in
    let same = same_element f reset_seat xs ys i x within c.loop-line.auto.lines item c.loop-line.invariant.0 in (
      change_more f reset_seat xs ys i x c.reset.new.self within c.loop-line.auto.lines item
          (c.reset.ensures.after ∙ ap (λ z. map reset_seat (f z)) (sym item)) c.loop-line.invariant.0,
      ap (λ q. together q rest) (c.or-answer.ensures ∙ ap (together p) (c.reset.ensures.present ∙ ap (λ z. presence (occupied (f z))) (sym item)))
          ∙ together_more p (presence (occupied (f x))) rest
          ∙ ap (together p) (sym (presence_from f xs i x c.loop-line-test.true same))
          ∙ c.loop-line.invariant.1,
    )

pub returns : goal.returns
returns g c =
    let xs = c.args.lines.now in
    let ys = c.loop-line.lines in
    let i = c.loop-line.line-index in
    let all : length ys ≤ i = omega (arith, c.loop-line.auto.lines, c.loop-line-test.false) in
    record {
      present = sym (ap (λ l. together c.loop-line.answer (presence (occupied l))) (none_left g.L.Line.seats xs i c.loop-line-test.false) ∙ together_none c.loop-line.answer) ∙ c.loop-line.invariant.1;
      after = change_all g.L.Line.seats reset_seat xs ys i c.loop-line.auto.lines all c.loop-line.invariant.0;
    }
