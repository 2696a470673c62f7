use Rattle.std.proofs.Common.{List, map, get_or, take, sym, ap, ◌∙◌}
use Rattle.std.proofs.lemmas.List.{take_more, take_all}
use Rattle.line.specs.declared.signal.Signal.{Signal}
use Rattle.line.specs.declared.signal.Signal.TheVariants.{Reset}
use Rattle.line.specs.Signals.{signalled, played}
use Rattle.line.proofs.Plays.{played_none, played_more}
use Rattle.line.proofs.playing.play_each.Goals as goal

pub loop-signal-init : goal.loop-signal-init
loop-signal-init g c = sym (played_none (g.L.Line.seats c.args.line.now))

pub loop-signal-preserved : goal.loop-signal-preserved
loop-signal-preserved g c =
    let i = c.loop-signal.signal-index in
    let signals = c.args.signals.now in
    let ss = g.L.Line.seats c.args.line.now in
    c.give.ensures
    ∙ ap (map (signalled (get_or signals i Reset))) c.loop-signal.invariant
    ∙ played_more (take i signals) (get_or signals i Reset) ss
    ∙ ap (λ (xs : List Signal). map (played xs) ss) (sym (take_more signals i Reset c.loop-signal-test.true))

pub returns : goal.returns
returns g c =
    let ss = g.L.Line.seats c.args.line.now in
    c.loop-signal.invariant ∙ ap (λ (xs : List Signal). map (played xs) ss) (take_all c.loop-signal.signal-index c.args.signals.now c.loop-signal-test.false)
