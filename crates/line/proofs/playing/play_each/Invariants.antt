use Rattle.std.proofs.Common.{◌≡◌, map, take}
use Rattle.line.specs.Signals.{played}
use Rattle.line.proofs.playing.play_each.Given as goal

-- the seats have had the signals so far
abbrev pub invariant-loop-signal : goal.invariant-loop-signal
invariant-loop-signal g l =
    g.L.Line.seats l.line ≡ map (played (take l.signal-index l.signals)) (g.L.Line.seats l.initial.line)
