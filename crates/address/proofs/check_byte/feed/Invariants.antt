use Rattle.std.proofs.Common.{◌≡◌, ◌<◌, drop}
use Rattle.address.specs.CheckByte.{fed, stages}
use Rattle.address.proofs.check_byte.feed.Given as goal

-- what is left to feed gives what all of it gave at the start
abbrev pub invariant-loop-level : goal.invariant-loop-level
invariant-loop-level l =
    (l.register < 256)
    × (fed (drop l.level-index l.level-items) (stages l.register) ≡ fed l.level-items (stages l.initial.register))
