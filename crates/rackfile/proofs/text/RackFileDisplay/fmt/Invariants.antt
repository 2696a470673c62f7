use Rattle.std.proofs.Common.{map, take, vec_items}
use Rattle.std.specs.Fmt.{IsPlainFormatter, HasWritten}
use Rattle.rackfile.specs.Files.{listed}
use Rattle.rackfile.specs.Reports.{lines}
use Rattle.rackfile.proofs.text.RackFileDisplay.fmt.Given as goal

-- the lines of the entries so far are written
abbrev pub invariant-loop-index : goal.invariant-loop-index
invariant-loop-index g l =
    IsPlainFormatter l.initial.f → HasWritten g.W.Write.write_str_gives l.initial.f (lines 1 (map listed (take l.index (vec_items l.self.entries)))) l.f
