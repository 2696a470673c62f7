use Rattle.std.proofs.Common.{ℕ, ◌<◌}
use Rattle.rackfile.specs.declared.Flaw.{Flaw}
use Rattle.rackfile.specs.Refusals.{Has}
use Rattle.rackfile.proofs.layout.Layout.check.Given as goal

-- the entries so far have no flaw
abbrev pub invariant-loop-entry : goal.invariant-loop-entry
invariant-loop-entry l = (i : ℕ) → i < l.entry-counter → (w : Flaw) → Has l.self i w → ⊥
