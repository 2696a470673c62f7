use Rattle.std.proofs.Common.{◌≡◌, ◌<◌, Err, Some, rules, arith, below_more, ap, subst}
use Rattle.std.specs.Result.{result_err}
use Rattle.std.proofs.lemmas.Result.{err_from_is_err_and}
use Rattle.rackfile.specs.declared.Flaw.{Flaw}
use Rattle.rackfile.specs.declared.Refusal.TheVariants.{Flawed}
use Rattle.rackfile.specs.Files.{count, WellFormed}
use Rattle.rackfile.specs.Refusals.{Has, FirstFlaw}
use Rattle.rackfile.proofs.Turns.{first_flawed}
use Rattle.rackfile.proofs.layout.Layout.check.Goals as goal

pub returns-in_err-map_err : goal.returns-in_err-map_err
returns-in_err-map_err c =
    let f = c.args.self.now in
    let i = c.loop-entry.entry-counter in
    let p = err_from_is_err_and c.from_residual.result c.from_residual.ensures.1 in
    let l : i < count f = omega (arith, ap count c.self.view_is) in
    let q : (w : Flaw) × (c.check_entry.result ≡ Err w) × (c.in_err-map_err.field-0.0 ≡ Flawed i w) = search rules in
    let here : FirstFlaw f i (Some q.0) = subst (λ r. FirstFlaw f i (result_err r)) {y = Err q.0} q.1 c.check_entry.ensures in
    rw (p.1, p.2, q.2) (first_flawed f (subst WellFormed c.self.view_is c.self.invariant.form) i q.0 here c.loop-entry.invariant l)

pub loop-entry-preserved : goal.loop-entry-preserved
loop-entry-preserved c =
    let f = c.args.self.now in
    below_more (λ i. (w : Flaw) → Has f i w → ⊥) c.loop-entry.entry-counter c.loop-entry.invariant (search rules)
