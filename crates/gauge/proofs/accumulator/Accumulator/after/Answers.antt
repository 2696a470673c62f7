use Rattle.std.proofs.Common.{◌≡◌, pos, ◌+ℤ◌, ◌*ℤ◌, ap, ◌∙◌, arith, w16, w32, to_z, of_z}
use Rattle.std.proofs.lemmas.Int.{ints}
use Rattle.gauge.specs.Charges.{charge_of, settled, added, total, capped}
use Rattle.gauge.proofs.Totals.{settled_held}
use Rattle.gauge.proofs.accumulator.Accumulator.after.Goals as goal

pub returns : goal.returns
returns c =
    let p = charge_of c.args.self.now in
    let a = c.args.self.now.amount in
    let s = c.sum.result in
    let n = c.args.counts.now.current.units in
    let k = c.sum.ensures in
    let a-is : to_z w16 (of_z w16 a) ≡ a = omega (arith, ints) in
    let s-is : to_z w32 (of_z w32 s) ≡ p.residue +ℤ pos 11 *ℤ n = omega (arith, ints, k.value, k.low, k.high) in
    let step : charge_of c.settled.result ≡ added n p = c.settled.ensures ∙ (λ i. settled (a-is i) (s-is i)) in
    let h = settled_held a (p.residue +ℤ pos 11 *ℤ n) (omega (arith, ints)) (omega (arith, ints)) (omega (arith, ints)) (omega (arith, ints)) in
    let parts : pos 180000 *ℤ a +ℤ (p.residue +ℤ pos 11 *ℤ n) ≡ total p +ℤ pos 11 *ℤ n = omega (arith, ints) in
    record { step = step; total = ap total step ∙ h.total ∙ ap capped parts }
