-- The quotient that `div_euclid` answers is rounded towards the lower number. Assumes nothing.
use Rattle.std.proofs.Common.{◌≡◌, ℕ, zero, suc, ◌*◌, ◌/◌, ◌≤◌, ℤ, pos, negsuc, ◌+ℤ◌, ◌*ℤ◌, ◌<ℤ◌, sym, subst, mod-lt, suc-mul, add-mul, div-add-mod', arith}
use Rattle.std.proofs.lemmas.Int.{ints}
use Rattle.gauge.specs.Measures.{RoundsDown}

-- one unit more than -(q + 1) of them is above -(a + 1), where q of them are at most a
above : (q u a : ℕ) → q * u ≤ a → negsuc a <ℤ ((negsuc q +ℤ pos 1) *ℤ pos u)
above zero u a h = omega (arith, ints)
above (suc q) u a h =
    let less : negsuc (suc q) +ℤ pos 1 ≡ negsuc q = omega (arith, ints) in
    let below : negsuc a <ℤ (negsuc q *ℤ pos u) = omega (arith, ints) in
    subst (λ (z : ℤ). negsuc a <ℤ (z *ℤ pos u)) (sym less) below

pub rounds_down : RoundsDown
rounds_down (pos a) (suc u) h =
    let q = a / suc u in
    let e = div-add-mod' a (suc u) in
    let l = mod-lt a h in
    (omega (arith, ints), omega (arith, ints, add-mul q 1 (suc u)))
rounds_down (negsuc a) (suc u) h =
    let q = a / suc u in
    let e = div-add-mod' a (suc u) in
    let l = mod-lt a h in
    let more = suc-mul q (suc u) in
    (omega (arith, ints), above q (suc u) a (omega arith))
rounds_down (pos a) zero h = absurd (omega arith)
rounds_down (negsuc a) zero h = absurd (omega arith)
