-- A signed number of 16 bits that is shifted. Assumes nothing.
use Rattle.std.proofs.Common.{◌≡◌, ℕ, zero, suc, ◌+◌, ◌-◌, ◌*◌, ◌%◌, ◌^◌, ◌≤◌, ◌<◌, ℤ, pos, negsuc, ◌-ℤ◌, ◌*ℤ◌, ◌≤ℤ◌, ap, ◌∙◌, arith, rules, w16, to_z, of_z}
use lib.IntN.{neg_ℤ}
use Rattle.std.proofs.Math.Nat.{mul-le-mul_right, one-le-mul, mul-sub, mul_comm}
use Rattle.std.proofs.lemmas.Nat.{pow_pos, mod-mul-add}
use Rattle.std.proofs.lemmas.Int.{ints, to_z-of_z}
use Rattle.gauge.specs.Registers.{Fits}

-- what a product is short of some turns
turns : (m p : ℕ) → 0 < p → m * p ≤ 65536 → 1 ≤ m * p → (65536 - m) * p % 65536 ≡ 65536 - m * p
turns m p some h l =
    let parts = mul-sub p 65536 m in
    let sum : (65536 - m) * p ≡ (p - 1) * 65536 + (65536 - m * p) = omega (arith, parts, mul_comm p m, mul_comm p (65536 - m)) in
    ap (λ (n : ℕ). n % 65536) sum ∙ mod-mul-add (p - 1) 65536 (65536 - m * p) (omega arith)

-- the upper half of 16 bits has the numbers below 0
backwards : (m : ℕ) → 1 ≤ m → m ≤ 32768 → to_z w16 (65536 - m) ≡ neg_ℤ (pos m)
backwards zero l h = absurd (omega arith)
backwards (suc k) l h = to_z-of_z w16 (negsuc k) (search (rules, h))

-- a shift is a product, where nothing is shifted out
pub shifted : (z : ℤ) (below above bits : ℕ) → Fits below above bits → (pos 0 -ℤ pos below) ≤ℤ z → z ≤ℤ pos above → to_z w16 (of_z w16 z * 2 ^ bits % 65536) ≡ z *ℤ pos (2 ^ bits)
shifted (pos n) below above bits f low high =
    let few : n * 2 ^ bits ≤ above * 2 ^ bits = mul-le-mul_right (2 ^ bits) (omega (arith, ints)) in
    omega (arith, ints, f.high_shifted)
shifted (negsuc n) below above bits f low high =
    let few : suc n * 2 ^ bits ≤ below * 2 ^ bits = mul-le-mul_right (2 ^ bits) (omega (arith, ints)) in
    let some : 1 ≤ suc n * 2 ^ bits = one-le-mul (omega arith) (pow_pos bits) in
    ap (to_z w16) (turns (suc n) (2 ^ bits) (pow_pos bits) (omega (arith, f.low_shifted)) some)
    ∙ backwards (suc n * 2 ^ bits) some (omega (arith, f.low_shifted))
