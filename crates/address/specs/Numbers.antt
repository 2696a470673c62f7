-- Bits of numbers, and the numbers that bits make. Assumes nothing.
use Rattle.std.proofs.Common.{◌≡◌, ℕ, zero, suc, ◌+◌, ◌*◌, ◌/◌, ◌%◌, ◌^◌, ◌<◌, ◌≤◌, Bool, true, false, eqb, sym, refl, ap, ◌∙◌, lt_trans, lt_of_lt_of_le, mod-eq_of_lt, lt-suc_self, div-one, one-add, arith, below_more}
use native.Mathlib.Nat.{div-eq_of_lt, pow-le-pow_right, mod-one}
use lib.Pow.{mod-pow-add}
use Rattle.std.proofs.lemmas.Bool.{eqb-true, eqb-false}
use Rattle.address.specs.Bits.{bit}
use Rattle.address.specs.SearchOrder.{Agree}

-- the lowest bit
pub bit_zero : (n : ℕ) → bit 0 n ≡ eqb (n % 2) 1
bit_zero n = ap (λ (m : ℕ). eqb (m % 2) 1) (div-one n)

-- a number has no bit where its size ends
pub bit_beyond : (n w k : ℕ) → n < 2 ^ w → w ≤ k → bit k n ≡ false
bit_beyond n w k h l =
    let two : 0 < 2 = omega arith in
    ap (λ (m : ℕ). eqb (m % 2) 1) (div-eq_of_lt (lt_of_lt_of_le h (pow-le-pow_right two l)))

-- the bits of one place tell the remainders
pub odd_same : (a b : ℕ) (t : Bool) → eqb (a % 2) 1 ≡ t → eqb (b % 2) 1 ≡ t → a % 2 ≡ b % 2
odd_same a b true p q = eqb-true _ _ p ∙ sym (eqb-true _ _ q)
odd_same a b false p q =
    let x : a % 2 ≡ 1 → ⊥ = eqb-false (a % 2) 1 p in
    let y : b % 2 ≡ 1 → ⊥ = eqb-false (b % 2) 1 q in
    omega (arith, x, y)

-- numbers that agree below k and have the same bit there agree below k + 1
pub agree_more : (k a b : ℕ) → Agree k a b → bit k a ≡ bit k b → Agree (k + 1) a b
agree_more k a b h e = below_more (λ j. bit j a ≡ bit j b) k h e

-- numbers that agree below k have the same remainder
pub agree_mod : (k a b : ℕ) → Agree k a b → a % 2 ^ k ≡ b % 2 ^ k
agree_mod zero a b h = mod-one a ∙ sym (mod-one b)
agree_mod (suc k) a b h =
    let below : Agree k a b = λ j l. h j (lt_trans l (lt-suc_self k)) in
    let here : a / 2 ^ k % 2 ≡ b / 2 ^ k % 2 = odd_same (a / 2 ^ k) (b / 2 ^ k) (bit k b) (h k (lt-suc_self k)) refl in
    let split : (n : ℕ) → n % 2 ^ suc k ≡ (n / 2 ^ k % 2) * 2 ^ k + n % 2 ^ k =
    λ n. ap (λ (m : ℕ). n % 2 ^ m) (sym (one-add k)) ∙ mod-pow-add n 1 k in
    split a ∙ (λ i. here i * 2 ^ k + agree_mod k a b below i) ∙ sym (split b)

-- numbers of w bits that agree in all of them are one
pub agree_same : (w a b : ℕ) → a < 2 ^ w → b < 2 ^ w → Agree w a b → a ≡ b
agree_same w a b p q h = sym (mod-eq_of_lt p) ∙ agree_mod w a b h ∙ mod-eq_of_lt q
