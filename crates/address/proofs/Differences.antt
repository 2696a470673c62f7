-- The lowest bit at which two numbers differ. Assumes nothing.
use Rattle.std.proofs.Common.{◌≡◌, ℕ, zero, suc, ◌+◌, ◌/◌, ◌%◌, ◌^◌, ◌<◌, Equal, eqb, sym, ap, ◌∙◌, refl, lt-suc_self, arith}
use Rattle.std.specs.Int.{bit_at, trailing_zeros, w64}
use Rattle.std.specs.Int.Bits.{bit_xor}
use Rattle.std.specs.Ordering.{MatchOrdering, bool_cmp}
use Rattle.std.proofs.lemmas.Nat.{xor_lt}
use Rattle.std.proofs.lemmas.Nat.Bits.{bit_at_xor, bit_at-lt, bit_at-zero, bit_at-trailing_zeros}
use Rattle.address.specs.Bits.{bit}
use Rattle.address.specs.Numbers.{agree_same, odd_same}
use Rattle.address.specs.Orders.{one_bit_more, with_equal}
use Rattle.address.specs.SearchOrder.{Agree, Before}

-- where the exclusive or has 0, two numbers have the same bit
same_bit : (a b i : ℕ) → bit_at (bit_xor a b) i ≡ 0 → bit i a ≡ bit i b
same_bit a b i h =
    let even : (bit_at a i + bit_at b i) % 2 ≡ 0 = sym (bit_at_xor a b i) ∙ h in
    let same : bit_at a i ≡ bit_at b i = omega (arith, even, bit_at-lt a i, bit_at-lt b i) in
    ap (λ (n : ℕ). eqb n 1) same

-- where it has 1, they have not
bits_differ : (a b i : ℕ) → bit_at (bit_xor a b) i ≡ 1 → bit i a ≡ bit i b → ⊥
bits_differ a b i h e =
    let odd : (bit_at a i + bit_at b i) % 2 ≡ 1 = sym (bit_at_xor a b i) ∙ h in
    let same : bit_at a i ≡ bit_at b i = odd_same (a / 2 ^ i) (b / 2 ^ i) (bit i b) e refl in
    omega (arith, odd, same)

-- where the bits below k agree, those at k decide, if numbers that have them in common too are one
by_bit : (k a b : ℕ) → Agree k a b → (Agree (suc k) a b → a ≡ b) → MatchOrdering (bool_cmp (bit k a) (bit k b)) (Before a b) (a ≡ b) (Before b a)
by_bit k a b below one =
    with_equal (bool_cmp (bit k a) (bit k b)) (Before a b) (Agree (suc k) a b) (a ≡ b) (Before b a) one (one_bit_more k a b Equal (bit k a) (bit k b) below refl refl)

-- the exclusive or is 0 and the numbers are one, or it has a lowest 1
by_difference : (a b x : ℕ) → a < 2 ^ 64 → b < 2 ^ 64 → x < 2 ^ 64 → bit_xor a b ≡ x → MatchOrdering (bool_cmp (bit (trailing_zeros w64 x) a) (bit (trailing_zeros w64 x) b)) (Before a b) (a ≡ b) (Before b a)
by_difference a b zero small_a small_b small e =
    let same : (i : ℕ) → bit i a ≡ bit i b = λ i. same_bit a b i (ap (λ (n : ℕ). bit_at n i) e ∙ bit_at-zero i) in
    by_bit (trailing_zeros w64 0) a b (λ i l. same i) (λ h. agree_same 64 a b small_a small_b (λ i l. same i))
by_difference a b (suc x) small_a small_b small e =
    let k = trailing_zeros w64 (suc x) in
    let lowest = bit_at-trailing_zeros w64 (suc x) (omega arith) small in
    let at : (i : ℕ) → bit_at (bit_xor a b) i ≡ bit_at (suc x) i = λ i. ap (λ (n : ℕ). bit_at n i) e in
    by_bit k a b (λ i l. same_bit a b i (at i ∙ lowest.2 i l)) (λ h. absurd (bits_differ a b k (at k ∙ lowest.1) (h k (lt-suc_self k))))

-- the lowest bit of the exclusive or of two numbers decides how they stand
pub by_lowest : (a b : ℕ) → a < 2 ^ 64 → b < 2 ^ 64 → MatchOrdering (bool_cmp (bit (trailing_zeros w64 (bit_xor a b)) a) (bit (trailing_zeros w64 (bit_xor a b)) b)) (Before a b) (a ≡ b) (Before b a)
by_lowest a b small_a small_b = by_difference a b (bit_xor a b) small_a small_b (xor_lt 64 a b small_a small_b) refl
