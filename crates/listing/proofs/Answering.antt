-- What is answered and what is sent, by bits. Assumes nothing.
use Rattle.std.proofs.Common.{◌≡◌, ℕ, zero, suc, ◌+◌, ◌-◌, ◌/◌, ◌%◌, ◌^◌, ◌<◌, ◌≤◌, Bool, true, false, ◌&&◌, eqb, List, [], ◌∷◌, sym, refl, ap, ◌∙◌, subst, inl, inr, ⊎_elim, lt_trans, lt-suc_self, add-one, arith, pow_pos}
use mathlib.Core.Bool.{beq}
use native.Mathlib.Nat.{add-mod_right, add-div_right, div-eq_of_lt, two-pow-succ}
use lib.Pow.{field, mod-mod-pow}
use Rattle.std.proofs.lemmas.Bool.{both_ways, and_parts, and_from, or_cases, or_left, or_right}
use Rattle.std.specs.List.{AllByRecursion}
use Rattle.address.specs.Bits.{bit}
use Rattle.address.specs.SearchOrder.{Agree}
use Rattle.address.specs.Numbers.{bit_beyond}
use Rattle.line.specs.Searching.{agree, answered}
use Rattle.line.specs.Stages.{with_bit}
use Rattle.line.proofs.Agrees.{agree_bits, beq_true, beq_self}
use Rattle.listing.specs.Runs.{On}

-- what holds of all holds of each
pub all_on : (P : ℕ → Type 0) (xs : List ℕ) (a : ℕ) → AllByRecursion P xs → On a xs → P a
all_on P [] a h on = absurd on
all_on P (x ∷ xs) a h (inl e) = subst P (sym e) h.0
all_on P (x ∷ xs) a h (inr on) = all_on P xs a h.1 on

-- ---- agreement

pub agree_flip : (k a b : ℕ) → Agree k a b → Agree k b a
agree_flip k a b h = λ j l. sym (h j l)

pub agree_then : (k a b c : ℕ) → Agree k a b → Agree k b c → Agree k a c
agree_then k a b c p q = λ j l. p j l ∙ q j l

pub agree_less : (j k a b : ℕ) → j ≤ k → Agree k a b → Agree j a b
agree_less j k a b l h = λ i m. let n : i < k = omega arith in h i n

bits_agree : (k x a : ℕ) → Agree k x a → agree k x a ≡ true
bits_agree zero x a h = refl
bits_agree (suc k) x a h =
    and_from (agree k x a) (beq (bit k a) (bit k x)) (bits_agree k x a (λ j l. h j (lt_trans l (lt-suc_self k))))
    (ap (λ (b : Bool). beq (bit k a) b) (h k (lt-suc_self k)) ∙ beq_self (bit k a))

-- ---- what is answered

-- an address with a's bits below k answers its value at bit k
pub answers : (v : Bool) (k a : ℕ) (xs : List ℕ) (x : ℕ) → On x xs → Agree k x a → bit k x ≡ v → answered v k a xs ≡ true
answers v k a [] x h g e = absurd h
answers v k a (y ∷ ys) x (inl same) g e =
    or_left _ (answered v k a ys)
    (subst (λ (z : ℕ). (agree k z a && beq v (bit k z)) ≡ true) same
    (and_from (agree k x a) (beq v (bit k x)) (bits_agree k x a g) (ap (beq v) e ∙ beq_self v)))
answers v k a (y ∷ ys) x (inr h) g e = or_right (agree k y a && beq v (bit k y)) _ (answers v k a ys x h g e)

-- a value answered is that of some address with a's bits below k
pub answered_some : (v : Bool) (k a : ℕ) (xs : List ℕ) → answered v k a xs ≡ true → (x : ℕ) × On x xs × Agree k x a × (bit k x ≡ v)
answered_some v k a [] e = absurd (both_ways true (sym e) refl)
answered_some v k a (y ∷ ys) e =
    ⊎_elim
    (λ here. let parts = and_parts (agree k y a) (beq v (bit k y)) here in (y, inl refl, agree_bits k y a parts.0, sym (beq_true v (bit k y) parts.1)))
    (λ later. let some = answered_some v k a ys later in (some.0, inr some.1, some.2, some.3))
    (or_cases (agree k y a && beq v (bit k y)) (answered v k a ys) e)

-- tests that follow from one another are the same
pub same_test : (s t : Bool) → (s ≡ true → t ≡ true) → (t ≡ true → s ≡ true) → s ≡ t
same_test true t p q = sym (p refl)
same_test false true p q = q refl
same_test false false p q = refl

-- what is answered depends only on the bits below k, and on which addresses there are
pub answered_like : (v : Bool) (k a b : ℕ) (xs ys : List ℕ) → Agree k a b → ((x : ℕ) → On x xs → On x ys) → ((x : ℕ) → On x ys → On x xs) → answered v k a xs ≡ answered v k b ys
answered_like v k a b xs ys g there back =
    same_test (answered v k a xs) (answered v k b ys)
    (λ e. let some = answered_some v k a xs e in answers v k b ys some.0 (there some.0 some.1) (agree_then k some.0 a b some.2 g) some.3)
    (λ e. let some = answered_some v k b ys e in answers v k a xs some.0 (back some.0 some.1) (agree_then k some.0 b a some.2 (agree_flip k a b g)) some.3)

-- ---- what is sent

-- the bits of a remainder
bit_of_rest : (a j m : ℕ) → a / 2 ^ j % 2 ≡ a % 2 ^ (m + 1 + j) / 2 ^ j % 2
bit_of_rest a j m = sym (mod-mod-pow (a / 2 ^ j) m 1) ∙ ap (λ (x : ℕ). x % 2) (sym (field a (m + 1) j))

rest_agrees : (k a b : ℕ) → a % 2 ^ k ≡ b % 2 ^ k → Agree k a b
rest_agrees k a b e j l =
    let m = k - j - 1 in
    let split : m + 1 + j ≡ k = omega arith in
    let same : a % 2 ^ (m + 1 + j) ≡ b % 2 ^ (m + 1 + j) = subst (λ (n : ℕ). a % 2 ^ n ≡ b % 2 ^ n) (sym split) e in
    ap (λ (n : ℕ). eqb n 1) (bit_of_rest a j m ∙ ap (λ (n : ℕ). n / 2 ^ j % 2) same ∙ sym (bit_of_rest b j m))

pub sent_small : (i sent : ℕ) (v : Bool) → sent < 2 ^ i → with_bit i v sent < 2 ^ (i + 1)
sent_small i sent true h = omega (arith, two-pow-succ i, ap (λ (n : ℕ). 2 ^ n) (add-one i))
sent_small i sent false h = omega (arith, two-pow-succ i, ap (λ (n : ℕ). 2 ^ n) (add-one i))

pub sent_below : (i sent : ℕ) (v : Bool) → Agree i (with_bit i v sent) sent
sent_below i sent true = rest_agrees i (sent + 2 ^ i) sent (add-mod_right sent (2 ^ i))
sent_below i sent false = λ j l. refl

pub sent_here : (i sent : ℕ) (v : Bool) → sent < 2 ^ i → bit i (with_bit i v sent) ≡ v
sent_here i sent true h =
    let over : (sent + 2 ^ i) / 2 ^ i ≡ 1 = add-div_right sent (pow_pos i) ∙ ap (λ (n : ℕ). n + 1) (div-eq_of_lt h) in
    ap (λ (n : ℕ). eqb (n % 2) 1) over
sent_here i sent false h = bit_beyond sent i i h (omega arith)
