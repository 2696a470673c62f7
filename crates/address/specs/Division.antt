-- The check byte as the remainder of a division of polynomials, whose coefficients are 0 and 1. Assumes nothing.
use Rattle.std.specs.Prelude.{◌≡◌, ℕ, zero, suc, Bool, false, List, [], ◌∷◌, slice_index_or}
use Rattle.address.specs.CheckByte.{Register, xor}

-- X p + b, where p n is the coefficient of X^n
abbrev pub next : Bool → (ℕ → Bool) → ℕ → Bool
next b p zero = b
next b p (suc n) = p n

-- the polynomial p with these bits behind it, the last being the coefficient of X^0
abbrev pub onto : List Bool → (ℕ → Bool) → ℕ → Bool
onto [] p = p
onto (b ∷ bs) p = onto bs (next b p)

-- bits as a polynomial
abbrev pub polynomial : List Bool → ℕ → Bool
polynomial bs = onto bs (λ _. false)

-- X^k p
abbrev pub raised : ℕ → (ℕ → Bool) → ℕ → Bool
raised zero p = p
raised (suc k) p = next false (raised k p)

-- the sum, in which 1 + 1 is 0
abbrev pub plus : (ℕ → Bool) → (ℕ → Bool) → ℕ → Bool
plus p q n = xor (p n) (q n)

-- (X^8 + X^5 + X^4 + 1) q
abbrev pub multiple : (ℕ → Bool) → ℕ → Bool
multiple q = plus q (plus (raised 4 q) (plus (raised 5 q) (raised 8 q)))

-- what the register holds, as a polynomial of degree below 8
abbrev pub held : Register → ℕ → Bool
held r n = slice_index_or (r.x0 ∷ r.x1 ∷ r.x2 ∷ r.x3 ∷ r.x4 ∷ r.x5 ∷ r.x6 ∷ r.x7 ∷ []) n false

-- X^8 times the bits, divided by X^8 + X^5 + X^4 + 1, leaves what the register holds
abbrev pub Remainder : List Bool → Register → Type 0
Remainder bs r = (q : ℕ → Bool) × ((n : ℕ) → raised 8 (polynomial bs) n ≡ plus (multiple q) (held r) n)
