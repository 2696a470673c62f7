-- A bit that is shifted in carries the division on by one place. Assumes nothing.
use Rattle.std.proofs.Common.{◌≡◌, ℕ, zero, suc, Bool, true, false, ◌&&◌, List, [], ◌∷◌, get_or, replicate, sym, refl, ap, ◌∙◌}
use mathlib.Core.Bool.{beq}
use Rattle.std.proofs.lemmas.Bool.{and_parts}
use Rattle.address.specs.CheckByte.{Register, xor, cleared, feedback, shifted, fed}
use Rattle.address.specs.Division.{next, onto, raised, multiple, held, Remainder}

-- ---- exclusive or

xor_false : (a : Bool) → a ≡ xor a false
xor_false true = refl
xor_false false = refl

xor_comm : (a b : Bool) → xor a b ≡ xor b a
xor_comm true true = refl
xor_comm true false = refl
xor_comm false true = refl
xor_comm false false = refl

xor_self : (a : Bool) → false ≡ xor a a
xor_self true = refl
xor_self false = refl

-- a test that passes at both bits passes at each
both : (Bool → Bool) → Bool
both f = f true && f false

at : (f : Bool → Bool) (b : Bool) → both f ≡ true → f b ≡ true
unfolding both
at f true h = (and_parts (f true) (f false) h).0
at f false h = (and_parts (f true) (f false) h).1

same : (a b : Bool) → beq a b ≡ true → a ≡ b
same true true h = refl
same true false h = sym h
same false true h = h
same false false h = refl

cancels : Bool → Bool → Bool → Bool → Bool → Bool → Bool → Bool → Bool → Bool
cancels a b c d h s t u v =
    beq (xor (xor (xor a (xor b (xor c d))) h) u)
    (xor (xor a (xor (xor b s) (xor (xor c t) (xor d (xor u v))))) (xor h (xor s (xor t v))))

all_cancel : both (λ a. both (λ b. both (λ c. both (λ d. both (λ h. both (λ s. both (λ t. both (λ u. both (cancels a b c d h s t u))))))))) ≡ true
unfolding both cancels
all_cancel = refl

-- what the feedback adds to the multiple, it adds to the register too
cancel : (a b c d h s t u v : Bool) → xor (xor (xor a (xor b (xor c d))) h) u ≡ xor (xor a (xor (xor b s) (xor (xor c t) (xor d (xor u v))))) (xor h (xor s (xor t v)))
unfolding cancels
cancel a b c d h s t u v =
    same _ _ (at _ v (at _ u (at _ t (at _ s (at _ h (at _ d (at _ c (at _ b (at _ a all_cancel)))))))))

-- ---- polynomials

-- the polynomial that is one bit
constant : Bool → ℕ → Bool
constant b = next b (λ _. false)

raised_next : (k : ℕ) (b : Bool) (p : ℕ → Bool) (n : ℕ) → raised k (next b p) n ≡ xor (raised (suc k) p n) (raised k (constant b) n)
unfolding constant
raised_next zero b p zero = refl
raised_next zero b p (suc n) = xor_false (p n)
raised_next (suc k) b p zero = refl
raised_next (suc k) b p (suc n) = raised_next k b p n

raised_xor : (k : ℕ) (a b : Bool) (n : ℕ) → raised k (constant (xor a b)) n ≡ xor (raised k (constant a) n) (raised k (constant b) n)
unfolding constant
raised_xor zero a b zero = refl
raised_xor zero a b (suc n) = refl
raised_xor (suc k) a b zero = refl
raised_xor (suc k) a b (suc n) = raised_xor k a b n

-- the register one place up: the feedback enters, and the output leaves
held_shifted : (b : Bool) (r : Register) (n : ℕ) → held (shifted b r) (suc n) ≡ xor (held r n) (xor (raised 3 (constant (feedback b r)) n) (xor (raised 4 (constant (feedback b r)) n) (raised 7 (constant r.x7) n)))
unfolding constant
held_shifted b r zero = xor_false r.x0
held_shifted b r (suc zero) = xor_false r.x1
held_shifted b r (suc (suc zero)) = xor_false r.x2
held_shifted b r (suc (suc (suc zero))) = xor_comm (feedback b r) r.x3 ∙ ap (xor r.x3) (xor_false (feedback b r))
held_shifted b r (suc (suc (suc (suc zero)))) = xor_comm (feedback b r) r.x4 ∙ ap (xor r.x4) (xor_false (feedback b r))
held_shifted b r (suc (suc (suc (suc (suc zero))))) = xor_false r.x5
held_shifted b r (suc (suc (suc (suc (suc (suc zero)))))) = xor_false r.x6
held_shifted b r (suc (suc (suc (suc (suc (suc (suc zero))))))) = xor_self r.x7
held_shifted b r (suc (suc (suc (suc (suc (suc (suc (suc n)))))))) = refl

-- X^8 p is a multiple of the divisor and what the register holds
Divided : (ℕ → Bool) → (ℕ → Bool) → Register → Type 0
Divided p q r = (n : ℕ) → raised 8 p n ≡ xor (multiple q n) (held r n)

carried : (b : Bool) (p q : ℕ → Bool) (r : Register) → Divided p q r → Divided (next b p) (next (feedback b r) q) (shifted b r)
unfolding Divided
carried b p q r h zero = xor_self (feedback b r) ∙ ap (λ (a : Bool). xor a (feedback b r)) (xor_false (feedback b r))
carried b p q r h (suc n) =
    let w = feedback b r in
    raised_next 7 b p n
    ∙ ap (λ (a : Bool). xor a (raised 7 (constant b) n)) (h n)
    ∙ cancel (q n) (raised 4 q n) (raised 5 q n) (raised 8 q n) (held r n) (raised 3 (constant w) n) (raised 4 (constant w) n) (raised 7 (constant b) n) (raised 7 (constant r.x7) n)
    ∙ (let four = sym (raised_next 3 w q n) in
    let five = sym (raised_next 4 w q n) in
    let eight = ap (xor (raised 8 q n)) (sym (raised_xor 7 b r.x7 n)) ∙ sym (raised_next 7 w q n) in
    let up = sym (held_shifted b r n) in
    λ i. xor (xor (q n) (xor (four i) (xor (five i) (eight i)))) (up i))

divided : (bs : List Bool) (p q : ℕ → Bool) (r : Register) → Divided p q r → (q' : ℕ → Bool) × Divided (onto bs p) q' (fed bs r)
unfolding fed
divided [] p q r h = (q, h)
divided (b ∷ bs) p q r h = divided bs (next b p) (next (feedback b r) q) (shifted b r) (carried b p q r h)

raised_nothing : (k n : ℕ) → raised k (λ _. false) n ≡ false
raised_nothing zero n = refl
raised_nothing (suc k) zero = refl
raised_nothing (suc k) (suc n) = raised_nothing k n

zeros : (k n : ℕ) → get_or (replicate k false) n false ≡ false
zeros zero n = refl
zeros (suc k) zero = refl
zeros (suc k) (suc n) = zeros k n

nothing : Divided (λ _. false) (λ _. false) cleared
unfolding Divided
nothing n =
    raised_nothing 8 n
    ∙ sym (λ i. xor (xor false (xor (raised_nothing 4 n i) (xor (raised_nothing 5 n i) (raised_nothing 8 n i)))) (zeros 8 n i))

-- the register after bits is what their division leaves
pub remainder : (bs : List Bool) → Remainder bs (fed bs cleared)
unfolding Divided
remainder bs = divided bs (λ _. false) (λ _. false) cleared nothing
