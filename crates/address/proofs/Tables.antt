-- What a computed test shows of every number below a bound. Assumes nothing.
use Rattle.std.proofs.Common.{◌≡◌, ℕ, zero, suc, ◌<◌, Bool, true, ◌&&◌, sym, subst, ⊎_elim, arith}
use Rattle.std.proofs.lemmas.Bool.{and_parts, cases_eq}

-- the test passes at every number below n
abbrev pub passes_below : (ℕ → Bool) → ℕ → Bool
passes_below f zero = true
passes_below f (suc n) = f n && passes_below f n

pub passes_at : (f : ℕ → Bool) (n : ℕ) → passes_below f n ≡ true → (k : ℕ) → k < n → f k ≡ true
passes_at f zero t k h = absurd (omega arith)
passes_at f (suc n) t k h =
    let parts = and_parts (f n) (passes_below f n) t in
    ⊎_elim (λ e. subst (λ (m : ℕ). f m ≡ true) (sym e) parts.0)
    (λ ne. let l : k < n = omega (arith, ne) in passes_at f n parts.1 k l) (cases_eq k n)
