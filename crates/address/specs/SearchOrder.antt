-- Search order: at the lowest bit at which two addresses differ, the one with 0 comes first. Assumes nothing.
use Rattle.std.specs.Prelude.{◌≡◌, ℕ, zero, suc, ◌+◌, ◌<◌, true, false, ◌⊎◌}
use Rattle.std.specs.declared.cmp.Ordering.{Ordering}
use Rattle.std.specs.declared.cmp.Ordering.TheVariants.{Equal}
use Rattle.std.specs.Cmp.{IsTotalOrder}
use Rattle.std.specs.Ordering.{MatchOrdering, ordering_then, bool_cmp}
use Rattle.address.specs.declared.Address.{Address}
use Rattle.address.specs.Bits.{bit}
use Rattle.address.specs.Parts.{number}

-- a and b have the same bits below k
abbrev pub Agree : ℕ → ℕ → ℕ → Type 0
Agree k a b = (j : ℕ) → j < k → bit j a ≡ bit j b

-- a comes before b in search order
abbrev pub Before : ℕ → ℕ → Type 0
Before a b = (k : ℕ) × Agree k a b × (bit k a ≡ false) × (bit k b ≡ true)

-- a relation that is a strict total order
pub record StrictTotal (R : ℕ → ℕ → Type 0) : Type 0 where
  pub irreflexive : (a : ℕ) → R a a → ⊥
  pub transitive : (a b c : ℕ) → R a b → R b c → R a c
  pub total : (a b : ℕ) → (a ≡ b) ⊎ (R a b ⊎ R b a)

-- how a and b stand by their lowest k bits: the first of them at which they differ decides
unfoldable pub ranked : ℕ → ℕ → ℕ → Ordering
ranked zero a b = Equal
ranked (suc k) a b = ordering_then (ranked k a b) (bool_cmp (bit k a) (bit k b))

-- how a and b stand in search order: bit a + b and those above it are 0 in both
abbrev pub standing : ℕ → ℕ → Ordering
standing a b = ranked (a + b) a b

-- how two addresses stand in search order
abbrev pub search_cmp : Address → Address → Ordering
search_cmp x y = standing (number x) (number y)

-- what a comparison of two addresses answers: which comes first, or that they are the same
abbrev pub Ranking : Address → Address → Ordering → Type 0
Ranking x y r = MatchOrdering r (Before (number x) (number y)) (x ≡ y) (Before (number y) (number x))

-- a relation that gives one answer for each two addresses, which make a total order
pub record TotalRanking (R : Address → Address → Ordering → Type 0) : Type 0 where
  pub cmp : Address → Address → Ordering
  pub answers : (x y : Address) → R x y (cmp x y)
  pub one : (x y : Address) (r s : Ordering) → R x y r → R x y s → r ≡ s
  pub total : IsTotalOrder cmp
