-- A pass depends on the line only through which addresses are on it. Assumes nothing.
use Rattle.std.proofs.Common.{◌≡◌, ℕ, zero, suc, ◌+◌, Bool, true, false, List, [], ◌∷◌, ◌++◌, Option, refl, ap, inl}
use Rattle.address.specs.Bits.{bits}
use Rattle.line.specs.Searching.{answered}
use Rattle.listing.specs.Rule.{State, Walk, deepest, turned, walk, given, walk_levels, searched, outcome_of, slots, levels, passed_by}
use Rattle.listing.specs.Still.{Alike, PassesSeeAddresses}
use Rattle.listing.proofs.Answering.{answered_like}

module _ (xs ys : List ℕ) (same : Alike xs ys) where
  answered_same : (v : Bool) (k a : ℕ) → answered v k a xs ≡ answered v k a ys
  answered_same v k a = answered_like v k a a xs ys (λ _ _. refl) same.there same.back

  walk_same : (d : Option ℕ) (last n i sent : ℕ) (f : List Bool) → walk xs d last n i sent f ≡ walk ys d last n i sent f
  unfolding walk
  walk_same d last zero i sent f = refl
  walk_same d last (suc n) i sent f =
      λ p. turned d last i sent f (answered_same false i sent p) (answered_same true i sent p) (λ v g. walk_same d last n (i + 1) v g p)

  levels_same : (d : Option ℕ) (last n i sent : ℕ) → walk_levels xs d last n i sent ≡ walk_levels ys d last n i sent
  unfolding walk_levels
  levels_same d last zero i sent = refl
  levels_same d last (suc n) i sent =
      λ p. given d last i sent (answered_same false i sent p) (answered_same true i sent p) (λ v. levels_same d last n (i + 1) v p)

searched_same : (xs ys : List ℕ) → Alike xs ys → (s : State) → (searched xs s ≡ searched ys s) × (levels xs s ≡ levels ys s)
searched_same [] [] same s = (refl, refl)
searched_same [] (y ∷ ys) same s = absurd (same.back y (inl refl))
searched_same (x ∷ xs) [] same s = absurd (same.there x (inl refl))
searched_same (x ∷ xs) (y ∷ ys) same s =
    let d = deepest s.opens in (
      walk_same (x ∷ xs) (y ∷ ys) same d s.last 64 0 0 s.opens,
      ap (λ (l : List Bool). bits 0xf0 ++ l) (levels_same (x ∷ xs) (y ∷ ys) same d s.last 64 0 0),
    )

pub passes_see_addresses : PassesSeeAddresses
passes_see_addresses xs ys same s =
    let e = searched_same xs ys same s in
    record {
      answer = ap outcome_of e.0;
      slot_count = ap (λ (w : Walk). slots (outcome_of w)) e.0;
      slot_levels = e.1;
      state = ap (λ (w : Walk). passed_by w s) e.0;
    }
