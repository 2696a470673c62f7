-- A walk bit by bit, as a loop over 64 bits makes it. Assumes nothing.
use Rattle.std.proofs.Common.{◌≡◌, ℕ, suc, ◌+◌, ◌-◌, ◌<◌, Bool, true, false, cond, not, List, [], ◌∷◌, ◌++◌, set, is_some, Option, Err, refl, ap, ◌∙◌, arith}
use Rattle.std.proofs.lemmas.Bool.{cond-true, cond-false}
use Rattle.line.specs.Searching.{answered}
use Rattle.line.specs.Stages.{with_bit}
use Rattle.listing.specs.declared.walk.Stop.{Stop}
use Rattle.listing.specs.declared.walk.Stop.TheVariants.{Silent, At}
use Rattle.listing.specs.Meaning.{walk_of}
use Rattle.listing.specs.Rule.{State, stopped, reached, deepest, closing, passed_by, stops, wanted, forks, turned, walk, given, walk_levels}

-- the walk stops at bit i
abbrev pub halts : List ℕ → Option ℕ → ℕ → ℕ → ℕ → Bool
halts xs d last i sent = stops d last i (answered false i sent xs) (answered true i sent xs)

-- what is sent up to bit i, and this bit too
abbrev pub onward : List ℕ → Option ℕ → ℕ → ℕ → ℕ → ℕ
onward xs d last i sent = with_bit i (wanted d last i (answered false i sent xs)) sent

-- the flags, with bit i opened if it is
abbrev pub flagged : List ℕ → Option ℕ → ℕ → ℕ → List Bool → List Bool
flagged xs d i sent f = cond (forks d i (answered false i sent xs) (answered true i sent xs)) (set f i true) f

-- a walk with no bits left has reached its address
pub walk_end : (xs : List ℕ) (d : Option ℕ) (last i sent : ℕ) (f : List Bool) → walk xs d last 0 i sent f ≡ reached sent f
unfolding walk
walk_end xs d last i sent f = refl

walk_more : (xs : List ℕ) (d : Option ℕ) (last n i sent : ℕ) (f : List Bool) → walk xs d last (suc n) i sent f ≡ turned d last i sent f (answered false i sent xs) (answered true i sent xs) (λ v g. walk xs d last n (i + 1) v g)
unfolding walk
walk_more xs d last n i sent f = refl

one_left : (i : ℕ) → i < 64 → 64 - i ≡ suc (64 - (i + 1))
one_left i l = omega arith

module _ (xs : List ℕ) (d : Option ℕ) (last i sent : ℕ) (f : List Bool) (l : i < 64) where
  turn : walk xs d last (64 - i) i sent f ≡ turned d last i sent f (answered false i sent xs) (answered true i sent xs) (λ v g. walk xs d last (64 - (i + 1)) (i + 1) v g)
  turn = ap (λ (n : ℕ). walk xs d last n i sent f) (one_left i l) ∙ walk_more xs d last (64 - (i + 1)) i sent f

  -- the value told is not answered
  pub walk_stops : halts xs d last i sent ≡ true → walk xs d last (64 - i) i sent f ≡ stopped i
  walk_stops e = turn ∙ cond-true _ (stopped i) _ e

  -- the value wanted is sent, and the walk goes on
  pub walk_on : halts xs d last i sent ≡ false → walk xs d last (64 - i) i sent f ≡ walk xs d last (64 - (i + 1)) (i + 1) (onward xs d last i sent) (flagged xs d i sent f)
  walk_on e = turn ∙ cond-false _ (stopped i) _ e

-- ---- levels

-- a walk with no bits left gives no more levels
pub levels_end : (xs : List ℕ) (d : Option ℕ) (last i sent : ℕ) → walk_levels xs d last 0 i sent ≡ []
unfolding walk_levels
levels_end xs d last i sent = refl

levels_more : (xs : List ℕ) (d : Option ℕ) (last n i sent : ℕ) → walk_levels xs d last (suc n) i sent ≡ given d last i sent (answered false i sent xs) (answered true i sent xs) (λ v. walk_levels xs d last n (i + 1) v)
unfolding walk_levels
levels_more xs d last n i sent = refl

module _ (xs : List ℕ) (d : Option ℕ) (last i sent : ℕ) (l : i < 64) where
  turn_levels : walk_levels xs d last (64 - i) i sent ≡ given d last i sent (answered false i sent xs) (answered true i sent xs) (λ v. walk_levels xs d last (64 - (i + 1)) (i + 1) v)
  turn_levels = ap (λ (n : ℕ). walk_levels xs d last n i sent) (one_left i l) ∙ levels_more xs d last (64 - (i + 1)) i sent

  pub levels_stop : halts xs d last i sent ≡ true → walk_levels xs d last (64 - i) i sent ≡ not (answered false i sent xs) ∷ not (answered true i sent xs) ∷ []
  levels_stop e = turn_levels ∙ ap (λ (bs : List Bool). not (answered false i sent xs) ∷ not (answered true i sent xs) ∷ bs) (cond-true _ [] _ e)

  pub levels_on : halts xs d last i sent ≡ false → walk_levels xs d last (64 - i) i sent ≡ not (answered false i sent xs) ∷ not (answered true i sent xs) ∷ wanted d last i (answered false i sent xs) ∷ walk_levels xs d last (64 - (i + 1)) (i + 1) (onward xs d last i sent)
  levels_on e = turn_levels ∙ ap (λ (bs : List Bool). not (answered false i sent xs) ∷ not (answered true i sent xs) ∷ bs) (cond-false _ [] _ e)

-- a walk that stopped keeps the list and the last address, and closes the deepest open bit
pub stopped_leaves : (stop : Stop) (s : State) → passed_by (walk_of (Err stop)) s ≡ record { listed = s.listed ++ []; last = s.last; opens = closing (deepest s.opens) s.opens; limit = s.limit; complete = not (is_some (deepest (closing (deepest s.opens) s.opens))) }
stopped_leaves Silent s = refl
stopped_leaves (At bit) s = refl
