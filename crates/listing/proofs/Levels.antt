-- How many slots a walk takes. Assumes nothing.
use Rattle.std.proofs.Common.{◌≡◌, ℕ, zero, suc, ◌+◌, ◌*◌, Bool, true, false, cond, List, [], ◌∷◌, ◌++◌, length, set, Option, refl, ◌∙◌, arith}
use Rattle.std.proofs.lemmas.List.{length-append}
use Rattle.address.specs.Bits.{bits}
use Rattle.address.specs.Parts.{right}
use Rattle.line.specs.Searching.{answered}
use Rattle.line.specs.Stages.{with_bit}
use Rattle.listing.specs.Rule.{State, Walk, silent, stopped, reached, found, spoilt, deepest, stops, wanted, forks, walk, walk_levels, searched, outcome_of, outcome, slots, levels}

-- n bits from bit i on gave this many levels
Gave : ℕ → ℕ → ℕ → Walk → Type 0
Gave n i many silent = ⊥
Gave n i many (stopped j) = many + 3 * i ≡ 3 * j + 2
Gave n i many (reached a f) = many ≡ 3 * n

gave_more : (n i many : ℕ) (w : Walk) → Gave n (i + 1) many w → Gave (suc n) i (suc (suc (suc many))) w
unfolding Gave
gave_more n i many silent h = h
gave_more n i many (stopped j) h = omega arith
gave_more n i many (reached a f) h = omega arith

gave_turn : (n i : ℕ) (t z : Bool) (ls : List Bool) (w : Walk) → Gave n (i + 1) (length ls) w → Gave (suc n) i (suc (suc (length (cond t [] (z ∷ ls))))) (cond t (stopped i) w)
unfolding Gave
gave_turn n i true z ls w h = omega arith
gave_turn n i false z ls w h = gave_more n i (length ls) w h

walk_gave : (xs : List ℕ) (d : Option ℕ) (last n i sent : ℕ) (f : List Bool) → Gave n i (length (walk_levels xs d last n i sent)) (walk xs d last n i sent f)
unfolding Gave walk walk_levels
walk_gave xs d last zero i sent f = refl
walk_gave xs d last (suc n) i sent f =
    let low = answered false i sent xs in
    let high = answered true i sent xs in
    let v = with_bit i (wanted d last i low) sent in
    let g = cond (forks d i low high) (set f i true) f in
    gave_turn n i (stops d last i low high) (wanted d last i low) (walk_levels xs d last n (i + 1) v) (walk xs d last n (i + 1) v g) (walk_gave xs d last n (i + 1) v g)

reached_slots : (t : Bool) (a : ℕ) → slots (cond t (found a) (spoilt a)) ≡ 200
reached_slots true a = refl
reached_slots false a = refl

gave_slots : (many : ℕ) (w : Walk) → Gave 64 0 many w → many + 8 ≡ slots (outcome_of w)
unfolding Gave
gave_slots many silent h = absurd h
gave_slots many (stopped j) h = omega arith
gave_slots many (reached a f) h = let two-hundred = reached_slots (right a) a in omega arith

-- the levels of a pass are as many as its slots
pub levels_slots : (xs : List ℕ) (s : State) → length (levels xs s) ≡ slots (outcome xs s)
levels_slots [] s = refl
levels_slots (x ∷ xs) s =
    let d = deepest s.opens in
    let ls = walk_levels (x ∷ xs) d s.last 64 0 0 in
    let eight : length (bits 0xf0 ++ ls) ≡ length ls + 8 = omega (arith, length-append (bits 0xf0) ls) in
    eight ∙ gave_slots (length ls) (searched (x ∷ xs) s) (walk_gave (x ∷ xs) d s.last 64 0 0 s.opens)
