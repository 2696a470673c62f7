-- Signals given one after the other. Assumes nothing.
use Rattle.std.proofs.Common.{◌≡◌, List, [], ◌∷◌, ◌++◌, map, sym, refl, ap, ◌∙◌}
use Rattle.std.proofs.lemmas.Simd.{map-map}
use Rattle.line.specs.declared.signal.Signal.{Signal}
use Rattle.line.specs.Seats.{Seat}
use Rattle.line.specs.Signals.{signalled, played}

pub played_none : (ss : List Seat) → map (played []) ss ≡ ss
unfolding played
played_none [] = refl
played_none (s ∷ ss) = ap (λ (l : List Seat). s ∷ l) (played_none ss)

pub played_append : (xs ys : List Signal) (s : Seat) → played (xs ++ ys) s ≡ played ys (played xs s)
unfolding played
played_append [] ys s = refl
played_append (x ∷ xs) ys s = played_append xs ys (signalled x s)

played_last : (xs : List Signal) (x : Signal) (s : Seat) → signalled x (played xs s) ≡ played (xs ++ x ∷ []) s
unfolding played
played_last xs x s = sym (played_append xs (x ∷ []) s)

-- one signal more
pub played_more : (xs : List Signal) (x : Signal) (ss : List Seat) → map (signalled x) (map (played xs) ss) ≡ map (played (xs ++ x ∷ [])) ss
played_more xs x ss = map-map (signalled x) (played xs) ss ∙ ap (λ (f : Seat → Seat). map f ss) (λ i s. played_last xs x s i)
