-- Seats of two lines, and seats that are off. Assumes nothing.
use Rattle.std.proofs.Common.{◌≡◌, Bool, true, false, ◌&&◌, ◌||◌, List, [], ◌∷◌, ◌++◌, map, sym, refl, ap, ◌∙◌}
use Rattle.std.proofs.lemmas.Bool.{both_ways}
use Rattle.line.specs.declared.presence.Presence.{Presence}
use Rattle.line.specs.declared.presence.Presence.TheVariants.{Empty}
use Rattle.std.proofs.lemmas.List.{map-append}
use Rattle.line.specs.Presences.{together}
use Rattle.line.specs.Seats.{Seat, drives_seat, drives_line, takes_seat, reset_seat, off, occupied, presence, through}

and_assoc : (a b c : Bool) → (a && (b && c)) ≡ ((a && b) && c)
and_assoc true b c = refl
and_assoc false b c = refl

or_assoc : (a b c : Bool) → (a || (b || c)) ≡ ((a || b) || c)
or_assoc true b c = refl
or_assoc false b c = refl

pub drives_join : (xs ys : List Seat) → drives_line (xs ++ ys) ≡ (drives_line xs && drives_line ys)
drives_join [] ys = refl
drives_join (x ∷ xs) ys = ap (λ (b : Bool). drives_seat x && b) (drives_join xs ys) ∙ and_assoc (drives_seat x) (drives_line xs) (drives_line ys)

pub occupied_join : (xs ys : List Seat) → occupied (xs ++ ys) ≡ (occupied xs || occupied ys)
occupied_join [] ys = refl
occupied_join (x ∷ xs) ys = ap (λ (b : Bool). x.attached || b) (occupied_join xs ys) ∙ or_assoc x.attached (occupied xs) (occupied ys)

pub drives_off : (xs : List Seat) → drives_line (map off xs) ≡ true
drives_off [] = refl
drives_off (x ∷ xs) = drives_off xs

pub occupied_off : (xs : List Seat) → occupied (map off xs) ≡ false
occupied_off [] = refl
occupied_off (x ∷ xs) = occupied_off xs

pub takes_off : (level : Bool) (xs : List Seat) → map (takes_seat level) (map off xs) ≡ map off xs
takes_off level [] = refl
takes_off level (x ∷ xs) = ap (λ (l : List Seat). off x ∷ l) (takes_off level xs)

pub reset_off : (xs : List Seat) → map reset_seat (map off xs) ≡ map off xs
reset_off [] = refl
reset_off (x ∷ xs) = ap (λ (l : List Seat). off x ∷ l) (reset_off xs)

pub takes_join : (level : Bool) (xs ys xs' ys' : List Seat) → xs' ≡ map (takes_seat level) xs → ys' ≡ map (takes_seat level) ys → (xs' ++ ys') ≡ map (takes_seat level) (xs ++ ys)
takes_join level xs ys xs' ys' p q = (λ i. p i ++ q i) ∙ sym (map-append (takes_seat level) xs ys)

-- a reset of two lines on one wire
presence_together : (a b : Bool) → together (presence a) (presence b) ≡ presence (a || b)
presence_together true b = refl
presence_together false b = refl

pub presence_join : (p q r : Presence) (xs ys : List Seat) → p ≡ presence (occupied xs) → q ≡ presence (occupied ys) → r ≡ together p q → r ≡ presence (occupied (xs ++ ys))
presence_join p q r xs ys e f g =
    g ∙ (λ i. together (e i) (f i)) ∙ presence_together (occupied xs) (occupied ys) ∙ ap presence (sym (occupied_join xs ys))

pub reset_join : (xs ys xs' ys' : List Seat) → xs' ≡ map reset_seat xs → ys' ≡ map reset_seat ys → (xs' ++ ys') ≡ map reset_seat (xs ++ ys)
reset_join xs ys xs' ys' p q = (λ i. p i ++ q i) ∙ sym (map-append reset_seat xs ys)

-- ---- a detached socket

pub drives_through : (b : Bool) (xs : List Seat) → b ≡ false → true ≡ drives_line (through b xs)
drives_through true xs e = absurd (both_ways true e refl)
drives_through false xs e = sym (drives_off xs)

pub takes_through : (b level : Bool) (xs : List Seat) → b ≡ false → through b xs ≡ map (takes_seat level) (through b xs)
takes_through true level xs e = absurd (both_ways true e refl)
takes_through false level xs e = sym (takes_off level xs)

pub present_through : (b : Bool) (xs : List Seat) → b ≡ false → Empty ≡ presence (occupied (through b xs))
present_through true xs e = absurd (both_ways true e refl)
present_through false xs e = ap presence (sym (occupied_off xs))

pub reset_through : (b : Bool) (xs : List Seat) → b ≡ false → through b xs ≡ map reset_seat (through b xs)
reset_through true xs e = absurd (both_ways true e refl)
reset_through false xs e = sym (reset_off xs)
