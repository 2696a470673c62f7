-- A row of lines, one after the other. Assumes nothing.
use Rattle.std.specs.Prelude.{◌≡◌, ℕ, ◌+◌, ◌<◌, ◌≤◌, Bool, ◌&&◌, List, [], ◌∷◌, ◌++◌, map, length, get_or, take, drop, slice_index_or, slice_set, refl}
use Rattle.std.proofs.Common.{ap, sym, subst, ◌∙◌, le_refl}
use Rattle.std.specs.List.{flat_map, list_all}
use Rattle.std.proofs.lemmas.List.{take_more, take_more_set, take_all, take-append-le, drop_more, drop-set, drop_all, flat_map_more, map-append, length-set}
use Rattle.line.specs.declared.presence.Presence.{Presence}
use Rattle.line.specs.declared.presence.Presence.TheVariants.{Present, Empty}
use Rattle.line.specs.Presences.{together}
use Rattle.line.specs.Seats.{Seat, drives_line, occupied, presence}
use Rattle.line.proofs.Joins.{drives_join, presence_join}

heads : {A : Type 0} {x y : A} {xs ys : List A} → x ∷ xs ≡ y ∷ ys → x ≡ y
heads e = cc

tails : {A : Type 0} {x y : A} {xs ys : List A} → x ∷ xs ≡ y ∷ ys → xs ≡ ys
tails e = cc

module _ {L : Type 0} (f : L → List Seat) where
  -- the seats from line i on: those of that line, and those behind it
  from_line : (xs : List L) (i : ℕ) (x : L) → i < length xs → x ≡ slice_index_or xs i x → flat_map f (drop i xs) ≡ f x ++ flat_map f (drop (i + 1) xs)
  from_line xs i x h e = ap (flat_map f) (drop_more xs i x h) ∙ ap (λ (y : L). f y ++ flat_map f (drop (i + 1) xs)) (sym e)

  -- what the lines from line i on answer to a reset
  pub presence_from : (xs : List L) (i : ℕ) (x : L) → i < length xs → x ≡ slice_index_or xs i x → presence (occupied (flat_map f (drop i xs))) ≡ together (presence (occupied (f x))) (presence (occupied (flat_map f (drop (i + 1) xs))))
  presence_from xs i x h e =
      ap (λ (l : List Seat). presence (occupied l)) (from_line xs i x h e)
      ∙ sym (presence_join (presence (occupied (f x))) (presence (occupied (flat_map f (drop (i + 1) xs)))) _ (f x) (flat_map f (drop (i + 1) xs)) refl refl refl)

  -- none is left behind the last
  pub none_left : (xs : List L) (i : ℕ) → length xs ≤ i → flat_map f (drop i xs) ≡ []
  none_left xs i h = ap (flat_map f) (drop_all i xs h)

  -- ---- a row whose lines change one after the other

  -- the lines below i have changed, those from i on have not
  pub record Changed (g : Seat → Seat) (xs : List L) (i : ℕ) (ys : List L) : Type 0 where
    pub done : flat_map f (take i ys) ≡ map g (flat_map f (take i xs))
    pub left : drop i ys ≡ drop i xs

  pub change_first : (g : Seat → Seat) (xs : List L) → Changed g xs 0 xs
  change_first g xs = record { done = refl; left = refl }

  -- a line that has not changed is the one that was there
  pub same_element : (g : Seat → Seat) (xs ys : List L) (i : ℕ) (x : L) → i < length ys → length ys ≡ length xs → x ≡ slice_index_or ys i x → Changed g xs i ys → x ≡ slice_index_or xs i x
  same_element g xs ys i x h long here c =
      here ∙ sym (heads (sym (drop_more xs i x (subst (λ (n : ℕ). i < n) long h)) ∙ sym c.left ∙ drop_more ys i x h))

  one_joined : (xs : List L) (x : L) → flat_map f (xs ++ x ∷ []) ≡ flat_map f xs ++ f x
  one_joined xs x = sym (flat_map_more f [] xs x)

  pub change_more : (g : Seat → Seat) (xs ys : List L) (i : ℕ) (x y : L) → i < length ys → length ys ≡ length xs → x ≡ slice_index_or ys i x → f y ≡ map g (f x) → Changed g xs i ys → Changed g xs (i + 1) (slice_set ys i y)
  change_more g xs ys i x y h long here after c =
      let within : i < length xs = subst (λ (n : ℕ). i < n) long h in
      let now = drop_more ys i x h in
      let was = drop_more xs i x within in
      let same : get_or xs i x ∷ drop (i + 1) xs ≡ slice_index_or ys i x ∷ drop (i + 1) ys = sym was ∙ sym c.left ∙ now in
      let element : get_or xs i x ≡ x = sym (same_element g xs ys i x h long here c) in
      let put = drop_more (slice_set ys i y) i x (subst (λ (n : ℕ). i < n) (sym (length-set ys i y)) h) in
      record {
        done =
            ap (flat_map f) (take_more_set ys i y h)
            ∙ one_joined (take i ys) y
            ∙ (λ j. c.done j ++ after j)
            ∙ sym (map-append g (flat_map f (take i xs)) (f x))
            ∙ ap (map g) (sym (one_joined (take i xs) x) ∙ ap (λ (z : L). flat_map f (take i xs ++ z ∷ [])) (sym element) ∙ ap (flat_map f) (sym (take_more xs i x within)));
        left = tails (sym put ∙ drop-set ys i y h) ∙ sym (tails same);
      }

  -- all lines have changed
  pub change_all : (g : Seat → Seat) (xs ys : List L) (i : ℕ) → length ys ≡ length xs → length ys ≤ i → Changed g xs i ys → flat_map f ys ≡ map g (flat_map f xs)
  change_all g xs ys i long h c =
      ap (flat_map f) (sym (take_all i ys h)) ∙ c.done ∙ ap (λ (zs : List L). map g (flat_map f zs)) (take_all i xs (subst (λ (n : ℕ). n ≤ i) long h))

-- what a slice that was lent leaves in its vector
pub given_back : {A : Type 0} (n : ℕ) (xs rest : List A) → length xs ≡ n → take n (xs ++ rest) ≡ xs
given_back n xs rest e = take-append-le n xs rest (subst (λ (m : ℕ). m ≤ length xs) e (le_refl (length xs))) ∙ take_all n xs (subst (λ (m : ℕ). length xs ≤ m) e (le_refl (length xs)))

-- ---- answers to a reset

pub together_more : (p q r : Presence) → together (together p q) r ≡ together p (together q r)
together_more Present q r = refl
together_more Empty q r = refl

pub together_none : (p : Presence) → together p Empty ≡ p
together_none Present = refl
together_none Empty = refl

-- a row drives 1 where all its lines do
pub drives_all : {L : Type 0} (f : L → List Seat) (xs : List L) → drives_line (flat_map f xs) ≡ list_all (λ x. drives_line (f x)) xs
drives_all f [] = refl
drives_all f (x ∷ xs) = drives_join (f x) (flat_map f xs) ∙ ap (λ (b : Bool). drives_line (f x) && b) (drives_all f xs)
