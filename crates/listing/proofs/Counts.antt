-- Counts: how many addresses or bits pass a test. Assumes nothing.
use Rattle.std.proofs.Common.{◌≡◌, ℕ, zero, suc, ◌+◌, ◌<◌, ◌≤◌, Bool, true, false, cond, ◌⊎◌, List, [], ◌∷◌, map, length, get_or, sym, refl, ap, ◌∙◌, subst, inl, inr, ⊎_elim, arith}
use Rattle.std.specs.List.{range_with_len}
use Rattle.std.proofs.lemmas.List.FromFn.{fill_by_all}
use Rattle.std.proofs.lemmas.Bool.{both_ways, cases_eq, cases_lt, cond-true, cond-false}
use Rattle.address.specs.SearchOrder.{Before}
use Rattle.address.specs.Orders.{search_order}
use Rattle.listing.specs.Runs.{On}
use Rattle.listing.specs.Still.{Different, open_bits}

-- how many of xs pass the test
abbrev pub count : (ℕ → Bool) → List ℕ → ℕ
count p [] = 0
count p (x ∷ xs) = cond (p x) 1 0 + count p xs

-- ---- two tests

one_le : (s t : Bool) → (s ≡ true → t ≡ true) → cond s 1 0 ≤ cond t 1 0
one_le true t h = subst (λ (b : Bool). 1 ≤ cond b 1 0) (sym (h refl)) (omega arith)
one_le false t h = omega arith

tested : (t : Bool) → t ≡ true → ◌≡◌ {A = ℕ} (cond t 1 0) 1
tested t e = cond-true t 1 0 e

untested : (t : Bool) → t ≡ false → ◌≡◌ {A = ℕ} (cond t 1 0) 0
untested t e = cond-false t 1 0 e

-- what passes the stricter test is no more
pub count_le : (p q : ℕ → Bool) (xs : List ℕ) → ((x : ℕ) → On x xs → p x ≡ true → q x ≡ true) → count p xs ≤ count q xs
count_le p q [] h = omega arith
count_le p q (x ∷ xs) h =
    let here = one_le (p x) (q x) (h x (inl refl)) in
    let rest = count_le p q xs (λ y on. h y (inr on)) in
    omega arith

-- and less where something passes the other alone
pub count_lt : (p q : ℕ → Bool) (xs : List ℕ) → ((x : ℕ) → On x xs → p x ≡ true → q x ≡ true) → (a : ℕ) → On a xs → p a ≡ false → q a ≡ true → count p xs < count q xs
count_lt p q [] h a on e f = absurd on
count_lt p q (x ∷ xs) h a (inl same) e f =
    let rest = count_le p q xs (λ y on. h y (inr on)) in
    let no = untested (p x) (ap p (sym same) ∙ e) in
    let yes = tested (q x) (ap q (sym same) ∙ f) in
    omega arith
count_lt p q (x ∷ xs) h a (inr on) e f =
    let here = one_le (p x) (q x) (h x (inl refl)) in
    let rest = count_lt p q xs (λ y o. h y (inr o)) a on e f in
    omega arith

count_same : (p q : ℕ → Bool) (xs : List ℕ) → ((x : ℕ) → On x xs → p x ≡ q x) → count p xs ≡ count q xs
count_same p q [] h = refl
count_same p q (x ∷ xs) h = λ i. cond (h x (inl refl) i) 1 0 + count_same p q xs (λ y on. h y (inr on)) i

-- tests that differ at one of different addresses differ by one
pub count_drop : (p q : ℕ → Bool) (xs : List ℕ) → Different xs → (a : ℕ) → On a xs → p a ≡ false → q a ≡ true → ((x : ℕ) → On x xs → (x ≡ a → ⊥) → p x ≡ q x) → count q xs ≡ count p xs + 1
count_drop p q [] apart a on e f h = absurd on
count_drop p q (x ∷ xs) apart a (inl same) e f h =
    let no = untested (p x) (ap p (sym same) ∙ e) in
    let yes = tested (q x) (ap q (sym same) ∙ f) in
    let rest = count_same p q xs (λ y on. h y (inr on) (λ z. apart.0 (subst (λ (w : ℕ). On w xs) (z ∙ same) on))) in
    omega arith
count_drop p q (x ∷ xs) apart a (inr on) e f h =
    let here : ◌≡◌ {A = ℕ} (cond (p x) 1 0) (cond (q x) 1 0) =
    ap (λ (b : Bool). cond b 1 0) (h x (inl refl) (λ z. apart.0 (subst (λ (w : ℕ). On w xs) (sym z) on))) in
    let rest = count_drop p q xs apart.1 a on e f (λ y o. h y (inr o)) in
    omega arith

pub count_all : (xs : List ℕ) → count (λ _. true) xs ≡ length xs
count_all [] = refl
count_all (x ∷ xs) = let rest = count_all xs in omega arith

-- where something is counted, something passes
pub count_some : (p : ℕ → Bool) (xs : List ℕ) → 0 < count p xs → (x : ℕ) × On x xs × (p x ≡ true)
count_some p [] l = absurd (omega arith)
count_some p (x ∷ xs) l = by_test (p x) refl l (λ m. count_some p xs m)
  where
    by_test : (t : Bool) → p x ≡ t → 0 < cond t 1 0 + count p xs → (0 < count p xs → (y : ℕ) × On y xs × (p y ≡ true)) → (y : ℕ) × On y (x ∷ xs) × (p y ≡ true)
    by_test true e m rest = (x, inl refl, e)
    by_test false e m rest = let some = rest (omega arith) in (some.0, inr some.1, some.2)

-- what passes is counted
pub counted_some : (p : ℕ → Bool) (xs : List ℕ) (x : ℕ) → On x xs → p x ≡ true → count p xs ≡ 0 → ⊥
counted_some p xs x on t e =
    let more = count_lt (λ _. false) p xs (λ y _ f. absurd (both_ways false refl f)) x on refl t in
    omega arith

-- where nothing passes, nothing is counted
pub count_none : (p : ℕ → Bool) (xs : List ℕ) → ((x : ℕ) → On x xs → p x ≡ true → ⊥) → count p xs ≡ 0
count_none p xs h =
    ⊎_elim (λ (l : 0 < count p xs). let some = count_some p xs l in absurd (h some.0 some.1 some.2)) (λ l. omega arith) (cases_lt 0 (count p xs))

-- ---- bits

pub on_counting : (a n k : ℕ) → a ≤ k → k < a + n → On k (range_with_len a n)
on_counting a zero k l m = absurd (omega arith)
on_counting a (suc n) k l m = ⊎_elim (λ (e : k ≡ a). inl e) (λ e. inr (on_counting (a + 1) n k (omega (arith, e)) (omega arith))) (cases_eq k a)

open_map : (g : ℕ → Bool) (xs : List ℕ) → open_bits (map g xs) ≡ count g xs
open_map g [] = refl
open_map g (x ∷ xs) = ap (λ (n : ℕ). cond (g x) 1 0 + n) (open_map g xs)

-- the open bits, by their numbers
pub open_counted : (f : List Bool) → length f ≡ 64 → open_bits f ≡ count (λ k. get_or f k false) (range_with_len 0 64)
open_counted f long =
    ap open_bits (fill_by_all (λ k. get_or f k false) f 64 false long (λ k l. refl)) ∙ open_map (λ k. get_or f k false) (range_with_len 0 64)

-- ---- later addresses

is_later : {P Q R : Type 0} → P ⊎ (Q ⊎ R) → Bool
is_later (inl _) = false
is_later (inr (inl _)) = true
is_later (inr (inr _)) = false

-- x comes after a
pub later : ℕ → ℕ → Bool
later a x = is_later (search_order.total a x)

later_is : {P Q R : Type 0} (d : P ⊎ (Q ⊎ R)) → is_later d ≡ true → Q
unfolding is_later
later_is (inl _) e = absurd (both_ways false refl e)
later_is (inr (inl q)) e = q
later_is (inr (inr _)) e = absurd (both_ways false refl e)

is_later_lem : {P Q R : Type 0} (d : P ⊎ (Q ⊎ R)) → (P → ⊥) → (R → ⊥) → is_later d ≡ true
unfolding is_later
is_later_lem (inl p) f g = absurd (f p)
is_later_lem (inr (inl _)) f g = refl
is_later_lem (inr (inr r)) f g = absurd (g r)

pub later_before : (a x : ℕ) → later a x ≡ true → Before a x
unfolding later
later_before a x e = later_is (search_order.total a x) e

pub before_later : (a x : ℕ) → Before a x → later a x ≡ true
unfolding later
before_later a x b =
    is_later_lem (search_order.total a x) (λ e. search_order.irreflexive x (subst (λ (y : ℕ). Before y x) e b))
    (λ c. search_order.irreflexive a (search_order.transitive a x a b c))

pub not_later : (a x : ℕ) → (Before a x → ⊥) → later a x ≡ false
not_later a x h = by_test (later a x) refl
  where
    by_test : (t : Bool) → later a x ≡ t → t ≡ false
    by_test true e = absurd (h (later_before a x e))
    by_test false e = refl
