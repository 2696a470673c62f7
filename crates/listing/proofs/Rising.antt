-- Lists that rise in search order, and lists of passes. Assumes nothing.
use Rattle.std.proofs.Common.{◌≡◌, ℕ, ◌+◌, Bool, cond, List, [], ◌∷◌, ◌++◌, sym, refl, ap, ◌∙◌, subst, inl, inr, arith}
use Rattle.std.specs.List.{flat_map, AllByRecursion}
use Rattle.std.proofs.ByRecursion.{All-push}
use Rattle.std.proofs.lemmas.List.{append-nil, append_assoc}
use Rattle.std.proofs.lemmas.Bool.{eq-eqb, ne_eqb}
use Rattle.address.specs.SearchOrder.{Before}
use Rattle.address.specs.Orders.{search_order}
use Rattle.listing.specs.Runs.{Pass, On, times, Rising, NoneOpen, EndsClosed}
use Rattle.listing.proofs.Answering.{all_on}

-- ---- lists that rise

pub rising_push : (xs : List ℕ) (a : ℕ) → Rising xs → AllByRecursion (λ x. Before x a) xs → Rising (xs ++ a ∷ [])
rising_push [] a r h = (tt, tt)
rising_push (x ∷ xs) a r h = (All-push (Before x) xs a r.0 h.0, rising_push xs a r.1 h.1)

not_itself : (a x : ℕ) → Before x a → a ≡ x → ⊥
not_itself a x b e = search_order.irreflexive x (subst (Before x) e b)

times_none : (xs : List ℕ) (a : ℕ) → AllByRecursion (Before a) xs → times a xs ≡ 0
times_none [] a h = refl
times_none (x ∷ xs) a h =
    let other = ne_eqb a x (λ e. not_itself x a h.0 (sym e)) in
    ap (λ (t : Bool). cond t 1 0 + times a xs) other ∙ omega (arith, times_none xs a h.1)

-- what stands in a list that rises stands there once
pub times_one : (xs : List ℕ) (a : ℕ) → Rising xs → On a xs → times a xs ≡ 1
times_one [] a r on = absurd on
times_one (x ∷ xs) a r (inl e) =
    ap (λ (t : Bool). cond t 1 0 + times a xs) (eq-eqb a x e)
    ∙ omega (arith, times_none xs a (subst (λ (y : ℕ). AllByRecursion (Before y) xs) (sym e) r.0))
times_one (x ∷ xs) a r (inr on) =
    let other = ne_eqb a x (not_itself a x (all_on (Before x) xs a r.0 on)) in
    ap (λ (t : Bool). cond t 1 0 + times a xs) other ∙ omega (arith, times_one xs a r.1 on)

pub on_left : (xs ys : List ℕ) (a : ℕ) → On a xs → On a (xs ++ ys)
on_left [] ys a on = absurd on
on_left (x ∷ xs) ys a (inl e) = inl e
on_left (x ∷ xs) ys a (inr on) = inr (on_left xs ys a on)

pub on_right : (xs ys : List ℕ) (a : ℕ) → On a ys → On a (xs ++ ys)
on_right [] ys a on = on
on_right (x ∷ xs) ys a on = inr (on_right xs ys a on)

-- ---- lists of passes

pub all_front : {X : Type 0} (P : X → Type 0) (xs : List X) (x : X) → AllByRecursion P (xs ++ x ∷ []) → AllByRecursion P xs × P x
all_front P [] x h = (tt, h.0)
all_front P (y ∷ ys) x h = let rest = all_front P ys x h.1 in ((h.0, rest.0), rest.1)

pub ends_push : (ps : List Pass) (p : Pass) → (EndsClosed (ps ++ p ∷ []) → NoneOpen p.left) × (NoneOpen p.left → EndsClosed (ps ++ p ∷ []))
ends_push [] p = ((λ h. h), (λ h. h))
ends_push (q ∷ []) p = ((λ h. h), (λ h. h))
ends_push (q ∷ r ∷ ps) p = ends_push (r ∷ ps) p

pub joined_push : {X A : Type 0} (f : X → List A) (xs : List X) (x : X) → flat_map f (xs ++ x ∷ []) ≡ flat_map f xs ++ f x
joined_push f [] x = append-nil (f x)
joined_push f (y ∷ ys) x = ap (λ l. f y ++ l) (joined_push f ys x) ∙ sym (append_assoc (f y) (flat_map f ys) (f x))
