-- The flags of open bits, and the deepest of them. Assumes nothing.
use Rattle.std.proofs.Common.{◌≡◌, ℕ, zero, suc, ◌<◌, Bool, true, false, cond, not, List, length, get_or, is_some, Some, None, IfSome, IfNone, Decides, Option, sym, refl, ap, ◌∙◌, subst, ⊎_elim, arith}
use Rattle.std.proofs.lemmas.List.{get_or-set_same, get_or-set_other, length-set, get_or_past}
use Rattle.std.proofs.lemmas.Bool.{both_ways, cases_eq, cases_lt, lt-leb}
use Rattle.listing.specs.Rule.{deepest_below, deepest, closing, told}
use Rattle.listing.specs.Runs.{NoneOpen}
use Rattle.listing.specs.Passes.{Above}

-- d is the deepest open bit
pub record Deep (d : Option ℕ) (f : List Bool) : Type 0 where
  pub above : (j : ℕ) → Above d j → get_or f j false ≡ false
  pub at : (k : ℕ) → d ≡ Some k → (k < 64) × (get_or f k false ≡ true)

-- the deepest open bit below n
record DeepBelow (n : ℕ) (d : Option ℕ) (f : List Bool) : Type 0 where
  above : (j : ℕ) → j < n → Above d j → get_or f j false ≡ false
  at : (k : ℕ) → d ≡ Some k → (k < n) × (get_or f k false ≡ true)

pub same_some : (j k : ℕ) → ◌≡◌ {A = Option ℕ} (Some j) (Some k) → j ≡ k
same_some j k e = cc

pub none_some : (k : ℕ) → ◌≡◌ {A = Option ℕ} None (Some k) → ⊥
none_some k e = let z : ◌≡◌ {A = ℕ} 0 1 = cc in omega arith

deep_below : (n : ℕ) (f : List Bool) → DeepBelow n (deepest_below n f) f
deep_below zero f = record { above = λ j l. absurd (omega arith); at = λ k e. absurd (none_some k e) }
deep_below (suc n) f = by_flag (deepest_below n f) (deep_below n f) (get_or f n false) refl
  where
    by_flag : (d : Option ℕ) → DeepBelow n d f → (t : Bool) → get_or f n false ≡ t → DeepBelow (suc n) (cond t (Some n) d) f
    by_flag d h true e =
        record {
          above = λ j l a. absurd (omega arith);
          at = λ k q. let same = same_some n k q in (omega arith, subst (λ (m : ℕ). get_or f m false ≡ true) same e);
        }
    by_flag d h false e =
        record {
          above = λ j l a. ⊎_elim (λ (q : j ≡ n). subst (λ (m : ℕ). get_or f m false ≡ false) (sym q) e) (λ q. h.above j (omega (arith, q)) a) (cases_eq j n);
          at = λ k q. let p = h.at k q in (omega (arith, p.0), p.1);
        }

pub deepest_deep : (f : List Bool) → length f ≡ 64 → Deep (deepest f) f
deepest_deep f long =
    let h = deep_below 64 f in
    record { above = λ j a. ⊎_elim (λ (l : j < 64). h.above j l a) (λ l. get_or_past f j false (omega arith)) (cases_lt j 64); at = h.at }

-- the deepest is the one that is open with none open above it
none_deepest : (n : ℕ) (f : List Bool) → ((j : ℕ) → j < n → get_or f j false ≡ false) → deepest_below n f ≡ None
none_deepest zero f h = refl
none_deepest (suc n) f h = ap (λ (b : Bool). cond b (Some n) (deepest_below n f)) (h n (omega arith)) ∙ none_deepest n f (λ j l. h j (omega arith))

open_deepest : (n k : ℕ) (f : List Bool) → k < n → get_or f k false ≡ true → ((j : ℕ) → k < j → j < n → get_or f j false ≡ false) → deepest_below n f ≡ Some k
open_deepest zero k f l e h = absurd (omega arith)
open_deepest (suc n) k f l e h =
    ⊎_elim (λ (q : k ≡ n). ap (λ (b : Bool). cond b (Some n) (deepest_below n f)) (subst (λ (m : ℕ). get_or f m false ≡ true) q e) ∙ ap Some (sym q))
    (λ q. let m : k < n = omega (arith, q) in
    ap (λ (b : Bool). cond b (Some n) (deepest_below n f)) (h n m (omega arith)) ∙ open_deepest n k f m e (λ j a b. h j a (omega arith))) (cases_eq k n)

pub deepest_is : (f : List Bool) (d : Option ℕ) → IfSome d (λ k. k < 64) → IfNone d ((j : ℕ) → j < 64 → get_or f j false ≡ false) → IfSome d (λ k. get_or f k false ≡ true) → IfSome d (λ k. (j : ℕ) → k < j → j < 64 → get_or f j false ≡ false) → deepest f ≡ d
deepest_is f None l n e a = none_deepest 64 f n
deepest_is f (Some k) l n e a = open_deepest 64 k f l e a

none_open : (d : Option ℕ) (f : List Bool) → Deep d f → Decides (not (is_some d)) (NoneOpen f)
none_open None f h = (λ _ j. h.above j tt, λ _. refl)
none_open (Some k) f h = (λ e. absurd (both_ways false refl e), λ none. absurd (both_ways (get_or f k false) (none k) (h.at k refl).1))

-- no bit is the deepest just when none is open
pub deepest_none : (f : List Bool) → length f ≡ 64 → Decides (not (is_some (deepest f))) (NoneOpen f)
deepest_none f long = none_open (deepest f) f (deepest_deep f long)

-- above d nothing is told
pub above_free : (d : Option ℕ) (j : ℕ) → Above d j → told d j ≡ false
above_free None j a = refl
above_free (Some k) j a = lt-leb j k a

-- ---- closing

pub closing_above : (d : Option ℕ) (g : List Bool) (j : ℕ) → Above d j → get_or (closing d g) j false ≡ get_or g j false
closing_above None g j a = refl
closing_above (Some k) g j a = get_or-set_other g k j false false (λ e. omega (arith, e))

pub closing_below : (k : ℕ) (g : List Bool) (j : ℕ) → j < k → get_or (closing (Some k) g) j false ≡ get_or g j false
closing_below k g j l = get_or-set_other g k j false false (λ e. omega (arith, e))

pub closing_at : (k : ℕ) (g : List Bool) → k < length g → get_or (closing (Some k) g) k false ≡ false
closing_at k g l = get_or-set_same g k false false l

pub closing_long : (d : Option ℕ) (g : List Bool) → length (closing d g) ≡ length g
closing_long None g = refl
closing_long (Some k) g = length-set g k false
