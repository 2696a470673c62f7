-- Search order is a strict total order. Assumes nothing.
use Rattle.std.proofs.Common.{Some, ◌≡◌, ℕ, zero, suc, ◌+◌, ◌^◌, ◌<◌, ◌≤◌, ◌==◌, Bool, true, false, ◌⊎◌, Ordering, Less, Equal, Greater, sym, refl, ap, ◌∙◌, subst, inl, inr, ⊎_elim, lt_of_lt_of_le, add-one, eq-eqb, ne_eqb, arith}
use native.Mathlib.Nat.{pow-le-pow_right, two-pow-succ}
use Rattle.std.specs.Cmp.{IsTotalOrder, IsPartialOrder, strict, one_rank, po}
use Rattle.std.specs.Ordering.{MatchOrdering, ordering_then, bool_cmp, is_eq, as_partial_cmp}
use Rattle.std.proofs.lemmas.Bool.{both_ways, cases_order}
use Rattle.address.specs.declared.Address.{Address}
use Rattle.address.specs.Bits.{bit}
use Rattle.address.specs.Parts.{number}
use Rattle.address.specs.SearchOrder.{Agree, Before, StrictTotal, Ranking, TotalRanking, ranked, standing, search_cmp}
use Rattle.address.specs.Numbers.{agree_same, agree_more}

irreflexive : (a : ℕ) → Before a a → ⊥
irreflexive a h = both_ways (bit h.0 a) h.2 h.3

transitive : (a b c : ℕ) → Before a b → Before b c → Before a c
transitive a b c p q =
    let i = p.0 in
    let j = q.0 in
    ⊎_elim (λ e. absurd (both_ways (bit i b) (ap (λ (k : ℕ). bit k b) e ∙ q.2) p.3))
    (⊎_elim
    (λ l. (i, (λ k h. let m : k < j = omega arith in p.1 k h ∙ q.1 k m), p.2, sym (q.1 i l) ∙ p.3))
    (λ l. (j, (λ k h. let m : k < i = omega arith in p.1 k m ∙ q.1 k h), p.1 j l ∙ q.2, q.3)))
    (cases_order i j)

-- two numbers agree below k, or the lowest bit at which they differ puts one first
decided : (k a b : ℕ) (s t : Bool) → Agree k a b → bit k a ≡ s → bit k b ≡ t → Agree (k + 1) a b ⊎ (Before a b ⊎ Before b a)
decided k a b true true h p q = inl (agree_more k a b h (p ∙ sym q))
decided k a b false false h p q = inl (agree_more k a b h (p ∙ sym q))
decided k a b false true h p q = inr (inl (k, h, p, q))
decided k a b true false h p q = inr (inr (k, (λ j l. sym (h j l)), q, p))

compared : (k a b : ℕ) → Agree k a b ⊎ (Before a b ⊎ Before b a)
compared zero a b = inl (λ j l. absurd (omega arith))
compared (suc k) a b =
    ⊎_elim (λ h. subst (λ (m : ℕ). Agree m a b ⊎ (Before a b ⊎ Before b a)) (add-one k) (decided k a b (bit k a) (bit k b) h refl refl))
    inr (compared k a b)

below_power : (n : ℕ) → n < 2 ^ n
below_power zero = omega arith
below_power (suc n) = let h = below_power n in omega (arith, h, two-pow-succ n)

total : (a b : ℕ) → (a ≡ b) ⊎ (Before a b ⊎ Before b a)
total a b =
    let two : 0 < 2 = omega arith in
    let upto : (k : ℕ) → k ≤ a + b → k < 2 ^ (a + b) = λ k l. lt_of_lt_of_le (below_power k) (pow-le-pow_right two l) in
    ⊎_elim (λ h. inl (agree_same (a + b) a b (upto a (omega arith)) (upto b (omega arith)) h)) inr (compared (a + b) a b)

pub search_order : StrictTotal Before
search_order = record { irreflexive = irreflexive; transitive = transitive; total = total }

-- ---- the order as a function, for sorted collections

-- one bit more decides where the bits below it did not
pub one_bit_more : (k a b : ℕ) (r : Ordering) (s t : Bool) → MatchOrdering r (Before a b) (Agree k a b) (Before b a) → bit k a ≡ s → bit k b ≡ t → MatchOrdering (ordering_then r (bool_cmp s t)) (Before a b) (Agree (suc k) a b) (Before b a)
one_bit_more k a b Less s t h p q = h
one_bit_more k a b Greater s t h p q = h
one_bit_more k a b Equal true true h p q = subst (λ (m : ℕ). Agree m a b) (add-one k) (agree_more k a b h (p ∙ sym q))
one_bit_more k a b Equal false false h p q = subst (λ (m : ℕ). Agree m a b) (add-one k) (agree_more k a b h (p ∙ sym q))
one_bit_more k a b Equal false true h p q = (k, h, p, q)
one_bit_more k a b Equal true false h p q = (k, (λ j l. sym (h j l)), q, p)

ranked_by : (k a b : ℕ) → MatchOrdering (ranked k a b) (Before a b) (Agree k a b) (Before b a)
unfolding ranked
ranked_by zero a b = λ j l. absurd (omega arith)
ranked_by (suc k) a b = one_bit_more k a b (ranked k a b) (bit k a) (bit k b) (ranked_by k a b) refl refl

-- the same answer, of equal numbers for numbers that agree
pub with_equal : (r : Ordering) (P Q S R : Type 0) → (Q → S) → MatchOrdering r P Q R → MatchOrdering r P S R
with_equal Less P Q S R f h = h
with_equal Equal P Q S R f h = f h
with_equal Greater P Q S R f h = h

pub stands : (a b : ℕ) → MatchOrdering (standing a b) (Before a b) (a ≡ b) (Before b a)
stands a b =
    let two : 0 < 2 = omega arith in
    let upto : (k : ℕ) → k ≤ a + b → k < 2 ^ (a + b) = λ k l. lt_of_lt_of_le (below_power k) (pow-le-pow_right two l) in
    with_equal (standing a b) (Before a b) (Agree (a + b) a b) (a ≡ b) (Before b a) (agree_same (a + b) a b (upto a (omega arith)) (upto b (omega arith))) (ranked_by (a + b) a b)

-- there is one answer
pub one_standing : (a b : ℕ) (r : Ordering) → MatchOrdering r (Before a b) (a ≡ b) (Before b a) → r ≡ standing a b
one_standing a b r h = one_rank Before irreflexive transitive a b r (standing a b) h (stands a b)

pub same_address : (x y : Address) → number x ≡ number y → x ≡ y
same_address x y e = λ i. record { bits = e i }

pub ranks : (x y : Address) → Ranking x y (search_cmp x y)
ranks x y = with_equal (search_cmp x y) (Before (number x) (number y)) (number x ≡ number y) (x ≡ y) (Before (number y) (number x)) (same_address x y) (stands (number x) (number y))

-- what `cmp` answers is a total order
pub addresses : IsTotalOrder search_cmp
addresses = strict (λ (x y : Address). Before (number x) (number y)) (λ x. irreflexive (number x)) (λ x y z. transitive (number x) (number y) (number z)) search_cmp ranks

pub ranking : TotalRanking Ranking
ranking =
    record {
      cmp = search_cmp;
      answers = ranks;
      one = λ x y r s. one_rank (λ (v w : Address). Before (number v) (number w)) (λ v. irreflexive (number v)) (λ v w z. transitive (number v) (number w) (number z)) x y r s;
      total = addresses;
    }

-- `==` holds of what `cmp` does not tell apart
as_equal : (a b : ℕ) (r : Ordering) → MatchOrdering r (Before a b) (a ≡ b) (Before b a) → (a == b) ≡ is_eq r
as_equal a b Less h = ne_eqb a b (λ e. irreflexive b (subst (λ (n : ℕ). Before n b) e h))
as_equal a b Equal h = eq-eqb a b h
as_equal a b Greater h = ne_eqb a b (λ e. irreflexive b (subst (λ (n : ℕ). Before b n) e h))

pub orders_as_equal : (x y : Address) → (number x == number y) ≡ is_eq (search_cmp x y)
orders_as_equal x y = as_equal (number x) (number y) (search_cmp x y) (stands (number x) (number y))

pub orders_partly : IsPartialOrder (λ x y. number x == number y) (as_partial_cmp search_cmp)
orders_partly = po addresses orders_as_equal

pub orders_agree : (x y : Address) → as_partial_cmp search_cmp x y ≡ Some (search_cmp x y)
orders_agree x y = refl
