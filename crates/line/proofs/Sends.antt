-- Bits sent one after the other. Assumes nothing.
use Rattle.std.proofs.Common.{◌≡◌, ℕ, suc, ◌+◌, ◌-◌, ◌*◌, ◌^◌, ◌<◌, Bool, true, false, List, [], length, get_or, drop, sym, refl, ap, ◌∙◌, add-mul, mul-add, mul_left_comm, add-one, arith}
use native.Mathlib.Nat.{two-pow-succ}
use Rattle.std.proofs.lemmas.List.{drop_more}
use Rattle.address.specs.CheckByte.{one}
use Rattle.line.specs.Seats.{Seat, drives_line}
use Rattle.line.specs.Sending.{sent_bit, sent, read_on, read_value}
use Rattle.line.specs.Stages.{with_bit}

-- twice as much room for one bit more
pub doubled : (k : ℕ) → 2 ^ (k + 1) ≡ 2 ^ k + 2 ^ k
doubled k = ap (λ (n : ℕ). 2 ^ n) (add-one k) ∙ two-pow-succ k

pub sent_none : (ss : List Seat) → sent [] ss ≡ ss
unfolding sent
sent_none ss = refl

-- one bit, and then those behind it
pub sent_more : (bs : List Bool) (k : ℕ) (ss : List Seat) → k < length bs → sent (drop k bs) ss ≡ sent (drop (k + 1) bs) (sent_bit (get_or bs k false) ss)
unfolding sent
sent_more bs k ss h = ap (λ (xs : List Bool). sent xs ss) (drop_more bs k false h)

-- ---- bits read

pub read_none : (ss : List Seat) → (read_value 0 ss ≡ 0) × (read_on 0 ss ≡ ss)
unfolding read_value read_on
read_none ss = (refl, refl)

read_more : (n : ℕ) (ss : List Seat) → (read_value (suc n) ss ≡ one (drives_line ss) + 2 * read_value n (sent_bit true ss)) × (read_on (suc n) ss ≡ read_on n (sent_bit true ss))
unfolding read_value read_on
read_more n ss = (refl, refl)

-- one bit more of the value that a byte under way and the rest make
weighed : (p v r : ℕ) (l : Bool) → v + p * (one l + 2 * r) ≡ (v + p * one l) + (p + p) * r
weighed p v r true = omega (arith, add-mul p p r, mul-add p 1 (2 * r), mul_left_comm p 2 r)
weighed p v r false = omega (arith, add-mul p p r, mul-add p 0 (2 * r), mul_left_comm p 2 r)

with_bit_weighs : (k v : ℕ) (l : Bool) → with_bit k l v ≡ v + 2 ^ k * one l
with_bit_weighs k v true = omega arith
with_bit_weighs k v false = omega arith

pub value_more : (k v : ℕ) (ss : List Seat) → k < 8 → with_bit k (drives_line ss) v + 2 ^ (k + 1) * read_value (8 - (k + 1)) (sent_bit true ss) ≡ v + 2 ^ k * read_value (8 - k) ss
value_more k v ss h =
    let r = read_value (8 - (k + 1)) (sent_bit true ss) in
    let l = drives_line ss in
    let left : 8 - k ≡ suc (8 - (k + 1)) = omega arith in
    (λ i. with_bit_weighs k v l i + doubled k i * r)
    ∙ sym (weighed (2 ^ k) v r l)
    ∙ ap (λ (n : ℕ). v + 2 ^ k * n) (sym (read_more (8 - (k + 1)) ss).0)
    ∙ ap (λ (n : ℕ). v + 2 ^ k * read_value n ss) (sym left)

pub on_more : (k : ℕ) (ss : List Seat) → k < 8 → read_on (8 - (k + 1)) (sent_bit true ss) ≡ read_on (8 - k) ss
on_more k ss h =
    let left : 8 - k ≡ suc (8 - (k + 1)) = omega arith in
    sym (read_more (8 - (k + 1)) ss).1 ∙ ap (λ (n : ℕ). read_on n ss) (sym left)
