-- Addresses that have the same bits. Assumes nothing.
use Rattle.std.proofs.Common.{◌≡◌, ℕ, zero, suc, ◌^◌, ◌<◌, Bool, true, false, eqb, sym, refl, subst, ⊎_elim, arith}
use mathlib.Core.Bool.{beq}
use Rattle.std.proofs.lemmas.Bool.{and_from, and_parts, both_ways, eq-eqb, ne_eqb, cases_eq}
use Rattle.address.specs.Bits.{bit}
use Rattle.address.specs.SearchOrder.{Agree}
use Rattle.address.specs.Numbers.{agree_same}
use Rattle.line.specs.Searching.{agree}

pub beq_true : (b c : Bool) → beq b c ≡ true → b ≡ c
beq_true true true e = refl
beq_true true false e = sym e
beq_true false true e = e
beq_true false false e = refl

pub beq_self : (b : Bool) → beq b b ≡ true
beq_self true = refl
beq_self false = refl

pub agree_bits : (k x a : ℕ) → agree k x a ≡ true → Agree k x a
agree_bits zero x a e j l = absurd (omega arith)
agree_bits (suc k) x a e j l =
    let parts = and_parts (agree k x a) (beq (bit k a) (bit k x)) e in
    ⊎_elim (λ same. subst (λ (m : ℕ). bit m x ≡ bit m a) (sym same) (sym (beq_true (bit k a) (bit k x) parts.1)))
    (λ ne. let below : j < k = omega (arith, ne) in agree_bits k x a parts.0 j below) (cases_eq j k)

pub agree_self : (k x : ℕ) → agree k x x ≡ true
agree_self zero x = refl
agree_self (suc k) x = and_from (agree k x x) (beq (bit k x) (bit k x)) (agree_self k x) (beq_self (bit k x))

-- to agree in all bits is to be the same
pub agree_all : (x a : ℕ) → x < 2 ^ 64 → a < 2 ^ 64 → agree 64 x a ≡ eqb x a
agree_all x a p q = by_test (agree 64 x a) refl
  where
    by_test : (t : Bool) → agree 64 x a ≡ t → t ≡ eqb x a
    by_test true e = sym (eq-eqb x a (agree_same 64 x a p q (agree_bits 64 x a e)))
    by_test false e = sym (ne_eqb x a (λ same. both_ways (agree 64 x a) e (subst (λ (m : ℕ). agree 64 x m ≡ true) same (agree_self 64 x))))
