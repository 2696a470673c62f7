-- What a count does to the total of a charge. Assumes nothing.
use Rattle.std.proofs.Common.{◌≡◌, Bool, true, false, cond, not, T, ℤ, pos, negsuc, ◌+ℤ◌, ◌*ℤ◌, ◌≤ℤ◌, ◌<ℤ◌, sym, refl, ap, ◌∙◌, subst, arith}
use lib.Signed.{lt_z, lt_z_yes, lt_z_no}
use Rattle.std.proofs.lemmas.Int.{ints, clamps}
use Rattle.gauge.specs.Charges.{Charge, settled, added, fallen, risen, total, capped}

-- a test on signed numbers, either way
tested : (x y : ℤ) (a b : Charge) (P : Charge → Type 0) → (x <ℤ y → P a) → (y ≤ℤ x → P b) → (t : Bool) → lt_z x y ≡ t → P (cond t a b)
tested x y a b P p q true e = p (lt_z_yes (subst T (sym e) tt))
tested x y a b P p q false e = q (lt_z_no (subst (λ (t : Bool). T (not t)) (sym e) tt))

module _ (a r : ℤ) (a-low : negsuc 32767 ≤ℤ a) (a-high : a ≤ℤ pos 32767) where
  -- the parts of a and r, in a charge whose residue is in its range
  pub record Held (q : Charge) : Type 0 where
    pub total : total q ≡ capped (pos 180000 *ℤ a +ℤ r)
    pub low : pos 0 ≤ℤ q.residue
    pub high : q.residue <ℤ pos 180000

  fallen_held : negsuc 179999 ≤ℤ r → r <ℤ pos 0 → Held (fallen a r)
  fallen_held p q =
      tested (negsuc 32767) a _ _ Held (λ h. record { total = omega (arith, ints, clamps); low = omega (arith, ints); high = omega (arith, ints) })
      (λ h. record { total = omega (arith, ints, clamps); low = omega (arith, ints); high = omega (arith, ints) }) (lt_z (negsuc 32767) a) refl

  risen_held : pos 180000 ≤ℤ r → r <ℤ pos 360000 → Held (risen a r)
  risen_held p q =
      tested a (pos 32767) _ _ Held (λ h. record { total = omega (arith, ints, clamps); low = omega (arith, ints); high = omega (arith, ints) })
      (λ h. record { total = omega (arith, ints, clamps); low = omega (arith, ints); high = omega (arith, ints) }) (lt_z a (pos 32767)) refl

  pub settled_held : negsuc 179999 ≤ℤ r → r <ℤ pos 360000 → Held (settled a r)
  settled_held p q =
      tested r (pos 0) _ _ Held (fallen_held p)
      (λ h. tested r (pos 180000) _ _ Held (λ l. record { total = omega (arith, ints, clamps); low = h; high = l }) (λ l. risen_held l q) (lt_z r (pos 180000)) refl) (lt_z r (pos 0)) refl

-- charges of the same parts, each with a residue in its range, are the same
same_parts : (p q : Charge) → pos 0 ≤ℤ p.residue → p.residue <ℤ pos 180000 → pos 0 ≤ℤ q.residue → q.residue <ℤ pos 180000 → total p ≡ total q → p ≡ q
same_parts p q p-low p-high q-low q-high e =
    let amount : p.amount ≡ q.amount = omega (arith, ints) in
    let residue : p.residue ≡ q.residue = omega (arith, ints) in
    (λ i. record { amount = amount i; residue = residue i })

-- what has the parts of p with a count, within what can be held, is p with the count added
pub parts_added : (p q : Charge) (n : ℤ) → negsuc 5898239999 ≤ℤ total p → total p ≤ℤ pos 5898239999 → pos 0 ≤ℤ p.residue → p.residue <ℤ pos 180000 → negsuc 4095 ≤ℤ n → n ≤ℤ pos 4095 → pos 0 ≤ℤ q.residue → q.residue <ℤ pos 180000 → total q ≡ capped (total p +ℤ pos 11 *ℤ n) → q ≡ added n p
parts_added p q n low high p-low p-high n-low n-high q-low q-high e =
    let r = p.residue +ℤ pos 11 *ℤ n in
    let h = settled_held p.amount r (omega (arith, ints)) (omega (arith, ints)) (omega (arith, ints)) (omega (arith, ints)) in
    let parts : total p +ℤ pos 11 *ℤ n ≡ pos 180000 *ℤ p.amount +ℤ r = omega (arith, ints) in
    same_parts q (added n p) q-low q-high h.low h.high (e ∙ ap capped parts ∙ sym h.total)
