-- What writes, recalls and copies come to. Assumes nothing.
use Rattle.std.proofs.Common.{◌≡◌, ℕ, zero, suc, ◌+◌, ◌-◌, ◌*◌, ◌/◌, ◌%◌, ◌<◌, ◌≤◌, Bool, true, false, cond, ◌&&◌, eqb, ltb, leb, List, [], ◌∷◌, length, get_or, take, drop, set, ℤ, pos, negsuc, ◌≤ℤ◌, Some, None, Option, sym, refl, ap, ◌∙◌, subst, arith}
use Rattle.std.specs.List.{AllByRecursion}
use Rattle.std.proofs.lemmas.Int.{ints}
use Rattle.std.proofs.lemmas.List.{get_or-set_same, take_at, drop_at, length-take-le}
use Rattle.std.proofs.lemmas.Bool.{and_parts, leb-true, cond-true, cond-false, ne_eqb, eqb-true, eqb-false}
use Rattle.gauge.specs.Registers.{complement, register, decoded}
use Rattle.ds2760.specs.declared.block.Block.{Block}
use Rattle.ds2760.specs.declared.block.Block.TheVariants.{Zero, One}
use Rattle.ds2760.specs.declared.command.Command.TheVariants.{Copy, Recall}
use Rattle.ds2760.specs.declared.progress.Copying.TheVariants.{Waiting, Running}
use Rattle.ds2760.specs.declared.progress.Progress.TheVariants.{Finished}
use Rattle.ds2760.specs.Commands.{replaced, is_locked, within, copy_asked, recall_asked, recalled, copied, asked, ticked}
use Rattle.ds2760.specs.Effects.{Whole, back_at, WritesReadBack, RecallsRestore, Starts, ticks, Completes, CopiesComplete}
use Rattle.ds2760.specs.Map.{Place, amount, reserved, Row, rows, place_in, place_of, eec, held, held_at, written, written_at, writable}
use Rattle.ds2760.specs.Runs.{Call, slot, reset, tick, measure, does, half}
use Rattle.ds2760.specs.States.{State, with_progress, with_copying, with_shadow}

-- ---- the map, row by row

in_row : (P : Place → Type 0) (a : ℕ) (r : Row) (p : Place) → (r.first ≤ a → a ≤ r.last → P r.place) → P p → (t : Bool) → (leb r.first a && leb a r.last) ≡ t → P (cond t r.place p)
in_row P a r p h k true e = let parts = and_parts (leb r.first a) (leb a r.last) e in h (leb-true r.first a parts.0) (leb-true a r.last parts.1)
in_row P a r p h k false e = k

-- what holds at each row's place, where the address is in the row, holds at the place of the address
in_rows : (P : Place → Type 0) (a : ℕ) (rs : List Row) → AllByRecursion (λ r. r.first ≤ a → a ≤ r.last → P r.place) rs → P reserved → P (place_in rs a)
in_rows P a [] h k = k
in_rows P a (r ∷ rs) h k = in_row P a r (place_in rs a) h.0 (in_rows P a rs h.1 k) (leb r.first a && leb a r.last) refl

-- ---- the accumulator's bytes

complement_small : (z : ℤ) → complement z < 65536 → (complement z / 256 < 256) × (complement z % 256 < 256)
complement_small z h = (omega arith, omega arith)

register_decoded : (h l : ℕ) → h < 256 → l < 256 → register (decoded h l) ≡ h ∷ l ∷ []
register_decoded h l p q = by_test (ltb h 128) refl
  where
    by_test : (t : Bool) → ltb h 128 ≡ t → register (cond t (pos (256 * h + l)) (negsuc (65535 - (256 * h + l)))) ≡ h ∷ l ∷ []
    by_test true e =
        let high : (256 * h + l) / 256 ≡ h = omega arith in
        let low : (256 * h + l) % 256 ≡ l = omega arith in
        λ i. high i ∷ low i ∷ []
    by_test false e =
        let high : (65535 - (65535 - (256 * h + l))) / 256 ≡ h = omega arith in
        let low : (65535 - (65535 - (256 * h + l))) % 256 ≡ l = omega arith in
        λ i. high i ∷ low i ∷ []

-- ---- what is read back

within_16_bits : (z : ℤ) → negsuc 32767 ≤ℤ z → z ≤ℤ pos 32767 → complement z < 65536
within_16_bits (pos n) l h = omega (arith, ints)
within_16_bits (negsuc n) l h = omega arith

module _ (s : State) (w : Whole s) (a b : ℕ) (small : b < 256) where
  Back : Place → Type 0
  Back p = held_at p a (written_at p a b s) ≡ back_at p a b s

  bytes : (complement s.charge.amount / 256 < 256) × (complement s.charge.amount % 256 < 256)
  bytes = complement_small s.charge.amount (within_16_bits s.charge.amount w.low w.high)

  amount_back : 0x10 ≤ a → a ≤ 0x11 → Back amount
  unfolding Back
  amount_back l h = by_test (eqb a 0x10) refl
    where
      z : ℤ
      z = s.charge.amount

      by_test : (t : Bool) → eqb a 0x10 ≡ t → get_or (register (cond t (decoded b (complement z % 256)) (decoded (complement z / 256) b))) (a - 0x10) 0 ≡ b
      by_test true e =
          let at : a - 0x10 ≡ 0 = omega (arith, eqb-true a 0x10 e) in
          (λ i. get_or (register_decoded b (complement z % 256) small bytes.1 i) (at i) 0)
      by_test false e =
          let ne = eqb-false a 0x10 e in
          let at : a - 0x10 ≡ 1 = omega (arith, ne) in
          (λ i. get_or (register_decoded (complement z / 256) b bytes.0 small i) (at i) 0)

  shadow_back : (t : Bool) → a - 0x20 < 32 → get_or (cond t (with_shadow (set s.shadow (a - 0x20) b) s) s).shadow (a - 0x20) 0 ≡ cond t b (get_or s.shadow (a - 0x20) 0)
  shadow_back true l = get_or-set_same s.shadow (a - 0x20) b 0 (omega (arith, w.shadow))
  shadow_back false l = refl

  rows_back : AllByRecursion (λ r. r.first ≤ a → a ≤ r.last → Back r.place) rows
  unfolding Back
  rows_back = (
    λ _ _. refl,
    (
      λ _ _. refl,
      (
        λ _ _. refl,
        (
          λ _ _. refl,
          (
            λ _ _. refl,
            (
              λ _ _. refl,
              (
                amount_back,
                (
                  λ _ _. refl,
                  (
                    λ l h. shadow_back (writable s.locked0 s) (omega arith),
                    (
                      λ l h. shadow_back (writable s.locked1 s) (omega arith),
                      (
                        λ l h. get_or-set_same s.sram (a - 0x80) b 0 (omega (arith, w.sram)),
                        tt,
                      ),
                    ),
                  ),
                ),
              ),
            ),
          ),
        ),
      ),
    ),
  )

  read_back : held a (written a b s) ≡ back_at (place_of a) a b s
  unfolding Back
  read_back = in_rows Back a rows rows_back refl

pub writes_read_back : WritesReadBack
writes_read_back s w a b small = read_back s w a b small

-- ---- recall and copy

half_replaced : (block : Block) (from into : List ℕ) → length from ≡ 32 → length into ≡ 32 → half block (replaced block from into) ≡ half block from
half_replaced Zero from into p q = take_at (take 16 from) (drop 16 into) 16 (length-take-le 16 from (omega arith))
half_replaced One from into p q = drop_at (take 16 into) (drop 16 from) 16 (length-take-le 16 into (omega arith))

recalled_shadow : (block : Block) (s : State) → (recalled block s).shadow ≡ replaced block s.eeprom s.shadow
recalled_shadow Zero s = refl
recalled_shadow One s = refl

pub recalls_restore : RecallsRestore
recalls_restore block a s w e idle =
    let t = with_progress Finished s in
    let asks : asked Recall a s ≡ recalled block t =
    ap (λ (o : Option Block). within recall_asked o t) e ∙ cond-false (eec s.copying) t (recalled block t) idle in
    ap (λ (u : State). half block u.shadow) asks
    ∙ ap (half block) (recalled_shadow block t)
    ∙ half_replaced block s.eeprom s.shadow w.eeprom w.shadow

module _ (block : Block) (t : State) (runs : t.copying ≡ Some (Running block 10)) where
  counted : (n : ℕ) → n < 10 → ticks n t ≡ with_copying (Some (Running block (10 - n))) t
  counted zero l = ap (λ c. with_copying c t) runs
  counted (suc n) l =
      let k = 10 - n in
      let before : n < 10 = omega arith in
      let more : (k ≡ 1) → ⊥ = λ e. omega (arith, e) in
      let less : k - 1 ≡ 10 - suc n = omega arith in
      ap ticked (counted n before)
      ∙ cond-false (eqb k 1) _ _ (ne_eqb k 1 more)
      ∙ ap (λ (m : ℕ). with_copying (Some (Running block m)) t) less

  tenth : ticks 10 t ≡ with_copying None (copied block t)
  tenth = ap ticked (counted 9 (omega arith))

completes : (block : Block) (s t : State) → Whole s → t.copying ≡ Some (Running block 10) → t.eeprom ≡ s.eeprom → t.shadow ≡ s.shadow → Completes block s t
completes block s t w runs e x =
    record {
      before = λ n l.
          (ap (λ (u : State). u.eeprom) (counted block t runs n l) ∙ e, ap (λ (u : State). eec u.copying) (counted block t runs n l));
      then = (
        ap (λ (u : State). half block u.eeprom) (tenth block t runs)
            ∙ half_replaced block t.shadow t.eeprom (ap length x ∙ w.shadow) (ap length e ∙ w.eeprom)
            ∙ ap (half block) x,
        ap (λ (u : State). eec u.copying) (tenth block t runs),
      );
    }

pub copies_complete : CopiesComplete
copies_complete block a s w e open' c starts =
    let t = with_progress Finished s in
    let asks : asked Copy a s ≡ with_copying (Some (Waiting block)) t =
    ap (λ (o : Option Block). within copy_asked o t) e ∙ cond-true (writable (is_locked block s) s) (with_copying (Some (Waiting block)) t) t open' in
    subst (λ (u : State). Completes block s (does c u)) (sym asks) (begins c starts)
  where
    begins : (c : Call) → Starts c → Completes block s (does c (with_copying (Some (Waiting block)) (with_progress Finished s)))
    begins (slot level) _ = completes block s _ w refl refl refl
    begins reset _ = completes block s _ w refl refl refl
    begins tick h = absurd h
    begins (measure m) h = absurd h
