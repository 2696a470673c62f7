use Rattle.std.proofs.Common.{◌≡◌, ℕ, ◌+◌, ◌-◌, ◌*◌, ◌^◌, sym, refl, ap, ◌∙◌, arith}
use Rattle.line.specs.Sending.{read_on, read_value}
use Rattle.line.specs.Stages.{with_bit}
use Rattle.line.proofs.Sends.{read_none, value_more, on_more}
use Rattle.line.proofs.master.read_bits.Goals as goal

pub loop-k-init : goal.loop-k-init
loop-k-init g c = (omega arith, omega arith, refl)

pub loop-k-preserved : goal.loop-k-preserved
loop-k-preserved g c =
    let k = c.loop-k.k in
    let v = c.loop-k.byte in
    let ss = g.L.Line.seats c.loop-k.line in
    let byte = c.with_bit-byte.ensures.value ∙ ap (λ l. with_bit k l v) c.read_bit-level.ensures.value in
    let after = c.read_bit-level.ensures.after in (
      c.with_bit-byte.ensures.bound,
      (λ i. byte i + 2 ^ (k + 1) * read_value (8 - (k + 1)) (after i)) ∙ value_more k v ss c.loop-k-test.true ∙ c.loop-k.invariant.1,
      ap (read_on (8 - (k + 1))) after ∙ on_more k ss c.loop-k-test.true ∙ c.loop-k.invariant.2,
    )

pub returns : goal.returns
returns g c =
    let k = c.loop-k.k in
    let v = c.loop-k.byte in
    let ss = g.L.Line.seats c.loop-k.line in
    let none : 8 - k ≡ 0 = omega arith in
    let value = ap (λ (n : ℕ). read_value n ss) none ∙ (read_none ss).0 in
    record {
      value = (let e : v ≡ v + 2 ^ k * 0 = omega arith in e) ∙ ap (λ (r : ℕ). v + 2 ^ k * r) (sym value) ∙ c.loop-k.invariant.1;
      after = sym (ap (λ (n : ℕ). read_on n ss) none ∙ (read_none ss).1) ∙ c.loop-k.invariant.2;
    }
