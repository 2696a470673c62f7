use Rattle.std.proofs.Common.{◌≡◌, ℕ, ◌+◌, ◌<◌, ◌≤◌, Bool, List, length, drop, sym, ap, ◌∙◌, arith}
use Rattle.std.proofs.lemmas.List.{drop_all}
use Rattle.address.specs.CheckByte.{fed, stages, byte_of}
use Rattle.address.proofs.Registers.{fed_bit, fed_none, byte_of_stages}
use Rattle.address.proofs.check_byte.feed.Goals as goal

pub loop-level-preserved : goal.loop-level-preserved
loop-level-preserved c =
    let bs = c.bits_of-level-items.result in
    let i = c.loop-level.level-index in
    let rest = drop (i + 1) bs in
    let long : length bs ≡ 8 = ap length c.bits_of-level-items.ensures in
    let within : i < length bs = omega (arith, long, c.loop-level-test.true) in (
      c.shift-register.type_inv,
      ap (λ (n : ℕ). fed rest (stages n)) c.shift-register.ensures
          ∙ sym (fed_bit bs i c.loop-level.register within)
          ∙ c.loop-level.invariant.1,
    )

pub returns : goal.returns
returns c =
    let n = c.loop-level.register in
    let bs = c.bits_of-level-items.result in
    let i = c.loop-level.level-index in
    let long : length bs ≡ 8 = ap length c.bits_of-level-items.ensures in
    let all : length bs ≤ i = omega (arith, long, c.loop-level-test.false) in
    sym (byte_of_stages n c.loop-level.invariant.0)
    ∙ ap byte_of
    (sym (fed_none (stages n))
    ∙ ap (λ (xs : List Bool). fed xs (stages n)) (sym (drop_all i bs all))
    ∙ c.loop-level.invariant.1
    ∙ ap (λ (xs : List Bool). fed xs (stages c.args.register)) c.bits_of-level-items.ensures)
