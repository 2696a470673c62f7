use Rattle.std.proofs.Common.{◌≡◌, ℕ, ◌+◌, List, drop, sym, ap, ◌∙◌, subst}
use Rattle.std.specs.List.{flat_map}
use Rattle.std.proofs.lemmas.List.{drop_all}
use Rattle.address.specs.Bits.{bits}
use Rattle.address.specs.CheckByte.{fed, stages, byte_of, cleared, check_byte}
use Rattle.address.specs.Division.{Remainder}
use Rattle.address.proofs.Division.{remainder}
use Rattle.address.proofs.Registers.{fed_byte, fed_none, byte_of_stages}
use Rattle.address.proofs.check_byte.check_byte_of.Goals as goal

pub loop-byte-preserved : goal.loop-byte-preserved
loop-byte-preserved c =
    let i = c.loop-byte.byte-index in
    let bytes = c.args.bytes.now in
    let rest = flat_map bits (drop (i + 1) bytes) in (
      c.feed-register.type_inv,
      ap (λ (n : ℕ). fed rest (stages n)) c.feed-register.ensures
          ∙ sym (fed_byte bytes i c.loop-byte.register c.loop-byte-test.true)
          ∙ c.loop-byte.invariant.1,
    )

pub returns : goal.returns
unfolding check_byte
returns c =
    let n = c.loop-byte.register in
    let bytes = c.args.bytes.now in
    let all : stages n ≡ fed (flat_map bits bytes) cleared =
    sym (fed_none (stages n))
    ∙ ap (λ (bs : List ℕ). fed (flat_map bits bs) (stages n)) (sym (drop_all c.loop-byte.byte-index bytes c.loop-byte-test.false))
    ∙ c.loop-byte.invariant.1 in
    record {
      value = sym (byte_of_stages n c.loop-byte.invariant.0) ∙ ap byte_of all;
      division = subst (Remainder (flat_map bits bytes)) (sym all) (remainder (flat_map bits bytes));
    }
