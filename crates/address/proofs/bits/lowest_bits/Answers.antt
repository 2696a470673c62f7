use Rattle.std.proofs.Common.{◌≡◌, ℕ, ◌+◌, ◌<◌, Bool, false, List, length, get_or, set, sym, ◌∙◌, subst, arith, lt_of_lt_of_le}
use Rattle.std.proofs.lemmas.List.{length-set, length-replicate}
use Rattle.std.proofs.lemmas.List.Edits.{fill_by_more}
use Rattle.std.proofs.lemmas.List.FromFn.{fill_by_all}
use Rattle.address.specs.Bits.{bit}
use Rattle.address.proofs.bits.lowest_bits.Goals as goal

-- one element more is what f gives at its place
filled : (f : ℕ → Bool) (xs : List Bool) (i : ℕ) (b : Bool) → b ≡ f i → i < length xs → ((k : ℕ) → k < i → get_or xs k false ≡ f k) → (k : ℕ) → k < i + 1 → get_or (set xs i b) k false ≡ f k
filled f xs i b e l h =
    subst (λ (v : Bool). (k : ℕ) → k < i + 1 → get_or (set xs i v) k false ≡ f k) (sym e) (fill_by_more f xs i false l h)

pub loop-k-init : goal.loop-k-init
loop-k-init g c = (length-replicate g.row.N false, λ k h. absurd (omega arith))

pub loop-k-preserved : goal.loop-k-preserved
loop-k-preserved g c =
    let within : c.loop-k.k < length c.loop-k.bit-items = omega (arith, c.loop-k.invariant.0, c.loop-k-test.true) in (
      length-set _ _ _ ∙ c.loop-k.invariant.0,
      filled (λ k. bit k c.args.number) c.loop-k.bit-items c.loop-k.k c.bit_of.result c.bit_of.ensures within c.loop-k.invariant.1,
    )

pub returns : goal.returns
returns g c =
    fill_by_all (λ k. bit k c.args.number) c.loop-k.bit-items g.row.N false c.loop-k.invariant.0
    (λ k h. c.loop-k.invariant.1 k (lt_of_lt_of_le h c.loop-k-test.false))
