use Rattle.std.proofs.Common.{◌^◌, ◌<◌, sym, ◌∙◌, arith}
use Rattle.std.proofs.lemmas.Bool.{le-ltb}
use Rattle.address.specs.Numbers.{bit_beyond}
use Rattle.address.proofs.bits.bit_of.Goals as goal

pub returns-else-k-lt64 : goal.returns-else-k-lt64
returns-else-k-lt64 c =
    let k = c.args.k in
    let small : c.args.number < 2 ^ 64 = omega arith in
    le-ltb k 64 c.if-k-lt64.false ∙ sym (bit_beyond c.args.number 64 k small c.if-k-lt64.false)
