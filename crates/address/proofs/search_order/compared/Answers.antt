use Rattle.std.proofs.Common.{◌≡◌, ◌^◌, ◌<◌, sym, ◌∙◌, subst, rules}
use Rattle.std.specs.Int.{trailing_zeros, w64}
use Rattle.std.specs.Int.Bits.{bit_xor}
use Rattle.std.specs.Ordering.{bool_cmp}
use Rattle.address.specs.Bits.{bit}
use Rattle.address.specs.Parts.{number}
use Rattle.address.specs.SearchOrder.{Before, Ranking, search_cmp}
use Rattle.address.specs.Orders.{search_order, ranking, ranks, same_address, with_equal}
use Rattle.address.proofs.Differences.{by_lowest}
use Rattle.address.proofs.search_order.compared.Goals as goal

pub returns : goal.returns
returns c =
    let a = number c.args.a in
    let b = number c.args.b in
    let small_a : a < 2 ^ 64 = search rules in
    let small_b : b < 2 ^ 64 = search rules in
    let first = trailing_zeros w64 (bit_xor a b) in
    let found : c.cmp.result ≡ bool_cmp (bit first a) (bit first b) = c.cmp.ensures ∙ (λ i. bool_cmp (c.bit.ensures i) (c.bit-2.ensures i)) in
    let answer : Ranking c.args.a c.args.b c.cmp.result =
    subst (Ranking c.args.a c.args.b) (sym found)
    (with_equal (bool_cmp (bit first a) (bit first b)) (Before a b) (a ≡ b) (c.args.a ≡ c.args.b) (Before b a) (same_address c.args.a c.args.b) (by_lowest a b small_a small_b)) in
    record {
      value = ranking.one c.args.a c.args.b c.cmp.result (search_cmp c.args.a c.args.b) answer (ranks c.args.a c.args.b);
      answer = answer;
      law = search_order;
      sorts = ranking;
    }
