-- The bytes of a number. Assumes nothing.
use Rattle.std.proofs.Common.{◌≡◌, ℕ, ◌+◌, ◌*◌, ◌/◌, ◌%◌, ◌<◌, List, [], ◌∷◌, length, refl, ap, ◌∙◌, arith}
use Rattle.std.specs.List.{AllByRecursion}
use Rattle.address.specs.Parts.{low_bytes, received}

-- bytes come back from the number that they make
pub low_bytes_received : (bs : List ℕ) → AllByRecursion (λ b. b < 256) bs → low_bytes (length bs) (received bs) ≡ bs
low_bytes_received [] h = refl
low_bytes_received (b ∷ bs) h =
    let small : b < 256 = h.0 in
    let first : (b + 256 * received bs) % 256 ≡ b = omega arith in
    let rest : (b + 256 * received bs) / 256 ≡ received bs = omega arith in
    λ i. first i ∷ (ap (low_bytes (length bs)) rest ∙ low_bytes_received bs h.1) i
