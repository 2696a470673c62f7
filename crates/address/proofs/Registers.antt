-- The register as a byte, and a byte as a register. Assumes nothing.
use Rattle.std.proofs.Common.{◌≡◌, ℕ, ◌+◌, ◌/◌, ◌<◌, ◌≤◌, Bool, true, false, cond, ◌&&◌, eqb, List, [], ◌∷◌, ◌++◌, length, get_or, drop, sym, refl, ap, ◌∙◌, arith}
use lib.Bits.{bit_xor}
use Rattle.std.specs.List.{flat_map}
use Rattle.std.proofs.lemmas.List.{drop_more}
use Rattle.std.proofs.lemmas.Bool.{and_parts, eqb-true}
use Rattle.address.specs.Bits.{bit, bits}
use Rattle.address.specs.CheckByte.{Register, xor, shifted, fed, one, byte_of, stages}
use Rattle.address.proofs.Tables.{passes_below, passes_at}

-- one turn of the code, on the register as a byte
abbrev pub turn : Bool → ℕ → ℕ
turn b n = cond (xor b (bit 0 n)) (bit_xor (n / 2) 0x8c) (n / 2)

-- that it shifts the register, at either bit
alike : ℕ → Bool
alike n = eqb (turn true n) (byte_of (shifted true (stages n))) && eqb (turn false n) (byte_of (shifted false (stages n)))

all_alike : passes_below alike 256 ≡ true
unfolding alike
all_alike = refl

pub turn_shifts : (b : Bool) (n : ℕ) → n < 256 → turn b n ≡ byte_of (shifted b (stages n))
unfolding alike
turn_shifts true n h = eqb-true _ _ (and_parts _ _ (passes_at alike 256 all_alike n h)).0
turn_shifts false n h = eqb-true _ _ (and_parts _ _ (passes_at alike 256 all_alike n h)).1

at_most_one : (b : Bool) → one b ≤ 1
at_most_one true = omega arith
at_most_one false = omega arith

is_one : (b : Bool) (n : ℕ) → n ≡ one b → eqb n 1 ≡ b
is_one true n e = ap (λ (m : ℕ). eqb m 1) e
is_one false n e = ap (λ (m : ℕ). eqb m 1) e

module _ (r : Register) where
  small : (one r.x0 ≤ 1) × (one r.x1 ≤ 1) × (one r.x2 ≤ 1) × (one r.x3 ≤ 1) × (one r.x4 ≤ 1) × (one r.x5 ≤ 1) × (one r.x6 ≤ 1) × (one r.x7 ≤ 1)
  small = (at_most_one _, at_most_one _, at_most_one _, at_most_one _, at_most_one _, at_most_one _, at_most_one _, at_most_one _)

  pub stages_of : stages (byte_of r) ≡ r
  stages_of =
      let e0 : bit 7 (byte_of r) ≡ r.x0 = is_one _ _ (omega (arith, small)) in
      let e1 : bit 6 (byte_of r) ≡ r.x1 = is_one _ _ (omega (arith, small)) in
      let e2 : bit 5 (byte_of r) ≡ r.x2 = is_one _ _ (omega (arith, small)) in
      let e3 : bit 4 (byte_of r) ≡ r.x3 = is_one _ _ (omega (arith, small)) in
      let e4 : bit 3 (byte_of r) ≡ r.x4 = is_one _ _ (omega (arith, small)) in
      let e5 : bit 2 (byte_of r) ≡ r.x5 = is_one _ _ (omega (arith, small)) in
      let e6 : bit 1 (byte_of r) ≡ r.x6 = is_one _ _ (omega (arith, small)) in
      let e7 : bit 0 (byte_of r) ≡ r.x7 = is_one _ _ (omega (arith, small)) in
      λ i. record { x0 = e0 i; x1 = e1 i; x2 = e2 i; x3 = e3 i; x4 = e4 i; x5 = e5 i; x6 = e6 i; x7 = e7 i }

pub byte_of_stages : (n : ℕ) → n < 256 → byte_of (stages n) ≡ n
byte_of_stages n h = eqb-true _ _ (passes_at (λ m. eqb (byte_of (stages m)) m) 256 refl n h)

pub fed_none : (r : Register) → fed [] r ≡ r
unfolding fed
fed_none r = refl

pub fed_append : (bs cs : List Bool) (r : Register) → fed (bs ++ cs) r ≡ fed cs (fed bs r)
unfolding fed
fed_append [] cs r = refl
fed_append (b ∷ bs) cs r = fed_append bs cs (shifted b r)

-- one bit, and then those behind it
pub fed_bit : (bs : List Bool) (k n : ℕ) → k < length bs → fed (drop k bs) (stages n) ≡ fed (drop (k + 1) bs) (stages (byte_of (shifted (get_or bs k false) (stages n))))
unfolding fed
fed_bit bs k n h =
    ap (λ (xs : List Bool). fed xs (stages n)) (drop_more bs k false h)
    ∙ ap (fed (drop (k + 1) bs)) (sym (stages_of (shifted (get_or bs k false) (stages n))))

-- one byte, and then those behind it
pub fed_byte : (bytes : List ℕ) (i n : ℕ) → i < length bytes → fed (flat_map bits (drop i bytes)) (stages n) ≡ fed (flat_map bits (drop (i + 1) bytes)) (stages (byte_of (fed (bits (get_or bytes i 0)) (stages n))))
fed_byte bytes i n h =
    let first = bits (get_or bytes i 0) in
    let rest = flat_map bits (drop (i + 1) bytes) in
    ap (λ (bs : List ℕ). fed (flat_map bits bs) (stages n)) (drop_more bytes i 0 h)
    ∙ fed_append first rest (stages n)
    ∙ ap (fed rest) (sym (stages_of (fed first (stages n))))
