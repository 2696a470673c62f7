-- Hexadecimal digits. Assumes nothing.
use Rattle.std.proofs.Common.{◌≡◌, ℕ, ◌+◌, ◌-◌, ◌^◌, ◌<◌, true, false, List, [], ◌++◌, length, get_or, take, sym, ap, ◌∙◌, ltb, arith}
use Rattle.std.specs.declared.fmt.Formatter.{Formatter}
use Rattle.std.specs.Fmt.{IsPlainFormatter, HasWritten, digits, padded_integral, format_spec}
use Rattle.std.specs.List.{flat_map}
use Rattle.std.proofs.Output.{writes_in_calls_nil}
use Rattle.std.proofs.lemmas.Fmt as printed
use Rattle.std.proofs.lemmas.Grind.{common_steps}
use Rattle.std.proofs.lemmas.List.{take_more, flat_map_more}
use Rattle.std.proofs.lemmas.Bool.{cond_both}
use Rattle.address.specs.Hexadecimal.{hex_digit, hex_byte, hexadecimal}

-- a digit is ASCII
pub hex_digit_ascii : (d : ℕ) → d < 16 → hex_digit d < 128
hex_digit_ascii d h = cond_both (ltb d 10) (48 + d) (55 + d) (λ x. x < 128) (λ _. omega arith) (λ _. omega arith)

-- what `{:02X}` writes of a byte
pub byte_written : (n : ℕ) → n < 256 → padded_integral (format_spec 32 0 4 2 (2 ^ 64 - 1)) false [] (digits 16 true n) ≡ hex_byte n
byte_written n small = printed.hex_byte true n small

-- no digit is written before the first byte
pub digits_begin : {W : Type 0} (took : W → List ℕ → W → Type 0) (f : Formatter W) → IsPlainFormatter f → HasWritten took f (hexadecimal []) f
unfolding hexadecimal
digits_begin took f plain = record { wrote = writes_in_calls_nil took f.writer; plain = plain }

-- one byte more
pub digits_step : (bs : List ℕ) (i : ℕ) → i < length bs → hexadecimal (take (i + 1) bs) ≡ hexadecimal (take i bs) ++ hex_byte (get_or bs i 0)
unfolding hexadecimal
digits_step bs i h = ap (flat_map hex_byte) (take_more bs i 0 h) ∙ sym (flat_map_more hex_byte [] (take i bs) (get_or bs i 0))

-- what an address's text is made of
pub ruleset digit_steps = (common_steps, byte_written, digits_begin, digits_step)
