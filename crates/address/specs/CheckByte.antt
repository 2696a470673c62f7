-- The check byte: what the shift register of X^8 + X^5 + X^4 + 1 holds once every bit went in. Assumes nothing.
use Rattle.std.specs.Prelude.{ℕ, ◌+◌, ◌*◌, Bool, true, false, not, List, [], ◌∷◌}
use Rattle.std.specs.List.{flat_map}
use Rattle.address.specs.Bits.{bit, bits}

-- exclusive or
abbrev pub xor : Bool → Bool → Bool
xor true b = not b
xor false b = b

-- the eight stages, named by the power that each holds: what goes in enters x0, and x7 is the output
pub record Register : Type 0 where
  pub x0 : Bool
  pub x1 : Bool
  pub x2 : Bool
  pub x3 : Bool
  pub x4 : Bool
  pub x5 : Bool
  pub x6 : Bool
  pub x7 : Bool

-- every stage 0
abbrev pub cleared : Register
cleared = record { x0 = false; x1 = false; x2 = false; x3 = false; x4 = false; x5 = false; x6 = false; x7 = false }

-- what is fed back: the bit that comes in, exclusive or the output
abbrev pub feedback : Bool → Register → Bool
feedback b r = xor b r.x7

-- each stage passes on to the next, and the feedback enters at X^0, X^4 and X^5
abbrev pub shifted : Bool → Register → Register
shifted b r =
    record {
      x0 = feedback b r;
      x1 = r.x0;
      x2 = r.x1;
      x3 = r.x2;
      x4 = xor (feedback b r) r.x3;
      x5 = xor (feedback b r) r.x4;
      x6 = r.x5;
      x7 = r.x6;
    }

-- the register after these bits, the first first
unfoldable pub fed : List Bool → Register → Register
fed [] r = r
fed (b ∷ bs) r = fed bs (shifted b r)

-- a bit as a number
abbrev pub one : Bool → ℕ
one true = 1
one false = 0

-- the register as a byte: the output is the lowest bit, since it travels first
abbrev pub byte_of : Register → ℕ
byte_of r =
    one r.x7 + 2 * one r.x6 + 4 * one r.x5 + 8 * one r.x4 + 16 * one r.x3 + 32 * one r.x2 + 64 * one r.x1 + 128 * one r.x0

-- the register that is this byte
abbrev pub stages : ℕ → Register
stages n =
    record {
      x0 = bit 7 n;
      x1 = bit 6 n;
      x2 = bit 5 n;
      x3 = bit 4 n;
      x4 = bit 3 n;
      x5 = bit 2 n;
      x6 = bit 1 n;
      x7 = bit 0 n;
    }

-- the check byte of bytes, each the lowest bit first, from a cleared register
unfoldable pub check_byte : List ℕ → ℕ
check_byte bytes = byte_of (fed (flat_map bits bytes) cleared)
