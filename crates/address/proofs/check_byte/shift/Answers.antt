use Rattle.std.proofs.Common.{◌≡◌, ℕ, ◌/◌, ◌%◌, ◌<◌, Bool, true, false, cond, not, eqb, sym, refl, ap, ◌∙◌, arith}
use mathlib.Core.Bool.{beq}
use lib.Bits.{bit_xor}
use Rattle.address.specs.Bits.{bit}
use Rattle.address.specs.CheckByte.{xor, shifted, byte_of, stages}
use Rattle.address.specs.Numbers.{bit_zero}
use Rattle.address.proofs.Registers.{turn_shifts}
use Rattle.address.proofs.check_byte.shift.Goals as goal

-- the code's test is that of the register's feedback
differs : (a b : Bool) → not (beq a b) ≡ xor b a
differs true true = refl
differs true false = refl
differs false true = refl
differs false false = refl

fed_back : (b t : Bool) (n : ℕ) → not (beq (eqb (n % 2) 1) b) ≡ t → xor b (bit 0 n) ≡ t
fed_back b t n h = ap (xor b) (bit_zero n) ∙ sym (differs (eqb (n % 2) 1) b) ∙ h

shifts : (b t : Bool) (n : ℕ) → n < 256 → not (beq (eqb (n % 2) 1) b) ≡ t → cond t (bit_xor (n / 2) 0x8c) (n / 2) ≡ byte_of (shifted b (stages n))
shifts b t n h e =
    ap (λ (s : Bool). cond s (bit_xor (n / 2) 0x8c) (n / 2)) (sym (fed_back b t n e)) ∙ turn_shifts b n h

pub returns-then-output-level : goal.returns-then-output-level
returns-then-output-level c = shifts c.args.level true c.args.register (omega arith) c.if-output-level.true

pub returns-else-output-level : goal.returns-else-output-level
returns-else-output-level c = shifts c.args.level false c.args.register (omega arith) c.if-output-level.false
