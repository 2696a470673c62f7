-- What a seat drives and takes by its address and its stage alone. Assumes nothing.
use Rattle.std.specs.Prelude.{ℕ, ◌+◌, ◌^◌, Bool, true, false, cond, not, ◌&&◌, ◌==◌, nat_lt}
use Rattle.std.specs.Bool.{beq}
use Rattle.address.specs.Bits.{bit}
use Rattle.line.specs.declared.stage.Turn.{Turn}
use Rattle.line.specs.declared.stage.Turn.TheVariants.{Bit, Opposite, Listen}
use Rattle.line.specs.declared.stage.Stage.{Stage}
use Rattle.line.specs.declared.stage.Stage.TheVariants.{Deaf, Command, Search, Match, Tell, Chosen}

-- bit numbers are below 64, a command has fewer than eight bits, and none above those that came
abbrev pub sound : Stage → Bool
sound Deaf = true
sound (Command count bits) = nat_lt count 8 && nat_lt bits (2 ^ count)
sound (Search k turn) = nat_lt k 64
sound (Match k) = nat_lt k 64
sound (Tell k) = nat_lt k 64
sound Chosen = true

-- the level that a search drives at bit k of address a
abbrev pub drives_turn : ℕ → ℕ → Turn → Bool
drives_turn a k Bit = bit k a
drives_turn a k Opposite = not (bit k a)
drives_turn a k Listen = true

-- the level that address a drives; where nothing is driven it is 1
abbrev pub drives_stage : ℕ → Stage → Bool
drives_stage a Deaf = true
drives_stage a (Command count bits) = true
drives_stage a (Search k turn) = drives_turn a k turn
drives_stage a (Match k) = true
drives_stage a (Tell k) = bit k a
drives_stage a Chosen = true

-- the level as bit k of v
abbrev pub with_bit : ℕ → Bool → ℕ → ℕ
with_bit k true v = v + 2 ^ k
with_bit k false v = v

-- where a command of eight bits leads
abbrev pub led : ℕ → Stage
led v =
    cond (v == 0xf0) (Search 0 Bit)
    (cond (v == 0x55) (Match 0)
    (cond (v == 0x33) (Tell 0)
    (cond (v == 0xcc) Chosen Deaf)))

-- the next bit's stage, or chosen after bit 63
abbrev pub onward : Stage → ℕ → Stage
onward stage k = cond (nat_lt k 63) stage Chosen

-- a search at bit k goes on; at its third turn only where the level was the address's bit
abbrev pub searched_by : ℕ → Turn → Bool → Stage
searched_by k Bit same = Search k Opposite
searched_by k Opposite same = Search k Listen
searched_by k Listen same = cond same (onward (Search (k + 1) Bit) k) Deaf

-- the stage after a level
abbrev pub takes : ℕ → Stage → Bool → Stage
takes a Deaf level = Deaf
takes a (Command count bits) level = cond (nat_lt count 7) (Command (count + 1) (with_bit count level bits)) (led (with_bit count level bits))
takes a (Search k turn) level = searched_by k turn (beq level (bit k a))
takes a (Match k) level = cond (beq level (bit k a)) (onward (Match (k + 1)) k) Deaf
takes a (Tell k) level = onward (Tell (k + 1)) k
takes a Chosen level = Chosen
