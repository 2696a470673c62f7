-- An address is a number of 64 bits: family, serial number and check byte. Assumes nothing.
use Rattle.std.specs.Prelude.{ℕ, zero, suc, ◌+◌, ◌*◌, ◌/◌, ◌%◌, ◌^◌, Bool, List, [], ◌∷◌, map, take, ◌==◌}
use Rattle.std.specs.List.{range_with_len}
use Rattle.address.specs.declared.Address.{Address}
use Rattle.address.specs.Bits.{bit}
use Rattle.address.specs.CheckByte.{check_byte}

-- an address as a number
abbrev pub number : Address → ℕ
number a = a.bits

-- the lowest byte: the family
abbrev pub family : ℕ → ℕ
family n = n % 256

-- the next six bytes: the serial number
abbrev pub serial_number : ℕ → ℕ
serial_number n = n / 256 % 2 ^ 48

-- the top byte: the check byte that the address has
abbrev pub top_byte : ℕ → ℕ
top_byte n = n / 2 ^ 56 % 256

-- the 64 bits of an address, the lowest first
abbrev pub address_bits : ℕ → List Bool
address_bits n = map (λ k. bit k n) (range_with_len 0 64)

-- k bytes of a number in sending order, the lowest first
abbrev pub low_bytes : ℕ → ℕ → List ℕ
low_bytes zero n = []
low_bytes (suc k) n = (n % 256) ∷ low_bytes k (n / 256)

-- the eight bytes of an address in sending order
abbrev pub sent : ℕ → List ℕ
sent n = low_bytes 8 n

-- the number whose bytes in sending order these are
abbrev pub received : List ℕ → ℕ
received [] = 0
received (b ∷ bs) = b + 256 * received bs

-- an address is right when its check byte is that of its first seven bytes
abbrev pub right : ℕ → Bool
right n = top_byte n == check_byte (take 7 (sent n))
