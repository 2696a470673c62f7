-- The address commands and their bytes. Assumes nothing.
use Rattle.std.specs.Prelude.{◌≡◌, ℕ, Result, MatchResult}
use Rattle.line.specs.declared.command.AddressCommand.{AddressCommand}
use Rattle.line.specs.declared.command.AddressCommand.TheVariants.{Search, Match, Read, Skip}
use Rattle.line.specs.declared.command.UnknownCommand.{UnknownCommand}

-- the byte of an address command
abbrev pub byte_of : AddressCommand → ℕ
byte_of Search = 0xf0
byte_of Match = 0x55
byte_of Read = 0x33
byte_of Skip = 0xcc

-- a byte is read as the command whose byte it is, and refused, with the byte, where it is that of none
abbrev pub Decodes : ℕ → Result AddressCommand UnknownCommand → Type 0
Decodes byte r = MatchResult r (λ command. byte_of command ≡ byte) (λ unknown. (unknown.0 ≡ byte) × ((command : AddressCommand) → byte_of command ≡ byte → ⊥))
