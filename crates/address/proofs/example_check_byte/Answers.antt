use Rattle.std.proofs.Common.{refl}
use Rattle.address.specs.CheckByte.{check_byte, fed}
use Rattle.address.proofs.example_check_byte.Goals as goal

pub returns : goal.returns
unfolding check_byte fed
returns c = record { value = refl; check = refl }
