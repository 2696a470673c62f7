use Rattle.std.proofs.Common.{◌≡◌, rules}
use Rattle.address.specs.Parts.{number}
use Rattle.line.proofs.Lives.{pack_made}
use Rattle.pack.specs.Packs.{seat_of, new_seat}
use Rattle.pack.proofs.Lives.{made}
use Rattle.pack.proofs.Pack.deaf.Goals as goal

pub returns : goal.returns
returns c =
    let a = number c.args.address in
    let bytes = c.args.eeprom.now in
    let pack = seat_of (record { tag = c.new.result; store = c.new-2.result }) in
    let new : pack ≡ new_seat a bytes = search rules in
    record { made = new; lawful = made a bytes pack c.told-eeprom new; history = pack_made a bytes pack c.told-eeprom new }
