use Rattle.std.proofs.Common.{◌≡◌, ℕ, cond, eqb, sym}
use Rattle.std.proofs.lemmas.Bool.{ne_eqb}
use Rattle.line.specs.Commands.{byte_of}
use Rattle.line.specs.declared.command.AddressCommand.{AddressCommand}
use Rattle.line.specs.declared.command.AddressCommand.TheVariants as command
use Rattle.line.specs.declared.stage.Stage.TheVariants.{Deaf, Search, Match, Tell, Chosen}
use Rattle.line.specs.declared.stage.Turn.TheVariants.{Bit}
use Rattle.line.specs.Stages.{led}
use Rattle.line.proofs.stage.Stage.led.Goals as goal

-- the byte of no command leads nowhere
unknown_led : (v : ℕ) → ((c : AddressCommand) → byte_of c ≡ v → ⊥) → Deaf ≡ led v
unknown_led v none =
    let not : (c : AddressCommand) → eqb v (byte_of c) ≡ _ = λ c. ne_eqb v (byte_of c) (λ e. none c (sym e)) in
    sym
    (λ i. cond (not command.Search i) (Search 0 Bit) (cond (not command.Match i) (Match 0) (cond (not command.Read i) (Tell 0) (cond (not command.Skip i) Chosen Deaf))))

pub returns-in-Err-clause-value : goal.returns-in-Err-clause-value
returns-in-Err-clause-value c = unknown_led c.args.byte c.in-Err.ensures.1
