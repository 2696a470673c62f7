-- The names of a sound rack file are text. Assumes nothing.
use Rattle.std.proofs.Common.{ℕ, ◌<◌, List, length, get_or, IsUtf8, IsAscii, inr, arith}
use Rattle.std.proofs.lemmas.Grind.{common_steps}
use Rattle.std.proofs.lemmas.Str.{IsUtf8-from_ascii}
use Rattle.rackfile.specs.declared.Refusal.TheVariants.{Flawed}
use Rattle.rackfile.specs.declared.Flaw.TheVariants.{UnprintableName}
use Rattle.rackfile.specs.Files.{count, name_at}
use Rattle.rackfile.specs.Refusals.{Unprintable, Sound}

printable_ascii : (name : List ℕ) → (Unprintable name → ⊥) → IsAscii name
printable_ascii name h k =
    let small : k < length name → 0x7e < get_or name k 0 → ⊥ = λ l big. h (k, l, inr big) in
    grind (arith, common_steps)

pub name_utf8 : (f : List ℕ) → Sound f → (i : ℕ) → i < count f → IsUtf8 (name_at f i)
name_utf8 f sound i l = IsUtf8-from_ascii (name_at f i) (printable_ascii (name_at f i) (λ h. sound (Flawed i UnprintableName) (l, h)))
