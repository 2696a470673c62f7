use Rattle.std.proofs.Common.{rules, arith, ◌≡◌, ℕ, ◌+◌, ◌-◌, ◌<◌, ◌≤◌, true, refl}
use Rattle.std.proofs.iter.runs.Sources.{ranges}
use Rattle.address.specs.Parts.{number}
use Rattle.rackfile.specs.Files.{address_at}
use Rattle.rackfile.proofs.layout.Layout.any_has.Goals as goal

pub returns : goal.returns
returns c =
    let f = c.args.self.now in
    let r = c.args.entries in
    let a = number c.args.address in
    let one : c.any.result ≡ true → (k : ℕ) × (k < r.end - r.start) × (address_at f (r.start + k) ≡ a) = λ h. search (rules, ranges) in
    let two : (i : ℕ) → r.start ≤ i → i < r.end → address_at f i ≡ a → c.any.result ≡ true = λ i l h e.
    let here : c.any.ensures.runs.0.at (i - r.start) ≡ c.any.ensures.runs.0.at (i - r.start) = refl in
    search (rules, ranges, here) in
    (λ h. let k = one h in (r.start + k.0, omega arith, omega arith, k.2), λ (i, l, h, e). two i l h e)
