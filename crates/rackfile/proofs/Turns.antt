-- Which cause of a refusal has its turn first. Assumes nothing.
use Rattle.std.proofs.Common.{ℕ, ◌<◌, List, Some, subst, ⊎_elim, arith}
use Rattle.std.proofs.lemmas.Bool.{cases_order}
use Rattle.rackfile.specs.declared.Flaw.{Flaw}
use Rattle.rackfile.specs.declared.Flaw.TheVariants.{WrongCheckByte, RepeatedAddress, UnprintableName}
use Rattle.rackfile.specs.declared.Refusal.{Refusal}
use Rattle.rackfile.specs.declared.Refusal.TheVariants.{Malformed, Flawed, Memory}
use Rattle.rackfile.specs.Files.{count, WellFormed}
use Rattle.rackfile.specs.Refusals.{Has, Cause, FirstFlaw, First, flaw_turn, turn}

three_flaws : (w : Flaw) → flaw_turn w < 3
three_flaws WrongCheckByte = omega arith
three_flaws RepeatedAddress = omega arith
three_flaws UnprintableName = omega arith

module _ (f : List ℕ) (form : WellFormed f) (i : ℕ) (w : Flaw) (here : FirstFlaw f i (Some w)) (before : (j : ℕ) → j < i → (v : Flaw) → Has f j v → ⊥) where
  none_before : (d : Refusal) → turn d < turn (Flawed i w) → Cause f d → ⊥
  none_before Malformed t h = h form
  none_before Memory t h = h
  none_before (Flawed j v) t h =
      ⊎_elim
      (λ e. let s : flaw_turn v < flaw_turn w = omega (arith, e) in here.1 v s (subst (λ (k : ℕ). Has f k v) e h.1))
      (⊎_elim (λ l. before j l v h.1) (λ l. let s : ⊥ = omega (arith, three_flaws w, three_flaws v) in s)) (cases_order j i)

  -- the first flaw of an entry behind entries with none is the first cause
  pub first_flawed : i < count f → First f (Flawed i w)
  first_flawed l = ((l, here.0), none_before)
