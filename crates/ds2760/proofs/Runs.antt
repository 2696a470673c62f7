-- The law of runs: what a store keeps from one point of a run to any later one. Assumes nothing.
use Rattle.std.proofs.Common.{◌≡◌, ℕ, ◌-◌, ◌≤◌, Bool, true, false, cond, not, ◌&&◌, eqb, leb, List, [], ◌∷◌, ◌++◌, length, take, drop, Some, None, Option, sym, refl, ap, ◌∙◌, subst, arith}
use Rattle.std.proofs.lemmas.List.{take_at, drop_at, length-take-le}
use Rattle.std.proofs.lemmas.Bool.{and_parts, and_from, both_ways, not-true, leb-true, le-leb, eqb-false}
use Rattle.gauge.specs.declared.measure.Measurement.{Measurement}
use Rattle.gauge.specs.Measures.{in_range}
use Rattle.ds2760.specs.declared.block.Block.{Block}
use Rattle.ds2760.specs.declared.block.Block.TheVariants.{Zero, One}
use Rattle.ds2760.specs.declared.progress.Copying.{Copying}
use Rattle.ds2760.specs.declared.progress.Copying.TheVariants.{Waiting, Running}
use Rattle.ds2760.specs.Commands.{replaced, is_locked, copied, ticked_by, measured, made}
use Rattle.ds2760.specs.Runs.{Call, slot, reset, tick, measure, does, run, slotless, half, Kept, Lawful, Follows, RunsAreLawful}
use Rattle.ds2760.specs.Soundness.{copies}
use Rattle.ds2760.specs.States.{State, with_copying}
use Rattle.ds2760.proofs.Quiet.{Sound, Quiet, other, replaced_long, quiet_self, quiet_slot, quiet_reset}

-- t is sound, and keeps the locked blocks of s and their locks
record Steps (s t : State) : Type 0 where
  sound : Sound t
  eeprom : (block : Block) → is_locked block s ≡ true → half block t.eeprom ≡ half block s.eeprom
  locked : (block : Block) → is_locked block s ≡ true → is_locked block t ≡ true

from_quiet : (s t : State) → Quiet s t → Steps s t
from_quiet s t q = record { sound = q.sound; eeprom = λ b l. ap (half b) q.eeprom; locked = q.locked }

steps_then : (s t u : State) → Steps s t → Steps t u → Steps s u
steps_then s t u p q =
    record { sound = q.sound; eeprom = λ b l. q.eeprom b (p.locked b l) ∙ p.eeprom b l; locked = λ b l. q.locked b (p.locked b l) }

-- ---- ticks

-- a copy of one block leaves the other alone, and the copied one is not locked
half_kept : (block b : Block) (s : State) → Sound s → not (is_locked b s) ≡ true → is_locked block s ≡ true → half block (replaced b s.shadow s.eeprom) ≡ half block s.eeprom
half_kept Zero Zero s h n l = absurd (both_ways s.locked0 (not-true s.locked0 n) l)
half_kept Zero One s h n l = take_at (take 16 s.eeprom) (drop 16 s.shadow) 16 (length-take-le 16 s.eeprom (omega (arith, h.eeprom)))
half_kept One Zero s h n l = drop_at (take 16 s.shadow) (drop 16 s.eeprom) 16 (length-take-le 16 s.shadow (omega (arith, h.shadow)))
half_kept One One s h n l = absurd (both_ways s.locked1 (not-true s.locked1 n) l)

module _ (s : State) (h : Sound s) where
  last_tick : (b : Block) → not (is_locked b s) ≡ true → Steps s (with_copying None (copied b s))
  last_tick b n =
      record {
        sound = record { copies = refl; shadow = h.shadow; eeprom = replaced_long b s.shadow s.eeprom h.shadow h.eeprom };
        eeprom = λ block l. half_kept block b s h n l;
        locked = λ _ l. l;
      }

  one_less : (b : Block) (ticks : ℕ) → copies s.locked0 s.locked1 (Some (Running b ticks)) ≡ true → eqb ticks 1 ≡ false → copies s.locked0 s.locked1 (Some (Running b (ticks - 1))) ≡ true
  one_less b ticks k e =
      let parts = and_parts (not (is_locked b s)) (leb 1 ticks && leb ticks 10) k in
      let bounds = and_parts (leb 1 ticks) (leb ticks 10) parts.1 in
      let low : 1 ≤ ticks = leb-true 1 ticks bounds.0 in
      let high : ticks ≤ 10 = leb-true ticks 10 bounds.1 in
      let no_one = eqb-false ticks 1 e in
      and_from (not (is_locked b s)) (leb 1 (ticks - 1) && leb (ticks - 1) 10) parts.0
      (and_from (leb 1 (ticks - 1)) (leb (ticks - 1) 10) (le-leb 1 (ticks - 1) (omega (arith, no_one))) (le-leb (ticks - 1) 10 (omega arith)))

  running : (b : Block) (ticks : ℕ) → copies s.locked0 s.locked1 (Some (Running b ticks)) ≡ true → (t : Bool) → eqb ticks 1 ≡ t → Steps s (cond t (with_copying None (copied b s)) (with_copying (Some (Running b (ticks - 1))) s))
  running b ticks k true e = last_tick b (and_parts (not (is_locked b s)) (leb 1 ticks && leb ticks 10) k).0
  running b ticks k false e =
      record { sound = record { copies = one_less b ticks k e; shadow = h.shadow; eeprom = h.eeprom }; eeprom = λ _ _. refl; locked = λ _ l. l }

  tick_steps : (c : Option Copying) → copies s.locked0 s.locked1 c ≡ true → Steps s (ticked_by c s)
  tick_steps None k = from_quiet s s (quiet_self s h)
  tick_steps (Some (Waiting b)) k = from_quiet s s (quiet_self s h)
  tick_steps (Some (Running b ticks)) k = running b ticks k (eqb ticks 1) refl

  measure_steps : (m : Measurement) (t : Bool) → Steps s (cond t (measured m s) s)
  measure_steps m true = from_quiet s (measured m s) (other s h (measured m s) refl refl refl refl refl)
  measure_steps m false = from_quiet s s (quiet_self s h)

-- ---- calls and runs

does_steps : (c : Call) (s : State) → Sound s → Steps s (does c s)
does_steps (slot level) s h = from_quiet s _ (quiet_slot level s h)
does_steps reset s h = from_quiet s _ (quiet_reset s h)
does_steps tick s h = tick_steps s h s.copying h.copies
does_steps (measure m) s h = measure_steps s h m (in_range m)

run_steps : (cs : List Call) (s : State) → Sound s → Steps s (run cs s)
unfolding run
run_steps [] s h = from_quiet s s (quiet_self s h)
run_steps (c ∷ cs) s h =
    let one = does_steps c s h in
    steps_then s (does c s) (run cs (does c s)) one (run_steps cs (does c s) one.sound)

-- t has the shadow, the SRAM and the lock flags of s
record Still (s t : State) : Type 0 where
  shadow : t.shadow ≡ s.shadow
  sram : t.sram ≡ s.sram
  flags : (t.locked0 ≡ s.locked0) × (t.locked1 ≡ s.locked1) × (t.lock ≡ s.lock)

still_self : (s : State) → Still s s
still_self s = record { shadow = refl; sram = refl; flags = (refl, refl, refl) }

still_then : (s t u : State) → Still s t → Still t u → Still s u
still_then s t u p q =
    record {
      shadow = q.shadow ∙ p.shadow;
      sram = q.sram ∙ p.sram;
      flags = (q.flags.0 ∙ p.flags.0, q.flags.1 ∙ p.flags.1, q.flags.2 ∙ p.flags.2);
    }

still_cond : (b : Bool) (s t u : State) → Still s t → Still s u → Still s (cond b t u)
still_cond true s t u p q = p
still_cond false s t u p q = q

tick_still : (c : Option Copying) (s : State) → Still s (ticked_by c s)
tick_still None s = still_self s
tick_still (Some (Waiting b)) s = still_self s
tick_still (Some (Running b ticks)) s =
    still_cond (eqb ticks 1) s _ _ (record { shadow = refl; sram = refl; flags = (refl, refl, refl) })
    (record { shadow = refl; sram = refl; flags = (refl, refl, refl) })

run_still : (cs : List Call) (s : State) → slotless cs ≡ true → Still s (run cs s)
unfolding run
run_still [] s e = still_self s
run_still (slot level ∷ cs) s e = absurd (both_ways true (sym e) refl)
run_still (reset ∷ cs) s e =
    still_then s (does reset s) _ (record { shadow = refl; sram = refl; flags = (refl, refl, refl) }) (run_still cs (does reset s) e)
run_still (tick ∷ cs) s e = still_then s (does tick s) _ (tick_still s.copying s) (run_still cs (does tick s) e)
run_still (measure m ∷ cs) s e =
    still_then s (does (measure m) s) _
    (still_cond (in_range m) s (measured m s) s (record { shadow = refl; sram = refl; flags = (refl, refl, refl) }) (still_self s))
    (run_still cs (does (measure m) s) e)

run_kept : (cs : List Call) (s : State) → Sound s → Kept cs s (run cs s)
run_kept cs s h =
    record {
      eeprom = (run_steps cs s h).eeprom;
      shadow = λ e. (run_still cs s e).shadow;
      sram = λ e. (run_still cs s e).sram;
      flags = λ e. (run_still cs s e).flags;
    }

run_append : (cs ds : List Call) (s : State) → run (cs ++ ds) s ≡ run ds (run cs s)
unfolding run
run_append [] ds s = refl
run_append (c ∷ cs) ds s = run_append cs ds (does c s)

run_one : (c : Call) (s : State) → run (c ∷ []) s ≡ does c s
unfolding run
run_one c s = refl

run_none : (s : State) → run [] s ≡ s
unfolding run
run_none s = refl

made_sound : (bytes : List ℕ) → length bytes ≡ 32 → Sound (made bytes)
made_sound bytes l = record { copies = refl; shadow = l; eeprom = l }

-- a state that a run leads to keeps what every earlier point had to keep
pub lawful : (bytes : List ℕ) (calls : List Call) (s : State) → length bytes ≡ 32 → s ≡ run calls (made bytes) → Lawful bytes calls s
lawful bytes calls s l e =
    record {
      state = e;
      kept = λ before later split.
          let at = e ∙ ap (λ (cs : List Call). run cs (made bytes)) (sym split) ∙ run_append before later (made bytes) in
          subst (Kept later (run before (made bytes))) (sym at)
          (run_kept later (run before (made bytes)) (run_steps before (made bytes) (made_sound bytes l)).sound);
    }

-- a new store is lawful
pub new_is_lawful : (bytes : List ℕ) (s : State) → length bytes ≡ 32 → s ≡ made bytes → Lawful bytes [] s
new_is_lawful bytes s l e = lawful bytes [] s l (e ∙ sym (run_none (made bytes)))

-- every call follows
pub follows : (c : Call) (s t : State) → t ≡ does c s → Follows c s t
follows c s t e =
    record {
      lawful = λ bytes calls l r.
          lawful bytes (calls ++ c ∷ []) t l
          (e ∙ ap (does c) r ∙ sym (run_one c (run calls (made bytes))) ∙ sym (run_append calls (c ∷ []) (made bytes)));
    }

pub runs_are_lawful : RunsAreLawful
runs_are_lawful = record { makes = new_is_lawful; follows = follows }
