-- Slots and resets leave the EEPROM and every set lock flag alone. Assumes nothing.
use Rattle.std.proofs.Common.{◌≡◌, ℕ, ◌-◌, Bool, true, false, cond, not, ◌&&◌, List, length, set, Some, None, Option, Ok, Err, Result, refl, ap, ◌∙◌, arith}
use Rattle.std.proofs.lemmas.List.{length-append, length-take, length-drop, length-set}
use Rattle.std.proofs.lemmas.Bool.{and_parts, and_from, both_ways, not-true}
use Rattle.ds2760.specs.declared.block.Block.{Block}
use Rattle.ds2760.specs.declared.block.Block.TheVariants.{Zero, One}
use Rattle.ds2760.specs.declared.command.Command.{Command}
use Rattle.ds2760.specs.declared.command.Command.TheVariants.{Read, Write, Copy, Recall, Lock}
use Rattle.ds2760.specs.declared.partial.Partial.{Partial}
use Rattle.ds2760.specs.declared.progress.Copying.{Copying}
use Rattle.ds2760.specs.declared.progress.Copying.TheVariants.{Waiting, Running}
use Rattle.ds2760.specs.declared.progress.Progress.{Progress}
use Rattle.ds2760.specs.declared.progress.Progress.TheVariants.{Opcode, Address, Reading, Writing, Finished}
use Rattle.ds2760.specs.Commands.{replaced, is_locked, recalled, locked, within, block_of, copy_asked, recall_asked, lock_asked, asked, unread, empty, opcode_taken, address_taken, data_taken, next_of, taken, begun, started, slotted, after_reset, pushed}
use Rattle.ds2760.specs.Map.{Place, protection, status, eeprom, feature, voltage, current, amount, temperature, block0, block1, sram, reserved, place_of, eec, written, written_at, writable}
use Rattle.ds2760.specs.Soundness.{flag_of, copies, waits}
use Rattle.ds2760.specs.States.{State, with_progress, with_copying, with_shadow}

-- what holds of a store at any time
pub record Sound (s : State) : Type 0 where
  pub copies : copies s.locked0 s.locked1 s.copying ≡ true
  pub shadow : length s.shadow ≡ 32
  pub eeprom : length s.eeprom ≡ 32

-- t is sound, and has the EEPROM of s and all its locks
pub record Quiet (s t : State) : Type 0 where
  pub sound : Sound t
  pub eeprom : t.eeprom ≡ s.eeprom
  pub locked : (block : Block) → is_locked block s ≡ true → is_locked block t ≡ true

pub quiet_self : (s : State) → Sound s → Quiet s s
quiet_self s h = record { sound = h; eeprom = refl; locked = λ _ l. l }

pub quiet_then : (s t u : State) → Quiet s t → Quiet t u → Quiet s u
quiet_then s t u p q = record { sound = q.sound; eeprom = q.eeprom ∙ p.eeprom; locked = λ b l. q.locked b (p.locked b l) }

-- the state but for parts that matter to neither
quiet_at : (s : State) (p : Progress) → Sound s → Quiet s (with_progress p s)
quiet_at s p h =
    record { sound = record { copies = h.copies; shadow = h.shadow; eeprom = h.eeprom }; eeprom = refl; locked = λ b l. l }

quiet_cond : (b : Bool) (s t u : State) → Quiet s t → Quiet s u → Quiet s (cond b t u)
quiet_cond true s t u p q = p
quiet_cond false s t u p q = q

-- a state that differs only in a shadow of the same length
quiet_shadow : (s : State) (x : List ℕ) → Sound s → length x ≡ 32 → Quiet s (with_shadow x s)
quiet_shadow s x h l =
    record { sound = record { copies = h.copies; shadow = l; eeprom = h.eeprom }; eeprom = refl; locked = λ b f. f }

-- ---- copies

begun_copies : (l m : Bool) (c : Option Copying) → copies l m c ≡ true → copies l m (begun c) ≡ true
begun_copies l m None h = refl
begun_copies l m (Some (Waiting block)) h = and_from (not (flag_of l m block)) true h refl
begun_copies l m (Some (Running block ticks)) h = h

begun_waits : (c : Option Copying) → waits (begun c) ≡ false
begun_waits None = refl
begun_waits (Some (Waiting block)) = refl
begun_waits (Some (Running block ticks)) = refl

quiet_copying : (s : State) (c : Option Copying) → Sound s → copies s.locked0 s.locked1 c ≡ true → Quiet s (with_copying c s)
quiet_copying s c h k = record { sound = record { copies = k; shadow = h.shadow; eeprom = h.eeprom }; eeprom = refl; locked = λ b f. f }

quiet_started : (s : State) → Sound s → Quiet s (started s)
quiet_started s h = quiet_copying s (begun s.copying) h (begun_copies s.locked0 s.locked1 s.copying h.copies)

-- ---- the commands on a block

pub replaced_long : (block : Block) (from into : List ℕ) → length from ≡ 32 → length into ≡ 32 → length (replaced block from into) ≡ 32
replaced_long Zero from into p q = simp (length-append, length-take, length-drop) (omega arith)
replaced_long One from into p q = simp (length-append, length-take, length-drop) (omega arith)

quiet_recalled : (block : Block) (s : State) → Sound s → Quiet s (recalled block s)
quiet_recalled Zero s h = quiet_shadow s (replaced Zero s.eeprom s.shadow) h (replaced_long Zero s.eeprom s.shadow h.eeprom h.shadow)
quiet_recalled One s h =
    record {
      sound = record { copies = h.copies; shadow = replaced_long One s.eeprom s.shadow h.eeprom h.shadow; eeprom = h.eeprom };
      eeprom = refl;
      locked = λ b f. f;
    }

-- with no copy under way any flags go together with it
idle : (c : Option Copying) (l m : Bool) → waits c ≡ false → eec c ≡ false → copies l m c ≡ true
idle None l m p q = refl
idle (Some (Waiting block)) l m p q = absurd (both_ways true p refl)
idle (Some (Running block ticks)) l m p q = absurd (both_ways true q refl)

quiet_locked : (block : Block) (s : State) → Sound s → waits s.copying ≡ false → eec s.copying ≡ false → Quiet s (locked block s)
quiet_locked Zero s h p q =
    record {
      sound = record { copies = idle s.copying true s.locked1 p q; shadow = h.shadow; eeprom = h.eeprom };
      eeprom = refl;
      locked = λ b. elim b as (λ x. is_locked x s ≡ true → is_locked x (locked Zero s) ≡ true) [ Zero ↦ λ f. refl | One ↦ λ f. f ];
    }
quiet_locked One s h p q =
    record {
      sound = record { copies = idle s.copying s.locked0 true p q; shadow = h.shadow; eeprom = h.eeprom };
      eeprom = refl;
      locked = λ b. elim b as (λ x. is_locked x s ≡ true → is_locked x (locked One s) ≡ true) [ Zero ↦ λ f. f | One ↦ λ f. refl ];
    }

quiet_copy : (block : Block) (s : State) → Sound s → Quiet s (copy_asked block s)
quiet_copy block s h = by_test (writable (is_locked block s) s) refl
  where
    by_test : (t : Bool) → writable (is_locked block s) s ≡ t → Quiet s (cond t (with_copying (Some (Waiting block)) s) s)
    by_test true e = quiet_copying s (Some (Waiting block)) h (and_parts (not (is_locked block s)) (not (eec s.copying)) e).0
    by_test false e = quiet_self s h

quiet_recall : (block : Block) (s : State) → Sound s → Quiet s (recall_asked block s)
quiet_recall block s h = quiet_cond (eec s.copying) s s (recalled block s) (quiet_self s h) (quiet_recalled block s h)

quiet_lock : (block : Block) (s : State) → Sound s → waits s.copying ≡ false → Quiet s (lock_asked block s)
quiet_lock block s h p = by_test (s.lock && not (eec s.copying)) refl
  where
    by_test : (t : Bool) → (s.lock && not (eec s.copying)) ≡ t → Quiet s (cond t (locked block s) s)
    by_test true e = quiet_locked block s h p (not-true (eec s.copying) (and_parts s.lock (not (eec s.copying)) e).1)
    by_test false e = quiet_self s h

-- what is quiet for each block is so at every address
quiet_within : (f : Block → State → State) (o : Option Block) (s : State) → ((block : Block) → Quiet s (f block s)) → Sound s → Quiet s (within f o s)
quiet_within f None s q h = quiet_self s h
quiet_within f (Some block) s q h = q block

quiet_asked : (c : Command) (a : ℕ) (s : State) → Sound s → waits s.copying ≡ false → Quiet s (asked c a s)
quiet_asked c a s h p = by_command c
  where
    t : State
    t = with_progress Finished s

    ends : Quiet s t
    ends = quiet_at s Finished h

    by_command : (c : Command) → Quiet s (asked c a s)
    by_command Read = quiet_at s (Reading (unread a)) h
    by_command Write = quiet_at s (Writing a empty) h
    by_command Copy = quiet_then s t _ ends (quiet_within copy_asked (block_of a) t (λ b. quiet_copy b t ends.sound) ends.sound)
    by_command Recall = quiet_then s t _ ends (quiet_within recall_asked (block_of a) t (λ b. quiet_recall b t ends.sound) ends.sound)
    by_command Lock = quiet_then s t _ ends (quiet_within lock_asked (block_of a) t (λ b. quiet_lock b t ends.sound p) ends.sound)

-- ---- a byte written

quiet_set : (open' : Bool) (s : State) (i b : ℕ) → Sound s → Quiet s (cond open' (with_shadow (set s.shadow i b) s) s)
quiet_set t s i b h = quiet_cond t s (with_shadow (set s.shadow i b) s) s (quiet_shadow s (set s.shadow i b) h (length-set s.shadow i b ∙ h.shadow)) (quiet_self s h)

pub other : (s : State) → Sound s → (t : State) → t.locked0 ≡ s.locked0 → t.locked1 ≡ s.locked1 → t.copying ≡ s.copying → t.shadow ≡ s.shadow → t.eeprom ≡ s.eeprom → Quiet s t
other s h t l m c x e =
    record {
      sound = record { copies = (λ i. copies (l i) (m i) (c i)) ∙ h.copies; shadow = ap length x ∙ h.shadow; eeprom = ap length e ∙ h.eeprom };
      eeprom = e;
      locked = λ b f. (λ i. flag_of (l i) (m i) b) ∙ f;
    }

quiet_written : (p : Place) (a b : ℕ) (s : State) → Sound s → Quiet s (written_at p a b s)
quiet_written protection a b s h = other s h _ refl refl refl refl refl
quiet_written status a b s h = quiet_self s h
quiet_written eeprom a b s h = other s h _ refl refl refl refl refl
quiet_written feature a b s h = quiet_self s h
quiet_written voltage a b s h = quiet_self s h
quiet_written current a b s h = quiet_self s h
quiet_written amount a b s h = other s h _ refl refl refl refl refl
quiet_written temperature a b s h = quiet_self s h
quiet_written block0 a b s h = quiet_set (writable s.locked0 s) s (a - 0x20) b h
quiet_written block1 a b s h = quiet_set (writable s.locked1 s) s (a - 0x20) b h
quiet_written sram a b s h = other s h _ refl refl refl refl refl
quiet_written reserved a b s h = quiet_self s h

-- ---- slots and resets

quiet_taken : (p : Progress) (level : Bool) (s : State) → Sound s → waits s.copying ≡ false → Quiet s (taken p level s)
quiet_taken (Opcode partial) level s h w = opcode (pushed level partial)
  where
    opcode : (r : Result ℕ Partial) → Quiet s (opcode_taken r s)
    opcode (Err more) = quiet_at s (Opcode more) h
    opcode (Ok whole) = quiet_at s _ h
quiet_taken (Address command partial) level s h w = address (pushed level partial)
  where
    address : (r : Result ℕ Partial) → Quiet s (address_taken command r s)
    address (Err more) = quiet_at s (Address command more) h
    address (Ok a) = quiet_asked command a s h w
quiet_taken (Reading driven) level s h w = quiet_at s _ h
quiet_taken (Writing a partial) level s h w = written_at_last (pushed level partial)
  where
    written_at_last : (r : Result ℕ Partial) → Quiet s (data_taken a r s)
    written_at_last (Err more) = quiet_at s (Writing a more) h
    written_at_last (Ok b) =
        let q = quiet_written (place_of a) a b s h in
        quiet_then s (written a b s) _ q (quiet_at (written a b s) (Writing (next_of a) empty) q.sound)
quiet_taken Finished level s h w = quiet_self s h

pub quiet_slot : (level : Bool) (s : State) → Sound s → Quiet s (slotted level s)
quiet_slot level s h =
    let q = quiet_started s h in
    quiet_then s (started s) _ q (quiet_taken s.progress level (started s) q.sound (begun_waits s.copying))

pub quiet_reset : (s : State) → Sound s → Quiet s (after_reset s)
quiet_reset s h = let q = quiet_started s h in quiet_then s (started s) _ q (quiet_at (started s) (Opcode empty) q.sound)
