-- The law of a pack's life, from that of its seat's history. Assumes nothing.
use Rattle.std.proofs.Common.{◌≡◌, ℕ, cond, List, [], ◌∷◌, ◌++◌, length, Some, refl, ap, sym, ◌∙◌}
use Rattle.ds2760.specs.Runs.{Call, slot, reset, tick, measure}
use Rattle.line.specs.Lives.{reaches, life, store_calls, History, itself, LeadsTo}
use Rattle.line.specs.Seats.{Seat, is_chosen}
use Rattle.line.proofs.Lives.{life_none, life_append, life_one, lawful_history, reached_itself}
use Rattle.pack.specs.Lives.{LawfulSeat, FollowsSeat, LivesAreLawful}
use Rattle.pack.specs.Packs.{new_seat}

-- a seat that is on stays as it is by itself
by_itself : (cs : List Call) (s : Seat) → itself (life cs s) ≡ life cs (itself s)
unfolding life
by_itself [] s = refl
by_itself (c ∷ cs) s = by_itself cs (reaches c s) ∙ ap (life cs) (reached_itself c s)

-- the same calls reach its store
same_calls : (cs : List Call) (s : Seat) → store_calls cs s ≡ store_calls cs (itself s)
unfolding store_calls
same_calls [] s = refl
same_calls (slot level ∷ cs) s = ap (λ (l : List Call). cond (is_chosen s.stage) (slot level ∷ l) l) (same_calls cs (reaches (slot level) s))
same_calls (reset ∷ cs) s = ap (λ (l : List Call). reset ∷ l) (same_calls cs (reaches reset s))
same_calls (tick ∷ cs) s = ap (λ (l : List Call). tick ∷ l) (same_calls cs (reaches tick s))
same_calls (measure m ∷ cs) s = ap (λ (l : List Call). measure m ∷ l) (same_calls cs (reaches (measure m) s))

same_bytes : {x y : List ℕ} → Some x ≡ Some y → x ≡ y
same_bytes e = cc

-- a pack's life as a history
history : ℕ → List ℕ → List Call → History
history a bytes calls = record { address = a; eeprom = Some bytes; calls = calls }

leads : (a : ℕ) (bytes : List ℕ) (calls : List Call) (s : Seat) → length bytes ≡ 32 → s ≡ life calls (new_seat a bytes) → LeadsTo (history a bytes calls) s
unfolding history
leads a bytes calls s l e =
    record { sized = λ b p. ap length (sym (same_bytes p)) ∙ l; state = ap itself e ∙ by_itself calls (new_seat a bytes) }

-- a seat that a life leads to keeps what every earlier point had to keep
lawful_seat : (a : ℕ) (bytes : List ℕ) (calls : List Call) (s : Seat) → length bytes ≡ 32 → s ≡ life calls (new_seat a bytes) → LawfulSeat a bytes calls s
unfolding history
lawful_seat a bytes calls s l e =
    record { state = e; kept = (lawful_history (history a bytes calls) s (leads a bytes calls s l e)).kept }

pub made : (a : ℕ) (bytes : List ℕ) (s : Seat) → length bytes ≡ 32 → s ≡ new_seat a bytes → LawfulSeat a bytes [] s
made a bytes s l e = lawful_seat a bytes [] s l (e ∙ sym (life_none (new_seat a bytes)))

pub followed : (c : Call) (s t : Seat) → t ≡ reaches c s → FollowsSeat c s t
followed c s t e =
    record {
      lawful = λ a bytes calls l r.
          let born = new_seat a bytes in
          lawful_seat a bytes (calls ++ c ∷ []) t l
          (e ∙ ap (reaches c) r ∙ sym (life_append calls (c ∷ []) born ∙ life_one c (life calls born)));
    }

pub lives_are_lawful : LivesAreLawful
lives_are_lawful = record { makes = made; follows = followed }
