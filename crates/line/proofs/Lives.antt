-- The law of a seat's life, from that of its store. Assumes nothing.
use Rattle.std.proofs.Common.{◌≡◌, ℕ, Bool, true, false, cond, List, [], ◌∷◌, ◌++◌, length, Some, None, Option, sym, refl, ap, ◌∙◌, subst, append_assoc, arith}
use Rattle.std.specs.Option.{option_map}
use Rattle.ds2760.specs.Commands.{slotted, made}
use Rattle.ds2760.specs.Runs.{Call, slot, reset, tick, measure, does, run, Kept}
use Rattle.ds2760.specs.States.{State}
use Rattle.ds2760.proofs.Runs.{lawful}
use Rattle.line.specs.Lives.{reaches, life, store_calls, deaf_seat, History, born, longer, itself, LeadsTo, LawfulHistory, FollowsBy, HistoriesAreLawful}
use Rattle.line.specs.Seats.{Seat, is_chosen}

mapped_again : (f g : State → State) (o : Option State) → option_map g (option_map f o) ≡ option_map (λ x. g (f x)) o
mapped_again f g None = refl
mapped_again f g (Some x) = refl

mapped_none : (o : Option State) → o ≡ option_map (λ x. x) o
mapped_none None = refl
mapped_none (Some x) = refl

-- the store's own run is by the calls that reach it
store_runs : (cs : List Call) (s : Seat) → (life cs s).store ≡ option_map (run (store_calls cs s)) s.store
unfolding life store_calls run
store_runs [] s = mapped_none s.store
store_runs (slot level ∷ cs) s = store_runs cs (reaches (slot level) s) ∙ by_test (is_chosen s.stage) refl
  where
    by_test : (t : Bool) → is_chosen s.stage ≡ t → option_map (run (store_calls cs (reaches (slot level) s))) (cond t (option_map (slotted level) s.store) s.store) ≡ option_map (run (cond t (slot level ∷ store_calls cs (reaches (slot level) s)) (store_calls cs (reaches (slot level) s)))) s.store
    by_test true e = mapped_again (slotted level) (run (store_calls cs (reaches (slot level) s))) s.store
    by_test false e = refl
store_runs (reset ∷ cs) s = store_runs cs (reaches reset s) ∙ mapped_again (does reset) (run (store_calls cs (reaches reset s))) s.store
store_runs (tick ∷ cs) s = store_runs cs (reaches tick s) ∙ mapped_again (does tick) (run (store_calls cs (reaches tick s))) s.store
store_runs (measure m ∷ cs) s = store_runs cs (reaches (measure m) s) ∙ mapped_again (does (measure m)) (run (store_calls cs (reaches (measure m) s))) s.store

pub life_append : (cs ds : List Call) (s : Seat) → life (cs ++ ds) s ≡ life ds (life cs s)
unfolding life
life_append [] ds s = refl
life_append (c ∷ cs) ds s = life_append cs ds (reaches c s)

pub life_none : (s : Seat) → life [] s ≡ s
unfolding life
life_none s = refl

pub life_one : (c : Call) (s : Seat) → life (c ∷ []) s ≡ reaches c s
unfolding life
life_one c s = refl

both_ways : (b : Bool) (c : Call) (all front back : List Call) → all ≡ front ++ back → cond b (c ∷ all) all ≡ cond b (c ∷ front) front ++ back
both_ways true c all front back e = ap (λ (l : List Call). c ∷ l) e
both_ways false c all front back e = e

calls_append : (cs ds : List Call) (s : Seat) → store_calls (cs ++ ds) s ≡ store_calls cs s ++ store_calls ds (life cs s)
unfolding store_calls life
calls_append [] ds s = refl
calls_append (slot level ∷ cs) ds s =
    let t = reaches (slot level) s in
    both_ways (is_chosen s.stage) (slot level) (store_calls (cs ++ ds) t) (store_calls cs t) (store_calls ds (life cs t)) (calls_append cs ds t)
calls_append (reset ∷ cs) ds s = ap (λ (l : List Call). reset ∷ l) (calls_append cs ds (reaches reset s))
calls_append (tick ∷ cs) ds s = ap (λ (l : List Call). tick ∷ l) (calls_append cs ds (reaches tick s))
calls_append (measure m ∷ cs) ds s = ap (λ (l : List Call). measure m ∷ l) (calls_append cs ds (reaches (measure m) s))

same_some : {x y : State} → Some x ≡ Some y → x ≡ y
same_some e = cc

-- what a store of a pack keeps, of two points of its life
kept_by : (eeprom : Option (List ℕ)) → ((bytes : List ℕ) → eeprom ≡ Some bytes → length bytes ≡ 32) → (first later both : List Call) → first ++ later ≡ both → (x y : State) → Some x ≡ option_map (run first) (option_map made eeprom) → Some y ≡ option_map (run both) (option_map made eeprom) → Kept later x y
kept_by None sized first later both split x y p q = let z : ◌≡◌ {A = ℕ} 0 1 = cc in absurd (omega arith)
kept_by (Some bytes) sized first later both split x y p q =
    subst (λ (z : State). Kept later z y) (sym (same_some p))
    ((lawful bytes both y (sized bytes refl) (same_some q)).kept first later split)

-- a seat that a history leads to keeps what every earlier point had to keep
pub lawful_history : (h : History) (s : Seat) → LeadsTo h s → LawfulHistory h s
lawful_history h s l =
    record {
      led = l;
      kept = λ before later split x y p q.
          let new = born h in
          kept_by h.eeprom l.sized (store_calls before new) (store_calls later (life before new)) (store_calls h.calls new)
          (sym (calls_append before later new) ∙ ap (λ (cs : List Call). store_calls cs new) split) x y
          (sym p ∙ store_runs before new)
          (sym q ∙ ap (λ (u : Seat). u.store) l.state ∙ store_runs h.calls new);
    }

-- calls that lead from one seat to another carry every history on
pub follows_by : (calls : List Call) (s t : Seat) → itself t ≡ life calls (itself s) → FollowsBy calls s t
follows_by calls s t e =
    record {
      lawful = λ h l.
          lawful_history (longer h calls) t
          (record { sized = l.sized; state = e ∙ ap (life calls) l.state ∙ sym (life_append h.calls calls (born h)) });
    }

-- a seat's life is its own: what is around it before and after makes no difference
pub follows_around : (calls : List Call) (s t u v : Seat) → itself u ≡ itself s → itself v ≡ itself t → FollowsBy calls s t → FollowsBy calls u v
follows_around calls s t u v p q f =
    record {
      lawful = λ h l.
          let then = f.lawful h (record { sized = l.sized; state = sym p ∙ l.state }) in
          lawful_history (longer h calls) v (record { sized = l.sized; state = q ∙ then.led.state });
    }

pub follows_on : (calls more : List Call) (s t u : Seat) → FollowsBy calls s t → FollowsBy more t u → FollowsBy (calls ++ more) s u
follows_on calls more s t u f g =
    record {
      lawful = λ h l.
          let then = g.lawful (longer h calls) (f.lawful h l).led in
          lawful_history (longer h (calls ++ more)) u
          (record { sized = l.sized; state = then.led.state ∙ ap (λ (cs : List Call). life cs (born h)) (append_assoc h.calls calls more) });
    }

pub reached_itself : (c : Call) (s : Seat) → itself (reaches c s) ≡ reaches c (itself s)
reached_itself (slot level) s = refl
reached_itself reset s = refl
reached_itself tick s = refl
reached_itself (measure m) s = refl

makes : (a : ℕ) (eeprom : Option (List ℕ)) (s : Seat) → ((bytes : List ℕ) → eeprom ≡ Some bytes → length bytes ≡ 32) → s ≡ deaf_seat a eeprom → LawfulHistory (record { address = a; eeprom = eeprom; calls = [] }) s
makes a eeprom s sized e =
    lawful_history (record { address = a; eeprom = eeprom; calls = [] }) s
    (record { sized = sized; state = ap itself e ∙ sym (life_none (deaf_seat a eeprom)) })

same_bytes : {x y : List ℕ} → Some x ≡ Some y → x ≡ y
same_bytes e = cc

no_bytes : (bytes : List ℕ) → None ≡ Some bytes → length bytes ≡ 32
no_bytes bytes e = let z : ◌≡◌ {A = ℕ} 0 1 = cc in absurd (omega arith)

pub tag_made : (a : ℕ) (s : Seat) → s ≡ deaf_seat a None → LawfulHistory (record { address = a; eeprom = None; calls = [] }) s
tag_made a s e = makes a None s no_bytes e

pub pack_made : (a : ℕ) (bytes : List ℕ) (s : Seat) → length bytes ≡ 32 → s ≡ deaf_seat a (Some bytes) → LawfulHistory (record { address = a; eeprom = Some bytes; calls = [] }) s
pack_made a bytes s l e = makes a (Some bytes) s (λ b p. ap length (sym (same_bytes p)) ∙ l) e

pub reached : (c : Call) (s t : Seat) → t ≡ reaches c s → FollowsBy (c ∷ []) s t
reached c s t e = follows_by (c ∷ []) s t (ap itself e ∙ reached_itself c s ∙ sym (life_one c (itself s)))

pub histories_are_lawful : HistoriesAreLawful
histories_are_lawful = record { tag = tag_made; pack = pack_made; follows = reached }
