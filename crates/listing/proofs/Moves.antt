-- What a pass moves: which addresses lie behind which open bits. Assumes nothing.
use Rattle.std.proofs.Common.{◌≡◌, ℕ, ◌<◌, ◌≤◌, Bool, true, false, cond, ◌⊎◌, List, [], ◌∷◌, length, get_or, Some, None, Option, sym, refl, ap, ◌∙◌, subst, inl, inr, ⊎_elim, arith}
use Rattle.std.proofs.lemmas.Bool.{both_ways, cases_order}
use Rattle.address.specs.Bits.{bit}
use Rattle.address.specs.Parts.{right}
use Rattle.address.specs.SearchOrder.{Agree, Before}
use Rattle.listing.specs.Rule.{State, Walk, silent, stopped, reached, Outcome, found, spoilt, deepest, searched, outcome_of, outcome, lists, last_by, passed}
use Rattle.listing.specs.Runs.{On, Narrow}
use Rattle.listing.specs.Passes.{Sought, Above, Read, is_closed, Searches}
use Rattle.listing.proofs.Answering.{agree_flip, agree_then, agree_less}
use Rattle.listing.proofs.Flags.{deepest_deep}
use Rattle.listing.proofs.Passes.{searches}

-- ---- how a pass ends

-- it closes and keeps the list and the last address, or it reads an address
abbrev pub Ends : Outcome → ℕ → ℕ → Type 0
Ends o last now =
    ((is_closed o ≡ true) × (lists o ≡ []) × (now ≡ last)) ⊎ ((a : ℕ) × Read o a × (lists o ≡ cond (right a) (a ∷ []) []) × (now ≡ a))

reads_one : (t : Bool) (a : ℕ) → Read (cond t (found a) (spoilt a)) a × (lists (cond t (found a) (spoilt a)) ≡ cond t (a ∷ []) [])
reads_one true a = (refl, refl)
reads_one false a = (refl, refl)

walk_ends : (w : Walk) (last : ℕ) → Ends (outcome_of w) last (last_by w last)
walk_ends silent last = inl (refl, refl, refl)
walk_ends (stopped i) last = inl (refl, refl, refl)
walk_ends (reached a g) last = inr (a, (reads_one (right a) a).0, (reads_one (right a) a).1, refl)

pub pass_ends : (xs : List ℕ) (s : State) → Ends (outcome xs s) s.last (passed xs s).last
pass_ends xs s = walk_ends (searched xs s) s.last

-- ---- where a bit lies

pub place : (d : Option ℕ) (j : ℕ) → Above d j ⊎ ((d ≡ Some j) ⊎ ((k : ℕ) × (d ≡ Some k) × (j < k)))
place None j = inl tt
place (Some k) j =
    ⊎_elim (λ (e : j ≡ k). inr (inl (ap Some (sym e)))) (⊎_elim (λ (l : j < k). inr (inr (k, refl, l))) (λ l. inl l)) (cases_order j k)

-- x lies behind an open bit
abbrev pub Behind : List Bool → ℕ → ℕ → Type 0
Behind f last x = (k : ℕ) × (get_or f k false ≡ true) × Agree k x last × (bit k x ≡ true)

pub sought_at : (d : Option ℕ) (k last x : ℕ) → d ≡ Some k → Sought d last x → Agree k x last × (bit k x ≡ true)
sought_at d k last x e h = subst (λ (c : Option ℕ). Sought c last x) e h

-- of two that are sought, the later one lies behind a bit above d
apart_above : (d : Option ℕ) (last a x i : ℕ) → Sought d last a → Sought d last x → bit i a ≡ false → bit i x ≡ true → Above d i
apart_above d last a x i sa sx fa tx =
    ⊎_elim (λ up. up)
    (⊎_elim (λ (e : d ≡ Some i). absurd (both_ways (bit i a) fa (sought_at d i last a e sa).1))
    (λ (p : (k : ℕ) × (d ≡ Some k) × (i < k)).
    absurd (both_ways (bit i a) fa ((sought_at d p.0 last a p.1 sa).0 i p.2 ∙ sym ((sought_at d p.0 last x p.1 sx).0 i p.2) ∙ tx)))) (place d i)

-- ---- what a pass moves

-- the last address has 0 at every open bit
abbrev pub Zeros : List Bool → ℕ → Type 0
Zeros f last = (j : ℕ) → get_or f j false ≡ true → bit j last ≡ false

module _ (xs : List ℕ) (s : State) (narrow : Narrow xs) (long : length s.opens ≡ 64) where
  law : Searches xs s
  law = searches xs s narrow long

  open_told : (j : ℕ) → get_or s.opens j false ≡ true → Above (deepest s.opens) j → ⊥
  open_told j o up = both_ways _ ((deepest_deep s.opens long).above j up) o

  -- a pass that closes leaves what is on the line behind the bits it lay behind
  pub moves_closed : is_closed (outcome xs s) ≡ true → (x : ℕ) → On x xs → Behind s.opens s.last x → Behind (passed xs s).opens s.last x
  moves_closed c x on b =
      ⊎_elim (λ up. absurd (open_told b.0 b.1 up))
      (⊎_elim (λ (e : deepest s.opens ≡ Some b.0). absurd (law.closes.0 c x on (subst (λ (d : Option ℕ). Sought d s.last x) (sym e) (b.2, b.3))))
      (λ (p : (k : ℕ) × (deepest s.opens ≡ Some k) × (b.0 < k)). (b.0, law.kept p.0 p.1 b.0 p.2 ∙ b.1, b.2, b.3)))
      (place (deepest s.opens) b.0)

  -- what is sought and comes later than the address read lies behind a bit that is opened
  pub later_behind : (a x : ℕ) → Read (outcome xs s) a → On x xs → Sought (deepest s.opens) s.last x → Before a x → Behind (passed xs s).opens a x
  later_behind a x r on so b =
      let up = apart_above (deepest s.opens) s.last a x b.0 (law.finds a r).sought so b.2 b.3 in
      let same = agree_flip b.0 a x b.1 in
      (b.0, (law.opened a r b.0 up).1 (record { other = x; on = on; sought = so; same = same; here = b.2; there = b.3 }), same, b.3)

  -- a pass that reads an address leaves the others behind bits
  pub moves_read : (a : ℕ) → Read (outcome xs s) a → (x : ℕ) → On x xs → Behind s.opens s.last x → (a ≡ x) ⊎ Behind (passed xs s).opens a x
  moves_read a r x on b =
      ⊎_elim (λ up. absurd (open_told b.0 b.1 up))
      (⊎_elim
      (λ (e : deepest s.opens ≡ Some b.0).
      let so = subst (λ (d : Option ℕ). Sought d s.last x) (sym e) (b.2, b.3) in
      ⊎_elim inl (λ (l : Before a x). inr (later_behind a x r on so l)) ((law.finds a r).first x on so))
      (λ (p : (k : ℕ) × (deepest s.opens ≡ Some k) × (b.0 < k)).
      let with-last = (sought_at (deepest s.opens) p.0 s.last a p.1 (law.finds a r).sought).0 in
      let less : b.0 ≤ p.0 = omega (arith, p.2) in
      let back = agree_flip b.0 a s.last (agree_less b.0 p.0 a s.last less with-last) in
      inr (b.0, law.kept p.0 p.1 b.0 p.2 ∙ b.1, agree_then b.0 x s.last a b.2 back, b.3)))
      (place (deepest s.opens) b.0)

  pub zeros_closed : is_closed (outcome xs s) ≡ true → Zeros s.opens s.last → Zeros (passed xs s).opens s.last
  zeros_closed c z j o =
      ⊎_elim (λ up. absurd (both_ways _ (law.opens_none c j up) o))
      (⊎_elim (λ e. absurd (both_ways _ (law.shut j e) o))
      (λ (p : (k : ℕ) × (deepest s.opens ≡ Some k) × (j < k)). z j (sym (law.kept p.0 p.1 j p.2) ∙ o))) (place (deepest s.opens) j)

  pub zeros_read : (a : ℕ) → Read (outcome xs s) a → Zeros s.opens s.last → Zeros (passed xs s).opens a
  zeros_read a r z j o =
      ⊎_elim (λ up. ((law.opened a r j up).0 o).here)
      (⊎_elim (λ e. absurd (both_ways _ (law.shut j e) o))
      (λ (p : (k : ℕ) × (deepest s.opens ≡ Some k) × (j < k)).
      (sought_at (deepest s.opens) p.0 s.last a p.1 (law.finds a r).sought).0 j p.2 ∙ z j (sym (law.kept p.0 p.1 j p.2) ∙ o)))
      (place (deepest s.opens) j)

  -- with d the address read comes after the last one
  pub read_later : (a k : ℕ) → Read (outcome xs s) a → deepest s.opens ≡ Some k → Zeros s.opens s.last → Before s.last a
  read_later a k r e z =
      let so = sought_at (deepest s.opens) k s.last a e (law.finds a r).sought in
      (k, agree_flip k a s.last so.0, z k ((deepest_deep s.opens long).at k e).1, so.1)

  pub passed_zeros : Zeros s.opens s.last → Zeros (passed xs s).opens (passed xs s).last
  passed_zeros z =
      ⊎_elim
      (λ (h : (is_closed (outcome xs s) ≡ true) × (lists (outcome xs s) ≡ []) × ((passed xs s).last ≡ s.last)). subst (Zeros (passed xs s).opens) (sym h.2) (zeros_closed h.0 z))
      (λ (h : (a : ℕ) × Read (outcome xs s) a × (lists (outcome xs s) ≡ cond (right a) (a ∷ []) []) × ((passed xs s).last ≡ a)). subst (Zeros (passed xs s).opens) (sym h.3) (zeros_read h.0 h.1 z))
      (pass_ends xs s)
