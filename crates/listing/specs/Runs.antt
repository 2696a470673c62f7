-- Runs of begins and passes, and what is true of a listing after each. Assumes nothing.
use Rattle.std.specs.Prelude.{◌≡◌, ℕ, ◌+◌, ◌^◌, ◌<◌, ◌≤◌, Bool, true, false, cond, ◌⊎◌, List, [], ◌∷◌, ◌++◌, length, is_some, Some, None, Decides, ◌==◌, slice_index_or}
use Rattle.std.specs.List.{flat_map, AllByRecursion}
use Rattle.address.specs.Parts.{right}
use Rattle.address.specs.SearchOrder.{Before}
use Rattle.listing.specs.declared.begin_refusal.BeginRefusal.{BeginRefusal}
use Rattle.listing.specs.declared.answer.PassRefusal.{PassRefusal}
use Rattle.listing.specs.Rule.{State, Outcome, begun, outcome, lists, passed, pass_refusal, begin_refusal}

-- ---- runs

-- a call on a listing; a pass by the addresses on the line as it starts
pub data Call : Type 0 where
  begin : ℕ → Call
  pass : List ℕ → Call

-- a listing after a call; a refused call changes nothing
abbrev pub does : Call → State → State
does (begin limit) s = cond (is_some (begin_refusal limit)) s (begun limit)
does (pass xs) s = cond (is_some (pass_refusal s)) s (passed xs s)

-- a listing after calls, the first first
unfoldable pub run : List Call → State → State
run [] s = s
run (c ∷ cs) s = run cs (does c s)

-- a listing after calls from its making, which is as begin 0
abbrev pub after : List Call → State
after calls = run calls (begun 0)

-- a pass that was not refused
pub record Pass : Type 0 where
  pub line : List ℕ
  pub answer : Outcome
  -- the flags of the bits that it left open
  pub left : List Bool

-- the pass over xs, from a listing that does not refuse it
abbrev pub pass_of : List ℕ → State → Pass
pass_of xs s = record { line = xs; answer = outcome xs s; left = (passed xs s).opens }

-- the passes since the last begin that was not refused, after one call more
abbrev pub joins : Call → State → List Pass → List Pass
joins (begin limit) s ps = cond (is_some (begin_refusal limit)) ps []
joins (pass xs) s ps = cond (is_some (pass_refusal s)) ps (ps ++ pass_of xs s ∷ [])

-- those passes, after calls on a listing
unfoldable pub passes_from : List Call → State → List Pass → List Pass
passes_from [] s ps = ps
passes_from (c ∷ cs) s ps = passes_from cs (does c s) (joins c s ps)

-- a run's passes: those since its last begin that was not refused
abbrev pub passes : List Call → List Pass
passes calls = passes_from calls (begun 0) []

-- ---- words

-- a is one of xs
abbrev pub On : ℕ → List ℕ → Type 0
On a [] = ⊥
On a (x ∷ xs) = (a ≡ x) ⊎ On a xs

-- how often a is among xs
abbrev pub times : ℕ → List ℕ → ℕ
times a [] = 0
times a (x ∷ xs) = cond (a == x) 1 0 + times a xs

-- each address comes before all behind it
abbrev pub Rising : List ℕ → Type 0
Rising [] = Unit {0}
Rising (x ∷ xs) = AllByRecursion (Before x) xs × Rising xs

-- no bit is open
abbrev pub NoneOpen : List Bool → Type 0
NoneOpen f = (k : ℕ) → slice_index_or f k false ≡ false

-- there are passes, and the last left no bit open
abbrev pub EndsClosed : List Pass → Type 0
EndsClosed [] = ⊥
EndsClosed (p ∷ []) = NoneOpen p.left
EndsClosed (p ∷ q ∷ ps) = EndsClosed (q ∷ ps)

-- every address has 64 bits
abbrev pub Narrow : List ℕ → Type 0
Narrow xs = AllByRecursion (λ a. a < 2 ^ 64) xs

-- every address on the line of a pass has 64 bits
abbrev pub NarrowCall : Call → Type 0
NarrowCall (begin limit) = Unit {0}
NarrowCall (pass xs) = Narrow xs

-- ---- the law

-- s is what these calls lead to, and what it says is true
pub record Truthful (calls : List Call) (s : State) : Type 0 where
  pub state : s ≡ after calls
  -- the addresses are those with which its passes answered found, in order
  pub listed : s.listed ≡ flat_map (λ p. lists p.answer) (passes calls)
  -- they rise strictly in search order
  pub rising : Rising s.listed
  -- each was on the line in the pass that listed it
  pub there : AllByRecursion (λ p. AllByRecursion (λ a. On a p.line) (lists p.answer)) (passes calls)
  -- complete just when there are passes and the last left no bit open
  pub complete_when : Decides s.complete (EndsClosed (passes calls))
  -- complete, each right address that was on the line in all its passes is listed exactly once
  pub whole : s.complete ≡ true → (a : ℕ) → right a ≡ true → AllByRecursion (λ p. On a p.line) (passes calls) → times a s.listed ≡ 1

-- t follows s by a call: whatever run led to s, with this call it is truthful at t
pub record Follows (c : Call) (s t : State) : Type 0 where
  pub truthful : (calls : List Call) → AllByRecursion NarrowCall calls → s ≡ after calls → Truthful (calls ++ c ∷ []) t

-- calls on lines with addresses of 64 bits lead to s
pub record Reachable (s : State) : Type 0 where
  pub calls : List Call
  pub narrow : AllByRecursion NarrowCall calls
  pub state : s ≡ after calls

-- ---- limits

-- there are no more addresses than the limit, and it is no more than 128
pub record Limited (s : State) : Type 0 where
  pub within : length s.listed ≤ s.limit
  pub limited : s.limit ≤ 128

-- ---- every call

-- a call leads from s to t
pub record Goes (c : Call) (s t : State) : Type 0 where
  pub state : t ≡ does c s
  -- whatever run led to s, with this call it is truthful at t
  pub truthful : Follows c s t
  -- there is such a run for t if there is one for s, so that there is one for every listing there is
  pub reachable : Reachable s → Reachable t
  -- the limits hold at t if they hold at s
  pub limits : Limited s → Limited t

-- a new listing is truthful, and every call goes on from there
pub record ListingsAreTruthful : Type 0 where
  pub new : (s : State) → s ≡ begun 0 → Truthful [] s
  pub start : (s : State) → s ≡ begun 0 → Reachable s
  pub begins : (limit : ℕ) (s t : State) → begin_refusal limit ≡ None → t ≡ begun limit → Goes (begin limit) s t
  pub begin_refused : (limit : ℕ) (refusal : BeginRefusal) (s t : State) → begin_refusal limit ≡ Some refusal → t ≡ s → Goes (begin limit) s t
  pub passes : (xs : List ℕ) (s t : State) → Narrow xs → pass_refusal s ≡ None → t ≡ passed xs s → Goes (pass xs) s t
  pub pass_refused : (xs : List ℕ) (refusal : PassRefusal) (s t : State) → Narrow xs → pass_refusal s ≡ Some refusal → t ≡ s → Goes (pass xs) s t
  -- no run leads beyond the limits
  pub limited : (calls : List Call) → Limited (after calls)
