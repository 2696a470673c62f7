-- The rule of a listing: what begin and pass do, by the addresses on the line as a pass starts. Assumes nothing.
use Rattle.std.specs.Prelude.{ℕ, zero, suc, ◌+◌, ◌*◌, Bool, true, false, cond, not, ◌&&◌, List, [], ◌∷◌, ◌++◌, length, replicate, is_some, Some, None, Option, nat_le, nat_lt, slice_index_or, slice_set}
use Rattle.address.specs.Bits.{bit, bits}
use Rattle.address.specs.Parts.{right}
use Rattle.line.specs.Searching.{answered}
use Rattle.line.specs.Stages.{with_bit}
use Rattle.listing.specs.declared.begin_refusal.BeginRefusal.{BeginRefusal}
use Rattle.listing.specs.declared.begin_refusal.BeginRefusal.TheVariants.{LimitTooHigh}
use Rattle.listing.specs.declared.answer.PassRefusal.{PassRefusal}
use Rattle.listing.specs.declared.answer.PassRefusal.TheVariants.{Complete, LimitReached}

-- ---- what a listing holds

-- a listing: its addresses in the order found, and where it stands
pub record State : Type 0 where
  pub listed : List ℕ
  -- the last address found, right or not
  pub last : ℕ
  -- flag i: bit i is open
  pub opens : List Bool
  pub limit : ℕ
  pub complete : Bool

-- a listing that has begun: nothing found, no bit open
abbrev pub begun : ℕ → State
begun limit = record { listed = []; last = 0; opens = replicate 64 false; limit = limit; complete = false }

-- the highest open bit below n
abbrev pub deepest_below : ℕ → List Bool → Option ℕ
deepest_below zero f = None
deepest_below (suc n) f = cond (slice_index_or f n false) (Some n) (deepest_below n f)

-- d: the highest open bit
abbrev pub deepest : List Bool → Option ℕ
deepest f = deepest_below 64 f

-- the flags with d no longer open
abbrev pub closing : Option ℕ → List Bool → List Bool
closing None f = f
closing (Some k) f = slice_set f k false

-- ---- the walk

-- bit i is not above d: its value is told
abbrev pub told : Option ℕ → ℕ → Bool
told None i = false
told (Some k) i = nat_le i k

-- the value told: below d that of the last address, at d 1
abbrev pub told_value : Option ℕ → ℕ → ℕ → Bool
told_value None last i = true
told_value (Some k) last i = cond (nat_lt i k) (bit i last) true

-- the value wanted at bit i: the one told, else 0 if it is answered, else 1
abbrev pub wanted : Option ℕ → ℕ → ℕ → Bool → Bool
wanted d last i low = cond (told d i) (told_value d last i) (not low)

-- the value told is not answered; low and high say whether 0 and 1 are
abbrev pub stops : Option ℕ → ℕ → ℕ → Bool → Bool → Bool
stops d last i low high = told d i && not (cond (told_value d last i) high low)

-- bit i is opened: no value is told, and both are answered
abbrev pub forks : Option ℕ → ℕ → Bool → Bool → Bool
forks d i low high = not (told d i) && (low && high)

-- how a pass goes: an empty reset; the value told at a bit is not answered; an address, and the flags with the bits opened on the way
pub data Walk : Type 0 where
  silent : Walk
  stopped : ℕ → Walk
  reached : ℕ → List Bool → Walk

-- one bit of the walk, with what is sent so far and the flags, and then the bits behind it
abbrev pub turned : Option ℕ → ℕ → ℕ → ℕ → List Bool → Bool → Bool → (ℕ → List Bool → Walk) → Walk
turned d last i sent f low high next =
    cond (stops d last i low high) (stopped i) (next (with_bit i (wanted d last i low) sent) (cond (forks d i low high) (slice_set f i true) f))

-- n bits of the walk from bit i on, over the addresses xs
unfoldable pub walk : List ℕ → Option ℕ → ℕ → ℕ → ℕ → ℕ → List Bool → Walk
walk xs d last zero i sent f = reached sent f
walk xs d last (suc n) i sent f =
    turned d last i sent f (answered false i sent xs) (answered true i sent xs) (λ v g. walk xs d last n (i + 1) v g)

-- the walk of a pass: there is none over an empty line
abbrev pub walk_over : List ℕ → Option ℕ → ℕ → List Bool → Walk
walk_over [] d last f = silent
walk_over (x ∷ xs) d last f = walk (x ∷ xs) d last 64 0 0 f

abbrev pub searched : List ℕ → State → Walk
searched xs s = walk_over xs (deepest s.opens) s.last s.opens

-- ---- what a pass answers and leaves

-- an address that is right, one that is not, closed at a bit, closed by an empty reset
pub data Outcome : Type 0 where
  found : ℕ → Outcome
  spoilt : ℕ → Outcome
  closed_at : ℕ → Outcome
  closed_empty : Outcome

-- the answer of a walk
abbrev pub outcome_of : Walk → Outcome
outcome_of silent = closed_empty
outcome_of (stopped i) = closed_at i
outcome_of (reached a f) = cond (right a) (found a) (spoilt a)

-- the answer of a pass
abbrev pub outcome : List ℕ → State → Outcome
outcome xs s = outcome_of (searched xs s)

-- the slots of a pass
abbrev pub slots : Outcome → ℕ
slots (found a) = 200
slots (spoilt a) = 200
slots (closed_at i) = 3 * i + 10
slots closed_empty = 0

-- what a pass adds to the list
abbrev pub lists : Outcome → List ℕ
lists (found a) = a ∷ []
lists (spoilt a) = []
lists (closed_at i) = []
lists closed_empty = []

-- the last address after a pass
abbrev pub last_by : Walk → ℕ → ℕ
last_by silent last = last
last_by (stopped i) last = last
last_by (reached a f) last = a

-- the flags after a pass
abbrev pub opens_by : Walk → List Bool → List Bool
opens_by silent f = closing (deepest f) f
opens_by (stopped i) f = closing (deepest f) f
opens_by (reached a g) f = closing (deepest f) g

-- a listing after a walk: complete when no bit is left open
abbrev pub passed_by : Walk → State → State
passed_by w s =
    record {
      listed = s.listed ++ lists (outcome_of w);
      last = last_by w s.last;
      opens = opens_by w s.opens;
      limit = s.limit;
      complete = not (is_some (deepest (opens_by w s.opens)));
    }

-- a listing after a pass
abbrev pub passed : List ℕ → State → State
passed xs s = passed_by (searched xs s) s

-- the levels of one bit, and then those behind it: two reads, and the value sent
abbrev pub given : Option ℕ → ℕ → ℕ → ℕ → Bool → Bool → (ℕ → List Bool) → List Bool
given d last i sent low high next =
    not low ∷ not high ∷ cond (stops d last i low high) [] (wanted d last i low ∷ next (with_bit i (wanted d last i low) sent))

-- the levels of n bits of the walk from bit i on
unfoldable pub walk_levels : List ℕ → Option ℕ → ℕ → ℕ → ℕ → ℕ → List Bool
walk_levels xs d last zero i sent = []
walk_levels xs d last (suc n) i sent =
    given d last i sent (answered false i sent xs) (answered true i sent xs) (λ v. walk_levels xs d last n (i + 1) v)

-- the levels of the slots that a pass gives after its reset: F0h, and then the walk; none on an empty line
abbrev pub levels_over : List ℕ → Option ℕ → ℕ → List Bool
levels_over [] d last = []
levels_over (x ∷ xs) d last = bits 0xf0 ++ walk_levels (x ∷ xs) d last 64 0 0

abbrev pub levels : List ℕ → State → List Bool
levels xs s = levels_over xs (deepest s.opens) s.last

-- ---- what is refused

-- each refusal's number
abbrev pub pass_number : PassRefusal → ℕ
pass_number Complete = 3
pass_number LimitReached = 4

abbrev pub begin_number : BeginRefusal → ℕ
begin_number LimitTooHigh = 11

-- a pass is refused when the listing is complete, then when it has as many addresses as its limit
abbrev pub pass_refusal : State → Option PassRefusal
pass_refusal s = cond s.complete (Some Complete) (cond (nat_le s.limit (length s.listed)) (Some LimitReached) None)

-- begin is refused when the limit is above 128
abbrev pub begin_refusal : ℕ → Option BeginRefusal
begin_refusal limit = cond (nat_lt 128 limit) (Some LimitTooHigh) None
