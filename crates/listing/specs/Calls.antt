-- What a pass does to a listing and to the line. Assumes nothing.
use Rattle.std.specs.Prelude.{◌≡◌, ℕ, cond, List, [], ◌∷◌, map, is_some, None}
use Rattle.line.specs.declared.signal.Signal.{Signal}
use Rattle.line.specs.declared.signal.Signal.TheVariants.{Reset}
use Rattle.line.specs.declared.stage.Stage.TheVariants.{Deaf, Search}
use Rattle.line.specs.declared.stage.Turn.TheVariants.{Listen}
use Rattle.line.specs.Matching.{staged, chosen_by}
use Rattle.line.specs.Searching.{on_line, agree}
use Rattle.line.specs.Seats.{Seat, reset_seat}
use Rattle.line.specs.Signals.{played, slots}
use Rattle.line.specs.Strings.{FollowEach, reaching}
use Rattle.listing.specs.Rule.{State, Outcome, found, spoilt, closed_at, closed_empty, outcome, levels, pass_refusal}
use Rattle.listing.specs.Runs.{pass, Goes, Limited}

-- what a pass gives the line: a reset and its slots; nothing where it is refused
abbrev pub signals : List ℕ → State → List Signal
signals xs s = cond (is_some (pass_refusal s)) [] (Reset ∷ slots (levels xs s))

-- what a pass that gave this answer makes of a seat, where the last address was this before it: once an address is
-- read, its seats are chosen and the others deaf; closed at bit i, those that have the last address's bits below i
-- listen there and the others are deaf; on an empty line it is a reset
abbrev pub leaves : Outcome → ℕ → Seat → Seat
leaves (found a) last s = chosen_by a s
leaves (spoilt a) last s = chosen_by a s
leaves (closed_at i) last s = staged (λ x. cond (agree i x last) (Search i Listen) Deaf) s
leaves closed_empty last s = reset_seat s

-- a pass, refused or not, leads from the seats ss and the listing s to the seats tt and the listing t
pub record Passed (ss tt : List Seat) (s t : State) : Type 0 where
  -- the listing goes on by this pass, over the addresses on the line as it starts
  pub goes : Goes (pass (on_line ss)) s t
  -- there are no more addresses than the limit, and it is no more than 128
  pub limits : Limited t
  -- the seats are as the signals of the pass leave them
  pub given : tt ≡ map (played (signals (on_line ss) s)) ss
  -- and, where it is not refused, as its answer says
  pub left : pass_refusal s ≡ None → tt ≡ map (leaves (outcome (on_line ss) s) s.last) ss
  -- the same addresses are on the line as before
  pub there : on_line tt ≡ on_line ss
  -- each seat goes on with its history, by those signals where it is on, else by nothing
  pub lives : FollowEach (map (reaching (signals (on_line ss) s)) ss) ss tt
