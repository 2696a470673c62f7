use Rattle.std.proofs.Common.{◌≡◌, Bool, true, false, cond, List, [], ◌∷◌, ◌++◌, map, refl, subst}
use Rattle.std.proofs.lemmas.Bool.{both_ways}
use Rattle.ds2760.specs.Runs.{tick, reset}
use Rattle.line.specs.Lives.{FollowsBy}
use Rattle.line.specs.Seats.{Seat, through}
use Rattle.line.specs.Strings.{FollowEach, none, more, nothing, attaching, SocketFollows}
use Rattle.line.proofs.Strings.{strings_follow}
use Rattle.pack.specs.Packs.{seat_of}
use Rattle.pack_tests.proofs.reseat.Goals as goal

-- pulled, ticked and seated again, one thing after the other
reseated : (before mid after : Bool) (p q r u : Seat) (rest : List Seat) → mid ≡ false → r.attached ≡ true → SocketFollows before mid (nothing (p ∷ [])) (p ∷ []) (q ∷ []) → FollowsBy (tick ∷ []) q r → SocketFollows mid after (map (attaching mid) (r ∷ [])) (r ∷ []) (u ∷ []) → FollowEach ((tick ∷ reset ∷ []) ∷ nothing rest) (through before (p ∷ []) ++ rest) (through after (u ∷ []) ++ rest)
reseated before true after p q r u rest m on f g h = absurd (both_ways true m refl)
reseated before false after p q r u rest m on f g h =
    let pulled = f.each in
    let ticked = strings_follow.socket false false ((tick ∷ []) ∷ []) (q ∷ []) (r ∷ []) (more g none) in
    let both = strings_follow.and_then _ _ _ _ _ pulled ticked in
    let seated = strings_follow.and_then _ _ _ _ _ both h.each in
    let whole : FollowEach ((tick ∷ reset ∷ []) ∷ []) (through before (p ∷ [])) (through after (u ∷ [])) =
    subst (λ (b : Bool). FollowEach ((tick ∷ cond b (reset ∷ []) []) ∷ []) (through before (p ∷ [])) (through after (u ∷ []))) on seated in
    strings_follow.pair ((tick ∷ reset ∷ []) ∷ []) (nothing rest) (through before (p ∷ [])) (through after (u ∷ [])) rest rest whole (strings_follow.still rest rest refl)

pub returns : goal.returns
returns g c =
    let pulled = c.in_ok-detach.ensures in
    let seated = c.in_ok-attach.ensures in
    reseated c.args.rack.now.first.attached c.detach.new.self.attached c.attach.new.self.attached (seat_of c.args.rack.now.first.line) (seat_of c.detach.new.self.line) (seat_of c.tick.new.self) (seat_of c.attach.new.self.line)
    (g.L.Line.seats c.args.rack.now.second) pulled.cases.1 refl pulled.lives c.tick.ensures.history seated.lives
