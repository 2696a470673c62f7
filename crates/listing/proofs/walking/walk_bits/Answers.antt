use Rattle.std.proofs.Common.{◌≡◌, ℕ, ◌+◌, ◌*◌, ◌^◌, ◌<◌, Bool, true, false, cond, List, map, bit_or, Err, ap, ◌∙◌, sym, subst, arith}
use Rattle.std.proofs.lemmas.Bool.{lt-ltb}
use Rattle.std.proofs.lemmas.Nat.{or_comm, or_shifted}
use Rattle.std.proofs.lemmas.Result.{err_from_is_err_and}
use Rattle.address.specs.Bits.{with_bit_set}
use Rattle.address.specs.Parts.{number}
use Rattle.line.specs.declared.stage.Stage.TheVariants.{Search}
use Rattle.line.specs.declared.stage.Turn.TheVariants.{Bit}
use Rattle.line.specs.Matching.{staged}
use Rattle.line.specs.Seats.{Seat}
use Rattle.line.specs.Stages.{with_bit}
use Rattle.line.proofs.Sends.{doubled}
use Rattle.listing.specs.Meaning.{walk_of}
use Rattle.listing.proofs.Lines.{Going, bit_goes_on, bit_stops, ends_here, going_first}
use Rattle.listing.proofs.walking.walk_bits.Goals as goal
use Rattle.listing.proofs.walking.walk_bits.Goals.{then-value, else-value}

pub loop-bit-init : goal.loop-bit-init
loop-bit-init g c =
    let zero = c.from_bytes-address.ensures.value in (
      omega (arith, zero),
      λ ss e.
          let start = g.L.Line.seats c.args.line.now in
          let f = c.args.opens.flags in
          let d = c.args.guide.deepest in
          let last = number c.args.guide.last in
          subst (λ (n : ℕ). Going ss d last f start 0 n f start) (sym zero) (going_first ss d last f start e),
    )

pub returns-in_err-value : goal.returns-in_err-value
returns-in_err-value g c =
    let stop = c.in_err-value.field-0.0 in
    let passed-on = err_from_is_err_and c.from_residual.result c.from_residual.ensures.1 in
    let err : c.from_residual.result ≡ Err stop = passed-on.1 ∙ ap Err passed-on.2 in
    let stopped = λ (ss : List Seat) (e : g.L.Line.seats c.args.line.now ≡ map (staged (λ _. Search 0 Bit)) ss).
    bit_stops ss c.args.guide.deepest (number c.args.guide.last) c.args.opens.flags (g.L.Line.seats c.args.line.now) c.loop-bit.bit (number c.loop-bit.address) c.loop-bit.opens.flags (g.L.Line.seats c.loop-bit.line) (c.loop-bit.invariant.1 ss e) c.loop-bit-test.true
    c.ask-answered.result.zero c.ask-answered.result.one stop (g.L.Line.seats c.ask-answered.new.line) c.ask-answered.ensures.zero c.ask-answered.ensures.one c.ask-answered.ensures.after c.in_err-value.ensures in
    record { walk = λ ss e. ap walk_of err ∙ (stopped ss e).0; given = λ ss e. (stopped ss e).1 }

-- what is sent with one bit more
added : (k n m : ℕ) (v : Bool) → k < 64 → n < 2 ^ k → m ≡ cond v (with_bit_set k n) n → (m ≡ with_bit k v n) × (m < 2 ^ (k + 1))
added k n m false l h e = (e, omega (arith, e, doubled k, h))
added k n m true l h e =
    let put : m ≡ bit_or n (2 ^ k) = e ∙ ap (λ (b : Bool). cond b (bit_or n (2 ^ k)) n) (lt-ltb k 64 l) in
    let one : 1 * 2 ^ k ≡ 2 ^ k = omega arith in
    let above : bit_or n (2 ^ k) ≡ n + 2 ^ k =
    or_comm n (2 ^ k) ∙ ap (λ (j : ℕ). bit_or j n) (sym one) ∙ or_shifted 1 k n h ∙ omega arith in
    let sum = put ∙ above in (sum, omega (arith, sum, doubled k, h))

pub loop-bit-preserved : goal.loop-bit-preserved
loop-bit-preserved g c =
    let k = c.loop-bit.bit in
    let n = number c.loop-bit.address in
    let v = c.in_ok-value.value in
    let by : Bool → ℕ = λ b. cond b (with_bit_set k n) n in
    let set : number c.if-value.address ≡ by v =
    elim c.if-value.branch [
      | then-value w ↦ ap number w.address-is ∙ w.with_bit_set-address.ensures ∙ ap (λ (j : ℕ). with_bit_set j n) w.from.ensures ∙ ap by (sym w.if-value.true)
      | else-value w ↦ ap number w.address-is ∙ ap by (sym w.if-value.false)
    ] in
    let more = added k n (number c.if-value.address) v c.loop-bit-test.true c.loop-bit.invariant.0 set in (
      more.1,
      λ ss e.
          bit_goes_on ss c.args.guide.deepest (number c.args.guide.last) c.args.opens.flags (g.L.Line.seats c.args.line.now) k n c.loop-bit.opens.flags (g.L.Line.seats c.loop-bit.line) (c.loop-bit.invariant.1 ss e) c.loop-bit-test.true
          c.ask-answered.result.zero c.ask-answered.result.one v (number c.if-value.address) c.note_fork.new.opens.flags (g.L.Line.seats c.ask-answered.new.line) (g.L.Line.seats c.send_bit.new.line) c.loop-bit.invariant.0 c.ask-answered.ensures.zero c.ask-answered.ensures.one c.ask-answered.ensures.after c.in_ok-value.ensures c.note_fork.ensures c.send_bit.ensures.after more.0,
    )

pub returns : goal.returns
returns g c =
    let last : c.loop-bit.bit ≡ 64 = omega arith in
    let ended = λ (ss : List Seat) (e : g.L.Line.seats c.args.line.now ≡ map (staged (λ _. Search 0 Bit)) ss).
    ends_here ss c.args.guide.deepest (number c.args.guide.last) c.args.opens.flags (g.L.Line.seats c.args.line.now) c.loop-bit.bit (number c.loop-bit.address) c.loop-bit.opens.flags (g.L.Line.seats c.loop-bit.line) (c.loop-bit.invariant.1 ss e) last in
    record { walk = λ ss e. (ended ss e).0; given = λ ss e. (ended ss e).1 }
