-- The lines of a rack file's table. Assumes nothing.
use Rattle.std.proofs.Common.{◌≡◌, ℕ, suc, ◌+◌, ◌<◌, List, [], ◌∷◌, ◌++◌, map, length, get_or, take, sym, refl, ap, ◌∙◌, append_assoc, append-nil, add-zero, arith, false, ◌-◌, ◌^◌, ◌≤◌, decimal, ⊎_elim, nat_lt, true, ◌/◌, ◌%◌, length-append}
use Rattle.std.proofs.lemmas.Bool.Decides.{nat_tests}
use Rattle.std.specs.declared.fmt.Formatter.{Formatter}
use Rattle.std.proofs.Output.{writes_in_calls_nil}
use Rattle.std.proofs.lemmas.Grind.{common_steps}
use Rattle.std.proofs.lemmas.Bool.{cases_lt}
use Rattle.std.proofs.lemmas.Fmt.{decimal_digit, decimal_step, decimal_nonempty}
use Rattle.std.proofs.lemmas.List.{map_more, length-map, length-take-le}
use Rattle.rackfile.specs.declared.Entry.{Entry}
use Rattle.rackfile.specs.Files.{Listed, listed}
use Rattle.rackfile.specs.Reports.{figures, line, lines}
use Rattle.std.specs.Fmt.{IsPlainFormatter, HasWritten, padded_integral, format_spec, char_count}

lines_append : (place : ℕ) (es fs : List Listed) → lines place (es ++ fs) ≡ lines place es ++ lines (place + length es) fs
unfolding lines
lines_append place [] fs = ap (λ (k : ℕ). lines k fs) (sym (add-zero place))
lines_append place (e ∷ es) fs =
    ap (λ (l : List ℕ). line place e ++ l)
    (lines_append (place + 1) es fs
    ∙ ap (λ (k : ℕ). lines (place + 1) es ++ lines k fs) (let s : place + 1 + length es ≡ place + suc (length es) = omega arith in s))
    ∙ sym (append_assoc (line place e) (lines (place + 1) es) (lines (place + suc (length es)) fs))

lines_one : (place : ℕ) (e : Listed) → lines place (e ∷ []) ≡ line place e
unfolding lines
lines_one place e = append-nil (line place e)

-- a number of two digits or more is not padded
padded_long : (digits : List ℕ) → 2 ≤ length digits → padded_integral (format_spec 32 0 4 2 (2 ^ 64 - 1)) false [] digits ≡ digits
unfolding padded_integral char_count
padded_long digits h =
    let none : 2 - length digits - 0 - 0 ≡ 0 = omega arith in
    rw none (append-nil digits)

-- what `{:02}` writes
pub figures_written : (n : ℕ) → n < 2 ^ 64 → padded_integral (format_spec 32 0 4 2 (2 ^ 64 - 1)) false [] (decimal n) ≡ figures n
unfolding padded_integral char_count
figures_written n small = ⊎_elim
    (λ one. let t : nat_lt n 10 ≡ true = grind (arith, nat_tests) in rw (decimal_digit n one, t) refl)
    (λ more.
    let t : nat_lt n 10 ≡ false = grind (arith, nat_tests) in
    let front : 0 < length (decimal (n / 10)) = decimal_nonempty (n / 10) (omega arith) in
    let long : 2 ≤ length (decimal n) = omega (arith, ap length (decimal_step n more small), length-append (decimal (n / 10)) ((48 + n % 10) ∷ [])) in
    padded_long (decimal n) long ∙ rw t refl)
    (cases_lt n 10)

-- no lines are written before the first
pub lines_begin : {W : Type 0} (took : W → List ℕ → W → Type 0) (f : Formatter W) → IsPlainFormatter f → HasWritten took f (lines 1 []) f
unfolding lines
lines_begin took f plain = record { wrote = writes_in_calls_nil took f.writer; plain = plain }

-- one line more, at the entry that is looked at
pub lines_step : (es : List Entry) (i : ℕ) (e : Entry) → get_or es i e ≡ e → i < length es → (get_or es i e ≡ e) × (lines 1 (map listed (take (i + 1) es)) ≡ lines 1 (map listed (take i es)) ++ line (i + 1) (listed e))
lines_step es i e is h =
    let before = map listed (take i es) in
    let next = listed (get_or es i e) in
    let at : 1 + length before ≡ i + 1 = omega (arith, length-map (take i es) listed, length-take-le i es (omega arith)) in (
      is,
      ap (lines 1) (map_more listed es i e h)
          ∙ lines_append 1 before (next ∷ [])
          ∙ ap (λ (l : List ℕ). lines 1 before ++ l)
          (lines_one (1 + length before) next ∙ ap (λ (k : ℕ). line k next) at ∙ ap (λ (d : Entry). line (i + 1) (listed d)) is),
    )

-- what the table's text is made of
pub ruleset table_steps = (common_steps, figures_written, length-map, lines_begin, lines_step)
