use Rattle.std.proofs.Common.{ℕ, not, map, is_some, vec_items, Option, sym, ap, ◌∙◌, append-nil}
use Rattle.address.specs.Parts.{number}
use Rattle.listing.specs.Meaning.{state_of, walk_of}
use Rattle.listing.specs.Rule.{deepest, closing, passed_by}
use Rattle.listing.proofs.Steps.{stopped_leaves}
use Rattle.listing.proofs.listing.Listing.note.Goals as goal

pub returns-in-Err-clause-state : goal.returns-in-Err-clause-state
returns-in-Err-clause-state c =
    let self = c.args.self.now in
    let settled = c.settle-in-Err.ensures in
    let shut = λ (d : Option ℕ). closing d self.opens.flags in
    let left = settled.opens ∙ ap shut c.requires.deepest in
    let ended = settled.complete ∙ ap (λ (d : Option ℕ). not (is_some (deepest (shut d)))) c.requires.deepest in
    let listed = ap (λ v. map number (vec_items v)) settled.addresses ∙ sym (append-nil (map number (vec_items self.addresses))) in
    (λ i. record { listed = listed i; last = number (settled.last i); opens = left i; limit = settled.limit i; complete = ended i })
    ∙ sym (stopped_leaves c.in-Err.stop (state_of self))
    ∙ ap (λ w. passed_by (walk_of w) (state_of self)) (sym c.in-Err.is)
