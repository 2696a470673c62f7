use Rattle.std.proofs.Common.{◌≡◌, ℕ, ◌<◌, ◌≤◌, length, get_or, vec_items}
use Rattle.rackfile.specs.declared.Entry.{Entry}
use Rattle.rackfile.specs.Files.{count, entry_in, listed}
use Rattle.rackfile.proofs.layout.Layout.entries.Given as goal

-- the range goes to the file's count, and the entries so far are the file's, place by place
abbrev pub invariant-loop-entry : goal.invariant-loop-entry
invariant-loop-entry l =
    let range = l.entry-iterator.iter in
    goal.iterator-loop-entry.can_next l.entry-iterator
    × goal.iterator-loop-entry.is_finite l.entry-iterator
    × ((l.entry-iterator.f.0.now ≡ l.self) × (range.end ≡ count l.self) × (range.start ≤ range.end))
    × (length (vec_items l.entries) ≡ range.start)
    × ((k : ℕ) (d : Entry) → k < range.start → listed (get_or (vec_items l.entries) k d) ≡ entry_in l.self k)
