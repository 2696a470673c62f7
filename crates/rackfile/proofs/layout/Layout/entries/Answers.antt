use Rattle.std.proofs.Common.{◌≡◌, ◌<◌, vec_items, IsUtf8, rules, arith}
use Rattle.std.proofs.lemmas.Iterator.{serves_from_Range}
use Rattle.std.proofs.lemmas.List.{get_or_append_left, get_or_push}
use Rattle.rackfile.specs.Files.{count, entry_in, listed, name_at}
use Rattle.rackfile.proofs.Names.{name_utf8}
use Rattle.rackfile.proofs.Places.{entries_by_all}
use Rattle.rackfile.proofs.layout.Layout.entries.Goals as goal

pub loop-entry-init : goal.loop-entry-init
loop-entry-init c =
    let f = c.args.self.now in (
      (
        tt,
        serves_from_Range (λ x q h. search rules) (λ x low high.
            let l : x < count f = search rules in
            let text : IsUtf8 (name_at f x) = name_utf8 f c.requires x l in
            search (rules, text)),
      ),
      tt,
      search rules,
      search rules,
      λ k d l. search rules,
    )

pub loop-entry-preserved : goal.loop-entry-preserved
loop-entry-preserved c =
    let new : listed c.in_ok-entry.field-0 ≡ entry_in c.args.self.now c.loop-entry.entry-iterator.iter.start = search rules in (
      search rules,
      tt,
      search rules,
      search rules,
      λ k d l. search (arith, new, get_or_append_left, get_or_push),
    )

pub returns : goal.returns
returns c =
    entries_by_all c.args.self.now (vec_items c.loop-entry.entries) (search rules) (λ k d l. search rules)
