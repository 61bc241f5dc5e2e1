use Rattle.std.proofs.Common.{◌<◌, ◌≤◌, ◌∙◌, length, ap, sym, arith}
use Rattle.std.proofs.lemmas.List.{get_or_past}
use Rattle.quiet_core.specs.declared.entry.Entry.{Entry}
use Rattle.quiet_core.specs.declared.entry.Entry.TheVariants as entry
use Rattle.quiet_core.specs.Entries.{mark_of}
use Rattle.quiet_core.proofs.Books.{get_or-any, mark_book}
use Rattle.quiet_core.proofs.accounts.Accounts.entry.Goals as goal

pub returns-then-i-len : goal.returns-then-i-len
returns-then-i-len c h l =
    let row = c.index-row.result.now in
    let i = c.args.i in
    let inside : i < length row.items = omega arith in
    mark_book (λ row. row.items) c.self.inside.ledgers.items c.self.inside.numbers.items h c.args.m i row _ c.self.view_is c.index-row.ensures c.requires l
    ∙ ap (λ (e : Entry). mark_of h e) (get_or-any row.items i entry.Free c.index.result.now inside ∙ sym c.index.ensures)

pub returns-else-i-len : goal.returns-else-i-len
returns-else-i-len c h l =
    let row = c.index-row.result.now in
    let i = c.args.i in
    let past : length row.items ≤ i = omega arith in
    mark_book (λ row. row.items) c.self.inside.ledgers.items c.self.inside.numbers.items h c.args.m i row _ c.self.view_is c.index-row.ensures c.requires l
    ∙ ap (λ (e : Entry). mark_of h e) (get_or_past row.items i entry.Free past)
