use Rattle.std.proofs.Common.{ℕ, ◌∙◌, List, replicate, map, length, ap}
use Rattle.quiet_core.specs.declared.entry.Entry.{Entry}
use Rattle.quiet_core.specs.Account.{Account, blank, no_actors}
use Rattle.quiet_core.specs.Entries.{all_from}
use Rattle.quiet_core.proofs.Passes.{lengths_of}
use Rattle.quiet_core.proofs.Free.{free_lengths, all_free}
use Rattle.quiet_core.proofs.accounts.Accounts.of.Goals as goal

pub returns-clause-sched : goal.returns-clause-sched
returns-clause-sched c =
    lengths_of (λ row. row.items) c.in_ok-numbers.numbers.items ∙ ap (λ (t : List (List Entry)). map length t) c.in_ok-numbers.ensures ∙ free_lengths c.args.frame.now.sched

pub returns-clause-accounts : goal.returns-clause-accounts
returns-clause-accounts c =
    let table = map (λ row. row.items) c.in_ok-numbers.numbers.items in
    ap (λ (ls : List Account). all_from 0 ls table) (c.in_ok-ledgers.ensures ∙ ap (λ (n : ℕ). replicate n (record (blank no_actors) { weight = 1 })) c.hands.ensures)
    ∙ ap (λ (t : List (List Entry)). all_from 0 (replicate c.args.frame.now.hands (record (blank no_actors) { weight = 1 })) t) c.in_ok-numbers.ensures
    ∙ all_free c.args.frame.now 0 c.args.frame.now.hands
