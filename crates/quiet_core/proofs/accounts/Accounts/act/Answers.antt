use Rattle.std.proofs.Common.{◌∙◌, List, ap, set, refl, sym, subst, get_or-set_same}
use Rattle.std.proofs.lemmas.List.{set-set}
use Rattle.quiet_core.specs.Account.{Account, account, nobody}
use Rattle.quiet_core.specs.Noted.{noted}
use Rattle.quiet_core.specs.Entries.{Enters, marked}
use Rattle.quiet_core.proofs.Parts.{enters_still, marked_noted}
use Rattle.quiet_core.proofs.accounts.Accounts.act.Goals as goal

pub mark-requires-clause-enters : goal.mark-requires-clause-enters
mark-requires-clause-enters c =
    let t = c.args.frame.now in
    let h = c.args.hand in
    let d = c.args.deed in
    let x = c.args.found in
    let xs = c.args.self.now.accounts in
    subst (λ (ys : List Account). Enters t d x ys h) (sym c.note.ensures.accounts) (enters_still t x h xs (noted t d x (account xs h)) c.requires.hand refl d c.requires.enters)

pub returns-clause-accounts : goal.returns-clause-accounts
returns-clause-accounts c =
    let t = c.args.frame.now in
    let h = c.args.hand in
    let d = c.args.deed in
    let x = c.args.found in
    let xs = c.args.self.now.accounts in
    let b : Account = noted t d x (account xs h) in
    c.mark.ensures.accounts ∙ ap (λ (ys : List Account). set ys h (marked t d x (account ys h))) c.note.ensures.accounts
    ∙ set-set xs h b (marked t d x (account (set xs h b) h))
    ∙ ap (λ (a : Account). set xs h (marked t d x a)) (get_or-set_same xs h b nobody c.requires.hand)
    ∙ ap (λ (a : Account). set xs h a) (marked_noted t d x (account xs h))
