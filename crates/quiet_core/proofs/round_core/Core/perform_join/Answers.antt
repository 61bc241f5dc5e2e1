use Rattle.std.proofs.Common.{◌<◌, ◌≤◌, ◌∙◌, length, ap, sym, subst}
use Rattle.quiet_core.specs.Step.{State}
use Rattle.quiet_core.specs.Event.{Standing, account_of, moved, joins}
use Rattle.quiet_core.proofs.Hands.{roomy_both, joined_is, joined_kept, joined_hands}
use Rattle.quiet_core.proofs.round_core.Core.perform_join.Goals as goal

pub join-requires-clause-roomy : goal.join-requires-clause-roomy
join-requires-clause-roomy c =
    let t = c.self.inside.frame in
    let s : State = record { words = c.self.inside.words.items; accounts = c.self.inside.accounts.accounts } in
    let h = c.args.hand in
    let g = c.args.from in
    let w = c.self.invariant.0 in
    let lh = subst (λ (v : Standing). h < length v.state.accounts) (sym c.self.view_is) c.requires.hand in
    let lg = subst (λ (v : Standing). g < length v.state.accounts) (sym c.self.view_is) c.requires.from in
    let some = subst (λ (v : Standing). 1 ≤ (account_of v.state h).weight) (sym c.self.view_is) c.requires.weight in
    roomy_both t s h g w lh lg c.requires.apart

pub invariant_of-self : goal.invariant_of-self
invariant_of-self c =
    let t = c.self.inside.frame in
    let s : State = record { words = c.self.inside.words.items; accounts = c.self.inside.accounts.accounts } in
    let h = c.args.hand in
    let g = c.args.from in
    let w = c.self.invariant.0 in
    let lh = subst (λ (v : Standing). h < length v.state.accounts) (sym c.self.view_is) c.requires.hand in
    let lg = subst (λ (v : Standing). g < length v.state.accounts) (sym c.self.view_is) c.requires.from in
    let some = subst (λ (v : Standing). 1 ≤ (account_of v.state h).weight) (sym c.self.view_is) c.requires.weight in (
      joined_kept t s h g w lh lg c.requires.apart c.self.inside.accounts.sched c.self.invariant.1 c.join.new.self.accounts c.join.ensures.accounts some,
      c.join.ensures.sched ∙ c.self.invariant.1,
      joined_hands t s h g w lh lg c.requires.apart c.self.inside.accounts.sched c.self.invariant.1 c.join.new.self.accounts c.join.ensures.accounts some ∙ c.self.invariant.2,
    )

pub returns-clause-balance : goal.returns-clause-balance
returns-clause-balance c =
    let t = c.self.inside.frame in
    let s : State = record { words = c.self.inside.words.items; accounts = c.self.inside.accounts.accounts } in
    let h = c.args.hand in
    let g = c.args.from in
    let w = c.self.invariant.0 in
    let lh = subst (λ (v : Standing). h < length v.state.accounts) (sym c.self.view_is) c.requires.hand in
    let lg = subst (λ (v : Standing). g < length v.state.accounts) (sym c.self.view_is) c.requires.from in
    let some = subst (λ (v : Standing). 1 ≤ (account_of v.state h).weight) (sym c.self.view_is) c.requires.weight in
    joined_kept t s h g w lh lg c.requires.apart c.self.inside.accounts.sched c.self.invariant.1 c.join.new.self.accounts c.join.ensures.accounts some

pub returns-clause-state : goal.returns-clause-state
returns-clause-state c =
    let t = c.self.inside.frame in
    let s : State = record { words = c.self.inside.words.items; accounts = c.self.inside.accounts.accounts } in
    let h = c.args.hand in
    let g = c.args.from in
    let w = c.self.invariant.0 in
    let lh = subst (λ (v : Standing). h < length v.state.accounts) (sym c.self.view_is) c.requires.hand in
    let lg = subst (λ (v : Standing). g < length v.state.accounts) (sym c.self.view_is) c.requires.from in
    let some = subst (λ (v : Standing). 1 ≤ (account_of v.state h).weight) (sym c.self.view_is) c.requires.weight in
    ap (λ (z : State). record { shape = t; state = z }) (joined_is t s h g w lh lg c.requires.apart c.self.inside.accounts.sched c.self.invariant.1 c.join.new.self.accounts c.join.ensures.accounts some)
    ∙ ap (λ (v : Standing). record v { state = moved v.shape v.state (joins h g) }) c.self.view_is
