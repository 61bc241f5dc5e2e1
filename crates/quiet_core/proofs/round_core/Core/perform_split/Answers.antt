use Rattle.std.proofs.Common.{◌≡◌, ◌<◌, ◌≤◌, ◌∙◌, length, ap, sym, subst}
use Rattle.quiet_core.specs.Step.{State}
use Rattle.quiet_core.specs.Event.{Standing, account_of, moved, splits}
use Rattle.quiet_core.proofs.Hands.{empty_is, split_is, split_kept, split_hands}
use Rattle.quiet_core.proofs.round_core.Core.perform_split.Goals as goal

pub split-requires-clause-empty : goal.split-requires-clause-empty
split-requires-clause-empty c =
    let t = c.self.inside.frame in
    let s : State = record { words = c.self.inside.words.items; accounts = c.self.inside.accounts.accounts } in
    let h = c.args.hand in
    let g = c.args.new in
    let w = c.self.invariant.0 in
    let lh = subst (λ (v : Standing). h < length v.state.accounts) (sym c.self.view_is) c.requires.hand in
    let lg = subst (λ (v : Standing). g < length v.state.accounts) (sym c.self.view_is) c.requires.new in
    let two = subst (λ (v : Standing). 2 ≤ (account_of v.state h).weight) (sym c.self.view_is) c.requires.weight in
    let none = subst (λ (v : Standing). (account_of v.state g).weight ≡ 0) (sym c.self.view_is) c.requires.weightless in
    empty_is t s h g w lh lg c.requires.apart c.self.inside.accounts.sched c.self.invariant.1 c.self.inside.accounts.accounts none

pub invariant_of-self : goal.invariant_of-self
invariant_of-self c =
    let t = c.self.inside.frame in
    let s : State = record { words = c.self.inside.words.items; accounts = c.self.inside.accounts.accounts } in
    let h = c.args.hand in
    let g = c.args.new in
    let w = c.self.invariant.0 in
    let lh = subst (λ (v : Standing). h < length v.state.accounts) (sym c.self.view_is) c.requires.hand in
    let lg = subst (λ (v : Standing). g < length v.state.accounts) (sym c.self.view_is) c.requires.new in
    let two = subst (λ (v : Standing). 2 ≤ (account_of v.state h).weight) (sym c.self.view_is) c.requires.weight in
    let none = subst (λ (v : Standing). (account_of v.state g).weight ≡ 0) (sym c.self.view_is) c.requires.weightless in (
      split_kept t s h g w lh lg c.requires.apart c.self.inside.accounts.sched c.self.invariant.1 c.split.new.self.accounts c.split.ensures.accounts two none,
      c.split.ensures.sched ∙ c.self.invariant.1,
      split_hands t s h g w lh lg c.requires.apart c.self.inside.accounts.sched c.self.invariant.1 c.split.new.self.accounts c.split.ensures.accounts two none ∙ c.self.invariant.2,
    )

pub returns-clause-balance : goal.returns-clause-balance
returns-clause-balance c =
    let t = c.self.inside.frame in
    let s : State = record { words = c.self.inside.words.items; accounts = c.self.inside.accounts.accounts } in
    let h = c.args.hand in
    let g = c.args.new in
    let w = c.self.invariant.0 in
    let lh = subst (λ (v : Standing). h < length v.state.accounts) (sym c.self.view_is) c.requires.hand in
    let lg = subst (λ (v : Standing). g < length v.state.accounts) (sym c.self.view_is) c.requires.new in
    let two = subst (λ (v : Standing). 2 ≤ (account_of v.state h).weight) (sym c.self.view_is) c.requires.weight in
    let none = subst (λ (v : Standing). (account_of v.state g).weight ≡ 0) (sym c.self.view_is) c.requires.weightless in
    split_kept t s h g w lh lg c.requires.apart c.self.inside.accounts.sched c.self.invariant.1 c.split.new.self.accounts c.split.ensures.accounts two none

pub returns-clause-state : goal.returns-clause-state
returns-clause-state c =
    let t = c.self.inside.frame in
    let s : State = record { words = c.self.inside.words.items; accounts = c.self.inside.accounts.accounts } in
    let h = c.args.hand in
    let g = c.args.new in
    let w = c.self.invariant.0 in
    let lh = subst (λ (v : Standing). h < length v.state.accounts) (sym c.self.view_is) c.requires.hand in
    let lg = subst (λ (v : Standing). g < length v.state.accounts) (sym c.self.view_is) c.requires.new in
    let two = subst (λ (v : Standing). 2 ≤ (account_of v.state h).weight) (sym c.self.view_is) c.requires.weight in
    let none = subst (λ (v : Standing). (account_of v.state g).weight ≡ 0) (sym c.self.view_is) c.requires.weightless in
    ap (λ (z : State). record { shape = t; state = z }) (split_is t s h g w lh lg c.requires.apart c.self.inside.accounts.sched c.self.invariant.1 c.split.new.self.accounts c.split.ensures.accounts two none)
    ∙ ap (λ (v : Standing). record v { state = moved v.shape v.state (splits h g) }) c.self.view_is
