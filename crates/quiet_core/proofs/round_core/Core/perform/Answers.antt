use Rattle.std.proofs.Common.{◌<◌, ◌∙◌, length, ap, sym, subst, arith}
use Rattle.quiet_core.specs.Step.{State, May, acted, place, word}
use Rattle.quiet_core.specs.Event.{Standing, account_of}
use Rattle.quiet_core.proofs.Allowed.{within}
use Rattle.quiet_core.proofs.Performs.{in_words, found_is, rises, falls, has_room, may_enter, state_is, state_kept, hands_same}
use Rattle.quiet_core.proofs.round_core.Core.perform.Goals as goal

pub index-found-requires : goal.index-found-requires
index-found-requires c =
    let t = c.self.inside.frame in
    let s : State = record { words = c.self.inside.words.items; accounts = c.self.inside.accounts.accounts } in
    let h = c.args.hand in
    let d = c.args.deed in
    let w = c.self.invariant.0 in
    let lh = subst (λ (v : Standing). h < length v.state.accounts) (sym c.self.view_is) c.requires.hand in
    let may = subst (λ (v : Standing). May v.shape d (account_of v.state h)) (sym c.self.view_is) c.requires.may in
    let l = in_words t s h d c.place-at.result w lh may c.place-at.ensures in omega arith

pub index_mut-requires : goal.index_mut-requires
index_mut-requires c =
    let t = c.self.inside.frame in
    let s : State = record { words = c.self.inside.words.items; accounts = c.self.inside.accounts.accounts } in
    let h = c.args.hand in
    let d = c.args.deed in
    let w = c.self.invariant.0 in
    let lh = subst (λ (v : Standing). h < length v.state.accounts) (sym c.self.view_is) c.requires.hand in
    let may = subst (λ (v : Standing). May v.shape d (account_of v.state h)) (sym c.self.view_is) c.requires.may in
    let l = in_words t s h d c.place-at.result w lh may c.place-at.ensures in omega arith

pub changed-requires-clause-up : goal.changed-requires-clause-up
changed-requires-clause-up c =
    let t = c.self.inside.frame in
    let s : State = record { words = c.self.inside.words.items; accounts = c.self.inside.accounts.accounts } in
    let h = c.args.hand in
    let d = c.args.deed in
    let w = c.self.invariant.0 in
    let lh = subst (λ (v : Standing). h < length v.state.accounts) (sym c.self.view_is) c.requires.hand in
    let may = subst (λ (v : Standing). May v.shape d (account_of v.state h)) (sym c.self.view_is) c.requires.may in
    rises t s h d c.place-at.result w lh may c.place-at.ensures c.index-found.result.now c.index-found.ensures

pub changed-requires-clause-down : goal.changed-requires-clause-down
changed-requires-clause-down c =
    let t = c.self.inside.frame in
    let s : State = record { words = c.self.inside.words.items; accounts = c.self.inside.accounts.accounts } in
    let h = c.args.hand in
    let d = c.args.deed in
    let w = c.self.invariant.0 in
    let lh = subst (λ (v : Standing). h < length v.state.accounts) (sym c.self.view_is) c.requires.hand in
    let may = subst (λ (v : Standing). May v.shape d (account_of v.state h)) (sym c.self.view_is) c.requires.may in
    falls t s h d c.place-at.result w lh may c.place-at.ensures c.index-found.result.now c.index-found.ensures

pub act-requires-clause-within : goal.act-requires-clause-within
act-requires-clause-within c =
    let t = c.self.inside.frame in
    let s : State = record { words = c.self.inside.words.items; accounts = c.self.inside.accounts.accounts } in
    let h = c.args.hand in
    let d = c.args.deed in
    let w = c.self.invariant.0 in
    let lh = subst (λ (v : Standing). h < length v.state.accounts) (sym c.self.view_is) c.requires.hand in
    let may = subst (λ (v : Standing). May v.shape d (account_of v.state h)) (sym c.self.view_is) c.requires.may in
    within t s h w lh d may

pub act-requires-clause-roomy : goal.act-requires-clause-roomy
act-requires-clause-roomy c =
    let t = c.self.inside.frame in
    let s : State = record { words = c.self.inside.words.items; accounts = c.self.inside.accounts.accounts } in
    let h = c.args.hand in
    let d = c.args.deed in
    let w = c.self.invariant.0 in
    let lh = subst (λ (v : Standing). h < length v.state.accounts) (sym c.self.view_is) c.requires.hand in
    let may = subst (λ (v : Standing). May v.shape d (account_of v.state h)) (sym c.self.view_is) c.requires.may in
    has_room t s h d c.place-at.result w lh may c.place-at.ensures c.index-found.result.now c.index-found.ensures

pub act-requires-clause-enters : goal.act-requires-clause-enters
act-requires-clause-enters c =
    let t = c.self.inside.frame in
    let s : State = record { words = c.self.inside.words.items; accounts = c.self.inside.accounts.accounts } in
    let h = c.args.hand in
    let d = c.args.deed in
    let w = c.self.invariant.0 in
    let lh = subst (λ (v : Standing). h < length v.state.accounts) (sym c.self.view_is) c.requires.hand in
    let may = subst (λ (v : Standing). May v.shape d (account_of v.state h)) (sym c.self.view_is) c.requires.may in
    may_enter t s h d c.place-at.result w lh may c.place-at.ensures c.index-found.result.now c.index-found.ensures

pub invariant_of-self : goal.invariant_of-self
invariant_of-self c =
    let t = c.self.inside.frame in
    let s : State = record { words = c.self.inside.words.items; accounts = c.self.inside.accounts.accounts } in
    let h = c.args.hand in
    let d = c.args.deed in
    let w = c.self.invariant.0 in
    let lh = subst (λ (v : Standing). h < length v.state.accounts) (sym c.self.view_is) c.requires.hand in
    let may = subst (λ (v : Standing). May v.shape d (account_of v.state h)) (sym c.self.view_is) c.requires.may in (
      state_kept t s h d c.place-at.result w lh may c.place-at.ensures c.index-found.result.now c.index-found.ensures c.changed.result c.act.new.self.accounts c.changed.ensures c.act.ensures.accounts,
      c.act.ensures.sched ∙ c.self.invariant.1,
      hands_same t s h d c.place-at.result w lh may c.place-at.ensures c.index-found.result.now c.index-found.ensures c.changed.result c.act.new.self.accounts c.changed.ensures c.act.ensures.accounts ∙ c.self.invariant.2,
    )

pub returns-clause-word : goal.returns-clause-word
returns-clause-word c =
    let t = c.self.inside.frame in
    let s : State = record { words = c.self.inside.words.items; accounts = c.self.inside.accounts.accounts } in
    let h = c.args.hand in
    let d = c.args.deed in
    let w = c.self.invariant.0 in
    let lh = subst (λ (v : Standing). h < length v.state.accounts) (sym c.self.view_is) c.requires.hand in
    let may = subst (λ (v : Standing). May v.shape d (account_of v.state h)) (sym c.self.view_is) c.requires.may in
    found_is t s h d c.place-at.result w lh may c.place-at.ensures c.index-found.result.now c.index-found.ensures ∙ ap (λ (v : Standing). word v.state (place v.shape d)) c.self.view_is

pub returns-clause-state : goal.returns-clause-state
returns-clause-state c =
    let t = c.self.inside.frame in
    let s : State = record { words = c.self.inside.words.items; accounts = c.self.inside.accounts.accounts } in
    let h = c.args.hand in
    let d = c.args.deed in
    let w = c.self.invariant.0 in
    let lh = subst (λ (v : Standing). h < length v.state.accounts) (sym c.self.view_is) c.requires.hand in
    let may = subst (λ (v : Standing). May v.shape d (account_of v.state h)) (sym c.self.view_is) c.requires.may in
    ap (λ (z : State). record { shape = t; state = z })
    (state_is t s h d c.place-at.result w lh may c.place-at.ensures c.index-found.result.now c.index-found.ensures c.changed.result c.act.new.self.accounts c.changed.ensures c.act.ensures.accounts)
    ∙ ap (λ (v : Standing). record v { state = acted v.shape h (account_of v.state h) d v.state }) c.self.view_is

pub returns-clause-balance : goal.returns-clause-balance
returns-clause-balance c =
    let t = c.self.inside.frame in
    let s : State = record { words = c.self.inside.words.items; accounts = c.self.inside.accounts.accounts } in
    let h = c.args.hand in
    let d = c.args.deed in
    let w = c.self.invariant.0 in
    let lh = subst (λ (v : Standing). h < length v.state.accounts) (sym c.self.view_is) c.requires.hand in
    let may = subst (λ (v : Standing). May v.shape d (account_of v.state h)) (sym c.self.view_is) c.requires.may in
    state_kept t s h d c.place-at.result w lh may c.place-at.ensures c.index-found.result.now c.index-found.ensures c.changed.result c.act.new.self.accounts c.changed.ensures c.act.ensures.accounts
