use Rattle.std.proofs.Common.{◌≡◌, ◌<◌, ◌≤◌, ◌+◌, ◌-◌, ℕ, List, length, get_or, take, drop, arith, ap, add-one, pos}
use Rattle.std.proofs.Math.Seq.{take-suc}
use Rattle.std.proofs.lemmas.List.{drop_more, get_or-drop, get_or_default, length-drop}
use Rattle.std.specs.List.{All}
use Rattle.actor_trait.specs.declared.letter.Letter.{Letter}
use Rattle.local_manager.proofs.Creators.{creators_more}
use Rattle.local_manager.proofs.called.creators_of.Goals as goal

abbrev blank : Letter
blank = record { to = record { 0 = 0 }; from = record { 0 = 0 }; serial = 0; payload = record { code = 0; a = pos 0; b = pos 0 } }

later : (told : List Letter) (i : ℕ) → ((i j : ℕ) (d : Letter) → i < j → j < length told → (get_or told i d).to.0 ≤ (get_or told j d).to.0) → i < length told
    → All (λ k. (get_or told i blank).to.0 ≤ k.to.0) (drop (i + 1) told)
later told i pairs lt k d within =
    let there = get_or-drop (i + 1) told k d in
    let long : length (drop (i + 1) told) ≡ length told - (i + 1) = length-drop (i + 1) told in
    let le = pairs i (i + 1 + k) d (omega arith) (omega (arith, long, within)) in
    let first = get_or_default told i blank d lt in
    omega (arith, le, ap (λ (l : Letter). l.to.0) there, ap (λ (l : Letter). l.to.0) first)

pub loop-letter-preserved : goal.loop-letter-preserved
loop-letter-preserved g c =
    let i = c.loop-letter.letter-index in
    let told = c.args.told.now in
    let l = get_or told i blank in
    let rest = drop_more told i blank c.loop-letter-test.true in
    let more = take-suc told i blank c.loop-letter-test.true in
    let all = creators_more c.args.states.now (take i told) l (drop (i + 1) told) c.loop-letter.ids.items
    (record { ascending = c.loop-letter.invariant.ascending; before = rw rest at c.loop-letter.invariant.before; each = c.loop-letter.invariant.each })
    (later told i c.requires c.loop-letter-test.true) in
    rw c.in_ok-add_once.ensures (record { ascending = all.ascending; before = all.before; each = rw (add-one, more) all.each })
