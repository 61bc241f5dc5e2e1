use Rattle.std.proofs.Common.{◌+◌, List, length, arith, sym, ap, subst}
use Rattle.agenda.specs.declared.due.Due.{Due}
use Rattle.local_manager.specs.Directories.{AllPlaced}
use Rattle.local_manager.proofs.Admitting.{placed_more}
use Rattle.local_manager.proofs.Numbering.{numbered_at}
use Rattle.local_manager.proofs.actors.admit_all.Goals as goal

pub admit-requires-clause-next : goal.admit-requires-clause-next
admit-requires-clause-next g c =
    let i = c.loop-newborn.newborn-index in
    let at = numbered_at c.args.born.now (length c.args.directory.now.placed.homes + 1) i c.newborn-item.result c.requires.numbered c.loop-newborn-test.true in
    omega (arith, at, ap (λ b. b.id.0) c.newborn-item.is, c.loop-newborn.invariant.1)

pub admit-requires-clause-known : goal.admit-requires-clause-known
admit-requires-clause-known g c =
    let same = ap (λ d. d.agenda) c.loop-newborn.invariant.0 in
    subst (λ (dues : List Due). AllPlaced (λ d. d.actor) (length c.loop-newborn.directory.placed.homes) dues) (sym same)
    (placed_more (λ (d : Due). d.actor) (length c.args.directory.now.placed.homes) (length c.loop-newborn.directory.placed.homes) c.args.directory.now.agenda
    (omega (arith, c.loop-newborn.invariant.1)) c.requires.known)
