use Rattle.scenario.proofs.refusal_line.write_refusal.Goals as goal

pub returns-in-BadName : goal.returns-in-BadName
returns-in-BadName g c = rw c.in-BadName.is (rw c.from.ensures at c.write_numbered.ensures)

pub returns-in-Twice : goal.returns-in-Twice
returns-in-Twice g c = rw c.in-Twice.is c.write_twice.ensures

pub returns-in-UnknownKind : goal.returns-in-UnknownKind
returns-in-UnknownKind g c = rw c.in-UnknownKind.is (rw c.from-in-UnknownKind.ensures at c.write_numbered-in-UnknownKind.ensures)

pub returns-in-UnknownField : goal.returns-in-UnknownField
returns-in-UnknownField g c = rw c.in-UnknownField.is c.write_at-in-UnknownField.ensures

pub returns-in-UnknownActor : goal.returns-in-UnknownActor
returns-in-UnknownActor g c = rw c.in-UnknownActor.is c.write_at-in-UnknownActor.ensures

pub returns-in-TooManyActors : goal.returns-in-TooManyActors
returns-in-TooManyActors g c = rw c.in-TooManyActors.is c.write_numbered-in-TooManyActors.ensures
