use Rattle.std.proofs.Common.{◌≡◌, drop, map}
use Rattle.scenario.specs.Answers.{place_of}
use Rattle.scenario.specs.Reading.{look_all}
use Rattle.scenario.proofs.Turns.{after}
use Rattle.scenario.proofs.reading.look_all.Given as goal

abbrev pub invariant-loop-text : goal.invariant-loop-text
invariant-loop-text l = look_all l.pass l.names (place_of l.actor l.field) (map (λ t. t.now) l.texts) ≡ after l.found.items (look_all l.pass l.names (place_of l.actor l.field) (map (λ t. t.now) (drop l.text-index l.texts)))
