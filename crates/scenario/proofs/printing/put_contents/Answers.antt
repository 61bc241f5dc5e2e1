use Rattle.std.proofs.Common.{sym, subst, length}
use Rattle.scenario.specs.Valid.{IsWithin}
use Rattle.scenario.specs.declared.contents.Content.{Content}
use Rattle.scenario.proofs.PrintTurns.{within_at}
use Rattle.scenario.proofs.printing.put_contents.Goals as goal

pub content_value-requires-clause-there : goal.content_value-requires-clause-there
content_value-requires-clause-there c =
    subst (λ (x : Content). IsWithin (length c.args.starts.now) x) (sym c.content-item.is)
    (within_at _ c.args.contents.now c.loop-content.content-index c.content-item.result c.loop-content-test.true c.requires.there)
