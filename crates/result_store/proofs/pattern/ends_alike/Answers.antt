use Rattle.std.proofs.Common.{◌≢◌, ◌<◌, length, arith, ◌∙◌}
use Rattle.std.proofs.lemmas.Bool.{eq-eqb}
use Rattle.std.proofs.lemmas.Bool.Decides.{nat_tests}
use Rattle.result_store.specs.Patterns.{star}
use Rattle.result_store.proofs.Cuts.{last_byte, same_end}
use Rattle.result_store.proofs.Parts.{matches-from}
use Rattle.result_store.proofs.pattern.ends_alike.Goals as goal

pub returns-else-last-eq-STAR : goal.returns-else-last-eq-STAR
returns-else-last-eq-STAR c h =
    let p = c.args.pattern.now in
    let t = c.args.text.now in
    let some : 0 < length p = grind (arith, nat_tests, c.if-is_empty.false, c.is_empty.ensures) in
    let plain : last_byte p ≢ star = grind (arith, nat_tests, c.if-last-eq-STAR.false) in
    eq-eqb _ _ (c.last.ensures ∙ same_end p t some plain (matches-from p t h))
