use Rattle.std.proofs.Common.{◌≡◌, ◌++◌, take, false, get_or}
use Rattle.std.specs.List.{filter}
use Rattle.work_claims.specs.Letters.{letters_sent}
use Rattle.work_claims.proofs.gathering.gather.Given as goal

abbrev pub invariant-loop-report : goal.invariant-loop-report
invariant-loop-report g l = l.letters.items ≡ l.fn.letters.items
    ++ filter (λ x. get_or l.mine ((g.W.Scene.placed l.world).route x.to) false)
    (letters_sent g.A.Actor.meaning (g.W.Scene.placed l.world) (take l.report-index l.reports))
