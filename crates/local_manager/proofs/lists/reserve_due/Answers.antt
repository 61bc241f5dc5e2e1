use Rattle.std.proofs.Common.{◌≡◌, ◌≤◌, List, length, get_or, subst, ap, arith, ◌∙◌, length-set}
use Rattle.std.proofs.lemmas.Option.{slice_get-get_or, slice_get_within}
use Rattle.sim_base.specs.declared.ids.ActorId.{ActorId}
use Rattle.sim_base.specs.Room.{Room}
use Rattle.agenda.specs.Dues.{due_at}
use Rattle.agenda.specs.declared.due.Due.{Due}
use Rattle.local_manager.proofs.Sharing.{HasRoom, below_written, same_written}
use Rattle.local_manager.proofs.lists.reserve_due.Goals as goal

pub loop-m-preserved : goal.loop-m-preserved
loop-m-preserved g c =
    let i = c.loop-m in
    let domain = get_or c.args.domains.now i.m c.index-domains-m.result in
    let is = slice_get-get_or c.args.domains.now i.m c.index-domains-m.result c.loop-m-test.true in
    let read = ap (λ (d : List Due). length (due_at c.args.tick d)) c.index-domains-m.is in
    let fits : length (due_at c.args.tick domain) ≤ c.reserve.new.self.spare = omega (arith, read, c.due.ensures, c.in_ok-reserve.ensures.room) in
    record {
      long = simp length-set i.invariant.long;
      same = same_written (λ (r : Room ActorId). r.list) i.lists i.m c.reserve.new.self c.index-lists-m.result c.reserve.ensures.list
          ∙ i.invariant.same;
      room = below_written (λ k r. HasRoom c.args.tick c.args.domains.now k r) i.lists i.m c.reserve.new.self i.invariant.room (λ p e.
          let same : domain ≡ p = cc (is, e) in subst (λ (d : List Due). length (due_at c.args.tick d) ≤ c.reserve.new.self.spare) same fits);
    }

pub returns-clause-room : goal.returns-clause-room
returns-clause-room g c = λ m p r e f.
    let within = slice_get_within c.loop-m.lists m r f in
    c.loop-m.invariant.room m r (omega (arith, within, c.loop-m.invariant.long, c.requires.count, c.loop-m-test.false)) f p e
