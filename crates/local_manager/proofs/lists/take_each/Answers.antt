use Rattle.std.proofs.Common.{◌≡◌, List, ◌++◌, get_or, arith, add-one, sym, ap, ◌∙◌, length-set}
use Rattle.sim_base.specs.declared.ids.ActorId.{ActorId}
use Rattle.sim_base.specs.Room.{Room}
use Rattle.agenda.specs.Dues.{due_at, without_tick}
use Rattle.local_manager.proofs.Keeping.{stands}
use Rattle.local_manager.proofs.Loops.{one_more, one_more_plain, rest_more, here}
use Rattle.local_manager.proofs.lists.take_each.Goals as goal

pub take_due-requires : goal.take_due-requires
take_due-requires g c =
    let i = c.loop-m in
    let old = here i.domains c.args.domains.now i.m c.index-domains-m.result i.invariant.long i.invariant.rest in
    let room = here i.lists c.args.lists.now i.m c.index-lists-m.result (i.invariant.same ∙ i.invariant.long ∙ sym c.requires.count) i.invariant.room in
    let p = stands c.args.domains.now i.m (get_or i.domains i.m c.index-domains-m.result) c.index-domains-m.result
    (omega (arith, c.loop-m-test.true, i.invariant.long)) old in
    let r = stands c.args.lists.now i.m (get_or i.lists i.m c.index-lists-m.result) c.index-lists-m.result
    (omega (arith, c.loop-m-test.true, i.invariant.long, c.requires.count)) room in
    (c.requires.rooms i.m (get_or i.domains i.m c.index-domains-m.result) (get_or i.lists i.m c.index-lists-m.result) p r).1

pub loop-m-preserved : goal.loop-m-preserved
loop-m-preserved g c =
    let i = c.loop-m in
    let old = here i.domains c.args.domains.now i.m c.index-domains-m.result i.invariant.long i.invariant.rest in
    let same_lists = i.invariant.same ∙ i.invariant.long ∙ sym c.requires.count in
    let room = here i.lists c.args.lists.now i.m c.index-lists-m.result same_lists i.invariant.room in
    let p = stands c.args.domains.now i.m (get_or i.domains i.m c.index-domains-m.result) c.index-domains-m.result
    (omega (arith, c.loop-m-test.true, i.invariant.long)) old in
    let r = stands c.args.lists.now i.m (get_or i.lists i.m c.index-lists-m.result) c.index-lists-m.result
    (omega (arith, c.loop-m-test.true, i.invariant.long, c.requires.count)) room in
    let empty = (c.requires.rooms i.m (get_or i.domains i.m c.index-domains-m.result) (get_or i.lists i.m c.index-lists-m.result) p r).0 in
    let taken : c.take_due.new.into.list ≡ due_at c.args.tick (get_or i.domains i.m c.index-domains-m.result) =
    c.take_due.ensures.taken ∙ ap (λ (l : List ActorId). l ++ due_at c.args.tick (get_or i.domains i.m c.index-domains-m.result)) empty in
    record {
      same = simp length-set i.invariant.same;
      long = simp length-set i.invariant.long;
      rest = rw add-one (rest_more i.domains c.args.domains.now i.m c.take_due.new.self i.invariant.long i.invariant.rest);
      room = rw add-one (rest_more i.lists c.args.lists.now i.m c.take_due.new.into same_lists i.invariant.room);
      left = rw add-one (one_more_plain (λ p. without_tick c.args.tick p) i.domains c.args.domains.now i.m c.take_due.new.self c.index-domains-m.result
          (omega (arith, c.loop-m-test.true, i.invariant.long)) i.invariant.long i.invariant.left
          (c.take_due.ensures.left ∙ ap (without_tick c.args.tick) old));
      taken = rw add-one (one_more (λ (r : Room ActorId). r.list)
          (λ p. due_at c.args.tick p) i.lists c.args.domains.now i.m c.take_due.new.into c.index-domains-m.result
          (omega (arith, c.loop-m-test.true, i.invariant.same)) (i.invariant.same ∙ i.invariant.long) i.invariant.taken (taken ∙ ap (due_at c.args.tick) old));
    }
