use Rattle.std.proofs.Common.{◌≡◌, ◌≤◌, ◌%◌, ◌++◌, List, [], cond, length, take, drop, nat_cmp, None, slice_index_or, slice_set}
use Rattle.std.proofs.Common.{refl, sym, ap, ◌∙◌, subst, arith, length-append}
use Rattle.std.specs.List.Sorted.{IsPermutation, IsSortedByKey}
use Rattle.std.proofs.lemmas.List.{get_or_default}
use Rattle.sim_base.specs.declared.ids.ActorId.{ActorId}
use Rattle.agenda.specs.Dues.{due_at}
use Rattle.agenda_wheel.specs.Nodes.{nil, next_of, head_of}
use Rattle.agenda_wheel.specs.Seen.{asks, asker}
use Rattle.agenda_wheel.specs.Slots.{sorted}
use Rattle.agenda_wheel.specs.Wheel.{pair_at, pairs_of}
use Rattle.agenda_wheel.specs.declared.links.Side.TheVariants as side
use Rattle.agenda_wheel.proofs.Freeing.{map_get}
use Rattle.agenda_wheel.proofs.Looking.{read_at}
use Rattle.agenda_wheel.proofs.Seeing.{Ahead}
use Rattle.agenda_wheel.proofs.Sets.{rises_sorted}
use Rattle.agenda_wheel.proofs.Taking.{Taking, take_begin, take_pairs, take_ahead, take_end, take_sorted, drop_more, got_more}
use Rattle.agenda_wheel.proofs.Taking.{all_got, drop_self, got_none}
use Rattle.agenda_wheel.proofs.moves.take_each.Goals as goal

pub loop-at-init : goal.loop-at-init
loop-at-init c =
    let e : slice_index_or c.args.ticks.now c.bucket_of.result 0 ≡ head_of c.args.ticks.now (c.args.tick % 1024) =
    ap (λ k. slice_index_or c.args.ticks.now k 0) c.bucket_of.ensures ∙ get_or_default c.args.ticks.now (c.args.tick % 1024) 0 nil
    (omega (arith, c.requires.sound.wheel)) in
    record {
      sound = c.requires.sound;
      apart = c.requires.apart;
      ahead = subst (λ g. Ahead (next_of side.Tick c.args.nodes.now) (pair_at c.args.nodes.now) nil
          (slice_index_or c.args.ticks.now c.bucket_of.result 0) (length c.args.nodes.now)
          (Taking c.args.tick (sorted (pairs_of c.args.nodes.now)) (sorted (pairs_of c.args.nodes.now)) g)) (sym (drop_self c.args.into.now.list))
          (subst (λ a. Ahead (next_of side.Tick c.args.nodes.now) (pair_at c.args.nodes.now) nil a (length c.args.nodes.now)
          (Taking c.args.tick (sorted (pairs_of c.args.nodes.now)) (sorted (pairs_of c.args.nodes.now)) [])) (sym e)
          (take_begin c.args.nodes.now c.requires.sound.small c.requires.apart c.args.ticks.now c.args.tick c.requires.sound.by_tick));
      got = got_none c.args.into.now.list;
      left = refl;
      room = refl;
      free = refl;
    }

pub take_one-requires-clause-room : goal.take_one-requires-clause-room
take_one-requires-clause-room c =
    let o = pair_at c.loop-at.nodes c.loop-at.at in
    let k = (take_pairs c.args.tick c.loop-at.at (pair_at c.loop-at.nodes c.loop-at.at) (pairs_of c.loop-at.nodes)
    (cond (asks c.args.tick (pair_at c.loop-at.nodes c.loop-at.at)) (slice_set (pairs_of c.loop-at.nodes) c.loop-at.at None)
    (pairs_of c.loop-at.nodes)) (map_get c.loop-at.nodes c.loop-at.at) c.loop-at.invariant.apart refl).fewer in
    let m : length (asker c.args.tick (pair_at c.loop-at.nodes c.loop-at.at)) ≤ c.loop-at.into.spare =
    omega (arith, k, c.loop-at.invariant.room, c.requires.room) in
    m

pub overflow_sub-left : goal.overflow_sub-left
overflow_sub-left c =
    let s = take_ahead c.args.tick (sorted (pairs_of c.args.nodes.now)) (drop
    (length c.args.into.now.list) c.loop-at.into.list) c.loop-at.nodes c.take_one.new.nodes c.loop-at.ticks c.loop-at.actors
    c.take_one.new.ticks c.take_one.new.actors c.loop-at.invariant.sound c.take_one.ensures.sound c.loop-at.invariant.apart c.loop-at.at
    c.loop-at.left c.loop-at-test.true
    (pair_at c.loop-at.nodes c.loop-at.at) refl c.take_one.ensures.same c.take_one.ensures.pairs c.take_one.ensures.links
    c.loop-at.invariant.ahead in
    omega (arith, s.0)

pub loop-at-smaller : goal.loop-at-smaller
loop-at-smaller c =
    let s = take_ahead c.args.tick (sorted (pairs_of c.args.nodes.now)) (drop
    (length c.args.into.now.list) c.loop-at.into.list) c.loop-at.nodes c.take_one.new.nodes c.loop-at.ticks c.loop-at.actors
    c.take_one.new.ticks c.take_one.new.actors c.loop-at.invariant.sound c.take_one.ensures.sound c.loop-at.invariant.apart c.loop-at.at
    c.loop-at.left c.loop-at-test.true
    (pair_at c.loop-at.nodes c.loop-at.at) refl c.take_one.ensures.same c.take_one.ensures.pairs c.take_one.ensures.links
    c.loop-at.invariant.ahead in
    omega (arith, s.0)

pub loop-at-preserved : goal.loop-at-preserved
loop-at-preserved c =
    let s = take_ahead c.args.tick (sorted (pairs_of c.args.nodes.now)) (drop
    (length c.args.into.now.list) c.loop-at.into.list) c.loop-at.nodes c.take_one.new.nodes c.loop-at.ticks c.loop-at.actors
    c.take_one.new.ticks c.take_one.new.actors c.loop-at.invariant.sound c.take_one.ensures.sound c.loop-at.invariant.apart c.loop-at.at
    c.loop-at.left c.loop-at-test.true
    (pair_at c.loop-at.nodes c.loop-at.at) refl c.take_one.ensures.same c.take_one.ensures.pairs c.take_one.ensures.links
    c.loop-at.invariant.ahead in
    let k = take_pairs c.args.tick c.loop-at.at (pair_at c.loop-at.nodes c.loop-at.at) (pairs_of c.loop-at.nodes) (pairs_of c.take_one.new.nodes)
    (map_get c.loop-at.nodes c.loop-at.at) c.loop-at.invariant.apart c.take_one.ensures.pairs in
    let n = read_at c.loop-at.nodes c.loop-at.at c.loop-at-test.true in
    let g = ap (drop (length c.args.into.now.list)) c.take_one.ensures.taken
    ∙ drop_more c.args.into.now.list c.loop-at.into.list (asker c.args.tick (pair_at c.loop-at.nodes c.loop-at.at)) c.loop-at.invariant.got in
    let fewer = k.fewer in
    let free = k.free in
    record {
      sound = c.take_one.ensures.sound;
      apart = k.apart;
      ahead = rw (n, g) s.1;
      got = c.take_one.ensures.taken ∙ got_more c.args.into.now.list c.loop-at.into.list
          (asker c.args.tick (pair_at c.loop-at.nodes c.loop-at.at)) c.loop-at.invariant.got
          ∙ sym (ap (λ z. c.args.into.now.list ++ drop (length c.args.into.now.list) z) c.take_one.ensures.taken);
      left = k.left ∙ c.loop-at.invariant.left;
      room = omega (arith, c.take_one.ensures.room, c.loop-at.invariant.room, fewer);
      free = omega (arith, c.loop-at.invariant.free, fewer, free);
    }

pub returns-clause-taken : goal.returns-clause-taken
returns-clause-taken c =
    let z = take_end c.loop-at.nodes c.loop-at.invariant.sound.small c.loop-at.invariant.apart c.args.tick c.loop-at.at c.loop-at.left
    (sorted (pairs_of c.args.nodes.now)) (drop (length c.args.into.now.list) c.loop-at.into.list) c.loop-at-test.false
    c.loop-at.invariant.ahead in
    let behind : drop (length c.args.into.now.list) c.sort_from.new.self.list ≡ due_at c.args.tick (sorted (pairs_of c.args.nodes.now)) =
    take_sorted c.args.tick (sorted (pairs_of c.args.nodes.now)) (drop (length c.args.into.now.list) c.loop-at.into.list)
    (drop (length c.args.into.now.list) c.sort_from.new.self.list)
    (subst (λ n. IsSortedByKey (λ (a : ActorId). a.0) nat_cmp (drop n c.sort_from.new.self.list)) c.len-start.ensures
    c.sort_from.ensures.sorted)
    (subst (λ n. IsPermutation (drop n c.loop-at.into.list) (drop n c.sort_from.new.self.list)) c.len-start.ensures c.sort_from.ensures.same)
    (rises_sorted (pairs_of c.args.nodes.now)) z.all in
    let all : c.sort_from.new.self.list ≡ c.args.into.now.list ++ due_at c.args.tick (sorted (pairs_of c.args.nodes.now)) =
    all_got c.args.tick (sorted (pairs_of c.args.nodes.now)) c.args.into.now.list c.loop-at.into.list c.sort_from.new.self.list
    c.loop-at.invariant.got
    (subst (λ n. take n c.sort_from.new.self.list ≡ take n c.loop-at.into.list) c.len-start.ensures c.sort_from.ensures.before) behind in
    let long = ap (λ (xs : List ActorId). length xs) all ∙ length-append c.args.into.now.list
    (due_at c.args.tick (sorted (pairs_of c.args.nodes.now))) in
    all

pub returns-clause-left : goal.returns-clause-left
returns-clause-left c =
    let z = take_end c.loop-at.nodes c.loop-at.invariant.sound.small c.loop-at.invariant.apart c.args.tick c.loop-at.at c.loop-at.left
    (sorted (pairs_of c.args.nodes.now)) (drop (length c.args.into.now.list) c.loop-at.into.list) c.loop-at-test.false
    c.loop-at.invariant.ahead in
    sym z.still ∙ c.loop-at.invariant.left

pub returns-clause-room : goal.returns-clause-room
returns-clause-room c =
    let z = take_end c.loop-at.nodes c.loop-at.invariant.sound.small c.loop-at.invariant.apart c.args.tick c.loop-at.at c.loop-at.left
    (sorted (pairs_of c.args.nodes.now)) (drop (length c.args.into.now.list) c.loop-at.into.list) c.loop-at-test.false
    c.loop-at.invariant.ahead in
    let none = z.none in
    omega (arith, none, c.sort_from.ensures.spare, c.loop-at.invariant.room)

pub returns-clause-free : goal.returns-clause-free
returns-clause-free c =
    let z = take_end c.loop-at.nodes c.loop-at.invariant.sound.small c.loop-at.invariant.apart c.args.tick c.loop-at.at c.loop-at.left
    (sorted (pairs_of c.args.nodes.now)) (drop (length c.args.into.now.list) c.loop-at.into.list) c.loop-at-test.false
    c.loop-at.invariant.ahead in
    let behind : drop (length c.args.into.now.list) c.sort_from.new.self.list ≡ due_at c.args.tick (sorted (pairs_of c.args.nodes.now)) =
    take_sorted c.args.tick (sorted (pairs_of c.args.nodes.now)) (drop (length c.args.into.now.list) c.loop-at.into.list)
    (drop (length c.args.into.now.list) c.sort_from.new.self.list)
    (subst (λ n. IsSortedByKey (λ (a : ActorId). a.0) nat_cmp (drop n c.sort_from.new.self.list)) c.len-start.ensures
    c.sort_from.ensures.sorted)
    (subst (λ n. IsPermutation (drop n c.loop-at.into.list) (drop n c.sort_from.new.self.list)) c.len-start.ensures c.sort_from.ensures.same)
    (rises_sorted (pairs_of c.args.nodes.now)) z.all in
    let all : c.sort_from.new.self.list ≡ c.args.into.now.list ++ due_at c.args.tick (sorted (pairs_of c.args.nodes.now)) =
    all_got c.args.tick (sorted (pairs_of c.args.nodes.now)) c.args.into.now.list c.loop-at.into.list c.sort_from.new.self.list
    c.loop-at.invariant.got
    (subst (λ n. take n c.sort_from.new.self.list ≡ take n c.loop-at.into.list) c.len-start.ensures c.sort_from.ensures.before) behind in
    let long = ap (λ (xs : List ActorId). length xs) all ∙ length-append c.args.into.now.list
    (due_at c.args.tick (sorted (pairs_of c.args.nodes.now))) in
    let none = z.none in
    omega (arith, long, none, c.loop-at.invariant.free, c.len.ensures, c.len-start.ensures)

pub returns-clause-apart : goal.returns-clause-apart
returns-clause-apart c = c.loop-at.invariant.apart
