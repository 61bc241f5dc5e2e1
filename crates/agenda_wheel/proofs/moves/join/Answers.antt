use Rattle.std.proofs.Common.{◌≡◌, ◌+◌, count_by, slice_set, slice_index_or, Some, sym, ap, ◌∙◌, subst, arith}
use Rattle.std.proofs.lemmas.List.{get_or_default, length-map}
use Rattle.agenda_wheel.specs.Kept.{is_free}
use Rattle.agenda_wheel.specs.Nodes.{nil, head_of}
use Rattle.agenda_wheel.specs.Slots.{sorted, Distinct}
use Rattle.agenda_wheel.specs.Wheel.{pair_at, pairs_of}
use Rattle.agenda_wheel.specs.declared.links.Node.{Node}
use Rattle.agenda_wheel.proofs.Freeing.{map_get}
use Rattle.agenda_wheel.proofs.Adding.{head_in, head_empty, sorted_more, more_apart, one_less}
use Rattle.agenda_wheel.proofs.moves.join.Goals as goal

pub fill-requires : goal.fill-requires
fill-requires c =
    let e : slice_index_or c.args.actors.now 0 0 ≡ head_of c.args.actors.now 0 =
    get_or_default c.args.actors.now 0 0 nil (omega (arith, c.requires.known)) in
    record {
      sound = c.requires.sound;
      empty = ap (pair_at c.args.nodes.now) e ∙ head_empty c.args.nodes.now c.args.ticks.now c.args.actors.now c.requires.sound c.requires.room;
      at_in = omega (arith, e, head_in c.args.nodes.now c.args.ticks.now c.args.actors.now c.requires.sound c.requires.room);
      known = c.requires.known;
    }

pub returns-clause-apart : goal.returns-clause-apart
returns-clause-apart c =
    let e : slice_index_or c.args.actors.now 0 0 ≡ head_of c.args.actors.now 0 =
    get_or_default c.args.actors.now 0 0 nil (omega (arith, c.requires.known)) in
    let w : pairs_of c.fill.new.nodes ≡ slice_set (pairs_of c.args.nodes.now) (head_of c.args.actors.now 0) (Some c.args.due) =
    c.fill.ensures.pairs ∙ ap (λ k. slice_set (pairs_of c.args.nodes.now) k (Some c.args.due)) e in
    let inside = head_in c.args.nodes.now c.args.ticks.now c.args.actors.now c.requires.sound c.requires.room in
    let empty = head_empty c.args.nodes.now c.args.ticks.now c.args.actors.now c.requires.sound c.requires.room in
    subst Distinct (sym w) (more_apart (pairs_of c.args.nodes.now) (head_of c.args.actors.now 0) c.args.due
    (omega (arith, inside, length-map c.args.nodes.now (λ (n : Node). n.pair))) (map_get c.args.nodes.now (head_of c.args.actors.now 0) ∙ empty)
    c.requires.apart (λ i q. c.requires.absent i (sym (map_get c.args.nodes.now i) ∙ q)))

pub returns-clause-pairs : goal.returns-clause-pairs
returns-clause-pairs c =
    let e : slice_index_or c.args.actors.now 0 0 ≡ head_of c.args.actors.now 0 =
    get_or_default c.args.actors.now 0 0 nil (omega (arith, c.requires.known)) in
    let w : pairs_of c.fill.new.nodes ≡ slice_set (pairs_of c.args.nodes.now) (head_of c.args.actors.now 0) (Some c.args.due) =
    c.fill.ensures.pairs ∙ ap (λ k. slice_set (pairs_of c.args.nodes.now) k (Some c.args.due)) e in
    let inside = head_in c.args.nodes.now c.args.ticks.now c.args.actors.now c.requires.sound c.requires.room in
    let empty = head_empty c.args.nodes.now c.args.ticks.now c.args.actors.now c.requires.sound c.requires.room in
    ap sorted w ∙ sorted_more (pairs_of c.args.nodes.now) (head_of c.args.actors.now 0) c.args.due
    (omega (arith, inside, length-map c.args.nodes.now (λ (n : Node). n.pair))) (map_get c.args.nodes.now (head_of c.args.actors.now 0) ∙ empty)

pub returns-clause-spare : goal.returns-clause-spare
returns-clause-spare c =
    let e : slice_index_or c.args.actors.now 0 0 ≡ head_of c.args.actors.now 0 =
    get_or_default c.args.actors.now 0 0 nil (omega (arith, c.requires.known)) in
    let w : pairs_of c.fill.new.nodes ≡ slice_set (pairs_of c.args.nodes.now) (head_of c.args.actors.now 0) (Some c.args.due) =
    c.fill.ensures.pairs ∙ ap (λ k. slice_set (pairs_of c.args.nodes.now) k (Some c.args.due)) e in
    let inside = head_in c.args.nodes.now c.args.ticks.now c.args.actors.now c.requires.sound c.requires.room in
    let empty = head_empty c.args.nodes.now c.args.ticks.now c.args.actors.now c.requires.sound c.requires.room in
    one_less (pairs_of c.args.nodes.now) (head_of c.args.actors.now 0) c.args.due
    (omega (arith, inside, length-map c.args.nodes.now (λ (n : Node). n.pair))) (map_get c.args.nodes.now (head_of c.args.actors.now 0) ∙ empty)
    ∙ ap (λ s. count_by is_free s + 1) (sym w)
