use Rattle.std.proofs.Common.{◌≡◌, ◌∷◌, [], true, false, pos, get_or, take, arith, refl, ◌∙◌, sym, add-one, cond, not}
use Rattle.std.proofs.Math.Seq.{take-suc}
use Rattle.std.proofs.lemmas.List.Sums.{sum_by-append}
use Rattle.std.specs.List.{count_by}
use Rattle.actor_trait.specs.declared.letter.Letter.{Letter}
use Rattle.inbox_store.specs.Letters.{list_of}
use Rattle.sim_model.specs.Moment.{is_alive}
use Rattle.local_manager.proofs.Placing.{alive_within}
use Rattle.local_manager.proofs.Puts.{part_more, put_dead, put_living}
use Rattle.local_manager.proofs.posting.put_living.Goals.{then-is_alive, else-is_alive}
use Rattle.local_manager.proofs.posting.put_living.Goals as goal

abbrev blank : Letter
blank = record { to = record { 0 = 0 }; from = record { 0 = 0 }; serial = 0; payload = record { code = 0; a = pos 0; b = pos 0 } }

pub put-requires-clause-known : goal.put-requires-clause-known
put-requires-clause-known g c =
    let l = get_or c.args.letters.now c.loop-letter.letter-index blank in
    omega (
      arith,
      c.requires.known,
      c.loop-letter.invariant.top,
      alive_within c.args.states.now l.to
          (sym c.is_alive.ensures ∙ c.if-is_alive.true),
    )

pub loop-letter-preserved : goal.loop-letter-preserved
loop-letter-preserved g c =
    let states = c.args.states.now in
    let ls = take c.loop-letter.letter-index c.args.letters.now in
    let l = get_or c.args.letters.now c.loop-letter.letter-index blank in
    let more = take-suc c.args.letters.now c.loop-letter.letter-index blank c.loop-letter-test.true in
    let sum = sum_by-append (λ (k : Letter). cond (not (is_alive states k.to)) 1 0) ls (l ∷ []) in
    elim c.if-is_alive.branch [
      | then-is_alive w ↦
          let lives : is_alive states l.to ≡ true = sym c.is_alive.ensures ∙ w.if-is_alive.true in
          let none : count_by (λ (k : Letter). not (is_alive states k.to)) (l ∷ []) ≡ 0 = rw lives refl in
          record {
            lists = rw (w.store-is, add-one, more) (λ to. put_living states c.loop-letter.store w.put.new.self l lives w.put.ensures.list w.put.ensures.others to
                ∙ part_more states to ls (l ∷ []) (list_of c.args.store.now to.0) (list_of c.loop-letter.store to.0) (c.loop-letter.invariant.lists to));
            room = rw w.store-is (omega (arith, w.put.ensures.spare, c.loop-letter.invariant.room));
            top = rw w.store-is (omega (arith, w.put.ensures.top, c.loop-letter.invariant.top));
            dead = rw (add-one, more) (omega (arith, c.loop-letter.invariant.dead, w.dead-is, sum, none));
            few = omega (arith, w.dead-is, c.loop-letter.invariant.few);
          }
      | else-is_alive w ↦
          let dies : is_alive states l.to ≡ false = sym c.is_alive.ensures ∙ w.if-is_alive.false in
          let one : count_by (λ (k : Letter). not (is_alive states k.to)) (l ∷ []) ≡ 1 = rw dies refl in
          record {
            lists = rw (w.store-is, add-one, more) (λ to. put_dead states c.loop-letter.store l dies to
                ∙ part_more states to ls (l ∷ []) (list_of c.args.store.now to.0) (list_of c.loop-letter.store to.0) (c.loop-letter.invariant.lists to));
            room = rw w.store-is (omega (arith, c.loop-letter.invariant.room));
            top = rw w.store-is c.loop-letter.invariant.top;
            dead = rw (add-one, more) (omega (arith, c.loop-letter.invariant.dead, w.dead-is, sum, one));
            few = omega (arith, w.dead-is, c.loop-letter.invariant.few);
          }
    ]
