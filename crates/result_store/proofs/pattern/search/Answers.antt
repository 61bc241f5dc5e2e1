use Rattle.std.proofs.Common.{◌≢◌, ◌+◌, ◌<◌, ◌≤◌, length, drop, get_or, arith, refl, below_more, sym, ◌∙◌, ap, ◌-◌, ◌==◌, subst, false}
use Rattle.std.proofs.lemmas.List.{take_all, length-drop}
use Rattle.std.specs.List.{list_all}
use Rattle.result_store.specs.Patterns.{star}
use Rattle.result_store.specs.Turns.{IsTurn}
use Rattle.result_store.specs.declared.pattern.Turn.TheVariants as turn
use Rattle.result_store.proofs.Parts.{matches-is}
use Rattle.result_store.proofs.Search.{along, star_turn, same_turn, back_turn, no_turn, last_turn}
use Rattle.result_store.proofs.pattern.search.Goals as goal

pub bytes-preserved-in-Star : goal.bytes-preserved-in-Star
bytes-preserved-in-Star c =
    let i = c.bytes.invariant in
    let within : c.bytes.read < length c.args.text.now = omega (arith, c.len.ensures) in
    record {
      in_pattern = omega (arith, c.in-Star.ensures.0);
      in_text = i.in_text;
      behind = omega arith;
      taken = omega arith;
      aligned = refl;
      plain = λ j from to. absurd (omega arith);
      same = along i.same (star_turn c.args.pattern.now c.args.text.now c.bytes.at c.bytes.read c.bytes.after c.bytes.taken c.in-Star.ensures.0 c.in-Star.ensures.1 within i.behind i.aligned i.plain);
    }

pub bytes-preserved-in-Same : goal.bytes-preserved-in-Same
bytes-preserved-in-Same c =
    let i = c.bytes.invariant in
    let within : c.bytes.read < length c.args.text.now = omega (arith, c.len.ensures) in
    record {
      in_pattern = omega (arith, c.in-Same.ensures.0);
      in_text = omega arith;
      behind = omega (arith, i.behind);
      taken = omega (arith, i.taken);
      aligned = omega (arith, i.aligned);
      plain = λ j from to. below_more (λ j. c.bytes.after ≤ j → get_or c.args.pattern.now j 0 ≢ star) c.bytes.at (λ j h from. i.plain j from h) (λ from. c.in-Same.ensures.1) j to from;
      same = along i.same (same_turn c.args.pattern.now c.args.text.now c.bytes.at c.bytes.read c.bytes.after c.bytes.taken c.in-Same.ensures.0 c.in-Same.ensures.1 (c.in-Same.ensures.2 ∙ c.byte.ensures) within);
    }

pub bytes-preserved : goal.bytes-preserved
bytes-preserved c =
    let i = c.bytes.invariant in
    let within : c.bytes.read < length c.args.text.now = omega (arith, c.len.ensures) in
    let some : 0 < c.bytes.after = omega arith in
    let fits : c.bytes.taken + 1 ≤ length c.args.text.now = omega (arith, i.taken) in
    record {
      in_pattern = omega (arith, i.in_pattern, i.behind);
      in_text = fits;
      behind = omega arith;
      taken = omega arith;
      aligned = refl;
      plain = λ j from to. absurd (omega arith);
      same = along i.same (back_turn c.args.pattern.now c.args.text.now c.bytes.at c.bytes.read c.bytes.after c.bytes.taken within (subst (IsTurn turn.Apart c.args.pattern.now c.bytes.at) c.byte.ensures c.in-Apart.ensures) some fits);
    }

pub returns : goal.returns
returns c =
    let i = c.bytes.invariant in
    let over : length c.args.text.now ≤ c.bytes.read = omega (arith, c.len.ensures) in
    let last = along i.same (last_turn c.args.pattern.now c.args.text.now c.bytes.at c.bytes.read c.bytes.after c.bytes.taken over i.in_text i.in_pattern i.behind i.aligned i.plain) in
    let all = take_all (length c.args.pattern.now - c.bytes.at) (drop c.bytes.at c.args.pattern.now) (omega (arith, length-drop c.bytes.at c.args.pattern.now)) in
    let stars = c.are_stars.ensures ∙ ap (list_all (λ b. b == star)) all in
    matches-is _ c.args.pattern.now c.args.text.now (λ h. last.1 (sym stars ∙ h), λ m. stars ∙ last.0 m)

pub returns-then-after-eq0 : goal.returns-then-after-eq0
returns-then-after-eq0 c =
    let i = c.bytes.invariant in
    let within : c.bytes.read < length c.args.text.now = omega (arith, c.len.ensures) in
    let apart = subst (IsTurn turn.Apart c.args.pattern.now c.bytes.at) c.byte.ensures c.in-Apart.ensures in
    matches-is false c.args.pattern.now c.args.text.now
    (λ h. absurd (cc), λ m. absurd (no_turn c.args.pattern.now c.args.text.now c.bytes.at c.bytes.read c.bytes.after c.bytes.taken within apart (omega arith) (i.same.0 m)))
