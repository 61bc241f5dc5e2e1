use Rattle.std.proofs.Common.{◌≡◌, ◌*◌, ◌/◌, ◌∙◌, arith, length, refl, append_assoc}
use Rattle.std.proofs.lemmas.List.{map-append, take-append-drop}
use Rattle.hash_lanes.proofs.batch.put_fours.Goals as goal

pub returns : goal.returns
returns c =
    let done : 4 * c.fours.i ≡ 4 * (length c.args.letters.now / 4) = omega arith in
    let before = rw done at c.fours.invariant.0 in
    c.put_rest.ensures ∙ rw (before, append_assoc, ← map-append, take-append-drop) refl
