use Rattle.std.proofs.Common.{◌≡◌, ℕ, ◌+◌, ◌*◌, ◌%◌, slice_index, slice_set, sym, refl, ap, ◌∙◌, arith}
use Rattle.sha2.proofs.Schedule256.{IsRoundsAt_at, rounds_window, window_word_place}
use Rattle.hash_lanes.specs.Lanes.{lane, words}
use Rattle.hash_lanes.proofs.LaneLemmas.{words-set}
use Rattle.hash_lanes.proofs.rounds.step.Goals as goal

pub returns : goal.returns
returns c j lt = λ b h held.
    let w = c.args.w.now in
    let t = 16 * c.args.turn + c.args.place in
    let word = c.next_word-word.result in
    let place : t % 16 ≡ c.args.place = omega arith in
    let window =
    ap (words j) c.next_word-word.ensures.window ∙ words-set w j c.args.place word
    ∙ ap (λ (p : ℕ). slice_set (words j w) p (slice_index word j)) (sym place) in
    let next = c.next_word-word.ensures.value j lt ∙ window_word_place (words j w) c.args.turn c.args.place in
    IsRoundsAt_at b h _ _ _ _ (omega arith)
    (rounds_window b h (words j w) (lane j c.args.v) t _ (slice_index word j) _ _ (omega arith) (omega arith) held.0 held.1
    next window refl (c.round.ensures j lt))
