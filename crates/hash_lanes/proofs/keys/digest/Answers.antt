use Rattle.std.proofs.Common.{◌≡◌, ◌+◌, ◌-◌, ◌*◌, ◌∙◌, ap, refl, sym, arith}
use Rattle.std.proofs.lemmas.List.{take_all}
use Rattle.sha2.specs.Sha256.{digest_bytes}
use Rattle.sha2.proofs.Absorbing256.{digest_more}
use Rattle.hash_lanes.proofs.keys.digest.Goals as goal
use borrow.Rule.Slice.PartMut.{same_len_mid}

pub words-init : goal.words-init
unfolding digest_bytes
words-init c = (refl, refl)

pub words-preserved : goal.words-preserved
words-preserved c = (
  same_len_mid _ _ _ _ c.copy_from_slice.auto.self ∙ c.words.invariant.0,
  digest_more c.words.out c.args.h c.copy_from_slice.new.self c.words.i (4 * c.words.i + 4 - 4 * c.words.i) c.words.invariant.1
      (omega (arith, c.words-test.array_long)) (c.copy_from_slice.ensures.after ∙ c.to_be_bytes.ensures),
)

pub returns : goal.returns
returns c =
    let done : c.words.i ≡ 8 = omega arith in
    sym (take_all (4 * c.words.i) c.words.out (omega (arith, c.words.invariant.0))) ∙ c.words.invariant.1 ∙ ap (digest_bytes c.args.h) done
