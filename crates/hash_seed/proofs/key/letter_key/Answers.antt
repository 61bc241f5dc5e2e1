use Rattle.std.proofs.Common.{◌∙◌, List, ℕ, ap}
use Rattle.sha2.specs.Sha256.{sha256}
use Rattle.hash_seed.specs.declared.key.Key.{Key}
use Rattle.hash_seed.specs.Keys.{letter_key}
use Rattle.hash_seed.proofs.Pieces.{joined_6}
use Rattle.hash_seed.proofs.key.letter_key.Goals as goal

pub returns : goal.returns
unfolding letter_key
returns c =
    let seed = c.update.ensures _ c.new-hasher.ensures in
    let tick = c.update-2.ensures _ seed in
    let diasca = c.update-3.ensures _ tick in
    let recipient = c.update-4.ensures _ diasca in
    let sender = c.update-5.ensures _ recipient in
    let serial = c.update-6.ensures _ sender in
    let digest = c.finalize.ensures _ serial in
    let bytes = joined_6 _ _ _ _ _ _ _ _ _ _ _ _ c.to_be_bytes.ensures c.to_be_bytes-2.ensures c.to_be_bytes-3.ensures
    c.to_be_bytes-4.ensures c.to_be_bytes-5.ensures c.to_be_bytes-6.ensures in
    let key : List ℕ → Key = λ d. record { 0 = d } in
    ap key (digest ∙ ap sha256 bytes)
