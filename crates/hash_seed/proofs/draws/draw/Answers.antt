use Rattle.std.proofs.Common.{◌∙◌, ◌++◌, ◌∷◌, ◌%◌, [], List, ℕ, ap, take}
use Rattle.std.specs.Int.{w64, from_be_bytes}
use Rattle.sha2.specs.Sha256.{sha256}
use Rattle.hash_seed.specs.Draws.{draw}
use Rattle.hash_seed.proofs.Pieces.{joined_5}
use Rattle.hash_seed.proofs.draws.draw.Goals as goal

pub returns-clause-value : goal.returns-clause-value
unfolding draw
returns-clause-value c =
    let seed = c.update.ensures _ c.new-hasher.ensures in
    let tick = c.update-2.ensures _ seed in
    let diasca = c.update-3.ensures _ tick in
    let actor = c.update-4.ensures _ diasca in
    let k = c.update-5.ensures _ actor in
    let mark = c.update-6.ensures _ k in
    let digest = c.finalize-digest.ensures _ mark in
    let bytes = joined_5 _ _ _ _ _ _ _ _ _ _ c.to_be_bytes.ensures c.to_be_bytes-2.ensures c.to_be_bytes-3.ensures
    c.to_be_bytes-4.ensures c.to_be_bytes-5.ensures in
    let whole = digest ∙ ap (λ (m : List ℕ). sha256 (m ++ 0x44 ∷ [])) bytes in
    let first = c.copy_from_slice.ensures.after ∙ ap (take 8) whole in
    ap (λ (n : ℕ). n % c.args.bound) (c.from_be_bytes.ensures ∙ ap (from_be_bytes w64) first)
