use Rattle.std.proofs.Common.{◌≡◌, ℕ, get_or, length, take}
use Rattle.quiet_core.specs.Rows.{below}
use Rattle.work_claims.specs.Letters.{parcels_to}
use Rattle.work_claims.proofs.sending.Sending.of_parcels.Given as goal

abbrev pub invariant-loop-parcel : goal.invariant-loop-parcel
invariant-loop-parcel g l = record {
  wide : length l.to ≡ 16;
  each : (n : ℕ) → get_or l.to n 0 ≡ parcels_to (g.W.Scene.placed l.world) n (take l.parcel-index l.parcels);
  total : below (λ n. get_or l.to n 0) (g.W.Scene.placed l.world).managers ≡ l.parcel-index;
}
