use Rattle.std.proofs.Common.{◌≡◌, ◌≤◌, ◌++◌, ◌+◌, map, take, vec_len, vec_capacity}
use Rattle.probes.specs.Kept.{kept_by}
use Rattle.probes.specs.LiveOrder.{row_of}
use Rattle.probes.proofs.buffer.append_kept.Given as goal

abbrev pub invariant-loop-sample : goal.invariant-loop-sample
invariant-loop-sample g l = record {
  rows : l.rows.items ≡ l.initial.rows.items ++ map (row_of l.at l.id) (kept_by (g.S.Sieve.keeps l.sieve) l.id (take l.sample-index l.samples));
  len : vec_len l.rows ≤ vec_len l.initial.rows + l.sample-index;
  capacity : vec_capacity l.rows ≡ vec_capacity l.initial.rows;
}
