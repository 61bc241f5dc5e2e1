use Rattle.std.proofs.Common.{◌≡◌, length, map, take, drop}
use Rattle.agenda.specs.Dues.{due_at, without_tick}
use Rattle.local_manager.proofs.lists.take_each.Given as goal

abbrev pub invariant-loop-m : goal.invariant-loop-m
invariant-loop-m g l = record {
  same : length l.lists ≡ length l.domains;
  long : length l.domains ≡ length l.fn.domains;
  rest : drop l.m l.domains ≡ drop l.m l.fn.domains;
  room : drop l.m l.lists ≡ drop l.m l.fn.lists;
  left : take l.m l.domains ≡ map (λ p. without_tick l.tick p) (take l.m l.fn.domains);
  taken : map (λ r. r.list) (take l.m l.lists) ≡ map (λ p. due_at l.tick p) (take l.m l.fn.domains);
}
