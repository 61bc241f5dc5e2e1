use Rattle.std.proofs.Common.{ap, ◌≡◌, ◌∙◌, sym, subst, true, ◌==◌, length, vec_len, arith}
use Rattle.std.proofs.lemmas.Bool.Decides.{nat_tests}
use Rattle.std.proofs.lemmas.List.{nil_from_length}
use Rattle.std.specs.List.Sorted.{IsSortedBy}
use Rattle.probes.specs.LiveOrder.{comes_before, IsInLiveOrder}
use Rattle.tick_advance.specs.Log.{HasRows, LogParts, kept, log_of}
use Rattle.tick_advance.proofs.Rows.{all_alone, all_merged}
use Rattle.tick_advance.proofs.log.Log.merge.Goals as goal

pub returns-then-len-eq1-clause-rows : goal.returns-then-len-eq1-clause-rows
returns-then-len-eq1-clause-rows g c = λ rows h.
    let inside : LogParts = record { merged = c.self.inside.merged.items; buffers = c.self.inside.buffers.items; given = c.self.inside.given; keeps = g.S.Sieve.keeps c.self.inside.sieve } in
    let empty : (vec_len c.self.inside.merged == 0) ≡ true = sym c.is_empty.ensures ∙ c.if-is_empty.true in
    let none : length c.self.inside.merged.items ≡ 0 = grind (arith, nat_tests) in
    c.into_vec.ensures ∙ c.take.ensures.rows
    ∙ all_alone inside c.index_mut.result.now rows (nil_from_length c.self.inside.merged.items none) (omega arith) c.index_mut.ensures.value (subst (IsSortedBy comes_before) c.take.ensures.rows c.take.ensures.live) (subst (λ (l : LogParts). HasRows l rows) (sym (ap (log_of g.S.Sieve.keeps) c.self.view_is)) h)
    ∙ ap (λ (l : LogParts). kept l rows) (ap (log_of g.S.Sieve.keeps) c.self.view_is)

pub returns-clause-rows : goal.returns-clause-rows
returns-clause-rows g c = λ rows h.
    let inside : LogParts = record { merged = c.self.inside.merged.items; buffers = c.self.inside.buffers.items; given = c.self.inside.given; keeps = g.S.Sieve.keeps c.self.inside.sieve } in
    c.in_ok-append.ensures.ok ∙ all_merged inside c.in_ok-rows.rows rows (λ others live. c.in_ok-rows.ensures.only others (subst (λ bs. IsInLiveOrder bs others) (sym c.deref.ensures.value) live)) (subst (λ (l : LogParts). HasRows l rows) (sym (ap (log_of g.S.Sieve.keeps) c.self.view_is)) h)
    ∙ ap (λ (l : LogParts). kept l rows) (ap (log_of g.S.Sieve.keeps) c.self.view_is)
