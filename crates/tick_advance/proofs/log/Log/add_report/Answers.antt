use Rattle.std.proofs.Common.{◌≡◌, ◌++◌, ◌<◌, List, length, map, set, ap, OnOk, refl, sym, subst}
use Rattle.sim_base.specs.declared.moment.Row.{Row}
use Rattle.actor_trait.specs.declared.outcome.Sample.{Sample}
use Rattle.probes.specs.Kept.{kept_by}
use Rattle.probes.specs.LiveOrder.{row_of}
use Rattle.tick_advance.specs.Log.{EndsBelow, HasRows, LogParts, log_of}
use Rattle.tick_advance.proofs.Rows.{below_added, ends_at, rows_added}
use Rattle.tick_advance.proofs.log.Log.add_report.Goals as goal

pub add_kept-requires : goal.add_kept-requires
add_kept-requires g c =
    let inside : LogParts = record { merged = c.self.inside.merged.items; buffers = c.self.inside.buffers.items; given = c.self.inside.given; keeps = g.S.Sieve.keeps c.self.inside.sieve } in
    let within = subst (λ (l : LogParts). c.args.manager < length l.buffers) (sym (ap (log_of g.S.Sieve.keeps) c.self.view_is)) c.requires.manager in
    let below = subst (λ (l : LogParts). EndsBelow l c.args.at c.args.report.now.id.0) (sym (ap (log_of g.S.Sieve.keeps) c.self.view_is)) c.requires.later in
    ends_at inside c.args.manager c.args.at c.args.report.now.id c.index_mut.result.now within c.index_mut.ensures.value below

pub returns-clause-rows : goal.returns-clause-rows
returns-clause-rows g c =
    let inside : LogParts = record { merged = c.self.inside.merged.items; buffers = c.self.inside.buffers.items; given = c.self.inside.given; keeps = g.S.Sieve.keeps c.self.inside.sieve } in
    let after : LogParts = record { merged = c.self.inside.merged.items; buffers = set c.self.inside.buffers.items c.args.manager c.add_kept.new.self; given = c.self.inside.given; keeps = g.S.Sieve.keeps c.self.inside.sieve } in
    let within = subst (λ (l : LogParts). c.args.manager < length l.buffers) (sym (ap (log_of g.S.Sieve.keeps) c.self.view_is)) c.requires.manager in
    let below = subst (λ (l : LogParts). EndsBelow l c.args.at c.args.report.now.id.0) (sym (ap (log_of g.S.Sieve.keeps) c.self.view_is)) c.requires.later in
    let added =
    subst (λ (ss : List Sample). OnOk c.add_kept.result (c.add_kept.new.self ≡ c.index_mut.result.now ++ map (row_of c.args.at c.args.report.now.id) (kept_by (g.S.Sieve.keeps c.self.inside.sieve) c.args.report.now.id ss))) c.as_slice-samples.ensures c.add_kept.ensures.ok in
    subst
    (λ (l : LogParts). OnOk c.add_kept.result ((rows : List Row) → HasRows l rows → HasRows after (rows ++ map (row_of c.args.at c.args.report.now.id) c.args.report.now.outcome.samples)))
    (ap (log_of g.S.Sieve.keeps) c.self.view_is)
    (rows_added inside after c.args.manager c.args.at c.args.report.now.id c.index_mut.result.now c.add_kept.new.self c.args.report.now.outcome.samples within below
    c.index_mut.ensures.value refl c.add_kept.result added refl refl refl)

pub returns-clause-later : goal.returns-clause-later
returns-clause-later g c =
    let inside : LogParts = record { merged = c.self.inside.merged.items; buffers = c.self.inside.buffers.items; given = c.self.inside.given; keeps = g.S.Sieve.keeps c.self.inside.sieve } in
    let after : LogParts = record { merged = c.self.inside.merged.items; buffers = set c.self.inside.buffers.items c.args.manager c.add_kept.new.self; given = c.self.inside.given; keeps = g.S.Sieve.keeps c.self.inside.sieve } in
    let within = subst (λ (l : LogParts). c.args.manager < length l.buffers) (sym (ap (log_of g.S.Sieve.keeps) c.self.view_is)) c.requires.manager in
    let below = subst (λ (l : LogParts). EndsBelow l c.args.at c.args.report.now.id.0) (sym (ap (log_of g.S.Sieve.keeps) c.self.view_is)) c.requires.later in
    below_added inside after c.args.manager c.args.at c.args.report.now.id c.index_mut.result.now c.add_kept.new.self c.as_slice-samples.result.now within below
    c.index_mut.ensures.value refl c.add_kept.result c.add_kept.ensures.ok c.add_kept.ensures.err
