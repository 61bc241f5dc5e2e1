use Rattle.std.proofs.Common.{◌≡◌, ◌≤◌, ◌∙◌, subst, ap, drop, length, arith}
use Rattle.std.proofs.lemmas.List.{take_rest}
use Rattle.tick_advance.specs.Log.{LogParts, kept, log_of}
use Rattle.tick_advance.proofs.Rows.{has_merged, ends_merged}
use Rattle.tick_advance.proofs.log.Log.fresh.Goals as goal

pub returns-in_err-fresh-clause-rows : goal.returns-in_err-fresh-clause-rows
returns-in_err-fresh-clause-rows g c = λ rows h.
    let given = subst (λ (l : LogParts). l.given ≤ length l.merged) (ap (log_of g.S.Sieve.keeps) c.self.view_is) c.self.invariant in
    has_merged (log_of g.S.Sieve.keeps c.args.self.now) (log_of g.S.Sieve.keeps c.merge.new.self) rows (c.in_ok-merge.ensures.rows rows h) c.in_ok-merge.ensures.buffers c.in_ok-merge.ensures.keeps given

pub returns-in_err-fresh-clause-later : goal.returns-in_err-fresh-clause-later
returns-in_err-fresh-clause-later g c = λ at before. ends_merged (log_of g.S.Sieve.keeps c.args.self.now) (log_of g.S.Sieve.keeps c.merge.new.self) at c.in_ok-merge.ensures.buffers

pub returns-clause-fresh : goal.returns-clause-fresh
returns-clause-fresh g c = λ rows h.
    let inside : c.in_ok-fresh.fresh.items ≡ drop c.self.inside.given c.self.inside.merged.items =
    c.in_ok-fresh.ensures.items_if_clones_equal (λ x y e. e) ∙ take_rest c.deref.result.now c.self.inside.given ∙ ap (drop c.self.inside.given) c.deref.ensures.value in
    let merged : c.self.inside.merged.items ≡ kept (log_of g.S.Sieve.keeps c.args.self.now) rows = ap (λ (l : LogParts). l.merged) (ap (log_of g.S.Sieve.keeps) c.self.view_is) ∙ c.in_ok-merge.ensures.rows rows h in
    let given : c.self.inside.given ≡ c.args.self.now.given = ap (λ (l : LogParts). l.given) (ap (log_of g.S.Sieve.keeps) c.self.view_is) ∙ c.in_ok-merge.ensures.given in
    c.of.ensures ∙ inside ∙ ap (λ n. drop n c.self.inside.merged.items) given ∙ ap (drop c.args.self.now.given) merged

pub returns-clause-rows : goal.returns-clause-rows
returns-clause-rows g c = λ rows h.
    let after : LogParts = record { merged = c.self.inside.merged.items; buffers = c.self.inside.buffers.items; given = c.len-self-inside.result; keeps = g.S.Sieve.keeps c.self.inside.sieve } in
    has_merged (log_of g.S.Sieve.keeps c.args.self.now) after rows
    (ap (λ (l : LogParts). l.merged) (ap (log_of g.S.Sieve.keeps) c.self.view_is) ∙ c.in_ok-merge.ensures.rows rows h)
    (ap (λ (l : LogParts). l.buffers) (ap (log_of g.S.Sieve.keeps) c.self.view_is) ∙ c.in_ok-merge.ensures.buffers)
    (ap (λ (l : LogParts). l.keeps) (ap (log_of g.S.Sieve.keeps) c.self.view_is) ∙ c.in_ok-merge.ensures.keeps)
    (omega arith)

pub returns-clause-given : goal.returns-clause-given
returns-clause-given g c = λ rows h.
    let merged : c.self.inside.merged.items ≡ kept (log_of g.S.Sieve.keeps c.args.self.now) rows = ap (λ (l : LogParts). l.merged) (ap (log_of g.S.Sieve.keeps) c.self.view_is) ∙ c.in_ok-merge.ensures.rows rows h in
    omega (arith, ap length merged)

pub returns-clause-later : goal.returns-clause-later
returns-clause-later g c = λ at before.
    let after : LogParts = record { merged = c.self.inside.merged.items; buffers = c.self.inside.buffers.items; given = c.len-self-inside.result; keeps = g.S.Sieve.keeps c.self.inside.sieve } in
    ends_merged (log_of g.S.Sieve.keeps c.args.self.now) after at (ap (λ (l : LogParts). l.buffers) (ap (log_of g.S.Sieve.keeps) c.self.view_is) ∙ c.in_ok-merge.ensures.buffers)
