use Rattle.std.proofs.Common.{◌≡◌, ◌+◌, ◌-◌, ◌≤◌, length, drop, arith, sym, ap, ◌∙◌}
use Rattle.std.proofs.lemmas.List.{drop_all}
use Rattle.sim_base.proofs.Given.{given}
use Rattle.sim_base.proofs.bytes_in.SteadyInSource.take.Goals as goal

pub returns-clause-bytes : goal.returns-clause-bytes
returns-clause-bytes c =
    let at = c.self.inside.at in
    let n = c.min-count.result in
    let xs = c.self.inside.bytes in
    let fits : at + n ≤ length xs = omega (arith, c.min-count.ensures, c.min.ensures, c.len.ensures, c.self.invariant) in
    let same : (at + n) - at ≡ n = omega arith in
    let left : c.args.self.now.left ≡ drop at xs = ap (λ f. f.left) (sym c.self.view_is) in (
      left ∙ given xs c.args.into.now _ at n fits (rw (c.as_slice.ensures, same) at c.copy_from_slice.ensures.after),
      λ none. let all : length xs ≤ at + n = omega (arith, none, c.requires, c.min-count.ensures, c.min.ensures, c.len.ensures, c.self.invariant) in drop_all _ _ all,
    )
