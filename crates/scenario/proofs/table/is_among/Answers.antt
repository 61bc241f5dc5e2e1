use Rattle.std.proofs.Common.{◌≡◌, ℕ, List, [], ◌∷◌, map, bytes_eq, ◌||◌, refl, ap, ◌∙◌}
use Rattle.std.specs.List.{list_any}
use Rattle.scenario.specs.Table.{is_among, is_named, row_of}
use Rattle.scenario.specs.declared.table.Field.{Field}
use Rattle.scenario.proofs.table.is_among.Goals as goal

any_among : (key : List ℕ) (fs : List Field) → list_any (is_named key) fs ≡ is_among (map row_of fs) key
any_among key [] = refl
any_among key (f ∷ fs) = ap (λ b. bytes_eq key f.0.now || b) (any_among key fs)

pub returns : goal.returns
returns c = c.is_any.ensures ∙ any_among c.args.key.now c.args.fields.now
