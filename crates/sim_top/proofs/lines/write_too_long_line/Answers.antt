use Rattle.std.proofs.Common.{◌≡◌, codes, refl}
use Rattle.sim_top.specs.Lines.{too_long_line}
use Rattle.sim_top.specs.declared.reading.Reading.{Reading}
use Rattle.sim_top.specs.declared.reading.Reading.TheVariants as reading
use Rattle.sim_top.proofs.lines.write_too_long_line.Goals as goal

line_is : (r : Reading) → too_long_line r ≡ codes "scenario: too long\n"
line_is reading.Scenario = refl

pub returns : goal.returns
returns g c = rw (line_is c.args.reading) c.write_piece.ensures
