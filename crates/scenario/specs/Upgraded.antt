-- A scenario in format 2.
use Rattle.scenario.specs.ScenarioParts.{ScenarioParts}

-- its format is 2, and nothing else changes
abbrev pub upgraded : ScenarioParts → ScenarioParts
upgraded p = record p { format = 2 }
