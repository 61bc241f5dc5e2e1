-- The text of a run: a header, the samples by series, and an end line.
use Rattle.std.specs.Prelude.{ℕ, ◌+◌, List, [], ◌∷◌, ◌++◌, codes, if◌then◌else◌}
use Rattle.std.specs.Fmt.{decimal, signed_decimal}
use Rattle.std.specs.List.{flat_map}
use Rattle.sim_base.specs.declared.moment.Ending.{Ending}
use Rattle.sim_base.specs.declared.moment.Ending.TheVariants.{Exhausted, TickLimit, DiascaLimit, Fault}
use Rattle.sim_base.specs.declared.moment.Moment.{Moment}
use Rattle.sim_base.specs.declared.moment.Row.{Row}
use Rattle.sim_model.specs.declared.cast.Member.{Member}
use Rattle.sim_model.specs.declared.run.Results.{Results}
use Rattle.result_store.specs.Patterns.{series_name}
use Rattle.result_store.specs.RuleParts.{RuleParts}
use Rattle.result_store.specs.Rules.{keeps}
use Rattle.result_store.specs.Series.{rows_of_series}

abbrev pub header : List ℕ
header = codes "tick,diasca,actor,probe,value\n"

abbrev pub moment_text : Moment → List ℕ
moment_text at = decimal at.tick ++ codes "," ++ decimal at.diasca ++ codes ","

-- a sample, with the names of its actor and its probe
abbrev pub row_line : List ℕ → List ℕ → Row → List ℕ
row_line actor probe row = moment_text row.at ++ actor ++ codes "," ++ probe ++ codes "," ++ signed_decimal row.value ++ codes "\n"

-- a series of a member: its probe's number and name. Nothing, where the rules don't keep it
abbrev pub series_text : List RuleParts → List Row → Member → ℕ → List ℕ → List ℕ
series_text rules rows m n probe = if keeps rules (series_name m.name probe) then flat_map (row_line m.name probe) (rows_of_series m.id.0 n rows) else []

-- a member's series by these probes, the first of which has this number
abbrev pub series_from : List RuleParts → List Row → Member → ℕ → List (List ℕ) → List ℕ
series_from rules rows m n [] = []
series_from rules rows m n (probe ∷ probes) = series_text rules rows m n probe ++ series_from rules rows m (n + 1) probes

abbrev pub member_text : List RuleParts → List Row → Member → List ℕ
member_text rules rows m = series_from rules rows m 0 m.kind.probes

abbrev pub ending_text : Ending → List ℕ
ending_text Exhausted = codes "exhausted"
ending_text TickLimit = codes "tick_limit"
ending_text DiascaLimit = codes "diasca_limit"
ending_text (Fault actor code) = codes "fault:" ++ decimal actor.0 ++ codes ":" ++ decimal code

abbrev pub end_line : Moment → Ending → ℕ → List ℕ
end_line last ending dead = codes "end," ++ moment_text last ++ ending_text ending ++ codes "," ++ decimal dead ++ codes "\n"

-- the samples that the rules keep: by member, then by probe, then in the order of the rows
unfoldable pub text_of : List RuleParts → Results → List ℕ
text_of rules r = header ++ flat_map (member_text rules r.rows) r.cast ++ end_line r.last r.ending r.dead_letters
