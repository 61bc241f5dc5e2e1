-- The status of a call, and the line that it tries on the error sink.
use Rattle.std.specs.Prelude.{◌≡◌, ◌⊎◌, ℕ, List, ◌++◌, codes, length, take, Option, Some, None}
use Rattle.std.specs.Fmt.{decimal}
use Rattle.std.specs.Io.KnownBytes.{Appends}
use Rattle.sim_base.specs.Outside.{one_more}
use Rattle.sim_base.specs.declared.status.Status.{Status}
use Rattle.sim_base.specs.declared.status.Status.TheVariants as status
use Rattle.scenario.specs.RefusalLine.{scenario_line}
use Rattle.quiescence.specs.Rounds.{RoundSums, no_rounds}
use Rattle.sim_top.specs.declared.reading.InputRefusal.{InputRefusal}
use Rattle.sim_top.specs.declared.reading.InputRefusal.TheVariants as refusal
use Rattle.sim_top.specs.declared.reading.Reading.{Reading}
use Rattle.sim_top.specs.declared.reading.Reading.TheVariants as reading
use Rattle.sim_top.specs.declared.top.Ran.{Ran}
use Rattle.sim_top.specs.declared.verdict.Verdict.{Verdict}
use Rattle.sim_top.specs.declared.verdict.Verdict.TheVariants.{Ended, Words, Refused, TooLong, InputFault, OutputFault, NoMemory}
use Rattle.sim_top.specs.declared.words.WordsCause.{WordsCause}
use Rattle.sim_top.specs.declared.words.WordsCause.TheVariants as cause
use Rattle.sim_top.specs.declared.words.WordsRefusal.{WordsRefusal}

-- ---- refused words

abbrev pub cause_text : WordsCause → List ℕ
cause_text cause.NoCommand = codes "no command"
cause_text cause.UnknownCommand = codes "unknown command"
cause_text cause.UnknownOption = codes "unknown option"
cause_text cause.Repeated = codes "option twice"
cause_text cause.NoValue = codes "value missing"
cause_text cause.BadNumber = codes "not a number"
cause_text cause.OutOfRange = codes "out of range"
cause_text cause.UnknownPolicy = codes "unknown policy"

abbrev pub words_line : WordsRefusal → List ℕ
words_line r = codes "words: " ++ decimal r.place ++ codes ": " ++ cause_text r.cause ++ codes "\n"

-- ---- refused input

abbrev pub refusal_line : InputRefusal → List ℕ
refusal_line (refusal.Scenario r) = scenario_line r

abbrev pub too_long_line : Reading → List ℕ
too_long_line reading.Scenario = codes "scenario: too long\n"

-- ---- verdicts

abbrev pub ran : Status → RoundSums → Ran
ran status rounds = record { status = status; rounds = rounds }

-- what a call answers that came to this
abbrev pub ran_for : Verdict → Ran
ran_for (Ended s rounds) = ran s rounds
ran_for (Words r) = ran status.WordsRefused no_rounds
ran_for (Refused r) = ran status.ScenarioRefused no_rounds
ran_for (TooLong reading) = ran status.ScenarioRefused no_rounds
ran_for InputFault = ran status.InputFault no_rounds
ran_for (OutputFault rounds) = ran status.OutputFault rounds
ran_for NoMemory = ran status.NoMemory no_rounds

-- a command that ended has no line
abbrev pub line_for : Verdict → Option (List ℕ)
line_for (Ended s rounds) = None
line_for (Words r) = Some (words_line r)
line_for (Refused r) = Some (refusal_line r)
line_for (TooLong reading) = Some (too_long_line reading)
line_for InputFault = Some (codes "input fault\n")
line_for (OutputFault rounds) = Some (codes "output fault\n")
line_for NoMemory = Some (codes "no memory\n")

-- a front of the line was written: all of it, and the sink didn't fail, or it failed
pub record Tries (before after : Option (List ℕ)) (faults_before faults_after : ℕ) (line : List ℕ) : Type 0 where
  pub count : ℕ
  pub wrote : Appends before after (take count line)
  pub whole : ((count ≡ length line) × (faults_after ≡ faults_before)) ⊎ (faults_after ≡ one_more faults_before)

-- where there is a line it is tried, else the sink is as it was
abbrev pub Told : {E : Type 0} → (E → Option (List ℕ)) → (E → ℕ) → E → E → Option (List ℕ) → Type 0
Told written faults before after None = after ≡ before
Told written faults before after (Some line) = Tries (written before) (written after) (faults before) (faults after) line
