-- What each status says.
use Rattle.std.specs.Prelude.{◌≡◌, ◌≢◌, ◌⊎◌, ℕ, ◌+◌, ◌<◌, ◌≤◌, nat_lt, if◌then◌else◌, List, [], drop, length, take, codes, Option, None, Some, Result, Ok, Err, is_err, true}
use Rattle.std.specs.Io.KnownBytes.{Appends}
use Rattle.sim_base.specs.Outside.{TakesWithin, one_more}
use Rattle.sim_base.specs.declared.status.Status.{Status}
use Rattle.sim_base.specs.declared.status.Status.TheVariants as status
use Rattle.quiescence.specs.Rounds.{no_rounds}
use Rattle.scenario.specs.AnyActors.{any_meaning}
use Rattle.scenario.specs.Format.{scenario_of}
use Rattle.scenario.specs.Generated.{generated}
use Rattle.scenario.specs.ScenarioParts.{ScenarioParts}
use Rattle.tick_advance.specs.RoundsOf.{rounds_of}
use Rattle.sim_top.specs.Lines.{refusal_line, too_long_line, words_line}
use Rattle.sim_top.specs.Statuses.{MayWrite, WritesNothing}
use Rattle.sim_top.specs.Tasks.{answer, limit, reads}
use Rattle.sim_top.specs.Verdicts.{Ends, InputStays, OutputStays}
use Rattle.sim_top.specs.declared.answer.Answer.{Answer}
use Rattle.sim_top.specs.declared.reading.InputRefusal.{InputRefusal}
use Rattle.sim_top.specs.declared.reading.Reading.{Reading}
use Rattle.sim_top.specs.declared.top.Ran.{Ran}
use Rattle.sim_top.specs.declared.words.Command.{Command}
use Rattle.sim_top.specs.declared.words.Command.TheVariants as command
use Rattle.sim_top.specs.declared.words.Order.{Order}
use Rattle.sim_top.specs.declared.words.WordsRefusal.{WordsRefusal}

-- the words are refused exactly at this status, and then neither end was touched
pub record WordsRefusedFirst {S O : Type 0} (order : Result Order WordsRefusal) (e : Ends S O) (st : Status) : Type 0 where
  pub only : st ≡ status.WordsRefused → is_err order ≡ true
  pub always : is_err order ≡ true → st ≡ status.WordsRefused
  pub input_untouched : st ≡ status.WordsRefused → InputStays e
  pub output_untouched : st ≡ status.WordsRefused → OutputStays e

-- an end fails exactly at this status: its count then rises by one, which stops at the end of its type, and else stays
pub record FailsExactly (fault st : Status) (before after : ℕ) : Type 0 where
  pub rises : st ≡ fault → after ≡ one_more before
  pub stays : st ≢ fault → after ≡ before

-- an order that reads nothing leaves the input as it was, and has no status that comes of it
pub record LeavesInput {S O : Type 0} (e : Ends S O) (st : Status) : Type 0 where
  pub untouched : InputStays e
  pub no_fault : st ≢ status.InputFault
  pub no_refusal : st ≢ status.ScenarioRefused

-- an input that is told is refused exactly where it is too long or its bytes are
pub record InputRefusedExactly (o : Order) (reading : Reading) (bytes : List ℕ) (left : Option (List ℕ)) (st : Status) : Type 0 where
  pub only : st ≡ status.ScenarioRefused → (limit reading < length bytes) ⊎ (is_err (answer o bytes) ≡ true)
  pub too_long : limit reading < length bytes → st ≡ status.ScenarioRefused
  pub refused : is_err (answer o bytes) ≡ true → st ≡ status.ScenarioRefused
  pub one_past : st ≡ status.ScenarioRefused → limit reading < length bytes → left ≡ Some (drop (limit reading + 1) bytes)
  pub nothing_left : st ≡ status.ScenarioRefused → length bytes ≤ limit reading → left ≡ Some []

-- how much is taken of an input where not all of it is read
pub record TakesNoMore (reading : Reading) (before after : Option (List ℕ)) (st : Status) : Type 0 where
  pub input_fault : st ≡ status.InputFault → TakesWithin before after (limit reading)
  pub no_memory : st ≡ status.NoMemory → TakesWithin before after (limit reading + 1)

-- what is left of an input that is told: nothing, or all of it where nothing is read
abbrev pub rest_of : Option Reading → List ℕ → List ℕ
rest_of None bytes = bytes
rest_of (Some reading) bytes = []

-- the words are an order, the input is read to its end, and this is the answer to the bytes that it had
pub record IsAnswer (order : Result Order WordsRefusal) (bytes : List ℕ) (left : Option (List ℕ)) (a : Answer) : Type 0 where
  pub asked : Order
  pub words_fit : order ≡ Ok asked
  pub is : answer asked bytes ≡ Ok a
  pub nothing_left : left ≡ Some (rest_of (reads asked) bytes)

-- an ending: the whole answer is written
pub record GivesAnswer (order : Result Order WordsRefusal) (bytes : List ℕ) (left written written_after : Option (List ℕ)) (r : Ran) : Type 0 where
  pub a : Answer
  pub input : IsAnswer order bytes left a
  pub output : Appends written written_after a.text
  pub same_status : r.status ≡ a.status
  pub same_rounds : r.rounds ≡ a.rounds

-- an output fault: a front of the answer is written, and not all of it
pub record GivesFront (order : Result Order WordsRefusal) (bytes : List ℕ) (left written written_after : Option (List ℕ)) (r : Ran) : Type 0 where
  pub a : Answer
  pub input : IsAnswer order bytes left a
  pub count : ℕ
  pub part : count < length a.text
  pub output : Appends written written_after (take count a.text)
  pub same_rounds : r.rounds ≡ a.rounds

-- why bytes within the limit are refused
abbrev pub line_of_refusal : Result Answer InputRefusal → List ℕ
line_of_refusal (Ok a) = []
line_of_refusal (Err r) = refusal_line r

abbrev pub line_of_input : Order → Reading → List ℕ → List ℕ
line_of_input o reading bytes = if nat_lt (limit reading) (length bytes) then too_long_line reading else line_of_refusal (answer o bytes)

-- the line of each status but those of an ending, where `tries` says that a line is tried
pub record TriesErrorLine (order : Result Order WordsRefusal) (left : Option (List ℕ)) (st : Status) (tries : List ℕ → Type 0) : Type 0 where
  pub words : (r : WordsRefusal) → order ≡ Err r → tries (words_line r)
  pub input : (o : Order) (reading : Reading) (bytes : List ℕ) → order ≡ Ok o → reads o ≡ Some reading → left ≡ Some bytes
      → st ≡ status.ScenarioRefused → tries (line_of_input o reading bytes)
  pub input_fault : st ≡ status.InputFault → tries (codes "input fault\n")
  pub output_fault : st ≡ status.OutputFault → tries (codes "output fault\n")
  pub no_memory : st ≡ status.NoMemory → tries (codes "no memory\n")

-- bytes that an order may be given whole
abbrev pub Fits : Option Reading → List ℕ → Type 0
Fits None bytes = Unit {0}
Fits (Some reading) bytes = length bytes ≤ limit reading

-- the commands that run nothing
abbrev pub RunsNothing : Command → Type 0
RunsNothing command.Run = ⊥
RunsNothing command.Live = ⊥
RunsNothing (command.Gen n) = ⊥
RunsNothing command.Check = Unit {0}
RunsNothing command.Plan = Unit {0}
RunsNothing command.Upgrade = Unit {0}
RunsNothing command.Help = Unit {0}
RunsNothing command.Version = Unit {0}

-- the rounds that were closed: those of the run that is told, whole or a front of it, which are one for each of its
-- moments at which somebody is scheduled; and none in any other case
pub record ClosesRounds (order : Result Order WordsRefusal) (left : Option (List ℕ)) (r : Ran) : Type 0 where
  pub of_run : (o : Order) (bytes : List ℕ) (s : ScenarioParts) → order ≡ Ok o → o.command ≡ command.Run → left ≡ Some bytes → scenario_of bytes ≡ Ok s
      → MayWrite r.status → r.rounds ≡ rounds_of any_meaning s.setup
  pub of_gen : (o : Order) (n : ℕ) → order ≡ Ok o → o.command ≡ command.Gen n → MayWrite r.status → r.rounds ≡ rounds_of any_meaning (generated n).setup
  pub of_other_commands : (o : Order) → order ≡ Ok o → RunsNothing o.command → r.rounds ≡ no_rounds
  pub of_other_statuses : WritesNothing r.status → r.rounds ≡ no_rounds
