-- What a call may come to, and what it then has done to its input and its output.
use Rattle.std.specs.Prelude.{◌≡◌, ℕ, ◌+◌, ◌<◌, ◌≤◌, List, [], length, take, Option, Some, None, Result, Ok, Err}
use Rattle.std.specs.Io.KnownBytes.{Consumes, Appends, IsAtEnd}
use Rattle.sim_base.specs.Outside.{TakesExactly, TakesWithin, one_more}
use Rattle.sim_top.specs.Statuses.{IsEnding}
use Rattle.sim_top.specs.Tasks.{answer, limit, reads}
use Rattle.sim_top.specs.declared.answer.Answer.{Answer}
use Rattle.sim_top.specs.declared.reading.Reading.{Reading}
use Rattle.sim_top.specs.declared.verdict.Verdict.{Verdict}
use Rattle.sim_top.specs.declared.verdict.Verdict.TheVariants.{Ended, Words, Refused, TooLong, InputFault, OutputFault, NoMemory}
use Rattle.sim_top.specs.declared.words.Order.{Order}
use Rattle.sim_top.specs.declared.words.WordsRefusal.{WordsRefusal}

-- ---- the two ends of a call

-- the input and the output that a call was lent, before and after it; what each tells, and how often it has failed
pub record Ends (S O : Type 0) : Type 0 where
  pub left : S → Option (List ℕ)
  pub input_faults : S → ℕ
  pub written : O → Option (List ℕ)
  pub output_faults : O → ℕ
  pub input_before : S
  pub input_after : S
  pub output_before : O
  pub output_after : O

abbrev pub ends : {S O : Type 0} → (S → Option (List ℕ)) → (S → ℕ) → (O → Option (List ℕ)) → (O → ℕ) → S → S → O → O → Ends S O
ends left input_faults written output_faults input_before input_after output_before output_after = record {
  left = left;
  input_faults = input_faults;
  written = written;
  output_faults = output_faults;
  input_before = input_before;
  input_after = input_after;
  output_before = output_before;
  output_after = output_after;
}

abbrev pub InputStays : {S O : Type 0} → Ends S O → Type 0
InputStays e = e.input_after ≡ e.input_before

abbrev pub OutputStays : {S O : Type 0} → Ends S O → Type 0
OutputStays e = e.output_after ≡ e.output_before

-- the input didn't fail, and it did
abbrev pub InputSound : {S O : Type 0} → Ends S O → Type 0
InputSound e = e.input_faults e.input_after ≡ e.input_faults e.input_before

abbrev pub InputFails : {S O : Type 0} → Ends S O → Type 0
InputFails e = e.input_faults e.input_after ≡ one_more (e.input_faults e.input_before)

-- at most so many bytes were taken
abbrev pub TakesUpTo : {S O : Type 0} → Ends S O → ℕ → Type 0
TakesUpTo e most = TakesWithin (e.left e.input_before) (e.left e.input_after) most

-- ---- the input

-- all that the input had left was read, within the limit, and it didn't fail
pub record ReadsAll {S O : Type 0} (e : Ends S O) (reading : Reading) (bytes : List ℕ) : Type 0 where
  pub taken : Consumes (e.left e.input_before) (e.left e.input_after) bytes
  pub at_end : IsAtEnd (e.left e.input_after)
  pub fits : length bytes ≤ limit reading
  pub sound : InputSound e

-- one byte past the limit was taken, and no more
pub record ReadsPast {S O : Type 0} (e : Ends S O) (reading : Reading) : Type 0 where
  pub taken : TakesExactly (e.left e.input_before) (e.left e.input_after) (limit reading + 1)
  pub sound : InputSound e

-- what an order is given: all of the input, or, where it reads nothing, no byte
abbrev pub Gets : {S O : Type 0} → Ends S O → Option Reading → List ℕ → Type 0
Gets e None bytes = InputStays e × (bytes ≡ [])
Gets e (Some reading) bytes = ReadsAll e reading bytes

-- what was taken where memory was wanted
abbrev pub TakesSome : {S O : Type 0} → Ends S O → Option Reading → Type 0
TakesSome e None = InputStays e
TakesSome e (Some reading) = TakesUpTo e (limit reading + 1) × InputSound e

-- ---- the output

-- the whole answer was written, and the output didn't fail
pub record WritesAll {O : Type 0} (written : O → Option (List ℕ)) (faults : O → ℕ) (before after : O) (text : List ℕ) : Type 0 where
  pub appends : Appends (written before) (written after) text
  pub sound : faults after ≡ faults before

-- the output failed when a front of the answer was written, and not all of it
pub record WritesFront {O : Type 0} (written : O → Option (List ℕ)) (faults : O → ℕ) (before after : O) (text : List ℕ) : Type 0 where
  pub count : ℕ
  pub part : count < length text
  pub appends : Appends (written before) (written after) (take count text)
  pub fails : faults after ≡ one_more (faults before)

-- what an order came to that was given these bytes
abbrev pub Answers : {O : Type 0} → Order → List ℕ → (O → Option (List ℕ)) → (O → ℕ) → O → O → Verdict → Type 0
Answers o bytes written faults before after (Ended status rounds) =
    (a : Answer) × (answer o bytes ≡ Ok a) × WritesAll written faults before after a.text × (status ≡ a.status) × (rounds ≡ a.rounds) × IsEnding status
Answers o bytes written faults before after (OutputFault rounds) =
    (a : Answer) × (answer o bytes ≡ Ok a) × WritesFront written faults before after a.text × (rounds ≡ a.rounds)
Answers o bytes written faults before after (Refused r) = (answer o bytes ≡ Err r) × (after ≡ before)
Answers o bytes written faults before after NoMemory = after ≡ before
Answers o bytes written faults before after (Words r) = ⊥
Answers o bytes written faults before after (TooLong reading) = ⊥
Answers o bytes written faults before after InputFault = ⊥

-- ---- both

-- the order was given some bytes, and came to this with them
abbrev pub Given : {S O : Type 0} → Order → Ends S O → Verdict → Type 0
Given o e v = (bytes : List ℕ) × Gets e (reads o) bytes × Answers o bytes e.written e.output_faults e.output_before e.output_after v

-- what an order came to
abbrev pub Comes : {S O : Type 0} → Order → Ends S O → Verdict → Type 0
Comes o e (Ended status rounds) = Given o e (Ended status rounds)
Comes o e (OutputFault rounds) = Given o e (OutputFault rounds)
Comes o e (Refused r) = Given o e (Refused r)
Comes o e (TooLong reading) = (reads o ≡ Some reading) × ReadsPast e reading × OutputStays e
Comes o e InputFault = (reading : Reading) × (reads o ≡ Some reading) × TakesUpTo e (limit reading) × InputFails e × OutputStays e
Comes o e NoMemory = TakesSome e (reads o) × OutputStays e
Comes o e (Words r) = ⊥

-- what words came to that are this order, or that are refused
abbrev pub Judged : {S O : Type 0} → Result Order WordsRefusal → Ends S O → Verdict → Type 0
Judged (Ok o) e v = Comes o e v
Judged (Err r) e v = (v ≡ Words r) × InputStays e × OutputStays e
