-- What each status says follows from what the call came to.
use Rattle.std.proofs.Common.{◌≡◌, ◌≢◌, inl, inr, ℕ, ◌+◌, ◌<◌, ◌≤◌, List, length, nat_lt, Option, Some, None, Result, Ok, Err, is_err, true, false, refl, sym, ap, subst, ◌∙◌, arith}
use Rattle.std.proofs.lemmas.Bool.Decides.{nat_tests}
use Rattle.quiescence.specs.Rounds.{no_rounds}
use Rattle.sim_base.specs.declared.status.Status.{Status}
use Rattle.sim_base.specs.declared.status.Status.TheVariants as status
use Rattle.scenario.specs.AnyActors.{any_meaning}
use Rattle.scenario.specs.Format.{scenario_of}
use Rattle.scenario.specs.Generated.{generated}
use Rattle.scenario.specs.ScenarioParts.{ScenarioParts}
use Rattle.tick_advance.specs.RoundsOf.{rounds_of}
use Rattle.sim_top.proofs.Rounds.{of_gen, of_run, unrun}
use Rattle.sim_top.proofs.Taking.{rest_left, taken_all, taken_within}
use Rattle.sim_top.specs.Clauses.{ClosesRounds, FailsExactly, Fits, GivesAnswer, GivesFront, InputRefusedExactly, IsAnswer, LeavesInput, RunsNothing, TakesNoMore, TriesErrorLine, WordsRefusedFirst, rest_of}
use Rattle.sim_top.specs.Lines.{Told, Tries, line_for, ran_for, words_line}
use Rattle.sim_top.specs.Statuses.{IsEnding, IsEndingOrMemory, MayWrite, WritesNothing}
use Rattle.sim_top.specs.Tasks.{Task, answer, answer_by, limit, reading_of, reads, reads_nothing, reads_scenario, task_of}
use Rattle.sim_top.specs.Verdicts.{Comes, Ends, Gets, InputSound, InputStays, Judged, OutputStays, ReadsAll, TakesSome}
use Rattle.sim_top.specs.declared.answer.Answer.{Answer}
use Rattle.sim_top.specs.declared.reading.InputRefusal.{InputRefusal}
use Rattle.sim_top.specs.declared.reading.Reading.{Reading}
use Rattle.sim_top.specs.declared.verdict.Verdict.{Verdict}
use Rattle.sim_top.specs.declared.verdict.Verdict.TheVariants.{Ended, Words, Refused, TooLong, InputFault, OutputFault, NoMemory}
use Rattle.sim_top.specs.declared.words.Command.TheVariants as command
use Rattle.sim_top.specs.declared.words.Order.{Order}
use Rattle.sim_top.specs.declared.words.WordsRefusal.{WordsRefusal}

abbrev st : Verdict → Status
st v = (ran_for v).status

-- ---- facts on statuses

-- an ending is none of the other statuses
ending_is_no : (s other : Status) → IsEnding s → (IsEnding other → ⊥) → s ≢ other
ending_is_no s other h never e = never (let P : Status → Type 0 = λ s. IsEnding s in subst P e h)

ending_or_memory : (s : Status) → IsEnding s → IsEndingOrMemory s
ending_or_memory status.Done a = tt
ending_or_memory status.ActorFault a = tt
ending_or_memory status.DiascaLimit a = tt
ending_or_memory status.InputFault a = a
ending_or_memory status.OutputFault a = a
ending_or_memory status.WordsRefused a = a
ending_or_memory status.ScenarioRefused a = a
ending_or_memory status.NoMemory a = tt

ending_writes : (s : Status) → IsEnding s → WritesNothing s → ⊥
ending_writes status.Done a b = b
ending_writes status.ActorFault a b = b
ending_writes status.DiascaLimit a b = b
ending_writes status.InputFault a b = a
ending_writes status.OutputFault a b = a
ending_writes status.WordsRefused a b = a
ending_writes status.ScenarioRefused a b = a
ending_writes status.NoMemory a b = a

-- refused words have their status
words_status : (v : Verdict) (r : WordsRefusal) → v ≡ Words r → st v ≡ status.WordsRefused
words_status v r e = ap st e

-- no answer of one order is that of another
same_order : (o p : Order) → ◌≡◌ {A = Result Order WordsRefusal} (Ok o) (Ok p) → o ≡ p
same_order o p e = cc

-- ---- facts on the input

some_reading : (r : Reading) (x : Option Reading) → x ≡ Some r → x ≡ None → ⊥
some_reading r x s n = let clash : Some r ≡ None = sym s ∙ n in cc

module _ {S O : Type 0} (e : Ends S O) where
  got_sound : (reading : Option Reading) (bytes : List ℕ) → Gets e reading bytes → InputSound e
  got_sound None bytes h = ap e.input_faults h.0
  got_sound (Some reading) bytes h = h.sound

  took_sound : (reading : Option Reading) → TakesSome e reading → InputSound e
  took_sound None h = ap e.input_faults h
  took_sound (Some reading) h = h.1

  got_nothing : (reading : Option Reading) (bytes : List ℕ) → reading ≡ None → Gets e reading bytes → InputStays e
  got_nothing None bytes is h = h.0
  got_nothing (Some reading) bytes is h = absurd (some_reading reading (Some reading) refl is)

  took_nothing : (reading : Option Reading) → reading ≡ None → TakesSome e reading → InputStays e
  took_nothing None is h = h
  took_nothing (Some reading) is h = absurd (some_reading reading (Some reading) refl is)

  read_all : (x : Option Reading) (reading : Reading) (bytes : List ℕ) → x ≡ Some reading → Gets e x bytes → ReadsAll e reading bytes
  read_all None reading bytes is h = let clash : None ≡ Some reading = is in cc
  read_all (Some r) reading bytes is h = let same : r ≡ reading = cc in subst (λ (r : Reading). ReadsAll e r bytes) same h

  took_some : (x : Option Reading) (reading : Reading) → x ≡ Some reading → TakesSome e x → TakesSome e (Some reading)
  took_some x reading is h = subst (λ (x : Option Reading). TakesSome e x) is h

  -- what words came to that are this order
  pub of_ok : (order : Result Order WordsRefusal) (o : Order) (v : Verdict) → Judged order e v → order ≡ Ok o → Comes o e v
  of_ok (Ok p) o v h is = subst (λ (p : Order). Comes p e v) (same_order p o is) h
  of_ok (Err r) o v h is = let clash : Err r ≡ Ok o = is in cc

  -- ---- refused words

  never_words : (o : Order) (v : Verdict) → Comes o e v → st v ≢ status.WordsRefused
  never_words o (Ended s rounds) h q = ending_is_no s status.WordsRefused h.2.5 (λ x. x) q
  never_words o (OutputFault rounds) h q = cc
  never_words o (Refused r) h q = cc
  never_words o (TooLong reading) h q = cc
  never_words o InputFault h q = cc
  never_words o NoMemory h q = cc
  never_words o (Words r) h q = absurd h

  pub words_first : (order : Result Order WordsRefusal) (v : Verdict) → Judged order e v → WordsRefusedFirst order e (st v)
  words_first (Ok o) v h = record {
    only = λ q. absurd (never_words o v h q);
    always = λ t. cc;
    input_untouched = λ q. absurd (never_words o v h q);
    output_untouched = λ q. absurd (never_words o v h q);
  }
  words_first (Err r) v h = record {
    only = λ q. refl;
    always = λ t. words_status v r h.0;
    input_untouched = λ q. h.1;
    output_untouched = λ q. h.2;
  }

  -- ---- the counts of faults

  input_counts : (o : Order) (v : Verdict) → Comes o e v → FailsExactly status.InputFault (st v) (e.input_faults e.input_before) (e.input_faults e.input_after)
  input_counts o (Ended s rounds) h = record {
    rises = λ q. absurd (ending_is_no s status.InputFault h.2.5 (λ x. x) q);
    stays = λ n. got_sound (reads o) h.0 h.1;
  }
  input_counts o (OutputFault rounds) h = record { rises = λ q. cc; stays = λ n. got_sound (reads o) h.0 h.1 }
  input_counts o (Refused r) h = record { rises = λ q. cc; stays = λ n. got_sound (reads o) h.0 h.1 }
  input_counts o (TooLong reading) h = record { rises = λ q. cc; stays = λ n. h.1.sound }
  input_counts o InputFault h = record { rises = λ q. h.3; stays = λ n. absurd (n refl) }
  input_counts o NoMemory h = record { rises = λ q. cc; stays = λ n. took_sound (reads o) h.0 }
  input_counts o (Words r) h = absurd h

  pub input_fails : (order : Result Order WordsRefusal) (v : Verdict) → Judged order e v
      → FailsExactly status.InputFault (st v) (e.input_faults e.input_before) (e.input_faults e.input_after)
  input_fails (Ok o) v h = input_counts o v h
  input_fails (Err r) v h = record {
    rises = λ q. let clash : status.WordsRefused ≡ status.InputFault = sym (words_status v r h.0) ∙ q in cc;
    stays = λ n. ap e.input_faults h.1;
  }

  output_counts : (o : Order) (v : Verdict) → Comes o e v → FailsExactly status.OutputFault (st v) (e.output_faults e.output_before) (e.output_faults e.output_after)
  output_counts o (Ended s rounds) h = record {
    rises = λ q. absurd (ending_is_no s status.OutputFault h.2.5 (λ x. x) q);
    stays = λ n. h.2.2.sound;
  }
  output_counts o (OutputFault rounds) h = record { rises = λ q. h.2.2.fails; stays = λ n. absurd (n refl) }
  output_counts o (Refused r) h = record { rises = λ q. cc; stays = λ n. ap e.output_faults h.2.1 }
  output_counts o (TooLong reading) h = record { rises = λ q. cc; stays = λ n. ap e.output_faults h.2 }
  output_counts o InputFault h = record { rises = λ q. cc; stays = λ n. ap e.output_faults h.4 }
  output_counts o NoMemory h = record { rises = λ q. cc; stays = λ n. ap e.output_faults h.1 }
  output_counts o (Words r) h = absurd h

  pub output_fails : (order : Result Order WordsRefusal) (v : Verdict) → Judged order e v
      → FailsExactly status.OutputFault (st v) (e.output_faults e.output_before) (e.output_faults e.output_after)
  output_fails (Ok o) v h = output_counts o v h
  output_fails (Err r) v h = record {
    rises = λ q. let clash : status.WordsRefused ≡ status.OutputFault = sym (words_status v r h.0) ∙ q in cc;
    stays = λ n. ap e.output_faults h.2;
  }

  -- ---- refused input

  not_refused : (o : Order) (reading : Reading) (bytes : List ℕ) (left : Option (List ℕ)) (s : Status) (a : Answer) → s ≢ status.ScenarioRefused
      → answer o bytes ≡ Ok a → length bytes ≤ limit reading → InputRefusedExactly o reading bytes left s
  not_refused o reading bytes left s a never ok fits = record {
    only = λ q. absurd (never q);
    too_long = λ long. absurd (omega arith);
    refused = λ err. let t : false ≡ true = rw ok at err in cc;
    one_past = λ q. absurd (never q);
    nothing_left = λ q. absurd (never q);
  }

  accepted : (o : Order) (reading : Reading) (bytes got : List ℕ) (s : Status) (a : Answer) → reads o ≡ Some reading → e.left e.input_before ≡ Some bytes
      → Gets e (reads o) got → answer o got ≡ Ok a → s ≢ status.ScenarioRefused → InputRefusedExactly o reading bytes (e.left e.input_after) s
  accepted o reading bytes got s a is told h ok never =
      let r = read_all (reads o) reading got is h in
      let all = taken_all (e.left e.input_before) (e.left e.input_after) bytes got told r.taken r.at_end in
      not_refused o reading bytes (e.left e.input_after) s a never (rw all.0 at ok) (rw all.0 at r.fits)

  pub refused_exactly : (o : Order) (v : Verdict) (reading : Reading) (bytes : List ℕ) → Comes o e v → reads o ≡ Some reading → e.left e.input_before ≡ Some bytes
      → st v ≢ status.InputFault → st v ≢ status.NoMemory → InputRefusedExactly o reading bytes (e.left e.input_after) (st v)
  refused_exactly o (Ended s rounds) reading bytes h is told nf nm =
      accepted o reading bytes h.0 s h.2.0 is told h.1 h.2.1 (ending_is_no s status.ScenarioRefused h.2.5 (λ x. x))
  refused_exactly o (OutputFault rounds) reading bytes h is told nf nm =
      accepted o reading bytes h.0 status.OutputFault h.2.0 is told h.1 h.2.1 (λ q. cc)
  refused_exactly o (Refused r) reading bytes h is told nf nm =
      let all_read = read_all (reads o) reading h.0 is h.1 in
      let all = taken_all (e.left e.input_before) (e.left e.input_after) bytes h.0 told all_read.taken all_read.at_end in
      let fits : length bytes ≤ limit reading = rw all.0 at all_read.fits in
      record {
        only = λ q. inr (ap is_err (rw all.0 at h.2.0));
        too_long = λ long. refl;
        refused = λ err. refl;
        one_past = λ q long. absurd (omega arith);
        nothing_left = λ q few. all.1;
      }
  refused_exactly o (TooLong r) reading bytes h is told nf nm =
      let same : r ≡ reading = let both : Some r ≡ Some reading = sym h.0 ∙ is in cc in
      let t = h.1.taken in
      let count : length t.taken ≡ limit reading + 1 = rw same at t.exactly in
      let past : limit reading < length bytes = omega (arith, taken_within (e.left e.input_before) (e.left e.input_after) bytes t.taken told t.consumes, count) in
      record {
        only = λ q. inl past;
        too_long = λ long. refl;
        refused = λ err. refl;
        one_past = λ q long. rest_left (e.left e.input_before) (e.left e.input_after) bytes t.taken (limit reading + 1) told t.consumes count;
        nothing_left = λ q few. absurd (omega arith);
      }
  refused_exactly o InputFault reading bytes h is told nf nm = absurd (nf refl)
  refused_exactly o NoMemory reading bytes h is told nf nm = absurd (nm refl)
  refused_exactly o (Words r) reading bytes h is told nf nm = absurd h

  -- ---- an input that isn't read, or not to its end

  never_refused : (t : Task) (bytes : List ℕ) (r : InputRefusal) → reading_of t ≡ None → answer_by t bytes ≡ Err r → ⊥
  never_refused (reads_nothing a) bytes r none h = let clash : Ok a ≡ Err r = h in cc
  never_refused (reads_scenario f) bytes r none h = cc

  pub leaves_input : (o : Order) (v : Verdict) → Comes o e v → reads o ≡ None → LeavesInput e (st v)
  leaves_input o (Ended s rounds) h none = record {
    untouched = got_nothing (reads o) h.0 none h.1;
    no_fault = ending_is_no s status.InputFault h.2.5 (λ x. x);
    no_refusal = ending_is_no s status.ScenarioRefused h.2.5 (λ x. x);
  }
  leaves_input o (OutputFault rounds) h none = record { untouched = got_nothing (reads o) h.0 none h.1; no_fault = λ q. cc; no_refusal = λ q. cc }
  leaves_input o (Refused r) h none = absurd (never_refused (task_of o.command o.plan) h.0 r none h.2.0)
  leaves_input o (TooLong reading) h none = absurd (some_reading reading (reads o) h.0 none)
  leaves_input o InputFault h none = absurd (some_reading h.0 (reads o) h.1 none)
  leaves_input o NoMemory h none = record { untouched = took_nothing (reads o) none h.0; no_fault = λ q. cc; no_refusal = λ q. cc }
  leaves_input o (Words r) h none = absurd h

  pub takes_no_more : (o : Order) (v : Verdict) (reading : Reading) → Comes o e v → reads o ≡ Some reading → TakesNoMore reading (e.left e.input_before) (e.left e.input_after) (st v)
  takes_no_more o (Ended s rounds) reading h is = record {
    input_fault = λ q. absurd (ending_is_no s status.InputFault h.2.5 (λ x. x) q);
    no_memory = λ q. absurd (ending_is_no s status.NoMemory h.2.5 (λ x. x) q);
  }
  takes_no_more o (OutputFault rounds) reading h is = record { input_fault = λ q. cc; no_memory = λ q. cc }
  takes_no_more o (Refused r) reading h is = record { input_fault = λ q. cc; no_memory = λ q. cc }
  takes_no_more o (TooLong r) reading h is = record { input_fault = λ q. cc; no_memory = λ q. cc }
  takes_no_more o InputFault reading h is =
      let same : h.0 ≡ reading = let both : Some h.0 ≡ Some reading = sym h.1 ∙ is in cc in
      record { input_fault = λ q. rw same at h.2; no_memory = λ q. cc }
  takes_no_more o NoMemory reading h is = record { input_fault = λ q. cc; no_memory = λ q. (took_some (reads o) reading is h.0).0 }
  takes_no_more o (Words r) reading h is = absurd h

  -- ---- the answer

  -- what a task answers to what it was given, it answers to the whole input
  of_whole : (t : Task) (bytes got : List ℕ) (a : Answer) → Gets e (reading_of t) got → e.left e.input_before ≡ Some bytes → answer_by t got ≡ Ok a
      → (answer_by t bytes ≡ Ok a) × (e.left e.input_after ≡ Some (rest_of (reading_of t) bytes))
  of_whole (reads_nothing b) bytes got a h told ok = (ok, ap e.left h.0 ∙ told)
  of_whole (reads_scenario f) bytes got a h told ok =
      let all = taken_all (e.left e.input_before) (e.left e.input_after) bytes got told h.taken h.at_end in
      (rw all.0 at ok, all.1)

  is_answer : (o : Order) (bytes got : List ℕ) (a : Answer) → Gets e (reads o) got → e.left e.input_before ≡ Some bytes → answer o got ≡ Ok a
      → IsAnswer (Ok o) bytes (e.left e.input_after) a
  is_answer o bytes got a h told ok =
      let whole = of_whole (task_of o.command o.plan) bytes got a h told ok in
      record { asked = o; words_fit = refl; is = whole.0; nothing_left = whole.1 }

  no_ending : (v : Verdict) (r : WordsRefusal) → v ≡ Words r → IsEnding (st v) → ⊥
  no_ending v r is h = subst (λ (s : Status). IsEnding s) (words_status v r is) h

  pub the_answer : (order : Result Order WordsRefusal) (v : Verdict) (bytes : List ℕ) → Judged order e v → IsEnding (st v) → e.left e.input_before ≡ Some bytes
      → GivesAnswer order bytes (e.left e.input_after) (e.written e.output_before) (e.written e.output_after) (ran_for v)
  the_answer (Err r) v bytes h end told = absurd (no_ending v r h.0 end)
  the_answer (Ok o) (Ended s rounds) bytes h end told = record {
    a = h.2.0;
    input = is_answer o bytes h.0 h.2.0 h.1 told h.2.1;
    output = h.2.2.appends;
    same_status = h.2.3;
    same_rounds = h.2.4;
  }
  the_answer (Ok o) (OutputFault rounds) bytes h end told = absurd end
  the_answer (Ok o) (Refused r) bytes h end told = absurd end
  the_answer (Ok o) (TooLong r) bytes h end told = absurd end
  the_answer (Ok o) InputFault bytes h end told = absurd end
  the_answer (Ok o) NoMemory bytes h end told = absurd end
  the_answer (Ok o) (Words r) bytes h end told = absurd h

  pub front_of_answer : (order : Result Order WordsRefusal) (v : Verdict) (bytes : List ℕ) → Judged order e v → st v ≡ status.OutputFault → e.left e.input_before ≡ Some bytes
      → GivesFront order bytes (e.left e.input_after) (e.written e.output_before) (e.written e.output_after) (ran_for v)
  front_of_answer (Err r) v bytes h q told = let clash : status.WordsRefused ≡ status.OutputFault = sym (words_status v r h.0) ∙ q in cc
  front_of_answer (Ok o) (OutputFault rounds) bytes h q told = record {
    a = h.2.0;
    input = is_answer o bytes h.0 h.2.0 h.1 told h.2.1;
    count = h.2.2.count;
    part = h.2.2.part;
    output = h.2.2.appends;
    same_rounds = h.2.3;
  }
  front_of_answer (Ok o) (Ended s rounds) bytes h q told = absurd (ending_is_no s status.OutputFault h.2.5 (λ x. x) q)
  front_of_answer (Ok o) (Refused r) bytes h q told = cc
  front_of_answer (Ok o) (TooLong r) bytes h q told = cc
  front_of_answer (Ok o) InputFault bytes h q told = cc
  front_of_answer (Ok o) NoMemory bytes h q told = cc
  front_of_answer (Ok o) (Words r) bytes h q told = absurd h

  pub nothing_written : (order : Result Order WordsRefusal) (v : Verdict) → Judged order e v → WritesNothing (st v) → OutputStays e
  nothing_written (Err r) v h w = h.2
  nothing_written (Ok o) (Ended s rounds) h w = absurd (ending_writes s h.2.5 w)
  nothing_written (Ok o) (OutputFault rounds) h w = absurd w
  nothing_written (Ok o) (Refused r) h w = h.2.1
  nothing_written (Ok o) (TooLong r) h w = h.2
  nothing_written (Ok o) InputFault h w = h.4
  nothing_written (Ok o) NoMemory h w = h.1
  nothing_written (Ok o) (Words r) h w = absurd h

  -- ---- completeness

  -- what is accepted whole isn't refused
  not_given : (t : Task) (bytes got : List ℕ) (a : Answer) (r : InputRefusal) → Gets e (reading_of t) got → e.left e.input_before ≡ Some bytes
      → answer_by t bytes ≡ Ok a → answer_by t got ≡ Err r → ⊥
  not_given (reads_nothing b) bytes got a r h told ok err = let clash : Ok b ≡ Err r = err in cc
  not_given (reads_scenario f) bytes got a r h told ok err =
      let all = taken_all (e.left e.input_before) (e.left e.input_after) bytes got told h.taken h.at_end in
      let clash : Err r ≡ Ok a = sym (rw all.0 at err) ∙ ok in cc

  fits_some : (x : Option Reading) (reading : Reading) (bytes : List ℕ) → x ≡ Some reading → Fits x bytes → length bytes ≤ limit reading
  fits_some x reading bytes is h = let fits : Fits (Some reading) bytes = subst (λ (x : Option Reading). Fits x bytes) is h in fits

  pub completes : (o : Order) (v : Verdict) (bytes : List ℕ) (a : Answer) → Comes o e v → e.left e.input_before ≡ Some bytes → Fits (reads o) bytes
      → answer o bytes ≡ Ok a → st v ≢ status.InputFault → st v ≢ status.OutputFault → IsEndingOrMemory (st v)
  completes o (Ended s rounds) bytes a h told fits ok nf nf2 = ending_or_memory s h.2.5
  completes o (OutputFault rounds) bytes a h told fits ok nf nf2 = absurd (nf2 refl)
  completes o (Refused r) bytes a h told fits ok nf nf2 = absurd (not_given (task_of o.command o.plan) bytes h.0 a r h.1 told ok h.2.0)
  completes o (TooLong reading) bytes a h told fits ok nf nf2 =
      let t = h.1.taken in
      absurd (omega (arith, taken_within (e.left e.input_before) (e.left e.input_after) bytes t.taken told t.consumes, t.exactly, fits_some (reads o) reading bytes h.0 fits))
  completes o InputFault bytes a h told fits ok nf nf2 = absurd (nf refl)
  completes o NoMemory bytes a h told fits ok nf nf2 = tt
  completes o (Words r) bytes a h told fits ok nf nf2 = absurd h

  -- ---- rounds

  -- the rounds are those of the answer to what an order was given
  abbrev ClosesAsAnswered : Order → Verdict → Type 0
  ClosesAsAnswered o v = (a : Answer) × (got : List ℕ) × Gets e (reads o) got × (answer o got ≡ Ok a) × ((ran_for v).rounds ≡ a.rounds)

  closed_by : (o : Order) (v : Verdict) → Comes o e v → MayWrite (st v) → ClosesAsAnswered o v
  closed_by o (Ended s rounds) h w = (h.2.0, h.0, h.1, h.2.1, h.2.4)
  closed_by o (OutputFault rounds) h w = (h.2.0, h.0, h.1, h.2.1, h.2.3)
  closed_by o (Refused r) h w = absurd w
  closed_by o (TooLong r) h w = absurd w
  closed_by o InputFault h w = absurd w
  closed_by o NoMemory h w = absurd w
  closed_by o (Words r) h w = absurd h

  closes_none : (o : Order) (v : Verdict) → Comes o e v → WritesNothing (st v) → (ran_for v).rounds ≡ no_rounds
  closes_none o (Ended s rounds) h w = absurd (ending_writes s h.2.5 w)
  closes_none o (OutputFault rounds) h w = absurd w
  closes_none o (Refused r) h w = refl
  closes_none o (TooLong r) h w = refl
  closes_none o InputFault h w = refl
  closes_none o NoMemory h w = refl
  closes_none o (Words r) h w = refl

  closes_run : (o : Order) (v : Verdict) (bytes : List ℕ) (s : ScenarioParts) → Comes o e v → o.command ≡ command.Run → e.left e.input_before ≡ Some bytes
      → scenario_of bytes ≡ Ok s → MayWrite (st v) → (ran_for v).rounds ≡ rounds_of any_meaning s.setup
  closes_run o v bytes s h is told read w =
      let c = closed_by o v h w in
      let whole = of_whole (task_of o.command o.plan) bytes c.1 c.0 c.2 told c.3 in
      c.4 ∙ of_run o bytes s c.0 is read whole.0

  closes_gen : (o : Order) (v : Verdict) (n : ℕ) → Comes o e v → o.command ≡ command.Gen n → MayWrite (st v)
      → (ran_for v).rounds ≡ rounds_of any_meaning (generated n).setup
  closes_gen o v n h is w = let c = closed_by o v h w in c.4 ∙ of_gen o n c.1 c.0 is c.3

  closes_other : (o : Order) (v : Verdict) → Comes o e v → RunsNothing o.command → (ran_for v).rounds ≡ no_rounds
  closes_other o (Ended s rounds) h n = h.2.4 ∙ unrun o h.0 h.2.0 n h.2.1
  closes_other o (OutputFault rounds) h n = h.2.3 ∙ unrun o h.0 h.2.0 n h.2.1
  closes_other o (Refused r) h n = refl
  closes_other o (TooLong r) h n = refl
  closes_other o InputFault h n = refl
  closes_other o NoMemory h n = refl
  closes_other o (Words r) h n = refl

  pub closed : (order : Result Order WordsRefusal) (v : Verdict) → Judged order e v → ClosesRounds order (e.left e.input_before) (ran_for v)
  closed (Err r) v h = record {
    of_run = λ o bytes s is. let clash : Err r ≡ Ok o = is in cc;
    of_gen = λ o n is. let clash : Err r ≡ Ok o = is in cc;
    of_other_commands = λ o is. let clash : Err r ≡ Ok o = is in cc;
    of_other_statuses = λ w. ap (λ (v : Verdict). (ran_for v).rounds) h.0;
  }
  closed (Ok o) v h = record {
    of_run = λ p bytes s is. subst (λ (p : Order). p.command ≡ command.Run → e.left e.input_before ≡ Some bytes → scenario_of bytes ≡ Ok s → MayWrite (st v)
        → (ran_for v).rounds ≡ rounds_of any_meaning s.setup) (same_order o p is) (closes_run o v bytes s h);
    of_gen = λ p n is. subst (λ (p : Order). p.command ≡ command.Gen n → MayWrite (st v) → (ran_for v).rounds ≡ rounds_of any_meaning (generated n).setup)
        (same_order o p is) (closes_gen o v n h);
    of_other_commands = λ p is. subst (λ (p : Order). RunsNothing p.command → (ran_for v).rounds ≡ no_rounds) (same_order o p is) (closes_other o v h);
    of_other_statuses = closes_none o v h;
  }

  -- ---- the error sink

  module _ {X : Type 0} (written : X → Option (List ℕ)) (faults : X → ℕ) (old new : X) where
    abbrev TriesLine : List ℕ → Type 0
    TriesLine line = Tries (written old) (written new) (faults old) (faults new) line

    abbrev ToldOf : Verdict → Type 0
    ToldOf v = Told written faults old new (line_for v)

    no_words : (o : Order) (r : WordsRefusal) → Ok o ≡ Err r → TriesLine (words_line r)
    no_words o r q = cc

    -- the line of an order's verdict
    line_of_order : (o : Order) (v : Verdict) → Comes o e v → ToldOf v → TriesErrorLine (Ok o) (e.left e.input_before) (st v) TriesLine
    line_of_order o (Ended s rounds) h t = record {
      words = no_words o;
      input = λ p reading bytes is r told q. absurd (ending_is_no s status.ScenarioRefused h.2.5 (λ x. x) q);
      input_fault = λ q. absurd (ending_is_no s status.InputFault h.2.5 (λ x. x) q);
      output_fault = λ q. absurd (ending_is_no s status.OutputFault h.2.5 (λ x. x) q);
      no_memory = λ q. absurd (ending_is_no s status.NoMemory h.2.5 (λ x. x) q);
    }
    line_of_order o (Refused r) h t = record {
      words = no_words o;
      input = λ p reading bytes is reads_it told q.
          let same : o ≡ p = same_order o p is in
          let reads_this : reads o ≡ Some reading = rw (sym same) at reads_it in
          let whole = read_all (reads o) reading h.0 reads_this h.1 in
          let all = taken_all (e.left e.input_before) (e.left e.input_after) bytes h.0 told whole.taken whole.at_end in
          let fits : length bytes ≤ limit reading = rw all.0 at whole.fits in
          let few : nat_lt (limit reading) (length bytes) ≡ false = grind (arith, nat_tests) in
          let err : answer o bytes ≡ Err r = rw all.0 at h.2.0 in
          let err_of : answer p bytes ≡ Err r = rw same at err in
          rw (few, err_of) t;
      input_fault = λ q. cc;
      output_fault = λ q. cc;
      no_memory = λ q. cc;
    }
    line_of_order o (TooLong r) h t = record {
      words = no_words o;
      input = λ p reading bytes is reads_it told q.
          let same : o ≡ p = same_order o p is in
          let reads_this : reads o ≡ Some reading = rw (sym same) at reads_it in
          let same_reading : r ≡ reading = let both : Some r ≡ Some reading = sym h.0 ∙ reads_this in cc in
          let k = h.1.taken in
          let count : length k.taken ≡ limit reading + 1 = rw same_reading at k.exactly in
          let past : limit reading < length bytes =
          omega (arith, taken_within (e.left e.input_before) (e.left e.input_after) bytes k.taken told k.consumes, count) in
          let long : nat_lt (limit reading) (length bytes) ≡ true = grind (arith, nat_tests) in
          let line : ToldOf (TooLong reading) = rw same_reading at t in
          rw long line;
      input_fault = λ q. cc;
      output_fault = λ q. cc;
      no_memory = λ q. cc;
    }
    line_of_order o InputFault h t = record {
      words = no_words o;
      input = λ p reading bytes is r told q. cc;
      input_fault = λ q. t;
      output_fault = λ q. cc;
      no_memory = λ q. cc;
    }
    line_of_order o (OutputFault rounds) h t = record {
      words = no_words o;
      input = λ p reading bytes is r told q. cc;
      input_fault = λ q. cc;
      output_fault = λ q. t;
      no_memory = λ q. cc;
    }
    line_of_order o NoMemory h t = record {
      words = no_words o;
      input = λ p reading bytes is r told q. cc;
      input_fault = λ q. cc;
      output_fault = λ q. cc;
      no_memory = λ q. t;
    }
    line_of_order o (Words r) h t = absurd h

    -- the line of refused words
    line_of_words : (r : WordsRefusal) (v : Verdict) → v ≡ Words r → ToldOf v → TriesErrorLine (Err r) (e.left e.input_before) (st v) TriesLine
    line_of_words r v is t =
        let told : TriesLine (words_line r) = subst (λ (v : Verdict). ToldOf v) is t in
        let refused = words_status v r is in
        record {
          words = λ q same. let this : r ≡ q = let both : Err r ≡ Err q = same in cc in subst (λ (q : WordsRefusal). TriesLine (words_line q)) this told;
          input = λ p reading bytes is_order. let clash : Err r ≡ Ok p = is_order in cc;
          input_fault = λ q. let clash : status.WordsRefused ≡ status.InputFault = sym refused ∙ q in cc;
          output_fault = λ q. let clash : status.WordsRefused ≡ status.OutputFault = sym refused ∙ q in cc;
          no_memory = λ q. let clash : status.WordsRefused ≡ status.NoMemory = sym refused ∙ q in cc;
        }

    pub error_line : (order : Result Order WordsRefusal) (v : Verdict) → Judged order e v → ToldOf v → TriesErrorLine order (e.left e.input_before) (st v) TriesLine
    error_line (Ok o) v h t = line_of_order o v h t
    error_line (Err r) v h t = line_of_words r v h.0 t

    pub untouched : (v : Verdict) → ToldOf v → IsEnding (st v) → new ≡ old
    untouched (Ended s rounds) t q = t
    untouched (OutputFault rounds) t q = absurd q
    untouched (Refused r) t q = absurd q
    untouched (TooLong r) t q = absurd q
    untouched InputFault t q = absurd q
    untouched NoMemory t q = absurd q
    untouched (Words r) t q = absurd q
