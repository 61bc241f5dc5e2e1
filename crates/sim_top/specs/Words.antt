-- What command words ask for, or why they are refused. Places are counted from 0.
use Rattle.std.specs.Prelude.{◌≡◌, ℕ, ◌+◌, ◌≤◌, List, [], ◌∷◌, length, Bool, true, false, not, ◌&&◌, nat_le, if◌then◌else◌, codes, bytes_eq, Option, Some, None, is_some, Result, Ok, Err}
use Rattle.std.specs.Char.{is_ascii_digit}
use Rattle.std.specs.List.{list_all}
use Rattle.std.specs.Str.Parse.{digits_value}
use Rattle.placement.specs.declared.policy.Policy.{Policy}
use Rattle.placement.specs.declared.policy.Policy.TheVariants as policy
use Rattle.sim_top.specs.Chosen.{ChosenParts, nothing_chosen, plan_of, readers_of}
use Rattle.sim_top.specs.declared.forms.Bounds.{Bounds}
use Rattle.sim_top.specs.declared.forms.Form.{Form}
use Rattle.sim_top.specs.declared.forms.Options.{Options}
use Rattle.sim_top.specs.declared.forms.Options.TheVariants as options
use Rattle.sim_top.specs.declared.forms.Verb.{Verb}
use Rattle.sim_top.specs.declared.forms.Verb.TheVariants as verb
use Rattle.sim_top.specs.declared.options.Setting.{Setting}
use Rattle.sim_top.specs.declared.options.Setting.TheVariants as setting
use Rattle.sim_top.specs.declared.words.Command.{Command}
use Rattle.sim_top.specs.declared.words.Command.TheVariants as command
use Rattle.sim_top.specs.declared.words.Order.{Order}
use Rattle.sim_top.specs.declared.words.WordsCause.{WordsCause}
use Rattle.sim_top.specs.declared.words.WordsCause.TheVariants.{NoCommand, UnknownCommand, UnknownOption, Repeated, NoValue, BadNumber, OutOfRange, UnknownPolicy}
use Rattle.sim_top.specs.declared.words.WordsRefusal.{WordsRefusal}

-- ---- the table of commands: who serves each, the number behind it, and the options that it takes

abbrev pub bounds : ℕ → ℕ → Bounds
bounds least greatest = record { least = least; greatest = greatest }

-- `live` is a command of the call that may wait, and the only one
abbrev pub row : Verb → Bool → Option Bounds → Options → Form
row v live number taken = record { verb = v; live = live; number = number; options = taken }

unfoldable pub form_of : List ℕ → Option Form
form_of word =
    if bytes_eq word (codes "run") then Some (row verb.Run false None options.OfPlan)
    else if bytes_eq word (codes "check") then Some (row verb.Check false None options.Nothing)
    else if bytes_eq word (codes "plan") then Some (row verb.Plan false None options.OfPlan)
    else if bytes_eq word (codes "gen") then Some (row verb.Gen false (Some (bounds 1 10000)) options.OfPlan)
    else if bytes_eq word (codes "upgrade") then Some (row verb.Upgrade false None options.Nothing)
    else if bytes_eq word (codes "live") then Some (row verb.Live true None options.OfPlanAndReaders)
    else if bytes_eq word (codes "--help") then Some (row verb.Help false None options.Nothing)
    else if bytes_eq word (codes "--version") then Some (row verb.Version false None options.Nothing)
    else None

-- a command that the call serves
abbrev pub served : Bool → Option Form → Option Form
served live None = None
served true (Some f) = if f.live then Some f else None
served false (Some f) = if f.live then None else Some f

-- the command, with the number behind it
abbrev pub command_of : Verb → ℕ → Command
command_of verb.Run n = command.Run
command_of verb.Check n = command.Check
command_of verb.Plan n = command.Plan
command_of verb.Gen n = command.Gen n
command_of verb.Upgrade n = command.Upgrade
command_of verb.Live n = command.Live
command_of verb.Help n = command.Help
command_of verb.Version n = command.Version

-- a command whose number is in its range
abbrev pub IsOffered : Command → Type 0
IsOffered (command.Gen n) = (1 ≤ n) × (n ≤ 10000)
IsOffered command.Run = Unit {0}
IsOffered command.Check = Unit {0}
IsOffered command.Plan = Unit {0}
IsOffered command.Upgrade = Unit {0}
IsOffered command.Live = Unit {0}
IsOffered command.Help = Unit {0}
IsOffered command.Version = Unit {0}

-- a number in this range; 0 where there is none
abbrev pub IsWithin : Option Bounds → ℕ → Type 0
IsWithin None n = n ≡ 0
IsWithin (Some b) n = (b.least ≤ n) × (n ≤ b.greatest)

-- a row whose range is that of its command
abbrev pub IsSound : Form → Type 0
IsSound f = (n : ℕ) → IsWithin f.number n → IsOffered (command_of f.verb n)

-- ---- the table of options: its word, its range, and who takes it

unfoldable pub setting_of : List ℕ → Option Setting
setting_of word =
    if bytes_eq word (codes "--workers") then Some setting.Workers
    else if bytes_eq word (codes "--managers") then Some setting.Managers
    else if bytes_eq word (codes "--fanout") then Some setting.Fanout
    else if bytes_eq word (codes "--policy") then Some setting.Policy
    else if bytes_eq word (codes "--readers") then Some setting.Readers
    else None

abbrev pub takes : Options → Setting → Bool
takes options.Nothing s = false
takes options.OfPlan setting.Readers = false
takes options.OfPlan s = true
takes options.OfPlanAndReaders s = true

abbrev pub is_chosen : Setting → ChosenParts → Bool
is_chosen setting.Workers c = is_some c.workers
is_chosen setting.Managers c = is_some c.managers
is_chosen setting.Fanout c = is_some c.fanout
is_chosen setting.Policy c = is_some c.policy
is_chosen setting.Readers c = is_some c.readers

unfoldable pub policy_of : List ℕ → Option Policy
policy_of word =
    if bytes_eq word (codes "round") then Some policy.RoundRobin
    else if bytes_eq word (codes "name") then Some policy.ByName
    else if bytes_eq word (codes "load") then Some policy.LeastLoaded
    else None

-- ---- chains of checks, of which the first that fails is the refusal

infixl 10 ◌>>=◌
abbrev pub ◌>>=◌ : {A B : Type 0} → Result A WordsRefusal → (A → Result B WordsRefusal) → Result B WordsRefusal
Ok a >>= f = f a
Err e >>= f = Err e

abbrev pub refusal : ℕ → WordsCause → WordsRefusal
refusal place cause = record { place = place; cause = cause; value = 0 }

abbrev pub or_else : {A : Type 0} → WordsRefusal → Option A → Result A WordsRefusal
or_else e None = Err e
or_else e (Some a) = Ok a

-- nothing where the test holds, else a refusal
abbrev pub unless : Bool → WordsRefusal → Result (Unit {0}) WordsRefusal
unless b e = if b then Ok tt else Err e

-- ---- numbers

-- 1 to 10 digits
abbrev pub is_number : List ℕ → Bool
is_number word = nat_le 1 (length word) && nat_le (length word) 10 && list_all is_ascii_digit word

unfoldable pub number_of : List ℕ → Option ℕ
number_of word = if is_number word then Some (digits_value 10 word) else None

unfoldable pub number_at : ℕ → Bounds → List ℕ → Result ℕ WordsRefusal
number_at place b word = do
  n ← or_else (refusal place BadNumber) (number_of word)
  _within ← unless (nat_le b.least n && nat_le n b.greatest) (record { place = place; cause = OutOfRange; value = n })
  Ok n

-- ---- options

-- an option with its value, which has this place
unfoldable pub choose : Setting → ℕ → List ℕ → ChosenParts → Result ChosenParts WordsRefusal
choose setting.Workers place word c = do
  n ← number_at place (bounds 1 64) word
  Ok (record c { workers = Some n })
choose setting.Managers place word c = do
  n ← number_at place (bounds 1 16) word
  Ok (record c { managers = Some n })
choose setting.Fanout place word c = do
  n ← number_at place (bounds 2 8) word
  Ok (record c { fanout = Some n })
choose setting.Policy place word c = do
  p ← or_else (refusal place UnknownPolicy) (policy_of word)
  Ok (record c { policy = Some p })
choose setting.Readers place word c = do
  n ← number_at place (bounds 1 8) word
  Ok (record c { readers = Some n })

-- a word where an option may stand
unfoldable pub new_setting : Options → ℕ → List ℕ → ChosenParts → Result Setting WordsRefusal
new_setting taken place word c = do
  s ← or_else (refusal place UnknownOption) (setting_of word)
  _taken ← unless (takes taken s) (refusal place UnknownOption)
  _new ← unless (not (is_chosen s c)) (refusal place Repeated)
  Ok s

-- options and their values in turn, of which the first has this place, after those that are chosen
abbrev pub options_from : Options → ℕ → ChosenParts → List (List ℕ) → Result ChosenParts WordsRefusal
options_from taken place c [] = Ok c
options_from taken place c (word ∷ []) = do
  _setting ← new_setting taken place word c
  Err (refusal place NoValue)
options_from taken place c (word ∷ value ∷ words) = do
  s ← new_setting taken place word c
  more ← choose s (place + 1) value c
  options_from taken (place + 2) more words

-- ---- commands

-- a command with its number; the options follow, the first at this place
unfoldable pub order_with : Form → (number place : ℕ) → List (List ℕ) → Result Order WordsRefusal
order_with f number place words = do
  chosen ← options_from f.options place nothing_chosen words
  Ok (record { command = command_of f.verb number; plan = plan_of chosen; readers = readers_of chosen })

-- a command whose number, where it takes one in this range, and options follow
unfoldable pub order_behind : Form → Option Bounds → List (List ℕ) → Result Order WordsRefusal
order_behind f None words = order_with f 0 1 words
order_behind f (Some b) [] = Err (refusal 0 NoValue)
order_behind f (Some b) (word ∷ words) = do
  n ← number_at 1 b word
  order_with f n 2 words

-- what the words ask for, where a call is `live`, the one that may wait, or isn't
unfoldable pub order_of : (live : Bool) → List (List ℕ) → Result Order WordsRefusal
order_of live [] = Err (refusal 0 NoCommand)
order_of live (word ∷ words) = do
  f ← or_else (refusal 0 UnknownCommand) (served live (form_of word))
  order_behind f f.number words
