-- `--help`: a page of usage.
use Rattle.std.specs.Prelude.{List, ℕ, ◌++◌, codes}
use Rattle.sim_base.specs.declared.status.Status.TheVariants as status
use Rattle.quiescence.specs.Rounds.{no_rounds}
use Rattle.sim_top.specs.declared.answer.Answer.{Answer}

abbrev pub help_text : List ℕ
help_text =
    codes "sim_cli runs discrete simulations. It reads a scenario from standard input and\n"
    ++ codes "writes the result to standard output.\n"
    ++ codes "\n"
    ++ codes "Usage: sim_cli COMMAND [OPTION VALUE]..\n"
    ++ codes "\n"
    ++ codes "Commands:\n"
    ++ codes "  run        run the scenario: its samples, and how it ended\n"
    ++ codes "  check      the scenario in its canonical form\n"
    ++ codes "  plan       the manager that each actor is placed at, and the managers' tree\n"
    ++ codes "  gen N      a summary of the run of a generated scenario of N groups, 1 to\n"
    ++ codes "             10000; it reads nothing\n"
    ++ codes "  upgrade    the scenario in format 2\n"
    ++ codes "  --help     this page\n"
    ++ codes "  --version  the name and the version\n"
    ++ codes "\n"
    ++ codes "Options of run, plan and gen, in any order, each at most once:\n"
    ++ codes "  --workers N   threads that work: 1 to 64, else 1\n"
    ++ codes "  --managers N  managers that the actors are spread over: 1 to 16, else 1\n"
    ++ codes "  --fanout N    most children of a node in the managers' tree: 2 to 8, else 2\n"
    ++ codes "  --policy P    how an actor finds its manager: round (in turn, the default),\n"
    ++ codes "                name (by its name) or load (where the fewest actors live)\n"
    ++ codes "A run writes the same bytes whatever they are.\n"
    ++ codes "\n"
    ++ codes "Exit codes:\n"
    ++ codes "  0  done                     4  the scenario is refused\n"
    ++ codes "  1  reading failed           5  the run ended by a fault of an actor\n"
    ++ codes "  2  writing failed           6  the run ended at the diasca limit\n"
    ++ codes "  3  the words are refused    7  want of memory\n"
    ++ codes "With 1, 2, 3, 4 and 7 one line on standard error says why.\n"
    ++ codes "\n"
    ++ codes "Examples:\n"
    ++ codes "  sim_cli run <examples/soda_shop/scenario.json\n"
    ++ codes "  sim_cli plan --managers 3 --policy load <examples/soda_shop/scenario.json\n"

unfoldable pub help_answer : Answer
help_answer = record { text = help_text; status = status.Done; rounds = no_rounds }
