-- `plan`: where each initial actor is placed, and the tree of the managers.
use Rattle.std.specs.Prelude.{ℕ, ◌+◌, ◌==◌, List, [], ◌∷◌, ◌++◌, replicate, codes, if◌then◌else◌}
use Rattle.std.specs.Fmt.{decimal}
use Rattle.std.specs.List.{flat_map, range_with_len}
use Rattle.sim_base.specs.declared.status.Status.TheVariants as status
use Rattle.placement.specs.Placing.{counted, place_of}
use Rattle.placement.specs.Plans.{PlanParts}
use Rattle.placement.specs.declared.policy.Policy.{Policy}
use Rattle.manager_tree.specs.Shape.{Shape, level_of, node_count, parent_of, root_of}
use Rattle.manager_tree.specs.Tree.{tree_over}
use Rattle.quiescence.specs.Rounds.{no_rounds}
use Rattle.sim_model.specs.declared.setup.Start.{Start}
use Rattle.scenario.specs.ScenarioParts.{ScenarioParts}
use Rattle.scenario.specs.declared.any_actor.AnyActor.{AnyActor}
use Rattle.sim_top.specs.declared.answer.Answer.{Answer}

-- ---- the actors

abbrev pub actor_line : (id : ℕ) (name : List ℕ) (manager : ℕ) → List ℕ
actor_line id name manager = codes "actor," ++ decimal id ++ codes "," ++ name ++ codes "," ++ decimal manager ++ codes "\n"

-- a line for each of these actors, of which the first has this number; each is counted where it is placed
abbrev pub actor_lines : Policy → (loads : List ℕ) (id : ℕ) → List (Start AnyActor) → List ℕ
actor_lines policy loads id [] = []
actor_lines policy loads id (actor ∷ actors) =
    let manager = place_of policy id actor.name loads in
    actor_line id actor.name manager ++ actor_lines policy (counted loads manager) (id + 1) actors

-- ---- the tree

-- the root has no parent
abbrev pub parent_text : Shape → ℕ → List ℕ
parent_text t node = if node == root_of t then codes "-" else decimal (parent_of t node)

abbrev pub node_line : Shape → ℕ → List ℕ
node_line t node = codes "node," ++ decimal node ++ codes "," ++ decimal (level_of t node) ++ codes "," ++ parent_text t node ++ codes "\n"

-- from the first leaf to the root
abbrev pub tree_text : Shape → List ℕ
tree_text t = flat_map (node_line t) (range_with_len 0 (node_count t))

-- ---- both

unfoldable pub plan_answer : PlanParts → ScenarioParts → Answer
plan_answer p s = record {
  text = actor_lines p.policy (replicate p.managers 0) 1 s.setup.actors ++ tree_text (tree_over p.managers p.fanout);
  status = status.Done;
  rounds = no_rounds;
}
