use Rattle.std.proofs.Common.{◌≡◌, take, map}
use Rattle.lf_definitions.specs.Instantiation.{rename_goal}
use Rattle.head_laws.specs.Renumbering.{place_of_number}
use Rattle.lf_terms.specs.Targets.{goal_of}
use Rattle.meta_goals.proofs.rename.renumbered_list.Given as goal

abbrev pub invariant-loop-i : goal.invariant-loop-i
invariant-loop-i l = map goal_of l.results.items ≡ map (rename_goal (place_of_number l.places)) (map goal_of (take l.i l.items))
