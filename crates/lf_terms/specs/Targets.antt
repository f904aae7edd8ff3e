-- Goals, seen as plain data.
use Rattle.lf_definitions.specs.Typing.{LfGoal}
use Rattle.lf_terms.specs.declared.goal.Goal.{Goal}

-- the goal, whose context is plain data already
abbrev pub goal_of : Goal → LfGoal
goal_of g = record { id = g.id; context = g.ctx; target = record { atom_family = g.target.family; atom_args = g.target.args } }
