-- Applications but for their labels.
use Rattle.std.specs.Prelude.{List, Option, map}
use Rattle.applications.specs.Methods.{LfLabel}
use Rattle.applications.specs.Applications.{LfApplication, Completion, where_typed}
use Rattle.meta_goals.specs.Bindings.{LfBinding, assigned_of}
use Rattle.build_shared.specs.declared.attempt.Attempt.{Attempt}
use Rattle.build_shared.specs.declared.answering.Parts.{Parts}
use Rattle.build_shared.specs.Attempts.{goals_at, goal_at, candidate_at}

abbrev pub seen_parts : LfLabel → Parts → LfApplication
seen_parts label p = record {
  label = label;
  assigned = map assigned_of p.assign;
  proofs = p.proofs;
  witnesses = p.witnesses;
  assigns_others = p.assigns_others;
}

-- what comes of a candidate, by what the goal becomes
abbrev pub where_typed_at : Attempt → List LfBinding → Option Completion → Option LfApplication
where_typed_at a bindings done = where_typed a.sig.now (goals_at a) (goal_at a) (candidate_at a) (map assigned_of bindings) done
