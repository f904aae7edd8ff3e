use Rattle.std.proofs.Common.{option_map, sym, ap, ◌∙◌, subst}
use Rattle.std.specs.Prelude.{IfSome}
use Rattle.lf_definitions.specs.GoalLists.{all_goals}
use Rattle.meta_goals.specs.GoalsOf.{goals_of}
use Rattle.meta_goals.specs.Laws.{HaveShapesOf}
use Rattle.build_shared.specs.Seen.{seen_label}
use Rattle.build_shared.specs.Answers.{seen_parts}
use Rattle.build_shared.proofs.counting.app_for.Goals as goal

pub returns-in-None-clause-found : goal.returns-in-None-clause-found
returns-in-None-clause-found c = ap (option_map (seen_parts (seen_label c.args.candidate.label))) (sym c.in-None.is) ∙ c.in_ok-parts_of.ensures.found

pub returns-in-Some-clause-found : goal.returns-in-Some-clause-found
returns-in-Some-clause-found c = ap (option_map (seen_parts (seen_label c.args.candidate.label))) (sym c.in-Some.is) ∙ c.in_ok-parts_of.ensures.found

pub returns-in-Some-clause-shapes : goal.returns-in-Some-clause-shapes
returns-in-Some-clause-shapes c = subst (λ found. IfSome found (λ parts. HaveShapesOf (all_goals (goals_of c.args.goals.now)) parts.assign)) c.in-Some.is c.in_ok-parts_of.ensures.shapes
