-- The use of a rule for the first goal of a list: what is asked of it, and what it adds to the applications that were found before.
use Rattle.std.specs.Prelude.{◌≡◌, List, ◌++◌, map, All}
use Rattle.lf_definitions.specs.ShapedGoals.{ShapedSignature}
use Rattle.lf_definitions.specs.Typing.{LfGoal}
use Rattle.lf_definitions.specs.GoalLists.{all_goals}
use Rattle.lf_terms.specs.Targets.{goal_of}
use Rattle.applications.specs.Methods.{LfCandidate}
use Rattle.applications.specs.Applications.{LfApplication, of_candidates}
use Rattle.meta_goals.specs.GoalsOf.{goals_of}
use Rattle.meta_goals.specs.Laws.{HaveShapesOf}
use Rattle.build_shared.specs.declared.app.App.{App}
use Rattle.build_shared.specs.declared.rule_use.RuleUse.{RuleUse}
use Rattle.build_shared.specs.Seen.{seen_application}
use Rattle.build_shared.specs.Conditions.{HasFirst}

-- The signature and the goals are shaped, the goal is the first of them, and the numbers are fresh.
pub record IsRuleUse (u : RuleUse) : Type 0 where
  pub signature : ShapedSignature u.sig.now
  pub goals : HasFirst u.sig.now (goals_of u.goals.now) u.first (goal_of u.goal.now)

-- what comes of candidates
abbrev pub what_counts : RuleUse → List LfCandidate → List LfApplication
what_counts u cs = of_candidates u.sig.now u.first (all_goals (goals_of u.goals.now)) (goal_of u.goal.now) cs

-- What comes of candidates is added at the end.
abbrev pub AddsWhatCounts : RuleUse → List LfCandidate → List App → List App → Type 0
AddsWhatCounts u cs old new = map seen_application new ≡ map seen_application old ++ what_counts u cs

-- Each entry of these applications has the shapes of its goal's context.
abbrev pub KnowShapes : List LfGoal → List App → Type 0
KnowShapes goals apps = All (λ app. HaveShapesOf goals app.assign) apps

-- Where they did before, they do with what is added.
abbrev pub KeepsShapes : RuleUse → List App → List App → Type 0
KeepsShapes u old new = KnowShapes (all_goals (goals_of u.goals.now)) old → KnowShapes (all_goals (goals_of u.goals.now)) new
