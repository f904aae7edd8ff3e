-- A rule that splits the hypotheses of a goal, and what comes of it.
use Rattle.std.specs.Prelude.{◌≡◌, ℕ, List, [], ◌∷◌, map, Bool, not, ◌&&◌, nat_eq, Some, All}
use Rattle.lf_definitions.specs.Syntax.{bound}
use Rattle.lf_definitions.specs.Typing.{type_at}
use Rattle.lf_definitions.specs.Signatures.{constant_types}
use Rattle.lf_definitions.specs.GoalLists.{all_goals}
use Rattle.head_laws.specs.Mentions.{occurs_in_type}
use Rattle.lf_terms.specs.Targets.{goal_of}
use Rattle.lf_terms.specs.Types.{type_of}
use Rattle.meta_goals.specs.GoalsOf.{goals_of}
use Rattle.opening_laws.specs.Conditions.{MayBeOpened}
use Rattle.applications.specs.Methods.{LfCandidate}
use Rattle.applications.specs.Candidates.{LfHypothesis, hypotheses_of, are_atomic, premise_marks, each, kept_by_splitting, split}
use Rattle.application_laws.specs.Conditions.{HasAtomAt, MayBeUsed}
use Rattle.rule_sets.specs.declared.rule.Builder.{Builder}
use Rattle.rule_sets.specs.declared.rule.Builder.TheVariants.{Cases}
use Rattle.build_shared.specs.RuleUses.{IsRuleUse}
use Rattle.build_shared.specs.Seen.{seen_hypothesis}
use Rattle.build_cases.specs.declared.split.Split.{Split}

abbrev pub IsCases : Builder → Type 0
IsCases builder = builder ≡ Cases

-- A hypothesis that isn't at this place mentions the variable of this number.
abbrev pub mentions_besides : ℕ → ℕ → LfHypothesis → Bool
mentions_besides number place h = not (nat_eq h.place place) && occurs_in_type (bound number) h.type

-- The hypotheses are those of the goal and the marks those of the constant's type, whose major argument has no binders.
pub record IsSplitUse (s : Split) : Type 0 where
  pub usage : IsRuleUse s.usage.now
  pub type_is : type_at (constant_types s.usage.now.sig.now) s.constant ≡ Some (type_of s.ty.now)
  pub marks_are : s.marks.now ≡ premise_marks (type_of s.ty.now)
  pub takes_atom : HasAtomAt (type_of s.ty.now) s.major
  pub hypotheses_are : map seen_hypothesis s.hyps.now ≡ hypotheses_of s.usage.now.goal.now.ctx

-- what the rule offers for a hypothesis
abbrev pub split_offers : Split → LfHypothesis → List LfCandidate
split_offers s h = split s.usage.now.rule s.constant (type_of s.ty.now) s.major (goal_of s.usage.now.goal.now) s.usage.now.first h

-- and for the hypotheses without binders among some
abbrev pub split_offers_each : Split → List LfHypothesis → List LfCandidate
split_offers_each s hs = each (are_atomic hs) (split_offers s)

-- For this hypothesis the constant's type may be opened, and what is offered may be used.
pub record MaySplit (s : Split) (h : LfHypothesis) : Type 0 where
  pub may_be_opened : MayBeOpened s.usage.now.sig.now (all_goals (goals_of s.usage.now.goals.now)) s.usage.now.goal.now.ctx
      (kept_by_splitting (type_of s.ty.now) s.major (goal_of s.usage.now.goal.now) h.place) ((s.major, h.place) ∷ []) s.usage.now.first (type_of s.ty.now)
  pub may_be_used : All (MayBeUsed s.usage.now.sig.now (all_goals (goals_of s.usage.now.goals.now)) s.usage.now.first (goal_of s.usage.now.goal.now)) (split_offers s h)
