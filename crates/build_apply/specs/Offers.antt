-- Which rules work backwards, and what constants and hypotheses are offered.
use Rattle.std.specs.Prelude.{ℕ, List, [], ◌∷◌, Bool, true, false}
use Rattle.lf_definitions.specs.Syntax.{constant}
use Rattle.lf_definitions.specs.Typing.{type_at}
use Rattle.lf_definitions.specs.Signatures.{constant_types}
use Rattle.lf_terms.specs.Targets.{goal_of}
use Rattle.applications.specs.Methods.{LfCandidate}
use Rattle.applications.specs.Candidates.{LfHypothesis, are_atomic, have_binders, where_some, backward}
use Rattle.rule_sets.specs.declared.rule.Builder.{Builder}
use Rattle.rule_sets.specs.declared.rule.Builder.TheVariants.{Apply, Constructors, Assumption, Hyps}
use Rattle.build_shared.specs.declared.rule_use.RuleUse.{RuleUse}

-- A rule of this builder makes a constant, or a hypothesis, the head that closes the goal.
abbrev pub WorksBackwards : Builder → Type 0
WorksBackwards Apply = Unit {0}
WorksBackwards Constructors = Unit {0}
WorksBackwards Assumption = Unit {0}
WorksBackwards Hyps = Unit {0}
WorksBackwards _ = ⊥

-- a constant as the choice at a place of a list
abbrev pub of_constant : RuleUse → (choice c : ℕ) → List LfCandidate
of_constant u choice c =
    where_some (type_at (constant_types u.sig.now) c)
    (λ type. backward (record { of_rule = u.rule; choice = choice; hypotheses = [] }) (constant c) type (goal_of u.goal.now) u.first ∷ [])

-- the hypotheses without binders, or those with binders
abbrev pub of_one_kind : Bool → List LfHypothesis → List LfHypothesis
of_one_kind true hypotheses = are_atomic hypotheses
of_one_kind false hypotheses = have_binders hypotheses
