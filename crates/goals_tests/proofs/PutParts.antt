-- What may be put for metavariables, after unification and in the parts of a row.
use Rattle.std.proofs.Common.{ℕ, List, Option}
use Rattle.lf_definitions.specs.Syntax.{LfAtom, SimpleType}
use Rattle.lf_definitions.specs.Shaping.{Scope}
use Rattle.unification.specs.Equations.{numbered_from}
use Rattle.unification.specs.Transitions.{Frozen, Unifies}
use Rattle.unification.specs.Solutions.{ShapedEquations}
use Rattle.unifiers.proofs.Laws
use Rattle.meta_goals.specs.Bindings.{LfBinding, assigned_of}
use Rattle.meta_goals.specs.Instantiates.{Instantiates}
use Rattle.meta_unify.specs.Endings.{ending_of}
use Rattle.meta_unify.specs.Walks.{AnswerKnowsContexts}
use Rattle.meta_unify.specs.declared.unified.Unified.{Unified}
use Rattle.meta_unify.specs.declared.unified.Unified.TheVariants.{Solved, Clash, Occurs, Escapes, Prune, NotPattern}
use Rattle.goals_tests.specs.Settings.{MayBePut, AnswerMayBePut}
use Rattle.std.proofs.Common.{map}

pub answer_may_be_put : (kinds : ℕ → Option SimpleType) (Γ : Scope) (frozen : Frozen) (pairs : List (LfAtom × LfAtom)) (u : Unified) → ShapedEquations kinds Γ (numbered_from 0 pairs) →
    Unifies frozen (numbered_from 0 pairs) (ending_of u) → AnswerKnowsContexts pairs u → AnswerMayBePut Γ u
answer_may_be_put kinds Γ frozen pairs (Solved assign) shaped ends contexts =
    let may = (Laws.answers_solve kinds Γ frozen (numbered_from 0 pairs) (map assigned_of assign) shaped ends).0 in
    record { size = may.0; goes = may.1.goes; closed = may.1.closed; contexts = contexts kinds Γ shaped }
answer_may_be_put kinds Γ frozen pairs (Clash path) shaped ends contexts = tt
answer_may_be_put kinds Γ frozen pairs (Occurs g) shaped ends contexts = tt
answer_may_be_put kinds Γ frozen pairs (Escapes path) shaped ends contexts = tt
answer_may_be_put kinds Γ frozen pairs (Prune path) shaped ends contexts = tt
answer_may_be_put kinds Γ frozen pairs (NotPattern path) shaped ends contexts = tt

-- It may be put in what is shaped in the scope.
pub puts : (Γ : Scope) (bindings : List LfBinding) (IsShaped : Scope → Type 0) → MayBePut Γ bindings → IsShaped Γ → Instantiates bindings IsShaped
puts Γ bindings IsShaped may shaped = record { size = may.size; outer = Γ; target = Γ; goes = may.goes; closed = may.closed; contexts = may.contexts; shaped = shaped }
