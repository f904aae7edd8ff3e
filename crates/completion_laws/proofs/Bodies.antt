-- Abstractions over a context: their types, and their instances.
use Rattle.std.proofs.Common.{◌≡◌, ℕ, zero, suc, List, [], ◌∷◌, length, refl, ap, ◌∙◌}
use Rattle.lf_definitions.specs.Syntax.{LfTerm, lam, lams, LfType, atomic, Context, pis}
use Rattle.lf_definitions.specs.ShapedGoals.{shaped_empty}
use Rattle.lf_definitions.specs.Typing.{Typing, with_variable, with_context, Typed, typed_lam, LfGoal, goal_type}
use Rattle.lf_definitions.specs.Signatures.{typing_in}
use Rattle.lf_definitions.specs.Instantiation.{Assignment}
use Rattle.lf_definitions.proofs.ShapedGoals.{ShapedType-pis}
use Rattle.head_laws.specs.AssignmentLaws.{AssignsClosedTerms}
use Rattle.head_laws.proofs.Assignments.{up_by-closed}
use Rattle.typing_laws.proofs.Binders.{typed_lams}
use Rattle.lf_functions.specs.Replacing.{nested, replaced_term, replaced}
use Rattle.lf_functions.specs.Instances.{goals_depth, instance_of}
use Rattle.lf_functions.proofs.CheckingLaws.{has_type_is_typing}
use Rattle.completion_laws.specs.Laws.{BodiesAreTested}

under_typed_lams : (cs : Context) (Θ : Typing) (body : LfTerm) (end : LfType) → Typed Θ (lams (length cs) body) (pis cs end) → Typed (with_context cs Θ) body end
under_typed_lams [] Θ body end p = p
under_typed_lams (c ∷ cs) Θ body end (typed_lam p) = under_typed_lams cs (with_variable c Θ) body end p

pub bodies_are_tested : BodiesAreTested
bodies_are_tested sig goals of_sig of_goals h shaped b =
    let outside = typing_in sig goals [] in
    let is = has_type_is_typing sig goals [] of_sig of_goals shaped_empty (lams (length h.context) b) (goal_type h) (ShapedType-pis h.context (atomic h.target) shaped.0 shaped.1) in
    (λ e. under_typed_lams h.context outside b (atomic h.target) (is.0 e), λ p. is.1 (typed_lams h.context outside b (atomic h.target) p))

-- Under closed terms an instance goes under abstractions.
pub instance-lams : (goals : List LfGoal) (σ : Assignment) → AssignsClosedTerms σ → (n : ℕ) (b : LfTerm) → instance_of goals σ (lams n b) ≡ lams n (instance_of goals σ b)
unfolding instance_of replaced
instance-lams goals σ closed zero b = refl
instance-lams goals σ closed (suc n) b =
    ap (λ θ. lam (replaced_term (nested (goals_depth goals)) θ (lams n b))) (up_by-closed 1 σ closed) ∙ ap lam (instance-lams goals σ closed n b)
