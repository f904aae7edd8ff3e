-- The laws of what instances and results mention, and of instances among other goals, as they are stated.
use Rattle.std.proofs.Common.{◌≡◌, inl, inr, ℕ, Option, Some, None, List, refl, sym, ap, ◌∙◌, subst}
use Rattle.lf_definitions.specs.Syntax.{LfHead, bound, constant, metavariable, LfTerm, LfType, shapes_size}
use Rattle.lf_definitions.specs.Substitution.{stays, push_all}
use Rattle.lf_definitions.specs.Occurrence.{OccursIn, OccursInSpine, OccursInType, OccursInContext}
use Rattle.lf_definitions.specs.Typing.{LfGoal, goal_type}
use Rattle.lf_definitions.specs.Instantiation.{Assignment, assigned, instantiating}
use Rattle.head_laws.specs.Mentions.{ComesFrom}
use Rattle.lf_functions.specs.Instances.{goals_depth, instance_of, instance_of_spine, instance_of_type, instance_of_atom, instance_of_context, instance_of_goal, result_of, result_of_spine, result_of_type, result_of_context}
use Rattle.lf_functions.specs.MentionLaws.{StaysOrIsPut, InstancesMentionWhatIsPut, ResultsMentionWhatIsPut, InstancesAreAmongAnyGoals}
use Rattle.lf_functions.proofs.Mentions.{Comes, from_kept, from_put, replaced_mentions, replaced_in_spine_mentions, replaced_in_type_mentions, replaced_in_context_mentions, in_list_or_before}
use Rattle.lf_functions.proofs.Parts.{goal_type-instance_of_goal}
use Rattle.lf_functions.proofs.Results.{instances_are_the_one_result}

-- under an assignment
module _ (σ : Assignment) (P : LfHead → Type 0) (g : ℕ) where
  at_assigned : (m : ℕ) → P (metavariable m) → (o : Option LfTerm) → σ m ≡ o → ComesFrom (metavariable g) (assigned m o) → StaysOrIsPut σ (λ m. P (metavariable m)) g
  at_assigned m p None is from =
      let same : metavariable g ≡ metavariable m = from_kept from (metavariable m) refl in
      let number : g ≡ m = cc in
      inl (subst (λ k. P (metavariable k)) (sym number) p, ap σ number ∙ is)
  at_assigned m p (Some u) is from = inr (m, u, p, is, from_put from u refl)

  stays_or_is_put : Comes P (instantiating σ) g → StaysOrIsPut σ (λ m. P (metavariable m)) g
  stays_or_is_put (bound n, p, from) = absurd (let same : metavariable g ≡ bound n = from_kept from (bound n) refl in cc)
  stays_or_is_put (constant c, p, from) = absurd (let same : metavariable g ≡ constant c = from_kept from (constant c) refl in cc)
  stays_or_is_put (metavariable m, p, from) = at_assigned m p (σ m) refl from

type_mentions : (goals : List LfGoal) (σ : Assignment) (g : ℕ) (a : LfType) → OccursInType (metavariable g) (instance_of_type goals σ a) → StaysOrIsPut σ (λ m. OccursInType (metavariable m) a) g
unfolding instance_of_type
type_mentions goals σ g a o = stays_or_is_put σ (λ k. OccursInType k a) g (replaced_in_type_mentions (goals_depth goals) g a (instantiating σ) o)

pub instances_mention_what_is_put : InstancesMentionWhatIsPut
unfolding instance_of instance_of_spine instance_of_context
instances_mention_what_is_put goals σ g =
    let d = goals_depth goals in
    let r = instantiating σ in (
      (λ t o. stays_or_is_put σ (λ k. OccursIn k t) g (replaced_mentions d g t r o)),
      (λ ts o. stays_or_is_put σ (λ k. OccursInSpine k ts) g (replaced_in_spine_mentions d g ts r o)),
      type_mentions goals σ g,
      (λ ctx o. stays_or_is_put σ (λ k. OccursInContext k ctx) g (replaced_in_context_mentions d g ctx r o)),
      (λ h o. type_mentions goals σ g (goal_type h) (subst (OccursInType (metavariable g)) (goal_type-instance_of_goal goals σ h) o)),
    )

pub results_mention_what_is_put : ResultsMentionWhatIsPut
unfolding result_of result_of_spine result_of_type result_of_context
results_mention_what_is_put shapes sub g =
    let d = shapes_size shapes in
    let r = push_all sub stays in (
      (λ t o. in_list_or_before sub g (λ k. OccursIn k t) (replaced_mentions d g t r o)),
      (λ ts o. in_list_or_before sub g (λ k. OccursInSpine k ts) (replaced_in_spine_mentions d g ts r o)),
      (λ a o. in_list_or_before sub g (λ k. OccursInType k a) (replaced_in_type_mentions d g a r o)),
      (λ ctx o. in_list_or_before sub g (λ k. OccursInContext k ctx) (replaced_in_context_mentions d g ctx r o)),
    )

pub instances_are_among_any_goals : InstancesAreAmongAnyGoals
instances_are_among_any_goals sig more goals others ctx inside σ leaves leaves_others =
    let here = instances_are_the_one_result sig goals ctx leaves.0 leaves.1 σ leaves.2 in
    let there = instances_are_the_one_result more others inside leaves_others.0 leaves_others.1 σ leaves_others.2 in (
      (λ t s c p q. ((here.0 t s p).0 (instance_of others σ t)).0 (((there.0 t c q).0 (instance_of others σ t)).1 refl)),
      (λ ts s c p q. ((here.1 ts s p).0 (instance_of_spine others σ ts)).0 (((there.1 ts c q).0 (instance_of_spine others σ ts)).1 refl)),
      (λ a p q. ((here.2 a p).0 (instance_of_type others σ a)).0 (((there.2 a q).0 (instance_of_type others σ a)).1 refl)),
      (λ a p q. ((here.3 a p).0 (instance_of_atom others σ a)).0 (((there.3 a q).0 (instance_of_atom others σ a)).1 refl)),
      (λ rest p q. ((here.4 rest p).0 (instance_of_context others σ rest)).0 (((there.4 rest q).0 (instance_of_context others σ rest)).1 refl)),
      (λ g p q. ((here.5 g p).0 (instance_of_goal others σ g)).0 (((there.5 g q).0 (instance_of_goal others σ g)).1 refl)),
    )
