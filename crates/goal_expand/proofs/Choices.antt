-- Alternatives of normal forms, from the parts of these.
use Rattle.std.proofs.Common.{◌≡◌, ℕ, Bool, true, false, None, List, [], ◌∷◌, ◌++◌, map, refl, sym, ap, ap₂, ◌∙◌}
use Rattle.std.specs.Prelude.{if◌then◌else◌, filter, flat_map}
use Rattle.std.proofs.lemmas.List.{map-append}
use Rattle.lf_definitions.specs.Signatures.{LfSignature}
use Rattle.lf_definitions.specs.GoalLists.{LfGoals}
use Rattle.lf_definitions.specs.Instantiation.{LfAssigned}
use Rattle.applications.specs.Methods.{LfLabel}
use Rattle.applications.specs.Applications.{LfApplication}
use Rattle.meta_goals.specs.Bindings.{LfBinding, assigned_of}
use Rattle.alternatives.specs.Rules.{LfPhase, LfRule, found_by}
use Rattle.alternatives.specs.NormalForms.{LfNormal, normal_form}
use Rattle.alternatives.specs.Alternatives.{LfAlternative, done, taken, first_safe, percent_of, chosen_as, ranked, choices_of, committed_or_chosen, as_done, alternatives_from, alternatives}
use Rattle.goal_book.specs.Choices.{LfChoice, choice_of, choices_by, may_be_chosen, choices}
use Rattle.goal_expand.specs.Reaching.{IsNormal}

abbrev as_alternative : LfGoals → LfNormal → LfChoice → LfAlternative
as_alternative list normal c = taken list normal c.last c.percent c.application

of_rule : (list : LfGoals) (normal : LfNormal) (phase : LfPhase) (found : List LfApplication) →
    map (λ a. taken list normal (chosen_as phase a.label) (percent_of phase) a) found ≡ map (as_alternative list normal) (map (choice_of phase) found)
of_rule list normal phase [] = refl
of_rule list normal phase (a ∷ rest) = ap (λ xs. taken list normal (chosen_as phase a.label) (percent_of phase) a ∷ xs) (of_rule list normal phase rest)

of_rules : (sig : LfSignature) (list : LfGoals) (normal : LfNormal) (rules : List LfRule) →
    flat_map (choices_of sig list normal) rules ≡ map (as_alternative list normal) (flat_map (choices_by sig normal.fresh normal.goals) rules)
of_rules sig list normal [] = refl
of_rules sig list normal (rule ∷ rest) =
    ap₂ (λ xs ys. xs ++ ys) (of_rule list normal rule.phase (found_by sig normal.fresh normal.goals rule)) (of_rules sig list normal rest)
    ∙ sym (map-append (as_alternative list normal) (choices_by sig normal.fresh normal.goals rule) (flat_map (choices_by sig normal.fresh normal.goals) rest))

-- The choices after a normal form are those of its list.
pub choices_are_taken : (sig : LfSignature) (rules : List LfRule) (list : LfGoals) (normal : LfNormal) →
    committed_or_chosen sig rules list normal None ≡ map (λ c. taken list normal c.last c.percent c.application) (choices sig rules normal.fresh normal.goals)
choices_are_taken sig rules list normal = of_rules sig list normal (ranked (filter may_be_chosen rules))

abbrev pub with_parts : List LfLabel → Bool → LfGoals → List LfAssigned → ℕ → LfNormal
with_parts labels closed goals build fresh = record { labels = labels; closed = closed; goals = goals; build = build; fresh = fresh }

module _ (sig : LfSignature) (rules : List LfRule) (list : LfGoals) (normal : LfNormal) (labels : List LfLabel) (closed : Bool) (goals : LfGoals) (bindings : List LfBinding)
    (is : IsNormal normal labels closed goals bindings) where
  -- The parts make up the normal form.
  normal_is : (fresh : ℕ) → fresh ≡ normal.fresh → normal ≡ with_parts labels closed goals (map assigned_of bindings) fresh
  normal_is fresh e =
      ap (λ x. with_parts x normal.closed normal.goals normal.build normal.fresh) (sym is.labels_are)
      ∙ ap (λ x. with_parts labels x normal.goals normal.build normal.fresh) (sym is.closed_is)
      ∙ ap (λ x. with_parts labels closed x normal.build normal.fresh) (sym is.goals_are)
      ∙ ap (λ x. with_parts labels closed goals x normal.fresh) (sym is.build_is)
      ∙ ap (λ x. with_parts labels closed goals (map assigned_of bindings) x) (sym e)

  pub from_closed : closed ≡ true →
      alternatives_from sig rules list normal ≡ record { norm = labels; last = done; percent = 100; goals = goals; build = map assigned_of bindings } ∷ []
  from_closed e =
      ap (alternatives_from sig rules list) (normal_is normal.fresh refl)
      ∙ ap (λ b. if b then as_done (with_parts labels closed goals (map assigned_of bindings) normal.fresh) ∷ []
      else committed_or_chosen sig rules list (with_parts labels closed goals (map assigned_of bindings) normal.fresh) (first_safe sig rules normal.fresh goals)) e

  pub from_open : closed ≡ false → (fresh : ℕ) → fresh ≡ normal.fresh →
      alternatives_from sig rules list normal
      ≡ committed_or_chosen sig rules list (record { labels = labels; closed = closed; goals = goals; build = map assigned_of bindings; fresh = fresh }) (first_safe sig rules fresh goals)
  from_open e fresh f =
      ap (alternatives_from sig rules list) (normal_is fresh f)
      ∙ ap (λ b. if b then as_done (with_parts labels closed goals (map assigned_of bindings) fresh) ∷ []
      else committed_or_chosen sig rules list (with_parts labels closed goals (map assigned_of bindings) fresh) (first_safe sig rules fresh goals)) e

-- Alternatives are those of the normal form.
pub alternatives_are : (sig : LfSignature) (rules : List LfRule) (n : ℕ) (list : LfGoals) → alternatives sig rules n list ≡ alternatives_from sig rules list (normal_form sig rules n list)
unfolding alternatives
alternatives_are sig rules n list = refl
