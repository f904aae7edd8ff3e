-- What comes of candidates, one after another, is added to what was found before, and its entries have the shapes of their goals' contexts.
use Rattle.std.proofs.Common.{◌≡◌, ℕ, Option, Some, None, List, [], ◌∷◌, ◌++◌, map, subst, refl, sym, ap, ◌∙◌, append_assoc, append-nil}
use Rattle.std.specs.Prelude.{IfSome}
use Rattle.std.proofs.lemmas.List.Elements.{All-nil, All-push}
use Rattle.lf_definitions.specs.Typing.{LfGoal}
use Rattle.lf_definitions.specs.Signatures.{LfSignature}
use Rattle.lf_definitions.specs.GoalLists.{all_goals}
use Rattle.lf_terms.specs.Targets.{goal_of}
use Rattle.applications.specs.Methods.{LfCandidate}
use Rattle.applications.specs.Applications.{LfApplication, application_of, with_some, of_candidates}
use Rattle.meta_goals.specs.GoalsOf.{goals_of}
use Rattle.meta_goals.specs.Laws.{HaveShapesOf}
use Rattle.build_shared.specs.declared.app.App.{App}
use Rattle.build_shared.specs.declared.rule_use.RuleUse.{RuleUse}
use Rattle.build_shared.specs.Seen.{seen_application}
use Rattle.build_shared.specs.RuleUses.{what_counts, AddsWhatCounts, KnowShapes}

with_some-append : (o : Option LfApplication) (xs ys : List LfApplication) → with_some o (xs ++ ys) ≡ with_some o xs ++ ys
with_some-append None xs ys = refl
with_some-append (Some a) xs ys = refl

pub of_candidates-append : (sig : LfSignature) (n : ℕ) (goals : List LfGoal) (g : LfGoal) (cs ds : List LfCandidate) →
    of_candidates sig n goals g (cs ++ ds) ≡ of_candidates sig n goals g cs ++ of_candidates sig n goals g ds
of_candidates-append sig n goals g [] ds = refl
of_candidates-append sig n goals g (c ∷ cs) ds =
    ap (with_some (application_of sig n goals g c)) (of_candidates-append sig n goals g cs ds)
    ∙ with_some-append (application_of sig n goals g c) (of_candidates sig n goals g cs) (of_candidates sig n goals g ds)

pub none_know_shapes : (goals : List LfGoal) (apps : List App) → apps ≡ [] → KnowShapes goals apps
none_know_shapes goals apps none = subst (KnowShapes goals) (sym none) (All-nil (λ a. HaveShapesOf goals a.assign))

-- One application more.
pub one_knows_shapes : (goals : List LfGoal) (answer : Option App) (app : App) (found more : List App) → IfSome answer (λ a. HaveShapesOf goals a.assign) → answer ≡ Some app → more ≡ found ++ app ∷ [] →
    KnowShapes goals found → KnowShapes goals more
one_knows_shapes goals answer app found more known is pushed before =
    subst (KnowShapes goals) (sym pushed) (All-push (λ a. HaveShapesOf goals a.assign) found app before (subst (λ o. IfSome o (λ a. HaveShapesOf goals a.assign)) is known))

module _ (u : RuleUse) where
  pub adds_nothing : (found : List App) → AddsWhatCounts u [] found found
  adds_nothing found = sym (append-nil (map seen_application found))

  pub adds_both : (cs ds : List LfCandidate) (found more most : List App) → AddsWhatCounts u cs found more → AddsWhatCounts u ds more most → AddsWhatCounts u (cs ++ ds) found most
  adds_both cs ds found more most first second =
      second ∙ ap (λ xs. xs ++ what_counts u ds) first ∙ append_assoc (map seen_application found) (what_counts u cs) (what_counts u ds)
      ∙ ap (λ xs. map seen_application found ++ xs) (sym (of_candidates-append u.sig.now u.first (all_goals (goals_of u.goals.now)) (goal_of u.goal.now) cs ds))

  -- What is left to be added is what was to be added, less what has been.
  abbrev pub IsLeft : (left whole : List LfCandidate) (found now : List App) → Type 0
  IsLeft left whole found now = map seen_application now ++ what_counts u left ≡ map seen_application found ++ what_counts u whole

  pub less_is_left : (cs left both whole : List LfCandidate) (found now next : List App) → both ≡ cs ++ left → IsLeft both whole found now → AddsWhatCounts u cs now next → IsLeft left whole found next
  less_is_left cs left both whole found now next are before added =
      ap (λ xs. xs ++ what_counts u left) added ∙ append_assoc (map seen_application now) (what_counts u cs) (what_counts u left)
      ∙ ap (λ xs. map seen_application now ++ xs) (sym (of_candidates-append u.sig.now u.first (all_goals (goals_of u.goals.now)) (goal_of u.goal.now) cs left))
      ∙ ap (λ ds. map seen_application now ++ what_counts u ds) (sym are) ∙ before

  pub nothing_is_left : (left whole : List LfCandidate) (found now : List App) → left ≡ [] → IsLeft left whole found now → AddsWhatCounts u whole found now
  nothing_is_left left whole found now none before = adds_nothing now ∙ ap (λ ds. map seen_application now ++ what_counts u ds) (sym none) ∙ before
