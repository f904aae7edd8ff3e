-- Alternatives, one after another.
use Rattle.std.proofs.Common.{◌≡◌, ◌∙◌, ℕ, Option, List, [], ◌∷◌, ◌++◌, map, sym, ap, subst}
use Rattle.std.proofs.lemmas.List.{map-append}
use Rattle.std.proofs.lemmas.List.Elements.{All-nil, All-cons, All-push}
use Rattle.lf_definitions.specs.GoalLists.{LfGoals, all_goals}
use Rattle.lf_definitions.specs.Instantiation.{LfAssigned}
use Rattle.applications.specs.Methods.{LfLabel}
use Rattle.meta_goals.specs.Laws.{HaveShapesOf}
use Rattle.alternatives.specs.ListsAfter.{list_after}
use Rattle.alternatives.specs.Alternatives.{LfLast, LfAlternative}
use Rattle.build_shared.specs.declared.app.App.{App}
use Rattle.build_shared.specs.declared.label.Label.{Label}
use Rattle.build_shared.specs.Seen.{seen_label, seen_application}
use Rattle.goal_book.specs.declared.choices.Choice.{Choice}
use Rattle.goal_book.specs.Choices.{last_by, seen_choice}
use Rattle.goal_expand.specs.declared.alternative.Alternative.{Alternative}
use Rattle.goal_expand.specs.declared.one_more.Taken.{Taken}
use Rattle.goal_expand.specs.declared.given.Given.{Given}
use Rattle.goal_expand.specs.declared.progress.Reached.{Reached}
use Rattle.goal_expand.specs.declared.progress.Progress.{Progress}
use Rattle.goal_expand.specs.Reaching.{built}
use Rattle.goal_expand.specs.Progress.{list_given, goals_reached, bindings_reached, labels_made, after_application, as_taken}
use Rattle.goal_expand.specs.Seen.{seen_alternative, last_as, HaveShapes}
use Rattle.goal_expand.proofs.Ended.{parts}

pub one_only : (none new : List Alternative) (a : Alternative) → new ≡ none ++ a ∷ [] → none ≡ [] → new ≡ a ∷ []
one_only none new a e empty = e ∙ ap (λ l. l ++ a ∷ []) empty

pub one_seen : (new : List Alternative) (a : Alternative) (x : LfAlternative) → new ≡ a ∷ [] → seen_alternative a ≡ x → map seen_alternative new ≡ x ∷ []
one_seen new a x e is = ap (map seen_alternative) e ∙ ap (λ y. y ∷ []) is

abbrev pub HasShapesIn : LfGoals → Alternative → Type 0
HasShapesIn list a = HaveShapesOf (all_goals list) a.build

pub one_shaped : (list : LfGoals) (new : List Alternative) (a : Alternative) → new ≡ a ∷ [] → HaveShapesOf (all_goals list) a.build → HaveShapes list new
one_shaped list new a e shapes = subst (HaveShapes list) (sym e) (All-cons (HasShapesIn list) a [] shapes (All-nil (HasShapesIn list)))

pub more_seen : (old new : List Alternative) (a : Alternative) (x : LfAlternative) → new ≡ old ++ a ∷ [] → seen_alternative a ≡ x →
    map seen_alternative new ≡ map seen_alternative old ++ x ∷ []
more_seen old new a x e is = ap (map seen_alternative) e ∙ map-append seen_alternative old (a ∷ []) ∙ ap (λ y. map seen_alternative old ++ y ∷ []) is

pub more_shaped : (list : LfGoals) (old new : List Alternative) (a : Alternative) → new ≡ old ++ a ∷ [] → HaveShapesOf (all_goals list) a.build → HaveShapes list old → HaveShapes list new
more_shaped list old new a e shapes all = subst (HaveShapes list) (sym e) (All-push (HasShapesIn list) old a all shapes)

-- A choice after all steps.
pub choice_is_taken : (g : Given) (p : Progress) (choice : Choice) (norm : List Label) (taken : Taken) → norm ≡ p.labels.items →
    ((label : LfLabel) → last_as taken label ≡ last_by choice.late label) →
    after_application g p.reached (map seen_label norm) (last_as taken (seen_label choice.app.label)) choice.percent choice.app ≡ as_taken g p (seen_choice choice)
choice_is_taken g p choice norm taken e is =
    ap (λ ls. after_application g p.reached (map seen_label ls) (last_as taken (seen_label choice.app.label)) choice.percent choice.app) e
    ∙ ap (λ last. after_application g p.reached (labels_made p) last choice.percent choice.app) (is (seen_label choice.app.label))

-- An alternative, from its parts.
pub alternative_is : (g : Given) (reached : Option Reached) (labels : List LfLabel) (percent : ℕ) (app : App) (made last : LfLast) (goals : LfGoals) (build : List LfAssigned) →
    made ≡ last → goals ≡ list_after (goals_reached (list_given g) reached) (seen_application app) →
    build ≡ built (list_given g) (goals_reached (list_given g) reached) (bindings_reached reached) app.assign → parts labels made percent goals build ≡ after_application g reached labels last percent app
alternative_is g reached labels percent app made last goals build e f h =
    ap (λ x. parts labels x percent goals build) e
    ∙ ap (λ x. parts labels last percent x build) f
    ∙ ap (λ x. parts labels last percent (list_after (goals_reached (list_given g) reached) (seen_application app)) x) h
