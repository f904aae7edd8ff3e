-- Whether a place is dropped, one condition after another.
use Rattle.std.proofs.Common.{◌≡◌, ℕ, suc, ◌+◌, ◌<◌, ◌≤◌, Bool, true, false, ◌||◌, List, [], ◌∷◌, ◌++◌, length, get_or, drop, map, sym, ap, ◌∙◌, add-one, drop-cons}
use Rattle.std.specs.Prelude.{not, ◌&&◌, if◌then◌else◌, nat_eq}
use Rattle.std.specs.List.{list_any}
use Rattle.std.proofs.lemmas.List.{drop_all}
use Rattle.lf_definitions.specs.Syntax.{bound, LfType}
use Rattle.lf_definitions.specs.Typing.{LfGoal}
use Rattle.head_laws.specs.Mentions.{occurs_in_spine, occurs_in_type}
use Rattle.opening_laws.specs.Openings.{context_variable}
use Rattle.applications.specs.Candidates.{LfHypothesis, hypotheses_of, mentioned_by_others, occurs_later, occurs_at_end, drops, places_of, without, kept_by_splitting}
use Rattle.build_shared.specs.declared.hypotheses.Hypothesis.{Hypothesis}
use Rattle.build_shared.specs.Seen.{seen_hypothesis}
use Rattle.build_cases.specs.Splits.{mentions_besides}

-- a test of hypotheses, one after another
module _ (test : LfHypothesis → Bool) (hyps : List Hypothesis) (i : ℕ) where
  read_there : (x : Hypothesis) → i < length hyps → x ≡ get_or hyps i x →
      list_any test (map seen_hypothesis (drop i hyps)) ≡ test (seen_hypothesis x) || list_any test (map seen_hypothesis (drop (suc i) hyps))
  read_there x within x_is =
      ap (λ l. list_any test (map seen_hypothesis l)) (drop-cons hyps i x within) ∙ ap (λ y. test (seen_hypothesis y) || list_any test (map seen_hypothesis (drop (suc i) hyps))) (sym x_is)

  pub found_there : (x : Hypothesis) (found whole : Bool) → i < length hyps → x ≡ get_or hyps i x → found ≡ test (seen_hypothesis x) → found ≡ true →
      whole ≡ list_any test (map seen_hypothesis (drop i hyps)) → true ≡ whole
  found_there x found whole within x_is is e left =
      sym (left ∙ read_there x within x_is ∙ ap (λ b. b || list_any test (map seen_hypothesis (drop (suc i) hyps))) (sym is ∙ e))

  pub not_there : (x : Hypothesis) (found whole : Bool) → i < length hyps → x ≡ get_or hyps i x → found ≡ test (seen_hypothesis x) → found ≡ false →
      whole ≡ list_any test (map seen_hypothesis (drop i hyps)) → whole ≡ list_any test (map seen_hypothesis (drop (i + 1) hyps))
  not_there x found whole within x_is is e left =
      left ∙ read_there x within x_is ∙ ap (λ b. b || list_any test (map seen_hypothesis (drop (suc i) hyps))) (sym is ∙ e)
      ∙ ap (λ k. list_any test (map seen_hypothesis (drop k hyps))) (sym (add-one i))

  pub nowhere : (whole : Bool) → length hyps ≤ i → whole ≡ list_any test (map seen_hypothesis (drop i hyps)) → false ≡ whole
  nowhere whole past left = sym (left ∙ ap (λ l. list_any test (map seen_hypothesis l)) (drop_all i hyps past))

pub others_are : (hyps : List Hypothesis) (g : LfGoal) (number place : ℕ) (found : Bool) → map seen_hypothesis hyps ≡ hypotheses_of g.context → bound number ≡ context_variable (length g.context) place →
    found ≡ list_any (mentions_besides number place) (map seen_hypothesis hyps) → found ≡ mentioned_by_others g.context place
others_are hyps g number place found are number_is is =
    is ∙ ap (list_any (mentions_besides number place)) are ∙ ap (λ v. list_any (λ h. not (nat_eq h.place place) && occurs_in_type v h.type) (hypotheses_of g.context)) number_is

-- By the three conditions.
module _ (type : LfType) (major : ℕ) (g : LfGoal) (place : ℕ) where
  abbrev Target : Bool
  Target = occurs_in_spine (context_variable (length g.context) place) g.target.atom_args

  pub kept_for_others : (others : Bool) → others ≡ mentioned_by_others g.context place → others ≡ true → false ≡ drops type major g place
  kept_for_others others is e = sym (ap (λ a. not a && (not (occurs_later type major) && (occurs_at_end type major || not Target))) (sym is ∙ e))

  no_others : (others : Bool) → others ≡ mentioned_by_others g.context place → others ≡ false → drops type major g place ≡ not (occurs_later type major) && (occurs_at_end type major || not Target)
  no_others others is e = ap (λ a. not a && (not (occurs_later type major) && (occurs_at_end type major || not Target))) (sym is ∙ e)

  pub kept_for_later : (others later : Bool) → others ≡ mentioned_by_others g.context place → others ≡ false → later ≡ occurs_later type major → later ≡ true → false ≡ drops type major g place
  kept_for_later others later is e later_is f = sym (no_others others is e ∙ ap (λ b. not b && (occurs_at_end type major || not Target)) (sym later_is ∙ f))

  not_later : (others later : Bool) → others ≡ mentioned_by_others g.context place → others ≡ false → later ≡ occurs_later type major → later ≡ false →
      drops type major g place ≡ occurs_at_end type major || not Target
  not_later others later is e later_is f = no_others others is e ∙ ap (λ b. not b && (occurs_at_end type major || not Target)) (sym later_is ∙ f)

  pub dropped_at_end : (others later at_end : Bool) → others ≡ mentioned_by_others g.context place → others ≡ false → later ≡ occurs_later type major → later ≡ false → at_end ≡ occurs_at_end type major → at_end ≡ true →
      true ≡ drops type major g place
  dropped_at_end others later at_end is e later_is f end_is h = sym (not_later others later is e later_is f ∙ ap (λ c. c || not Target) (sym end_is ∙ h))

  pub dropped_by_target : (others later at_end : Bool) (number : ℕ) (in_target : Bool) → others ≡ mentioned_by_others g.context place → others ≡ false → later ≡ occurs_later type major → later ≡ false →
      at_end ≡ occurs_at_end type major → at_end ≡ false → bound number ≡ context_variable (length g.context) place → in_target ≡ occurs_in_spine (bound number) g.target.atom_args → not in_target ≡ drops type major g place
  dropped_by_target others later at_end number in_target is e later_is f end_is h number_is target_is =
      ap not (target_is ∙ ap (λ v. occurs_in_spine v g.target.atom_args) number_is) ∙ sym (not_later others later is e later_is f ∙ ap (λ c. c || not Target) (sym end_is ∙ h))

  pub all_kept : (is_dropped : Bool) (kept : List ℕ) → is_dropped ≡ drops type major g place → is_dropped ≡ false → kept ≡ places_of g.context → kept ≡ kept_by_splitting type major g place
  all_kept is_dropped kept is e kept_is = kept_is ∙ sym (ap (λ b. if b then without (place ∷ []) (places_of g.context) else places_of g.context) (sym is ∙ e))

  pub one_dropped : (is_dropped : Bool) (old dropped kept : List ℕ) → is_dropped ≡ drops type major g place → is_dropped ≡ true → old ≡ [] → dropped ≡ old ++ place ∷ [] → kept ≡ without dropped (places_of g.context) →
      kept ≡ kept_by_splitting type major g place
  one_dropped is_dropped old dropped kept is e old_is dropped_is kept_is =
      kept_is ∙ ap (λ l. without l (places_of g.context)) (dropped_is ∙ ap (λ l. l ++ place ∷ []) old_is)
      ∙ sym (ap (λ b. if b then without (place ∷ []) (places_of g.context) else places_of g.context) (sym is ∙ e))
