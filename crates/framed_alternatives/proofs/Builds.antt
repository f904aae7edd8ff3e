-- One assignment after another is for the goals inside what it is for all: later entries are of goals inside, and earlier bodies have the same instances.
use Rattle.std.proofs.Common.{◌≡◌, ◌⊎◌, inl, inr, ℕ, ◌<◌, ◌≤◌, Bool, true, false, List, [], ◌∷◌, ◌++◌, All, refl, sym, ap, ap₂, ◌∙◌}
use Rattle.std.specs.Prelude.{nat_eq, ◌||◌, leb, if◌then◌else◌, slice_index_or, Contains}
use Rattle.std.specs.List.{list_any}
use Rattle.std.proofs.lemmas.Bool.{leb-true}
use Rattle.std.proofs.lemmas.List.Elements.{All-head, All-tail, All-weaker}
use Rattle.lf_definitions.specs.Syntax.{LfTerm, SimpleType}
use Rattle.lf_definitions.specs.Shaping.{Shaped}
use Rattle.lf_definitions.specs.ShapedGoals.{scope_in}
use Rattle.lf_definitions.specs.Signatures.{LfSignature}
use Rattle.lf_definitions.specs.GoalLists.{LfGoals, all_goals, ids}
use Rattle.lf_definitions.specs.Instantiation.{LfAssigned, assignment_of}
use Rattle.unifiers.proofs.Entries.{term_put}
use Rattle.lf_functions.proofs.MentionLaws.{instances_are_among_any_goals}
use Rattle.applications.specs.Applications.{entries_among}
use Rattle.application_laws.specs.Conditions.{goals_inside}
use Rattle.application_laws.proofs.Inside.{numbers_inside}
use Rattle.alternatives.specs.ListsAfter.{under_later, then_assigned}
use Rattle.alternatives.specs.Taking.{Takes}
use Rattle.build_laws.proofs.Entries.{instance-lams, lams-injective}
use Rattle.build_laws.proofs.Following.{entries_are_shaped}
use Rattle.framed_alternatives.specs.Laws.{with_fresh}
use Rattle.framed_alternatives.proofs.Insides.{number_passes, all-inside}
use Rattle.framed_alternatives.proofs.Steps.{from_goals}
use Rattle.framed_alternatives.proofs.Found.{map_alike}

-- Numbers that the keys don't tell apart.
among_alike : (ns ms : List ℕ) (es : List LfAssigned) → All (λ e. list_any (nat_eq e.assigned_goal) ns ≡ list_any (nat_eq e.assigned_goal) ms) es → entries_among ns es ≡ entries_among ms es
among_alike ns ms [] all = refl
among_alike ns ms (e ∷ rest) all =
    ap₂ (λ b zs. if b then e ∷ zs else zs) (All-head (λ f. list_any (nat_eq f.assigned_goal) ns ≡ list_any (nat_eq f.assigned_goal) ms) e rest all)
    (among_alike ns ms rest (All-tail (λ f. list_any (nat_eq f.assigned_goal) ns ≡ list_any (nat_eq f.assigned_goal) ms) e rest all))

inside_or_fresh : (within : ℕ → Bool) (n m : ℕ) → with_fresh within n m ≡ true → (within m ≡ true) ⊎ (n ≤ m)
inside_or_fresh within n m is = step (within m) refl is
  where
    step : (b : Bool) → within m ≡ b → b || leb n m ≡ true → (within m ≡ true) ⊎ (n ≤ m)
    step true e f = inl e
    step false e f = inr (leb-true n m f)

abbrev with_body : LfAssigned → LfTerm → LfAssigned
with_body e b = record { assigned_goal = e.assigned_goal; binders_count = e.binders_count; body = b }

module _ (sig : LfSignature) (n : ℕ) (within : ℕ → Bool) (list : LfGoals) (below : All (λ h. h.id < n) (all_goals list)) (between part after after_part : LfGoals) (earlier later : List LfAssigned)
    (first : Takes sig list between earlier) (first_part : Takes sig (goals_inside within list) part earlier) (second : Takes sig between after later) (second_part : Takes sig part after_part later)
    (fresh : All (λ h. with_fresh within n h.id ≡ true) (all_goals part)) where
  abbrev HasShape : LfGoals → LfAssigned → Type 0
  HasShape goals e = (s : SimpleType) × Shaped (scope_in sig (all_goals goals) []) (term_put e) s

  same_entry : (e : LfAssigned) → HasShape between e → HasShape part e → under_later (all_goals part) later e ≡ under_later (all_goals between) later e
  same_entry e here there =
      let τ = assignment_of later in
      let same = (instances_are_among_any_goals sig sig (all_goals between) (all_goals part) [] [] τ (from_goals sig (all_goals between) (all_goals after) τ second.goes)
      (from_goals sig (all_goals part) (all_goals after_part) τ second_part.goes)).0 (term_put e) here.0 there.0 here.1 there.1 in
      ap (with_body e)
      (lams-injective e.binders_count _ _ (sym (instance-lams (all_goals part) τ second.closed e.binders_count e.body) ∙ same ∙ instance-lams (all_goals between) τ second.closed e.binders_count e.body))

  same_key : (e : LfAssigned) → Contains (ids (all_goals part)) e.assigned_goal → list_any (nat_eq e.assigned_goal) (ids (all_goals (goals_inside within list))) ≡ list_any (nat_eq e.assigned_goal) (ids (all_goals list))
  same_key e has =
      ap (λ xs. list_any (nat_eq e.assigned_goal) (ids xs)) (all-inside within list)
      ∙ numbers_inside within n (all_goals list) below e.assigned_goal (inside_or_fresh within n e.assigned_goal (number_passes (λ m. with_fresh within n m ≡ true) (all_goals part) fresh e.assigned_goal has))

  pub same_build : then_assigned (ids (all_goals (goals_inside within list))) (all_goals part) earlier later ≡ then_assigned (ids (all_goals list)) (all_goals between) earlier later
  same_build =
      ap₂ (λ xs ys. xs ++ ys)
      (map_alike (under_later (all_goals part) later) (under_later (all_goals between) later) earlier
      (λ k d less. same_entry (slice_index_or earlier k d) (entries_are_shaped sig list between earlier first k d less) (entries_are_shaped sig (goals_inside within list) part earlier first_part k d less)))
      (among_alike (ids (all_goals (goals_inside within list))) (ids (all_goals list)) later
      (All-weaker (λ e. Contains (ids (all_goals part)) e.assigned_goal) (λ e. list_any (nat_eq e.assigned_goal) (ids (all_goals (goals_inside within list))) ≡ list_any (nat_eq e.assigned_goal) (ids (all_goals list)))
      same_key later second_part.keys))
