-- What the first goal doesn't reach takes no part in the applications of a rule.
use Rattle.std.proofs.Common.{◌≡◌, ℕ, ◌<◌, Bool, true, false, Some, List, [], ◌∷◌, ◌++◌, All, refl, sym, ap, ap₂, ◌∙◌, subst}
use Rattle.std.specs.Prelude.{slice_index_or, if◌then◌else◌, Contains}
use Rattle.std.proofs.lemmas.List.Elements.{All-head, All-tail, All-weaker}
use Rattle.head_laws.proofs.Numbers.{Contains-here}
use Rattle.lf_definitions.specs.ShapedGoals.{ShapedSignature}
use Rattle.lf_definitions.specs.Signatures.{LfSignature}
use Rattle.lf_definitions.specs.Typing.{LfGoal}
use Rattle.lf_definitions.specs.GoalLists.{LfGoals, all_goals, first_of, first_goal}
use Rattle.lf_definitions.proofs.Options.{Some-Some}
use Rattle.applications.specs.Methods.{Method, LfCandidate}
use Rattle.applications.specs.Candidates.{candidates}
use Rattle.applications.specs.Applications.{LfApplication, with_some, application_of, of_candidates, applications_to, at_first, applications}
use Rattle.application_laws.specs.Conditions.{TakesAtoms, inside, goals_inside, BeginsInside}
use Rattle.application_laws.specs.Laws.{ApplicationsStayInside, ApplicationsAreFramed}
use Rattle.application_laws.proofs.Inside.{All-inside, contains_inside, goals_inside_are_shaped, candidates_are_unified_inside}
use Rattle.application_laws.proofs.Laws.{candidates_may_be_used}
use Rattle.application_laws.proofs.SameApplications.{same_application}

-- candidates of which each comes to the same
each_same : (sig : LfSignature) (n : ℕ) (others goals : List LfGoal) (g : LfGoal) (cs : List LfCandidate) → All (λ c. application_of sig n others g c ≡ application_of sig n goals g c) cs →
    of_candidates sig n others g cs ≡ of_candidates sig n goals g cs
each_same sig n others goals g [] all = refl
each_same sig n others goals g (c ∷ rest) all =
    ap₂ with_some (All-head (λ x. application_of sig n others g x ≡ application_of sig n goals g x) c rest all)
    (each_same sig n others goals g rest (All-tail (λ x. application_of sig n others g x ≡ application_of sig n goals g x) c rest all))

pub applications_stay_inside : ApplicationsStayInside
unfolding applications_to
applications_stay_inside sig shaped_sig goals shaped n below within stay g one_of is rule method takes =
    let others = inside within goals in
    let shaped_inside = goals_inside_are_shaped sig goals within shaped stay in
    let below_inside = All-inside within (λ h. h.id < n) goals (All-weaker (λ h. h.id < n) (λ h. within h.id ≡ true → h.id < n) (λ h less is_in. less) goals below) in
    let among = contains_inside within goals g one_of is in
    let may = candidates_may_be_used sig shaped_sig others shaped_inside n below_inside g among rule method takes in
    let unified = candidates_are_unified_inside sig shaped_sig goals shaped n below within stay g one_of is rule method takes in
    each_same sig n others goals g (candidates sig rule method g n)
    (λ k d less. same_application sig within goals n below shaped_inside.0 below_inside g among (slice_index_or (candidates sig rule method g n) k d) (may k d less) (unified k d less))

inside-append : (within : ℕ → Bool) (xs ys : List LfGoal) → inside within xs ++ inside within ys ≡ inside within (xs ++ ys)
inside-append within [] ys = refl
inside-append within (x ∷ xs) ys = step (within x.id) (inside-append within xs ys)
  where
    step : (b : Bool) → inside within xs ++ inside within ys ≡ inside within (xs ++ ys) →
        (if b then x ∷ inside within xs else inside within xs) ++ inside within ys ≡ (if b then x ∷ inside within (xs ++ ys) else inside within (xs ++ ys))
    step true later = ap (λ zs. x ∷ zs) later
    step false later = later

first_inside : (within : ℕ → Bool) (goals : List LfGoal) (g : LfGoal) → first_of goals ≡ Some g → within g.id ≡ true → first_of (inside within goals) ≡ Some g
first_inside within [] g e is = absurd cc
first_inside within (h ∷ rest) g e is = ap (λ b. first_of (if b then h ∷ inside within rest else inside within rest)) (ap (λ x. within x.id) (Some-Some e) ∙ is) ∙ e

first_is_one : (goals : List LfGoal) (g : LfGoal) → first_of goals ≡ Some g → Contains goals g
first_is_one [] g e = absurd cc
first_is_one (h ∷ rest) g e = subst (Contains (h ∷ rest)) (Some-Some e) (Contains-here h rest)

module _ (sig : LfSignature) (shaped_sig : ShapedSignature sig) (n : ℕ) (within : ℕ → Bool) (rule : ℕ) (method : Method) (takes : TakesAtoms sig method) where
  same_first : (list : LfGoals) → BeginsInside sig n within list → first_goal (goals_inside within list) ≡ first_goal list
  same_first list begins =
      let first = begins.first_is_inside in
      ap first_of (inside-append within list.proofs list.witnesses) ∙ first_inside within (all_goals list) first.0 first.1 first.2 ∙ sym first.1

  -- a list by its goals alone
  abbrev of_goals : List LfGoal → List LfApplication
  of_goals goals = at_first sig rule method n goals (first_of goals)

  among_goals : (list : LfGoals) → BeginsInside sig n within list → of_goals (inside within (all_goals list)) ≡ applications sig rule method n list
  among_goals list begins =
      let first = begins.first_is_inside in
      let goals = all_goals list in
      ap (at_first sig rule method n (inside within goals)) (first_inside within goals first.0 first.1 first.2)
      ∙ applications_stay_inside sig shaped_sig goals begins.goals_are_shaped n begins.numbers_are_below within begins.mention_inside first.0 (first_is_one goals first.0 first.1) first.2 rule method takes
      ∙ sym (ap (at_first sig rule method n goals) first.1)

pub applications_are_framed : ApplicationsAreFramed
applications_are_framed sig shaped_sig n within list begins rule method takes =
    let among = among_goals sig shaped_sig n within rule method takes in
    let of = of_goals sig shaped_sig n within rule method takes in (
      same_first sig shaped_sig n within rule method takes list begins,
      ap of (inside-append within list.proofs list.witnesses) ∙ among list begins,
      λ other also same. sym (among other also) ∙ ap of same ∙ among list begins,
    )
