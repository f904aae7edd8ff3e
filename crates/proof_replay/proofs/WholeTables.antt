-- Tables of what goals become, from the last build to the first.
use Rattle.std.proofs.Common.{◌≡◌, ℕ, zero, suc, ◌+◌, ◌-◌, ◌<◌, ◌≤◌, Option, Some, None, List, [], ◌∷◌, length, get_or, drop, refl, sym, ap, ◌∙◌, subst, arith}
use Rattle.std.proofs.lemmas.List.{drop_more, drop_all}
use Rattle.lf_definitions.specs.Syntax.{bound, constant, metavariable, LfTerm, lam, lams, LfType, binders_of, Context}
use Rattle.lf_definitions.specs.ShapedGoals.{scope_in}
use Rattle.lf_definitions.specs.Replacements.{fits_stays, Goes}
use Rattle.lf_definitions.specs.Typing.{LfGoal}
use Rattle.lf_definitions.specs.Signatures.{LfSignature}
use Rattle.lf_definitions.specs.GoalLists.{LfGoals, all_goals, opening}
use Rattle.lf_definitions.specs.Instantiation.{instantiating}
use Rattle.lf_functions.specs.Instances.{instance_of}
use Rattle.lf_functions.proofs.Results.{instances_are_the_one_result}
use Rattle.lf_functions.proofs.InstanceLaws.{unassigned_instances_are_the_same}
use Rattle.derivations.specs.Replays.{own_term}
use Rattle.meta_goals.specs.Bindings.{LfBinding, assigning, binding_for}
use Rattle.meta_goals.proofs.BindingLaws.{assignments_go_under_variables}
use Rattle.proof_replay.specs.Leading.{BuildTakes, Leads, carried, EndsGoals, AreFinals}
use Rattle.proof_replay.specs.Putting.{PutsBack}
use Rattle.proof_replay.proofs.OwnTerms.{own_term_is_shaped, first_is_there, own_term_becomes}

-- From each list that builds lead on from, the table has what its goals become.
abbrev pub AllFinals : List (List LfBinding) → List LfBinding → Type 0
AllFinals rest finals = (sig : LfSignature) (list : LfGoals) (leads : Leads sig list rest) → AreFinals sig list rest leads finals

-- Some list is led on from.
abbrev pub IsLed : List (List LfBinding) → Type 0
IsLed builds = (sig : LfSignature) × (list : LfGoals) × Leads sig list builds

nothing_ends : (sig : LfSignature) (goals : List LfGoal) → goals ≡ [] → EndsGoals sig goals []
nothing_ends sig goals none = subst (λ gs. EndsGoals sig gs []) (sym none) (record { goes = (0, stay); closed = λ g n u e o. absurd cc; shapes = λ m s b known found. absurd cc })
  where
    stay : Goes 0 (scope_in sig [] []) (scope_in sig [] []) (instantiating (assigning []))
    stay (bound n) s e = fits_stays e
    stay (constant c) s e = fits_stays e
    stay (metavariable m) s e = fits_stays e

pub without_builds : AllFinals [] []
without_builds sig list none = record {
  ends = nothing_ends sig (all_goals list) none;
  carries = λ ctx t s shaped. sym ((unassigned_instances_are_the_same (all_goals list) (assigning [])).0 t (λ m o. refl));
}

-- One build more, before the others.
pub one_before : (build : List LfBinding) (rest : List (List LfBinding)) (old new : List LfBinding) → AllFinals rest old →
    ((sig : LfSignature) (list next : LfGoals) → BuildTakes sig list next build → EndsGoals sig (all_goals next) old → PutsBack sig list next build old new) → AllFinals (build ∷ rest) new
one_before build rest old new all puts sig list (next, takes, leads) =
    let later = all sig next leads in
    let back = puts sig list next takes later.ends in
    let goes : (ctx : Context) → Goes takes.takes.goes.0 (scope_in sig (all_goals list) ctx) (scope_in sig (all_goals next) ctx) (instantiating (assigning build)) =
    λ ctx. assignments_go_under_variables sig (all_goals list) (all_goals next) (assigning build) takes.takes.goes.0 takes.takes.closed takes.takes.goes.1 ctx in
    record {
      ends = back.ends;
      carries = λ ctx t s shaped.
          later.carries ctx (instance_of (all_goals list) (assigning build) t) s
          (((instances_are_the_one_result sig (all_goals list) ctx takes.takes.goes.0 (scope_in sig (all_goals next) ctx) (assigning build) (goes ctx)).0 t s shaped).1)
          ∙ sym (back.composes ctx t s shaped);
    }

-- What is left of builds leads on, too.
pub led_from : (builds : List (List LfBinding)) (i : ℕ) → IsLed builds → IsLed (drop i builds)
led_from builds zero led = led
led_from [] (suc i) led = led
led_from (build ∷ rest) (suc i) (sig, list, leads) = led_from rest i (sig, leads.0, leads.2)

-- The place of a loop that goes from the last build to the first.
module _ (builds : List (List LfBinding)) (i : ℕ) (build old : List LfBinding) (less : i < length builds) (is : build ≡ get_or builds (length builds - 1 - i) build)
    (all : AllFinals (drop (length builds - i) builds) old) where
  abbrev place : ℕ
  place = length builds - 1 - i

  next_place : place + 1 ≡ length builds - i
  next_place = omega (arith, less)

  rest_is : drop place builds ≡ build ∷ drop (length builds - i) builds
  rest_is =
      drop_more builds place build (omega (arith, less)) ∙ ap (λ b. b ∷ drop (place + 1) builds) (sym is) ∙ ap (λ k. build ∷ drop k builds) next_place

  pub may_put_back : IsLed builds → (sig : LfSignature) × (list : LfGoals) × (next : LfGoals) × BuildTakes sig list next build × EndsGoals sig (all_goals next) old
  may_put_back led = from (subst IsLed rest_is (led_from builds place led))
    where
      from : IsLed (build ∷ drop (length builds - i) builds) → (sig : LfSignature) × (list : LfGoals) × (next : LfGoals) × BuildTakes sig list next build × EndsGoals sig (all_goals next) old
      from (sig, list, (next, takes, leads)) = (sig, list, next, takes, (all sig next leads).ends)

  pub all_back : (new : List LfBinding) →
      ((sig : LfSignature) (list next : LfGoals) → BuildTakes sig list next build → EndsGoals sig (all_goals next) old → PutsBack sig list next build old new) →
      AllFinals (drop (length builds - (i + 1)) builds) new
  all_back new puts =
      let same : place ≡ length builds - (i + 1) = omega (arith, less) in
      subst (λ k. AllFinals (drop k builds) new) same (subst (λ bs. AllFinals bs new) (sym rest_is) (one_before build (drop (length builds - i) builds) old new all puts))

pub at_the_end : (builds : List (List LfBinding)) (finals : List LfBinding) → finals ≡ [] → AllFinals (drop (length builds - 0) builds) finals
at_the_end builds finals none =
    let end : drop (length builds - 0) builds ≡ [] = drop_all (length builds - 0) builds (omega arith) in
    subst (λ fs. AllFinals (drop (length builds - 0) builds) fs) (sym none) (subst (λ bs. AllFinals bs []) (sym end) without_builds)

pub at_the_start : (builds : List (List LfBinding)) (finals : List LfBinding) (i : ℕ) → length builds ≤ i → AllFinals (drop (length builds - i) builds) finals → AllFinals builds finals
at_the_start builds finals i end all = let same : length builds - i ≡ 0 = omega (arith, end) in subst (λ k. AllFinals (drop k builds) finals) same all

-- one abstraction more
pub lam_more : (n : ℕ) (t b x : LfTerm) → x ≡ t → t ≡ lams n b → lam x ≡ lams (n + 1) b
lam_more n t b x is so_far = let next : suc n ≡ n + 1 = omega arith in ap lam (is ∙ so_far) ∙ ap (λ k. lams k b) next

-- The term of a type.
module _ (a : LfType) (builds : List (List LfBinding)) (finals : List LfBinding) (all : AllFinals builds finals) where
  pub first_is_ended : (sig : LfSignature) → Leads sig (opening a) builds → (b : LfBinding) × (binding_for finals 0 ≡ Some b)
  first_is_ended sig leads = there (binding_for finals 0) refl
    where
      there : (o : Option LfBinding) → binding_for finals 0 ≡ o → (b : LfBinding) × (binding_for finals 0 ≡ Some b)
      there None is = absurd (first_is_there sig a finals (all sig (opening a) leads).ends is)
      there (Some b) is = (b, is)

  pub whole_term_is : (b : LfBinding) (t : LfTerm) (n : ℕ) → binding_for finals 0 ≡ Some b → n ≡ length (binders_of a) → t ≡ lams n b.bound_body →
      (sig : LfSignature) (leads : Leads sig (opening a) builds) → t ≡ lams (length (binders_of a)) (carried sig (opening a) builds leads (own_term a))
  whole_term_is b t n found count is sig leads =
      let ended = all sig (opening a) leads in
      is ∙ ap (λ k. lams k b.bound_body) count
      ∙ ap (lams (length (binders_of a))) (own_term_becomes sig a finals ended.ends b found ∙ sym (ended.carries (binders_of a) (own_term a) _ (own_term_is_shaped sig a)))
