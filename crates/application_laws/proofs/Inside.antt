-- Goals that mention none outside are shaped by themselves, and what is offered for one of them is unified among these as among all.
use Rattle.std.proofs.Common.{◌≡◌, ◌≢◌, ◌⊎◌, inl, inr, ℕ, zero, suc, ◌+◌, ◌<◌, ◌≤◌, Bool, true, false, Option, Some, List, [], ◌∷◌, ◌++◌, All, AllPairs, length, refl, sym, ap, ◌∙◌, subst, arith}
use Rattle.std.specs.Prelude.{nat_eq, slice_index_or, ◌||◌, if◌then◌else◌, Contains}
use Rattle.std.specs.List.{list_any}
use Rattle.std.proofs.lemmas.Bool.{eqb-true}
use Rattle.std.proofs.lemmas.List.Elements.{All-nil, All-cons, All-head, All-tail, All-contains, All-weaker}
use Rattle.std.proofs.lemmas.List.Kept.{AllPairs-cons}
use Rattle.head_laws.proofs.Numbers.{AllPairs-head, AllPairs-tail, Contains-here, Contains-later}
use Rattle.lf_definitions.specs.Syntax.{LfHead, bound, constant, metavariable, LfTerm, Spine, SimpleType, LfType, atomic, shape_of}
use Rattle.lf_definitions.specs.Renaming.{next}
use Rattle.lf_definitions.specs.Shaping.{Scope, under, Shaped, shaped_lam, shaped_at, ShapedSpine, shaped_none, shaped_arg, ShapedType, shaped_pi, shaped_family, shape_of_metavariable}
use Rattle.lf_definitions.specs.ShapedGoals.{shapes_of_goals, scope_in, ShapedGoal}
use Rattle.lf_definitions.specs.Occurrence.{OccursIn, occurs_head, occurs_args, occurs_lam, OccursInSpine, occurs_first, occurs_later, OccursInType, occurs_binder, occurs_rest, occurs_family, OccursInGoal}
use Rattle.lf_definitions.specs.Typing.{LfGoal, goal_type}
use Rattle.lf_definitions.specs.GoalLists.{ids}
use Rattle.lf_definitions.proofs.Renaming.{each_head, extended-next}
use Rattle.lf_definitions.proofs.ShapedGoals.{ShapedType-pis, ShapedContext-pis, ShapedType-under_pis}
use Rattle.lf_functions.specs.Endings.{unifier_of}
use Rattle.lf_functions.proofs.EndingLaws.{unifiers_look_at_what_occurs}
use Rattle.applications.specs.Methods.{Outcome, closes, adds, LfCandidate}
use Rattle.applications.specs.Candidates.{candidates}
use Rattle.applications.specs.Applications.{freezing}
use Rattle.application_laws.specs.Conditions.{IsMentionedOrFresh, MayBeUsed, inside}
use Rattle.application_laws.specs.Laws.{GoalsInsideAreShaped, CandidatesAreUnifiedInside}
use Rattle.application_laws.proofs.Lists.{no_pairs}
use Rattle.application_laws.proofs.Members.{in_below}
use Rattle.application_laws.proofs.Laws.{candidates_may_be_used}

-- What is shaped is so wherever the heads that occur have the same shapes.
under_same : (Γ Δ : Scope) (a : SimpleType) (P : LfHead → Type 0) → ((h : LfHead) → P (next h) → Γ h ≡ Δ h) → (h : LfHead) → P h → under a Γ h ≡ under a Δ h
under_same Γ Δ a P same h p =
    each_head (λ k. P k → under a Γ k ≡ under a Δ k) (λ q. refl) (λ k q. extended-next (Some a) Γ k ∙ same k q ∙ sym (extended-next (Some a) Δ k)) h p

mutual
  same_term : {Γ : Scope} {t : LfTerm} {s : SimpleType} → Shaped Γ t s → (Δ : Scope) → ((h : LfHead) → OccursIn h t → Γ h ≡ Δ h) → Shaped Δ t s
  same_term (shaped_lam {Γ = Γ} {b = b} {a = a} p) Δ same = shaped_lam (same_term p (under a Δ) (under_same Γ Δ a (λ h. OccursIn h b) (λ h o. same h (occurs_lam h b o))))
  same_term (shaped_at {h = h} {ts = ts} s e ps) Δ same = shaped_at s (sym (same h (occurs_head h ts)) ∙ e) (same_spine ps Δ (λ k o. same k (occurs_args k h ts o)))

  same_spine : {Γ : Scope} {ts : Spine} {s : SimpleType} → ShapedSpine Γ ts s → (Δ : Scope) → ((h : LfHead) → OccursInSpine h ts → Γ h ≡ Δ h) → ShapedSpine Δ ts s
  same_spine shaped_none Δ same = shaped_none
  same_spine (shaped_arg {t = t} {ts = ts} p ps) Δ same = shaped_arg (same_term p Δ (λ h o. same h (occurs_first h t ts o))) (same_spine ps Δ (λ h o. same h (occurs_later h t ts o)))

pub same_type : {kinds : ℕ → Option SimpleType} {Γ : Scope} {a : LfType} → ShapedType kinds Γ a → (Δ : Scope) → ((h : LfHead) → OccursInType h a → Γ h ≡ Δ h) → ShapedType kinds Δ a
same_type (shaped_pi {Γ = Γ} {a = a} {b = b} p q) Δ same =
    shaped_pi (same_type p Δ (λ h o. same h (occurs_binder h a b o)))
    (same_type q (under (shape_of a) Δ) (under_same Γ Δ (shape_of a) (λ h. OccursInType h b) (λ h o. same h (occurs_rest h a b o))))
same_type (shaped_family {f = f} {args = args} s e ps) Δ same = shaped_family s e (same_spine ps Δ (λ h o. same h (occurs_family h f args o)))

module _ (within : ℕ → Bool) where
  pub All-inside : (P : LfGoal → Type 0) (goals : List LfGoal) → All (λ h. within h.id ≡ true → P h) goals → All P (inside within goals)
  All-inside P [] all = All-nil P
  All-inside P (h ∷ rest) all = step (within h.id) refl (All-inside P rest (All-tail (λ x. within x.id ≡ true → P x) h rest all))
    where
      step : (b : Bool) → within h.id ≡ b → All P (inside within rest) → All P (if b then h ∷ inside within rest else inside within rest)
      step true is later = All-cons P h (inside within rest) (All-head (λ x. within x.id ≡ true → P x) h rest all is) later
      step false is later = later

  AllPairs-inside : (R : LfGoal → LfGoal → Type 0) (goals : List LfGoal) → AllPairs R goals → AllPairs R (inside within goals)
  AllPairs-inside R [] all = no_pairs R
  AllPairs-inside R (h ∷ rest) all = step (within h.id) (AllPairs-inside R rest (AllPairs-tail R h rest all))
    where
      step : (b : Bool) → AllPairs R (inside within rest) → AllPairs R (if b then h ∷ inside within rest else inside within rest)
      step true later = AllPairs-cons R h (inside within rest) (All-inside (R h) rest (All-weaker (R h) (λ x. within x.id ≡ true → R h x) (λ x r is. r) rest (AllPairs-head R h rest all))) later
      step false later = later

  pub contains_inside : (goals : List LfGoal) (g : LfGoal) → Contains goals g → within g.id ≡ true → Contains (inside within goals) g
  contains_inside [] g (k, less, e) is = absurd (omega (arith, less))
  contains_inside (h ∷ rest) g (zero, less, e) is =
      subst (λ x. Contains (if within x.id then x ∷ inside within rest else inside within rest) g) (sym e)
      (subst (λ b. Contains (if b then g ∷ inside within rest else inside within rest) g) (sym is) (Contains-here g (inside within rest)))
  contains_inside (h ∷ rest) g (suc k, less, e) is = step (within h.id) (contains_inside rest g (k, omega (arith, less), e) is)
    where
      step : (b : Bool) → Contains (inside within rest) g → Contains (if b then h ∷ inside within rest else inside within rest) g
      step true later = Contains-later h (inside within rest) g later
      step false later = later

  -- A number inside has its shape, and is one of the goals, among those inside as among all.
  shape_inside : (goals : List LfGoal) (m : ℕ) → within m ≡ true → shape_of_metavariable (shapes_of_goals goals) m ≡ shape_of_metavariable (shapes_of_goals (inside within goals)) m
  shape_inside [] m is = refl
  shape_inside (h ∷ rest) m is = step (within h.id) refl (shape_inside rest m is)
    where
      step : (b : Bool) → within h.id ≡ b → shape_of_metavariable (shapes_of_goals rest) m ≡ shape_of_metavariable (shapes_of_goals (inside within rest)) m →
          shape_of_metavariable (shapes_of_goals (h ∷ rest)) m ≡ shape_of_metavariable (shapes_of_goals (if b then h ∷ inside within rest else inside within rest)) m
      step true kept later = ap (λ o. if nat_eq h.id m then Some (shape_of (goal_type h)) else o) later
      step false kept later = passed (nat_eq h.id m) refl ∙ later
        where
          passed : (b : Bool) → nat_eq h.id m ≡ b → (if b then Some (shape_of (goal_type h)) else shape_of_metavariable (shapes_of_goals rest) m) ≡ shape_of_metavariable (shapes_of_goals rest) m
          passed true same = absurd (clash (sym kept ∙ ap within (eqb-true h.id m same) ∙ is))
            where
              clash : false ≡ true → ⊥
              clash f = absurd cc
          passed false same = refl

  number_inside : (goals : List LfGoal) (m : ℕ) → within m ≡ true → list_any (nat_eq m) (ids (inside within goals)) ≡ list_any (nat_eq m) (ids goals)
  number_inside [] m is = refl
  number_inside (h ∷ rest) m is = step (within h.id) refl (number_inside rest m is)
    where
      step : (b : Bool) → within h.id ≡ b → list_any (nat_eq m) (ids (inside within rest)) ≡ list_any (nat_eq m) (ids rest) →
          list_any (nat_eq m) (ids (if b then h ∷ inside within rest else inside within rest)) ≡ list_any (nat_eq m) (ids (h ∷ rest))
      step true kept later = ap (λ b. nat_eq m h.id || b) later
      step false kept later = later ∙ passed (nat_eq m h.id) refl
        where
          passed : (b : Bool) → nat_eq m h.id ≡ b → list_any (nat_eq m) (ids rest) ≡ b || list_any (nat_eq m) (ids rest)
          passed true same = absurd (clash (sym kept ∙ ap within (sym (eqb-true m h.id same)) ∙ is))
            where
              clash : false ≡ true → ⊥
              clash f = absurd cc
          passed false same = refl

pub goals_inside_are_shaped : GoalsInsideAreShaped
goals_inside_are_shaped sig goals within shaped stay = (
  AllPairs-inside within (λ g h. g.id ≢ h.id) goals shaped.0,
  All-inside within (ShapedGoal sig (inside within goals)) goals (λ k d less is. shaped_again (slice_index_or goals k d) (shaped.1 k d less) (stay k d less is)),
)
  where
    same : (h : LfGoal) → ((m : ℕ) → OccursInGoal (metavariable m) h → within m ≡ true) → (k : LfHead) → OccursInType k (goal_type h) → scope_in sig goals [] k ≡ scope_in sig (inside within goals) [] k
    same h mentions (bound i) o = refl
    same h mentions (constant c) o = refl
    same h mentions (metavariable m) o = shape_inside within goals m (mentions m o)

    shaped_again : (h : LfGoal) → ShapedGoal sig goals h → ((m : ℕ) → OccursInGoal (metavariable m) h → within m ≡ true) → ShapedGoal sig (inside within goals) h
    shaped_again h is mentions =
        let whole = same_type (ShapedType-pis h.context (atomic h.target) is.0 is.1) (scope_in sig (inside within goals) []) (same h mentions) in
        (ShapedContext-pis h.context (atomic h.target) whole, ShapedType-under_pis h.context (atomic h.target) whole)

-- A number inside, or one above all, is a number of a goal inside where it is one of any.
pub numbers_inside : (within : ℕ → Bool) (n : ℕ) (goals : List LfGoal) → All (λ h. h.id < n) goals → (m : ℕ) → (within m ≡ true) ⊎ (n ≤ m) → list_any (nat_eq m) (ids (inside within goals)) ≡ list_any (nat_eq m) (ids goals)
numbers_inside within n goals below m (inl is) = number_inside within goals m is
numbers_inside within n goals below m (inr high) =
    absent (inside within goals) (All-inside within (λ h. h.id < n) goals (All-weaker (λ h. h.id < n) (λ h. within h.id ≡ true → h.id < n) (λ h less is. less) goals below)) ∙ sym (absent goals below)
  where
    absent : (list : List LfGoal) → All (λ h. h.id < n) list → list_any (nat_eq m) (ids list) ≡ false
    absent list all = step (list_any (nat_eq m) (ids list)) refl
      where
        step : (b : Bool) → list_any (nat_eq m) (ids list) ≡ b → b ≡ false
        step false e = refl
        step true e = let less = in_below m n list all e in absurd (omega (arith, less, high))

-- the numbers that are frozen
frozen_inside : (within : ℕ → Bool) (n : ℕ) (goals : List LfGoal) (g : LfGoal) → All (λ h. h.id < n) goals → (outcome : Outcome) (m : ℕ) → (within m ≡ true) ⊎ (n ≤ m) →
    freezing outcome (inside within goals) g m ≡ freezing outcome goals g m
frozen_inside within n goals g below closes m where_ = refl
frozen_inside within n goals g below (adds kept) m where_ = numbers_inside within n goals below m where_

pub candidates_are_unified_inside : CandidatesAreUnifiedInside
candidates_are_unified_inside sig shaped_sig goals shaped n below within stay g one_of is rule method takes =
    let others = inside within goals in
    let shaped_inside = goals_inside_are_shaped sig goals within shaped stay in
    let below_inside = All-inside within (λ h. h.id < n) goals (All-weaker (λ h. h.id < n) (λ h. within h.id ≡ true → h.id < n) (λ h less is_in. less) goals below) in
    let here = candidates_may_be_used sig shaped_sig goals shaped n below g one_of rule method takes in
    let there = candidates_may_be_used sig shaped_sig others shaped_inside n below_inside g (contains_inside within goals g one_of is) rule method takes in
    λ k d less. unified (slice_index_or (candidates sig rule method g n) k d) (here k d less) (there k d less)
  where
    mentions : (m : ℕ) → OccursInGoal (metavariable m) g → within m ≡ true
    mentions = All-contains (λ h. within h.id ≡ true → (m : ℕ) → OccursInGoal (metavariable m) h → within m ≡ true) goals g stay one_of is

    where_it_is : (last m : ℕ) → IsMentionedOrFresh g n last m → (within m ≡ true) ⊎ (n ≤ m)
    where_it_is last m (inl o) = inl (mentions m o)
    where_it_is last m (inr between) = inr between.0

    unified : (c : LfCandidate) → MayBeUsed sig goals n g c → MayBeUsed sig (inside within goals) n g c →
        unifier_of sig (inside within goals ++ c.opened.fresh) g.context (freezing c.outcome (inside within goals) g) c.equations
        ≡ unifier_of sig (goals ++ c.opened.fresh) g.context (freezing c.outcome goals g) c.equations
    unified c may also =
        unifiers_look_at_what_occurs sig sig (goals ++ c.opened.fresh) (inside within goals ++ c.opened.fresh) g.context g.context (freezing c.outcome goals g) (freezing c.outcome (inside within goals) g) c.equations
        may.equations_are_shaped also.equations_are_shaped (λ m o. frozen_inside within n goals g below c.outcome m (where_it_is (n + length c.opened.fresh) m (may.equations_mention m o)))
