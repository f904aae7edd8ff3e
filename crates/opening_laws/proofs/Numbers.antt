-- The numbers of fresh goals: they follow one another, differ from those before, and are found with their shapes.
use Rattle.std.proofs.Common.{◌≡◌, ◌≢◌, ℕ, zero, suc, ◌+◌, ◌<◌, ◌≤◌, Bool, true, false, Option, Some, None, option_map, List, [], ◌∷◌, ◌++◌, All, length, get_or, refl, sym, ap, ◌∙◌, subst, arith, append_assoc, append-nil}
use Rattle.std.specs.Prelude.{nat_eq, if◌then◌else◌, slice_get}
use Rattle.std.proofs.lemmas.Bool.{eqb-true, eq-eqb}
use Rattle.std.proofs.lemmas.List.Elements.{All-nil, All-cons, All-head, All-tail, All-weaker, All-push, All-get_or}
use Rattle.std.proofs.lemmas.List.Quantifiers.{all_pairs_push}
use Rattle.lf_definitions.specs.Syntax.{LfHead, bound, constant, metavariable, Spine, SimpleType, LfType, LfAtom, Context, shape_of}
use Rattle.lf_definitions.specs.Shaping.{under, under_all, shape_of_metavariable, globals}
use Rattle.lf_definitions.specs.Substitution.{Replacement}
use Rattle.lf_definitions.specs.Typing.{LfGoal, goal_type, type_of_metavariable}
use Rattle.lf_definitions.specs.ShapedGoals.{shapes_of_goals}
use Rattle.lf_definitions.specs.GoalLists.{AreDistinct}
use Rattle.lf_definitions.proofs.Renaming.{extended-next, each_head}
use Rattle.lf_definitions.proofs.ShapedGoals.{ScopeGrows}
use Rattle.opening_laws.specs.Openings.{skip_fixed, unfixed_from, IsOpenedFrom, opens_conclusion, opens_fixed, opens_fresh}
use Rattle.opening_laws.specs.Laws.{FreshGoalsAreNumbered}

-- The numbers of goals follow one another.
abbrev pub Numbered : ℕ → List LfGoal → Type 0
Numbered n [] = Unit {0}
Numbered n (g ∷ goals) = (g.id ≡ n) × Numbered (suc n) goals

numbered_at : (goals : List LfGoal) (n : ℕ) → Numbered n goals → (k : ℕ) (g : LfGoal) → slice_get goals k ≡ Some g → g.id ≡ n + k
numbered_at [] n numbered k g e = absurd cc
numbered_at (h ∷ goals) n numbered zero g e =
    let same : h ≡ g = cc in
    let here : n ≡ n + 0 = omega arith in
    ap (λ x. x.id) (sym same) ∙ numbered.0 ∙ here
numbered_at (h ∷ goals) n numbered (suc k) g e =
    let there : suc n + k ≡ n + suc k = omega arith in
    numbered_at goals (suc n) numbered.1 k g e ∙ there

module _ (kept : List ℕ) (count : ℕ) (entries : Context) (fixed : List (ℕ × ℕ)) where
  pub follow_from : {σ : Replacement} {i first : ℕ} {type : LfType} {ts : Spine} {goals : List LfGoal} {last : LfAtom} → IsOpenedFrom kept count entries fixed σ i first type ts goals last → Numbered first goals
  follow_from (opens_conclusion p) = tt
  follow_from (opens_fixed place e p) = follow_from p
  follow_from (opens_fresh inside e put p) = (refl, follow_from p)

  counted_from : {σ : Replacement} {i first : ℕ} {type : LfType} {ts : Spine} {goals : List LfGoal} {last : LfAtom} → IsOpenedFrom kept count entries fixed σ i first type ts goals last →
      length goals ≡ length (unfixed_from fixed i type)
  counted_from (opens_conclusion p) = refl
  counted_from (opens_fixed {i = i} {b = b} place e p) = counted_from p ∙ ap (λ o. length (skip_fixed o i (unfixed_from fixed (suc i) b))) (sym e)
  counted_from (opens_fresh {i = i} {b = b} inside e put p) = ap suc (counted_from p) ∙ ap (λ o. length (skip_fixed o i (unfixed_from fixed (suc i) b))) (sym e)

pub fresh_goals_are_numbered : FreshGoalsAreNumbered
fresh_goals_are_numbered ctx kept fixed first type result p =
    (counted_from kept (length ctx) p.entries fixed p.opened, numbered_at result.fresh first (follow_from kept (length ctx) p.entries fixed p.opened))

-- the shape of a metavariable among goals
abbrev pub found_shape : List LfGoal → ℕ → Option SimpleType
found_shape goals = shape_of_metavariable (shapes_of_goals goals)

abbrev pub AreBelow : ℕ → List LfGoal → Type 0
AreBelow n = All (λ g. g.id < n)

-- it is the shape of the metavariable's type
shape_of_found : (goals : List LfGoal) (k : ℕ) → found_shape goals k ≡ option_map shape_of (type_of_metavariable goals k)
shape_of_found [] k = refl
shape_of_found (g ∷ goals) k = step (nat_eq g.id k) (shape_of_found goals k)
  where
    step : (b : Bool) → found_shape goals k ≡ option_map shape_of (type_of_metavariable goals k) →
        (if b then Some (shape_of (goal_type g)) else found_shape goals k) ≡ option_map shape_of (if b then Some (goal_type g) else type_of_metavariable goals k)
    step true rest = refl
    step false rest = rest

skips : (old new : List LfGoal) (n k : ℕ) → AreBelow n old → n ≤ k → type_of_metavariable (old ++ new) k ≡ type_of_metavariable new k
skips [] new n k below le = refl
skips (g ∷ old) new n k below le = step (nat_eq g.id k) refl (All-head (λ h. h.id < n) g old below) (skips old new n k (All-tail (λ h. h.id < n) g old below) le)
  where
    step : (b : Bool) → nat_eq g.id k ≡ b → g.id < n → type_of_metavariable (old ++ new) k ≡ type_of_metavariable new k →
        (if b then Some (goal_type g) else type_of_metavariable (old ++ new) k) ≡ type_of_metavariable new k
    step true is less rest = let same : g.id ≡ k = eqb-true g.id k is in absurd (omega (arith, same, less, le))
    step false is less rest = rest

pub keeps_type : (old new : List LfGoal) (k : ℕ) (a : LfType) → type_of_metavariable old k ≡ Some a → type_of_metavariable (old ++ new) k ≡ Some a
keeps_type [] new k a e = absurd cc
keeps_type (g ∷ old) new k a e = step (nat_eq g.id k) e (keeps_type old new k a)
  where
    step : (b : Bool) → (if b then Some (goal_type g) else type_of_metavariable old k) ≡ Some a → (type_of_metavariable old k ≡ Some a → type_of_metavariable (old ++ new) k ≡ Some a) →
        (if b then Some (goal_type g) else type_of_metavariable (old ++ new) k) ≡ Some a
    step true is rest = is
    step false is rest = rest is

keeps_found : (old new : List LfGoal) (k : ℕ) (s : SimpleType) → found_shape old k ≡ Some s → found_shape (old ++ new) k ≡ Some s
keeps_found old new k s e = step (type_of_metavariable old k) refl (sym (shape_of_found old k) ∙ e)
  where
    step : (o : Option LfType) → type_of_metavariable old k ≡ o → option_map shape_of o ≡ Some s → found_shape (old ++ new) k ≡ Some s
    step None is f = absurd cc
    step (Some a) is f = shape_of_found (old ++ new) k ∙ ap (option_map shape_of) (keeps_type old new k a is) ∙ f

one_more_below : (n : ℕ) (old : List LfGoal) (g : LfGoal) → g.id ≡ n → AreBelow n old → AreBelow (suc n) (old ++ g ∷ [])
one_more_below n old g e below = All-push (λ h. h.id < suc n) old g (All-weaker (λ h. h.id < n) (λ h. h.id < suc n) (λ h less. omega arith) old below) (omega (arith, e))

regroup : (old new : List LfGoal) (g : LfGoal) → (old ++ g ∷ []) ++ new ≡ old ++ g ∷ new
regroup old new g = append_assoc old (g ∷ []) new

-- The metavariable of a goal has the goal's type.
abbrev pub IsTypedIn : List LfGoal → LfGoal → Type 0
IsTypedIn goals g = type_of_metavariable goals g.id ≡ Some (goal_type g)

pub typed_among : (new old : List LfGoal) (n : ℕ) → AreBelow n old → Numbered n new → All (IsTypedIn (old ++ new)) new
typed_among [] old n below numbered = All-nil (IsTypedIn (old ++ []))
typed_among (g ∷ new) old n below numbered =
    let e : g.id ≡ n = numbered.0 in
    All-cons (IsTypedIn (old ++ g ∷ new)) g new
    (skips old (g ∷ new) n g.id below (omega (arith, e)) ∙ ap (λ b. if b then Some (goal_type g) else type_of_metavariable new g.id) (eq-eqb g.id g.id refl))
    (subst (λ goals. All (IsTypedIn goals) new) (regroup old new g) (typed_among new (old ++ g ∷ []) (suc n) (one_more_below n old g e below) numbered.1))

pub found_among : (new old : List LfGoal) (n : ℕ) → AreBelow n old → Numbered n new → All (λ g. found_shape (old ++ new) g.id ≡ Some (shape_of (goal_type g))) new
found_among new old n below numbered =
    All-weaker (IsTypedIn (old ++ new)) (λ g. found_shape (old ++ new) g.id ≡ Some (shape_of (goal_type g)))
    (λ g typed. shape_of_found (old ++ new) g.id ∙ ap (option_map shape_of) typed) new (typed_among new old n below numbered)

pub distinct_more : (new old : List LfGoal) (n : ℕ) → AreDistinct old → AreBelow n old → Numbered n new → AreDistinct (old ++ new)
distinct_more [] old n distinct below numbered = subst AreDistinct (sym (append-nil old)) distinct
distinct_more (g ∷ new) old n distinct below numbered =
    let e : g.id ≡ n = numbered.0 in
    subst AreDistinct (regroup old new g)
    (distinct_more new (old ++ g ∷ []) (suc n)
    (all_pairs_push (λ h k. h.id ≢ k.id) old g distinct (λ k d within. apart (get_or old k d) g n (All-get_or (λ h. h.id < n) old k d within below) e))
    (one_more_below n old g e below) numbered.1)
  where
    apart : (h k : LfGoal) (m : ℕ) → h.id < m → k.id ≡ m → h.id ≢ k.id
    apart h k m less is same = absurd (omega (arith, less, is, same))

-- More goals leave the shapes that are known.
pub more_goals : (constants : List SimpleType) (old new : List LfGoal) (ss : List SimpleType) →
    ScopeGrows (under_all ss (globals constants (shapes_of_goals old))) (under_all ss (globals constants (shapes_of_goals (old ++ new))))
more_goals constants old new ss = under_each ss (globals constants (shapes_of_goals old)) (globals constants (shapes_of_goals (old ++ new))) start
  where
    start : ScopeGrows (globals constants (shapes_of_goals old)) (globals constants (shapes_of_goals (old ++ new)))
    start (bound n) s e = absurd cc
    start (constant c) s e = e
    start (metavariable g) s e = keeps_found old new g s e

    under_each : (ss : List SimpleType) (Γ Δ : LfHead → Option SimpleType) → ScopeGrows Γ Δ → ScopeGrows (under_all ss Γ) (under_all ss Δ)
    under_each [] Γ Δ grow = grow
    under_each (a ∷ rest) Γ Δ grow =
        under_each rest (under a Γ) (under a Δ)
        (each_head (λ h. (s : SimpleType) → under a Γ h ≡ Some s → under a Δ h ≡ Some s) (λ s e. e)
        (λ h s e. extended-next (Some a) Δ h ∙ grow h s (sym (extended-next (Some a) Γ h) ∙ e)))
