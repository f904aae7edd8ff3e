-- What is true of all that is found in lists, and of rules that are ranked.
use Rattle.std.proofs.Common.{◌≡◌, ◌≢◌, suc, ◌<◌, Bool, true, false, Some, List, [], ◌∷◌, ◌++◌, All, refl, subst, arith}
use Rattle.std.specs.Prelude.{if◌then◌else◌, find, flat_map}
use Rattle.std.proofs.Math.Nat.{le-max_left}
use Rattle.std.proofs.lemmas.List.Elements.{All-nil, All-cons, All-head, All-tail, All-append, All-weaker}
use Rattle.lf_definitions.proofs.Options.{Some-Some}
use Rattle.lf_definitions.specs.Typing.{LfGoal}
use Rattle.lf_definitions.specs.GoalLists.{ids, above, first_of}
use Rattle.application_laws.proofs.Members.{IsIn, in_here, in_later}
use Rattle.alternatives.specs.Rules.{LfRule}
use Rattle.alternatives.specs.NormalForms.{has_none}
use Rattle.alternatives.specs.Alternatives.{ranks_before, ranked_with, ranked}

pub All-find : {X : Type 0} (P : X → Type 0) (test : X → Bool) (xs : List X) → All P xs → (x : X) → find test xs ≡ Some x → P x
All-find P test [] all x e = absurd cc
All-find {X} P test (y ∷ rest) all x e = step (test y) e (All-find P test rest (All-tail P y rest all) x)
  where
    step : (b : Bool) → (if b then Some y else find test rest) ≡ Some x → (find test rest ≡ Some x → P x) → P x
    step true f later = subst P (Some-Some f) (All-head P y rest all)
    step false f later = later f

pub All-flat_map : {X Y : Type 0} (P : Y → Type 0) (f : X → List Y) (xs : List X) → All (λ x. All P (f x)) xs → All P (flat_map f xs)
All-flat_map P f [] all = All-nil P
All-flat_map P f (x ∷ rest) all = All-append P (f x) (flat_map f rest) (All-head (λ y. All P (f y)) x rest all) (All-flat_map P f rest (All-tail (λ y. All P (f y)) x rest all))

All-ranked_with : (P : LfRule → Type 0) (rule : LfRule) (rules : List LfRule) → P rule → All P rules → All P (ranked_with rule rules)
All-ranked_with P rule [] first all = All-cons P rule [] first (All-nil P)
All-ranked_with P rule (other ∷ rest) first all = step (ranks_before other rule) (All-ranked_with P rule rest first (All-tail P other rest all))
  where
    step : (b : Bool) → All P (ranked_with rule rest) → All P (if b then other ∷ ranked_with rule rest else rule ∷ other ∷ rest)
    step true later = All-cons P other (ranked_with rule rest) (All-head P other rest all) later
    step false later = All-cons P rule (other ∷ rest) first all

pub All-ranked : (P : LfRule → Type 0) (rules : List LfRule) → All P rules → All P (ranked rules)
All-ranked P [] all = All-nil P
All-ranked P (rule ∷ rest) all = All-ranked_with P rule (ranked rest) (All-head P rule rest all) (All-ranked P rest (All-tail P rule rest all))

-- Each goal has one of the numbers.
pub own_numbers : (goals : List LfGoal) → All (λ h. IsIn h.id (ids goals)) goals
own_numbers [] = All-nil (λ h. IsIn h.id [])
own_numbers (g ∷ rest) =
    All-cons (λ h. IsIn h.id (ids (g ∷ rest))) g rest (in_here g.id (ids rest))
    (All-weaker (λ h. IsIn h.id (ids rest)) (λ h. IsIn h.id (ids (g ∷ rest))) (λ h is. in_later h.id g.id (ids rest) is) rest (own_numbers rest))

-- Where there is a goal, there is a first one, and a number that is above.
pub some_goal : (xs ys : List LfGoal) → has_none xs ≡ false → xs ++ ys ≢ []
some_goal [] ys e f = absurd cc
some_goal (x ∷ xs) ys e f = absurd cc

pub some_above : (xs ys : List LfGoal) → has_none xs ≡ false → 0 < above (ids (xs ++ ys))
some_above [] ys e = absurd cc
some_above (x ∷ xs) ys e = let greater = le-max_left (suc x.id) (above (ids (xs ++ ys))) in omega (arith, greater)

pub some_first : (xs : List LfGoal) → 0 < above (ids xs) → (h : LfGoal) × (first_of xs ≡ Some h)
some_first [] less = absurd (omega (arith, less))
some_first (x ∷ xs) less = (x, refl)
