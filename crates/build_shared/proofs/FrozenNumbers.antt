-- The numbers of goals that stay as they are, as a test.
use Rattle.std.proofs.Common.{◌≡◌, ℕ, ◌+◌, ◌<◌, ◌≤◌, Bool, true, false, List, [], ◌∷◌, ◌++◌, length, get_or, take, take_all, map, refl, sym, ap, ap₂, ◌∙◌}
use Rattle.std.specs.Prelude.{nat_eq, ◌||◌}
use Rattle.std.specs.Cmp.{nat_eq_equiv}
use Rattle.std.specs.List.{list_any}
use Rattle.std.proofs.lemmas.List.{map-append, append_assoc}
use Rattle.std.proofs.lemmas.List.Folds.{list_any_at}
use Rattle.lf_definitions.specs.Typing.{LfGoal}
use Rattle.lf_definitions.specs.GoalLists.{ids}
use Rattle.lf_terms.specs.declared.goal.Goal.{Goal}
use Rattle.lf_terms.specs.Targets.{goal_of}
use Rattle.lf_terms.proofs.ShapeLists.{take_read}
use Rattle.unification.specs.Patterns.{has_number}

pub only_number : (m n : ℕ) → nat_eq m n ≡ has_number (m ∷ []) n
only_number m n = or_false (nat_eq m n)
  where
    or_false : (b : Bool) → b ≡ b || false
    or_false true = refl
    or_false false = refl

pub any_number : (ns : List ℕ) (n : ℕ) → list_any (nat_eq n) ns ≡ has_number ns n
any_number [] n = refl
any_number (m ∷ ns) n = ap₂ (λ a b. a || b) (nat_eq_equiv.symm n m) (any_number ns n)

pub number_at : (ns : List ℕ) (i n : ℕ) → i < length ns → nat_eq (get_or ns i 0) n ≡ true → has_number ns n ≡ true
number_at ns i n less same = sym (any_number ns n) ∙ list_any_at (nat_eq n) ns i 0 less (nat_eq_equiv.symm n (get_or ns i 0) ∙ same)

pub numbers_more : (xs : List Goal) (i : ℕ) (x : Goal) (old numbers new : List ℕ) → i < length xs → x ≡ get_or xs i x → numbers ≡ old ++ ids (map goal_of (take i xs)) → new ≡ numbers ++ x.id ∷ [] →
    new ≡ old ++ ids (map goal_of (take (i + 1) xs))
numbers_more xs i x old numbers new within is so_far pushed =
    let first = map goal_of (take i xs) in
    pushed ∙ ap (λ l. l ++ x.id ∷ []) so_far ∙ append_assoc old (ids first) (x.id ∷ [])
    ∙ ap (λ l. old ++ l) (sym (ap (λ l. ids (map goal_of l)) (take_read xs i x within is) ∙ ap ids (map-append goal_of (take i xs) (x ∷ [])) ∙ map-append (λ (g : LfGoal). g.id) first (goal_of x ∷ [])))

pub numbers_all : (xs : List Goal) (i : ℕ) (goals : List LfGoal) (old numbers : List ℕ) → length xs ≤ i → map goal_of xs ≡ goals → numbers ≡ old ++ ids (map goal_of (take i xs)) → numbers ≡ old ++ ids goals
numbers_all xs i goals old numbers end are so_far = so_far ∙ ap (λ l. old ++ ids (map goal_of l)) (take_all i xs end) ∙ ap (λ l. old ++ ids l) are

pub numbers_of_both : (ps ws : List LfGoal) → ids (ps ++ ws) ≡ ids ps ++ ids ws
numbers_of_both ps ws = map-append (λ (g : LfGoal). g.id) ps ws
