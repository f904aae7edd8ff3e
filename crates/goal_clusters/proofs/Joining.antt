-- Changes of links one after another: by the numbers that a goal mentions, and by goal after goal.
use Rattle.std.proofs.Common.{◌≡◌, ℕ, suc, ◌+◌, ◌<◌, List, [], ◌∷◌, ◌++◌, map, length, get_or, take, refl, sym, ap, ◌∙◌, subst, arith}
use Rattle.std.specs.Prelude.{nat_eq}
use Rattle.std.specs.List.{position}
use Rattle.std.proofs.lemmas.List.{length-map, length-take-le, map_push}
use Rattle.lf_definitions.proofs.Lists.{take_next}
use Rattle.lf_definitions.specs.Typing.{LfGoal, goal_type}
use Rattle.lf_terms.specs.declared.goal.Goal.{Goal}
use Rattle.lf_terms.specs.Targets.{goal_of}
use Rattle.goal_clusters.specs.Mentioned.{numbers_in_type}
use Rattle.goal_clusters.specs.Linking.{joined_if, joined_by, joined_all, LeadsTo, Relinks}

pub relinks_on : (a b c : List ℕ) (f g h : (ℕ → ℕ) → ℕ → ℕ) → Relinks a b f → Relinks b c g → ((root : ℕ → ℕ) → g (f root) ≡ h root) → Relinks a c h
relinks_on a b c f g h p q same = record {
  as_long = q.as_long ∙ p.as_long;
  leads_back = q.leads_back;
  leads_to = λ root t. subst (LeadsTo c) (same root) (q.leads_to (f root) (p.leads_to root t));
}

-- by numbers
joined_by-last : (ids : List ℕ) (i : ℕ) (ms : List ℕ) (m : ℕ) (root : ℕ → ℕ) → joined_if i (position (nat_eq m) ids) (joined_by ids i ms root) ≡ joined_by ids i (ms ++ m ∷ []) root
joined_by-last ids i [] m root = refl
joined_by-last ids i (k ∷ ms) m root = joined_by-last ids i ms m (joined_if i (position (nat_eq k) ids) root)

pub one_more_number : (ids : List ℕ) (place : ℕ) (ms : List ℕ) (i x : ℕ) (a b c : List ℕ) → i < length ms → x ≡ get_or ms i x →
    Relinks a b (joined_by ids place (take i ms)) → Relinks b c (joined_if place (position (nat_eq x) ids)) → Relinks a c (joined_by ids place (take (i + 1) ms))
one_more_number ids place ms i x a b c within is before here =
    relinks_on a b c (joined_by ids place (take i ms)) (joined_if place (position (nat_eq x) ids)) (joined_by ids place (take (i + 1) ms)) before here
    (λ root. joined_by-last ids place (take i ms) x root ∙ ap (λ l. joined_by ids place l root) (take_next ms i x within is))

-- by goals
joined_all-last : (ids : List ℕ) (first : ℕ) (goals : List LfGoal) (g : LfGoal) (place : ℕ) (root : ℕ → ℕ) → first + length goals ≡ place →
    joined_by ids place (numbers_in_type (goal_type g)) (joined_all ids first goals root) ≡ joined_all ids first (goals ++ g ∷ []) root
joined_all-last ids first [] g place root same = let here : place ≡ first = omega (arith, same) in ap (λ p. joined_by ids p (numbers_in_type (goal_type g)) root) here
joined_all-last ids first (h ∷ goals) g place root same = joined_all-last ids (suc first) goals g place (joined_by ids first (numbers_in_type (goal_type h)) root) (omega (arith, same))

pub one_more_goal : (ids : List ℕ) (first : ℕ) (items : List Goal) (i : ℕ) (x : Goal) (a b c : List ℕ) → i < length items → x ≡ get_or items i x →
    Relinks a b (joined_all ids first (map goal_of (take i items))) → Relinks b c (joined_by ids (first + i) (numbers_in_type (goal_type (goal_of x)))) →
    Relinks a c (joined_all ids first (map goal_of (take (i + 1) items)))
one_more_goal ids first items i x a b c within is before here =
    relinks_on a b c (joined_all ids first (map goal_of (take i items))) (joined_by ids (first + i) (numbers_in_type (goal_type (goal_of x)))) (joined_all ids first (map goal_of (take (i + 1) items))) before here
    (λ root. joined_all-last ids first (map goal_of (take i items)) (goal_of x) (first + i) root (ap (λ n. first + n) counted)
    ∙ ap (λ l. joined_all ids first l root) (sym (map_push goal_of (take i items) x) ∙ ap (map goal_of) (take_next items i x within is)))
  where
    counted : length (map goal_of (take i items)) ≡ i
    counted = length-map (take i items) goal_of ∙ length-take-le i items (omega (arith, within))
