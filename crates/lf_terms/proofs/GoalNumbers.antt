-- Goals by their numbers.
use Rattle.std.proofs.Common.{Bor, ◌≡◌, ◌≢◌, ℕ, zero, suc, ◌-◌, ◌<◌, Option, Some, None, option_map, Bool, true, false, IsTrue, nat_lt, if◌then◌else◌, nat_eq, List, [], ◌∷◌, ◌++◌, length, get_or, map, refl, sym, ap, ◌∙◌, subst, ⊎_elim, arith}
use Rattle.std.proofs.lemmas.Bool.{ltb-true, ltb-false, eq-eqb, ne_eqb, cases_lt}
use Rattle.std.proofs.lemmas.List.{get_or_default, get_or-map, length-map, map-append}
use Rattle.std.proofs.lemmas.List.Quantifiers.{all_pairs_push}
use Rattle.std.proofs.lemmas.List.Sorted.{IsPartitionedBy-ltb}
use Rattle.std.proofs.Math.Dec.{ltb}
use Rattle.std.specs.Prelude.{AllPairs, find}
use Rattle.std.specs.List.Sorted.{IsNonDecreasingBy, IsPartitionedBy, IsPartitionPoint}
use Rattle.lf_definitions.specs.Typing.{LfGoal}
use Rattle.lf_terms.specs.declared.goal.Goal.{Goal}
use Rattle.lf_terms.specs.GoalNumbers.{NumbersRise, goal_numbered}
use Rattle.lf_terms.specs.Targets.{goal_of}

-- the same of the goals themselves
abbrev Rise : List Goal → Type 0
Rise gs = AllPairs (λ g h. g.id < h.id) gs

rise_of : (gs : List Goal) → NumbersRise (map goal_of gs) → Rise gs
rise_of gs rises i j d less within =
    let first : (get_or (map goal_of gs) i (goal_of d)).id ≡ (get_or gs i d).id = ap (λ g. g.id) (get_or-map goal_of gs i d (goal_of d) (omega arith)) in
    let second : (get_or (map goal_of gs) j (goal_of d)).id ≡ (get_or gs j d).id = ap (λ g. g.id) (get_or-map goal_of gs j d (goal_of d) within) in
    let lengths = length-map gs goal_of in
    let rise = rises i j (goal_of d) less (omega (arith, within, lengths)) in
    omega (arith, first, second, rise)

pub no_numbers : NumbersRise []
no_numbers i j d less within = absurd (omega arith)

-- the last goal, as it is read with some default
pub last_is : (gs : List Goal) (last g : Goal) → IsTrue (nat_lt (get_or gs (length gs - 1) last).id g.id) → (d : Goal) → 0 < length gs → (get_or gs (length gs - 1) d).id < g.id
last_is gs last g less d some = subst (λ x. x.id < g.id) (get_or_default gs (length gs - 1) last d (omega (arith, some))) (ltb-true _ _ less)

-- one more goal, past the last
pub rise_on : (gs : List Goal) (g : Goal) → ((d : Goal) → 0 < length gs → (get_or gs (length gs - 1) d).id < g.id) → NumbersRise (map goal_of gs) → NumbersRise (map goal_of gs ++ goal_of g ∷ [])
rise_on gs g past rises = all_pairs_push (λ x y. x.id < y.id) (map goal_of gs) (goal_of g) rises below
  where
    below : (k : ℕ) (d : LfGoal) → k < length (map goal_of gs) → (get_or (map goal_of gs) k d).id < g.id
    below k d within =
        let lengths = length-map gs goal_of in
        let lt : k < length gs = omega (arith, within, lengths) in
        let here : (get_or (map goal_of gs) k d).id ≡ (get_or gs k g).id = ap (λ x. x.id) (get_or-map goal_of gs k g d lt) in
        let last : (get_or gs (length gs - 1) g).id < g.id = past g (omega (arith, lt)) in
        ⊎_elim (λ before. let rise = rise_of gs rises k (length gs - 1) g before (omega (arith, lt)) in omega (arith, here, last, rise))
        (λ no_less. let same : k ≡ length gs - 1 = omega (arith, lt, no_less) in let at = ap (λ n. (get_or gs n g).id) same in omega (arith, here, last, at))
        (cases_lt k (length gs - 1))

pub rise_pushed : (gs seen new : List Goal) (g : Goal) → seen ≡ gs → new ≡ gs ++ g ∷ [] → (NumbersRise (map goal_of seen) → NumbersRise (map goal_of seen ++ goal_of g ∷ [])) →
    NumbersRise (map goal_of gs) → NumbersRise (map goal_of new)
rise_pushed gs seen new g same pushed past rises =
    subst NumbersRise (sym (map-append goal_of gs (g ∷ [])) ∙ ap (map goal_of) (sym pushed))
    (subst (λ l. NumbersRise (map goal_of l ++ goal_of g ∷ [])) same (past (subst (λ l. NumbersRise (map goal_of l)) (sym same) rises)))

pub parted : (gs : List Goal) (n : ℕ) → NumbersRise (map goal_of gs) → IsPartitionedBy (λ g. ltb g.id n) gs
parted gs n rises = IsPartitionedBy-ltb (λ g. g.id) gs n not_falling
  where
    not_falling : IsNonDecreasingBy (λ (g : Goal). g.id) gs
    not_falling i j d le within =
        ⊎_elim (λ less. let rise = rise_of gs rises i j d less within in omega (arith, rise))
        (λ no_less. let same : i ≡ j = omega (arith, le, no_less) in let at = ap (λ k. (get_or gs k d).id) same in omega (arith, at))
        (cases_lt i j)

-- what is found where the numbers rise, and what is not

at_place : (gs : List Goal) (i : ℕ) (d : Goal) → Rise gs → i < length gs → Some (goal_of (get_or gs i d)) ≡ goal_numbered (map goal_of gs) (get_or gs i d).id
at_place [] i d rises within = absurd (omega arith)
at_place (g ∷ gs) zero d rises within = ap (λ b. if b then Some (goal_of g) else goal_numbered (map goal_of gs) g.id) (sym (eq-eqb g.id g.id refl))
at_place (g ∷ gs) (suc i) d rises within =
    let n = (get_or gs i d).id in
    let less : g.id < n = rises 0 (suc i) d (omega arith) within in
    at_place gs i d (λ j k e lt small. rises (suc j) (suc k) e (omega arith) (omega arith)) (omega arith)
    ∙ ap (λ b. if b then Some (goal_of g) else goal_numbered (map goal_of gs) n) (sym (ne_eqb g.id n (λ e. absurd (omega (arith, less, e)))))

pub found_at : (gs : List Goal) (i n : ℕ) (g : Goal) → NumbersRise (map goal_of gs) → i < length gs → g ≡ get_or gs i g → g.id ≡ n → Some (goal_of g) ≡ goal_numbered (map goal_of gs) n
found_at gs i n g rises within is same =
    ap (λ x. Some (goal_of x)) is ∙ at_place gs i g (rise_of gs rises) within ∙ ap (goal_numbered (map goal_of gs)) (ap (λ x. x.id) (sym is) ∙ same)

pub differs_at : (gs : List Goal) (i n : ℕ) (g : Goal) → g ≡ get_or gs i g → g.id ≢ n → (d : Goal) → i < length gs → (get_or gs i d).id ≢ n
differs_at gs i n g is differs d within e = differs (ap (λ x. x.id) (is ∙ get_or_default gs i g d within) ∙ e)

absent : (gs : List Goal) (n : ℕ) → ((k : ℕ) (d : Goal) → k < length gs → (get_or gs k d).id ≢ n) → None ≡ goal_numbered (map goal_of gs) n
absent [] n others = refl
absent (g ∷ gs) n others =
    absent gs n (λ k d within. others (suc k) d (omega arith))
    ∙ ap (λ b. if b then Some (goal_of g) else goal_numbered (map goal_of gs) n) (sym (ne_eqb g.id n (others 0 g (omega arith))))

pub not_found : (gs : List Goal) (place n : ℕ) → NumbersRise (map goal_of gs) → IsPartitionPoint (λ g. ltb g.id n ≡ true) (λ g. ltb g.id n ≡ false) gs place →
    ((d : Goal) → place < length gs → (get_or gs place d).id ≢ n) → None ≡ goal_numbered (map goal_of gs) n
not_found gs place n rises point differs = absent gs n others
  where
    others : (k : ℕ) (d : Goal) → k < length gs → (get_or gs k d).id ≢ n
    others k d within e =
        ⊎_elim (λ before. let less = ltb-true _ _ (point.0 k d (omega arith) before) in absurd (omega (arith, less, e)))
        (λ no_less.
        ⊎_elim (λ after.
        let no_smaller = ltb-false _ _ (point.1 place d (omega arith) (omega (arith, within, after))) in
        let rise = rise_of gs rises place k d after within in
        absurd (omega (arith, no_smaller, rise, e)))
        (λ no_more.
        let same : k ≡ place = omega (arith, no_less, no_more) in
        differs d (subst (λ m. m < length gs) same within) (ap (λ m. (get_or gs m d).id) (sym same) ∙ e))
        (cases_lt place k))
        (cases_lt k place)

pub goal_numbered-map : (gs : List Goal) (n : ℕ) → option_map goal_of (find (λ g. nat_eq g.id n) gs) ≡ goal_numbered (map goal_of gs) n
goal_numbered-map [] n = refl
goal_numbered-map (g ∷ gs) n = each (nat_eq g.id n) (goal_numbered-map gs n)
  where
    each : (b : Bool) → option_map goal_of (find (λ g. nat_eq g.id n) gs) ≡ goal_numbered (map goal_of gs) n →
        option_map goal_of (if b then Some g else find (λ g. nat_eq g.id n) gs) ≡ (if b then Some (goal_of g) else goal_numbered (map goal_of gs) n)
    each true e = refl
    each false e = e

pub goals_of_found : (found : Option (Bor Goal)) → option_map (λ g. goal_of g.now) found ≡ option_map goal_of (option_map (λ g. g.now) found)
goals_of_found None = refl
goals_of_found (Some g) = refl
