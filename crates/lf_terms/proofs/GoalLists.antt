-- Lists of goals, one by one.
use Rattle.std.proofs.Common.{◌≡◌, ℕ, zero, suc, ◌+◌, ◌<◌, List, [], ◌∷◌, ◌++◌, length, get_or, take, map, refl, sym, ap, ap₂, ◌∙◌, arith}
use Rattle.std.proofs.lemmas.List.{map-append, length-map}
use Rattle.lf_definitions.specs.Syntax.{base, arrows, shape_of, shapes_of_types}
use Rattle.lf_definitions.specs.Typing.{LfGoal, goal_type}
use Rattle.lf_definitions.specs.ShapedGoals.{shapes_of_goals}
use Rattle.lf_definitions.proofs.Typing.{shape_of-pis}
use Rattle.lf_terms.specs.declared.goal.Goal.{Goal}
use Rattle.lf_terms.specs.declared.shape.MetaShape.{MetaShape}
use Rattle.lf_terms.specs.Shapes.{metas_of}
use Rattle.lf_terms.specs.Targets.{goal_of}
use Rattle.lf_terms.proofs.ShapeLists.{take_read}

-- one more goal, equal to the one read at a place
pub goal_read : (xs ys new : List Goal) (i : ℕ) (x y : Goal) → i < length xs → x ≡ get_or xs i x → new ≡ ys ++ y ∷ [] →
    map goal_of ys ≡ map goal_of (take i xs) → goal_of y ≡ goal_of x → map goal_of new ≡ map goal_of (take (i + 1) xs)
goal_read xs ys new i x y within is pushed before here =
    ap (map goal_of) pushed ∙ map-append goal_of ys (y ∷ []) ∙ ap₂ (λ l r. l ++ r ∷ []) before here
    ∙ sym (map-append goal_of (take i xs) (x ∷ [])) ∙ ap (map goal_of) (sym (take_read xs i x within is))

pub same_goals_more : (xs ys : List Goal) (i : ℕ) (x y : Goal) → i < length xs → length xs ≡ length ys → x ≡ get_or xs i x → y ≡ get_or ys i y →
    map goal_of (take i xs) ≡ map goal_of (take i ys) → goal_of x ≡ goal_of y → map goal_of (take (i + 1) xs) ≡ map goal_of (take (i + 1) ys)
same_goals_more xs ys i x y within lengths x_is y_is before here =
    ap (map goal_of) (take_read xs i x within x_is) ∙ map-append goal_of (take i xs) (x ∷ []) ∙ ap₂ (λ l r. l ++ r ∷ []) before here
    ∙ sym (map-append goal_of (take i ys) (y ∷ [])) ∙ ap (map goal_of) (sym (take_read ys i y (omega arith) y_is))

first_of_equals : {x y : LfGoal} {xs ys : List LfGoal} → x ∷ xs ≡ y ∷ ys → x ≡ y
first_of_equals e = cc

rest_of_equals : {x y : LfGoal} {xs ys : List LfGoal} → x ∷ xs ≡ y ∷ ys → xs ≡ ys
rest_of_equals e = cc

pub same_goal_at : (xs ys : List Goal) (i : ℕ) (x y : Goal) → i < length xs → length xs ≡ length ys → x ≡ get_or xs i x → y ≡ get_or ys i y →
    map goal_of xs ≡ map goal_of ys → goal_of x ≡ goal_of y
same_goal_at [] ys i x y within lengths x_is y_is e = absurd (omega arith)
same_goal_at (u ∷ xs) [] i x y within lengths x_is y_is e = absurd (omega arith)
same_goal_at (u ∷ xs) (v ∷ ys) zero x y within lengths x_is y_is e = ap goal_of x_is ∙ first_of_equals e ∙ ap goal_of (sym y_is)
same_goal_at (u ∷ xs) (v ∷ ys) (suc i) x y within lengths x_is y_is e = same_goal_at xs ys i x y (omega arith) (omega arith) x_is y_is (rest_of_equals e)

pub length_of_goals : (xs ys : List Goal) → map goal_of xs ≡ map goal_of ys → length xs ≡ length ys
length_of_goals xs ys e = sym (length-map xs goal_of) ∙ ap length e ∙ length-map ys goal_of

metas_of-append : (ms : List MetaShape) (m : MetaShape) → metas_of (ms ++ m ∷ []) ≡ metas_of ms ++ (m.id, arrows m.args base) ∷ []
metas_of-append [] m = refl
metas_of-append (n ∷ ms) m = ap (λ l. (n.id, arrows n.args base) ∷ l) (metas_of-append ms m)

shapes_of_goals-append : (gs : List Goal) (g : Goal) → shapes_of_goals (map goal_of (gs ++ g ∷ [])) ≡ shapes_of_goals (map goal_of gs) ++ (g.id, shape_of (goal_type (goal_of g))) ∷ []
shapes_of_goals-append [] g = refl
shapes_of_goals-append (h ∷ gs) g = ap (λ l. (h.id, shape_of (goal_type (goal_of h))) ∷ l) (shapes_of_goals-append gs g)

-- one more shape, of the goal read at a place
pub goal_shape_read : (gs : List Goal) (ms new : List MetaShape) (i : ℕ) (g : Goal) (m : MetaShape) → i < length gs → g ≡ get_or gs i g → new ≡ ms ++ m ∷ [] →
    metas_of ms ≡ shapes_of_goals (map goal_of (take i gs)) → m.id ≡ g.id → m.args ≡ shapes_of_types g.ctx →
    metas_of new ≡ shapes_of_goals (map goal_of (take (i + 1) gs))
goal_shape_read gs ms new i g m within is pushed before same_id args_are =
    let shape : arrows m.args base ≡ shape_of (goal_type (goal_of g)) =
    ap (λ l. arrows l base) args_are ∙ sym (shape_of-pis g.ctx g.target.family g.target.args) in
    ap metas_of pushed ∙ metas_of-append ms m ∙ ap₂ (λ l r. l ++ r ∷ []) before (ap₂ (λ n s. (n, s)) same_id shape)
    ∙ sym (shapes_of_goals-append (take i gs) g) ∙ ap (λ l. shapes_of_goals (map goal_of l)) (sym (take_read gs i g within is))
