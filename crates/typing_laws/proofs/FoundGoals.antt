-- The goal of a number, and a bound on the shapes of goals.
use Rattle.std.proofs.Common.{◌≡◌, ℕ, suc, ◌+◌, ◌<◌, Bool, true, false, if◌then◌else◌, nat_eq, Some, List, [], ◌∷◌, All, refl, sym, ap, arith}
use Rattle.std.proofs.lemmas.List.Elements.{All-head, All-tail}
use Rattle.std.proofs.lemmas.Bool.{eqb-true}
use Rattle.lf_definitions.specs.Syntax.{shape_of, shape_size, LfType}
use Rattle.lf_definitions.specs.Typing.{LfGoal, goal_type, type_of_metavariable}

-- a bound on the shapes of the types of goals
abbrev pub goals_bound : List LfGoal → ℕ
goals_bound [] = 0
goals_bound (g ∷ goals) = suc (shape_size (shape_of (goal_type g))) + goals_bound goals

-- the goal of a metavariable
abbrev pub Found : (LfGoal → Type 0) → List LfGoal → ℕ → LfType → Type 0
Found P goals n a = (g : LfGoal) × (g.id ≡ n) × (goal_type g ≡ a) × P g × shape_size (shape_of a) < goals_bound goals

pub found : (P : LfGoal → Type 0) (goals : List LfGoal) → All P goals → (n : ℕ) (a : LfType) → type_of_metavariable goals n ≡ Some a → Found P goals n a
found P [] all n a e = absurd cc
found P (g ∷ goals) all n a e = at_test (nat_eq g.id n) refl e (λ e. found P goals (All-tail P g goals all) n a e)
  where
    smaller : {m k : ℕ} → m ≡ k → m < suc k + goals_bound goals
    smaller e = omega (arith, e)

    later : {m : ℕ} → m < goals_bound goals → m < suc (shape_size (shape_of (goal_type g))) + goals_bound goals
    later less = omega (arith, less)

    at_test : (b : Bool) → nat_eq g.id n ≡ b → (if b then Some (goal_type g) else type_of_metavariable goals n) ≡ Some a →
        (type_of_metavariable goals n ≡ Some a → Found P goals n a) → Found P (g ∷ goals) n a
    at_test true is e rest =
        let same : goal_type g ≡ a = cc in
        (g, eqb-true g.id n is, same, All-head P g goals all, smaller (ap (λ b. shape_size (shape_of b)) (sym same)))
    at_test false is e rest =
        let r = rest e in
        (r.0, r.1, r.2, r.3, later r.4)
