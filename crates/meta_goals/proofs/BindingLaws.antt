-- The laws of bindings, as they are stated.
use Rattle.std.proofs.Common.{◌≡◌, ℕ, zero, suc, ◌+◌, Bool, true, false, Option, Some, List, [], ◌∷◌, length, All, refl, sym, ap, ◌∙◌, subst, arith, if◌then◌else◌}
use Rattle.std.specs.Prelude.{nat_eq}
use Rattle.std.proofs.lemmas.Bool.{eqb-true}
use Rattle.std.proofs.lemmas.List.Elements.{All-head, All-tail}
use Rattle.lf_definitions.specs.Syntax.{bound, LfTerm, lam, SimpleType, base, arrows, lams, shape_of, shapes_of_types}
use Rattle.lf_definitions.specs.Shaping.{shape_of_metavariable}
use Rattle.lf_definitions.specs.Typing.{LfGoal, goal_type}
use Rattle.lf_definitions.specs.Signatures.{constant_types}
use Rattle.lf_definitions.specs.ShapedGoals.{scope_in, shapes_of_goals}
use Rattle.lf_definitions.specs.Shaping.{globals}
use Rattle.lf_definitions.specs.Replacements.{Goes}
use Rattle.lf_definitions.specs.Occurrence.{OccursIn, occurs_lam}
use Rattle.lf_definitions.specs.Instantiation.{instantiating}
use Rattle.lf_definitions.proofs.Options.{Some-Some}
use Rattle.lf_definitions.proofs.Telescopes.{Goes-up_by}
use Rattle.lf_definitions.proofs.Typing.{shape_of-pis}
use Rattle.lf_terms.specs.Extents.{StaysWithin, InTerm}
use Rattle.head_laws.proofs.Assignments.{up_by-closed}
use Rattle.meta_goals.specs.Bindings.{LfBinding, assigning, binding_for}
use Rattle.meta_goals.specs.Laws.{BoundGoalsHaveTheirShapes, BoundBodiesAreClosed, AssignmentsGoUnderVariables}
use Rattle.meta_goals.proofs.ChangedTerms.{put_by, under_all-metavariable}

-- the binding that is found has the number
module _ (g : ℕ) (P : LfBinding → Type 0) where
  found_step : (n : Bool) (first b : LfBinding) (rest : Option LfBinding) → nat_eq first.number g ≡ n → (if n then Some first else rest) ≡ Some b → P first → (rest ≡ Some b → (b.number ≡ g) × P b) → (b.number ≡ g) × P b
  found_step true first b rest same e here later =
      let is : first ≡ b = Some-Some e in
      (ap (λ (x : LfBinding). x.number) (sym is) ∙ eqb-true first.number g same, subst P is here)
  found_step false first b rest same e here later = later e

  found_binding : (bindings : List LfBinding) (b : LfBinding) → All P bindings → binding_for bindings g ≡ Some b → (b.number ≡ g) × P b
  found_binding [] b all e = absurd cc
  found_binding (first ∷ rest) b all e =
      found_step (nat_eq first.number g) first b (binding_for rest g) refl e (All-head P first rest all) (found_binding rest b (All-tail P first rest all))

-- the shape that is found among goals
module _ (g : ℕ) (b : LfBinding) (number : b.number ≡ g) where
  goal_step : (n : Bool) (first : LfGoal) (rest : Option SimpleType) (s : SimpleType) → nat_eq first.id g ≡ n → (if n then Some (shape_of (goal_type first)) else rest) ≡ Some s →
      (first.id ≡ b.number → b.shapes ≡ shapes_of_types first.context) → (rest ≡ Some s → s ≡ arrows b.shapes base) → s ≡ arrows b.shapes base
  goal_step true first rest s same e here later =
      sym (Some-Some e) ∙ shape_of-pis first.context first.target.atom_family first.target.atom_args ∙ ap (λ l. arrows l base) (sym (here (eqb-true first.id g same ∙ sym number)))
  goal_step false first rest s same e here later = later e

  found_shape : (goals : List LfGoal) (s : SimpleType) → All (λ h. h.id ≡ b.number → b.shapes ≡ shapes_of_types h.context) goals → shape_of_metavariable (shapes_of_goals goals) g ≡ Some s → s ≡ arrows b.shapes base
  found_shape [] s all e = absurd cc
  found_shape (first ∷ rest) s all e =
      goal_step (nat_eq first.id g) first (shape_of_metavariable (shapes_of_goals rest) g) s refl e (All-head (λ h. h.id ≡ b.number → b.shapes ≡ shapes_of_types h.context) first rest all)
      (found_shape rest s (All-tail (λ h. h.id ≡ b.number → b.shapes ≡ shapes_of_types h.context) first rest all))

pub bound_goals_have_their_shapes : BoundGoalsHaveTheirShapes
bound_goals_have_their_shapes sig goals bindings shapes ctx g s b known found =
    let r = found_binding g (λ x. All (λ h. h.id ≡ x.number → x.shapes ≡ shapes_of_types h.context) goals) bindings b shapes found in
    found_shape g b r.0 goals s r.1
    (sym (under_all-metavariable (shapes_of_types ctx) (globals (shapes_of_types (constant_types sig)) (shapes_of_goals goals)) g) ∙ known)

occurs_under : (m n : ℕ) (b : LfTerm) → OccursIn (bound n) (lams m b) → OccursIn (bound (m + n)) b
occurs_under zero n b o = subst (λ k. OccursIn (bound k) b) (omega arith) o
occurs_under (suc m) n b o =
    let k : m + suc n ≡ suc m + n = omega arith in
    subst (λ j. OccursIn (bound j) b) k (occurs_under m (suc n) b (inside o))
  where
    inside : OccursIn (bound n) (lam (lams m b)) → OccursIn (bound (suc n)) (lams m b)
    inside (occurs_lam h c p) = p

closed_step : (n : ℕ) (c : Bool) (first : LfBinding) (rest : Option LfTerm) (u : LfTerm) → StaysWithin (length first.shapes) (InTerm first.bound_body) → (if c then Some (put_by first) else rest) ≡ Some u →
    (rest ≡ Some u → OccursIn (bound n) u → ⊥) → OccursIn (bound n) u → ⊥
closed_step n true first rest u within e later o =
    within (length first.shapes + n) (omega arith) (occurs_under (length first.shapes) n first.bound_body (subst (OccursIn (bound n)) (sym (Some-Some e)) o))
closed_step n false first rest u within e later o = later e o

pub bound_bodies_are_closed : BoundBodiesAreClosed
bound_bodies_are_closed [] within g n u e o = cc
bound_bodies_are_closed (b ∷ rest) within g n u e o =
    closed_step n (nat_eq b.number g) b (assigning rest g) u (All-head (λ x. StaysWithin (length x.shapes) (InTerm x.bound_body)) b rest within) e
    (λ found here. bound_bodies_are_closed rest (All-tail (λ x. StaysWithin (length x.shapes) (InTerm x.bound_body)) b rest within) g n u found here) o

pub assignments_go_under_variables : AssignmentsGoUnderVariables
assignments_go_under_variables sig goals others σ p closed goes ctx =
    let shapes = shapes_of_types ctx in
    subst (Goes p (scope_in sig goals ctx) (scope_in sig others ctx)) (up_by-closed (length shapes) σ closed) (Goes-up_by p shapes (scope_in sig goals []) (scope_in sig others []) (instantiating σ) goes)
