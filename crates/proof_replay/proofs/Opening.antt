-- The opening list of a shaped type is shaped.
use Rattle.std.proofs.Common.{List, [], sym, subst}
use Rattle.std.proofs.lemmas.List.Elements.{All-nil, All-cons}
use Rattle.lf_definitions.specs.Syntax.{bound, constant, metavariable, LfType, atomic, binders_of, conclusion_atom}
use Rattle.lf_definitions.specs.Shaping.{ShapedType}
use Rattle.lf_definitions.specs.ShapedGoals.{kind_shapes_in, scope_in, ShapedTypeIn, ShapedGoal, ShapedGoals}
use Rattle.lf_definitions.specs.Typing.{LfGoal}
use Rattle.lf_definitions.specs.Signatures.{LfSignature}
use Rattle.lf_definitions.specs.GoalLists.{all_goals, opening}
use Rattle.lf_definitions.proofs.ShapedGoals.{ScopeGrows, ShapedType-grown, ShapedContext-pis, ShapedType-under_pis}
use Rattle.opening_laws.proofs.Shapes.{whole_type}
use Rattle.application_laws.proofs.Lists.{no_pairs}
use Rattle.std.proofs.lemmas.List.Kept.{AllPairs-cons}
use Rattle.std.specs.Prelude.{◌≢◌}

goals_more : (sig : LfSignature) (goals : List LfGoal) → ScopeGrows (scope_in sig [] []) (scope_in sig goals [])
goals_more sig goals (bound n) s e = e
goals_more sig goals (constant c) s e = e
goals_more sig goals (metavariable g) s e = absurd cc

pub opening_is_shaped : (sig : LfSignature) (a : LfType) → ShapedTypeIn sig [] [] a → ShapedGoals sig (all_goals (opening a))
opening_is_shaped sig a shaped =
    let goals = all_goals (opening a) in
    let g : LfGoal = record { id = 0; context = binders_of a; target = conclusion_atom a } in
    let bs = binders_of a in
    let end = atomic (conclusion_atom a) in
    let grown : ShapedType (kind_shapes_in sig) (scope_in sig goals []) _ =
    subst (ShapedType (kind_shapes_in sig) (scope_in sig goals [])) (sym (whole_type a)) (ShapedType-grown shaped (scope_in sig goals []) (goals_more sig goals)) in (
      AllPairs-cons (λ (h : LfGoal) k. h.id ≢ k.id) g [] (All-nil (λ (k : LfGoal). g.id ≢ k.id)) (no_pairs (λ (h : LfGoal) k. h.id ≢ k.id)),
      All-cons (ShapedGoal sig goals) g [] (ShapedContext-pis bs end grown, ShapedType-under_pis bs end grown) (All-nil (ShapedGoal sig goals)),
    )
