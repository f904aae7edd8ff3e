-- The opening list of a well-formed type is shaped.
use Rattle.std.proofs.Common.{◌≡◌, ℕ, List, [], ◌∷◌, refl, sym, ap₂, ◌∙◌, subst, arith}
use Rattle.std.proofs.lemmas.List.Elements.{All-nil, All-cons}
use Rattle.lf_definitions.specs.Syntax.{Spine, LfType, family, pis, Context, binders_of, conclusion_atom}
use Rattle.lf_definitions.specs.Typing.{LfGoal, goal_type, Formed}
use Rattle.lf_definitions.specs.Signatures.{LfSignature, kinds_in, typing_in}
use Rattle.lf_definitions.specs.ShapedGoals.{ShapedGoals}
use Rattle.lf_definitions.specs.GoalLists.{LfGoals, all_goals, opening, AreDistinct, FormedGoal}
use Rattle.lf_definitions.proofs.Failures.{binders_of-pis}
use Rattle.typing_laws.proofs.ClosedTypes.{ShapedGoals-FormedGoals}
use Rattle.typing_laws.proofs.GoalLists.{goals_are_their_types, goals_grow}

conclusion_of-pis : (bs : Context) (f : ℕ) (args : Spine) → conclusion_atom (pis bs (family f args)) ≡ record { atom_family = f; atom_args = args }
conclusion_of-pis [] f args = refl
conclusion_of-pis (b ∷ bs) f args = conclusion_of-pis bs f args

-- the goal that opens a type, from its binders and its end
abbrev opening_goal : ℕ → Context → Spine → LfGoal
opening_goal f bs args = record { id = 0; context = bs; target = record { atom_family = f; atom_args = args } }

abbrev listed : List LfGoal → List LfGoal → LfGoals
listed proofs witnesses = record { proofs = proofs; witnesses = witnesses }

opening_is : (bs : Context) (f : ℕ) (args : Spine) → listed (opening_goal f bs args ∷ []) [] ≡ opening (pis bs (family f args))
opening_is bs f args =
    ap₂ (λ ctx end. listed (record { id = 0; context = ctx; target = end } ∷ []) []) (sym (binders_of-pis bs f args)) (sym (conclusion_of-pis bs f args))

one_is_distinct : (g : LfGoal) → AreDistinct (g ∷ [])
one_is_distinct g i j d less within = absurd (omega (arith, less, within))

one_is_shaped : (sig : LfSignature) (g : LfGoal) → Formed (kinds_in sig) (typing_in sig [] []) (goal_type g) → ShapedGoals sig (g ∷ [])
one_is_shaped sig g formed =
    let alone : FormedGoal sig [] g = (goals_are_their_types sig [] g).1 formed in
    let among : FormedGoal sig (g ∷ []) g = (goals_grow sig [] (g ∷ []) (λ i d within. absurd (omega (arith, within))) (one_is_distinct g)).1 g alone in
    ShapedGoals-FormedGoals sig (g ∷ []) (one_is_distinct g, All-cons (FormedGoal sig (g ∷ [])) g [] among (All-nil (FormedGoal sig (g ∷ []))))

pub opening_is_shaped : (sig : LfSignature) (bs : Context) (f : ℕ) (args : Spine) (goals : LfGoals) → Formed (kinds_in sig) (typing_in sig [] []) (pis bs (family f args)) →
    goals ≡ opening (pis bs (family f args)) → ShapedGoals sig (all_goals goals)
opening_is_shaped sig bs f args goals formed opened =
    subst (λ l. ShapedGoals sig (all_goals l)) (sym (opened ∙ sym (opening_is bs f args)))
    (one_is_shaped sig (opening_goal f bs args) formed)
