-- The opening list of a type that is given by its binders and its end.
use Rattle.std.proofs.Common.{◌≡◌, ℕ, List, [], ◌∷◌, ◌++◌, refl, sym, ap, ap₂, ◌∙◌}
use Rattle.lf_definitions.specs.Syntax.{Spine, LfType, family, pis, LfAtom, binders_of, conclusion_atom}
use Rattle.lf_definitions.specs.Typing.{LfGoal}
use Rattle.lf_definitions.specs.GoalLists.{LfGoals, opening}

binders_of-pis : (bs : List LfType) (f : ℕ) (args : Spine) → binders_of (pis bs (family f args)) ≡ bs
binders_of-pis [] f args = refl
binders_of-pis (b ∷ rest) f args = ap (λ cs. b ∷ cs) (binders_of-pis rest f args)

conclusion_atom-pis : (bs : List LfType) (f : ℕ) (args : Spine) → conclusion_atom (pis bs (family f args)) ≡ record { atom_family = f; atom_args = args }
conclusion_atom-pis [] f args = refl
conclusion_atom-pis (b ∷ rest) f args = conclusion_atom-pis rest f args

abbrev one_goal : List LfType → LfAtom → List LfGoal
one_goal ctx target = record { id = 0; context = ctx; target = target } ∷ []

abbrev list_of_goals : List LfGoal → List LfGoal → LfGoals
list_of_goals proofs witnesses = record { proofs = proofs; witnesses = witnesses }

abbrev atom : ℕ → Spine → LfAtom
atom f args = record { atom_family = f; atom_args = args }

pub opened_list : (bs ctx : List LfType) (f : ℕ) (args terms : Spine) (start proofs witnesses : List LfGoal) → ctx ≡ bs → terms ≡ args → start ≡ [] →
    proofs ≡ start ++ one_goal ctx (atom f terms) → witnesses ≡ [] → list_of_goals proofs witnesses ≡ opening (pis bs (family f args))
opened_list bs ctx f args terms start proofs witnesses ctx_is terms_are start_is proofs_are none =
    ap₂ list_of_goals
    (proofs_are ∙ ap (λ gs. gs ++ one_goal ctx (atom f terms)) start_is
    ∙ ap₂ one_goal (ctx_is ∙ sym (binders_of-pis bs f args)) (ap (atom f) terms_are ∙ sym (conclusion_atom-pis bs f args))) none
