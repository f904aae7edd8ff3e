-- The laws of the end of unification: on shaped equations it is the one end of the relation, and it goes along with renamings of metavariables.
use Rattle.std.specs.Prelude.{◌≡◌, ℕ, List, map}
use Rattle.lf_definitions.specs.Syntax.{LfAtom, Context}
use Rattle.lf_definitions.specs.Renaming.{rename_context}
use Rattle.lf_definitions.specs.ShapedGoals.{kind_shapes_in, scope_in}
use Rattle.lf_definitions.specs.Typing.{LfGoal}
use Rattle.lf_definitions.specs.Signatures.{LfSignature}
use Rattle.lf_definitions.specs.Instantiation.{metavariables, rename_goal, IsInjective, LfAssigned, assignment_of}
use Rattle.unification.specs.Equations.{numbered_from, solved}
use Rattle.unification.specs.Transitions.{Frozen, Unifies}
use Rattle.unification.specs.Solutions.{ShapedEquations, MentionedBy, IsResolvedAnswer}
use Rattle.head_laws.specs.MetavariableLaws.{AssignsRenamed}
use Rattle.renamed_unification.specs.Laws.{rename_atom, rename_entry, rename_ending}
use Rattle.lf_functions.specs.Laws.{IsTheOne}
use Rattle.lf_functions.specs.Endings.{unifier_of}

-- Equations between atoms are shaped among goals and in a context.
abbrev pub ShapedAtomsIn : LfSignature → List LfGoal → Context → List (LfAtom × LfAtom) → Type 0
ShapedAtomsIn sig goals ctx equations = ShapedEquations (kind_shapes_in sig) (scope_in sig goals ctx) (numbered_from 0 equations)

-- Shaped equations have `unifier_of` as their one end.
abbrev pub UnifiersAreTheOneEnd : Type 0
UnifiersAreTheOneEnd =
    (sig : LfSignature) (goals : List LfGoal) (ctx : Context) (frozen : Frozen) (equations : List (LfAtom × LfAtom)) → ShapedAtomsIn sig goals ctx equations →
    IsTheOne (Unifies frozen (numbered_from 0 equations)) (unifier_of sig goals ctx frozen equations)

-- Where they are solved the entries are an answer: resolved and shaped, and they speak of the equations' metavariables alone.
abbrev pub UnifiersAreAnswers : Type 0
UnifiersAreAnswers =
    (sig : LfSignature) (goals : List LfGoal) (ctx : Context) (frozen : Frozen) (equations : List (LfAtom × LfAtom)) (entries : List LfAssigned) → ShapedAtomsIn sig goals ctx equations →
    unifier_of sig goals ctx frozen equations ≡ solved entries → IsResolvedAnswer (scope_in sig goals ctx) frozen (numbered_from 0 equations) entries

abbrev pub rename_equations : (ℕ → ℕ) → List (LfAtom × LfAtom) → List (LfAtom × LfAtom)
rename_equations ρ equations = map (λ pair. (rename_atom ρ pair.0, rename_atom ρ pair.1)) equations

-- On all data, the end goes along with a renaming of metavariables, where the same ones are frozen.
abbrev pub UnifiersAreRenamed : Type 0
UnifiersAreRenamed =
    (ρ : ℕ → ℕ) → IsInjective ρ → (frozen other : Frozen) → ((g : ℕ) → other (ρ g) ≡ frozen g) →
    (sig : LfSignature) (goals : List LfGoal) (ctx : Context) (equations : List (LfAtom × LfAtom)) →
    unifier_of sig (map (rename_goal ρ) goals) (rename_context (metavariables ρ) ctx) other (rename_equations ρ equations) ≡ rename_ending ρ (unifier_of sig goals ctx frozen equations)

-- Renamed entries assign what the entries assign, renamed.
abbrev pub EntriesAreRenamed : Type 0
EntriesAreRenamed = (ρ : ℕ → ℕ) → IsInjective ρ → (entries : List LfAssigned) → AssignsRenamed ρ (assignment_of entries) (assignment_of (map (rename_entry ρ) entries))

-- The end depends on the equations, and on which of the metavariables that they mention are frozen: signature, goals and context may be any in which they are shaped.
abbrev pub UnifiersLookAtWhatOccurs : Type 0
UnifiersLookAtWhatOccurs =
    (sig more : LfSignature) (goals others : List LfGoal) (ctx inside : Context) (frozen other : Frozen) (equations : List (LfAtom × LfAtom)) →
    ShapedAtomsIn sig goals ctx equations → ShapedAtomsIn more others inside equations → ((g : ℕ) → MentionedBy (numbered_from 0 equations) g → other g ≡ frozen g) →
    unifier_of more others inside other equations ≡ unifier_of sig goals ctx frozen equations
