-- The laws of the end of unification, as they are stated.
use Rattle.std.proofs.Common.{◌≡◌, ℕ, Option, Some, None, List, map, refl, sym, ap, ◌∙◌, subst}
use Rattle.lf_definitions.specs.Syntax.{LfAtom, Context, SimpleType}
use Rattle.lf_definitions.specs.Renaming.{rename_context}
use Rattle.lf_definitions.specs.Shaping.{Scope}
use Rattle.lf_definitions.specs.ShapedGoals.{kind_shapes_in, scope_in}
use Rattle.lf_definitions.specs.Typing.{LfGoal}
use Rattle.lf_definitions.specs.Signatures.{LfSignature}
use Rattle.lf_definitions.specs.Instantiation.{metavariables, rename_goal, IsInjective}
use Rattle.unification.specs.Equations.{LfEquation, numbered_from, Ending}
use Rattle.unification.specs.Transitions.{Frozen, Unifies}
use Rattle.unification.specs.Solutions.{ShapedEquations}
use Rattle.unification.proofs.Laws.{shaped_problems_have_one_end, answers_are_resolved}
use Rattle.renamed_unification.specs.Laws.{rename_ending}
use Rattle.renamed_unification.proofs.Laws.{unification_is_renamed, unification_looks_at_what_occurs}
use Rattle.renamed_unification.proofs.RenamedSteps.{AssignsRenamed-entries}
use Rattle.lf_functions.specs.ShapeTests.{equations_or_none}
use Rattle.lf_functions.specs.Endings.{end_or_clash, unifier_of}
use Rattle.lf_functions.specs.EndingLaws.{ShapedAtomsIn, UnifiersAreTheOneEnd, UnifiersAreAnswers, rename_equations, UnifiersAreRenamed, EntriesAreRenamed, UnifiersLookAtWhatOccurs}
use Rattle.lf_functions.proofs.ShapeTests.{IsFound, found_equations}
use Rattle.lf_functions.proofs.RenamedScopes.{scope_in-renamed, numbered_from-renamed, equations_renamed, equations_unrenamed}

-- the end, where the equations are found to be shaped
module _ (kinds : ℕ → Option SimpleType) (Γ : Scope) (frozen : Frozen) (equations : List LfEquation) where
  found_end : (o : Option (ShapedEquations kinds Γ equations)) → IsFound o → Unifies frozen equations (end_or_clash kinds Γ frozen equations o)
  found_end None found = absurd (let e = found.1 in cc)
  found_end (Some shaped) found = (shaped_problems_have_one_end kinds Γ frozen equations shaped).1

unifier_ends : (sig : LfSignature) (goals : List LfGoal) (ctx : Context) (frozen : Frozen) (equations : List (LfAtom × LfAtom)) → ShapedAtomsIn sig goals ctx equations →
    Unifies frozen (numbered_from 0 equations) (unifier_of sig goals ctx frozen equations)
unfolding unifier_of
unifier_ends sig goals ctx frozen equations shaped =
    let kinds = kind_shapes_in sig in
    let Γ = scope_in sig goals ctx in
    found_end kinds Γ frozen (numbered_from 0 equations) (equations_or_none kinds Γ 0 equations) (found_equations kinds Γ 0 equations shaped)

-- Shaped equations have no other end.
only_end : (sig : LfSignature) (goals : List LfGoal) (ctx : Context) (frozen : Frozen) (equations : List (LfAtom × LfAtom)) → ShapedAtomsIn sig goals ctx equations →
    (first second : Ending) → Unifies frozen (numbered_from 0 equations) first → Unifies frozen (numbered_from 0 equations) second → first ≡ second
only_end sig goals ctx frozen equations shaped first second p q =
    let r = shaped_problems_have_one_end (kind_shapes_in sig) (scope_in sig goals ctx) frozen (numbered_from 0 equations) shaped in
    r.2 first p ∙ sym (r.2 second q)

pub unifiers_are_the_one_end : UnifiersAreTheOneEnd
unifiers_are_the_one_end sig goals ctx frozen equations shaped ending =
    let it = unifier_of sig goals ctx frozen equations in
    let ends = unifier_ends sig goals ctx frozen equations shaped in
    (λ p. only_end sig goals ctx frozen equations shaped ending it p ends, λ e. subst (Unifies frozen (numbered_from 0 equations)) (sym e) ends)

pub unifiers_are_answers : UnifiersAreAnswers
unifiers_are_answers sig goals ctx frozen equations entries shaped is =
    answers_are_resolved (kind_shapes_in sig) (scope_in sig goals ctx) frozen (numbered_from 0 equations) entries shaped
    (subst (Unifies frozen (numbered_from 0 equations)) is (unifier_ends sig goals ctx frozen equations shaped))

pub unifiers_look_at_what_occurs : UnifiersLookAtWhatOccurs
unifiers_look_at_what_occurs sig more goals others ctx inside frozen other equations shaped shaped_there agree =
    only_end sig goals ctx other equations shaped (unifier_of more others inside other equations) (unifier_of sig goals ctx frozen equations)
    (unifier_ends more others inside other equations shaped_there)
    (unification_looks_at_what_occurs frozen other (numbered_from 0 equations) agree (unifier_of sig goals ctx frozen equations) (unifier_ends sig goals ctx frozen equations shaped))

module _ (ρ : ℕ → ℕ) (injective : IsInjective ρ) (frozen other : Frozen) (same : (g : ℕ) → other (ρ g) ≡ frozen g)
    (sig : LfSignature) (goals : List LfGoal) (ctx : Context) (equations : List (LfAtom × LfAtom)) where
  abbrev renamed_goals : List LfGoal
  renamed_goals = map (rename_goal ρ) goals

  abbrev renamed_context : Context
  renamed_context = rename_context (metavariables ρ) ctx

  -- where the equations are shaped
  shaped_renamed : ShapedAtomsIn sig goals ctx equations → unifier_of sig renamed_goals renamed_context other (rename_equations ρ equations) ≡ rename_ending ρ (unifier_of sig goals ctx frozen equations)
  shaped_renamed shaped =
      let there = equations_renamed ρ (kind_shapes_in sig) (scope_in sig goals ctx) (scope_in sig renamed_goals renamed_context) (scope_in-renamed ρ injective sig goals ctx) 0 equations shaped in
      let it = unifier_of sig goals ctx frozen equations in
      only_end sig renamed_goals renamed_context other (rename_equations ρ equations) there (unifier_of sig renamed_goals renamed_context other (rename_equations ρ equations)) (rename_ending ρ it)
      (unifier_ends sig renamed_goals renamed_context other (rename_equations ρ equations) there)
      (subst (λ es. Unifies other es (rename_ending ρ it)) (numbered_from-renamed ρ 0 equations)
      (unification_is_renamed ρ injective frozen other same (numbered_from 0 equations) it (unifier_ends sig goals ctx frozen equations shaped)))

  -- either way
  abbrev Here : Type 0
  Here = Option (ShapedAtomsIn sig goals ctx equations)

  abbrev There : Type 0
  There = Option (ShapedAtomsIn sig renamed_goals renamed_context (rename_equations ρ equations))

  each_way : (here : Here) (there : There) → equations_or_none (kind_shapes_in sig) (scope_in sig goals ctx) 0 equations ≡ here →
      equations_or_none (kind_shapes_in sig) (scope_in sig renamed_goals renamed_context) 0 (rename_equations ρ equations) ≡ there →
      unifier_of sig renamed_goals renamed_context other (rename_equations ρ equations) ≡ rename_ending ρ (unifier_of sig goals ctx frozen equations)
  unfolding unifier_of
  each_way (Some shaped) there is is_there = shaped_renamed shaped
  each_way None (Some shaped) is is_there =
      shaped_renamed (equations_unrenamed ρ (kind_shapes_in sig) (scope_in sig goals ctx) (scope_in sig renamed_goals renamed_context) (scope_in-renamed ρ injective sig goals ctx) 0 equations shaped)
  each_way None None is is_there =
      ap (end_or_clash (kind_shapes_in sig) (scope_in sig renamed_goals renamed_context) other (numbered_from 0 (rename_equations ρ equations))) is_there
      ∙ sym (ap (λ o. rename_ending ρ (end_or_clash (kind_shapes_in sig) (scope_in sig goals ctx) frozen (numbered_from 0 equations) o)) is)

  unifier_renamed : unifier_of sig renamed_goals renamed_context other (rename_equations ρ equations) ≡ rename_ending ρ (unifier_of sig goals ctx frozen equations)
  unifier_renamed = each_way (equations_or_none (kind_shapes_in sig) (scope_in sig goals ctx) 0 equations) (equations_or_none (kind_shapes_in sig) (scope_in sig renamed_goals renamed_context) 0 (rename_equations ρ equations)) refl refl

pub unifiers_are_renamed : UnifiersAreRenamed
unifiers_are_renamed = unifier_renamed

pub entries_are_renamed : EntriesAreRenamed
entries_are_renamed = AssignsRenamed-entries
