-- Fresh goals and their terms, as the code makes them.
use Rattle.std.proofs.Common.{◌≡◌, ℕ, ◌+◌, Option, Some, None, List, [], ◌∷◌, ◌++◌, length, map, refl, sym, ap, ap₂, ◌∙◌, subst, arith}
use Rattle.std.proofs.lemmas.List.{map-append, length-map}
use Rattle.lf_definitions.specs.Syntax.{LfHead, metavariable, LfTerm, at, lams, Spine, no_args, arg, joined, SimpleType, base, arrows, arity, LfType, family, pis, LfAtom, Context, binders_of, conclusion_atom}
use Rattle.lf_definitions.specs.Renaming.{rename_spine, rename_type, next_by}
use Rattle.lf_definitions.specs.Substitution.{stays, push_all, SubstitutedType}
use Rattle.lf_definitions.specs.Expansion.{own_variables, eta}
use Rattle.lf_definitions.specs.Typing.{LfGoal}
use Rattle.lf_definitions.proofs.Renaming.{rename_spine-same_head}
use Rattle.lf_definitions.proofs.Telescopes.{arity-arrows, next_by-metavariable}
use Rattle.lf_definitions.proofs.Uniqueness.{unique_type}
use Rattle.typing_laws.specs.EtaLaws.{expanded}
use Rattle.lf_terms.specs.declared.term.Term.{Term}
use Rattle.lf_terms.specs.declared.goal.Goal.{Goal}
use Rattle.lf_terms.specs.Targets.{goal_of}
use Rattle.lf_terms.specs.Terms.{term_of, spine_of}
use Rattle.lf_terms.proofs.Expansions.{joined-no_args}
use Rattle.lf_terms.proofs.Spines.{spine_of-append}
use Rattle.opening_laws.specs.Openings.{context_variable, keeping, fresh_goal, kept_variables}
use Rattle.meta_openings.specs.Arguments.{AddsArgument}
use Rattle.meta_openings.specs.declared.fresh.Setting.{Setting}

-- without binders
pub plain_term : (g : ℕ) (variables made : Spine) (shapes : List SimpleType) → length shapes ≡ 0 → made ≡ variables → at (metavariable g) made ≡ expanded (metavariable g) variables (arrows shapes base)
plain_term g variables made [] none is = ap (at (metavariable g)) (is ∙ sym (joined-no_args (rename_spine (next_by 0) variables) ∙ rename_spine-same_head variables))
plain_term g variables made (s ∷ shapes) none is = absurd (omega (arith, none))

-- under binders
pub term_under : (g count : ℕ) (shapes : List SimpleType) (variables args : Spine) (t : LfTerm) → count ≡ length shapes → args ≡ joined (rename_spine (next_by count) variables) (own_variables (arrows shapes base)) →
    t ≡ lams count (at (metavariable g) args) → t ≡ expanded (metavariable g) variables (arrows shapes base)
term_under g count shapes variables args t counts are is =
    let arity_is : count ≡ arity (arrows shapes base) = counts ∙ sym (arity-arrows shapes) in
    is ∙ ap₂ (λ h xs. lams count (at h xs)) (sym (next_by-metavariable count g)) are
    ∙ ap (λ n. lams n (at (next_by n (metavariable g)) (joined (rename_spine (next_by n) variables) (own_variables (arrows shapes base))))) arity_is

-- the goal
pub goal_is : (g : ℕ) (entries binders ctx : Context) (f : ℕ) (args : Spine) → ctx ≡ entries ++ binders →
    record { id = g; context = ctx; target = record { atom_family = f; atom_args = args } } ≡ fresh_goal g entries (pis binders (family f args))
goal_is g entries binders ctx f args is = ap (over (record { atom_family = f; atom_args = args })) is ∙ whole binders entries
  where
    over : LfAtom → Context → LfGoal
    over target c = record { id = g; context = c; target = target }

    parts : (bs : Context) → (binders_of (pis bs (family f args)) ≡ bs) × (conclusion_atom (pis bs (family f args)) ≡ record { atom_family = f; atom_args = args })
    parts [] = (refl, refl)
    parts (b ∷ bs) = let r = parts bs in (ap (λ l. b ∷ l) r.0, r.1)

    whole : (bs es : Context) → over (record { atom_family = f; atom_args = args }) (es ++ bs) ≡ fresh_goal g es (pis bs (family f args))
    whole bs es = ap₂ (λ l t. over t (es ++ l)) (sym (parts bs).0) (sym (parts bs).1)

module _ (setting : Setting) (s : SimpleType) (a : LfType) where
  pub adds_fixed : (o : Option ℕ) (place count : ℕ) (h : LfHead) (old new : List Term) (t : Term) (goals : List LfGoal) → o ≡ Some place → new ≡ old ++ t ∷ [] → term_of t ≡ eta h s →
      h ≡ context_variable count place → count ≡ length setting.shapes.now → AddsArgument setting o s a (spine_of old) goals (spine_of new) goals
  adds_fixed o place count h old new t goals is pushed made variable counts =
      subst (λ x. AddsArgument setting x s a (spine_of old) goals (spine_of new) goals) (sym is) (
        ap spine_of pushed ∙ spine_of-append old t
            ∙ ap (λ x. joined (spine_of old) (arg x no_args)) (made ∙ ap (λ k. eta k s) (variable ∙ ap (λ n. context_variable n place) counts)),
        refl,
      )

  pub adds_fresh : (o : Option ℕ) (number count : ℕ) (old new : List Term) (t : Term) (olds news : List Goal) (g : Goal) (put inside : LfType) → o ≡ None → count ≡ length setting.shapes.now →
      new ≡ old ++ t ∷ [] → term_of t ≡ expanded (metavariable number) (kept_variables setting.places.now.kept.now (length setting.shapes.now) setting.entries.now) s →
      number ≡ setting.first + length olds → news ≡ olds ++ g ∷ [] → goal_of g ≡ fresh_goal number setting.entries.now inside →
      ((b : LfType) → rename_type (keeping setting.places.now.kept.now count) b ≡ put → inside ≡ b) → SubstitutedType (push_all (spine_of old) stays) a put →
      AddsArgument setting o s a (spine_of old) (map goal_of olds) (spine_of new) (map goal_of news)
  adds_fresh o number count old new t olds news g put inside is counts pushed made number_is added goal_so seen puts =
      let numbers : number ≡ setting.first + length (map goal_of olds) = number_is ∙ ap (λ n. setting.first + n) (sym (length-map olds goal_of)) in
      let variables = kept_variables setting.places.now.kept.now (length setting.shapes.now) setting.entries.now in
      subst (λ x. AddsArgument setting x s a (spine_of old) (map goal_of olds) (spine_of new) (map goal_of news)) (sym is) (
        ap spine_of pushed ∙ spine_of-append old t ∙ ap (λ x. joined (spine_of old) (arg x no_args)) (made ∙ ap (λ n. expanded (metavariable n) variables s) numbers),
        λ b sub.
            let here : rename_type (keeping setting.places.now.kept.now count) b ≡ put = ap (λ n. rename_type (keeping setting.places.now.kept.now n) b) counts ∙ unique_type sub puts in
            ap (map goal_of) added ∙ map-append goal_of olds (g ∷ [])
            ∙ ap (λ x. map goal_of olds ++ x ∷ []) (goal_so ∙ ap₂ (λ n c. fresh_goal n setting.entries.now c) numbers (seen b here)),
      )
