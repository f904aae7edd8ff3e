-- The opening of a head's type under an assignment: where the instances of its terms are typed, the instances of the types of its fresh goals are well formed.
use Rattle.std.proofs.Common.{◌≡◌, ℕ, ◌<◌, ◌≤◌, List, [], ◌∷◌, ◌++◌, All, refl, sym, ap, ◌∙◌, subst, arith}
use Rattle.std.proofs.lemmas.List.Elements.{All-nil, All-cons}
use Rattle.lf_definitions.specs.Syntax.{LfTerm, Spine, no_args, arg, joined, SimpleType, LfType, LfAtom, Context, shape_of, shape_size, binders_of}
use Rattle.lf_definitions.specs.Renaming.{rename_type}
use Rattle.lf_definitions.specs.Shaping.{Scope, under_all, Shaped, ShapedSpine, shaped_none, shaped_arg, ShapedList, ShapedType, shaped_pi}
use Rattle.lf_definitions.specs.ShapedGoals.{ShapedTyping}
use Rattle.lf_definitions.specs.Substitution.{stays, Replacement, push, push_all, SubstitutedSpine, substituted_none, substituted_arg, SubstitutedType, substituted_pi}
use Rattle.lf_definitions.specs.Replacements.{Goes}
use Rattle.lf_definitions.specs.Instantiation.{Assignment, instantiating, InstantiatedSpine, InstantiatedType}
use Rattle.lf_definitions.specs.Typing.{Typing, with_variable, TypedSpine, typed_arg, Kinds, Formed, formed_pi, LfGoal, shapes_of_kinds}
use Rattle.lf_definitions.proofs.ShapedGoals.{ShapedTyping-with_variable}
use Rattle.lf_definitions.proofs.Telescopes.{under_all-append, push_all-joined}
use Rattle.lf_definitions.proofs.Types.{shape_of-SubstitutedType}
use Rattle.lf_definitions.proofs.Typing.{ShapedType-Formed}
use Rattle.head_laws.specs.AssignmentLaws.{AssignsClosedTerms}
use Rattle.head_laws.proofs.AssignmentLaws.{instantiation_goes_along_with_substitution}
use Rattle.typing_laws.specs.TypedReplacements.{GoesTyped}
use Rattle.typing_laws.proofs.TypedReplacements.{GoesTyped-push}
use Rattle.typing_laws.proofs.Placing.{KeepsGlobalHeads, KeepsKinds-globals}
use Rattle.typing_laws.proofs.KeepingFormed.{Formed-SubstitutedType}
use Rattle.opening_laws.specs.Openings.{keeping, fresh_goal, IsOpenedFrom, opens_conclusion, opens_fixed, opens_fresh}
use Rattle.typed_steps.proofs.Contexts.{outside_type}

-- one more argument
shaped_more : (inner : List SimpleType) (sub : Spine) (t : LfTerm) (S : Scope) (s : SimpleType) → ShapedList S sub inner → Shaped S t s → ShapedList S (joined sub (arg t no_args)) (inner ++ s ∷ [])
shaped_more [] no_args t S s shaped_none p = shaped_arg p shaped_none
shaped_more [] (arg u us) t S s q p = elim q [ ]
shaped_more (i ∷ inner) no_args t S s q p = elim q [ ]
shaped_more (i ∷ inner) (arg u us) t S s (shaped_arg q qs) p = shaped_arg q (shaped_more inner us t S s qs p)

put_more : {σ : Replacement} {sub later : Spine} → SubstitutedSpine σ sub later → (t v : LfTerm) → SubstitutedSpine σ (arg t no_args) (arg v no_args) → SubstitutedSpine σ (joined sub (arg t no_args)) (joined later (arg v no_args))
put_more substituted_none t v p = p
put_more (substituted_arg q qs) t v p = substituted_arg q (put_more qs t v p)

module _ (kinds : Kinds) (σ : Assignment) (closed : AssignsClosedTerms σ) (depth : ℕ) (S T : Scope) (goes_σ : Goes depth S T (instantiating σ)) (There : Typing) (shaped_there : ShapedTyping kinds There)
    (kept : List ℕ) (count : ℕ) (entries : Context) where
  -- A fresh goal whose type, as it is seen from the whole context, has a well-formed instance.
  abbrev pub HasFormedInstance : LfGoal → Type 0
  HasFormedInstance f = (inside : LfType) × (f ≡ fresh_goal f.id entries inside) × (d : LfType) × InstantiatedType σ (rename_type (keeping kept count) inside) d × Formed kinds There d

  pub fresh_formed_from : {fixed : List (ℕ × ℕ)} {ρ : Replacement} {i first : ℕ} {type : LfType} {ts : Spine} {goals : List LfGoal} {last : LfAtom} →
      IsOpenedFrom kept count entries fixed ρ i first type ts goals last →
      (inner : List SimpleType) (sub later : Spine) → ρ ≡ push_all sub stays → ShapedList S sub inner → InstantiatedSpine σ sub later →
      ShapedSpine S ts (shape_of type) → ShapedType (shapes_of_kinds kinds) (under_all inner S) type →
      (τ : Replacement) → τ ≡ push_all later stays → (vs : Spine) → InstantiatedSpine σ ts vs → (made : LfType) → InstantiatedType σ type made →
      (p : ℕ) (Γ : Typing) → ShapedTyping kinds Γ → Formed kinds Γ made → GoesTyped p Γ There τ → KeepsGlobalHeads τ → shape_size (shape_of made) ≤ p →
      TypedSpine There τ vs (binders_of made) → All HasFormedInstance goals
  fresh_formed_from (opens_conclusion put) inner sub later is shaped_sub put_sub shaped_ts shaped_type τ τ_is vs puts made result p Γ shaped formed goes keeps small typed = All-nil HasFormedInstance
  fresh_formed_from (opens_fixed {a = a} {b = b} place e rest) inner sub later is shaped_sub put_sub (shaped_arg {t = t} q qs) (shaped_pi x y) τ τ_is vs (substituted_arg {v = v} r rs) made
      (substituted_pi {c = a'} {d = b'} v1 v2) p Γ shaped (formed_pi fx fy) goes keeps small (typed_arg c result ty typed) =
      let less : shape_size (shape_of c) < p = omega (arith, small, ap shape_size (shape_of-SubstitutedType result)) in
      fresh_formed_from rest (inner ++ shape_of a ∷ []) (joined sub (arg t no_args)) (joined later (arg v no_args))
      (ap (push t) is ∙ sym (push_all-joined sub (arg t no_args) stays)) (shaped_more inner sub t S (shape_of a) shaped_sub q) (put_more put_sub t v (substituted_arg r substituted_none))
      qs (subst (λ Θ. ShapedType (shapes_of_kinds kinds) Θ b) (sym (under_all-append inner (shape_of a ∷ []) S)) y)
      (push v τ) (ap (push v) τ_is ∙ sym (push_all-joined later (arg v no_args) stays)) _ rs b' (outside_type σ closed 1 b b' v2)
      p (with_variable a' Γ) (ShapedTyping-with_variable kinds Γ a' shaped (ShapedType-Formed fx)) fy (GoesTyped-push kinds p Γ There τ shaped result ty less goes) keeps
      (omega (arith, small)) typed
  fresh_formed_from (opens_fresh {first = first} {a = a} {b = b} {goals = goals} inside e put rest) inner sub later is shaped_sub put_sub (shaped_arg {t = t} q qs) (shaped_pi x y) τ τ_is vs (substituted_arg {v = v} r rs) made
      (substituted_pi {c = a'} {d = b'} v1 v2) p Γ shaped (formed_pi fx fy) goes keeps small (typed_arg c result ty typed) =
      let less : shape_size (shape_of c) < p = omega (arith, small, ap shape_size (shape_of-SubstitutedType result)) in
      let along = (instantiation_goes_along_with_substitution σ closed depth S T goes_σ inner [] sub later shaped_sub put_sub).2 (shapes_of_kinds kinds) a a' (rename_type (keeping kept count) inside) c x v1
      (subst (λ θ. SubstitutedType θ a (rename_type (keeping kept count) inside)) is put) in
      let instance : InstantiatedType σ (rename_type (keeping kept count) inside) c = along.1 (subst (λ θ. SubstitutedType θ a' c) τ_is result) in
      All-cons HasFormedInstance (fresh_goal first entries inside) goals
      (inside, refl, c, instance, Formed-SubstitutedType kinds p fx There τ shaped shaped_there goes (KeepsKinds-globals kinds Γ τ shaped keeps) result)
      (fresh_formed_from rest (inner ++ shape_of a ∷ []) (joined sub (arg t no_args)) (joined later (arg v no_args))
      (ap (push t) is ∙ sym (push_all-joined sub (arg t no_args) stays)) (shaped_more inner sub t S (shape_of a) shaped_sub q) (put_more put_sub t v (substituted_arg r substituted_none))
      qs (subst (λ Θ. ShapedType (shapes_of_kinds kinds) Θ b) (sym (under_all-append inner (shape_of a ∷ []) S)) y)
      (push v τ) (ap (push v) τ_is ∙ sym (push_all-joined later (arg v no_args) stays)) _ rs b' (outside_type σ closed 1 b b' v2)
      p (with_variable a' Γ) (ShapedTyping-with_variable kinds Γ a' shaped (ShapedType-Formed fx)) fy (GoesTyped-push kinds p Γ There τ shaped result ty less goes) keeps
      (omega (arith, small)) typed)
