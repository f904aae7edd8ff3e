-- A spine by its parts: what each test that fails says, and what is left once all were passed.
use Rattle.std.proofs.Common.{◌≡◌, ◌≢◌, ℕ, Bool, true, false, MatchBool, Option, Some, None, List, [], length, reverse, refl, sym, ap, ◌∙◌, subst, subst₂}
use Rattle.lf_definitions.specs.Syntax.{LfHead, LfTerm, lam, at, Spine, SimpleType, LfType, family, pis, Context, shapes_of_types, args_count}
use Rattle.lf_definitions.specs.Renaming.{next_by, lifted_by, rename_type, rename_spine, rename_context}
use Rattle.lf_definitions.specs.Shaping.{Scope, under_all, ShapedSpine, ShapedType, shaped_family, ShapedList}
use Rattle.lf_definitions.specs.Substitution.{stays, push_all, SubstitutedSpine}
use Rattle.lf_definitions.specs.Typing.{Typing, Typed, typed_at, TypedSpine, Kinds, shapes_of, shapes_of_kinds}
use Rattle.lf_definitions.specs.Failures.{FailsTerm, fails_lam, fails_head, fails_count, fails_in_argument, fails_result, FailsSpine}
use Rattle.lf_definitions.specs.ShapedGoals.{ShapedTyping, ShapedContext}
use Rattle.lf_definitions.proofs.Weakening.{rename_type-pis, args_count-TypedSpine}
use Rattle.lf_definitions.proofs.Typing.{ShapedSpine-TypedSpine}
use Rattle.lf_definitions.proofs.TypedSpines.{SubstitutedSpine-renamed_outside, length-rename_context}
use Rattle.lf_definitions.proofs.ShapedGoals.{ShapedTyping-head, ShapedContext-pis, ShapedType-under_pis}
use Rattle.lf_definitions.proofs.Unrenaming.{ShapedType-unrenamed}
use Rattle.lf_terms.specs.Putting.{putting, Puts, ArgsShaped}
use Rattle.lf_kernel.specs.declared.head_type.HeadType.{HeadType}
use Rattle.lf_kernel.specs.Heads.{declared_type}
use Rattle.lf_kernel.specs.ShapedPlaces.{binders_scope}
use Rattle.lf_kernel.specs.Results.{Gives}
use Rattle.lf_kernel.proofs.Expected.{shapes_of-raised}

pub lam_fails : (Γ : Typing) (t b : LfTerm) (f : ℕ) (results : Spine) (path : List ℕ) → t ≡ lam b → path ≡ [] → FailsTerm Γ t (family f results) (reverse path)
lam_fails Γ t b f results path t_is path_is = subst₂ (λ x p. FailsTerm Γ x (family f results) (reverse p)) (sym t_is) (sym path_is) (fails_lam Γ b f results)

pub head_fails : (Γ : Typing) (h : LfHead) (ts results : Spine) (f : ℕ) (path : List ℕ) → ◌≡◌ {A = Option LfType} None (Γ h) → path ≡ [] → FailsTerm Γ (at h ts) (family f results) (reverse path)
head_fails Γ h ts results f path e path_is = subst (λ p. FailsTerm Γ (at h ts) (family f results) (reverse p)) (sym path_is) (fails_head Γ h ts f results (sym e))

-- the type of a head as binders over a family, seen from the spine
module _ (Γ : Typing) (h : LfHead) (found : HeadType) (known : ◌≡◌ {A = Option LfType} (Some (rename_type (next_by found.raise) (declared_type found))) (Γ h)) where
  abbrev pub binders_seen : Context
  binders_seen = rename_context (next_by found.raise) found.binders.now

  abbrev pub args_seen : Spine
  args_seen = rename_spine (lifted_by (length found.binders.now) (next_by found.raise)) found.args.now

  pub seen : Γ h ≡ Some (pis binders_seen (family found.family args_seen))
  seen = sym known ∙ ap Some (rename_type-pis (next_by found.raise) found.binders.now (family found.family found.args.now))

  pub count_fails : (ts results : Spine) (f : ℕ) (path : List ℕ) → args_count ts ≢ length found.binders.now → path ≡ [] → FailsTerm Γ (at h ts) (family f results) (reverse path)
  count_fails ts results f path differ path_is =
      subst (λ p. FailsTerm Γ (at h ts) (family f results) (reverse p)) (sym path_is)
      (fails_count Γ h ts results f found.family binders_seen args_seen seen (λ e. differ (e ∙ length-rename_context (next_by found.raise) found.binders.now)))

  pub argument_of_spine_fails : (ts results : Spine) (f : ℕ) (path : List ℕ) → args_count ts ≡ length found.binders.now → FailsSpine Γ stays ts binders_seen 0 path → FailsTerm Γ (at h ts) (family f results) path
  argument_of_spine_fails ts results f path count fails =
      fails_in_argument Γ h ts results f found.family binders_seen args_seen path seen (count ∙ sym (length-rename_context (next_by found.raise) found.binders.now)) fails

  -- what is under the binders, with the arguments put
  result_seen : (ts r : Spine) → TypedSpine Γ stays ts binders_seen → SubstitutedSpine (putting ts found.raise 0) found.args.now r → SubstitutedSpine (push_all ts stays) args_seen r
  result_seen ts r typed result =
      subst (λ n. SubstitutedSpine (push_all ts stays) (rename_spine (lifted_by n (next_by found.raise)) found.args.now) r)
      (args_count-TypedSpine typed ∙ length-rename_context (next_by found.raise) found.binders.now)
      (SubstitutedSpine-renamed_outside ts (next_by found.raise) found.args.now r result)

  pub spine_is_typed : (ts r results : Spine) (f : ℕ) → TypedSpine Γ stays ts binders_seen → SubstitutedSpine (putting ts found.raise 0) found.args.now r → family found.family r ≡ family f results → Typed Γ (at h ts) (family f results)
  spine_is_typed ts r results f typed result same = subst (Typed Γ (at h ts)) same (typed_at binders_seen args_seen seen typed (result_seen ts r typed result))

  pub result_fails : (ts r results : Spine) (f : ℕ) (path : List ℕ) → TypedSpine Γ stays ts binders_seen → SubstitutedSpine (putting ts found.raise 0) found.args.now r → family found.family r ≢ family f results → path ≡ [] →
      FailsTerm Γ (at h ts) (family f results) (reverse path)
  result_fails ts r results f path typed result differ path_is =
      subst (λ p. FailsTerm Γ (at h ts) (family f results) (reverse p)) (sym path_is)
      (fails_result Γ h ts results r f found.family binders_seen args_seen seen typed (result_seen ts r typed result) differ)

  -- The binders and what is under them are shaped where they stand.
  declared_shaped : (kinds : Kinds) → ShapedTyping kinds Γ → ShapedType (shapes_of_kinds kinds) (binders_scope Γ found.raise) (declared_type found)
  declared_shaped kinds shaped =
      ShapedType-unrenamed (declared_type found) (next_by found.raise) (binders_scope Γ found.raise) (shapes_of Γ) (λ k s e. e)
      (ShapedTyping-head kinds Γ shaped h (rename_type (next_by found.raise) (declared_type found)) (sym known))

  pub binders_shaped : (kinds : Kinds) → ShapedTyping kinds Γ → ShapedContext (shapes_of_kinds kinds) (binders_scope Γ found.raise) found.binders.now
  binders_shaped kinds shaped = ShapedContext-pis found.binders.now (family found.family found.args.now) (declared_shaped kinds shaped)

  args_of_family : {kinds : ℕ → Option SimpleType} {Δ : Scope} {f : ℕ} {args : Spine} → ShapedType kinds Δ (family f args) → (s : SimpleType) × ShapedSpine Δ args s
  args_of_family (shaped_family s e ps) = (s, ps)

  pub puts_result : (kinds : Kinds) (ts : Spine) (shapes : List SimpleType) → ShapedTyping kinds Γ → shapes ≡ shapes_of_types found.binders.now → TypedSpine Γ stays ts binders_seen → Puts ts shapes found.raise 0 (ArgsShaped found.args.now)
  puts_result kinds ts shapes shaped shapes_are typed =
      let inside = args_of_family (ShapedType-under_pis found.binders.now (family found.family found.args.now) (declared_shaped kinds shaped)) in
      record {
        outer = binders_scope Γ found.raise;
        target = shapes_of Γ;
        local = [];
        shape = inside.0;
        depth_is = refl;
        keeps = λ k s e. e;
        shaped_sub = subst (ShapedList (shapes_of Γ) ts) (shapes_of-raised (next_by found.raise) found.binders.now ∙ sym shapes_are) (ShapedSpine-TypedSpine typed);
        shaped = subst (λ l. ShapedSpine (under_all l (binders_scope Γ found.raise)) found.args.now inside.0) (sym shapes_are) inside.1;
      }

-- what the test of the result says, by its answer
pub gives_it : (h : HeadType) (args : Spine) (a : LfType) (same : Bool) → same ≡ true → Gives h args a same → (r : Spine) × SubstitutedSpine (putting args h.raise 0) h.args.now r × (family h.family r ≡ a)
gives_it h args a same is (r, result, known) = (r, result, subst (λ b. MatchBool b (family h.family r ≡ a) (family h.family r ≢ a)) is known)

pub gives_another : (h : HeadType) (args : Spine) (a : LfType) (same : Bool) → same ≡ false → Gives h args a same → (r : Spine) × SubstitutedSpine (putting args h.raise 0) h.args.now r × (family h.family r ≢ a)
gives_another h args a same is (r, result, known) = (r, result, subst (λ b. MatchBool b (family h.family r ≡ a) (family h.family r ≢ a)) is known)
