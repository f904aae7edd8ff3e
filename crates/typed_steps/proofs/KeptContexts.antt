-- Goals over the kept entries of a well-formed context: they are well formed where what they have inside is so, as it is seen from the whole context.
use Rattle.std.proofs.Common.{◌≡◌, ℕ, ◌+◌, None, option_map, List, length, refl, sym, ap, ◌∙◌, subst, arith}
use Rattle.lf_definitions.specs.Syntax.{bound, LfType, Context, pis}
use Rattle.lf_definitions.specs.Renaming.{rename_type}
use Rattle.lf_definitions.specs.ShapedGoals.{ShapedContext, ShapedTyping}
use Rattle.lf_definitions.specs.Typing.{Typing, with_context, TypedSpine, Kinds, Formed, FormedContext, shapes_of, shapes_of_kinds}
use Rattle.lf_definitions.specs.Substitution.{stays}
use Rattle.lf_definitions.specs.Syntax.{shape_of}
use Rattle.lf_definitions.proofs.Variables.{with_context-constant, with_context-metavariable}
use Rattle.typing_laws.proofs.ClosedTypes.{shaped_typings_are_closed}
use Rattle.typing_laws.proofs.GoalLists.{Formed-pis}
use Rattle.opening_laws.specs.Openings.{keeping, AreKept, kept_variables}
use Rattle.opening_laws.proofs.Kept.{shaped_kept}
use Rattle.opening_laws.proofs.KeptTypes.{SeesTypes, SameGlobals, sees_kept, formed_there, entries_formed}
use Rattle.opening_laws.proofs.KeptVariables.{HasNoVariables, typed_variables}

module _ (kinds : Kinds) (B : Typing) (shaped_B : ShapedTyping kinds B) (none : (n : ℕ) → B (bound n) ≡ None) (ctx : Context) (kept : List ℕ) (entries : Context) (are : AreKept kept 0 ctx entries) where
  abbrev pub Everything : Typing
  Everything = with_context ctx B

  abbrev pub Among : Typing
  Among = with_context entries B

  nothing_seen : SeesTypes (keeping kept 0) B B
  nothing_seen n = none n ∙ sym (ap (option_map (rename_type (keeping kept 0))) (none n))

  sees : SeesTypes (keeping kept (length ctx)) Among Everything
  sees =
      let start : 0 + length ctx ≡ length ctx = omega arith in
      subst (λ n. SeesTypes (keeping kept n) Among Everything) start (sees_kept are B B nothing_seen)

  same_globals : SameGlobals Among Everything
  same_globals =
      let closed = (shaped_typings_are_closed kinds B shaped_B).0 in (
        λ c. with_context-constant ctx B c ∙ sym (with_context-constant entries B c),
        λ g. with_context-metavariable ctx B g ∙ sym (with_context-metavariable entries B g),
        λ c a e. closed.0 c a (sym (with_context-constant entries B c) ∙ e),
        λ g a e. closed.1 g a (sym (with_context-metavariable entries B g) ∙ e),
      )

  heads_have_no_variables : HasNoVariables (shapes_of B)
  heads_have_no_variables n = ap (option_map shape_of) (none n)

  -- The variables of the kept entries are typed, where the context is shaped.
  pub typed_kept_variables : ShapedContext (shapes_of_kinds kinds) (shapes_of B) ctx → TypedSpine Everything stays (kept_variables kept (length ctx) entries) entries
  typed_kept_variables shaped =
      typed_variables kinds B Everything shaped_B heads_have_no_variables kept (length ctx) entries sees same_globals (shaped_kept are (shapes_of_kinds kinds) (shapes_of B) (shapes_of B) (λ h. refl) shaped)

  module _ (formed_ctx : FormedContext kinds B ctx) where
    formed_entries : FormedContext kinds B entries
    formed_entries =
        let closed = shaped_typings_are_closed kinds B shaped_B in
        entries_formed are kinds closed.1 B B nothing_seen ((λ c. refl), (λ g. refl), closed.0.0, closed.0.1) formed_ctx

    pub formed_over_kept : (inside : LfType) → Formed kinds Everything (rename_type (keeping kept (length ctx)) inside) → Formed kinds B (pis entries inside)
    formed_over_kept inside formed =
        Formed-pis entries inside formed_entries (formed_there kept (length ctx) Among Everything sees same_globals kinds (shaped_typings_are_closed kinds B shaped_B).1 inside formed)
