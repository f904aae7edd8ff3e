-- What a well-formed type is opened to is typed.
use Rattle.std.proofs.Common.{◌≡◌, ℕ, suc, ◌+◌, ◌<◌, ◌≤◌, Some, None, option_map, List, [], ◌++◌, All, length, refl, sym, ap, ◌∙◌, subst, arith}
use Rattle.std.proofs.lemmas.List.Elements.{All-nil, All-cons, All-head, All-tail, All-append, All-weaker}
use Rattle.lf_definitions.specs.Syntax.{LfHead, bound, constant, metavariable, at, Spine, no_args, arg, LfType, pi, family, LfAtom, atomic, Context, shape_of, shapes_of_types, shape_size, binders_of, conclusion_atom}
use Rattle.lf_definitions.specs.Renaming.{rename_type}
use Rattle.lf_definitions.specs.Shaping.{under_all, ShapedType}
use Rattle.lf_definitions.specs.ShapedGoals.{shaped_empty, ShapedTyping, ShapedSignature, ShapedGoals}
use Rattle.lf_definitions.specs.Substitution.{stays, Replacement, push, push_all, SubstitutedSpine, SubstitutedType, substituted_family}
use Rattle.lf_definitions.specs.Expansion.{eta}
use Rattle.lf_definitions.specs.Typing.{Typing, with_variable, with_context, Typed, typed_at, TypedSpine, typed_none, typed_arg, Kinds, Formed, formed_pi, FormedContext, LfGoal, goal_type, shapes_of, shapes_of_kinds}
use Rattle.lf_definitions.specs.Signatures.{LfSignature, kinds_in, typing_in}
use Rattle.lf_definitions.specs.GoalLists.{FormedGoal}
use Rattle.lf_definitions.proofs.Types.{shape_of-SubstitutedType}
use Rattle.lf_definitions.proofs.Typing.{ShapedType-Formed}
use Rattle.lf_definitions.proofs.Variables.{with_context-constant, with_context-metavariable}
use Rattle.lf_definitions.proofs.Growth.{TypesGrow, TypesGrow-with_context, Formed-grown, FormedContext-grown}
use Rattle.lf_definitions.proofs.ShapedGoals.{ShapedTyping-typing_in, ShapedTyping-with_variable, ShapedTyping-with_context, shapes_of-with_context, ShapedContext-FormedContext}
use Rattle.typing_laws.specs.TypedReplacements.{GoesTyped, typed_stays}
use Rattle.typing_laws.specs.EtaLaws.{expanded}
use Rattle.typing_laws.proofs.Fixing.{stays_type}
use Rattle.typing_laws.proofs.TypedReplacements.{GoesTyped-push}
use Rattle.typing_laws.proofs.Placing.{KeepsGlobalHeads, KeepsKinds-globals}
use Rattle.typing_laws.proofs.KeepingFormed.{Formed-SubstitutedType}
use Rattle.typing_laws.proofs.ClosedTypes.{shaped_typings_are_closed}
use Rattle.typing_laws.proofs.EtaTyping.{eta_forms_have_their_types, expansions_have_their_types}
use Rattle.typing_laws.proofs.GoalLists.{Formed-pis, FormedContext-pis}
use Rattle.opening_laws.specs.Openings.{context_variable, keeping, AreKept, fresh_goal, kept_variables, IsOpenedFrom, opens_conclusion, opens_fixed, opens_fresh, LfOpened, IsOpened}
use Rattle.opening_laws.specs.Conditions.{MayBeOpened, FixedAreTyped}
use Rattle.opening_laws.specs.Laws.{IsWellTyped, OpeningsAreTyped}
use Rattle.opening_laws.proofs.Kept.{SameShapes, same_kept}
use Rattle.opening_laws.proofs.Shapes.{whole_type, goal_type-fresh_goal}
use Rattle.opening_laws.proofs.Numbers.{follow_from, keeps_type, typed_among, distinct_more}
use Rattle.opening_laws.proofs.KeptTypes.{SeesTypes, SameGlobals, sees_kept, formed_there, entries_formed}
use Rattle.opening_laws.proofs.KeptVariables.{HasNoVariables, seen_among, typed_variables}
use Rattle.opening_laws.proofs.Laws.{openings_are_shaped}

-- A goal is well formed, by the typing of the heads but for variables.
abbrev IsFormedOver : Kinds → Typing → LfGoal → Type 0
IsFormedOver kinds B g = FormedContext kinds B g.context × Formed kinds (with_context g.context B) (atomic g.target)

-- The conclusion is that of the type, with all terms substituted.
ends_from : {kept : List ℕ} {count : ℕ} {entries : Context} {fixed : List (ℕ × ℕ)} {σ : Replacement} {i first : ℕ} {type : LfType} {ts : Spine} {goals : List LfGoal} {last : LfAtom} →
    IsOpenedFrom kept count entries fixed σ i first type ts goals last →
    (last.atom_family ≡ (conclusion_atom type).atom_family) × SubstitutedSpine (push_all ts σ) (conclusion_atom type).atom_args last.atom_args
ends_from (opens_conclusion put) = (refl, put)
ends_from (opens_fixed place e rest) = ends_from rest
ends_from (opens_fresh inside e put rest) = ends_from rest

module _ (kinds : Kinds) (B : Typing) (shaped_B : ShapedTyping kinds B) (none : (n : ℕ) → B (bound n) ≡ None) (ctx : Context) (kept : List ℕ) (entries : Context) (are : AreKept kept 0 ctx entries)
    (formed_ctx : FormedContext kinds B ctx) where
  abbrev Everything : Typing
  Everything = with_context ctx B

  abbrev Among : Typing
  Among = with_context entries B

  nothing_seen : SeesTypes (keeping kept 0) B B
  nothing_seen n = none n ∙ sym (ap (option_map (rename_type (keeping kept 0))) (none n))

  sees : SeesTypes (keeping kept (length ctx)) Among Everything
  sees =
      let start : 0 + length ctx ≡ length ctx = omega arith in
      subst (λ n. SeesTypes (keeping kept n) Among Everything) start (sees_kept are B B nothing_seen)

  same_globals : SameGlobals Among Everything
  same_globals =
      let closed = (shaped_typings_are_closed kinds B shaped_B).0 in (
        λ c. with_context-constant ctx B c ∙ sym (with_context-constant entries B c),
        λ g. with_context-metavariable ctx B g ∙ sym (with_context-metavariable entries B g),
        λ c a e. closed.0 c a (sym (with_context-constant entries B c) ∙ e),
        λ g a e. closed.1 g a (sym (with_context-metavariable entries B g) ∙ e),
      )

  formed_entries : FormedContext kinds B entries
  formed_entries =
      let closed = shaped_typings_are_closed kinds B shaped_B in
      entries_formed are kinds closed.1 B B nothing_seen ((λ c. refl), (λ g. refl), closed.0.0, closed.0.1) formed_ctx

  shaped_everything : ShapedTyping kinds Everything
  shaped_everything = ShapedTyping-with_context ctx kinds B shaped_B (ShapedContext-FormedContext formed_ctx)

  heads_have_no_variables : HasNoVariables (shapes_of B)
  heads_have_no_variables n = ap (option_map shape_of) (none n)

  typed_kept_variables : TypedSpine Everything stays (kept_variables kept (length ctx) entries) entries
  typed_kept_variables =
      typed_variables kinds B Everything shaped_B heads_have_no_variables kept (length ctx) entries sees same_globals (ShapedContext-FormedContext formed_entries)

  same_seen_shapes : SameShapes (keeping kept (length ctx)) (under_all (shapes_of_types entries) (shapes_of B)) (under_all (shapes_of_types ctx) (shapes_of B))
  same_seen_shapes =
      let start : 0 + length ctx ≡ length ctx = omega arith in
      subst (λ n. SameShapes (keeping kept n) (under_all (shapes_of_types entries) (shapes_of B)) (under_all (shapes_of_types ctx) (shapes_of B))) start
      (same_kept are (shapes_of B) (shapes_of B) (λ h. refl))

  -- A fresh goal, whose type is well formed as it is seen from the whole context.
  formed_inside : (inside : LfType) → Formed kinds Everything (rename_type (keeping kept (length ctx)) inside) → Formed kinds Among inside
  formed_inside inside formed =
      formed_there kept (length ctx) Among Everything sees same_globals kinds (shaped_typings_are_closed kinds B shaped_B).1 inside formed

  formed_fresh_goal : (g : ℕ) (inside : LfType) → Formed kinds Everything (rename_type (keeping kept (length ctx)) inside) → IsFormedOver kinds B (fresh_goal g entries inside)
  formed_fresh_goal g inside formed =
      FormedContext-pis (entries ++ binders_of inside) (atomic (conclusion_atom inside))
      (subst (Formed kinds B) (sym (goal_type-fresh_goal g entries inside)) (Formed-pis entries inside formed_entries (formed_inside inside formed)))

  typed_fresh_term : (g : ℕ) (inside : LfType) → Formed kinds Everything (rename_type (keeping kept (length ctx)) inside) → B (metavariable g) ≡ Some (goal_type (fresh_goal g entries inside)) →
      Typed Everything (expanded (metavariable g) (kept_variables kept (length ctx) entries) (shape_of (rename_type (keeping kept (length ctx)) inside))) (rename_type (keeping kept (length ctx)) inside)
  typed_fresh_term g inside formed known =
      let end = conclusion_atom inside in
      let shaped_inside = subst (λ Γ. ShapedType (shapes_of_kinds kinds) Γ inside) (shapes_of-with_context entries B) (ShapedType-Formed (formed_inside inside formed)) in
      expansions_have_their_types kinds Everything shaped_everything (metavariable g) entries (binders_of inside) end.atom_family end.atom_args (kept_variables kept (length ctx) entries)
      (rename_type (keeping kept (length ctx)) inside)
      (with_context-metavariable ctx B g ∙ known)
      typed_kept_variables
      (subst (λ a. SubstitutedType (push_all (kept_variables kept (length ctx) entries) stays) a (rename_type (keeping kept (length ctx)) inside)) (sym (whole_type inside))
      (seen_among (shapes_of_kinds kinds) (shapes_of B) (under_all (shapes_of_types ctx) (shapes_of B)) heads_have_no_variables kept (length ctx) entries (λ h s e. same_seen_shapes h ∙ e) inside shaped_inside))

  -- The metavariable of a goal has the goal's type.
  abbrev HasGoalType : LfGoal → Type 0
  HasGoalType g = B (metavariable g.id) ≡ Some (goal_type g)

  typed_from : {fixed : List (ℕ × ℕ)} {σ : Replacement} {i first : ℕ} {type : LfType} {ts : Spine} {goals : List LfGoal} {last : LfAtom} → IsOpenedFrom kept (length ctx) entries fixed σ i first type ts goals last →
      (p : ℕ) (Γ : Typing) → ShapedTyping kinds Γ → Formed kinds Γ type → GoesTyped p Γ Everything σ → KeepsGlobalHeads σ → shape_size (shape_of type) ≤ p →
      FixedAreTyped Everything (length ctx) fixed σ i type ts → All HasGoalType goals →
      TypedSpine Everything σ ts (binders_of type) × Formed kinds Everything (atomic last) × All (IsFormedOver kinds B) goals
  typed_from (opens_conclusion {σ = σ} put) p Γ shaped formed goes keeps small asks found =
      (typed_none, Formed-SubstitutedType kinds p formed Everything σ shaped shaped_everything goes (KeepsKinds-globals kinds Γ σ shaped keeps) (substituted_family put), All-nil (IsFormedOver kinds B))
  typed_from (opens_fixed {σ = σ} {a = a} place e rest) p Γ shaped (formed_pi x y) goes keeps small asks found =
      let v = context_variable (length ctx) place in
      let c = asks.0 place e in
      let same : shape_of c.0 ≡ shape_of a = shape_of-SubstitutedType c.1 in
      let typed : Typed Everything (eta v (shape_of a)) c.0 = subst (λ s. Typed Everything (eta v s) c.0) same (eta_forms_have_their_types kinds Everything shaped_everything v c.0 c.2) in
      let less : shape_size (shape_of c.0) < p = omega (arith, small, ap shape_size same) in
      let r = typed_from rest p (with_variable a Γ) (ShapedTyping-with_variable kinds Γ a shaped (ShapedType-Formed x)) y (GoesTyped-push kinds p Γ Everything σ shaped c.1 typed less goes) keeps
      (omega (arith, small)) asks.1 found in
      (typed_arg c.0 c.1 typed r.0, r.1, r.2)
  typed_from (opens_fresh {σ = σ} {first = first} {a = a} {goals = goals} inside e put rest) p Γ shaped (formed_pi x y) goes keeps small asks found =
      let g = fresh_goal first entries inside in
      let c = rename_type (keeping kept (length ctx)) inside in
      let u = expanded (metavariable first) (kept_variables kept (length ctx) entries) (shape_of a) in
      let same : shape_of c ≡ shape_of a = shape_of-SubstitutedType put in
      let formed = Formed-SubstitutedType kinds p x Everything σ shaped shaped_everything goes (KeepsKinds-globals kinds Γ σ shaped keeps) put in
      let typed : Typed Everything u c =
      subst (λ s. Typed Everything (expanded (metavariable first) (kept_variables kept (length ctx) entries) s) c) same (typed_fresh_term first inside formed (All-head HasGoalType g goals found)) in
      let less : shape_size (shape_of c) < p = omega (arith, small, ap shape_size same) in
      let r = typed_from rest p (with_variable a Γ) (ShapedTyping-with_variable kinds Γ a shaped (ShapedType-Formed x)) y (GoesTyped-push kinds p Γ Everything σ shaped put typed less goes) keeps
      (omega (arith, small)) asks.1 (All-tail HasGoalType g goals found) in
      (typed_arg c put typed r.0, r.1, All-cons (IsFormedOver kinds B) g goals (formed_fresh_goal first inside formed) r.2)

-- What is asked for in a typing is there in one that has more.
asks_more : (Γ Δ : Typing) → TypesGrow Γ Δ → (count : ℕ) (fixed : List (ℕ × ℕ)) (σ : Replacement) (i : ℕ) (type : LfType) (ts : Spine) → FixedAreTyped Γ count fixed σ i type ts → FixedAreTyped Δ count fixed σ i type ts
asks_more Γ Δ grow count fixed σ i (family f args) ts asks = tt
asks_more Γ Δ grow count fixed σ i (pi a b) no_args asks = tt
asks_more Γ Δ grow count fixed σ i (pi a b) (arg t ts) asks = (
  λ place e. let c = asks.0 place e in (c.0, c.1, grow (context_variable count place) c.0 c.2),
  asks_more Γ Δ grow count fixed (push t σ) (suc i) b ts asks.1,
)

nothing_fixed : (Γ : Typing) (count : ℕ) (σ : Replacement) (i : ℕ) (type : LfType) (ts : Spine) → FixedAreTyped Γ count [] σ i type ts
nothing_fixed Γ count σ i (family f args) ts = tt
nothing_fixed Γ count σ i (pi a b) no_args = tt
nothing_fixed Γ count σ i (pi a b) (arg t ts) = (λ place e. absurd cc, nothing_fixed Γ count (push t σ) (suc i) b ts)

-- Among more goals all types that were known are.
types_stay : (sig : LfSignature) (old new : List LfGoal) → TypesGrow (typing_in sig old []) (typing_in sig (old ++ new) [])
types_stay sig old new (bound n) a e = absurd cc
types_stay sig old new (constant c) a e = e
types_stay sig old new (metavariable g) a e = keeps_type old new g a e

module _ (sig : LfSignature) (shaped_sig : ShapedSignature sig) (goals : List LfGoal) (shaped_goals : ShapedGoals sig goals) (ctx : Context) (formed_ctx : FormedContext (kinds_in sig) (typing_in sig goals []) ctx)
    (type : LfType) (formed : Formed (kinds_in sig) (typing_in sig goals ctx) type) (kept : List ℕ) (first : ℕ) (result : LfOpened) where
  typed_opening : (fixed : List (ℕ × ℕ)) → MayBeOpened sig goals ctx kept fixed first type → IsOpened ctx kept fixed first type result →
      FixedAreTyped (typing_in sig goals ctx) (length ctx) fixed stays 0 type result.terms → IsWellTyped sig goals ctx type result
  typed_opening fixed may opened asks =
      let kinds = kinds_in sig in
      let new = result.fresh in
      let all = goals ++ new in
      let p = shape_size (shape_of type) in
      let numbered = follow_from kept (length ctx) opened.entries fixed opened.opened in
      let shaped_all = (openings_are_shaped sig goals ctx kept fixed first type may result opened).3 shaped_goals in
      let grow = types_stay sig goals new in
      let grow_ctx = TypesGrow-with_context ctx (typing_in sig goals []) (typing_in sig all []) grow in
      let formed_all_ctx = FormedContext-grown formed_ctx kinds (typing_in sig all []) (λ f kind e. e) grow in
      let goes : GoesTyped p (typing_in sig goals ctx) (typing_in sig all ctx) stays = λ h a e. (a, stays_type a, typed_stays (grow_ctx h a e)) in
      let r = typed_from kinds (typing_in sig all []) (ShapedTyping-typing_in sig all [] shaped_sig shaped_all shaped_empty) (λ n. refl) ctx kept opened.entries opened.are_kept
      formed_all_ctx opened.opened p (typing_in sig goals ctx) (ShapedTyping-typing_in sig goals ctx shaped_sig shaped_goals may.context_is_shaped) formed goes ((λ c. refl), (λ g. refl)) (omega arith)
      (asks_more (typing_in sig goals ctx) (typing_in sig all ctx) grow_ctx (length ctx) fixed stays 0 type result.terms asks)
      (typed_among new goals first may.goals_are_below numbered) in
      let ends = ends_from opened.opened in
      let applied : (h : LfHead) → typing_in sig all ctx h ≡ Some type → Typed (typing_in sig all ctx) (at h result.terms) (atomic result.end) =
      λ h known. subst (λ f. Typed (typing_in sig all ctx) (at h result.terms) (family f result.end.atom_args)) (sym ends.0)
      (typed_at (binders_of type) (conclusion_atom type).atom_args (known ∙ ap Some (sym (whole_type type))) r.0 ends.1) in
      let grown : (g : LfGoal) → FormedGoal sig goals g → FormedGoal sig all g = λ g was. (
        FormedContext-grown was.0 kinds (typing_in sig all []) (λ f kind e. e) grow,
        Formed-grown was.1 kinds (typing_in sig all g.context) (λ f kind e. e) (TypesGrow-with_context g.context (typing_in sig goals []) (typing_in sig all []) grow),
      ) in (
        r.0,
        applied,
        r.1,
        r.2,
        λ formed_goals. (
          distinct_more new goals first may.goals_differ may.goals_are_below numbered,
          All-append (FormedGoal sig all) goals new (All-weaker (FormedGoal sig goals) (FormedGoal sig all) grown goals formed_goals.1) r.2,
        ),
      )

pub openings_are_typed : OpeningsAreTyped
openings_are_typed sig shaped_sig goals shaped_goals ctx formed_ctx type formed kept first result = (
  typed_opening sig shaped_sig goals shaped_goals ctx formed_ctx type formed kept first result,
  λ may opened. typed_opening sig shaped_sig goals shaped_goals ctx formed_ctx type formed kept first result [] may opened (nothing_fixed (typing_in sig goals ctx) (length ctx) stays 0 type result.terms),
)
