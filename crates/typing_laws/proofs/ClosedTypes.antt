-- Types of constants and of goals, and kinds, speak of no variable.
use Rattle.std.proofs.Common.{◌≡◌, ℕ, ◌<◌, Some, List, [], refl, sym, ◌∙◌, subst, arith}
use Rattle.std.proofs.lemmas.List.Elements.{All-nil, All-weaker}
use Rattle.lf_definitions.specs.Syntax.{bound, constant, metavariable, LfKind, atomic}
use Rattle.lf_definitions.specs.Renaming.{Renaming, rename_type}
use Rattle.lf_definitions.specs.Substitution.{stays, Replacement, SubstitutedType}
use Rattle.lf_definitions.specs.Shaping.{Scope, ShapedType}
use Rattle.lf_definitions.specs.Typing.{Typing, Kinds, LfGoal, goal_type, shapes_of}
use Rattle.lf_definitions.specs.Signatures.{LfSignature, constant_types, kinds_in, typing_in}
use Rattle.lf_definitions.specs.GoalLists.{FormedGoal, FormedGoals}
use Rattle.lf_definitions.specs.ShapedGoals.{ShapedContext, shaped_empty, kind_shapes_in, scope_in, ShapedTypeIn, ShapedSignature, ShapedGoal, ShapedGoals, without_variables, ShapedTyping}
use Rattle.lf_definitions.specs.Laws.{variables, Closed}
use Rattle.lf_definitions.proofs.Typing.{ShapedType-Formed}
use Rattle.lf_definitions.proofs.Variables.{with_context-constant, with_context-metavariable}
use Rattle.lf_definitions.proofs.ShapedGoals.{ShapedType-pis, ShapedContext-FormedContext, shapes_of-typing_in, ShapedTyping-typing_in, ShapedSignature-FormedSignature}
use Rattle.typing_laws.specs.TypedReplacements.{KeepsKinds}
use Rattle.typing_laws.specs.ClosedTypes.{HasClosedGlobals, HasNoMetavariable, ShapedTypingsAreClosed, SignaturesAreClosed, SignaturesStay, FormedGoalsAreClosed, TypingsAreClosed}
use Rattle.typing_laws.proofs.Fixing.{Fixes, fixed_type, fixed_context, Keeps, kept_type, kept_context}
use Rattle.typing_laws.proofs.Occurring.{HasShape, HasShape-OccursInType, HasShape-OccursInContext}
use Rattle.typing_laws.proofs.TypedReplacements.{variables_keep, closed_constant, closed_metavariable, closed_kind}

pub closed_globals : (kinds : Kinds) (Γ : Typing) → ShapedTyping kinds Γ → HasClosedGlobals Γ
closed_globals kinds Γ shaped = (
  λ c a e v. closed_constant kinds Γ shaped (variables v) (variables_keep v) c a e,
  λ g a e v. closed_metavariable kinds Γ shaped (variables v) (variables_keep v) g a e,
)

pub shaped_typings_are_closed : ShapedTypingsAreClosed
shaped_typings_are_closed kinds Γ shaped = (closed_globals kinds Γ shaped, λ f kind e v. closed_kind kinds Γ shaped (variables v) (variables_keep v) f kind e)

-- With no goals and no variables.
pub no_goals : (sig : LfSignature) → ShapedGoals sig []
no_goals sig = (λ i j d less small. absurd (none j small), All-nil (ShapedGoal sig []))
  where
    none : (j : ℕ) → j < 0 → ⊥
    none j small = omega arith

pub closed_scope : (sig : LfSignature) → ShapedSignature sig → ShapedTyping (kinds_in sig) (typing_in sig [] [])
closed_scope sig shaped = ShapedTyping-typing_in sig [] [] shaped (no_goals sig) shaped_empty

-- what is known of the heads there
abbrev constants_only : LfSignature → Scope
constants_only sig = scope_in sig [] []

kind_shaped : (sig : LfSignature) → ShapedSignature sig → (f : ℕ) (kind : LfKind) → kinds_in sig f ≡ Some kind → ShapedContext (kind_shapes_in sig) (without_variables (shapes_of (typing_in sig [] []))) kind
kind_shaped sig shaped = (closed_scope sig shaped).of_families

no_metavariable : (sig : LfSignature) (g : ℕ) → HasShape (constants_only sig) (metavariable g) → ⊥
no_metavariable sig g (s, e) = cc

none_without_variables : (sig : LfSignature) (g : ℕ) → HasShape (without_variables (shapes_of (typing_in sig [] []))) (metavariable g) → ⊥
none_without_variables sig g (s, e) = cc

pub signatures_are_closed : SignaturesAreClosed
signatures_are_closed sig formed =
    let shaped = ShapedSignature-FormedSignature sig formed in (
      (
        All-weaker (ShapedTypeIn sig [] []) Closed (λ a p v. fixed_type p (variables v) (fixes v)) (constant_types sig) shaped.1,
        (shaped_typings_are_closed (kinds_in sig) (typing_in sig [] []) (closed_scope sig shaped)).1,
      ),
      All-weaker (ShapedTypeIn sig [] []) HasNoMetavariable (λ a p g occurs. no_metavariable sig g (HasShape-OccursInType p occurs)) (constant_types sig) shaped.1,
      λ f kind e g occurs. none_without_variables sig g (HasShape-OccursInContext (kind_shaped sig shaped f kind e) occurs),
    )
  where
    fixes : (v : ℕ → ℕ) → Fixes (variables v) (constants_only sig)
    fixes v (bound n) s e = absurd cc
    fixes v (constant c) s e = refl
    fixes v (metavariable g) s e = absurd cc

-- what keeps constants
Keeps-constants : (sig : LfSignature) (σ : Replacement) → ((c : ℕ) → σ (constant c) ≡ stays (constant c)) → Keeps (constants_only sig) σ
Keeps-constants sig σ keeps (bound n) s e = absurd cc
Keeps-constants sig σ keeps (constant c) s e = keeps c
Keeps-constants sig σ keeps (metavariable g) s e = absurd cc

Fixes-constants : (sig : LfSignature) (ξ : Renaming) → ((c : ℕ) → ξ (constant c) ≡ constant c) → Fixes ξ (constants_only sig)
Fixes-constants sig ξ keeps (bound n) s e = absurd cc
Fixes-constants sig ξ keeps (constant c) s e = keeps c
Fixes-constants sig ξ keeps (metavariable g) s e = absurd cc

pub Keeps-without_variables : (sig : LfSignature) (σ : Replacement) → ((c : ℕ) → σ (constant c) ≡ stays (constant c)) → Keeps (without_variables (shapes_of (typing_in sig [] []))) σ
Keeps-without_variables sig σ keeps (bound n) s e = absurd cc
Keeps-without_variables sig σ keeps (constant c) s e = keeps c
Keeps-without_variables sig σ keeps (metavariable g) s e = absurd cc

pub KeepsKinds-constants : (sig : LfSignature) → ShapedSignature sig → (σ : Replacement) → ((c : ℕ) → σ (constant c) ≡ stays (constant c)) → KeepsKinds (kinds_in sig) σ
KeepsKinds-constants sig shaped σ keeps f kind e = kept_context (kind_shaped sig shaped f kind e) σ (Keeps-without_variables sig σ keeps)

pub signatures_stay : SignaturesStay
signatures_stay sig formed =
    let shaped = ShapedSignature-FormedSignature sig formed in (
      λ σ keeps. (
        All-weaker (ShapedTypeIn sig [] []) (λ a. SubstitutedType σ a a) (λ a p. kept_type p σ (Keeps-constants sig σ keeps)) (constant_types sig) shaped.1,
        KeepsKinds-constants sig shaped σ keeps,
      ),
      λ ξ keeps. (
        All-weaker (ShapedTypeIn sig [] []) (λ a. rename_type ξ a ≡ a) (λ a p. fixed_type p ξ (Fixes-constants sig ξ keeps)) (constant_types sig) shaped.1,
        λ f kind e. fixed_context (kind_shaped sig shaped f kind e) ξ (fixes ξ keeps),
      ),
    )
  where
    fixes : (ξ : Renaming) → ((c : ℕ) → ξ (constant c) ≡ constant c) → Fixes ξ (without_variables (shapes_of (typing_in sig [] [])))
    fixes ξ keeps (bound n) s e = absurd cc
    fixes ξ keeps (constant c) s e = keeps c
    fixes ξ keeps (metavariable g) s e = absurd cc

-- goals
pub ShapedGoal-FormedGoal : (sig : LfSignature) (goals : List LfGoal) (g : LfGoal) → FormedGoal sig goals g → ShapedGoal sig goals g
ShapedGoal-FormedGoal sig goals g formed = (
  subst (λ S. ShapedContext (kind_shapes_in sig) S g.context) (shapes_of-typing_in sig goals []) (ShapedContext-FormedContext formed.0),
  subst (λ S. ShapedType (kind_shapes_in sig) S (atomic g.target)) (shapes_of-typing_in sig goals g.context) (ShapedType-Formed formed.1),
)

pub ShapedGoals-FormedGoals : (sig : LfSignature) (goals : List LfGoal) → FormedGoals sig goals → ShapedGoals sig goals
ShapedGoals-FormedGoals sig goals formed = (formed.0, All-weaker (FormedGoal sig goals) (ShapedGoal sig goals) (ShapedGoal-FormedGoal sig goals) goals formed.1)

pub goal_type_closed : (sig : LfSignature) (goals : List LfGoal) (g : LfGoal) → ShapedGoal sig goals g → Closed (goal_type g)
goal_type_closed sig goals g shaped v = fixed_type (ShapedType-pis g.context (atomic g.target) shaped.0 shaped.1) (variables v) fixes
  where
    fixes : Fixes (variables v) (scope_in sig goals [])
    fixes (bound n) s e = absurd cc
    fixes (constant c) s e = refl
    fixes (metavariable m) s e = refl

pub formed_goals_are_closed : FormedGoalsAreClosed
formed_goals_are_closed sig goals formed =
    let shaped = ShapedGoals-FormedGoals sig goals formed in
    (All-weaker (ShapedGoal sig goals) (λ g. Closed (goal_type g)) (goal_type_closed sig goals) goals shaped.1, shaped)

pub typings_are_closed : TypingsAreClosed
typings_are_closed sig goals formed_sig formed ctx =
    let outside = typing_in sig goals [] in
    let shaped = ShapedTyping-typing_in sig goals [] (ShapedSignature-FormedSignature sig formed_sig) (ShapedGoals-FormedGoals sig goals formed) shaped_empty in
    let closed = closed_globals (kinds_in sig) outside shaped in (
      λ c a e. closed.0 c a (sym (with_context-constant ctx outside c) ∙ e),
      λ g a e. closed.1 g a (sym (with_context-metavariable ctx outside g) ∙ e),
    )
