-- The steps of an instantiation in types, contexts and goals.
use Rattle.std.proofs.Common.{◌≡◌, ℕ, zero, suc, ◌+◌, ◌<◌, Option, List, [], ◌∷◌, ◌++◌, length, get_or, take, refl, sym, ap, ◌∙◌, subst, subst₂, arith, length-append}
use Rattle.std.proofs.lemmas.List.{length-take-le}
use Rattle.lf_definitions.specs.Syntax.{LfHead, bound, constant, metavariable, Spine, SimpleType, LfType, family, pis, LfAtom, atomic, Context, shape_of, shapes_of_types}
use Rattle.lf_definitions.specs.Shaping.{Scope, under, under_all, ShapedType, shaped_family}
use Rattle.lf_definitions.specs.ShapedGoals.{ShapedContext, shaped_entry}
use Rattle.lf_definitions.specs.Substitution.{stays, Replacement, up_by, SubstitutedType, substituted_family, SubstitutedContext, substituted_empty, substituted_entry}
use Rattle.lf_definitions.specs.Typing.{LfGoal}
use Rattle.lf_definitions.specs.Instantiation.{instantiating, InstantiatedSpine, InstantiatedType, InstantiatedContext, InstantiatedGoal}
use Rattle.lf_definitions.proofs.ShapedGoals.{ShapedContext-pis, ShapedType-under_pis}
use Rattle.lf_definitions.proofs.Types.{ShapedType-SubstitutedType}
use Rattle.head_laws.specs.ReplacementLaws.{ShapedGoalOver}
use Rattle.head_laws.proofs.Assignments.{up_by-closed}
use Rattle.head_laws.proofs.Replacing.{SubstitutedContext-agree, SubstitutedContext-stays}
use Rattle.head_laws.proofs.Results.{unique_context, total_context, unique_goal, total_goal, SubstitutedType-goal_type}
use Rattle.lf_terms.specs.declared.ty.Ty.{Ty}
use Rattle.lf_terms.specs.Types.{type_of, types_of}
use Rattle.lf_terms.specs.Extents.{ExcludesMetavariables, InContext}
use Rattle.lf_terms.proofs.TypeLists.{types_of-append, types_of-take_more, length_of_types}
use Rattle.lf_terms.proofs.ShapeLists.{take_read}
use Rattle.meta_goals.specs.Bindings.{LfBinding, assigning}
use Rattle.meta_goals.specs.Instantiates.{Instantiates, ArgsAreShaped, TypeIsShaped, ContextIsShaped, GoalIsShaped}
use Rattle.meta_goals.proofs.ChangedTerms.{in_scope, in_scope_under}

entry_parts : {kinds : ℕ → Option SimpleType} {Γ : Scope} {a : LfType} {rest : Context} → ShapedContext kinds Γ (a ∷ rest) → ShapedType kinds Γ a × ShapedContext kinds (under (shape_of a) Γ) rest
entry_parts (shaped_entry p ps) = (p, ps)

entry_shaped : (kinds : ℕ → Option SimpleType) (xs : List Ty) (Γ : Scope) (i : ℕ) (x : Ty) → i < length xs → x ≡ get_or xs i x → ShapedContext kinds Γ (types_of xs) →
    ShapedType kinds (under_all (shapes_of_types (types_of (take i xs))) Γ) (type_of x)
entry_shaped kinds [] Γ i x within is p = absurd (omega arith)
entry_shaped kinds (y ∷ xs) Γ zero x within is p = subst (λ z. ShapedType kinds Γ (type_of z)) (sym is) (entry_parts p).0
entry_shaped kinds (y ∷ xs) Γ (suc i) x within is p = entry_shaped kinds xs (under (shape_of (type_of y)) Γ) i x (omega arith) is (entry_parts p).1

last_entry : {σ : Replacement} {bs rs : Context} → SubstitutedContext σ bs rs → (a c : LfType) → SubstitutedType (up_by (length bs) σ) a c → SubstitutedContext σ (bs ++ a ∷ []) (rs ++ c ∷ [])
last_entry substituted_empty a c here = substituted_entry here substituted_empty
last_entry (substituted_entry p ps) a c here = substituted_entry p (last_entry ps a c here)

args_of_family : {kinds : ℕ → Option SimpleType} {Γ : Scope} {f : ℕ} {ts : Spine} → ShapedType kinds Γ (family f ts) → ArgsAreShaped ts Γ
args_of_family (shaped_family s e ps) = (s, ps)

atom_of_parts : ℕ → Spine → LfAtom
atom_of_parts f ts = record { atom_family = f; atom_args = ts }

goal_of_parts : Context → LfAtom → LfGoal
goal_of_parts ctx a = record { id = 0; context = ctx; target = a }

module _ (bindings : List LfBinding) where
  abbrev ι : Replacement
  ι = instantiating (assigning bindings)

  pub instantiates_entry : (xs : List Ty) (i : ℕ) (x : Ty) → i < length xs → x ≡ get_or xs i x → Instantiates bindings (ContextIsShaped (types_of xs)) → Instantiates bindings (TypeIsShaped (type_of x))
  instantiates_entry xs i x within is p =
      in_scope_under bindings (ContextIsShaped (types_of xs)) (TypeIsShaped (type_of x)) (shapes_of_types (types_of (take i xs))) p
      (p.shaped.0, entry_shaped p.shaped.0 xs p.outer i x within is p.shaped.1)

  pub instantiates_binders : (bs : Context) (f : ℕ) (ts : Spine) → Instantiates bindings (TypeIsShaped (pis bs (family f ts))) → Instantiates bindings (ContextIsShaped bs)
  instantiates_binders bs f ts p =
      in_scope bindings (TypeIsShaped (pis bs (family f ts))) (ContextIsShaped bs) p (p.shaped.0, ShapedContext-pis bs (family f ts) p.shaped.1)

  pub instantiates_family : (bs : Context) (f : ℕ) (ts : Spine) → Instantiates bindings (TypeIsShaped (pis bs (family f ts))) → Instantiates bindings (ArgsAreShaped ts)
  instantiates_family bs f ts p =
      in_scope_under bindings (TypeIsShaped (pis bs (family f ts))) (ArgsAreShaped ts) (shapes_of_types bs) p (args_of_family (ShapedType-under_pis bs (family f ts) p.shaped.1))

  pub instantiates_context : (g : LfGoal) → Instantiates bindings (GoalIsShaped g) → Instantiates bindings (ContextIsShaped g.context)
  instantiates_context g p = in_scope bindings (GoalIsShaped g) (ContextIsShaped g.context) p (p.shaped.0, p.shaped.1.0)

  pub instantiates_target : (g : LfGoal) → Instantiates bindings (GoalIsShaped g) → Instantiates bindings (TypeIsShaped (atomic g.target))
  instantiates_target g p =
      in_scope_under bindings (GoalIsShaped g) (TypeIsShaped (atomic g.target)) (shapes_of_types g.context) p (p.shaped.0, p.shaped.1.1)

  -- Types in which no metavariable occurs stay.
  pub context_without : (ctx : Context) → ExcludesMetavariables (InContext ctx) → InstantiatedContext (assigning bindings) ctx ctx
  context_without ctx none = SubstitutedContext-agree (SubstitutedContext-stays ctx) ι each
    where
      each : (h : LfHead) → InContext ctx h → stays h ≡ ι h
      each (bound n) here = refl
      each (constant c) here = refl
      each (metavariable g) here = absurd (none g here)

  -- A type, of its binders and its arguments.
  pub type_instantiated : (H : Scope → Type 0) → Instantiates bindings H → (bs rs : Context) (f : ℕ) (ts us : Spine) → InstantiatedContext (assigning bindings) bs rs → InstantiatedSpine (assigning bindings) ts us →
      InstantiatedType (assigning bindings) (pis bs (family f ts)) (pis rs (family f us))
  unfolding atom_of_parts goal_of_parts
  type_instantiated H p bs rs f ts us binders args =
      SubstitutedType-goal_type (assigning bindings) (goal_of_parts bs (atom_of_parts f ts)) (goal_of_parts rs (atom_of_parts f us))
      (record { same_id = refl; of_context = binders; of_target = subst (λ σ. SubstitutedType σ (family f ts) (family f us)) (sym (up_by-closed (length bs) (assigning bindings) p.closed)) (substituted_family args) })

  pub goal_instantiated : (H : Scope → Type 0) → Instantiates bindings H → (g h : LfGoal) → h.id ≡ g.id → InstantiatedContext (assigning bindings) g.context h.context →
      InstantiatedType (assigning bindings) (atomic g.target) (atomic h.target) → InstantiatedGoal (assigning bindings) g h
  goal_instantiated H p g h same context target =
      record {
        same_id = same;
        of_context = context;
        of_target = subst (λ σ. SubstitutedType σ (atomic g.target) (atomic h.target)) (sym (up_by-closed (length g.context) (assigning bindings) p.closed)) target;
      }

  module _ (H : Scope → Type 0) (p : Instantiates bindings H) (xs : List Ty) (i : ℕ) (x : Ty) (within : i < length xs) (is : x ≡ get_or xs i x) where
    -- One more type, with its result.
    pub one_more_type : (results new : List Ty) (r : Ty) → new ≡ results ++ r ∷ [] → SubstitutedContext ι (types_of (take i xs)) (types_of results) → SubstitutedType ι (type_of x) (type_of r) →
        SubstitutedContext ι (types_of (take (i + 1) xs)) (types_of new)
    one_more_type results new r pushed before here =
        subst₂ (SubstitutedContext ι) (sym (types_of-take_more xs i x within is)) (sym (ap types_of pushed ∙ types_of-append results r))
        (last_entry before (type_of x) (type_of r) (subst (λ σ. SubstitutedType σ (type_of x) (type_of r)) (sym (up_by-closed (length (types_of (take i xs))) (assigning bindings) p.closed)) here))

    pub one_more_type_stays : SubstitutedContext ι (types_of (take i xs)) (types_of (take i xs)) → SubstitutedType ι (type_of x) (type_of x) → SubstitutedContext ι (types_of (take (i + 1) xs)) (types_of (take (i + 1) xs))
    one_more_type_stays before here = one_more_type (take i xs) (take (i + 1) xs) x (take_read xs i x within is) before here

    -- The first one that changes.
    pub first_type_change : (results new : List Ty) (r : Ty) → new ≡ results ++ r ∷ [] → types_of results ≡ types_of (take i xs) → SubstitutedContext ι (types_of (take i xs)) (types_of (take i xs)) →
        SubstitutedType ι (type_of x) (type_of r) → SubstitutedContext ι (types_of (take (length new) xs)) (types_of new)
    first_type_change results new r pushed copied before here =
        let first : length results ≡ i = length_of_types results (take i xs) copied ∙ length-take-le i xs (omega arith) in
        let count : length new ≡ i + 1 = omega (arith, ap length pushed, length-append results (r ∷ []), first) in
        subst (λ n. SubstitutedContext ι (types_of (take n xs)) (types_of new)) (sym count)
        (one_more_type results new r pushed (subst (SubstitutedContext ι (types_of (take i xs))) (sym copied) before) here)

  -- What is shaped stays so.
  pub type_keeps_shape : (a b : LfType) → InstantiatedType (assigning bindings) a b → (p : Instantiates bindings (TypeIsShaped a)) → ShapedType p.shaped.0 p.target b
  type_keeps_shape a b result p = ShapedType-SubstitutedType p.size p.shaped.0 p.outer p.target ι p.goes p.shaped.1 result

  pub context_keeps_shape : (ctx results : Context) → InstantiatedContext (assigning bindings) ctx results → (p : Instantiates bindings (ContextIsShaped ctx)) → ShapedContext p.shaped.0 p.target results
  context_keeps_shape ctx results result p =
      let r = total_context p.size p.shaped.1 p.target ι p.goes in
      subst (ShapedContext p.shaped.0 p.target) (unique_context r.1 result) r.2

  pub goal_keeps_shape : (g h : LfGoal) → InstantiatedGoal (assigning bindings) g h → (p : Instantiates bindings (GoalIsShaped g)) → ShapedGoalOver p.shaped.0 p.target h
  goal_keeps_shape g h result p =
      let r = total_goal p.size p.shaped.0 p.outer p.target (assigning bindings) g p.goes p.shaped.1 in
      subst (ShapedGoalOver p.shaped.0 p.target) (unique_goal (assigning bindings) g r.0 h r.1 result) r.2
