-- The head that a candidate offers, in the instance of the goal's context: its type there is the instance of its type, and is well formed.
use Rattle.std.proofs.Common.{◌≡◌, ◌⊎◌, inl, inr, ℕ, suc, ◌-◌, Some, List, [], ◌∷◌, length, refl, sym, ap, ◌∙◌, subst}
use Rattle.lf_definitions.specs.Syntax.{LfHead, bound, constant, metavariable, at, Spine, base, arrows, LfType, family, Context, pis, binders_of, shapes_of_types, shape_size}
use Rattle.lf_definitions.specs.Shaping.{ShapedType}
use Rattle.lf_definitions.specs.Laws.{image}
use Rattle.lf_definitions.specs.Renaming.{next_by, rename_type}
use Rattle.lf_definitions.specs.Substitution.{stays, SubstitutedType, substituted_family, substituted_empty}
use Rattle.lf_definitions.specs.ShapedGoals.{shaped_empty, ShapedTyping, ShapedGoals}
use Rattle.lf_definitions.specs.Instantiation.{Assignment, instantiating, InstantiatedType, InstantiatedContext}
use Rattle.lf_definitions.specs.Typing.{Typing, with_context, Typed, typed_at, TypedSpine, Kinds, Formed, FormedContext, LfGoal, shapes_of, shapes_of_kinds}
use Rattle.lf_definitions.specs.Signatures.{LfSignature, constant_types, kinds_in, typing_in, FormedSignature}
use Rattle.lf_definitions.proofs.Growth.{TypesGrow, Formed-grown, AllFormed}
use Rattle.lf_definitions.proofs.Options.{Some_inj}
use Rattle.lf_definitions.proofs.ShapedGoals.{ShapedContext-pis, ShapedType-under_pis, ShapedTyping-head, shapes_of-with_context, ShapedContext-FormedContext, ShapedTyping-typing_in, ShapedSignature-FormedSignature}
use Rattle.lf_definitions.proofs.Types.{ShapedType-SubstitutedType}
use Rattle.lf_definitions.proofs.Variables.{with_context-inside, with_context-constant}
use Rattle.head_laws.specs.AssignmentLaws.{AssignsClosedTerms}
use Rattle.typing_laws.proofs.Binders.{same_length}
use Rattle.typing_laws.proofs.ClosedTypes.{shaped_typings_are_closed, signatures_stay}
use Rattle.typing_laws.proofs.GoalLists.{FormedContext-pis}
use Rattle.typing_laws.proofs.Laws.{substitutions_keep_what_is_formed}
use Rattle.typing_laws.proofs.Placing.{image_goes}
use Rattle.typing_laws.proofs.TypedReplacements.{Goes-GoesTyped}
use Rattle.typed_steps.proofs.Offers.{IsConstantOf, IsEntryOf}
use Rattle.typed_steps.proofs.Contexts.{next_by_renames, instance_renamed, entry_instance, formed_entry_seen, constant_formed, all_at_place}

pub binders_under : (bs : Context) (f : ℕ) (args : Spine) → binders_of (pis bs (family f args)) ≡ bs
binders_under [] f args = refl
binders_under (b ∷ bs) f args = ap (λ cs. b ∷ cs) (binders_under bs f args)

-- The arguments of a typed spine are typed against the binders of its head's type.
pub spine_typed : {Γ : Typing} {h : LfHead} {ts : Spine} {a : LfType} → Typed Γ (at h ts) a → (type : LfType) → Γ h ≡ Some type → TypedSpine Γ stays ts (binders_of type)
spine_typed {Γ} {ts = ts} (typed_at {f = f} binders args e ps put) type known = subst (TypedSpine Γ stays ts) (sym (binders_under binders f args) ∙ ap binders_of (Some_inj e known)) ps

-- Where the heads have shaped types, so has what is typed; and its type is well formed where the head's is.
pub shaped_result : (kinds : Kinds) {Γ : Typing} {h : LfHead} {ts : Spine} {a : LfType} → Typed Γ (at h ts) a → ShapedTyping kinds Γ → ShapedType (shapes_of_kinds kinds) (shapes_of Γ) a
shaped_result kinds {Γ} {h} {ts} (typed_at {f = f} binders args e ps put) shaped =
    let whole = ShapedTyping-head kinds Γ shaped h (pis binders (family f args)) e in
    let inner = ShapedContext-pis binders (family f args) whole in
    let under = subst (λ Θ. ShapedType (shapes_of_kinds kinds) Θ (family f args)) (sym (shapes_of-with_context binders Γ)) (ShapedType-under_pis binders (family f args) whole) in
    let p = shape_size (arrows (shapes_of_types binders) base) in
    let goes = image_goes kinds Γ shaped inner shaped_empty ps substituted_empty in
    ShapedType-SubstitutedType p (shapes_of_kinds kinds) (shapes_of (with_context binders Γ)) (shapes_of Γ) (image ts 0) (Goes-GoesTyped p (with_context binders Γ) Γ (image ts 0) goes.2) under (substituted_family put)

pub formed_result : (kinds : Kinds) {Γ : Typing} {h : LfHead} {ts : Spine} {a : LfType} → Typed Γ (at h ts) a → ShapedTyping kinds Γ → (type : LfType) → Γ h ≡ Some type → Formed kinds Γ type → Formed kinds Γ a
formed_result kinds {Γ} {ts = ts} (typed_at {results = results} {f = f} binders args e ps put) shaped type known formed =
    let parts = FormedContext-pis binders (family f args) (subst (Formed kinds Γ) (Some_inj known e) formed) in
    (substitutions_keep_what_is_formed kinds Γ binders [] [] ts
    (record { outside = shaped; of_inner = ShapedContext-FormedContext parts.0; of_local = shaped_empty; typed = ps; placing = substituted_empty })).0 (family f args) (family f results) parts.1 (substituted_family put)

-- No assignment puts anything for such a head.
pub head_stays : (sig : LfSignature) (ctx : Context) (h : LfHead) (type : LfType) → IsConstantOf sig h type ⊎ IsEntryOf ctx h type → (τ : Assignment) → instantiating τ h ≡ stays h
head_stays sig ctx h type (inl (c, is, found)) τ = ap (instantiating τ) is ∙ ap stays (sym is)
head_stays sig ctx h type (inr (k, a, is, found, same)) τ = ap (instantiating τ) is ∙ ap stays (sym is)

pub record HeadThere (sig : LfSignature) (goals : List LfGoal) (σ : Assignment) (placed : Context) (h : LfHead) (type : LfType) : Type 0 where
  pub type_there : LfType
  pub has_it : typing_in sig goals placed h ≡ Some type_there
  pub is_instance : InstantiatedType σ type type_there
  pub is_formed : Formed (kinds_in sig) (typing_in sig goals placed) type_there

module _ (sig : LfSignature) (of_sig : FormedSignature sig) (goals : List LfGoal) (shaped : ShapedGoals sig goals) (σ : Assignment) (closed : AssignsClosedTerms σ) (ctx placed : Context)
    (put : InstantiatedContext σ ctx placed) (formed : FormedContext (kinds_in sig) (typing_in sig goals []) placed) where
  abbrev Outside : Typing
  Outside = typing_in sig goals []

  shaped_outside : ShapedTyping (kinds_in sig) Outside
  shaped_outside = ShapedTyping-typing_in sig goals [] (ShapedSignature-FormedSignature sig of_sig) shaped shaped_empty

  grows : TypesGrow (typing_in sig [] []) (typing_in sig goals placed)
  grows (bound n) a e = absurd cc
  grows (constant c) a e = with_context-constant placed Outside c ∙ e
  grows (metavariable g) a e = absurd cc

  constant_there : (h : LfHead) (type : LfType) → IsConstantOf sig h type → HeadThere sig goals σ placed h type
  constant_there h type (c, is, found) = record {
    type_there = type;
    has_it = ap (typing_in sig goals placed) is ∙ with_context-constant placed Outside c ∙ found;
    is_instance = all_at_place (λ a. SubstitutedType (instantiating σ) a a) (constant_types sig) ((signatures_stay sig of_sig).0 (instantiating σ) (λ k. refl)).0 c type found;
    is_formed = Formed-grown (constant_formed sig sig (AllFormed of_sig) c type found) (kinds_in sig) (typing_in sig goals placed) (λ f kind e. e) grows;
  }

  entry_there : (h : LfHead) (type : LfType) → IsEntryOf ctx h type → HeadThere sig goals σ placed h type
  entry_there h type (k, a, is, found, same) =
      let c = entry_instance σ closed ctx placed put k a found in
      let globals = shaped_typings_are_closed (kinds_in sig) Outside shaped_outside in
      let count : length placed ≡ length ctx = same_length put in record {
        type_there = rename_type (next_by (length placed - k)) c.0;
        has_it = ap (with_context placed Outside) (is ∙ ap (λ l. bound (l - suc k)) (sym count)) ∙ with_context-inside placed Outside k c.0 c.1;
        is_instance = subst (λ x. InstantiatedType σ x (rename_type (next_by (length placed - k)) c.0)) (ap (λ l. rename_type (next_by (l - k)) a) count ∙ sym same)
            (instance_renamed σ closed (next_by (length placed - k)) (next_by_renames (length placed - k)) a c.0 c.2);
        is_formed = formed_entry_seen (kinds_in sig) globals.1 placed Outside globals.0 formed k c.0 c.1;
      }

  pub head_there : (h : LfHead) (type : LfType) → IsConstantOf sig h type ⊎ IsEntryOf ctx h type → HeadThere sig goals σ placed h type
  head_there h type (inl x) = constant_there h type x
  head_there h type (inr x) = entry_there h type x
