-- The variables of the kept entries, put for the entries: they are typed, and give what is seen from the whole context.
use Rattle.std.proofs.Common.{◌≡◌, ℕ, zero, suc, Option, Some, None, List, [], ◌∷◌, length, refl, sym, ap, ◌∙◌, subst, arith}
use mathlib.Core.Path.{fun_ext}
use Rattle.lf_definitions.specs.Syntax.{LfHead, bound, constant, metavariable, Spine, SimpleType, base, arrows, arity, args_count, LfType, Context, shape_of, shapes_of_types, shape_size}
use Rattle.lf_definitions.specs.Renaming.{next, next_by, Renaming, lifted, lifted_by, rename_spine, rename_type, rename_context}
use Rattle.lf_definitions.specs.Shaping.{Scope, under, under_all, ShapedSpine, shaped_none, shaped_arg, ShapedType, shaped_pi, shaped_family}
use Rattle.lf_definitions.specs.ShapedGoals.{ShapedContext, ShapedTyping}
use Rattle.lf_definitions.specs.Substitution.{Image, stays, becomes, rename_image, Replacement, up, push_all, SubstitutedSpine, substituted_none, substituted_arg, SubstitutedType, substituted_pi, substituted_family}
use Rattle.lf_definitions.specs.Expansion.{own_variables}
use Rattle.lf_definitions.specs.Typing.{Typing, with_context, TypedSpine, Kinds, shapes_of, shapes_of_kinds}
use Rattle.lf_definitions.specs.Laws.{variables}
use Rattle.lf_definitions.proofs.Renaming.{extended-next, each_head, same_head, lifted-same_head, KeepsShapes, KeepsShapes-lifted}
use Rattle.lf_definitions.proofs.Expansion.{rename-eta, args_count-own_variables, Alike, alike_stays, alike_eta, IsAlike, IsAlike-up, own_alike, unit}
use Rattle.lf_definitions.proofs.Telescopes.{arity-arrows, arguments-arrows, next_by-constant, next_by-metavariable}
use Rattle.lf_definitions.proofs.Weakening.{Follows-push_all, TypedSpine-rename_spine}
use Rattle.typing_laws.proofs.Fixing.{Fixes, fixed_context}
use Rattle.typing_laws.proofs.EtaTyping.{own_variables_are_typed}
use Rattle.opening_laws.specs.Openings.{keeping, kept_variables}
use Rattle.opening_laws.proofs.Kept.{keeping-constant, keeping-metavariable}
use Rattle.opening_laws.proofs.KeptTypes.{SeesTypes, SameGlobals, seen_number, by_number, keeping_keeps}

-- Renamings that keep all heads but variables change nothing in a scope without these.
abbrev pub HasNoVariables : Scope → Type 0
HasNoVariables G = (n : ℕ) → G (bound n) ≡ None

fixes_globals : (G : Scope) → HasNoVariables G → (ξ : Renaming) → ((c : ℕ) → ξ (constant c) ≡ constant c) → ((g : ℕ) → ξ (metavariable g) ≡ metavariable g) → Fixes ξ G
fixes_globals G none ξ constants metas (bound n) s e = absurd (apart (none n) e)
  where
    apart : {o : Option SimpleType} → o ≡ None → o ≡ Some s → ⊥
    apart f g = cc
fixes_globals G none ξ constants metas (constant c) s e = constants c
fixes_globals G none ξ constants metas (metavariable g) s e = metas g

fixes_under : (ξ : Renaming) (Γ : Scope) (a : SimpleType) → Fixes ξ Γ → Fixes (lifted ξ) (under a Γ)
fixes_under ξ Γ a fixes =
    each_head (λ h. (s : SimpleType) → under a Γ h ≡ Some s → lifted ξ h ≡ h) (λ s e. refl)
    (λ h s e. extended-next (bound zero) (λ k. next (ξ k)) h ∙ ap next (fixes h s (sym (extended-next (Some a) Γ h) ∙ e)))

fixes_under_all : (ss : List SimpleType) (ξ : Renaming) (Γ : Scope) → Fixes ξ Γ → Fixes (lifted_by (length ss) ξ) (under_all ss Γ)
fixes_under_all [] ξ Γ fixes = fixes
fixes_under_all (a ∷ ss) ξ Γ fixes = fixes_under_all ss (lifted ξ) (under a Γ) (fixes_under ξ Γ a fixes)

lifted_by-same : (n : ℕ) → lifted_by n same_head ≡ same_head
lifted_by-same zero = refl
lifted_by-same (suc n) = ap (lifted_by n) (fun_ext lifted-same_head) ∙ lifted_by-same n

-- Putting eta-long forms for heads renames spines and types.
unit_spine : (p : ℕ) {Γ : Scope} {ts : Spine} {s : SimpleType} → ShapedSpine Γ ts s → (Δ : Scope) (ξ : Renaming) (ρ : Replacement) → KeepsShapes ξ Γ Δ → IsAlike p ξ Γ ρ → SubstitutedSpine ρ ts (rename_spine ξ ts)
unit_spine p shaped_none Δ ξ ρ keeps alike = substituted_none
unit_spine p (shaped_arg {Γ = Γ} {t = t} {a = a} x xs) Δ ξ ρ keeps alike = substituted_arg (unit p Γ Δ ξ ρ keeps alike t a x) (unit_spine p xs Δ ξ ρ keeps alike)

unit_type : (p : ℕ) {kinds : ℕ → Option SimpleType} {Γ : Scope} {a : LfType} → ShapedType kinds Γ a → (Δ : Scope) (ξ : Renaming) (ρ : Replacement) → KeepsShapes ξ Γ Δ → IsAlike p ξ Γ ρ → SubstitutedType ρ a (rename_type ξ a)
unit_type p (shaped_pi {Γ = Γ} {a = a} x y) Δ ξ ρ keeps alike =
    substituted_pi (unit_type p x Δ ξ ρ keeps alike)
    (unit_type p y (under (shape_of a) Δ) (lifted ξ) (up ρ) (KeepsShapes-lifted ξ Γ Δ (shape_of a) keeps) (IsAlike-up p ξ Γ ρ (shape_of a) alike))
unit_type p (shaped_family s e ps) Δ ξ ρ keeps alike = substituted_family (unit_spine p ps Δ ξ ρ keeps alike)

alike_renamed : (ζ : Renaming) {p : ℕ} {i : Image} {k : LfHead} {s : SimpleType} → Alike p i k s → Alike p (rename_image ζ i) (ζ k) s
alike_renamed ζ alike_stays = alike_stays
alike_renamed ζ {p} (alike_eta {k = k} {s = s} small) = subst (λ u. Alike p (becomes u) (ζ k) s) (sym (rename-eta ζ k s)) (alike_eta small)

module _ (G : Scope) (none : HasNoVariables G) (es : List SimpleType) where
  alike_own : IsAlike (shape_size (arrows es base)) same_head (under_all es G) (push_all (own_variables (arrows es base)) stays)
  alike_own =
      let s = arrows es base in
      let p = shape_size s in
      let n = arity s in
      subst (λ θ. (h : LfHead) (c : SimpleType) → under_all es G h ≡ Some c → Alike p (push_all (own_variables s) stays (θ h)) h c) (lifted_by-same n)
      (subst (λ ss. (h : LfHead) (c : SimpleType) → under_all ss G h ≡ Some c → Alike p (push_all (own_variables s) stays (lifted_by n same_head h)) h c) (arguments-arrows es)
      (own_alike p s (omega arith) G stays same_head
      (λ h c e. subst (λ k. Alike p (stays h) k c) (sym (fixes_globals G none (next_by n) (next_by-constant n) (next_by-metavariable n) h c e)) alike_stays)))

  alike_seen : (ζ : Renaming) → ((c : ℕ) → ζ (constant c) ≡ constant c) → ((g : ℕ) → ζ (metavariable g) ≡ metavariable g) →
      IsAlike (shape_size (arrows es base)) ζ (under_all es G) (push_all (rename_spine ζ (own_variables (arrows es base))) stays)
  alike_seen ζ constants metas h c e =
      let s = arrows es base in
      let own = own_variables s in
      let count : args_count own ≡ length es = args_count-own_variables s ∙ arity-arrows es in
      let follows : push_all (rename_spine ζ own) stays (lifted_by (length es) ζ h) ≡ rename_image ζ (push_all own stays h) =
      subst (λ n. push_all (rename_spine ζ own) stays (lifted_by n ζ h) ≡ rename_image ζ (push_all own stays h)) count (Follows-push_all own ζ ζ stays stays (λ k. refl) h) in
      let here : lifted_by (length es) ζ h ≡ h = fixes_under_all es ζ G (fixes_globals G none ζ constants metas) h c e in
      subst (λ i. Alike (shape_size s) i (ζ h) c) (sym follows ∙ ap (push_all (rename_spine ζ own) stays) here) (alike_renamed ζ (alike_own h c e))

-- A type among the kept entries, with their variables put for them, is what is seen from the whole context.
pub seen_among : (kinds : ℕ → Option SimpleType) (G Δ : Scope) → HasNoVariables G → (kept : List ℕ) (count : ℕ) (entries : Context) → KeepsShapes (keeping kept count) (under_all (shapes_of_types entries) G) Δ →
    (inside : LfType) → ShapedType kinds (under_all (shapes_of_types entries) G) inside → SubstitutedType (push_all (kept_variables kept count entries) stays) inside (rename_type (keeping kept count) inside)
seen_among kinds G Δ none kept count entries keeps inside shaped =
    unit_type (shape_size (arrows (shapes_of_types entries) base)) shaped Δ (keeping kept count) (push_all (kept_variables kept count entries) stays) keeps
    (alike_seen G none (shapes_of_types entries) (keeping kept count) (keeping-constant kept count) (keeping-metavariable kept count))

-- The variables are typed against the entries.
pub typed_variables : (kinds : Kinds) (B Δ : Typing) → ShapedTyping kinds B → HasNoVariables (shapes_of B) → (kept : List ℕ) (count : ℕ) (entries : Context) →
    SeesTypes (keeping kept count) (with_context entries B) Δ → SameGlobals (with_context entries B) Δ → ShapedContext (shapes_of_kinds kinds) (shapes_of B) entries →
    TypedSpine Δ stays (kept_variables kept count entries) entries
typed_variables kinds B Δ shaped none kept count entries sees globals shaped_entries =
    let own = own_variables (arrows (shapes_of_types entries) base) in
    let n = length entries in
    let ζ = keeping kept count in
    let v = seen_number kept count in
    let typed : TypedSpine Δ stays (rename_spine (variables v) own) (rename_context (variables v) (rename_context (next_by n) entries)) =
    TypedSpine-rename_spine (own_variables_are_typed kinds B shaped entries shaped_entries) v Δ (keeping_keeps kept count (with_context entries B) Δ sees globals) (variables v) stays (λ h. refl) in
    let seen : TypedSpine Δ stays (rename_spine ζ own) (rename_context ζ (rename_context (next_by n) entries)) =
    subst (λ θ. TypedSpine Δ stays (rename_spine θ own) (rename_context θ (rename_context (next_by n) entries))) (sym (fun_ext (by_number kept count))) typed in
    subst (TypedSpine Δ stays (rename_spine ζ own))
    (ap (rename_context ζ) (fixed_context shaped_entries (next_by n) (fixes_globals (shapes_of B) none (next_by n) (next_by-constant n) (next_by-metavariable n)))
    ∙ fixed_context shaped_entries ζ (fixes_globals (shapes_of B) none ζ (keeping-constant kept count) (keeping-metavariable kept count)))
    seen
