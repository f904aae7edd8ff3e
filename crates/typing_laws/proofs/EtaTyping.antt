-- Where the first arguments of a head have their types, its eta-long form with them has the type of what it still takes.
use Rattle.std.proofs.Common.{◌≡◌, ℕ, zero, suc, ◌+◌, ◌<◌, ◌≤◌, Option, Some, option_map, [], ◌∷◌, ◌++◌, length, refl, sym, ap, ◌∙◌, subst, subst₂, arith}
use mathlib.Core.Path.{fun_ext}
use Rattle.lf_definitions.specs.Syntax.{LfHead, bound, constant, metavariable, LfTerm, at, Spine, no_args, joined, lams, arity, args_count, SimpleType, base, arrow, arrows, arguments, shape_size, shape_of, shapes_of_types, LfType, family, pis, Context}
use Rattle.lf_definitions.specs.Renaming.{next, next_by, Renaming, lifted, lifted_by, rename_spine, rename_type, rename_context}
use Rattle.lf_definitions.specs.Shaping.{Scope, under, under_all, Shaped, shaped_lam, shaped_at, ShapedSpine, shaped_none, shaped_arg, ShapedType, shaped_pi, shaped_family}
use Rattle.lf_definitions.specs.Substitution.{Image, stays, becomes, rename_image, Replacement, up, up_by, push, push_all, Substituted, substituted_lam, substituted_stays, substituted_becomes, SubstitutedSpine, substituted_none, substituted_arg, Applied, SubstitutedType, substituted_pi, substituted_family, SubstitutedContext, substituted_empty, substituted_entry}
use Rattle.lf_definitions.specs.Expansion.{own_variables, eta}
use Rattle.lf_definitions.specs.Typing.{Typing, with_variable, with_context, Typed, typed_at, TypedSpine, typed_none, typed_arg, Kinds, shapes_of, shapes_of_kinds}
use Rattle.lf_definitions.specs.ShapedGoals.{ShapedContext, shaped_entry, ShapedTyping}
use Rattle.lf_definitions.specs.Laws.{variables, KeepsTypes}
use Rattle.lf_definitions.proofs.Uniqueness.{stays-becomes, stays_inj}
use Rattle.lf_definitions.proofs.Renaming.{extended-next, each_head, same_head, rename_type-same_head, rename_spine-same_head, KeepsShapes, Shaped-rename, SubstitutedType-rename_type, SubstitutedSpine-rename_spine}
use Rattle.lf_definitions.specs.Replacements.{Fits, fits_stays, fits_becomes, Goes}
use Rattle.lf_definitions.proofs.Totality.{Goes-more, Goes-stays, Goes-up, Goes-push, ShapedSpine-SubstitutedSpine}
use Rattle.lf_definitions.proofs.Expansion.{rename_image-same_head, rename_image-rename_image, push_all-next_by, args_count-arity, Applied-lams, rename-eta, Substituted-eta_put}
use Rattle.lf_definitions.proofs.Types.{shape_of-rename_type, shape_of-SubstitutedType, ShapedType-SubstitutedType}
use Rattle.lf_definitions.proofs.Telescopes.{push_all-joined, arguments-arrows, Goes-push_all, Goes-up_by, next_by-bound, next_by-constant, next_by-metavariable, under_all-next_by_length}
use Rattle.lf_definitions.proofs.Typing.{shape_of-pis, Shaped-Typed, ShapedSpine-TypedSpine}
use Rattle.lf_definitions.proofs.Weakening.{rename_type-pis, Follows-push_all, args_count-TypedSpine, TypedSpine-rename_spine, KeepsTypes-head}
use Rattle.lf_definitions.proofs.Variables.{rename_type-next_by, with_context-outside, with_context-constant, with_context-metavariable}
use Rattle.lf_definitions.proofs.TypedSpines.{rename_context-append}
use Rattle.lf_definitions.proofs.ShapedGoals.{ShapedTyping-head, ShapedType-under_pis, ShapedContext-pis, shapes_of-under, ShapedTyping-with_variable, ShapedTyping-with_context, shapes_of-with_context}
use Rattle.lf_definitions.proofs.Options.{Some-Some}
use Rattle.typing_laws.specs.EtaLaws.{EtaFormsHaveTheirTypes, OwnVariablesAreTyped, expanded, ExpansionsHaveTheirTypes}
use Rattle.typing_laws.proofs.Fixing.{stays_type, kept_context}
use Rattle.typing_laws.proofs.Binders.{split, same_shapes, same_length, length-shapes_of_types, arity_of, whole, typed_lams, pis-append, args_of_family}
use Rattle.typing_laws.proofs.ClosedTypes.{closed_globals}

-- One replacement keeps a head where another puts its eta-long form, or they do the same.
data Near : Image → Image → SimpleType → Type 0 where
  near_same : {i j : Image} {s : SimpleType} → i ≡ j → Near i j s
  near_eta : {i j : Image} {s : SimpleType} (k : LfHead) → i ≡ stays k → j ≡ becomes (eta k s) → Near i j s

abbrev IsNear : Scope → Replacement → Replacement → Type 0
IsNear Γ σ ρ = (h : LfHead) (s : SimpleType) → Γ h ≡ Some s → Near (σ h) (ρ h) s

Near-next : {i j : Image} {s : SimpleType} → Near i j s → Near (rename_image next i) (rename_image next j) s
Near-next (near_same e) = near_same (ap (rename_image next) e)
Near-next (near_eta {s = s} k e f) = near_eta (next k) (ap (rename_image next) e) (ap (rename_image next) f ∙ ap becomes (rename-eta next k s))

IsNear-up : (Γ : Scope) (σ ρ : Replacement) (a : SimpleType) → IsNear Γ σ ρ → IsNear (under a Γ) (up σ) (up ρ)
IsNear-up Γ σ ρ a near =
    each_head (λ h. (s : SimpleType) → under a Γ h ≡ Some s → Near (up σ h) (up ρ h) s)
    (λ s e. near_same refl)
    (λ h s e. subst₂ (λ i j. Near i j s)
    (sym (extended-next (stays (bound zero)) (λ k. rename_image next (σ k)) h))
    (sym (extended-next (stays (bound zero)) (λ k. rename_image next (ρ k)) h))
    (Near-next (near h s (sym (extended-next (Some a) Γ h) ∙ e))))

IsNear-push : (Γ : Scope) (σ ρ : Replacement) (a : SimpleType) (t : LfTerm) → IsNear Γ σ ρ → IsNear (under a Γ) (push t σ) (push t ρ)
IsNear-push Γ σ ρ a t near =
    each_head (λ h. (s : SimpleType) → under a Γ h ≡ Some s → Near (push t σ h) (push t ρ h) s)
    (λ s e. near_same refl)
    (λ h s e. subst₂ (λ i j. Near i j s) (sym (extended-next (becomes t) σ h)) (sym (extended-next (becomes t) ρ h)) (near h s (sym (extended-next (Some a) Γ h) ∙ e)))

own_put : (Δ : Scope) {vs : Spine} {s : SimpleType} → ShapedSpine Δ vs s → (τ : Replacement) → SubstitutedSpine (push_all vs τ) (own_variables s) vs
own_put Δ shaped_none τ = substituted_none
own_put Δ (shaped_arg {t = v} {ts = vs} {a = a} {s = s} w ws) τ =
    let n = arity s in
    let place : push_all vs (push v τ) (next_by n (bound zero)) ≡ becomes v =
    ap (λ m. push_all vs (push v τ) (next_by m (bound zero))) (sym (args_count-arity ws)) ∙ push_all-next_by vs (push v τ) (bound zero) in
    substituted_arg (Substituted-eta_put a (push_all vs (push v τ)) (next_by n (bound zero)) v place Δ w) (own_put Δ ws (push v τ))

-- an eta-long head applied to arguments
applied_eta : (Δ : Scope) (k : LfHead) (vs : Spine) (s : SimpleType) → ShapedSpine Δ vs s → Applied stays (eta k s) vs (at k vs)
applied_eta Δ k vs s shaped =
    let b = at (next_by (arity s) k) (own_variables s) in
    let place : push_all vs stays (next_by (arity s) k) ≡ stays k =
    ap (λ m. push_all vs stays (next_by m k)) (sym (args_count-arity shaped)) ∙ push_all-next_by vs stays k in
    subst (λ m. Applied stays (lams m b) vs (at k vs)) (args_count-arity shaped)
    (Applied-lams vs stays b (at k vs) (substituted_stays place (own_put Δ shaped stays)))

at_stays : (Δ : Scope) (ρ : Replacement) {i j : Image} {h k : LfHead} {ts vs : Spine} {s : SimpleType} → ρ h ≡ j → Near i j s → i ≡ stays k → ShapedSpine Δ vs s → SubstitutedSpine ρ ts vs →
    Substituted ρ (at h ts) (at k vs)
at_stays Δ ρ g (near_same e) f shaped qs = substituted_stays (g ∙ sym e ∙ f) qs
at_stays Δ ρ {k = k} {vs = vs} g (near_eta {s = s} m e d) f shaped qs =
    let same : m ≡ k = stays_inj e f in
    substituted_becomes (eta m s) vs (g ∙ d) qs (subst (λ x. Applied stays (eta m s) vs (at x vs)) same (applied_eta Δ m vs s shaped))

at_becomes : (ρ : Replacement) {i j : Image} {h : LfHead} {ts : Spine} {s : SimpleType} {r : LfTerm} → ρ h ≡ j → Near i j s → (u : LfTerm) (vs : Spine) → i ≡ becomes u → SubstitutedSpine ρ ts vs → Applied stays u vs r →
    Substituted ρ (at h ts) r
at_becomes ρ g (near_same e) u vs f qs q = substituted_becomes u vs (g ∙ sym e ∙ f) qs q
at_becomes ρ g (near_eta m e d) u vs f qs q = absurd (stays-becomes e f)

-- Near replacements have the same results.
mutual
  near_term : {Γ : Scope} {t : LfTerm} {s : SimpleType} → Shaped Γ t s → (p : ℕ) (Δ : Scope) (σ ρ : Replacement) → Goes p Γ Δ σ → IsNear Γ σ ρ → {r : LfTerm} → Substituted σ t r → Substituted ρ t r
  near_term (shaped_lam {Γ = Γ} {a = a} b) p Δ σ ρ goes near (substituted_lam q) =
      substituted_lam (near_term b p (under a Δ) (up σ) (up ρ) (Goes-up p Γ Δ σ a goes) (IsNear-up Γ σ ρ a near) q)
  near_term (shaped_at {Γ = Γ} {h = h} s e ps) p Δ σ ρ goes near (substituted_stays f qs) =
      at_stays Δ ρ refl (near h s e) f (ShapedSpine-SubstitutedSpine p Γ Δ σ goes ps qs) (near_args ps p Δ σ ρ goes near qs)
  near_term (shaped_at {h = h} s e ps) p Δ σ ρ goes near (substituted_becomes u vs f qs q) =
      at_becomes ρ refl (near h s e) u vs f (near_args ps p Δ σ ρ goes near qs) q

  near_args : {Γ : Scope} {ts : Spine} {s : SimpleType} → ShapedSpine Γ ts s → (p : ℕ) (Δ : Scope) (σ ρ : Replacement) → Goes p Γ Δ σ → IsNear Γ σ ρ → {vs : Spine} → SubstitutedSpine σ ts vs → SubstitutedSpine ρ ts vs
  near_args shaped_none p Δ σ ρ goes near substituted_none = substituted_none
  near_args (shaped_arg x xs) p Δ σ ρ goes near (substituted_arg q qs) = substituted_arg (near_term x p Δ σ ρ goes near q) (near_args xs p Δ σ ρ goes near qs)

near_type : {kinds : ℕ → Option SimpleType} {Γ : Scope} {a : LfType} → ShapedType kinds Γ a → (p : ℕ) (Δ : Scope) (σ ρ : Replacement) → Goes p Γ Δ σ → IsNear Γ σ ρ → {b : LfType} → SubstitutedType σ a b → SubstitutedType ρ a b
near_type (shaped_pi {Γ = Γ} {a = a} x y) p Δ σ ρ goes near (substituted_pi q r) =
    substituted_pi (near_type x p Δ σ ρ goes near q)
    (near_type y p (under (shape_of a) Δ) (up σ) (up ρ) (Goes-up p Γ Δ σ (shape_of a) goes) (IsNear-up Γ σ ρ (shape_of a) near) r)
near_type (shaped_family s e ps) p Δ σ ρ goes near (substituted_family qs) = substituted_family (near_args ps p Δ σ ρ goes near qs)

near_typed : {Θ : Typing} {σ : Replacement} {ts : Spine} {bs : Context} → TypedSpine Θ σ ts bs → (kinds : ℕ → Option SimpleType) (Γ : Scope) → ShapedContext kinds Γ bs → (p : ℕ) (ρ : Replacement) →
    Goes p Γ (shapes_of Θ) σ → IsNear Γ σ ρ → TypedSpine Θ ρ ts bs
near_typed typed_none kinds Γ shaped p ρ goes near = typed_none
near_typed (typed_arg {Γ = Θ} {σ = σ} {t = t} {a = a} c r q qs) kinds Γ (shaped_entry x xs) p ρ goes near =
    let n = shape_size (shape_of a) in
    typed_arg c (near_type x p (shapes_of Θ) σ ρ goes near r) q
    (near_typed qs kinds (under (shape_of a) Γ) xs (p + suc n) (push t ρ)
    (Goes-push (p + suc n) Γ (shapes_of Θ) σ (shape_of a) t (Goes-more p (p + suc n) Γ (shapes_of Θ) σ (omega arith) goes)
    (subst (Shaped (shapes_of Θ) t) (shape_of-SubstitutedType r) (Shaped-Typed q)) (omega arith))
    (IsNear-push Γ σ ρ (shape_of a) t near))

-- Arguments against binders that are renamed.
moved_push : (ζ : Renaming) (σ τ : Replacement) (t : LfTerm) → ((h : LfHead) → τ (ζ h) ≡ σ h) → (h : LfHead) → push t τ (lifted ζ h) ≡ push t σ h
moved_push ζ σ τ t same =
    each_head (λ h. push t τ (lifted ζ h) ≡ push t σ h) refl
    (λ h. ap (push t τ) (extended-next (bound zero) (λ k. next (ζ k)) h) ∙ extended-next (becomes t) τ (ζ h) ∙ same h ∙ sym (extended-next (becomes t) σ h))

moved_typed : {Θ : Typing} {σ : Replacement} {ts : Spine} {bs : Context} → TypedSpine Θ σ ts bs → (ζ : Renaming) (τ : Replacement) → ((h : LfHead) → τ (ζ h) ≡ σ h) → TypedSpine Θ τ ts (rename_context ζ bs)
moved_typed typed_none ζ τ same = typed_none
moved_typed (typed_arg {σ = σ} {t = t} {a = a} c r q qs) ζ τ same =
    typed_arg c
    (subst (SubstitutedType τ (rename_type ζ a)) (rename_type-same_head c) (SubstitutedType-rename_type r ζ same_head τ (λ h. same h ∙ sym (rename_image-same_head (σ h)))))
    q (moved_typed qs (lifted ζ) (push t τ) (moved_push ζ σ τ t same))

TypedSpine-joined : {Θ : Typing} {σ : Replacement} {us : Spine} {bs : Context} → TypedSpine Θ σ us bs → (ws : Spine) (cs : Context) → TypedSpine Θ (push_all us σ) ws cs → TypedSpine Θ σ (joined us ws) (bs ++ cs)
TypedSpine-joined typed_none ws cs q = q
TypedSpine-joined (typed_arg c r p ps) ws cs q = typed_arg c r p (TypedSpine-joined ps ws cs q)

-- heads from outside so many binders
outside : (n : ℕ) (h : LfHead) → next_by n h ≡ variables (λ i. n + i) h
outside n (bound i) = next_by-bound n i
outside n (constant c) = next_by-constant n c
outside n (metavariable g) = next_by-metavariable n g

keeps : (ctx : Context) (kinds : Kinds) (Γ : Typing) → ShapedTyping kinds Γ → KeepsTypes (λ i. length ctx + i) Γ (with_context ctx Γ)
keeps ctx kinds Γ shaped =
    let closed = closed_globals kinds Γ shaped in (
      λ n a e. with_context-outside ctx Γ n ∙ ap (option_map (rename_type (next_by (length ctx)))) e ∙ ap (λ ξ. Some (rename_type ξ a)) (fun_ext (outside (length ctx))),
      λ c a e. (with_context-constant ctx Γ c ∙ e, closed.0 c a e),
      λ g a e. (with_context-metavariable ctx Γ g ∙ e, closed.1 g a e),
    )

-- a replacement as it is seen from under so many binders
abbrev raised : ℕ → Replacement → Replacement
raised n σ h = rename_image (next_by n) (σ h)

Fits-rename : {Δ : Scope} {p : ℕ} {i : Image} {s : SimpleType} → Fits Δ p i s → (ξ : Renaming) (Θ : Scope) → KeepsShapes ξ Δ Θ → Fits Θ p (rename_image ξ i) s
Fits-rename (fits_stays {k = k} {s = s} e) ξ Θ kept = fits_stays (kept k s e)
Fits-rename (fits_becomes shaped small) ξ Θ kept = fits_becomes (Shaped-rename shaped ξ Θ kept) small

keeps_shapes : (ctx : Context) (Θ : Typing) → KeepsShapes (next_by (length ctx)) (shapes_of Θ) (shapes_of (with_context ctx Θ))
keeps_shapes ctx Θ h s e =
    ap (λ Δ. Δ (next_by (length ctx) h)) (shapes_of-with_context ctx Θ)
    ∙ ap (λ n. under_all (shapes_of_types ctx) (shapes_of Θ) (next_by n h)) (sym (length-shapes_of_types ctx))
    ∙ under_all-next_by_length (shapes_of_types ctx) (shapes_of Θ) h ∙ e

Goes-raised : (ctx : Context) (Θ : Typing) (q : ℕ) (Γ : Scope) (σ : Replacement) → Goes q Γ (shapes_of Θ) σ → Goes q Γ (shapes_of (with_context ctx Θ)) (raised (length ctx) σ)
Goes-raised ctx Θ q Γ σ goes h s e = Fits-rename (goes h s e) (next_by (length ctx)) (shapes_of (with_context ctx Θ)) (keeps_shapes ctx Θ)

-- A binder's own variable, put for itself, is near to the variable that stays.
near_own : (Γ : Scope) (σ : Replacement) (m : ℕ) (x : LfHead) (a c : SimpleType) → next_by m (bound zero) ≡ x → c ≡ a → IsNear (under a Γ) (raised m (up σ)) (push (eta x c) (raised (suc m) σ))
near_own Γ σ m x a c place same =
    each_head (λ h. (s : SimpleType) → under a Γ h ≡ Some s → Near (raised m (up σ) h) (push (eta x c) (raised (suc m) σ) h) s)
    (λ s e. near_eta x (ap stays place) (ap (λ d. becomes (eta x d)) (same ∙ Some-Some e)))
    (λ h s e. near_same (ap (rename_image (next_by m)) (extended-next (stays (bound zero)) (λ k. rename_image next (σ k)) h)
    ∙ rename_image-rename_image (next_by m) next (σ h)
    ∙ sym (extended-next (becomes (eta x c)) (raised (suc m) σ) h)))

-- the same of all own variables of a shape
near_all : (s : SimpleType) (Γ : Scope) (σ τ : Replacement) (ζ : Renaming) → ((h : LfHead) (c : SimpleType) → Γ h ≡ Some c → Near (raised (arity s) σ h) (τ (ζ h)) c) →
    (h : LfHead) (c : SimpleType) → under_all (arguments s) Γ h ≡ Some c → Near (up_by (arity s) σ h) (push_all (own_variables s) τ (lifted_by (arity s) ζ h)) c
near_all base Γ σ τ ζ near = λ h c e. subst (λ i. Near i (τ (ζ h)) c) (rename_image-same_head (σ h)) (near h c e)
near_all (arrow a s) Γ σ τ ζ near =
    let n = arity s in
    let x = next_by n (bound zero) in
    near_all s (under a Γ) (up σ) (push (eta x a) τ) (lifted ζ)
    (each_head (λ h. (c : SimpleType) → under a Γ h ≡ Some c → Near (raised n (up σ) h) (push (eta x a) τ (lifted ζ h)) c)
    (λ c e. near_eta x refl (ap (λ d. becomes (eta x d)) (Some-Some e)))
    (λ h c e. subst₂ (λ i j. Near i j c)
    (sym (ap (rename_image (next_by n)) (extended-next (stays (bound zero)) (λ k. rename_image next (σ k)) h) ∙ rename_image-rename_image (next_by n) next (σ h)))
    (sym (ap (push (eta x a) τ) (extended-next (bound zero) (λ k. next (ζ k)) h) ∙ extended-next (becomes (eta x a)) τ (ζ h)))
    (near h c (sym (extended-next (Some a) Γ h) ∙ e))))

arguments_count : (s : SimpleType) → length (arguments s) ≡ arity s
arguments_count base = refl
arguments_count (arrow a s) = ap suc (arguments_count s)

lifted_by-lifted_by : (first missing : Context) (ξ : Renaming) (n : ℕ) → n ≡ length missing → lifted_by n (lifted_by (length first) ξ) ≡ lifted_by (length (first ++ missing)) ξ
lifted_by-lifted_by [] missing ξ n e = ap (λ m. lifted_by m ξ) e
lifted_by-lifted_by (a ∷ first) missing ξ n e = lifted_by-lifted_by first missing (lifted ξ) n e

-- Variables of small types are typed in their eta-long forms.
abbrev EtaTypedBelow : Kinds → ℕ → Type 0
EtaTypedBelow kinds p = (Θ : Typing) (h : LfHead) (b : LfType) → ShapedTyping kinds Θ → shape_size (shape_of b) < p → Θ h ≡ Some b → Typed Θ (eta h (shape_of b)) b

module _ (kinds : Kinds) (p : ℕ) (eta_typed : EtaTypedBelow kinds p) where
  own_typed : {σ : Replacement} {bs cs : Context} → SubstitutedContext σ bs cs → (Γ : Scope) (Θ : Typing) → ShapedTyping kinds Θ → (q : ℕ) → Goes q Γ (shapes_of Θ) σ → ShapedContext (shapes_of_kinds kinds) Γ bs →
      ShapedContext (shapes_of_kinds kinds) (shapes_of Θ) cs → shape_size (arrows (shapes_of_types cs) base) ≤ p →
      TypedSpine (with_context cs Θ) (raised (length cs) σ) (own_variables (arrows (shapes_of_types cs) base)) bs
  own_typed substituted_empty Γ Θ shaped q goes x y small = typed_none
  own_typed (substituted_entry {σ = σ} {a = a} {c = c} {rest = rest} {results = more} r rs) Γ Θ shaped q goes (shaped_entry x xs) (shaped_entry y ys) small =
      let m = length more in
      let s = arrows (shapes_of_types more) base in
      let Θ1 = with_variable c Θ in
      let inside = with_context more Θ1 in
      let v = next_by (arity s) (bound zero) in
      let type = rename_type (next_by (suc m)) c in
      let shaped1 = ShapedTyping-with_variable kinds Θ c shaped y in
      let ys1 = subst (λ Δ. ShapedContext (shapes_of_kinds kinds) Δ more) (sym (shapes_of-under Θ c)) ys in
      let place : next_by m (bound zero) ≡ v = ap (λ n. next_by n (bound zero)) (sym (arity_of more)) in
      let known : inside v ≡ Some type =
      ap inside (sym place ∙ next_by-bound m zero) ∙ with_context-outside more Θ1 zero ∙ ap Some (rename_type-next_by m c) in
      let shape : shape_of type ≡ shape_of c = shape_of-rename_type c (next_by (suc m)) in
      let less : shape_size (shape_of type) < p = omega (arith, ap shape_size shape, small) in
      let typed : Typed inside (eta v (shape_of c)) type =
      subst (λ d. Typed inside (eta v d) type) shape (eta_typed inside v type (ShapedTyping-with_context more kinds Θ1 shaped1 ys1) less known) in
      let goes1 : Goes q (under (shape_of a) Γ) (shapes_of Θ1) (up σ) =
      subst (λ Δ. Goes q (under (shape_of a) Γ) Δ (up σ)) (ap (λ d. under d (shapes_of Θ)) (sym (shape_of-SubstitutedType r)) ∙ sym (shapes_of-under Θ c)) (Goes-up q Γ (shapes_of Θ) σ (shape_of a) goes) in
      typed_arg type
      (subst (λ t. SubstitutedType (raised (suc m) σ) t type) (rename_type-same_head a) (SubstitutedType-rename_type r same_head (next_by (suc m)) (raised (suc m) σ) (λ h. refl)))
      typed
      (near_typed (own_typed rs (under (shape_of a) Γ) Θ1 shaped1 q goes1 xs ys1 (omega (arith, small))) (shapes_of_kinds kinds) (under (shape_of a) Γ) xs q
      (push (eta v (shape_of c)) (raised (suc m) σ)) (Goes-raised more Θ1 q (under (shape_of a) Γ) (up σ) goes1)
      (near_own Γ σ m v (shape_of a) (shape_of c) place (shape_of-SubstitutedType r)))

  expanded_below : (Θ : Typing) → ShapedTyping kinds Θ → (h : LfHead) (first missing : Context) (f : ℕ) (args ts : Spine) (b : LfType) → shape_size (shape_of b) ≤ p →
      Θ h ≡ Some (pis (first ++ missing) (family f args)) → TypedSpine Θ stays ts first → SubstitutedType (push_all ts stays) (pis missing (family f args)) b → Typed Θ (expanded h ts (shape_of b)) b
  expanded_below Θ shaped h first missing f args ts b small known typed result =
      let parts = split missing (push_all ts stays) f args result in
      let cs = parts.0 in
      let results = parts.1 in
      let end = family f results in
      let n = length cs in
      let ξ = next_by n in
      let inside = with_context cs Θ in
      let s = arrows (shapes_of_types cs) base in
      let sub = push_all ts stays in
      let size = shape_size (arrows (shapes_of_types first) base) in
      let front = under_all (shapes_of_types first) (shapes_of Θ) in
      let goes : Goes size front (shapes_of Θ) sub =
      Goes-push_all size (shapes_of_types first) ts (shapes_of Θ) (shapes_of Θ) stays (Goes-stays size (shapes_of Θ)) (ShapedSpine-TypedSpine typed) (omega arith) in
      let whole : ShapedType (shapes_of_kinds kinds) front (pis missing (family f args)) =
      ShapedType-under_pis first (pis missing (family f args))
      (subst (ShapedType (shapes_of_kinds kinds) (shapes_of Θ)) (pis-append first missing (family f args)) (ShapedTyping-head kinds Θ shaped h (pis (first ++ missing) (family f args)) known)) in
      let shaped_cs : ShapedContext (shapes_of_kinds kinds) (shapes_of Θ) cs =
      ShapedContext-pis cs end (subst (ShapedType (shapes_of_kinds kinds) (shapes_of Θ)) parts.2 (ShapedType-SubstitutedType size (shapes_of_kinds kinds) front (shapes_of Θ) sub goes whole result)) in
      let shape : shape_of b ≡ s = ap shape_of parts.2 ∙ shape_of-pis cs f results in
      let own : TypedSpine inside (raised n sub) (own_variables s) missing =
      own_typed parts.3 front Θ shaped size goes (ShapedContext-pis missing (family f args) whole) shaped_cs (omega (arith, small, ap shape_size shape)) in
      let v = λ (i : ℕ). n + i in
      let same_renaming : variables v ≡ ξ = sym (fun_ext (outside n)) in
      let us = rename_spine ξ ts in
      let k = length first in
      let count : args_count ts ≡ k = args_count-TypedSpine typed in
      let typed_us : TypedSpine inside stays us (rename_context ξ first) =
      subst (λ ζ. TypedSpine inside stays (rename_spine ζ ts) (rename_context ζ first)) same_renaming
      (TypedSpine-rename_spine typed v inside (keeps cs kinds Θ shaped) (variables v) stays (λ g. refl)) in
      let follows : (g : LfHead) → push_all us stays (lifted_by k ξ g) ≡ rename_image ξ (sub g) =
      subst (λ m. (g : LfHead) → push_all us stays (lifted_by m ξ g) ≡ rename_image ξ (sub g)) count (Follows-push_all ts ξ ξ stays stays (λ g. refl)) in
      let typed_own : TypedSpine inside (push_all us stays) (own_variables s) (rename_context (lifted_by k ξ) missing) =
      moved_typed own (lifted_by k ξ) (push_all us stays) follows in
      let spine : TypedSpine inside stays (joined us (own_variables s)) (rename_context ξ (first ++ missing)) =
      subst (TypedSpine inside stays (joined us (own_variables s))) (sym (rename_context-append first missing ξ))
      (TypedSpine-joined typed_us (own_variables s) (rename_context (lifted_by k ξ) missing) typed_own) in
      let head : inside (ξ h) ≡ Some (pis (rename_context ξ (first ++ missing)) (family f (rename_spine (lifted_by (length (first ++ missing)) ξ) args))) =
      subst (λ ζ. inside (ζ h) ≡ Some (rename_type ζ (pis (first ++ missing) (family f args)))) same_renaming
      (KeepsTypes-head v Θ inside (keeps cs kinds Θ shaped) h (pis (first ++ missing) (family f args)) known)
      ∙ ap Some (rename_type-pis ξ (first ++ missing) (family f args)) in
      let ζ = lifted_by (arity s) (lifted_by k ξ) in
      let after = push_all (own_variables s) (push_all us stays) in
      let args_shaped = args_of_family (ShapedType-under_pis missing (family f args) whole) in
      let arity_missing : arity s ≡ length missing = arity_of cs ∙ same_length parts.3 in
      let near : IsNear (under_all (arguments s) front) (up_by (arity s) sub) (λ g. after (ζ g)) =
      near_all s front sub (push_all us stays) (lifted_by k ξ)
      (λ g c e. near_same (ap (λ m. rename_image (next_by m) (sub g)) (arity_of cs) ∙ sym (follows g))) in
      let scope : under_all (arguments s) front ≡ under_all (shapes_of_types missing) front =
      ap (λ ss. under_all ss front) (arguments-arrows (shapes_of_types cs) ∙ same_shapes parts.3) in
      let goes_inside : Goes size (under_all (arguments s) front) (under_all (arguments s) (shapes_of Θ)) (up_by (arity s) sub) =
      subst (λ m. Goes size (under_all (arguments s) front) (under_all (arguments s) (shapes_of Θ)) (up_by m sub)) (arguments_count s)
      (Goes-up_by size (arguments s) front (shapes_of Θ) sub goes) in
      let results_near : SubstitutedSpine (λ g. after (ζ g)) args results =
      near_args (subst (λ Δ. ShapedSpine Δ args args_shaped.0) (sym scope) args_shaped.1) size (under_all (arguments s) (shapes_of Θ)) (up_by (arity s) sub) (λ g. after (ζ g)) goes_inside near
      (subst (λ m. SubstitutedSpine (up_by m sub) args results) (sym arity_missing) parts.4) in
      let moved : SubstitutedSpine after (rename_spine ζ args) results =
      subst (SubstitutedSpine after (rename_spine ζ args)) (rename_spine-same_head results)
      (SubstitutedSpine-rename_spine results_near ζ same_head after (λ g. sym (rename_image-same_head (after (ζ g))))) in
      let lifted_count : ζ ≡ lifted_by (length (first ++ missing)) ξ = lifted_by-lifted_by first missing ξ (arity s) arity_missing in
      let end_result : SubstitutedSpine (push_all (joined us (own_variables s)) stays) (rename_spine (lifted_by (length (first ++ missing)) ξ) args) results =
      subst₂ (λ τ θ. SubstitutedSpine τ (rename_spine θ args) results) (sym (push_all-joined us (own_variables s) stays)) lifted_count moved in
      let body : Typed inside (at (ξ h) (joined us (own_variables s))) end =
      typed_at (rename_context ξ (first ++ missing)) (rename_spine (lifted_by (length (first ++ missing)) ξ) args) head spine end_result in
      let at_shape : Typed Θ (expanded h ts s) (pis cs end) =
      subst (λ m. Typed Θ (lams m (at (next_by m h) (joined (rename_spine (next_by m) ts) (own_variables s)))) (pis cs end)) (sym (arity_of cs))
      (typed_lams cs Θ (at (ξ h) (joined us (own_variables s))) end body) in
      subst₂ (λ d x. Typed Θ (expanded h ts d) x) (sym shape) (sym parts.2) at_shape

-- Variables, constants and metavariables in their eta-long forms have their types.
eta_below : (kinds : Kinds) (p : ℕ) → EtaTypedBelow kinds p
eta_below kinds zero Θ h b shaped small known = absurd (omega arith)
eta_below kinds (suc p) Θ h b shaped small known =
    let r = whole b in
    expanded_below kinds p (eta_below kinds p) Θ shaped h [] r.0 r.1 r.2 no_args b (omega arith) (known ∙ ap Some r.3) typed_none
    (subst (λ a. SubstitutedType stays a b) r.3 (stays_type b))

pub expansions_have_their_types : ExpansionsHaveTheirTypes
expansions_have_their_types kinds Θ shaped h first missing f args ts b known typed result =
    let p = shape_size (shape_of b) in
    expanded_below kinds p (eta_below kinds p) Θ shaped h first missing f args ts b (omega arith) known typed result

pub eta_forms_have_their_types : EtaFormsHaveTheirTypes
eta_forms_have_their_types kinds Θ shaped h b known = eta_below kinds (suc (shape_size (shape_of b))) Θ h b shaped (omega arith) known

pub own_variables_are_typed : OwnVariablesAreTyped
own_variables_are_typed kinds Θ shaped ctx shaped_ctx =
    let p = shape_size (arrows (shapes_of_types ctx) base) in
    moved_typed
    (own_typed kinds p (eta_below kinds p) (kept_context shaped_ctx stays (λ h s e. refl)) (shapes_of Θ) Θ shaped p (Goes-stays p (shapes_of Θ)) shaped_ctx shaped_ctx (omega arith))
    (next_by (length ctx)) stays (λ h. refl)
