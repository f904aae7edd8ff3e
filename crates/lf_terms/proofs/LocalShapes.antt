-- The shapes of heads in the scope of a place, and what a term's parts say of it.
use Rattle.std.proofs.Common.{◌≡◌, ℕ, zero, suc, ◌+◌, ◌-◌, ◌<◌, ◌≤◌, ◌↔◌, Option, Some, None, List, [], ◌∷◌, length, get_or, drop, if◌then◌else◌, nat_eq, refl, sym, ap, ap₂, ◌∙◌, subst, subst₂, arith, drop_of_length-le}
use Rattle.std.proofs.lemmas.List.{drop_more}
use Rattle.lf_definitions.specs.Syntax.{LfHead, bound, constant, metavariable, LfTerm, lam, at, Spine, arg, SimpleType, base, arrow, arrows, args_count, lams}
use Rattle.lf_definitions.specs.Shaping.{Scope, under, under_all, globals, shape_at, shape_of_metavariable, Shaped, shaped_at, ShapedSpine, shaped_none, shaped_arg}
use Rattle.lf_definitions.proofs.Expansion.{stripped, Shaped-lams}
use Rattle.lf_definitions.proofs.Telescopes.{next_by-bound, under_all-next_by_length, arity-arrows, arguments-arrows, args_count-length}
use Rattle.lf_terms.specs.declared.shaped.LocalShapes.{LocalShapes}
use Rattle.lf_terms.specs.declared.shaped.LocalShapes.TheVariants.{Context, Under'}
use Rattle.lf_terms.specs.declared.shape.Shape.{Shape}
use Rattle.lf_terms.specs.declared.shape.MetaShape.{MetaShape}
use Rattle.lf_terms.specs.declared.term.Term.{Term}
use Rattle.lf_terms.specs.Terms.{term_of, spine_of}
use Rattle.lf_terms.specs.Shapes.{simple_type_of, simple_types_of, metas_of}
use Rattle.lf_terms.specs.LocalShapes.{scope_under, no_globals}
use Rattle.lf_terms.specs.Putting.{HasLams}
use Rattle.lf_terms.proofs.Spines.{args_count-spine_of}
use Rattle.lf_terms.proofs.ShapeLists.{length-simple_types_of}
use Rattle.lf_terms.proofs.Putting.{under_all-bound}

-- Variables.
some_shape : (l : List SimpleType) (k : ℕ) → k < length l → (s : SimpleType) × (shape_at l k ≡ Some s)
some_shape [] k less = absurd (omega arith)
some_shape (a ∷ l) zero less = (a, refl)
some_shape (a ∷ l) (suc k) less = some_shape l k (omega arith)

pub shape_at_get : (ss : List Shape) (l : List SimpleType) (k : ℕ) (d : Shape) → simple_types_of ss ≡ l → k < length ss → ◌≡◌ {A = Option SimpleType} (Some (simple_type_of (get_or ss k d))) (shape_at l k)
shape_at_get ss l k d are within = sym (here ss k d within) ∙ ap (λ m. shape_at m k) are
  where
    here : (ss : List Shape) (k : ℕ) (d : Shape) → k < length ss → shape_at (simple_types_of ss) k ≡ Some (simple_type_of (get_or ss k d))
    here [] k d less = absurd (omega arith)
    here (s ∷ ss) zero d less = refl
    here (s ∷ ss) (suc k) d less = here ss k d (omega arith)

pub newest_at : (ss : List Shape) (n : ℕ) (d : Shape) (l : List SimpleType) → simple_types_of ss ≡ l → n < length ss →
    ◌≡◌ {A = Option SimpleType} (Some (simple_type_of (get_or ss (length ss - 1 - n) d))) (under_all l no_globals (bound n))
newest_at ss n d l are within =
    let k = length ss - 1 - n in
    let x = get_or ss k d in
    let is : shape_at (simple_types_of ss) k ≡ Some (simple_type_of x) = sym (shape_at_get ss (simple_types_of ss) k d refl (omega arith)) in
    let count : length l ≡ length ss = ap length (sym are) ∙ length-simple_types_of ss in
    let number : length l - suc k ≡ n = omega (arith, count) in
    sym (under_all-bound l no_globals k (simple_type_of x) (ap (λ m. shape_at m k) (sym are) ∙ is)) ∙ ap (λ i. under_all l no_globals (bound i)) number

pub under_all-outside : (l : List SimpleType) (Γ : Scope) (n : ℕ) → length l ≤ n → under_all l Γ (bound n) ≡ Γ (bound (n - length l))
under_all-outside l Γ n past =
    let number : n ≡ length l + (n - length l) = omega arith in
    ap (λ i. under_all l Γ (bound i)) number ∙ ap (under_all l Γ) (sym (next_by-bound (length l) (n - length l))) ∙ under_all-next_by_length l Γ (bound (n - length l))

under_all-inside : (l : List SimpleType) (Γ Δ : Scope) (n : ℕ) → n < length l → under_all l Γ (bound n) ≡ under_all l Δ (bound n)
under_all-inside l Γ Δ n within =
    let k = length l - suc n in
    let found = some_shape l k (omega arith) in
    let number : length l - suc k ≡ n = omega arith in
    ap (λ i. under_all l Γ (bound i)) (sym number) ∙ under_all-bound l Γ k found.0 found.1 ∙ sym (under_all-bound l Δ k found.0 found.1) ∙ ap (λ i. under_all l Δ (bound i)) number

pub newest_past : (l : List SimpleType) (n : ℕ) → length l ≤ n → ◌≡◌ {A = Option SimpleType} None (under_all l no_globals (bound n))
newest_past l n past = sym (under_all-outside l no_globals n past)

pub prefix_inside : (Γ : Scope) (l : List SimpleType) (n : ℕ) → n < length l → under_all l no_globals (bound n) ≡ under_all l Γ (bound n)
prefix_inside Γ l n within = under_all-inside l no_globals Γ n within

-- Variables don't depend on what is known of other heads.
abbrev SameVariables : Scope → Scope → Type 0
SameVariables Γ Δ = (n : ℕ) → Γ (bound n) ≡ Δ (bound n)

under_same : (l : List SimpleType) (Γ Δ : Scope) → SameVariables Γ Δ → SameVariables (under_all l Γ) (under_all l Δ)
under_same [] Γ Δ same = same
under_same (a ∷ l) Γ Δ same = under_same l (under a Γ) (under a Δ) one
  where
    one : SameVariables (under a Γ) (under a Δ)
    one zero = refl
    one (suc n) = same n

pub scope_variable : (scope : LocalShapes) (constants : List SimpleType) (metas : List (ℕ × SimpleType)) → SameVariables (scope_under no_globals scope) (scope_under (globals constants metas) scope)
scope_variable (Context ctx) constants metas = under_same ctx.now no_globals (globals constants metas) (λ n. refl)
scope_variable (Under' shapes p outside) constants metas = under_same shapes.now (scope_under no_globals outside) (scope_under (globals constants metas) outside) (scope_variable outside constants metas)

-- Nor do other heads depend on variables.
under_constant : (l : List SimpleType) (Γ : Scope) (c : ℕ) → under_all l Γ (constant c) ≡ Γ (constant c)
under_constant [] Γ c = refl
under_constant (a ∷ l) Γ c = under_constant l (under a Γ) c

under_metavariable : (l : List SimpleType) (Γ : Scope) (g : ℕ) → under_all l Γ (metavariable g) ≡ Γ (metavariable g)
under_metavariable [] Γ g = refl
under_metavariable (a ∷ l) Γ g = under_metavariable l (under a Γ) g

pub scope_constant : (Γ : Scope) (scope : LocalShapes) (c : ℕ) → scope_under Γ scope (constant c) ≡ Γ (constant c)
scope_constant Γ (Context ctx) c = under_constant ctx.now Γ c
scope_constant Γ (Under' shapes p outside) c = under_constant shapes.now (scope_under Γ outside) c ∙ scope_constant Γ outside c

pub scope_metavariable : (Γ : Scope) (scope : LocalShapes) (g : ℕ) → scope_under Γ scope (metavariable g) ≡ Γ (metavariable g)
scope_metavariable Γ (Context ctx) g = under_metavariable ctx.now Γ g
scope_metavariable Γ (Under' shapes p outside) g = under_metavariable shapes.now (scope_under Γ outside) g ∙ scope_metavariable Γ outside g

pub shape_at_past : (ss : List Shape) (l : List SimpleType) (k : ℕ) → simple_types_of ss ≡ l → length ss ≤ k → ◌≡◌ {A = Option SimpleType} None (shape_at l k)
shape_at_past ss l k are past = sym (none l k (omega (arith, ap length are, length-simple_types_of ss)))
  where
    none : (l : List SimpleType) (k : ℕ) → length l ≤ k → shape_at l k ≡ None
    none [] k past = refl
    none (a ∷ l) zero past = absurd (omega arith)
    none (a ∷ l) (suc k) past = none l k (omega arith)

-- Metavariables, in a loop.
pub meta_more : (ms : List MetaShape) (i goal : ℕ) (m : MetaShape) → i < length ms → m ≡ get_or ms i m →
    shape_of_metavariable (metas_of (drop i ms)) goal ≡ (if nat_eq m.id goal then Some (arrows m.args base) else shape_of_metavariable (metas_of (drop (i + 1) ms)) goal)
meta_more ms i goal m within is =
    ap (λ l. shape_of_metavariable (metas_of l) goal) (drop_more ms i m within ∙ ap (λ x. x ∷ drop (i + 1) ms) (sym is))

-- What the parts of a term say of it.
base_lam : (Γ : Scope) (b : LfTerm) → Shaped Γ (lam b) base → ⊥
base_lam Γ b h = elim h [ ]

pub not_lam : (Γ : Scope) (t b : LfTerm) → t ≡ lam b → Shaped Γ t base → ⊥
not_lam Γ t b is h = base_lam Γ b (subst (λ x. Shaped Γ x base) is h)

at_shape : {Γ : Scope} {h : LfHead} {ts : Spine} {s : SimpleType} → Shaped Γ (at h ts) s → (c : SimpleType) × (Γ h ≡ Some c) × ShapedSpine Γ ts c
at_shape (shaped_at c e ps) = (c, e, ps)

pub unknown_head : (Γ : Scope) (t : LfTerm) (h : LfHead) (ts : Spine) → t ≡ at h ts → ◌≡◌ {A = Option SimpleType} None (Γ h) → Shaped Γ t base → ⊥
unknown_head Γ t h ts is none shaped = absurd (clash (none ∙ (at_shape (subst (λ x. Shaped Γ x base) is shaped)).1))
  where
    clash : {s : SimpleType} → ◌≡◌ {A = Option SimpleType} None (Some s) → ⊥
    clash e = cc

pub known_head : (Γ : Scope) (t : LfTerm) (h : LfHead) (ts : Spine) (s : SimpleType) → t ≡ at h ts → ◌≡◌ {A = Option SimpleType} (Some s) (Γ h) → ShapedSpine Γ ts s ↔ Shaped Γ t base
known_head Γ t h ts s is known = (
  λ p. subst (λ x. Shaped Γ x base) (sym is) (shaped_at s (sym known) p),
  λ p. let inside = at_shape (subst (λ x. Shaped Γ x base) is p) in subst (ShapedSpine Γ ts) (inj (sym (known ∙ inside.1))) inside.2,
)
  where
    inj : {a b : SimpleType} → ◌≡◌ {A = Option SimpleType} (Some a) (Some b) → a ≡ b
    inj e = cc

pub body_found : (Γ : Scope) (t b : LfTerm) (l : List SimpleType) → t ≡ lams (length l) b → Shaped (under_all l Γ) b base ↔ Shaped Γ t (arrows l base)
body_found Γ t b l is = (
  λ p. subst₂ (λ n x. Shaped Γ x (arrows l base)) (arity-arrows l)
      (ap (λ n. lams n b) (arity-arrows l) ∙ sym is)
      (Shaped-lams (arrows l base) Γ b (subst (λ k. Shaped (under_all k Γ) b base) (sym (arguments-arrows l)) p)),
  λ p. let r = stripped p in
      let same : r.0 ≡ b = lams_same (length l) r.0 b (ap (λ n. lams n r.0) (sym (arity-arrows l)) ∙ sym r.1 ∙ is) in
      subst₂ (λ k x. Shaped (under_all k Γ) x base) (arguments-arrows l) same r.2,
)
  where
    lams_same : (m : ℕ) (x y : LfTerm) → lams m x ≡ lams m y → x ≡ y
    lams_same zero x y e = e
    lams_same (suc m) x y e = lams_same m x y cc

pub body_missing : (Γ : Scope) (t : LfTerm) (l : List SimpleType) → (HasLams (length l) t → ⊥) → Shaped Γ t (arrows l base) → ⊥
body_missing Γ t l missing p = let r = stripped p in missing (r.0, r.1 ∙ ap (λ n. lams n r.0) (arity-arrows l))

-- The arguments of a spine, in a loop.
pub lengths_differ : (Γ : Scope) (ts : List Term) (ss : List Shape) (args : Spine) (l : List SimpleType) → spine_of ts ≡ args → simple_types_of ss ≡ l → (length ts ≡ length ss → ⊥) → ShapedSpine Γ args (arrows l base) → ⊥
lengths_differ Γ ts ss args l args_are l_is differ p =
    differ (sym (args_count-spine_of ts) ∙ ap args_count args_are ∙ args_count-length l Γ args p ∙ ap length (sym l_is) ∙ length-simple_types_of ss)

spine_parts : {Γ : Scope} {t : LfTerm} {ts : Spine} {a s : SimpleType} → ShapedSpine Γ (arg t ts) (arrow a s) → Shaped Γ t a × ShapedSpine Γ ts s
spine_parts (shaped_arg p ps) = (p, ps)

-- the rest of a spine from a place on
abbrev pub RestShaped : Scope → List Term → List Shape → ℕ → Type 0
RestShaped Γ ts ss i = ShapedSpine Γ (spine_of (drop i ts)) (arrows (simple_types_of (drop i ss)) base)

rest_at : (Γ : Scope) (ts : List Term) (ss : List Shape) (i : ℕ) (t : Term) (s : Shape) → i < length ts → length ts ≡ length ss → t ≡ get_or ts i t → s ≡ get_or ss i s →
    RestShaped Γ ts ss i ≡ ShapedSpine Γ (arg (term_of t) (spine_of (drop (i + 1) ts))) (arrow (simple_type_of s) (arrows (simple_types_of (drop (i + 1) ss)) base))
rest_at Γ ts ss i t s within lengths t_is s_is =
    ap₂ (λ x y. ShapedSpine Γ (spine_of x) (arrows (simple_types_of y) base))
    (drop_more ts i t within ∙ ap (λ x. x ∷ drop (i + 1) ts) (sym t_is))
    (drop_more ss i s (omega (arith, lengths)) ∙ ap (λ x. x ∷ drop (i + 1) ss) (sym s_is))

pub rest_more : (Γ : Scope) (ts : List Term) (ss : List Shape) (i : ℕ) (t : Term) (s : Shape) (All : Type 0) → i < length ts → length ts ≡ length ss → t ≡ get_or ts i t → s ≡ get_or ss i s →
    (RestShaped Γ ts ss i ↔ All) → Shaped Γ (term_of t) (simple_type_of s) → RestShaped Γ ts ss (i + 1) ↔ All
rest_more Γ ts ss i t s All within lengths t_is s_is before here =
    let here_is = rest_at Γ ts ss i t s within lengths t_is s_is in
    (λ p. before.0 (subst (λ X. X) (sym here_is) (shaped_arg here p)), λ a. (spine_parts (subst (λ X. X) here_is (before.1 a))).1)

pub rest_refused : (Γ : Scope) (ts : List Term) (ss : List Shape) (i : ℕ) (t : Term) (s : Shape) (All : Type 0) → i < length ts → length ts ≡ length ss → t ≡ get_or ts i t → s ≡ get_or ss i s →
    (RestShaped Γ ts ss i ↔ All) → (Shaped Γ (term_of t) (simple_type_of s) → ⊥) → All → ⊥
rest_refused Γ ts ss i t s All within lengths t_is s_is before refused a =
    refused (spine_parts (subst (λ X. X) (rest_at Γ ts ss i t s within lengths t_is s_is) (before.1 a))).0

pub rest_end : (Γ : Scope) (ts : List Term) (ss : List Shape) (i : ℕ) (All : Type 0) → length ts ≤ i → length ts ≡ length ss → (RestShaped Γ ts ss i ↔ All) → All
rest_end Γ ts ss i All past lengths before =
    before.0 (subst₂ (λ x y. ShapedSpine Γ (spine_of x) (arrows (simple_types_of y) base)) (sym (drop_of_length-le ts past)) (sym (drop_of_length-le ss (omega (arith, lengths)))) shaped_none)
