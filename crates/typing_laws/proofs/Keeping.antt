-- A replacement that goes from one typing to another keeps types.
use Rattle.std.proofs.Common.{◌≡◌, ℕ, zero, suc, ◌+◌, ◌<◌, ◌≤◌, Some, List, length, sym, ap, ◌∙◌, subst, arith}
use Rattle.lf_definitions.specs.Syntax.{LfHead, LfTerm, lam, at, Spine, SimpleType, base, arrows, shape_of, shapes_of_types, shape_size, LfType, pi, family, pis, Context}
use Rattle.lf_definitions.specs.Shaping.{Scope, under, under_all, Shaped, ShapedSpine, ShapedList, ShapedType}
use Rattle.lf_definitions.specs.Substitution.{stays, becomes, Replacement, up, up_by, push, push_all, Substituted, substituted_lam, substituted_stays, substituted_becomes, SubstitutedSpine, substituted_none, substituted_arg, Applied, applied_none, applied_arg, SubstitutedType, substituted_pi, substituted_family, SubstitutedContext, substituted_empty, substituted_entry}
use Rattle.lf_definitions.specs.Replacements.{Goes, IsThen}
use Rattle.lf_definitions.specs.Typing.{Typing, with_variable, Typed, typed_lam, typed_at, TypedSpine, typed_none, typed_arg, Kinds, shapes_of, shapes_of_kinds}
use Rattle.lf_definitions.specs.ShapedGoals.{ShapedContext, shaped_entry, ShapedTyping}
use Rattle.lf_definitions.proofs.Uniqueness.{unique_spine}
use Rattle.lf_definitions.proofs.Totality.{Goes-more, Goes-stays, Goes-up, Goes-push, total_spine, ShapedSpine-SubstitutedSpine}
use Rattle.lf_definitions.proofs.Composition.{IsThen-before, IsThen-after, IsThen-push_before, IsThen-push_after, composes_spine}
use Rattle.lf_definitions.proofs.Telescopes.{args_count-length, Goes-push_all, Goes-up_by, IsThen-push_all_before, IsThen-push_all_after}
use Rattle.lf_definitions.proofs.Types.{shape_of-SubstitutedType, ShapedType-SubstitutedType, total_type, composes_type}
use Rattle.lf_definitions.proofs.Typing.{shape_of-pis, Shaped-Typed, ShapedSpine-TypedSpine, shaped_argument, shaped_result}
use Rattle.lf_definitions.proofs.ShapedGoals.{ShapedTyping-head, ShapedContext-pis, ShapedType-under_pis, shapes_of-under, ShapedTyping-with_variable}
use Rattle.typing_laws.specs.TypedReplacements.{HasTypeOf, typed_stays, typed_becomes, GoesTyped, IsShapedIn}
use Rattle.typing_laws.proofs.Binders.{split, length-shapes_of_types, args_of_family}
use Rattle.typing_laws.proofs.TypedReplacements.{Goes-GoesTyped, GoesTyped-up, GoesTyped-push, GoesTyped-stays}

-- Arguments put under binders, and then `σ`, is `σ` under the binders, and then what `σ` makes of the arguments.
pub ends_agree : (p : ℕ) (Γ Δ : Scope) (σ : Replacement) → Goes p Γ Δ σ → (bs : List SimpleType) (ts vs : Spine) → ShapedList Γ ts bs → SubstitutedSpine σ ts vs →
    {args : Spine} {s : SimpleType} → ShapedSpine (under_all bs Γ) args s → {results after inside : Spine} →
    SubstitutedSpine (push_all ts stays) args results → SubstitutedSpine σ results after → SubstitutedSpine (up_by (length bs) σ) args inside → SubstitutedSpine (push_all vs stays) inside after
ends_agree p Γ Δ σ goes bs ts vs shaped_ts put {args} shaped {results} {after} {inside} first then_after before =
    let n = shape_size (arrows bs base) in
    let shaped_vs : ShapedList Δ vs bs = ShapedSpine-SubstitutedSpine p Γ Δ σ goes shaped_ts put in
    let both = push_all vs σ in
    let goes_both : Goes (p + n) (under_all bs Γ) Δ both = Goes-push_all (p + n) bs vs Γ Δ σ (Goes-more p (p + n) Γ Δ σ (omega arith) goes) shaped_vs (omega arith) in
    let z = total_spine (p + n) shaped Δ both goes_both in
    let left : SubstitutedSpine σ results z.0 =
    composes_spine n p shaped Γ Δ (push_all ts stays) σ both (Goes-push_all n bs ts Γ Γ stays (Goes-stays n Γ) shaped_ts (omega arith)) goes
    (IsThen-push_all_before stays σ σ put (IsThen-before σ)) first z.1 in
    let then : IsThen (up_by (length bs) σ) (push_all vs stays) both =
    subst (λ k. IsThen (up_by k σ) (push_all vs stays) both) (args_count-length bs Δ vs shaped_vs) (IsThen-push_all_after vs σ stays σ (IsThen-after σ)) in
    let right : SubstitutedSpine (push_all vs stays) inside z.0 =
    composes_spine p n shaped (under_all bs Δ) Δ (up_by (length bs) σ) (push_all vs stays) both (Goes-up_by p bs Γ Δ σ goes)
    (Goes-push_all n bs vs Δ Δ stays (Goes-stays n Δ) shaped_vs (omega arith)) then before z.1 in
    subst (SubstitutedSpine (push_all vs stays) inside) (unique_spine left then_after) right

-- Two ways from the scope of binders: by the arguments before them and then `σ`, or by `η` and then the results of these arguments.
record Ways (p : ℕ) (Γ Δ : Scope) (σ : Replacement) (S T : Scope) (ρ η τ θ : Replacement) : Type 0 where
  goes_before : Goes p S Γ ρ
  goes_inside : Goes p S T η
  goes_after : Goes p T Δ τ
  goes_both : Goes p S Δ θ
  by_before : IsThen ρ σ θ
  by_inside : IsThen η τ θ

Ways-start : (p : ℕ) (Γ Δ : Scope) (σ : Replacement) → Goes p Γ Δ σ → Ways p Γ Δ σ Γ Δ stays σ stays σ
Ways-start p Γ Δ σ goes = record {
  goes_before = Goes-stays p Γ;
  goes_inside = goes;
  goes_after = Goes-stays p Δ;
  goes_both = goes;
  by_before = IsThen-before σ;
  by_inside = IsThen-after σ;
}

Ways-push : (p q : ℕ) (Γ Δ : Scope) (σ : Replacement) (S T : Scope) (ρ η τ θ : Replacement) (a : SimpleType) (t v : LfTerm) → Ways p Γ Δ σ S T ρ η τ θ → p ≤ q → shape_size a < q →
    Shaped Γ t a → Shaped Δ v a → Substituted σ t v → Ways q Γ Δ σ (under a S) (under a T) (push t ρ) (up η) (push v τ) (push v θ)
Ways-push p q Γ Δ σ S T ρ η τ θ a t v ways le small shaped_t shaped_v put = record {
  goes_before = Goes-push q S Γ ρ a t (Goes-more p q S Γ ρ le ways.goes_before) shaped_t small;
  goes_inside = Goes-up q S T η a (Goes-more p q S T η le ways.goes_inside);
  goes_after = Goes-push q T Δ τ a v (Goes-more p q T Δ τ le ways.goes_after) shaped_v small;
  goes_both = Goes-push q S Δ θ a v (Goes-more p q S Δ θ le ways.goes_both) shaped_v small;
  by_before = IsThen-push_before ρ σ θ put ways.by_before;
  by_inside = IsThen-push_after η τ θ v ways.by_inside;
}

module _ (kinds : Kinds) where
  abbrev IsKept : ℕ → Type 0
  IsKept p = (Γ Δ : Typing) (σ : Replacement) → ShapedTyping kinds Γ → ShapedTyping kinds Δ → GoesTyped p Γ Δ σ →
      (t r : LfTerm) (a c : LfType) → IsShapedIn kinds Γ a → Typed Γ t a → SubstitutedType σ a c → Substituted σ t r → Typed Δ r c

  under_binder : (Γ : Typing) (a b : LfType) → IsShapedIn kinds Γ (pi a b) → IsShapedIn kinds (with_variable a Γ) b
  under_binder Γ a b shaped = subst (λ S. ShapedType (shapes_of_kinds kinds) S b) (sym (shapes_of-under Γ a)) (shaped_result shaped)

  -- a typed term applied to arguments of its binders' types
  applied_typed : (q : ℕ) → IsKept q → {Δ : Typing} {τ : Replacement} {vs : Spine} {cs : Context} → TypedSpine Δ τ vs cs → ShapedTyping kinds Δ → shape_size (arrows (shapes_of_types cs) base) ≤ q →
      (Γ : Typing) → ShapedTyping kinds Γ → GoesTyped q Γ Δ τ → (f : ℕ) (args results : Spine) (u r : LfTerm) → IsShapedIn kinds Γ (pis cs (family f args)) → Typed Γ u (pis cs (family f args)) →
      SubstitutedSpine (push_all vs τ) args results → Applied τ u vs r → Typed Δ r (family f results)
  applied_typed q kept (typed_none {Γ = Δ} {σ = τ}) shaped_Δ small Γ shaped_Γ goes f args results u r shaped typed result (applied_none x) =
      kept Γ Δ τ shaped_Γ shaped_Δ goes u r (family f args) (family f results) shaped typed (substituted_family result) x
  applied_typed q kept (typed_arg {Γ = Δ} {σ = τ} {t = v} {a = a} {rest = rest} c put typed_v typed_vs) shaped_Δ small Γ shaped_Γ goes f args results (lam b) r shaped (typed_lam typed) result (applied_arg x) =
      let small_c : shape_size (shape_of c) < q = subst (λ s. shape_size s < q) (sym (shape_of-SubstitutedType put)) (omega (arith, small)) in
      applied_typed q kept typed_vs shaped_Δ (omega (arith, small)) (with_variable a Γ) (ShapedTyping-with_variable kinds Γ a shaped_Γ (shaped_argument shaped))
      (GoesTyped-push kinds q Γ Δ τ shaped_Γ put typed_v small_c goes) f args results b r (under_binder Γ a (pis rest (family f args)) shaped) typed result x
  applied_typed q kept (typed_arg c put typed_v typed_vs) shaped_Δ small Γ shaped_Γ goes f args results (at h ts) r shaped typed result x = elim typed [ ]

  type_of_stays : {Δ : Typing} {p : ℕ} {k : LfHead} {c : LfType} → HasTypeOf Δ p (stays k) c → Δ k ≡ Some c
  type_of_stays (typed_stays e) = e

  type_of_becomes : {Δ : Typing} {p : ℕ} {u : LfTerm} {c : LfType} → HasTypeOf Δ p (becomes u) c → Typed Δ u c × shape_size (shape_of c) < p
  type_of_becomes (typed_becomes typed small) = (typed, small)

  module _ (p : ℕ) (below : (q : ℕ) → q < p → IsKept q) where
    ends : {Γ : Typing} (bs : Context) (f : ℕ) (args ts vs : Spine) (Δ : Typing) (σ : Replacement) → GoesTyped p Γ Δ σ → TypedSpine Γ stays ts bs → IsShapedIn kinds Γ (pis bs (family f args)) →
        SubstitutedSpine σ ts vs → {results after inside : Spine} → SubstitutedSpine (push_all ts stays) args results → SubstitutedSpine σ results after →
        SubstitutedSpine (up_by (length bs) σ) args inside → SubstitutedSpine (push_all vs stays) inside after
    ends {Γ} bs f args ts vs Δ σ goes typed whole put {inside = inside} first then_after before =
        let shaped = args_of_family (ShapedType-under_pis bs (family f args) whole) in
        ends_agree p (shapes_of Γ) (shapes_of Δ) σ (Goes-GoesTyped p Γ Δ σ goes) (shapes_of_types bs) ts vs (ShapedSpine-TypedSpine typed) put shaped.1 first then_after
        (subst (λ n. SubstitutedSpine (up_by n σ) args inside) (sym (length-shapes_of_types bs)) before)

    mutual
      step : {Γ : Typing} {t : LfTerm} {a : LfType} → Typed Γ t a → (Δ : Typing) (σ : Replacement) → ShapedTyping kinds Γ → ShapedTyping kinds Δ → GoesTyped p Γ Δ σ → IsShapedIn kinds Γ a →
          {r : LfTerm} {c : LfType} → SubstitutedType σ a c → Substituted σ t r → Typed Δ r c
      step (typed_lam {Γ = Γ} {a = a} {c = b} typed) Δ σ shaped_Γ shaped_Δ goes shaped (substituted_pi {c = c} x y) (substituted_lam z) =
          let shaped_c : IsShapedIn kinds Δ c = ShapedType-SubstitutedType p (shapes_of_kinds kinds) (shapes_of Γ) (shapes_of Δ) σ (Goes-GoesTyped p Γ Δ σ goes) (shaped_argument shaped) x in
          typed_lam (step typed (with_variable c Δ) (up σ) (ShapedTyping-with_variable kinds Γ a shaped_Γ (shaped_argument shaped)) (ShapedTyping-with_variable kinds Δ c shaped_Δ shaped_c)
          (GoesTyped-up kinds p Γ Δ σ shaped_Γ shaped_Δ x goes) (under_binder Γ a b shaped) y z)
      step (typed_at {Γ = Γ} {h = h} {ts = ts} {results = results} {f = f} bs args e typed result) Δ σ shaped_Γ shaped_Δ goes shaped (substituted_family {vs = after} x) (substituted_stays {k = k} {vs = vs} i xs) =
          let g = goes h (pis bs (family f args)) e in
          let parts = split bs σ f args g.1 in
          let known : Δ k ≡ Some g.0 = type_of_stays (subst (λ j. HasTypeOf Δ p j g.0) i g.2) in
          let whole = ShapedTyping-head kinds Γ shaped_Γ h (pis bs (family f args)) e in
          typed_at parts.0 parts.1 (known ∙ ap Some parts.2)
          (steps typed Δ σ shaped_Γ shaped_Δ goes p (shapes_of Γ) (shapes_of Δ) σ stays σ (Ways-start p (shapes_of Γ) (shapes_of Δ) σ (Goes-GoesTyped p Γ Δ σ goes)) (ShapedContext-pis bs (family f args) whole) parts.3 xs)
          (ends bs f args ts vs Δ σ goes typed whole xs result x parts.4)
      step (typed_at {Γ = Γ} {h = h} {ts = ts} {results = results} {f = f} bs args e typed result) Δ σ shaped_Γ shaped_Δ goes shaped {r} (substituted_family {vs = after} x) (substituted_becomes u vs i xs y) =
          let g = goes h (pis bs (family f args)) e in
          let parts = split bs σ f args g.1 in
          let q = shape_size (shape_of g.0) in
          let put : Typed Δ u g.0 × shape_size (shape_of g.0) < p = type_of_becomes (subst (λ j. HasTypeOf Δ p j g.0) i g.2) in
          let whole = ShapedTyping-head kinds Γ shaped_Γ h (pis bs (family f args)) e in
          let shaped_g : IsShapedIn kinds Δ g.0 = ShapedType-SubstitutedType p (shapes_of_kinds kinds) (shapes_of Γ) (shapes_of Δ) σ (Goes-GoesTyped p Γ Δ σ goes) whole g.1 in
          let size : shape_size (arrows (shapes_of_types parts.0) base) ≤ q = bounded (ap (λ b. shape_size (shape_of b)) parts.2 ∙ ap shape_size (shape_of-pis parts.0 f parts.1)) in
          applied_typed q (below q put.1)
          (steps typed Δ σ shaped_Γ shaped_Δ goes p (shapes_of Γ) (shapes_of Δ) σ stays σ (Ways-start p (shapes_of Γ) (shapes_of Δ) σ (Goes-GoesTyped p Γ Δ σ goes)) (ShapedContext-pis bs (family f args) whole) parts.3 xs) shaped_Δ size
          Δ shaped_Δ (GoesTyped-stays q Δ) f parts.1 after u r (subst (IsShapedIn kinds Δ) parts.2 shaped_g) (subst (Typed Δ u) parts.2 put.0)
          (ends bs f args ts vs Δ σ goes typed whole xs result x parts.4) y
        where
          bounded : {m n : ℕ} → m ≡ n → n ≤ m
          bounded e = omega (arith, e)

      steps : {Γ : Typing} {ρ : Replacement} {ts : Spine} {bs : Context} → TypedSpine Γ ρ ts bs → (Δ : Typing) (σ : Replacement) → ShapedTyping kinds Γ → ShapedTyping kinds Δ → GoesTyped p Γ Δ σ →
          (n : ℕ) (S T : Scope) (η τ θ : Replacement) → Ways n (shapes_of Γ) (shapes_of Δ) σ S T ρ η τ θ → ShapedContext (shapes_of_kinds kinds) S bs →
          {vs : Spine} {cs : Context} → SubstitutedContext η bs cs → SubstitutedSpine σ ts vs → TypedSpine Δ τ vs cs
      steps typed_none Δ σ shaped_Γ shaped_Δ goes n S T η τ θ ways shaped substituted_empty substituted_none = typed_none
      steps (typed_arg {Γ = Γ} {σ = ρ} {t = t} {a = a} c put typed typeds) Δ σ shaped_Γ shaped_Δ goes n S T η τ θ ways (shaped_entry x xs) (substituted_entry y ys) (substituted_arg {v = v} z zs) =
          let k = shapes_of_kinds kinds in
          let shaped_σ = Goes-GoesTyped p Γ Δ σ goes in
          let d = total_type n x (shapes_of Δ) θ ways.goes_both in
          let by_before : SubstitutedType σ c d.0 = composes_type n p x (shapes_of Γ) (shapes_of Δ) ρ σ θ ways.goes_before shaped_σ ways.by_before put d.1 in
          let by_inside : SubstitutedType τ _ d.0 = composes_type n n x T (shapes_of Δ) η τ θ ways.goes_inside ways.goes_after ways.by_inside y d.1 in
          let typed_v : Typed Δ v d.0 = step typed Δ σ shaped_Γ shaped_Δ goes (ShapedType-SubstitutedType n k S (shapes_of Γ) ρ ways.goes_before x put) by_before z in
          let m = n + suc (shape_size (shape_of a)) in
          typed_arg d.0 by_inside typed_v
          (steps typeds Δ σ shaped_Γ shaped_Δ goes m (under (shape_of a) S) (under (shape_of a) T) (up η) (push v τ) (push v θ)
          (Ways-push n m (shapes_of Γ) (shapes_of Δ) σ S T ρ η τ θ (shape_of a) t v ways (omega arith) (omega arith)
          (subst (Shaped (shapes_of Γ) t) (shape_of-SubstitutedType put) (Shaped-Typed typed))
          (subst (Shaped (shapes_of Δ) v) (shape_of-SubstitutedType d.1) (Shaped-Typed typed_v)) z) xs ys zs)

  below_all : (p q : ℕ) → q < p → IsKept q
  below_all zero q small = absurd (omega arith)
  below_all (suc p) q small = λ Γ Δ σ shaped_Γ shaped_Δ goes t r a c shaped typed. step q (λ m less. below_all p m (omega arith)) typed Δ σ shaped_Γ shaped_Δ goes shaped

  pub Typed-Substituted : (p : ℕ) → IsKept p
  Typed-Substituted p = below_all (suc p) p (omega arith)

  pub TypedSpine-SubstitutedSpine : (p : ℕ) {Γ : Typing} {ts : Spine} {bs : Context} → TypedSpine Γ stays ts bs → (Δ : Typing) (σ : Replacement) → ShapedTyping kinds Γ → ShapedTyping kinds Δ → GoesTyped p Γ Δ σ →
      ShapedContext (shapes_of_kinds kinds) (shapes_of Γ) bs → {vs : Spine} {cs : Context} → SubstitutedContext σ bs cs → SubstitutedSpine σ ts vs → TypedSpine Δ stays vs cs
  TypedSpine-SubstitutedSpine p {Γ} typed Δ σ shaped_Γ shaped_Δ goes shaped binders put =
      steps p (below_all p) typed Δ σ shaped_Γ shaped_Δ goes p (shapes_of Γ) (shapes_of Δ) σ stays σ (Ways-start p (shapes_of Γ) (shapes_of Δ) σ (Goes-GoesTyped p Γ Δ σ goes)) shaped binders put
