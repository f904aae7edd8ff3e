-- Where all types are shaped, each term is typed or fails at a path, and each type, context and kind is well formed or fails at a path.
use Rattle.std.proofs.Common.{◌≡◌, ◌≢◌, ℕ, suc, ◌≤◌, ◌⊎◌, inl, inr, Option, Some, None, List, [], ◌∷◌, length, refl, sym, ap, ap₂, ◌∙◌, subst, arith}
use Rattle.lf_definitions.specs.Syntax.{LfHead, bound, constant, metavariable, LfTerm, lam, at, Spine, no_args, arg, base, arrows, LfType, pi, family, Context, LfKind, pis, shape_of, shapes_of_types, shape_size, args_count, conclusion}
use Rattle.lf_definitions.specs.Shaping.{Scope, under, under_all, Shaped, ShapedType, shaped_pi, shaped_family}
use Rattle.lf_definitions.specs.Substitution.{Replacement, stays, push, push_all, SubstitutedSpine, SubstitutedType}
use Rattle.lf_definitions.specs.Typing.{Typing, with_variable, Typed, typed_lam, typed_at, TypedSpine, typed_none, typed_arg, Kinds, Formed, formed_pi, formed_family, FormedContext, formed_empty, formed_entry, shapes_of, shapes_of_kinds}
use Rattle.lf_definitions.specs.Failures.{FailsTerm, fails_lam, fails_at, fails_in_body, fails_head, fails_count, fails_in_argument, fails_result, FailsSpine, fails_here, fails_later, FailsType, FailsTypeFrom, fails_binder, fails_rest, fails_family, fails_family_count, fails_family_argument, FailsContextFrom, fails_entry, fails_entries}
use Rattle.lf_definitions.specs.ShapedGoals.{ShapedTyping, ShapedContext, shaped_entry}
use Rattle.lf_definitions.specs.TypingLaws.{HoldsOrFails}
use Rattle.lf_definitions.specs.Replacements.{Goes}
use Rattle.lf_definitions.proofs.Totality.{Goes-stays, Goes-push, total_spine}
use Rattle.lf_definitions.proofs.Telescopes.{Goes-push_all}
use Rattle.lf_definitions.proofs.Types.{total_type, shape_of-SubstitutedType}
use Rattle.lf_definitions.proofs.Typing.{Shaped-Typed, ShapedSpine-TypedSpine, ShapedType-Formed}
use Rattle.lf_definitions.proofs.Failures.{binders_of, family_args_of}
use Rattle.lf_definitions.proofs.ShapedGoals.{ShapedTyping-head, ShapedTyping-family, ShapedTyping-with_variable, shapes_of-under, ShapedContext-pis, ShapedType-under_pis}

-- Equality of syntax is decided.
abbrev pub SameOrNot : {A : Type 0} → A → A → Type 0
SameOrNot a b = (a ≡ b) ⊎ (a ≢ b)

same_number : (n m : ℕ) → SameOrNot n m
same_number n m = grind arith

same_heads : (h k : LfHead) → SameOrNot h k
same_heads (bound n) (bound m) = at_numbers (same_number n m)
  where
    at_numbers : SameOrNot n m → SameOrNot (bound n) (bound m)
    at_numbers (inl e) = inl (ap bound e)
    at_numbers (inr differ) = inr (λ e. differ cc)
same_heads (constant n) (constant m) = at_numbers (same_number n m)
  where
    at_numbers : SameOrNot n m → SameOrNot (constant n) (constant m)
    at_numbers (inl e) = inl (ap constant e)
    at_numbers (inr differ) = inr (λ e. differ cc)
same_heads (metavariable n) (metavariable m) = at_numbers (same_number n m)
  where
    at_numbers : SameOrNot n m → SameOrNot (metavariable n) (metavariable m)
    at_numbers (inl e) = inl (ap metavariable e)
    at_numbers (inr differ) = inr (λ e. differ cc)
same_heads (bound n) (constant m) = inr (λ e. cc)
same_heads (bound n) (metavariable m) = inr (λ e. cc)
same_heads (constant n) (bound m) = inr (λ e. cc)
same_heads (constant n) (metavariable m) = inr (λ e. cc)
same_heads (metavariable n) (bound m) = inr (λ e. cc)
same_heads (metavariable n) (constant m) = inr (λ e. cc)

both_at : {h k : LfHead} {ts us : Spine} → SameOrNot h k → SameOrNot ts us → SameOrNot (at h ts) (at k us)
both_at (inl e) (inl f) = inl (ap₂ at e f)
both_at (inl e) (inr differ) = inr (λ same. differ cc)
both_at (inr differ) other = inr (λ same. differ cc)

both_args : {t u : LfTerm} {ts us : Spine} → SameOrNot t u → SameOrNot ts us → SameOrNot (arg t ts) (arg u us)
both_args (inl e) (inl f) = inl (ap₂ arg e f)
both_args (inl e) (inr differ) = inr (λ same. differ cc)
both_args (inr differ) other = inr (λ same. differ cc)

both_families : {f g : ℕ} {ts us : Spine} → SameOrNot f g → SameOrNot ts us → SameOrNot (family f ts) (family g us)
both_families (inl e) (inl f) = inl (ap₂ family e f)
both_families (inl e) (inr differ) = inr (λ same. differ cc)
both_families (inr differ) other = inr (λ same. differ cc)

both_bodies : {b c : LfTerm} → SameOrNot b c → SameOrNot (lam b) (lam c)
both_bodies (inl e) = inl (ap lam e)
both_bodies (inr differ) = inr (λ same. differ cc)

mutual
  same_terms : (t u : LfTerm) → SameOrNot t u
  same_terms (lam b) (lam c) = both_bodies (same_terms b c)
  same_terms (lam b) (at k us) = inr (λ e. cc)
  same_terms (at h ts) (lam c) = inr (λ e. cc)
  same_terms (at h ts) (at k us) = both_at (same_heads h k) (same_spines ts us)

  same_spines : (ts us : Spine) → SameOrNot ts us
  same_spines no_args no_args = inl refl
  same_spines no_args (arg u us) = inr (λ e. cc)
  same_spines (arg t ts) no_args = inr (λ e. cc)
  same_spines (arg t ts) (arg u us) = both_args (same_terms t u) (same_spines ts us)

-- each type is its binders over its family
pub pis-binders_of : (a : LfType) → pis (binders_of a) (family (conclusion a) (family_args_of a)) ≡ a
pis-binders_of (pi a b) = ap (pi a) (pis-binders_of b)
pis-binders_of (family f args) = refl

-- The list of a typed spine goes for the binders.
pub Goes-TypedSpine : {Γ : Typing} {ts : Spine} {bs : List LfType} → TypedSpine Γ stays ts bs →
    Goes (shape_size (arrows (shapes_of_types bs) base)) (under_all (shapes_of_types bs) (shapes_of Γ)) (shapes_of Γ) (push_all ts stays)
Goes-TypedSpine {Γ = Γ} {ts = ts} {bs = bs} ps =
    let p = shape_size (arrows (shapes_of_types bs) base) in
    Goes-push_all p (shapes_of_types bs) ts (shapes_of Γ) (shapes_of Γ) stays (Goes-stays p (shapes_of Γ)) (ShapedSpine-TypedSpine ps) (omega arith)

module _ (kinds : Kinds) where
  at_result : (Γ : Typing) (h : LfHead) (ts results found args : Spine) (f g : ℕ) (bs : List LfType) → Γ h ≡ Some (pis bs (family g args)) → TypedSpine Γ stays ts bs →
      SubstitutedSpine (push_all ts stays) args found → SameOrNot (family g found) (family f results) → HoldsOrFails (Typed Γ (at h ts) (family f results)) (FailsTerm Γ (at h ts) (family f results))
  at_result Γ h ts results found args f g bs e ps result (inl same) = inl (subst (Typed Γ (at h ts)) same (typed_at bs args e ps result))
  at_result Γ h ts results found args f g bs e ps result (inr differ) = inr ([], fails_result Γ h ts results found f g bs args e ps result differ)

  at_spine : (Γ : Typing) → ShapedTyping kinds Γ → (h : LfHead) (ts results args : Spine) (f g : ℕ) (bs : List LfType) → Γ h ≡ Some (pis bs (family g args)) → args_count ts ≡ length bs →
      HoldsOrFails (TypedSpine Γ stays ts bs) (FailsSpine Γ stays ts bs 0) → HoldsOrFails (Typed Γ (at h ts) (family f results)) (FailsTerm Γ (at h ts) (family f results))
  at_spine Γ shaped h ts results args f g bs e count (inr (path, fails)) = inr (path, fails_in_argument Γ h ts results f g bs args path e count fails)
  at_spine Γ shaped h ts results args f g bs e count (inl ps) = with_args (ShapedType-under_pis bs (family g args) (ShapedTyping-head kinds Γ shaped h (pis bs (family g args)) e))
    where
      with_args : ShapedType (shapes_of_kinds kinds) (under_all (shapes_of_types bs) (shapes_of Γ)) (family g args) → HoldsOrFails (Typed Γ (at h ts) (family f results)) (FailsTerm Γ (at h ts) (family f results))
      with_args (shaped_family s is qs) =
          let r = total_spine (shape_size (arrows (shapes_of_types bs) base)) qs (shapes_of Γ) (push_all ts stays) (Goes-TypedSpine ps) in
          at_result Γ h ts results r.0 args f g bs e ps r.1 (both_families (same_number g f) (same_spines r.0 results))

  at_count : (Γ : Typing) → ShapedTyping kinds Γ → (h : LfHead) (ts results args : Spine) (f g : ℕ) (bs : List LfType) → Γ h ≡ Some (pis bs (family g args)) → SameOrNot (args_count ts) (length bs) →
      (args_count ts ≡ length bs → ShapedContext (shapes_of_kinds kinds) (shapes_of Γ) bs → HoldsOrFails (TypedSpine Γ stays ts bs) (FailsSpine Γ stays ts bs 0)) →
      HoldsOrFails (Typed Γ (at h ts) (family f results)) (FailsTerm Γ (at h ts) (family f results))
  at_count Γ shaped h ts results args f g bs e (inl count) spine =
      at_spine Γ shaped h ts results args f g bs e count (spine count (ShapedContext-pis bs (family g args) (ShapedTyping-head kinds Γ shaped h (pis bs (family g args)) e)))
  at_count Γ shaped h ts results args f g bs e (inr differ) spine = inr ([], fails_count Γ h ts results f g bs args e differ)

  at_head : (Γ : Typing) → ShapedTyping kinds Γ → (h : LfHead) (ts results : Spine) (f : ℕ) (o : Option LfType) → Γ h ≡ o →
      ((bs : List LfType) → args_count ts ≡ length bs → ShapedContext (shapes_of_kinds kinds) (shapes_of Γ) bs → HoldsOrFails (TypedSpine Γ stays ts bs) (FailsSpine Γ stays ts bs 0)) →
      HoldsOrFails (Typed Γ (at h ts) (family f results)) (FailsTerm Γ (at h ts) (family f results))
  at_head Γ shaped h ts results f None e spine = inr ([], fails_head Γ h ts f results e)
  at_head Γ shaped h ts results f (Some a) e spine =
      at_count Γ shaped h ts results (family_args_of a) f (conclusion a) (binders_of a) (e ∙ ap Some (sym (pis-binders_of a))) (same_number (args_count ts) (length (binders_of a))) (spine (binders_of a))

  at_body : (Γ : Typing) (b : LfTerm) (a c : LfType) → HoldsOrFails (Typed (with_variable a Γ) b c) (FailsTerm (with_variable a Γ) b c) → HoldsOrFails (Typed Γ (lam b) (pi a c)) (FailsTerm Γ (lam b) (pi a c))
  at_body Γ b a c (inl p) = inl (typed_lam p)
  at_body Γ b a c (inr (path, fails)) = inr (0 ∷ path, fails_in_body Γ b a c path fails)

  at_rest : (Γ : Typing) (σ : Replacement) (t : LfTerm) (ts : Spine) (a c : LfType) (rest : List LfType) (child : ℕ) → SubstitutedType σ a c → Typed Γ t c →
      HoldsOrFails (TypedSpine Γ (push t σ) ts rest) (FailsSpine Γ (push t σ) ts rest (suc child)) → HoldsOrFails (TypedSpine Γ σ (arg t ts) (a ∷ rest)) (FailsSpine Γ σ (arg t ts) (a ∷ rest) child)
  at_rest Γ σ t ts a c rest child result p (inl ps) = inl (typed_arg c result p ps)
  at_rest Γ σ t ts a c rest child result p (inr (path, fails)) = inr (path, fails_later Γ σ t ts a c rest child path result p fails)

  at_argument : (Γ : Typing) (σ : Replacement) (t : LfTerm) (ts : Spine) (a c : LfType) (rest : List LfType) (child : ℕ) → SubstitutedType σ a c → HoldsOrFails (Typed Γ t c) (FailsTerm Γ t c) →
      (Typed Γ t c → HoldsOrFails (TypedSpine Γ (push t σ) ts rest) (FailsSpine Γ (push t σ) ts rest (suc child))) → HoldsOrFails (TypedSpine Γ σ (arg t ts) (a ∷ rest)) (FailsSpine Γ σ (arg t ts) (a ∷ rest) child)
  at_argument Γ σ t ts a c rest child result (inl p) later = at_rest Γ σ t ts a c rest child result p (later p)
  at_argument Γ σ t ts a c rest child result (inr (path, fails)) later = inr (child ∷ path, fails_here Γ σ t ts a c rest child path result fails)

  mutual
    pub decide_term : (Γ : Typing) → ShapedTyping kinds Γ → (t : LfTerm) (a : LfType) → ShapedType (shapes_of_kinds kinds) (shapes_of Γ) a → HoldsOrFails (Typed Γ t a) (FailsTerm Γ t a)
    decide_term Γ shaped (lam b) (pi a c) (shaped_pi p q) =
        at_body Γ b a c (decide_term (with_variable a Γ) (ShapedTyping-with_variable kinds Γ a shaped p) b c (subst (λ Δ. ShapedType (shapes_of_kinds kinds) Δ c) (sym (shapes_of-under Γ a)) q))
    decide_term Γ shaped (lam b) (family f results) p = inr ([], fails_lam Γ b f results)
    decide_term Γ shaped (at h ts) (pi a c) p = inr ([], fails_at Γ h ts a c)
    decide_term Γ shaped (at h ts) (family f results) p =
        at_head Γ shaped h ts results f (Γ h) refl
        (λ bs count shaped_bs. decide_spine Γ shaped (shape_size (arrows (shapes_of_types bs) base)) ts bs (shapes_of Γ) stays (Goes-stays (shape_size (arrows (shapes_of_types bs) base)) (shapes_of Γ)) shaped_bs (omega arith) count 0)

    pub decide_spine : (Γ : Typing) → ShapedTyping kinds Γ → (p : ℕ) (ts : Spine) (bs : List LfType) (Θ : Scope) (σ : Replacement) → Goes p Θ (shapes_of Γ) σ →
        ShapedContext (shapes_of_kinds kinds) Θ bs → shape_size (arrows (shapes_of_types bs) base) ≤ p → args_count ts ≡ length bs → (child : ℕ) → HoldsOrFails (TypedSpine Γ σ ts bs) (FailsSpine Γ σ ts bs child)
    decide_spine Γ shaped p no_args [] Θ σ goes shaped_bs small count child = inl typed_none
    decide_spine Γ shaped p no_args (a ∷ rest) Θ σ goes shaped_bs small count child = absurd (omega arith)
    decide_spine Γ shaped p (arg t ts) [] Θ σ goes shaped_bs small count child = absurd (omega arith)
    decide_spine Γ shaped p (arg t ts) (a ∷ rest) Θ σ goes (shaped_entry q qs) small count child =
        let r = total_type p q (shapes_of Γ) σ goes in
        at_argument Γ σ t ts a r.0 rest child r.1 (decide_term Γ shaped t r.0 r.2)
        (λ typed. decide_spine Γ shaped p ts rest (under (shape_of a) Θ) (push t σ)
        (Goes-push p Θ (shapes_of Γ) σ (shape_of a) t goes (subst (Shaped (shapes_of Γ) t) (shape_of-SubstitutedType r.1) (Shaped-Typed typed)) (omega arith))
        qs (omega arith) (omega arith) (suc child))

  at_family : (Γ : Typing) → ShapedTyping kinds Γ → (f : ℕ) (args : Spine) (child : ℕ) (o : Option LfKind) → kinds f ≡ o → HoldsOrFails (Formed kinds Γ (family f args)) (FailsTypeFrom kinds Γ (family f args) child)
  at_family Γ shaped f args child None e = inr ([], fails_family kinds Γ f args child e)
  at_family Γ shaped f args child (Some bs) e = counted (same_number (args_count args) (length bs))
    where
      spine : HoldsOrFails (TypedSpine Γ stays args bs) (FailsSpine Γ stays args bs child) → args_count args ≡ length bs → HoldsOrFails (Formed kinds Γ (family f args)) (FailsTypeFrom kinds Γ (family f args) child)
      spine (inl ps) count = inl (formed_family bs e ps)
      spine (inr (path, fails)) count = inr (path, fails_family_argument kinds Γ f args child bs path e count fails)

      counted : SameOrNot (args_count args) (length bs) → HoldsOrFails (Formed kinds Γ (family f args)) (FailsTypeFrom kinds Γ (family f args) child)
      counted (inr differ) = inr ([], fails_family_count kinds Γ f args child bs e differ)
      counted (inl count) =
          let p = shape_size (arrows (shapes_of_types bs) base) in
          spine (decide_spine Γ shaped p args bs (shapes_of Γ) stays (Goes-stays p (shapes_of Γ)) (ShapedTyping-family kinds Γ shaped f bs e) (omega arith) count child) count

  at_type_rest : (Γ : Typing) (a b : LfType) (child : ℕ) → Formed kinds Γ a → HoldsOrFails (Formed kinds (with_variable a Γ) b) (FailsTypeFrom kinds (with_variable a Γ) b (suc child)) →
      HoldsOrFails (Formed kinds Γ (pi a b)) (FailsTypeFrom kinds Γ (pi a b) child)
  at_type_rest Γ a b child p (inl q) = inl (formed_pi p q)
  at_type_rest Γ a b child p (inr (path, fails)) = inr (path, fails_rest kinds Γ a b child path p fails)

  at_binder : (Γ : Typing) (a b : LfType) (child : ℕ) → HoldsOrFails (Formed kinds Γ a) (FailsType kinds Γ a) →
      (Formed kinds Γ a → HoldsOrFails (Formed kinds (with_variable a Γ) b) (FailsTypeFrom kinds (with_variable a Γ) b (suc child))) → HoldsOrFails (Formed kinds Γ (pi a b)) (FailsTypeFrom kinds Γ (pi a b) child)
  at_binder Γ a b child (inl p) later = at_type_rest Γ a b child p (later p)
  at_binder Γ a b child (inr (path, fails)) later = inr (child ∷ path, fails_binder kinds Γ a b child path fails)

  pub decide_type : (Γ : Typing) → ShapedTyping kinds Γ → (a : LfType) (child : ℕ) → HoldsOrFails (Formed kinds Γ a) (FailsTypeFrom kinds Γ a child)
  decide_type Γ shaped (pi a b) child =
      at_binder Γ a b child (decide_type Γ shaped a 0) (λ formed. decide_type (with_variable a Γ) (ShapedTyping-with_variable kinds Γ a shaped (ShapedType-Formed formed)) b (suc child))
  decide_type Γ shaped (family f args) child = at_family Γ shaped f args child (kinds f) refl

  at_entries : (Γ : Typing) (a : LfType) (rest : Context) (child : ℕ) → Formed kinds Γ a → HoldsOrFails (FormedContext kinds (with_variable a Γ) rest) (FailsContextFrom kinds (with_variable a Γ) rest (suc child)) →
      HoldsOrFails (FormedContext kinds Γ (a ∷ rest)) (FailsContextFrom kinds Γ (a ∷ rest) child)
  at_entries Γ a rest child p (inl q) = inl (formed_entry p q)
  at_entries Γ a rest child p (inr (path, fails)) = inr (path, fails_entries kinds Γ a rest child path p fails)

  at_entry : (Γ : Typing) (a : LfType) (rest : Context) (child : ℕ) → HoldsOrFails (Formed kinds Γ a) (FailsType kinds Γ a) →
      (Formed kinds Γ a → HoldsOrFails (FormedContext kinds (with_variable a Γ) rest) (FailsContextFrom kinds (with_variable a Γ) rest (suc child))) →
      HoldsOrFails (FormedContext kinds Γ (a ∷ rest)) (FailsContextFrom kinds Γ (a ∷ rest) child)
  at_entry Γ a rest child (inl p) later = at_entries Γ a rest child p (later p)
  at_entry Γ a rest child (inr (path, fails)) later = inr (child ∷ path, fails_entry kinds Γ a rest child path fails)

  pub decide_context : (Γ : Typing) → ShapedTyping kinds Γ → (ctx : Context) (child : ℕ) → HoldsOrFails (FormedContext kinds Γ ctx) (FailsContextFrom kinds Γ ctx child)
  decide_context Γ shaped [] child = inl formed_empty
  decide_context Γ shaped (a ∷ rest) child =
      at_entry Γ a rest child (decide_type Γ shaped a 0) (λ formed. decide_context (with_variable a Γ) (ShapedTyping-with_variable kinds Γ a shaped (ShapedType-Formed formed)) rest (suc child))
