-- The arguments of a spine against binders that rise: one more is typed, or one fails.
use Rattle.std.proofs.Common.{◌≡◌, ℕ, zero, suc, ◌+◌, ◌<◌, ◌≤◌, List, [], ◌∷◌, ◌++◌, length, get_or, take, drop, refl, sym, ap, ◌∙◌, subst, subst₂, arith, take_all}
use Rattle.lf_definitions.specs.Syntax.{arg, LfType, Context, joined}
use Rattle.lf_definitions.specs.Renaming.{Renaming, lifted, lifted_by, rename_type, rename_context}
use Rattle.lf_definitions.specs.Substitution.{stays, push_all, SubstitutedType}
use Rattle.lf_definitions.specs.Typing.{Typing, Typed, TypedSpine, typed_none}
use Rattle.lf_definitions.specs.Failures.{FailsTerm, FailsSpine}
use Rattle.lf_definitions.proofs.TypedSpines.{TypedSpine-more, FailsSpine-at, SubstitutedType-renamed_outside, rename_context-append}
use Rattle.lf_terms.specs.declared.term.Term.{Term}
use Rattle.lf_terms.specs.Terms.{term_of, spine_of}
use Rattle.lf_terms.specs.declared.ty.Ty.{Ty}
use Rattle.lf_terms.specs.Types.{type_of, types_of}
use Rattle.lf_terms.proofs.Spines.{args_count-spine_of, take_more_spine}
use Rattle.lf_terms.proofs.ShapeLists.{take_read}
use Rattle.lf_terms.proofs.TypeLists.{length-types_of}

pub types_of-append : (types more : List Ty) → types_of (types ++ more) ≡ types_of types ++ types_of more
types_of-append [] more = refl
types_of-append (t ∷ types) more = ap (λ rest. type_of t ∷ rest) (types_of-append types more)

spine_of-joined : (terms more : List Term) → spine_of (terms ++ more) ≡ joined (spine_of terms) (spine_of more)
spine_of-joined [] more = refl
spine_of-joined (t ∷ terms) more = ap (arg (term_of t)) (spine_of-joined terms more)

pub length-take_within : {X : Type 0} (xs : List X) (i : ℕ) → i ≤ length xs → length (take i xs) ≡ i
length-take_within xs zero within = refl
length-take_within [] (suc i) within = absurd (omega arith)
length-take_within (x ∷ xs) (suc i) within = ap suc (length-take_within xs i (omega arith))

pub split_read : {X : Type 0} (xs : List X) (i : ℕ) (x : X) → i < length xs → x ≡ get_or xs i x → xs ≡ take i xs ++ x ∷ drop (suc i) xs
split_read [] i x within is = absurd (omega arith)
split_read (y ∷ xs) zero x within is = ap (λ z. z ∷ xs) (sym is)
split_read (y ∷ xs) (suc i) x within is = ap (λ rest. y ∷ rest) (split_read xs i x (omega arith) is)

-- the binders as they are seen from where the spine stands
abbrev pub raised : Renaming → List Ty → Context
raised ξ types = rename_context ξ (types_of types)

raised-split : (ξ : Renaming) (types : List Ty) (i : ℕ) (ty : Ty) → i < length types → ty ≡ get_or types i ty →
    raised ξ types ≡ raised ξ (take i types) ++ rename_type (lifted_by i ξ) (type_of ty) ∷ rename_context (lifted (lifted_by i ξ)) (types_of (drop (suc i) types))
raised-split ξ types i ty within is =
    let prefix = take i types in
    ap (raised ξ) (split_read types i ty within is) ∙ ap (rename_context ξ) (types_of-append prefix (ty ∷ drop (suc i) types))
    ∙ rename_context-append (types_of prefix) (types_of (ty ∷ drop (suc i) types)) ξ
    ∙ ap (λ n. raised ξ prefix ++ rename_type (lifted_by n ξ) (type_of ty) ∷ rename_context (lifted (lifted_by n ξ)) (types_of (drop (suc i) types)))
    (length-types_of prefix ∙ length-take_within types i (omega arith))

raised-more : (ξ : Renaming) (types : List Ty) (i : ℕ) (ty : Ty) → i < length types → ty ≡ get_or types i ty →
    raised ξ (take (i + 1) types) ≡ raised ξ (take i types) ++ rename_type (lifted_by i ξ) (type_of ty) ∷ []
raised-more ξ types i ty within is =
    let prefix = take i types in
    ap (raised ξ) (take_read types i ty within is) ∙ ap (rename_context ξ) (types_of-append prefix (ty ∷ []))
    ∙ rename_context-append (types_of prefix) (types_of (ty ∷ [])) ξ
    ∙ ap (λ n. raised ξ prefix ++ rename_type (lifted_by n ξ) (type_of ty) ∷ []) (length-types_of prefix ∙ length-take_within types i (omega arith))

-- what the arguments before this one were found to be
abbrev pub TypedUpTo : Typing → Renaming → List Term → List Ty → ℕ → Type 0
TypedUpTo Γ ξ terms types i = TypedSpine Γ stays (spine_of (take i terms)) (raised ξ (take i types))

seen_result : (ξ : Renaming) (terms : List Term) (i : ℕ) (a c : LfType) → i ≤ length terms → SubstitutedType (push_all (spine_of (take i terms)) (λ h. stays (ξ h))) a c →
    SubstitutedType (push_all (spine_of (take i terms)) stays) (rename_type (lifted_by i ξ) a) c
seen_result ξ terms i a c within result =
    subst (λ n. SubstitutedType (push_all (spine_of (take i terms)) stays) (rename_type (lifted_by n ξ) a) c)
    (args_count-spine_of (take i terms) ∙ length-take_within terms i within)
    (SubstitutedType-renamed_outside (spine_of (take i terms)) ξ a c result)

pub typed_more : (Γ : Typing) (ξ : Renaming) (terms : List Term) (types : List Ty) (i : ℕ) (t : Term) (ty : Ty) (c : LfType) → i < length terms → length terms ≡ length types →
    t ≡ get_or terms i t → ty ≡ get_or types i ty → TypedUpTo Γ ξ terms types i →
    SubstitutedType (push_all (spine_of (take i terms)) (λ h. stays (ξ h))) (type_of ty) c → Typed Γ (term_of t) c → TypedUpTo Γ ξ terms types (i + 1)
typed_more Γ ξ terms types i t ty c within same t_is ty_is before result typed =
    subst₂ (TypedSpine Γ stays) (sym (take_more_spine terms i t within t_is)) (sym (raised-more ξ types i ty (omega arith) ty_is))
    (TypedSpine-more before (term_of t) (rename_type (lifted_by i ξ) (type_of ty)) c (seen_result ξ terms i (type_of ty) c (omega arith) result) typed)

pub argument_fails : (Γ : Typing) (ξ : Renaming) (terms : List Term) (types : List Ty) (i : ℕ) (t : Term) (ty : Ty) (c : LfType) (first : ℕ) (path : List ℕ) → i < length terms → length terms ≡ length types →
    t ≡ get_or terms i t → ty ≡ get_or types i ty → TypedUpTo Γ ξ terms types i →
    SubstitutedType (push_all (spine_of (take i terms)) (λ h. stays (ξ h))) (type_of ty) c → FailsTerm Γ (term_of t) c path →
    FailsSpine Γ stays (spine_of terms) (raised ξ types) first ((first + i) ∷ path)
argument_fails Γ ξ terms types i t ty c first path within same t_is ty_is before result fails =
    let prefix = take i terms in
    let whole : joined (spine_of prefix) (arg (term_of t) (spine_of (drop (suc i) terms))) ≡ spine_of terms =
    sym (ap spine_of (split_read terms i t within t_is) ∙ spine_of-joined prefix (t ∷ drop (suc i) terms)) in
    subst₂ (λ ts bs. FailsSpine Γ stays ts bs first ((first + i) ∷ path)) whole (sym (raised-split ξ types i ty (omega arith) ty_is))
    (subst (λ n. FailsSpine Γ stays (joined (spine_of prefix) (arg (term_of t) (spine_of (drop (suc i) terms)))) (raised ξ (take i types) ++ rename_type (lifted_by i ξ) (type_of ty) ∷ rename_context (lifted (lifted_by i ξ)) (types_of (drop (suc i) types))) first ((first + n) ∷ path))
    (args_count-spine_of prefix ∙ length-take_within terms i (omega arith))
    (FailsSpine-at before (term_of t) (rename_type (lifted_by i ξ) (type_of ty)) c (seen_result ξ terms i (type_of ty) c (omega arith) result)
    (spine_of (drop (suc i) terms)) (rename_context (lifted (lifted_by i ξ)) (types_of (drop (suc i) types))) first path fails))

pub typed_start : (Γ : Typing) (ξ : Renaming) (terms : List Term) (types : List Ty) → TypedUpTo Γ ξ terms types 0
typed_start Γ ξ terms types = typed_none

pub typed_end : (Γ : Typing) (ξ : Renaming) (terms : List Term) (types : List Ty) (i : ℕ) → length terms ≤ i → length terms ≡ length types → TypedUpTo Γ ξ terms types i →
    TypedSpine Γ stays (spine_of terms) (raised ξ types)
typed_end Γ ξ terms types i past same typed =
    subst₂ (λ ts bs. TypedSpine Γ stays (spine_of ts) (raised ξ bs)) (take_all i terms past) (take_all i types (omega arith)) typed
