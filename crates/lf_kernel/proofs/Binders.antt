-- Binders that are well formed one by one, and where one of them fails.
use Rattle.std.proofs.Common.{◌≡◌, ℕ, suc, ◌+◌, ◌<◌, Option, List, [], ◌∷◌, ◌++◌, length, get_or, take, drop, sym, ap, ◌∙◌, subst, subst₂, arith}
use Rattle.lf_definitions.specs.Syntax.{LfType, pis, Context}
use Rattle.lf_definitions.specs.Typing.{Typing, with_variable, with_context, Kinds, Formed, formed_pi, FormedContext, formed_empty, formed_entry}
use Rattle.lf_definitions.specs.Failures.{FailsType, FailsTypeFrom, fails_binder, fails_rest, FailsContextFrom, fails_entry, fails_entries}
use Rattle.lf_terms.specs.declared.ty.Ty.{Ty}
use Rattle.lf_terms.specs.Types.{type_of, types_of}
use Rattle.lf_terms.proofs.ShapeLists.{take_read}
use Rattle.lf_terms.proofs.TypeLists.{length-types_of}
use Rattle.lf_kernel.specs.Checks.{Walks}
use Rattle.lf_kernel.proofs.Paths.{walks_map}
use Rattle.lf_kernel.proofs.Arguments.{types_of-append, length-take_within, split_read}

FormedContext-more : {kinds : Kinds} {Γ : Typing} {ctx : Context} → FormedContext kinds Γ ctx → (a : LfType) → Formed kinds (with_context ctx Γ) a → FormedContext kinds Γ (ctx ++ a ∷ [])
FormedContext-more formed_empty a p = formed_entry p formed_empty
FormedContext-more (formed_entry q qs) a p = formed_entry q (FormedContext-more qs a p)

FailsContext-at : {kinds : Kinds} {Γ : Typing} {ctx : Context} → FormedContext kinds Γ ctx → (a : LfType) (more : Context) (child : ℕ) (path : List ℕ) → FailsType kinds (with_context ctx Γ) a path →
    FailsContextFrom kinds Γ (ctx ++ a ∷ more) child ((child + length ctx) ∷ path)
FailsContext-at {kinds} {Γ} formed_empty a more child path p =
    let here : child ≡ child + 0 = omega arith in
    subst (λ n. FailsContextFrom kinds Γ (a ∷ more) child (n ∷ path)) here (fails_entry kinds Γ a more child path p)
FailsContext-at {kinds} {Γ} (formed_entry {a = b} {rest = rest} q qs) a more child path p =
    let here : suc child + length rest ≡ child + suc (length rest) = omega arith in
    fails_entries kinds Γ b (rest ++ a ∷ more) child ((child + suc (length rest)) ∷ path) q
    (subst (λ n. FailsContextFrom kinds (with_variable b Γ) (rest ++ a ∷ more) (suc child) (n ∷ path)) here (FailsContext-at qs a more (suc child) path p))

-- the binders of a type, and what is under them
pub Formed-pis : {kinds : Kinds} {Γ : Typing} {ctx : Context} → FormedContext kinds Γ ctx → (end : LfType) → Formed kinds (with_context ctx Γ) end → Formed kinds Γ (pis ctx end)
Formed-pis formed_empty end p = p
Formed-pis (formed_entry q qs) end p = formed_pi q (Formed-pis qs end p)

pub FailsType-binders : {kinds : Kinds} {Γ : Typing} {ctx : Context} {child : ℕ} {path : List ℕ} → FailsContextFrom kinds Γ ctx child path → (end : LfType) → FailsTypeFrom kinds Γ (pis ctx end) child path
FailsType-binders (fails_entry kinds Γ a rest child path p) end = fails_binder kinds Γ a (pis rest end) child path p
FailsType-binders (fails_entries kinds Γ a rest child path q p) end = fails_rest kinds Γ a (pis rest end) child path q (FailsType-binders p end)

pub FailsType-pis : {kinds : Kinds} {Γ : Typing} {ctx : Context} → FormedContext kinds Γ ctx → (end : LfType) (child : ℕ) (path : List ℕ) → FailsTypeFrom kinds (with_context ctx Γ) end (child + length ctx) path → FailsTypeFrom kinds Γ (pis ctx end) child path
FailsType-pis {kinds} {Γ} formed_empty end child path p =
    let here : child + 0 ≡ child = omega arith in
    subst (λ n. FailsTypeFrom kinds Γ end n path) here p
FailsType-pis {kinds} {Γ} (formed_entry {a = a} {rest = rest} q qs) end child path p =
    let here : child + suc (length rest) ≡ suc child + length rest = omega arith in
    fails_rest kinds Γ a (pis rest end) child path q (FailsType-pis qs end (suc child) path (subst (λ n. FailsTypeFrom kinds (with_context rest (with_variable a Γ)) end n path) here p))

-- as the code has them
abbrev pub FormedUpTo : Kinds → Typing → List Ty → ℕ → Type 0
FormedUpTo kinds Γ types i = FormedContext kinds Γ (types_of (take i types))

pub formed_more : (kinds : Kinds) (Γ : Typing) (types : List Ty) (i : ℕ) (ty : Ty) → i < length types → ty ≡ get_or types i ty → FormedUpTo kinds Γ types i → Formed kinds (with_context (types_of (take i types)) Γ) (type_of ty) →
    FormedUpTo kinds Γ types (i + 1)
formed_more kinds Γ types i ty within is before p =
    subst (FormedContext kinds Γ) (sym (ap types_of (take_read types i ty within is) ∙ types_of-append (take i types) (ty ∷ []))) (FormedContext-more before (type_of ty) p)

pub binder_fails : (kinds : Kinds) (Γ : Typing) (types : List Ty) (i : ℕ) (ty : Ty) (path : List ℕ) → i < length types → ty ≡ get_or types i ty → FormedUpTo kinds Γ types i → FailsType kinds (with_context (types_of (take i types)) Γ) (type_of ty) path →
    FailsContextFrom kinds Γ (types_of types) 0 (i ∷ path)
binder_fails kinds Γ types i ty path within is before p =
    let prefix = take i types in
    let here : 0 + length (types_of prefix) ≡ i = omega (arith, length-types_of prefix, length-take_within types i (omega arith)) in
    subst₂ (λ ctx n. FailsContextFrom kinds Γ ctx 0 (n ∷ path))
    (sym (ap types_of (split_read types i ty within is) ∙ types_of-append prefix (ty ∷ drop (suc i) types))) here
    (FailsContext-at before (type_of ty) (types_of (drop (suc i) types)) 0 path p)

-- a walk over what is under the binders is one over the type
pub type_walk : (kinds : Kinds) (Γ : Typing) (types : List Ty) (binders : Context) (end : LfType) → types_of types ≡ binders → FormedContext kinds Γ (types_of types) → (r : Option (List ℕ)) →
    Walks (Formed kinds (with_context (types_of types) Γ) end) (FailsTypeFrom kinds (with_context (types_of types) Γ) end (length types)) r → Walks (Formed kinds Γ (pis binders end)) (FailsType kinds Γ (pis binders end)) r
type_walk kinds Γ types binders end are formed r w =
    subst (λ bs. Walks (Formed kinds Γ (pis bs end)) (FailsType kinds Γ (pis bs end)) r) are
    (walks_map (Formed kinds (with_context (types_of types) Γ) end) (Formed kinds Γ (pis (types_of types) end)) (FailsTypeFrom kinds (with_context (types_of types) Γ) end (length types)) (FailsType kinds Γ (pis (types_of types) end))
    (λ p. Formed-pis formed end p)
    (λ path p. let here : length types ≡ 0 + length (types_of types) = omega (arith, length-types_of types) in
    FailsType-pis formed end 0 path (subst (λ n. FailsTypeFrom kinds (with_context (types_of types) Γ) end n path) here p))
    r w)
