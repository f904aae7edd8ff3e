-- What is typed or well formed stays so where more heads and families may occur: so in a signature that grows.
use Rattle.std.proofs.Common.{◌≡◌, ◌≢◌, ℕ, zero, suc, ◌<◌, Option, Some, None, option_map, List, [], ◌∷◌, ◌++◌, All, AllPairs, refl, sym, ap, ◌∙◌, subst, arith}
use Rattle.std.proofs.lemmas.List.Elements.{All-nil, All-append, All-cons, All-weaker, All-get_or}
use Rattle.std.proofs.lemmas.List.Quantifiers.{all_pairs_push}
use Rattle.lf_definitions.specs.Syntax.{LfHead, bound, constant, metavariable, LfTerm, Spine, LfType, Context, LfKind}
use Rattle.lf_definitions.specs.Renaming.{raise_type}
use Rattle.lf_definitions.specs.Substitution.{Replacement}
use Rattle.lf_definitions.specs.Typing.{Typing, with_variable, with_context, Typed, typed_lam, typed_at, TypedSpine, typed_none, typed_arg, Kinds, Formed, formed_pi, formed_family, FormedContext, formed_empty, formed_entry, LfGoal, type_at, kinds_of, typed_globals}
use Rattle.lf_definitions.specs.Signatures.{LfEntry, family_entry, constant_entry, LfSignature, name_of_entry, names_of, family_kinds, constant_types, kinds_in, typing_in, FormedEntry, FormedSignature, formed_nothing, formed_more}

-- What may occur with a type may occur with that type.
abbrev pub TypesGrow : Typing → Typing → Type 0
TypesGrow Γ Δ = (h : LfHead) (a : LfType) → Γ h ≡ Some a → Δ h ≡ Some a

abbrev pub KindsGrow : Kinds → Kinds → Type 0
KindsGrow kinds more = (f : ℕ) (kind : LfKind) → kinds f ≡ Some kind → more f ≡ Some kind

pub TypesGrow-with_variable : (Γ Δ : Typing) (a : LfType) → TypesGrow Γ Δ → TypesGrow (with_variable a Γ) (with_variable a Δ)
TypesGrow-with_variable Γ Δ a grow (bound zero) b e = e
TypesGrow-with_variable Γ Δ a grow (bound (suc n)) b e = older (Γ (bound n)) refl e
  where
    older : (o : Option LfType) → Γ (bound n) ≡ o → option_map raise_type o ≡ Some b → option_map raise_type (Δ (bound n)) ≡ Some b
    older None is e = absurd cc
    older (Some c) is e = ap (option_map raise_type) (grow (bound n) c is) ∙ e
TypesGrow-with_variable Γ Δ a grow (constant c) b e = grow (constant c) b e
TypesGrow-with_variable Γ Δ a grow (metavariable g) b e = grow (metavariable g) b e

pub TypesGrow-with_context : (ctx : Context) (Γ Δ : Typing) → TypesGrow Γ Δ → TypesGrow (with_context ctx Γ) (with_context ctx Δ)
TypesGrow-with_context [] Γ Δ grow = grow
TypesGrow-with_context (a ∷ ctx) Γ Δ grow = TypesGrow-with_context ctx (with_variable a Γ) (with_variable a Δ) (TypesGrow-with_variable Γ Δ a grow)

mutual
  pub Typed-grown : {Γ : Typing} {t : LfTerm} {a : LfType} → Typed Γ t a → (Δ : Typing) → TypesGrow Γ Δ → Typed Δ t a
  Typed-grown (typed_lam {Γ = Γ} {a = a} p) Δ grow = typed_lam (Typed-grown p (with_variable a Δ) (TypesGrow-with_variable Γ Δ a grow))
  Typed-grown (typed_at bs args e ps result) Δ grow = typed_at bs args (grow _ _ e) (TypedSpine-grown ps Δ grow) result

  pub TypedSpine-grown : {Γ : Typing} {σ : Replacement} {ts : Spine} {bs : List LfType} → TypedSpine Γ σ ts bs → (Δ : Typing) → TypesGrow Γ Δ → TypedSpine Δ σ ts bs
  TypedSpine-grown typed_none Δ grow = typed_none
  TypedSpine-grown (typed_arg c result p ps) Δ grow = typed_arg c result (Typed-grown p Δ grow) (TypedSpine-grown ps Δ grow)

pub Formed-grown : {kinds : Kinds} {Γ : Typing} {a : LfType} → Formed kinds Γ a → (more : Kinds) (Δ : Typing) → KindsGrow kinds more → TypesGrow Γ Δ → Formed more Δ a
Formed-grown (formed_pi {Γ = Γ} {a = a} p q) more Δ kinds_grow grow =
    formed_pi (Formed-grown p more Δ kinds_grow grow) (Formed-grown q more (with_variable a Δ) kinds_grow (TypesGrow-with_variable Γ Δ a grow))
Formed-grown (formed_family bs e ps) more Δ kinds_grow grow = formed_family bs (kinds_grow _ _ e) (TypedSpine-grown ps Δ grow)

pub FormedContext-grown : {kinds : Kinds} {Γ : Typing} {ctx : Context} → FormedContext kinds Γ ctx → (more : Kinds) (Δ : Typing) → KindsGrow kinds more → TypesGrow Γ Δ → FormedContext more Δ ctx
FormedContext-grown formed_empty more Δ kinds_grow grow = formed_empty
FormedContext-grown (formed_entry {Γ = Γ} {a = a} p q) more Δ kinds_grow grow =
    formed_entry (Formed-grown p more Δ kinds_grow grow) (FormedContext-grown q more (with_variable a Δ) kinds_grow (TypesGrow-with_variable Γ Δ a grow))

-- A signature that grows has more families and constants.
pub family_kinds-append : (sig more : LfSignature) → family_kinds (sig ++ more) ≡ family_kinds sig ++ family_kinds more
family_kinds-append [] more = refl
family_kinds-append (family_entry name kind ∷ sig) more = ap (λ ks. kind ∷ ks) (family_kinds-append sig more)
family_kinds-append (constant_entry name type ∷ sig) more = family_kinds-append sig more

pub constant_types-append : (sig more : LfSignature) → constant_types (sig ++ more) ≡ constant_types sig ++ constant_types more
constant_types-append [] more = refl
constant_types-append (family_entry name kind ∷ sig) more = constant_types-append sig more
constant_types-append (constant_entry name type ∷ sig) more = ap (λ types. type ∷ types) (constant_types-append sig more)

names_of-append : (sig more : LfSignature) → names_of (sig ++ more) ≡ names_of sig ++ names_of more
names_of-append [] more = refl
names_of-append (entry ∷ sig) more = ap (λ names. name_of_entry entry ∷ names) (names_of-append sig more)

type_at-append : (types more : List LfType) (k : ℕ) (a : LfType) → type_at types k ≡ Some a → type_at (types ++ more) k ≡ Some a
type_at-append [] more k a e = absurd cc
type_at-append (b ∷ types) more zero a e = e
type_at-append (b ∷ types) more (suc k) a e = type_at-append types more k a e

kinds_of-append : (ks more : List LfKind) (f : ℕ) (kind : LfKind) → kinds_of ks f ≡ Some kind → kinds_of (ks ++ more) f ≡ Some kind
kinds_of-append [] more f kind e = absurd cc
kinds_of-append (k ∷ ks) more zero kind e = e
kinds_of-append (k ∷ ks) more (suc f) kind e = kinds_of-append ks more f kind e

TypesGrow-typed_globals : (types more : List LfType) (goals : List LfGoal) → TypesGrow (typed_globals types goals) (typed_globals (types ++ more) goals)
TypesGrow-typed_globals types more goals (bound n) a e = absurd cc
TypesGrow-typed_globals types more goals (constant c) a e = type_at-append types more c a e
TypesGrow-typed_globals types more goals (metavariable g) a e = e

pub TypesGrow-typing_in : (sig more : LfSignature) (goals : List LfGoal) (ctx : Context) → TypesGrow (typing_in sig goals ctx) (typing_in (sig ++ more) goals ctx)
TypesGrow-typing_in sig more goals ctx =
    TypesGrow-with_context ctx (typed_globals (constant_types sig) goals) (typed_globals (constant_types (sig ++ more)) goals)
    (subst (λ types. TypesGrow (typed_globals (constant_types sig) goals) (typed_globals types goals)) (sym (constant_types-append sig more))
    (TypesGrow-typed_globals (constant_types sig) (constant_types more) goals))

pub KindsGrow-kinds_in : (sig more : LfSignature) → KindsGrow (kinds_in sig) (kinds_in (sig ++ more))
KindsGrow-kinds_in sig more f kind e =
    ap (λ ks. kinds_of ks f) (family_kinds-append sig more) ∙ kinds_of-append (family_kinds sig) (family_kinds more) f kind e

pub FormedEntry-grown : (sig more : LfSignature) (entry : LfEntry) → FormedEntry sig entry → FormedEntry (sig ++ more) entry
FormedEntry-grown sig more (family_entry name kind) p = FormedContext-grown p (kinds_in (sig ++ more)) (typing_in (sig ++ more) [] []) (KindsGrow-kinds_in sig more) (TypesGrow-typing_in sig more [] [])
FormedEntry-grown sig more (constant_entry name type) p = Formed-grown p (kinds_in (sig ++ more)) (typing_in (sig ++ more) [] []) (KindsGrow-kinds_in sig more) (TypesGrow-typing_in sig more [] [])

-- In a well-formed signature each entry is well formed over the whole, and the names differ.
pub AllFormed : {sig : LfSignature} → FormedSignature sig → All (FormedEntry sig) sig
AllFormed formed_nothing = All-nil (FormedEntry [])
AllFormed (formed_more sig after entry before new formed is) =
    let whole = sig ++ entry ∷ [] in
    subst (λ s. All (FormedEntry s) s) (sym is)
    (All-append (FormedEntry whole) sig (entry ∷ [])
    (All-weaker (FormedEntry sig) (FormedEntry whole) (λ other p. FormedEntry-grown sig (entry ∷ []) other p) sig (AllFormed before))
    (All-cons (FormedEntry whole) entry [] (FormedEntry-grown sig (entry ∷ []) entry formed) (All-nil (FormedEntry whole))))

pub names_differ : {sig : LfSignature} → FormedSignature sig → AllPairs (λ name other. name ≢ other) (names_of sig)
names_differ formed_nothing = λ i j d less small. absurd (none j small)
  where
    none : (j : ℕ) → j < 0 → ⊥
    none j small = omega arith
names_differ (formed_more sig after entry before new formed is) =
    subst (λ names. AllPairs (λ name other. name ≢ other) names) (sym (ap names_of is ∙ names_of-append sig (entry ∷ [])))
    (all_pairs_push (λ name other. name ≢ other) (names_of sig) (name_of_entry entry) (names_differ before)
    (λ k d small. All-get_or (λ other. other ≢ name_of_entry entry) (names_of sig) k d small new))
