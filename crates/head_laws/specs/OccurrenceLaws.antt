-- The laws of where heads occur: it is decided, renamings and replacements look at no other head, and no other head comes into a result.
use Rattle.std.specs.Prelude.{◌≡◌, ◌↔◌, IsTrue}
use Rattle.lf_definitions.specs.Syntax.{LfHead, LfTerm, Spine, LfType, Context}
use Rattle.lf_definitions.specs.Renaming.{Renaming, rename, rename_spine, rename_type, rename_context}
use Rattle.lf_definitions.specs.Occurrence.{OccursIn, OccursInSpine, OccursInType, OccursInContext, OccursRigidly, OccursRigidlyInSpine}
use Rattle.lf_definitions.specs.Substitution.{Replacement, stays, Substituted, SubstitutedSpine, SubstitutedType, SubstitutedContext}
use Rattle.head_laws.specs.Mentions.{same_head, occurs_in, occurs_in_spine, occurs_in_type, occurs_in_context, occurs_rigidly, occurs_rigidly_in_spine, ComesFrom}

-- Whether heads are the same, whether a head occurs, and whether it does so rigidly, is decided by truth values.
abbrev pub OccurrenceIsDecided : Type 0
OccurrenceIsDecided =
    ((h k : LfHead) → IsTrue (same_head h k) ↔ h ≡ k)
    × ((h : LfHead) (t : LfTerm) → IsTrue (occurs_in h t) ↔ OccursIn h t)
    × ((h : LfHead) (ts : Spine) → IsTrue (occurs_in_spine h ts) ↔ OccursInSpine h ts)
    × ((h : LfHead) (a : LfType) → IsTrue (occurs_in_type h a) ↔ OccursInType h a)
    × ((h : LfHead) (ctx : Context) → IsTrue (occurs_in_context h ctx) ↔ OccursInContext h ctx)
    × ((h : LfHead) (t : LfTerm) → IsTrue (occurs_rigidly h t) ↔ OccursRigidly h t)
    × ((h : LfHead) (ts : Spine) → IsTrue (occurs_rigidly_in_spine h ts) ↔ OccursRigidlyInSpine h ts)

-- Renamings that agree on the heads that occur give the same.
abbrev pub RenamingsAgree : Type 0
RenamingsAgree =
    (ξ ζ : Renaming) →
    ((t : LfTerm) → ((h : LfHead) → OccursIn h t → ξ h ≡ ζ h) → rename ξ t ≡ rename ζ t)
    × ((ts : Spine) → ((h : LfHead) → OccursInSpine h ts → ξ h ≡ ζ h) → rename_spine ξ ts ≡ rename_spine ζ ts)
    × ((a : LfType) → ((h : LfHead) → OccursInType h a → ξ h ≡ ζ h) → rename_type ξ a ≡ rename_type ζ a)
    × ((ctx : Context) → ((h : LfHead) → OccursInContext h ctx → ξ h ≡ ζ h) → rename_context ξ ctx ≡ rename_context ζ ctx)

-- What occurs in a renamed term is what a head that occurs in the term became.
abbrev pub OccurrencesAreRenamed : Type 0
OccurrencesAreRenamed =
    (ξ : Renaming) (h : LfHead) →
    ((t : LfTerm) → OccursIn h (rename ξ t) ↔ (k : LfHead) × OccursIn k t × (h ≡ ξ k))
    × ((ts : Spine) → OccursInSpine h (rename_spine ξ ts) ↔ (k : LfHead) × OccursInSpine k ts × (h ≡ ξ k))
    × ((a : LfType) → OccursInType h (rename_type ξ a) ↔ (k : LfHead) × OccursInType k a × (h ≡ ξ k))
    × ((ctx : Context) → OccursInContext h (rename_context ξ ctx) ↔ (k : LfHead) × OccursInContext k ctx × (h ≡ ξ k))

-- Replacements that agree on the heads that occur have the same results.
abbrev pub ReplacementsAgree : Type 0
ReplacementsAgree =
    (σ τ : Replacement) →
    ((t r : LfTerm) → ((h : LfHead) → OccursIn h t → σ h ≡ τ h) → Substituted σ t r → Substituted τ t r)
    × ((ts rs : Spine) → ((h : LfHead) → OccursInSpine h ts → σ h ≡ τ h) → SubstitutedSpine σ ts rs → SubstitutedSpine τ ts rs)
    × ((a b : LfType) → ((h : LfHead) → OccursInType h a → σ h ≡ τ h) → SubstitutedType σ a b → SubstitutedType τ a b)
    × ((ctx results : Context) → ((h : LfHead) → OccursInContext h ctx → σ h ≡ τ h) → SubstitutedContext σ ctx results → SubstitutedContext τ ctx results)

-- Where each head that occurs stays, nothing changes.
abbrev pub UnreplacedTermsStay : Type 0
UnreplacedTermsStay =
    (σ : Replacement) →
    ((t : LfTerm) → ((h : LfHead) → OccursIn h t → σ h ≡ stays h) → Substituted σ t t)
    × ((ts : Spine) → ((h : LfHead) → OccursInSpine h ts → σ h ≡ stays h) → SubstitutedSpine σ ts ts)
    × ((a : LfType) → ((h : LfHead) → OccursInType h a → σ h ≡ stays h) → SubstitutedType σ a a)
    × ((ctx : Context) → ((h : LfHead) → OccursInContext h ctx → σ h ≡ stays h) → SubstitutedContext σ ctx ctx)

-- What occurs in a result comes from the image of a head that occurs in what was replaced in.
abbrev pub ResultsMention : Type 0
ResultsMention =
    (σ : Replacement) (h : LfHead) →
    ((t r : LfTerm) → Substituted σ t r → OccursIn h r → (k : LfHead) × OccursIn k t × ComesFrom h (σ k))
    × ((ts rs : Spine) → SubstitutedSpine σ ts rs → OccursInSpine h rs → (k : LfHead) × OccursInSpine k ts × ComesFrom h (σ k))
    × ((a b : LfType) → SubstitutedType σ a b → OccursInType h b → (k : LfHead) × OccursInType k a × ComesFrom h (σ k))
    × ((ctx results : Context) → SubstitutedContext σ ctx results → OccursInContext h results → (k : LfHead) × OccursInContext k ctx × ComesFrom h (σ k))
