-- The laws of renaming and of substitution.
use Rattle.std.specs.Prelude.{◌≡◌, ◌↔◌, ◌⊎◌, ℕ, suc, ◌+◌, ◌-◌, ◌<◌, List, ◌++◌, length, Some}
use Rattle.lf_definitions.specs.Syntax.{LfHead, bound, constant, metavariable, LfTerm, Spine, LfType, shape_of, SimpleType, base, arrows, args_count, arg_at, joined, term_size, shape_size}
use Rattle.lf_definitions.specs.Renaming.{Renaming, rename, rename_type, next_by, lifted_by}
use Rattle.lf_definitions.specs.Shaping.{Scope, under_all, Shaped, ShapedType, shape_at, ShapedList}
use Rattle.lf_definitions.specs.Substitution.{stays, becomes, rename_image, Replacement, up_by, push_all, Substituted, Substitutes, SubstitutesSpine}
use Rattle.lf_definitions.specs.Expansion.{own_variables, eta}
use Rattle.lf_definitions.specs.Typing.{Typing, Typed, Kinds, Formed, shapes_of, shapes_of_kinds}

-- what a list for the innermost variables outside local binders does to each head
abbrev pub image : Spine → ℕ → Replacement
image sub local = up_by local (push_all sub stays)

-- Local variables stay. Of those outside, number `m - 1 - k` becomes `sub[k]`, and greater numbers fall by `m`, the list's length. Other heads stay.
abbrev pub ImagesAreByNumber : Type 0
ImagesAreByNumber =
    (sub : Spine) (local : ℕ) →
    ((i : ℕ) → i < local → image sub local (bound i) ≡ stays (bound i))
    × ((k : ℕ) (u : LfTerm) → arg_at sub k ≡ Some u → image sub local (bound (local + (args_count sub - suc k))) ≡ becomes (rename (next_by local) u))
    × ((i : ℕ) → image sub local (bound (local + (args_count sub + i))) ≡ stays (bound (local + i)))
    × ((c : ℕ) → image sub local (constant c) ≡ stays (constant c))
    × ((g : ℕ) → image sub local (metavariable g) ≡ stays (metavariable g))

-- the one result of a term
abbrev pub IsResult : Spine → ℕ → LfTerm → LfTerm → Type 0
IsResult sub local t r = Substitutes sub local t r × ((q : LfTerm) → Substitutes sub local t q → q ≡ r)

-- Every shaped substitution has exactly one result, and it is shaped.
abbrev pub ShapedSubstitutionsHaveOneResult : Type 0
ShapedSubstitutionsHaveOneResult =
    (outer : Scope) (inner local : List SimpleType) (s : SimpleType) (t : LfTerm) (sub : Spine) →
    ShapedList outer sub inner → Shaped (under_all local (under_all inner outer)) t s →
    (r : LfTerm) × IsResult sub (length local) t r × Shaped (under_all local outer) r s

-- A list `second` for `b` over `a`, and then a list `first` for `a`, are the one list of `first` and of what `first` makes of `second`.
abbrev pub SubstitutionsCompose : Type 0
SubstitutionsCompose =
    (outer : Scope) (a b local : List SimpleType) (s : SimpleType) (t r q : LfTerm) (first second results : Spine) →
    ShapedList outer first a → ShapedList (under_all a outer) second b → SubstitutesSpine first 0 second results →
    Shaped (under_all local (under_all b (under_all a outer))) t s → Substitutes second (length local) t r →
    Substitutes first (length local) r q ↔ Substitutes (joined first results) (length local) t q

-- A list for `a` under `b`, and then a list for `b` that doesn't speak of `a`, are the one list of both.
abbrev pub SubstitutionsAreSimultaneous : Type 0
SubstitutionsAreSimultaneous =
    (outer : Scope) (a b local : List SimpleType) (s : SimpleType) (t r q : LfTerm) (first second : Spine) →
    ShapedList outer first a → ShapedList outer second b →
    Shaped (under_all local (under_all b (under_all a outer))) t s → Substitutes first (length (b ++ local)) t r →
    Substitutes second (length local) r q ↔ Substitutes (joined first second) (length local) t q

-- Eta-long variables, put for themselves, change nothing: `t` as it is with room made for a second copy of `inner`, with the variables of that copy replaced
-- by those of the first, is `t`.
abbrev pub OwnVariablesChangeNothing : Type 0
OwnVariablesChangeNothing =
    (outer : Scope) (inner local : List SimpleType) (s : SimpleType) (t : LfTerm) → Shaped (under_all local (under_all inner outer)) t s →
    Substitutes (own_variables (arrows inner base)) (length local) (rename (lifted_by (length local) (lifted_by (length inner) (next_by (length inner)))) t) t

-- A term put for an eta-long variable stands in its place.
abbrev pub EtaVariablesBecomeTheirTerms : Type 0
EtaVariablesBecomeTheirTerms =
    (outer : Scope) (inner local : List SimpleType) (k : ℕ) (s : SimpleType) (u : LfTerm) (sub : Spine) →
    ShapedList outer sub inner → shape_at inner k ≡ Some s → arg_at sub k ≡ Some u →
    Substitutes sub (length local) (eta (bound (length local + (args_count sub - suc k))) s) (rename (next_by (length local)) u)

-- Where each head stays under a new number, or its eta-long form under that number is put for it, terms are renamed. (The bound on the shapes of what is put
-- holds where there are finitely many of these.)
abbrev pub EtaFormsRename : Type 0
EtaFormsRename =
    (p : ℕ) (Γ Δ : Scope) (ξ : Renaming) (σ : Replacement) → ((h : LfHead) (s : SimpleType) → Γ h ≡ Some s → Δ (ξ h) ≡ Some s) →
    ((h : LfHead) (s : SimpleType) → Γ h ≡ Some s → (σ h ≡ stays (ξ h)) ⊎ ((σ h ≡ becomes (eta (ξ h) s)) × shape_size s < p)) →
    (t : LfTerm) (s : SimpleType) → Shaped Γ t s → Substituted σ t (rename ξ t)

-- The eta-long form of a head has its shape.
abbrev pub EtaFormsAreShaped : Type 0
EtaFormsAreShaped = (Γ : Scope) (h : LfHead) (s : SimpleType) → Γ h ≡ Some s → Shaped Γ (eta h s) s

-- One renaming after another is a renaming, and the one that changes no head changes no term.
abbrev pub RenamingsCompose : Type 0
RenamingsCompose = ((ζ ξ : Renaming) (t : LfTerm) → rename ζ (rename ξ t) ≡ rename (λ h. ζ (ξ h)) t) × ((t : LfTerm) → rename (λ h. h) t ≡ t)

-- A renaming that keeps the shapes of heads keeps the shapes of terms.
abbrev pub RenamingsKeepShapes : Type 0
RenamingsKeepShapes =
    (ξ : Renaming) (Γ Δ : Scope) → ((h : LfHead) (s : SimpleType) → Γ h ≡ Some s → Δ (ξ h) ≡ Some s) →
    (t : LfTerm) (s : SimpleType) → Shaped Γ t s → Shaped Δ (rename ξ t) s

-- It keeps sizes, and where it gives different heads to different ones it gives different terms to different ones.
abbrev pub RenamingsKeepSizes : Type 0
RenamingsKeepSizes = (ξ : Renaming) (t : LfTerm) → term_size (rename ξ t) ≡ term_size t

abbrev pub RenamingsAreInjective : Type 0
RenamingsAreInjective = (ξ : Renaming) → ((h k : LfHead) → ξ h ≡ ξ k → h ≡ k) → (t u : LfTerm) → rename ξ t ≡ rename ξ u → t ≡ u

-- Where `τ` does to the head that `ξ` makes of a head what `σ` does to that head and `ζ` then to its image, it does so to every term.
abbrev pub SubstitutionsAreRenamed : Type 0
SubstitutionsAreRenamed =
    (ξ ζ : Renaming) (σ τ : Replacement) → ((h : LfHead) → τ (ξ h) ≡ rename_image ζ (σ h)) →
    (t r : LfTerm) → Substituted σ t r → Substituted τ (rename ξ t) (rename ζ r)

-- a renaming of variables alone
abbrev pub variables : (ℕ → ℕ) → Renaming
variables v (bound n) = bound (v n)
variables v (constant c) = constant c
variables v (metavariable g) = metavariable g

-- a type that speaks of no variable
abbrev pub Closed : LfType → Type 0
Closed a = (v : ℕ → ℕ) → rename_type (variables v) a ≡ a

-- A renaming of variables keeps types where each variable's new number has its type, renamed, and the other heads have the same types, which are closed.
abbrev pub KeepsTypes : (ℕ → ℕ) → Typing → Typing → Type 0
KeepsTypes v Γ Δ =
    ((n : ℕ) (a : LfType) → Γ (bound n) ≡ Some a → Δ (bound (v n)) ≡ Some (rename_type (variables v) a))
    × ((c : ℕ) (a : LfType) → Γ (constant c) ≡ Some a → (Δ (constant c) ≡ Some a) × Closed a)
    × ((g : ℕ) (a : LfType) → Γ (metavariable g) ≡ Some a → (Δ (metavariable g) ≡ Some a) × Closed a)

-- Then terms keep their types.
abbrev pub RenamingsKeepTypes : Type 0
RenamingsKeepTypes =
    (v : ℕ → ℕ) (Γ Δ : Typing) → KeepsTypes v Γ Δ → (t : LfTerm) (a : LfType) → Typed Γ t a → Typed Δ (rename (variables v) t) (rename_type (variables v) a)

-- Typed terms are shaped, and so are well-formed types.
abbrev pub TypedTermsAreShaped : Type 0
TypedTermsAreShaped =
    ((Γ : Typing) (t : LfTerm) (a : LfType) → Typed Γ t a → Shaped (shapes_of Γ) t (shape_of a))
    × ((kinds : Kinds) (Γ : Typing) (a : LfType) → Formed kinds Γ a → ShapedType (shapes_of_kinds kinds) (shapes_of Γ) a)
