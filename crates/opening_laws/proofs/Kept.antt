-- The kept entries of a context: heads among them, as they are seen from all, and back.
use Rattle.std.proofs.Common.{◌≡◌, ℕ, zero, suc, ◌+◌, ◌-◌, ◌<◌, ◌⊎◌, inl, inr, Bool, true, false, not, Option, Some, if◌then◌else◌, List, [], ◌∷◌, length, refl, sym, ap, ap₂, ◌∙◌, subst, arith}
use mathlib.Core.Path.{fun_ext}
use Rattle.lf_definitions.specs.Syntax.{LfHead, bound, constant, metavariable, SimpleType, LfType, Context, shape_of, shapes_of_types}
use Rattle.lf_definitions.specs.Renaming.{next, extended, Renaming, lifted, next_by, rename_type}
use Rattle.lf_definitions.specs.Shaping.{Scope, under, under_all, ShapedType}
use Rattle.lf_definitions.specs.ShapedGoals.{ShapedContext, shaped_empty, shaped_entry}
use Rattle.lf_definitions.specs.Typing.{type_at}
use Rattle.lf_definitions.proofs.Renaming.{extended-next, each_head, after, lifted-after, same_head, lifted-same_head, rename_type-rename_type, rename_type-same_head}
use Rattle.lf_definitions.proofs.Types.{shape_of-rename_type}
use Rattle.lf_definitions.proofs.Unrenaming.{ShapedType-unrenamed}
use Rattle.lf_definitions.proofs.Telescopes.{next_by-bound, under_all-next_by_length}
use Rattle.head_laws.proofs.Heads.{lifted-next}
use Rattle.head_laws.proofs.Occurrence.{rename_type-agree}
use Rattle.opening_laws.specs.Openings.{context_variable, is_kept, keeping, returning, AreKept, kept_nothing, kept_entry, dropped_entry}
use Rattle.opening_laws.specs.Conditions.{is_dropped, MentionsNone}

pub returning-keeping : (kept : List ℕ) (n : ℕ) (h : LfHead) → returning kept n (keeping kept n h) ≡ h
returning-keeping kept zero h = refl
returning-keeping kept (suc n) h = step (is_kept kept n) (returning-keeping kept n)
  where
    step : (b : Bool) → ((k : LfHead) → returning kept n (keeping kept n k) ≡ k) →
        (if b then lifted (returning kept n) else extended (bound zero) (returning kept n)) ((if b then lifted (keeping kept n) else (λ k. next (keeping kept n k))) h) ≡ h
    step true same = lifted-after (returning kept n) (keeping kept n) h ∙ ap (λ θ. lifted θ h) (fun_ext same) ∙ lifted-same_head h
    step false same = extended-next (bound zero) (returning kept n) (keeping kept n h) ∙ same h

pub keeping-returning : (kept : List ℕ) (n : ℕ) (h : LfHead) → is_dropped kept n h ≡ false → keeping kept n (returning kept n h) ≡ h
keeping-returning kept zero h e = refl
keeping-returning kept (suc n) h e = step (is_kept kept n) (keeping-returning kept n) h e
  where
    step : (b : Bool) → ((k : LfHead) → is_dropped kept n k ≡ false → keeping kept n (returning kept n k) ≡ k) → (k : LfHead) → extended (not b) (is_dropped kept n) k ≡ false →
        (if b then lifted (keeping kept n) else (λ k. next (keeping kept n k))) ((if b then lifted (returning kept n) else extended (bound zero) (returning kept n)) k) ≡ k
    step true same =
        each_head (λ k. extended false (is_dropped kept n) k ≡ false → lifted (keeping kept n) (lifted (returning kept n) k) ≡ k)
        (λ f. refl)
        (λ k f. ap (lifted (keeping kept n)) (lifted-next (returning kept n) k) ∙ lifted-next (keeping kept n) (returning kept n k)
        ∙ ap next (same k (sym (extended-next false (is_dropped kept n) k) ∙ f)))
    step false same =
        each_head (λ k. extended true (is_dropped kept n) k ≡ false → next (keeping kept n (extended (bound zero) (returning kept n) k)) ≡ k)
        (λ f. absurd cc)
        (λ k f. ap (λ x. next (keeping kept n x)) (extended-next (bound zero) (returning kept n) k) ∙ ap next (same k (sym (extended-next true (is_dropped kept n) k) ∙ f)))

-- Variables are seen as variables, and metavariables as themselves.
pub keeping-bound : (kept : List ℕ) (count n : ℕ) → (j : ℕ) × (keeping kept count (bound n) ≡ bound j)
keeping-bound kept zero n = (n, refl)
keeping-bound kept (suc count) n = step (is_kept kept count) n (keeping-bound kept count)
  where
    step : (b : Bool) (n : ℕ) → ((m : ℕ) → (j : ℕ) × (keeping kept count (bound m) ≡ bound j)) → (j : ℕ) × ((if b then lifted (keeping kept count) else (λ h. next (keeping kept count h))) (bound n) ≡ bound j)
    step true zero before = (zero, refl)
    step true (suc n) before = let r = before n in (suc r.0, ap next r.1)
    step false n before = let r = before n in (suc r.0, ap next r.1)

pub keeping-metavariable : (kept : List ℕ) (count g : ℕ) → keeping kept count (metavariable g) ≡ metavariable g
keeping-metavariable kept zero g = refl
keeping-metavariable kept (suc count) g = step (is_kept kept count) (keeping-metavariable kept count g)
  where
    step : (b : Bool) → keeping kept count (metavariable g) ≡ metavariable g → (if b then lifted (keeping kept count) else (λ h. next (keeping kept count h))) (metavariable g) ≡ metavariable g
    step true e = ap next e
    step false e = ap next e

pub keeping-constant : (kept : List ℕ) (count c : ℕ) → keeping kept count (constant c) ≡ constant c
keeping-constant kept zero c = refl
keeping-constant kept (suc count) c = step (is_kept kept count) (keeping-constant kept count c)
  where
    step : (b : Bool) → keeping kept count (constant c) ≡ constant c → (if b then lifted (keeping kept count) else (λ h. next (keeping kept count h))) (constant c) ≡ constant c
    step true e = ap next e
    step false e = ap next e

pub is_dropped-constant : (kept : List ℕ) (n c : ℕ) → is_dropped kept n (constant c) ≡ false
is_dropped-constant kept zero c = refl
is_dropped-constant kept (suc n) c = is_dropped-constant kept n c

-- and on the way back
pub returning-bound : (kept : List ℕ) (count n : ℕ) → (j : ℕ) × (returning kept count (bound n) ≡ bound j)
returning-bound kept zero n = (n, refl)
returning-bound kept (suc count) n = step (is_kept kept count) n (returning-bound kept count)
  where
    step : (b : Bool) (n : ℕ) → ((m : ℕ) → (j : ℕ) × (returning kept count (bound m) ≡ bound j)) → (j : ℕ) × ((if b then lifted (returning kept count) else extended (bound zero) (returning kept count)) (bound n) ≡ bound j)
    step true zero before = (zero, refl)
    step true (suc n) before = let r = before n in (suc r.0, ap next r.1)
    step false zero before = (zero, refl)
    step false (suc n) before = before n

pub returning-constant : (kept : List ℕ) (count c : ℕ) → returning kept count (constant c) ≡ constant c
returning-constant kept zero c = refl
returning-constant kept (suc count) c = step (is_kept kept count) (returning-constant kept count c)
  where
    step : (b : Bool) → returning kept count (constant c) ≡ constant c → (if b then lifted (returning kept count) else extended (bound zero) (returning kept count)) (constant c) ≡ constant c
    step true e = ap next e
    step false e = e

pub returning-metavariable : (kept : List ℕ) (count g : ℕ) → returning kept count (metavariable g) ≡ metavariable g
returning-metavariable kept zero g = refl
returning-metavariable kept (suc count) g = step (is_kept kept count) (returning-metavariable kept count g)
  where
    step : (b : Bool) → returning kept count (metavariable g) ≡ metavariable g → (if b then lifted (returning kept count) else extended (bound zero) (returning kept count)) (metavariable g) ≡ metavariable g
    step true e = ap next e
    step false e = e

-- no head among the kept ones is dropped
pub is_dropped-keeping : (kept : List ℕ) (n : ℕ) (h : LfHead) → is_dropped kept n (keeping kept n h) ≡ false
is_dropped-keeping kept zero h = refl
is_dropped-keeping kept (suc n) h = step (is_kept kept n) (is_dropped-keeping kept n) h
  where
    step : (b : Bool) → ((k : LfHead) → is_dropped kept n (keeping kept n k) ≡ false) → (k : LfHead) →
        extended (not b) (is_dropped kept n) ((if b then lifted (keeping kept n) else (λ k. next (keeping kept n k))) k) ≡ false
    step true kept_below =
        each_head (λ k. extended false (is_dropped kept n) (lifted (keeping kept n) k) ≡ false) refl
        (λ k. ap (extended false (is_dropped kept n)) (lifted-next (keeping kept n) k) ∙ extended-next false (is_dropped kept n) (keeping kept n k) ∙ kept_below k)
    step false kept_below = λ k. extended-next true (is_dropped kept n) (keeping kept n k) ∙ kept_below k

pub is_dropped-metavariable : (kept : List ℕ) (n g : ℕ) → is_dropped kept n (metavariable g) ≡ false
is_dropped-metavariable kept zero g = refl
is_dropped-metavariable kept (suc n) g = is_dropped-metavariable kept n g

less_or_last : (m n : ℕ) → m < suc n → (m ≡ n) ⊎ (m < n)
less_or_last m n small = grind arith

pub is_dropped-context_variable : (kept : List ℕ) (n place : ℕ) → place < n → is_dropped kept n (context_variable n place) ≡ not (is_kept kept place)
is_dropped-context_variable kept zero place small = absurd (omega (arith, small))
is_dropped-context_variable kept (suc n) place small = step (less_or_last place n small) (is_dropped-context_variable kept n place)
  where
    step : (place ≡ n) ⊎ (place < n) → (place < n → is_dropped kept n (context_variable n place) ≡ not (is_kept kept place)) →
        extended (not (is_kept kept n)) (is_dropped kept n) (bound (suc n - suc place)) ≡ not (is_kept kept place)
    step (inl e) later =
        let here : suc n - suc place ≡ zero = omega (arith, e) in
        ap (λ m. extended (not (is_kept kept n)) (is_dropped kept n) (bound m)) here ∙ ap (λ m. not (is_kept kept m)) (sym e)
    step (inr less) later =
        let there : suc n - suc place ≡ suc (n - suc place) = omega (arith, less) in
        ap (λ m. extended (not (is_kept kept n)) (is_dropped kept n) (bound m)) there ∙ later less

-- types among the kept entries, and types that mention no dropped one
pub returning_type : (kept : List ℕ) (n : ℕ) (b : LfType) → rename_type (returning kept n) (rename_type (keeping kept n) b) ≡ b
returning_type kept n b =
    rename_type-rename_type b (returning kept n) (keeping kept n) ∙ ap (λ θ. rename_type θ b) (fun_ext (returning-keeping kept n)) ∙ rename_type-same_head b

pub keeping_type_inj : (kept : List ℕ) (n : ℕ) (b c : LfType) → rename_type (keeping kept n) b ≡ rename_type (keeping kept n) c → b ≡ c
keeping_type_inj kept n b c e = sym (returning_type kept n b) ∙ ap (rename_type (returning kept n)) e ∙ returning_type kept n c

pub keeping_type : (kept : List ℕ) (n : ℕ) (a : LfType) → MentionsNone (is_dropped kept n) a → rename_type (keeping kept n) (rename_type (returning kept n) a) ≡ a
keeping_type kept n a clean =
    rename_type-rename_type a (keeping kept n) (returning kept n)
    ∙ rename_type-agree a (after (keeping kept n) (returning kept n)) same_head (λ h o. keeping-returning kept n h (clean h o))
    ∙ rename_type-same_head a

-- A renaming gives each head one of its shape.
abbrev pub SameShapes : Renaming → Scope → Scope → Type 0
SameShapes ξ Γ Δ = (h : LfHead) → Δ (ξ h) ≡ Γ h

same_lifted : (ξ : Renaming) (Γ Δ : Scope) (s : SimpleType) → SameShapes ξ Γ Δ → SameShapes (lifted ξ) (under s Γ) (under s Δ)
same_lifted ξ Γ Δ s same =
    each_head (λ h. under s Δ (lifted ξ h) ≡ under s Γ h) refl
    (λ h. ap (under s Δ) (lifted-next ξ h) ∙ extended-next (Some s) Δ (ξ h) ∙ same h ∙ sym (extended-next (Some s) Γ h))

same_entry : (kept : List ℕ) (place : ℕ) (a b : LfType) (Γ Δ : Scope) → is_kept kept place ≡ true → rename_type (keeping kept place) b ≡ a → SameShapes (keeping kept place) Γ Δ →
    SameShapes (keeping kept (suc place)) (under (shape_of b) Γ) (under (shape_of a) Δ)
same_entry kept place a b Γ Δ is e same =
    let shape : shape_of b ≡ shape_of a = sym (shape_of-rename_type b (keeping kept place)) ∙ ap shape_of e in
    subst (λ c. SameShapes (if c then lifted (keeping kept place) else (λ h. next (keeping kept place h))) (under (shape_of b) Γ) (under (shape_of a) Δ)) (sym is)
    (subst (λ s. SameShapes (lifted (keeping kept place)) (under (shape_of b) Γ) (under s Δ)) shape (same_lifted (keeping kept place) Γ Δ (shape_of b) same))

same_dropped : (kept : List ℕ) (place : ℕ) (s : SimpleType) (Γ Δ : Scope) → is_kept kept place ≡ false → SameShapes (keeping kept place) Γ Δ → SameShapes (keeping kept (suc place)) Γ (under s Δ)
same_dropped kept place s Γ Δ is same =
    subst (λ c. SameShapes (if c then lifted (keeping kept place) else (λ h. next (keeping kept place h))) Γ (under s Δ)) (sym is)
    (λ h. extended-next (Some s) Δ (keeping kept place h) ∙ same h)

pub shifted : (m n : ℕ) → suc m + n ≡ m + suc n
shifted m n = omega arith

pub same_kept : {kept : List ℕ} {place : ℕ} {ctx entries : Context} → AreKept kept place ctx entries → (Γ Δ : Scope) → SameShapes (keeping kept place) Γ Δ →
    SameShapes (keeping kept (place + length ctx)) (under_all (shapes_of_types entries) Γ) (under_all (shapes_of_types ctx) Δ)
same_kept {kept} (kept_nothing {place = place}) Γ Δ same =
    let here : place ≡ place + 0 = omega arith in
    subst (λ n. SameShapes (keeping kept n) Γ Δ) here same
same_kept {kept} (kept_entry {place = place} {a = a} {b = b} {ctx = ctx} {entries = entries} is e rest) Γ Δ same =
    subst (λ n. SameShapes (keeping kept n) (under_all (shapes_of_types entries) (under (shape_of b) Γ)) (under_all (shapes_of_types ctx) (under (shape_of a) Δ))) (shifted place (length ctx))
    (same_kept rest (under (shape_of b) Γ) (under (shape_of a) Δ) (same_entry kept place a b Γ Δ is e same))
same_kept {kept} (dropped_entry {place = place} {a = a} {ctx = ctx} {entries = entries} is rest) Γ Δ same =
    subst (λ n. SameShapes (keeping kept n) (under_all (shapes_of_types entries) Γ) (under_all (shapes_of_types ctx) (under (shape_of a) Δ))) (shifted place (length ctx))
    (same_kept rest Γ (under (shape_of a) Δ) (same_dropped kept place (shape_of a) Γ Δ is same))

pub shaped_kept : {kept : List ℕ} {place : ℕ} {ctx entries : Context} → AreKept kept place ctx entries → (kinds : ℕ → Option SimpleType) (Γ Δ : Scope) → SameShapes (keeping kept place) Γ Δ →
    ShapedContext kinds Δ ctx → ShapedContext kinds Γ entries
shaped_kept kept_nothing kinds Γ Δ same shaped = shaped_empty
shaped_kept {kept} (kept_entry {place = place} {a = a} {b = b} is e rest) kinds Γ Δ same (shaped_entry p ps) =
    shaped_entry (ShapedType-unrenamed b (keeping kept place) Γ Δ (λ h s f. sym (same h) ∙ f) (subst (ShapedType kinds Δ) (sym e) p))
    (shaped_kept rest kinds (under (shape_of b) Γ) (under (shape_of a) Δ) (same_entry kept place a b Γ Δ is e same) ps)
shaped_kept {kept} (dropped_entry {place = place} {a = a} is rest) kinds Γ Δ same (shaped_entry p ps) =
    shaped_kept rest kinds Γ (under (shape_of a) Δ) (same_dropped kept place (shape_of a) Γ Δ is same) ps

-- the entries at the kept places
abbrev HasKept : List ℕ → ℕ → Context → Type 0
HasKept kept place ctx = (entries : Context) × AreKept kept place ctx entries

pub entries_exist : (kept : List ℕ) (place : ℕ) (ctx : Context) →
    ((k : ℕ) (a : LfType) → is_kept kept (place + k) ≡ true → type_at ctx k ≡ Some a → MentionsNone (is_dropped kept (place + k)) a) → HasKept kept place ctx
entries_exist kept place [] clean = ([], kept_nothing)
entries_exist kept place (a ∷ ctx) clean =
    let here : place + 0 ≡ place = omega arith in
    step (is_kept kept place) refl (subst (λ n. is_kept kept n ≡ true → MentionsNone (is_dropped kept n) a) here (λ is. clean 0 a is refl))
    (entries_exist kept (suc place) ctx
    (λ k b. subst (λ n. is_kept kept n ≡ true → type_at ctx k ≡ Some b → MentionsNone (is_dropped kept n) b) (sym (shifted place k)) (λ is e. clean (suc k) b is e)))
  where
    step : (b : Bool) → is_kept kept place ≡ b → (is_kept kept place ≡ true → MentionsNone (is_dropped kept place) a) → HasKept kept (suc place) ctx → HasKept kept place (a ∷ ctx)
    step true is here rest = (rename_type (returning kept place) a ∷ rest.0, kept_entry is (keeping_type kept place a (here is)) rest.1)
    step false is here rest = (rest.0, dropped_entry is rest.1)

pub entries_unique : {kept : List ℕ} {place : ℕ} {ctx entries others : Context} → AreKept kept place ctx entries → AreKept kept place ctx others → others ≡ entries
entries_unique kept_nothing kept_nothing = refl
entries_unique {kept} (kept_entry {place = place} {b = b} is e rest) (kept_entry {b = c} also f more) =
    ap₂ (λ x xs. x ∷ xs) (keeping_type_inj kept place c b (f ∙ sym e)) (entries_unique rest more)
entries_unique (kept_entry is e rest) (dropped_entry also more) = absurd cc
entries_unique (dropped_entry is rest) (kept_entry also f more) = absurd cc
entries_unique (dropped_entry is rest) (dropped_entry also more) = entries_unique rest more

-- the shape of a context's variable
pub under_all-context_variable : (ctx : Context) (Γ : Scope) (place : ℕ) (a : LfType) → type_at ctx place ≡ Some a → under_all (shapes_of_types ctx) Γ (context_variable (length ctx) place) ≡ Some (shape_of a)
under_all-context_variable [] Γ place a e = absurd cc
under_all-context_variable (b ∷ ctx) Γ zero a e =
    let same : b ≡ a = cc in
    let here : context_variable (suc (length ctx)) zero ≡ next_by (length (shapes_of_types ctx)) (bound zero) = ap bound (omega (arith, count ctx)) ∙ sym (next_by-bound (length (shapes_of_types ctx)) zero) in
    ap (under_all (shapes_of_types ctx) (under (shape_of b) Γ)) here ∙ under_all-next_by_length (shapes_of_types ctx) (under (shape_of b) Γ) (bound zero) ∙ ap (λ c. Some (shape_of c)) same
  where
    count : (ctx : Context) → length (shapes_of_types ctx) ≡ length ctx
    count [] = refl
    count (c ∷ rest) = ap suc (count rest)
under_all-context_variable (b ∷ ctx) Γ (suc place) a e =
    let there : suc (length ctx) - suc (suc place) ≡ length ctx - suc place = omega arith in
    ap (λ n. under_all (shapes_of_types ctx) (under (shape_of b) Γ) (bound n)) there ∙ under_all-context_variable ctx (under (shape_of b) Γ) place a e
