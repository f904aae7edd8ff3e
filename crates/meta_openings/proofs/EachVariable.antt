-- The variables of the kept entries, one after another.
use Rattle.std.proofs.Common.{◌≡◌, ℕ, zero, suc, ◌+◌, ◌-◌, ◌<◌, ◌≤◌, Bool, true, if◌then◌else◌, List, [], ◌∷◌, length, get_or, drop, refl, sym, ap, ap₂, ◌∙◌, subst, arith, add-one}
use Rattle.std.proofs.lemmas.List.{drop_all}
use Rattle.lf_definitions.specs.Syntax.{LfHead, bound, Spine, no_args, arg, joined, SimpleType, base, arrows, arity, Context, shape_of, shapes_of_types}
use Rattle.lf_definitions.specs.Renaming.{next, lifted, rename, rename_spine, next_by}
use Rattle.lf_definitions.specs.Expansion.{own_variables, eta}
use Rattle.lf_definitions.proofs.Expansion.{rename-eta}
use Rattle.lf_definitions.proofs.Telescopes.{next_by-bound}
use Rattle.lf_definitions.proofs.Types.{shape_of-rename_type}
use Rattle.head_laws.proofs.Heads.{lifted-next}
use Rattle.typing_laws.proofs.Binders.{arity_of, length-shapes_of_types}
use Rattle.lf_terms.specs.declared.shape.Shape.{Shape}
use Rattle.lf_terms.specs.declared.term.Term.{Term}
use Rattle.lf_terms.specs.Shapes.{simple_type_of, simple_types_of}
use Rattle.lf_terms.specs.Terms.{spine_of}
use Rattle.lf_terms.proofs.Expansions.{joined-no_args}
use Rattle.opening_laws.specs.Openings.{context_variable, is_kept, keeping, AreKept, kept_nothing, kept_entry, dropped_entry, kept_variables}
use Rattle.opening_laws.proofs.Kept.{shifted}
use Rattle.meta_openings.specs.Variables.{variable_if}
use Rattle.meta_openings.proofs.Copies.{joined_twice}

-- the variables of the kept places from a place on, in a context with so many entries and under so many more binders
abbrev pub variables_from : List ℕ → ℕ → ℕ → ℕ → List SimpleType → Spine
variables_from kept count raise place [] = no_args
variables_from kept count raise place (s ∷ ss) = joined (variable_if (is_kept kept place) (eta (next_by raise (context_variable count place)) s)) (variables_from kept count raise (suc place) ss)

-- a kept entry, seen from all that come later
seen_later : {kept : List ℕ} {place : ℕ} {ctx entries : Context} → AreKept kept place ctx entries → (h : LfHead) → keeping kept (place + length ctx) (next_by (length entries) h) ≡ next_by (length ctx) (keeping kept place h)
seen_later {kept} (kept_nothing {place = place}) h = let here : place + 0 ≡ place = omega arith in ap (λ n. keeping kept n h) here
seen_later {kept} (kept_entry {place = place} {a = a} {ctx = ctx} {entries = entries} is e more) h =
    ap (λ n. keeping kept n (next_by (length entries) (next h))) (sym (shifted place (length ctx)))
    ∙ seen_later more (next h)
    ∙ ap (next_by (length ctx)) (ap (λ b. (if b then lifted (keeping kept place) else (λ k. next (keeping kept place k))) (next h)) is ∙ lifted-next (keeping kept place) h)
seen_later {kept} (dropped_entry {place = place} {ctx = ctx} {entries = entries} is more) h =
    ap (λ n. keeping kept n (next_by (length entries) h)) (sym (shifted place (length ctx)))
    ∙ seen_later more h
    ∙ ap (next_by (length ctx)) (ap (λ b. (if b then lifted (keeping kept place) else (λ k. next (keeping kept place k))) h) is)

-- the variable of a kept entry
variable_here : {kept : List ℕ} {place : ℕ} {ctx entries : Context} → is_kept kept place ≡ true → AreKept kept (suc place) ctx entries →
    keeping kept (place + suc (length ctx)) (next_by (arity (arrows (shapes_of_types entries) base)) (bound zero)) ≡ context_variable (place + suc (length ctx)) place
variable_here {kept} {place} {ctx} {entries} is more =
    let number : length ctx + zero ≡ (place + suc (length ctx)) - suc place = omega arith in
    ap₂ (λ n m. keeping kept n (next_by m (bound zero))) (sym (shifted place (length ctx))) (arity_of entries)
    ∙ seen_later more (bound zero)
    ∙ ap (λ b. next_by (length ctx) ((if b then lifted (keeping kept place) else (λ k. next (keeping kept place k))) (bound zero))) is
    ∙ next_by-bound (length ctx) zero ∙ ap bound number

variables_are : {kept : List ℕ} {place : ℕ} {ctx entries : Context} → AreKept kept place ctx entries → (raise : ℕ) →
    variables_from kept (place + length ctx) raise place (shapes_of_types ctx)
    ≡ rename_spine (next_by raise) (rename_spine (keeping kept (place + length ctx)) (own_variables (arrows (shapes_of_types entries) base)))
variables_are kept_nothing raise = refl
variables_are {kept} (kept_entry {place = place} {a = a} {b = b} {ctx = ctx} {entries = entries} is e more) raise =
    let count = place + suc (length ctx) in
    let shape : shape_of a ≡ shape_of b = sym (ap shape_of e) ∙ shape_of-rename_type b (keeping kept place) in
    let later = variables_from kept count raise (suc place) (shapes_of_types ctx) in
    let own = next_by (arity (arrows (shapes_of_types entries) base)) (bound zero) in
    let first : eta (next_by raise (context_variable count place)) (shape_of a) ≡ rename (next_by raise) (rename (keeping kept count) (eta own (shape_of b))) =
    ap₂ (λ h s. eta (next_by raise h) s) (sym (variable_here is more)) shape
    ∙ sym (ap (rename (next_by raise)) (rename-eta (keeping kept count) own (shape_of b)) ∙ rename-eta (next_by raise) (keeping kept count own) (shape_of b)) in
    ap (λ m. joined (variable_if m (eta (next_by raise (context_variable count place)) (shape_of a))) later) is
    ∙ ap₂ arg first
    (subst (λ n. variables_from kept n raise (suc place) (shapes_of_types ctx) ≡ rename_spine (next_by raise) (rename_spine (keeping kept n) (own_variables (arrows (shapes_of_types entries) base))))
    (shifted place (length ctx)) (variables_are more raise))
variables_are {kept} (dropped_entry {place = place} {a = a} {ctx = ctx} {entries = entries} is more) raise =
    let count = place + suc (length ctx) in
    let later = variables_from kept count raise (suc place) (shapes_of_types ctx) in
    ap (λ m. joined (variable_if m (eta (next_by raise (context_variable count place)) (shape_of a))) later) is
    ∙ subst (λ n. variables_from kept n raise (suc place) (shapes_of_types ctx) ≡ rename_spine (next_by raise) (rename_spine (keeping kept n) (own_variables (arrows (shapes_of_types entries) base))))
    (shifted place (length ctx)) (variables_are more raise)

simple_types_of-drop : (ss : List Shape) (i : ℕ) (s : Shape) → i < length ss → s ≡ get_or ss i s → simple_types_of (drop i ss) ≡ simple_type_of s ∷ simple_types_of (drop (suc i) ss)
simple_types_of-drop [] i s within is = absurd (omega (arith, within))
simple_types_of-drop (r ∷ ss) zero s within is = ap (λ x. simple_type_of x ∷ simple_types_of ss) (sym is)
simple_types_of-drop (r ∷ ss) (suc i) s within is = simple_types_of-drop ss i s (omega (arith, within)) is

-- the loop: the terms so far, and then those from the place on, are all
abbrev pub VariablesUpTo : List ℕ → ℕ → List Shape → ℕ → List Term → Type 0
VariablesUpTo kept raise items place terms =
    joined (spine_of terms) (variables_from kept (length items) raise place (simple_types_of (drop place items))) ≡ variables_from kept (length items) raise 0 (simple_types_of items)

pub variables_begin : (kept : List ℕ) (raise : ℕ) (items : List Shape) (terms : List Term) → terms ≡ [] → VariablesUpTo kept raise items 0 terms
variables_begin kept raise items terms none = subst (VariablesUpTo kept raise items 0) (sym none) refl

pub variables_more : (kept : List ℕ) (raise : ℕ) (items : List Shape) (place : ℕ) (x : Shape) (old new : List Term) (mark : Bool) (h : LfHead) → place < length items → x ≡ get_or items place x →
    mark ≡ is_kept kept place → h ≡ next_by raise (context_variable (length items) place) → spine_of new ≡ joined (spine_of old) (variable_if mark (eta h (simple_type_of x))) →
    VariablesUpTo kept raise items place old → VariablesUpTo kept raise items (place + 1) new
variables_more kept raise items place x old new mark h within is mark_is head_is added upto =
    let count = length items in
    let later = variables_from kept count raise (suc place) (simple_types_of (drop (suc place) items)) in
    ap (λ k. joined (spine_of new) (variables_from kept count raise k (simple_types_of (drop k items)))) (add-one place)
    ∙ ap (λ ts. joined ts later) added ∙ joined_twice (spine_of old) (variable_if mark (eta h (simple_type_of x))) later
    ∙ ap₂ (λ m k. joined (spine_of old) (joined (variable_if m (eta k (simple_type_of x))) later)) mark_is head_is
    ∙ ap (λ ss. joined (spine_of old) (variables_from kept count raise place ss)) (sym (simple_types_of-drop items place x within is))
    ∙ upto

pub variables_end : (kept : List ℕ) (raise : ℕ) (items : List Shape) (shapes : List SimpleType) (place : ℕ) (terms : List Term) (made : Spine) → length items ≤ place → simple_types_of items ≡ shapes →
    length items ≡ length shapes → made ≡ spine_of terms → VariablesUpTo kept raise items place terms → (ctx entries : Context) → shapes ≡ shapes_of_types ctx → AreKept kept 0 ctx entries →
    made ≡ rename_spine (next_by raise) (kept_variables kept (length ctx) entries)
variables_end kept raise items shapes place terms made all are as_many made_is upto ctx entries shapes_are kept_so =
    let counts : length items ≡ length ctx = as_many ∙ ap length shapes_are ∙ length-shapes_of_types ctx in
    let start : 0 + length ctx ≡ length ctx = omega arith in
    made_is ∙ sym (joined-no_args (spine_of terms))
    ∙ ap (λ xs. joined (spine_of terms) (variables_from kept (length items) raise place (simple_types_of xs))) (sym (drop_all place items all))
    ∙ upto ∙ ap₂ (λ n ss. variables_from kept n raise 0 ss) counts (are ∙ shapes_are)
    ∙ subst (λ n. variables_from kept n raise 0 (shapes_of_types ctx) ≡ rename_spine (next_by raise) (rename_spine (keeping kept n) (own_variables (arrows (shapes_of_types entries) base)))) start
    (variables_are kept_so raise)
