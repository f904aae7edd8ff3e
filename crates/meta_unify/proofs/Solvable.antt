-- What the code finds where a term is solvable for another.
use Rattle.std.proofs.Common.{◌≡◌, ℕ, zero, suc, Bool, true, false, not, ◌&&◌, List, [], ◌∷◌, ◌++◌, length, get_or, drop, ◌+◌, ◌<◌, Option, Some, None, refl, sym, ap, ap₂, ◌∙◌, subst, append_assoc}
use Rattle.std.specs.Prelude.{if◌then◌else◌, option_map}
use Rattle.std.proofs.lemmas.Bool.{and_from, and_parts}
use Rattle.lf_definitions.specs.Syntax.{LfHead, bound, metavariable, LfTerm, at, Spine, no_args, arg, SimpleType, base, arrow, arrows, arity, lams}
use Rattle.lf_definitions.specs.Renaming.{rename}
use Rattle.lf_definitions.specs.Shaping.{Scope, Shaped, shaped_at}
use Rattle.lf_definitions.specs.Expansion.{own_variables, eta}
use Rattle.lf_definitions.specs.Instantiation.{LfAssigned}
use Rattle.lf_definitions.proofs.Options.{Some_inj}
use Rattle.head_laws.specs.Mentions.{occurs_in}
use Rattle.lf_terms.specs.declared.term.Term.{Term}
use Rattle.lf_terms.specs.declared.shape.Shape.{Shape}
use Rattle.lf_terms.specs.Terms.{term_of, spine_of}
use Rattle.lf_terms.specs.Shapes.{simple_type_of, simple_types_of}
use Rattle.lf_terms.proofs.ShapeLists.{simple_types_of-append}
use Rattle.unification.specs.Patterns.{variables_of, pattern_of, is_over, placed}
use Rattle.unification.specs.Transitions.{Frozen, entry_for, solving}
use Rattle.unification.proofs.PatternSpines.{variables_of-arg, pattern_of-Some, AreVariables, no_variables, one_variable, pattern_at_shape}
use Rattle.meta_goals.specs.declared.assign.Entry.{Entry}
use Rattle.meta_goals.specs.Bindings.{assigned_of}
use Rattle.meta_goals.specs.Entries.{binding_of}
use Rattle.meta_patterns.proofs.Readings.{drop-item}
use Rattle.meta_unify.specs.Shapes.{shape_shown, shapes_shown, KnowsShapes}

-- Shapes are read off eta-long forms.
shape_shown-lams : (n : ℕ) (b : LfTerm) → shape_shown (lams n b) ≡ shape_shown b
shape_shown-lams zero b = refl
shape_shown-lams (suc n) b = shape_shown-lams n b

shapes_shown-own : (s : SimpleType) → arrows (shapes_shown (own_variables s)) base ≡ s
shapes_shown-own base = refl
shapes_shown-own (arrow a s) = ap₂ arrow (shape_shown-lams (arity a) _ ∙ shapes_shown-own a) (shapes_shown-own s)

shape_shown-eta : (h : LfHead) (s : SimpleType) → shape_shown (eta h s) ≡ s
shape_shown-eta h s = shape_shown-lams (arity s) _ ∙ shapes_shown-own s

shapes_of_variables : {Γ : Scope} {ns : List ℕ} {ts : Spine} {s : SimpleType} → AreVariables Γ ns ts s → arrows (shapes_shown ts) base ≡ s
shapes_of_variables no_variables = refl
shapes_of_variables (one_variable {n = n} {a = a} known is rest) = ap₂ arrow (ap shape_shown is ∙ shape_shown-eta (bound n) a) (shapes_of_variables rest)

length-shapes_shown : (ts : Spine) (ns : List ℕ) → variables_of ts ≡ Some ns → length (shapes_shown ts) ≡ length ns
length-shapes_shown no_args ns e = ap length (none ns e)
  where
    none : (ms : List ℕ) → ◌≡◌ {A = Option (List ℕ)} (Some []) (Some ms) → [] ≡ ms
    none ms f = cc
length-shapes_shown (arg t ts) ns e = let r = variables_of-arg t ts ns e in ap suc (length-shapes_shown ts r.later r.later_read) ∙ ap length (sym r.numbers_are)

pub shapes_more : (all : Spine) (xs : List Term) (old new : List Shape) (i : ℕ) (x : Term) (s : Shape) → i < length xs → x ≡ get_or xs i x → new ≡ old ++ s ∷ [] → simple_type_of s ≡ shape_shown (term_of x) →
    shapes_shown all ≡ simple_types_of old ++ shapes_shown (spine_of (drop i xs)) → shapes_shown all ≡ simple_types_of new ++ shapes_shown (spine_of (drop (i + 1) xs))
shapes_more all xs old new i x s within is more shape before =
    let rest = shapes_shown (spine_of (drop (i + 1) xs)) in
    before
    ∙ ap (λ ts. simple_types_of old ++ shapes_shown ts) (drop-item xs i x within is)
    ∙ ap (λ c. simple_types_of old ++ c ∷ rest) (sym shape)
    ∙ sym (append_assoc (simple_types_of old) (simple_type_of s ∷ []) rest)
    ∙ ap (λ ss. ss ++ rest) (sym (simple_types_of-append old s) ∙ ap simple_types_of (sym more))

-- What is frozen, or occurs in the term, has no entry.
and_none : (x y z : Bool) → (x && y) ≡ false → (x && (y && z)) ≡ false
and_none true y z e = ap (λ b. b && z) e
and_none false y z e = refl

pub solve_none : (frozen : Frozen) (t u : LfTerm) (g : ℕ) (args : Spine) → t ≡ at (metavariable g) args → (not (frozen g) && not (occurs_in (metavariable g) u)) ≡ false → None ≡ solving frozen t u
solve_none frozen t u g args term refused = sym (ap (λ x. solving frozen x u) term ∙ each (pattern_of args))
  where
    each : (o : Option (List ℕ)) → entry_for frozen g o u ≡ None
    each None = refl
    each (Some ns) =
        ap (λ b. if b then Some (record { assigned_goal = g; binders_count = length ns; body = rename (placed ns) u }) else None)
        (and_none (not (frozen g)) (not (occurs_in (metavariable g) u)) (is_over ns u) refused)

-- The entry is the definition's.

pub solve_entry : (frozen : Frozen) (t u : LfTerm) (g : ℕ) (args : Spine) (ns : List ℕ) (e : Entry) → t ≡ at (metavariable g) args → (not (frozen g) && not (occurs_in (metavariable g) u)) ≡ true → pattern_of args ≡ Some ns →
    is_over ns u ≡ true → e.shapes ≡ shapes_shown args → term_of e.body ≡ rename (placed ns) u → Some (assigned_of (binding_of (g, e))) ≡ solving frozen t u
solve_entry frozen t u g args ns e term allowed pattern over shapes body =
    let parts = and_parts (not (frozen g)) (not (occurs_in (metavariable g) u)) allowed in
    let tests =
    and_from (not (frozen g)) (not (occurs_in (metavariable g) u) && is_over ns u) parts.0 (and_from (not (occurs_in (metavariable g) u)) (is_over ns u) parts.1 over) in
    let count : length e.shapes ≡ length ns = ap length shapes ∙ length-shapes_shown args ns (pattern_of-Some args ns pattern).0 in
    ap₂ (λ n b. Some (record { assigned_goal = g; binders_count = n; body = b })) count body
    ∙ sym (ap (λ b. if b then Some (record { assigned_goal = g; binders_count = length ns; body = rename (placed ns) u }) else None) tests)
    ∙ sym (ap (λ o. entry_for frozen g o u) pattern)
    ∙ ap (λ x. solving frozen x u) (sym term)

pub solve_shapes : (t : LfTerm) (g : ℕ) (args : Spine) (ns : List ℕ) (shapes : List SimpleType) → t ≡ at (metavariable g) args → pattern_of args ≡ Some ns → shapes ≡ shapes_shown args →
    (Γ : Scope) (s c : SimpleType) → Shaped Γ t s → Γ (metavariable g) ≡ Some c → c ≡ arrows shapes base
solve_shapes t g args ns shapes term pattern read Γ s c shaped known = at_spine (subst (λ x. Shaped Γ x s) term shaped)
  where
    at_spine : {d : SimpleType} → Shaped Γ (at (metavariable g) args) d → c ≡ arrows shapes base
    at_spine (shaped_at d knows ps) = Some_inj known knows ∙ sym (shapes_of_variables (pattern_at_shape ps ns pattern)) ∙ ap (λ ss. arrows ss base) (sym read)

-- What is found, where it is known which of both.
pub found_some : {o : Option LfAssigned} (found : Option (ℕ × Entry)) (g : ℕ) (e : Entry) → found ≡ Some (g, e) → option_map (λ p. assigned_of (binding_of p)) found ≡ o → o ≡ Some (assigned_of (binding_of (g, e)))
found_some found g e some is = sym is ∙ ap (option_map (λ p. assigned_of (binding_of p))) some

pub found_none : {A B : Type 0} (f : A → B) {o : Option B} (found : Option A) → ((x : A) → found ≡ Some x → ⊥) → option_map f found ≡ o → o ≡ None
found_none f None other is = sym is
found_none f (Some x) other is = absurd (other x refl)

pub known_shapes : {t : LfTerm} (found : Option (ℕ × Entry)) (g : ℕ) (e : Entry) → found ≡ Some (g, e) → KnowsShapes t found → KnowsShapes t (Some (g, e))
known_shapes {t} found g e some knows = subst (KnowsShapes t) some knows
