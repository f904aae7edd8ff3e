-- Bodies that mention no goal that was bound with them or before them.
use Rattle.std.proofs.Common.{◌≡◌, ℕ, zero, suc, ◌+◌, ◌<◌, ◌≤◌, Bool, true, false, List, [], ◌∷◌, ◌++◌, length, get_or, take, take_all, map, All, Option, Some, None, refl, sym, ap, ◌∙◌, subst, arith, add-one}
use Rattle.std.specs.Prelude.{if◌then◌else◌, nat_eq}
use Rattle.std.proofs.lemmas.Bool.{eqb-true, eq-eqb, both_ways, false_from_ne_true}
use Rattle.std.proofs.lemmas.List.Elements.{All-nil, All-cons, All-push, All-map, All-weaker, All-get_or}
use Rattle.lf_definitions.specs.Syntax.{LfHead, bound, constant, metavariable, LfTerm, lams}
use Rattle.lf_definitions.specs.Occurrence.{OccursIn}
use Rattle.lf_definitions.specs.Instantiation.{assigned, instantiating, Instantiated}
use Rattle.head_laws.specs.Mentions.{ComesFrom, comes_from_head, comes_from_term}
use Rattle.head_laws.proofs.Replacing.{mentioned}
use Rattle.unification.proofs.Remaining.{OccursIn-under_lams}
use Rattle.unifiers.proofs.Entries.{term_put, found_entry}
use Rattle.meta_goals.specs.Bindings.{LfBinding, assigned_of, assigning, binding_for}
use Rattle.meta_unify.specs.Standing.{MentionsNot, IsTriangular, MentionsNoneBound}
use Rattle.meta_unify.proofs.Lookups.{none-assigned_goals, not_bound}

-- A goal that is not bound is not the first one's, and is not bound among the others.
absent_parts : (b : LfBinding) (rest : List LfBinding) (g : ℕ) → binding_for (b ∷ rest) g ≡ None → (nat_eq b.number g ≡ false) × (binding_for rest g ≡ None)
absent_parts b rest g e = each (nat_eq b.number g) refl
  where
    each : (t : Bool) → nat_eq b.number g ≡ t → (nat_eq b.number g ≡ false) × (binding_for rest g ≡ None)
    each true f =
        let found : Some b ≡ None = sym (ap (λ t. if t then Some b else binding_for rest g) f) ∙ e in
        absurd cc
    each false f = (f, sym (ap (λ t. if t then Some b else binding_for rest g) f) ∙ e)

absent_from : (b : LfBinding) (rest : List LfBinding) (g : ℕ) → nat_eq b.number g ≡ false → binding_for rest g ≡ None → binding_for (b ∷ rest) g ≡ None
absent_from b rest g other none = ap (λ t. if t then Some b else binding_for rest g) other ∙ none

absent_take : (i : ℕ) (bindings : List LfBinding) (g : ℕ) → binding_for bindings g ≡ None → binding_for (take i bindings) g ≡ None
absent_take zero bindings g e = refl
absent_take (suc i) [] g e = refl
absent_take (suc i) (b ∷ rest) g e = let parts = absent_parts b rest g e in absent_from b (take i rest) g parts.0 (absent_take i rest g parts.1)

pub absent_push : (bindings : List LfBinding) (b : LfBinding) (g : ℕ) → binding_for bindings g ≡ None → nat_eq b.number g ≡ false → binding_for (bindings ++ b ∷ []) g ≡ None
absent_push [] b g none other = absent_from b [] g other refl
absent_push (c ∷ rest) b g none other = let parts = absent_parts c rest g none in absent_from c (rest ++ b ∷ []) g parts.0 (absent_push rest b g parts.1 other)

bound_itself : (b : LfBinding) (rest : List LfBinding) → binding_for (b ∷ rest) b.number ≡ None → ⊥
bound_itself b rest e = both_ways (nat_eq b.number b.number) (absent_parts b rest b.number e).0 (eq-eqb b.number b.number refl)

-- what does not occur is no number of a goal that occurs
other_number : (n g : ℕ) (t : LfTerm) → MentionsNot n t → OccursIn (metavariable g) t → nat_eq n g ≡ false
other_number n g t none o = false_from_ne_true (nat_eq n g) (λ q. none (subst (λ k. OccursIn (metavariable k) t) (sym (eqb-true n g q)) o))

-- One more binding, whose body mentions no goal that is bound then.
pub triangular_push : (bindings : List LfBinding) (b : LfBinding) → IsTriangular bindings → MentionsNoneBound (bindings ++ b ∷ []) b.bound_body → IsTriangular (bindings ++ b ∷ [])
triangular_push [] b t none =
    (All-cons (λ c. MentionsNot b.number c.bound_body) b [] (λ o. bound_itself b [] (none b.number o)) (All-nil (λ c. MentionsNot b.number c.bound_body)), tt)
triangular_push (c ∷ rest) b t none = (
  All-push (λ d. MentionsNot c.number d.bound_body) (c ∷ rest) b t.0 (λ o. bound_itself c (rest ++ b ∷ []) (none c.number o)),
  triangular_push rest b t.1 (λ g o. (absent_parts c (rest ++ b ∷ []) g (none g o)).1),
)

-- What is put mentions no goal that no body mentions.
put_mentions_not : (n : ℕ) (bindings : List LfBinding) → All (λ c. MentionsNot n c.bound_body) bindings → (j : ℕ) (u : LfTerm) → assigning bindings j ≡ Some u → MentionsNot n u
put_mentions_not n bindings all =
    found_entry (λ k v. MentionsNot n v) (map assigned_of bindings)
    (All-map (λ e. MentionsNot n (term_put e)) assigned_of bindings
    (All-weaker (λ c. MentionsNot n c.bound_body) (λ c. MentionsNot n (term_put (assigned_of c))) (λ c none o. none (OccursIn-under_lams (length c.shapes) c.bound_body n o)) bindings all))

-- What is put for a goal that is not among the first so many mentions none of these, and not the next.
put_mentions_later : (bindings : List LfBinding) (i j h : ℕ) (u : LfTerm) → IsTriangular bindings → binding_for (take i bindings) j ≡ None → assigning bindings j ≡ Some u → OccursIn (metavariable h) u →
    binding_for (take (suc i) bindings) h ≡ None
put_mentions_later [] i j h u t none e o = absurd cc
put_mentions_later (c ∷ rest) zero j h u t none e o = absent_from c [] h (other_number c.number h u (put_mentions_not c.number (c ∷ rest) t.0 j u e) o) refl
put_mentions_later (c ∷ rest) (suc i) j h u t none e o =
    let parts = absent_parts c (take i rest) j none in
    let later = sym (ap (λ b. if b then Some (lams (length c.shapes) c.bound_body) else assigning rest j) parts.0) ∙ e in
    absent_from c (take (suc i) rest) h (other_number c.number h u (put_mentions_not c.number (c ∷ rest) t.0 j u e) o) (put_mentions_later rest i j h u t.1 parts.1 later o)

-- What mentions none of the first so many goals, instantiated, mentions none of these, and not the next.
pub one_pass : (bindings : List LfBinding) (i : ℕ) (r y : LfTerm) → IsTriangular bindings → MentionsNoneBound (take i bindings) r → Instantiated (assigning bindings) r y → MentionsNoneBound (take (i + 1) bindings) y
one_pass bindings i r y t none p h o =
    let m = mentioned p (metavariable h) o in
    subst (λ n. binding_for (take n bindings) h ≡ None) (sym (add-one i)) (from_head m.0 m.1 m.2)
  where
    from_image : (k : ℕ) → OccursIn (metavariable k) r → (v : Option LfTerm) → assigning bindings k ≡ v → ComesFrom (metavariable h) (assigned k v) → binding_for (take (suc i) bindings) h ≡ None
    from_image k q None e (comes_from_head _) = absent_take (suc i) bindings h (not_bound bindings h (none-assigned_goals (map assigned_of bindings) h e))
    from_image k q (Some u) e (comes_from_term _ _ w) = put_mentions_later bindings i k h u t (none k q) e w

    from_head : (k : LfHead) → OccursIn k r → ComesFrom (metavariable h) (instantiating (assigning bindings) k) → binding_for (take (suc i) bindings) h ≡ None
    from_head (bound n) q c = elim c [ ]
    from_head (constant n) q c = elim c [ ]
    from_head (metavariable k) q c = from_image k q (assigning bindings k) refl c

pub all_passed : (bindings : List LfBinding) (i : ℕ) (r : LfTerm) → length bindings ≤ i → MentionsNoneBound (take i bindings) r → MentionsNoneBound bindings r
all_passed bindings i r past none = subst (λ bs. MentionsNoneBound bs r) (take_all i bindings past) none

-- The body at a place mentions no goal that was bound there or before.
first_not_mentioned : (c : LfBinding) (rest : List LfBinding) (k : ℕ) (b : LfBinding) → All (λ d. MentionsNot c.number d.bound_body) (c ∷ rest) → k < length (c ∷ rest) → b ≡ get_or (c ∷ rest) k b →
    (g : ℕ) → OccursIn (metavariable g) b.bound_body → nat_eq c.number g ≡ false
first_not_mentioned c rest k b all within is g o =
    other_number c.number g b.bound_body (subst (λ d. MentionsNot c.number d.bound_body) (sym is) (All-get_or (λ d. MentionsNot c.number d.bound_body) (c ∷ rest) k b within all)) o

pub body_mentions_later : (bindings : List LfBinding) (k : ℕ) (b : LfBinding) → IsTriangular bindings → k < length bindings → b ≡ get_or bindings k b → MentionsNoneBound (take (suc k) bindings) b.bound_body
body_mentions_later [] k b t within is g o = absurd (omega arith)
body_mentions_later (c ∷ rest) zero b t within is g o = absent_from c [] g (first_not_mentioned c rest zero b t.0 within is g o) refl
body_mentions_later (c ∷ rest) (suc k) b t within is g o =
    absent_from c (take (suc k) rest) g (first_not_mentioned c rest (suc k) b t.0 within is g o) (body_mentions_later rest k b t.1 (omega arith) is g o)
