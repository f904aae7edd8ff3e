-- Bindings in a table from the numbers of goals to entries.
use Rattle.std.proofs.Common.{◌≡◌, ℕ, Bool, true, false, cond, List, [], ◌∷◌, ◌++◌, Option, Some, None, refl, sym, ap, ap₂, ◌∙◌, map, if◌then◌else◌, option_map}
use Rattle.std.specs.Prelude.{nat_eq}
use Rattle.std.specs.Cmp.{nat_eq_equiv}
use Rattle.std.specs.Map.{lookup}
use Rattle.std.proofs.lemmas.List.{map-append}
use Rattle.std.proofs.lemmas.Bool.{eqb-true}
use Rattle.indexmap.specs.IndexMap.{insert_entry}
use Rattle.meta_goals.specs.declared.assign.Entry.{Entry}
use Rattle.meta_goals.specs.Bindings.{LfBinding, binding_for, bound_again}
use Rattle.meta_goals.specs.Entries.{binding_of}

found_step : (b : Bool) (g : ℕ) (e : ℕ × Entry) (o : Option LfBinding) (p : Option Entry) → nat_eq e.0 g ≡ b → o ≡ option_map (λ entry. binding_of (g, entry)) p →
    (if b then Some (binding_of e) else o) ≡ option_map (λ entry. binding_of (g, entry)) (cond b (Some e.1) p)
found_step true g e o p same rest = ap (λ n. Some (binding_of (n, e.1))) (eqb-true e.0 g same)
found_step false g e o p same rest = rest

pub binding_for-lookup : (g : ℕ) (es : List (ℕ × Entry)) → binding_for (map binding_of es) g ≡ option_map (λ entry. binding_of (g, entry)) (lookup (nat_eq g) es)
binding_for-lookup g [] = refl
binding_for-lookup g (e ∷ es) =
    found_step (nat_eq e.0 g) g e (binding_for (map binding_of es) g) (lookup (nat_eq g) es) refl (binding_for-lookup g es)
    ∙ ap (λ b. option_map (λ entry. binding_of (g, entry)) (cond b (Some e.1) (lookup (nat_eq g) es))) (nat_eq_equiv.symm e.0 g)

absent_step : (b : Bool) (first : LfBinding) (o : Option LfBinding) → (if b then Some first else o) ≡ None → (b ≡ false) × (o ≡ None)
absent_step true first o e = absurd cc
absent_step false first o e = (refl, e)

-- a binding of a number that has none goes last
added_last : (g : ℕ) (entry : Entry) (es : List (ℕ × Entry)) → binding_for (map binding_of es) g ≡ None → insert_entry nat_eq es g entry ≡ es ++ (g, entry) ∷ []
added_last g entry [] none = refl
added_last g entry (e ∷ es) none =
    let parts = absent_step (nat_eq e.0 g) (binding_of e) (binding_for (map binding_of es) g) none in
    ap₂ (λ b (rest : List (ℕ × Entry)). if b then (e.0, entry) ∷ es else e ∷ rest) (nat_eq_equiv.symm g e.0 ∙ parts.0) (added_last g entry es parts.1)

pub bindings_more : (g : ℕ) (entry : Entry) (es new : List (ℕ × Entry)) (bindings : List LfBinding) → map binding_of es ≡ bindings → new ≡ insert_entry nat_eq es g entry →
    binding_for bindings g ≡ None → map binding_of new ≡ bindings ++ binding_of (g, entry) ∷ []
bindings_more g entry es new bindings view is none =
    ap (map binding_of) (is ∙ added_last g entry es (ap (λ l. binding_for l g) view ∙ none)) ∙ map-append binding_of es ((g, entry) ∷ []) ∙ ap (λ l. l ++ binding_of (g, entry) ∷ []) view

put_step : (b c : Bool) (e : ℕ × Entry) (es : List (ℕ × Entry)) (g : ℕ) (entry : Entry) → nat_eq g e.0 ≡ b → nat_eq e.0 g ≡ c → map binding_of (insert_entry nat_eq es g entry) ≡ bound_again (map binding_of es) (binding_of (g, entry)) →
    map binding_of (if b then (e.0, entry) ∷ es else e ∷ insert_entry nat_eq es g entry) ≡ (if c then binding_of (g, entry) ∷ map binding_of es else binding_of e ∷ bound_again (map binding_of es) (binding_of (g, entry)))
put_step true true e es g entry here there rest = ap (λ n. binding_of (n, entry) ∷ map binding_of es) (eqb-true e.0 g there)
put_step true false e es g entry here there rest = absurd cc (sym here ∙ nat_eq_equiv.symm g e.0 ∙ there)
put_step false true e es g entry here there rest = absurd cc (sym here ∙ nat_eq_equiv.symm g e.0 ∙ there)
put_step false false e es g entry here there rest = ap (λ l. binding_of e ∷ l) rest

put_in : (g : ℕ) (entry : Entry) (es : List (ℕ × Entry)) → map binding_of (insert_entry nat_eq es g entry) ≡ bound_again (map binding_of es) (binding_of (g, entry))
put_in g entry [] = refl
put_in g entry (e ∷ es) = put_step (nat_eq g e.0) (nat_eq e.0 g) e es g entry refl refl (put_in g entry es)

pub bindings_again : (g : ℕ) (entry : Entry) (es new : List (ℕ × Entry)) (bindings : List LfBinding) → map binding_of es ≡ bindings → new ≡ insert_entry nat_eq es g entry →
    map binding_of new ≡ bound_again bindings (binding_of (g, entry))
bindings_again g entry es new bindings view is = ap (map binding_of) is ∙ put_in g entry es ∙ ap (λ l. bound_again l (binding_of (g, entry))) view
