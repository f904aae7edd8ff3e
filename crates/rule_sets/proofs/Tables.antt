-- Lists of constructors in a table from families to them.
use Rattle.std.proofs.Common.{◌≡◌, ℕ, Bool, true, false, cond, List, [], ◌∷◌, ◌++◌, Option, Some, None, refl, ap, ap₂, ◌∙◌, map, if◌then◌else◌}
use Rattle.std.specs.Prelude.{nat_eq}
use Rattle.std.specs.Cmp.{nat_eq_equiv}
use Rattle.std.specs.Map.{lookup}
use Rattle.std.proofs.lemmas.List.{map-append}
use Rattle.indexmap.specs.IndexMap.{insert_entry}
use Rattle.rule_sets.specs.Books.{Listed, list_of, listed}

nat_eq_sym : (a b : ℕ) → nat_eq a b ≡ nat_eq b a
nat_eq_sym a b = nat_eq_equiv.symm a b

pub list_of-listed : (f : ℕ) (es : List (ℕ × List ℕ)) → list_of (map listed es) f ≡ lookup (nat_eq f) es
list_of-listed f [] = refl
list_of-listed f (e ∷ es) = ap₂ (λ b (o : Option (List ℕ)). cond b (Some e.1) o) (nat_eq_sym e.0 f) (list_of-listed f es)

pub none_step : (b : Bool) (xs : List ℕ) (o : Option (List ℕ)) → (if b then Some xs else o) ≡ None → (b ≡ false) × (o ≡ None)
none_step true xs o e = absurd cc
none_step false xs o e = (refl, e)

-- a list for a family that has none goes last
insert_new : (f : ℕ) (constants : List ℕ) (es : List (ℕ × List ℕ)) → list_of (map listed es) f ≡ None → insert_entry nat_eq es f constants ≡ es ++ (f, constants) ∷ []
insert_new f constants [] none = refl
insert_new f constants (e ∷ es) none =
    let parts = none_step (nat_eq e.0 f) e.1 (list_of (map listed es) f) none in
    ap₂ (λ b (rest : List (ℕ × List ℕ)). if b then (e.0, constants) ∷ es else e ∷ rest) (nat_eq_sym f e.0 ∙ parts.0) (insert_new f constants es parts.1)

pub lists_more : (f : ℕ) (constants : List ℕ) (es new : List (ℕ × List ℕ)) (lists : List Listed) → map listed es ≡ lists → new ≡ insert_entry nat_eq es f constants → list_of lists f ≡ None →
    map listed new ≡ lists ++ listed (f, constants) ∷ []
lists_more f constants es new lists view is none =
    ap (map listed) (is ∙ insert_new f constants es (ap (λ ls. list_of ls f) view ∙ none)) ∙ map-append listed es ((f, constants) ∷ []) ∙ ap (λ ls. ls ++ listed (f, constants) ∷ []) view
