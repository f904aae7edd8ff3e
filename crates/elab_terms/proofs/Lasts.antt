-- The binders of a type as the code has them, and its last part.
use Rattle.std.proofs.Common.{◌≡◌, ◌≢◌, ℕ, zero, suc, ◌+◌, ◌*◌, ◌<◌, ◌≤◌, List, [], ◌∷◌, length, get_or, drop, refl, sym, ap, ◌∙◌, arith}
use Rattle.file_trees.specs.Trees.{Classifier, Binding, pi_of, arrow_of, bind, classifier_size, bindings_size}
use Rattle.file_trees.specs.declared.type_tree.Binder.{Binder}
use Rattle.file_trees.specs.declared.type_tree.Last.{Last}
use Rattle.file_trees.specs.declared.type_tree.Last.TheVariants.{Fam, Star, Group}
use Rattle.file_trees.specs.TypeViews.{binding_of, bindings_of, last_of, IsLast}
use Rattle.elab_terms.specs.ReadBinders.{domain_of}
use Rattle.elab_terms.proofs.Openings.{classifier_size-bind}

abbrev pub last_measure : Last → ℕ
last_measure (Fam span arguments) = 0
last_measure (Star span) = 0
last_measure (Group inner) = 4 * classifier_size inner.value + 3

some_bindings : (bs : List Binding) → bs ≢ [] → 2 ≤ bindings_size bs
some_bindings [] some = absurd (some refl)
some_bindings (pi_of binder domain ∷ bs) some = omega arith
some_bindings (arrow_of left ∷ bs) some = omega arith

pub last_falls : (last : Last) (bs : List Binding) (tree : Classifier) → IsLast last bs → bind bs (last_of last) ≡ tree → last_measure last < 4 * classifier_size tree + 2
last_falls (Fam span arguments) bs tree is whole = omega arith
last_falls (Star span) bs tree is whole = omega arith
last_falls (Group inner) bs tree is whole =
    omega (arith, ap classifier_size whole, classifier_size-bind bs inner.value, some_bindings bs is)

pub binders_fall : (bs : List Binding) (last tree : Classifier) → bind bs last ≡ tree → 4 * bindings_size bs + 1 < 4 * classifier_size tree + 2
binders_fall bs last tree whole = omega (arith, ap classifier_size whole, classifier_size-bind bs last)

pub bindings_of-drop : (items : List Binder) (i : ℕ) (item : Binder) → i < length items → item ≡ get_or items i item → drop i (bindings_of items) ≡ binding_of item ∷ drop (i + 1) (bindings_of items)
bindings_of-drop [] i item within is = absurd (omega arith)
bindings_of-drop (b ∷ items) zero item within is = ap (λ x. binding_of x ∷ bindings_of items) (sym is)
bindings_of-drop (b ∷ items) (suc i) item within is =
    let count : i + 1 ≡ suc i = omega arith in
    let next : suc i + 1 ≡ suc (suc i) = omega arith in
    bindings_of-drop items i item (omega arith) is ∙ ap (λ n. binding_of item ∷ drop n (bindings_of items)) count ∙ ap (λ n. binding_of item ∷ drop n (bindings_of (b ∷ items))) (sym next)

pub length-bindings_of : (items : List Binder) → length (bindings_of items) ≡ length items
length-bindings_of [] = refl
length-bindings_of (b ∷ items) = ap suc (length-bindings_of items)

pub same_binding : (items : List Binder) (i : ℕ) (x y : Binder) → i < length items → x ≡ get_or items i x → y ≡ get_or items i y → binding_of x ≡ binding_of y
same_binding [] i x y within is at = absurd (omega arith)
same_binding (b ∷ items) zero x y within is at = ap binding_of (is ∙ sym at)
same_binding (b ∷ items) (suc i) x y within is at = same_binding items i x y (omega arith) is at

binding_size : (b : Binding) (bs : List Binding) → classifier_size (domain_of b) + 2 + bindings_size bs ≡ bindings_size (b ∷ bs)
binding_size (pi_of binder domain) bs = omega arith
binding_size (arrow_of left) bs = omega arith

pub domain_falls : (items : List Binder) (i : ℕ) (item : Binder) → i < length items → item ≡ get_or items i item → classifier_size (domain_of (binding_of item)) + 2 ≤ bindings_size (bindings_of items)
domain_falls [] i item within is = absurd (omega arith)
domain_falls (b ∷ items) zero item within is = omega (arith, ap (λ x. classifier_size (domain_of (binding_of x))) is, binding_size (binding_of b) (bindings_of items))
domain_falls (b ∷ items) (suc i) item within is =
    let inside = domain_falls items i item (omega arith) is in
    omega (arith, inside, binding_size (binding_of b) (bindings_of items))
