-- The head and the arguments of an application.
use Rattle.std.proofs.Common.{◌≡◌, ℕ, zero, suc, ◌+◌, ◌<◌, ◌≤◌, Some, List, [], ◌∷◌, ◌++◌, length, get_or, refl, sym, ap, ◌∙◌, subst, ⊎_elim, ◌⊎◌, inl, inr, append_assoc, arith}
use Rattle.std.specs.Prelude.{slice_get, Option}
use Rattle.file_trees.specs.Trees.{Tree, leaf, abstraction, head, apply, apply_all, tree_size}
use Rattle.file_trees.specs.declared.term_tree.TermTree.{TermTree}
use Rattle.file_trees.specs.TermViews.{tree_of, trees_of}
use Rattle.elab_terms.specs.Applied.{base_of, arguments_of}

pub base_of-apply_all : (tree : Tree) (arguments : List Tree) → base_of (apply_all tree arguments) ≡ base_of tree
base_of-apply_all tree [] = refl
base_of-apply_all tree (argument ∷ arguments) = base_of-apply_all (apply tree argument) arguments

arguments_of-apply_all : (tree : Tree) (arguments after : List Tree) → arguments_of (apply_all tree arguments) after ≡ arguments_of tree (arguments ++ after)
arguments_of-apply_all tree [] after = refl
arguments_of-apply_all tree (argument ∷ arguments) after = arguments_of-apply_all (apply tree argument) arguments after

arguments_of-after : (tree : Tree) (after : List Tree) → arguments_of tree after ≡ arguments_of tree [] ++ after
arguments_of-after (leaf span) after = refl
arguments_of-after (abstraction binder body) after = refl
arguments_of-after (head tree) after = arguments_of-after tree after
arguments_of-after (apply tree argument) after =
    arguments_of-after tree (argument ∷ after) ∙ sym (append_assoc (arguments_of tree []) (argument ∷ []) after) ∙ ap (λ prefix. prefix ++ after) (sym (arguments_of-after tree (argument ∷ [])))

append_nil : (xs : List Tree) → xs ++ [] ≡ xs
append_nil [] = refl
append_nil (x ∷ xs) = ap (λ rest. x ∷ rest) (append_nil xs)

pub arguments_of_application : (first : Tree) (arguments : List Tree) → arguments_of (apply_all (head first) arguments) [] ≡ arguments_of first [] ++ arguments
arguments_of_application first arguments =
    arguments_of-apply_all (head first) arguments [] ∙ ap (arguments_of first) (append_nil arguments) ∙ arguments_of-after first arguments

pub slice_get-append_within : (xs ys : List Tree) (k : ℕ) (x : Tree) → slice_get xs k ≡ Some x → slice_get (xs ++ ys) k ≡ Some x
slice_get-append_within [] ys k x e = absurd cc
slice_get-append_within (y ∷ xs) ys zero x e = e
slice_get-append_within (y ∷ xs) ys (suc k) x e = slice_get-append_within xs ys k x e

pub slice_get-append_past : (xs ys : List Tree) (k left : ℕ) → k ≡ length xs + left → slice_get (xs ++ ys) k ≡ slice_get ys left
slice_get-append_past [] ys k left e = let same : k ≡ left = omega arith in ap (slice_get ys) same
slice_get-append_past (x ∷ xs) ys zero left e = absurd (omega arith)
slice_get-append_past (x ∷ xs) ys (suc k) left e = slice_get-append_past xs ys k left (omega arith)

pub length-trees_of : (ts : List TermTree) → length (trees_of ts) ≡ length ts
length-trees_of [] = refl
length-trees_of (t ∷ ts) = ap suc (length-trees_of ts)

pub slice_get-trees_of : (ts : List TermTree) (k : ℕ) (t : TermTree) → k < length ts → t ≡ get_or ts k t → slice_get (trees_of ts) k ≡ Some (tree_of t)
slice_get-trees_of [] k t within is = absurd (omega arith)
slice_get-trees_of (u ∷ ts) zero t within is = ap (λ x. Some (tree_of x)) (sym is)
slice_get-trees_of (u ∷ ts) (suc k) t within is = slice_get-trees_of ts k t (omega arith) is

-- An entry of a list with one more at the end is one of the list, or that one.
before_or_last : (xs : List Tree) (last t : Tree) (k : ℕ) → slice_get (xs ++ last ∷ []) k ≡ Some t → (slice_get xs k ≡ Some t) ⊎ (last ≡ t)
before_or_last [] last t zero e = inr (inj e)
  where
    inj : ◌≡◌ {A = Option Tree} (Some last) (Some t) → last ≡ t
    inj e = cc
before_or_last [] last t (suc k) e = absurd cc
before_or_last (x ∷ xs) last t zero e = inl e
before_or_last (x ∷ xs) last t (suc k) e = before_or_last xs last t k e

-- The parts are smaller than the application.
pub argument_size : (tree : Tree) (k : ℕ) (t : Tree) → slice_get (arguments_of tree []) k ≡ Some t → tree_size t < tree_size tree
argument_size (leaf span) k t e = absurd cc
argument_size (abstraction binder body) k t e = absurd cc
argument_size (head tree) k t e = let inside = argument_size tree k t e in omega (arith, inside)
argument_size (apply tree argument) k t e =
    ⊎_elim (λ before. let inside : tree_size t < tree_size tree = argument_size tree k t before in omega (arith, inside)) (λ here. omega (arith, ap tree_size here))
    (before_or_last (arguments_of tree []) argument t k (ap (λ xs. slice_get xs k) (sym (arguments_of-after tree (argument ∷ []))) ∙ e))

pub base_size : (tree : Tree) → tree_size (base_of tree) ≤ tree_size tree
base_size (leaf span) = omega arith
base_size (abstraction binder body) = omega arith
base_size (head tree) = let inside = base_size tree in omega (arith, inside)
base_size (apply tree argument) = let inside = base_size tree in omega (arith, inside)

-- What is applied is no application.
abbrev IsBase : Tree → Type 0
IsBase (leaf span) = Unit {0}
IsBase (abstraction binder body) = Unit {0}
IsBase (head tree) = ⊥
IsBase (apply tree argument) = ⊥

base_is : (tree : Tree) → IsBase (base_of tree)
base_is (leaf span) = tt
base_is (abstraction binder body) = tt
base_is (head tree) = base_is tree
base_is (apply tree argument) = base_is tree

applied_not : (tree : Tree) (arguments : List Tree) → (IsBase tree → ⊥) → IsBase (apply_all tree arguments) → ⊥
applied_not tree [] none is = none is
applied_not tree (argument ∷ arguments) none is = applied_not (apply tree argument) arguments (λ h. h) is

pub never_applied : (tree first : Tree) (arguments : List Tree) → apply_all (head first) arguments ≡ base_of tree → ⊥
never_applied tree first arguments e = applied_not (head first) arguments (λ h. h) (subst IsBase (sym e) (base_is tree))
