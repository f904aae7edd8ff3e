-- Codes of trees, by which a proof tells values apart of structs that are seen as trees. A tree is coded as its parts in order.
use Rattle.std.specs.Prelude.{◌≡◌, ℕ, zero, suc, List, [], ◌∷◌}
use Rattle.std.specs.Coded.{Coded, code_by, coded×, coded_ℕ, coded_list}
use mathlib.Core.Path.{refl, ap, ap₂, ◌∙◌}
use Rattle.file_trees.specs.declared.span.Span.{Span}
use Rattle.file_trees.specs.declared.span.BinderSpan.{BinderSpan}
use Rattle.file_trees.specs.Trees.{Tree, leaf, abstraction, head, apply, Classifier, pi, arrow, family, star, Binding, pi_of, arrow_of}

abbrev Part : Type 0
Part = ℕ × BinderSpan

abbrev no_span : Span
no_span = record { start = 0; end = 0 }

-- the part of a leaf or a family has its span
abbrev named_by : Span → BinderSpan
named_by span = record { opening = 0; name = span }

abbrev no_binder : BinderSpan
no_binder = named_by no_span

abbrev pub span_code : Coded Span
span_code =
    code_by (ℕ × ℕ) (coded× coded_ℕ coded_ℕ) (λ s. (s.start, s.end)) (λ p. record { start = p.0; end = p.1 }) (λ _. refl)

abbrev binder_code : Coded BinderSpan
binder_code =
    code_by (ℕ × Span) (coded× coded_ℕ span_code) (λ b. (b.opening, b.name)) (λ p. record { opening = p.0; name = p.1 }) (λ _. refl)

abbrev tree_parts : Tree → List Part → List Part
tree_parts (leaf span) rest = (0, named_by span) ∷ rest
tree_parts (abstraction binder body) rest = (1, binder) ∷ tree_parts body rest
tree_parts (head tree) rest = (2, no_binder) ∷ tree_parts tree rest
tree_parts (apply tree argument) rest = (3, no_binder) ∷ tree_parts tree (tree_parts argument rest)

-- Reading back, from the end: the trees that are not yet part of another.
abbrev read_abstraction : BinderSpan → List Tree → List Tree
read_abstraction binder [] = []
read_abstraction binder (t ∷ ts) = abstraction binder t ∷ ts

abbrev read_head : List Tree → List Tree
read_head [] = []
read_head (t ∷ ts) = head t ∷ ts

abbrev read_apply : List Tree → List Tree
read_apply (t ∷ u ∷ ts) = apply t u ∷ ts
read_apply (t ∷ []) = []
read_apply [] = []

abbrev read_part : ℕ → BinderSpan → List Tree → List Tree
read_part zero binder ts = leaf binder.name ∷ ts
read_part (suc zero) binder ts = read_abstraction binder ts
read_part (suc (suc zero)) binder ts = read_head ts
read_part (suc (suc (suc k))) binder ts = read_apply ts

abbrev read : List Part → List Tree
read [] = []
read (p ∷ rest) = read_part p.0 p.1 (read rest)

read-tree_parts : (t : Tree) (rest : List Part) → read (tree_parts t rest) ≡ t ∷ read rest
read-tree_parts (leaf span) rest = refl
read-tree_parts (abstraction binder body) rest = ap (read_part 1 binder) (read-tree_parts body rest)
read-tree_parts (head tree) rest = ap (read_part 2 no_binder) (read-tree_parts tree rest)
read-tree_parts (apply tree argument) rest =
    ap (read_part 3 no_binder) (read-tree_parts tree (tree_parts argument rest) ∙ ap (λ ts. tree ∷ ts) (read-tree_parts argument rest))

abbrev first : List Tree → Tree
first [] = leaf no_span
first (t ∷ ts) = t

pub read-tree : (t : Tree) → first (read (tree_parts t [])) ≡ t
read-tree t = ap first (read-tree_parts t [])

abbrev pub tree_code : Coded Tree
tree_code = code_by (List Part) (coded_list (coded× coded_ℕ binder_code)) (λ t. tree_parts t []) (λ parts. first (read parts)) read-tree

-- a classifier, as a tree
abbrev list_tree : List Tree → Tree
list_tree [] = leaf no_span
list_tree (t ∷ ts) = apply t (list_tree ts)

abbrev classifier_tree : Classifier → Tree
classifier_tree (pi binder domain rest) = apply (abstraction binder (classifier_tree domain)) (classifier_tree rest)
classifier_tree (arrow left right) = apply (head (classifier_tree left)) (classifier_tree right)
classifier_tree (family span arguments) = abstraction (named_by span) (list_tree arguments)
classifier_tree (star span) = leaf span

abbrev tree_list : Tree → List Tree
tree_list (apply t rest) = t ∷ tree_list rest
tree_list (leaf span) = []
tree_list (abstraction binder t) = []
tree_list (head t) = []

abbrev tree_classifier : Tree → Classifier
tree_classifier (leaf span) = star span
tree_classifier (abstraction binder t) = family binder.name (tree_list t)
tree_classifier (head t) = star no_span
tree_classifier (apply (abstraction binder domain) rest) = pi binder (tree_classifier domain) (tree_classifier rest)
tree_classifier (apply (head left) right) = arrow (tree_classifier left) (tree_classifier right)
tree_classifier (apply (leaf span) t) = star no_span
tree_classifier (apply (apply t u) v) = star no_span

tree_list-list_tree : (ts : List Tree) → tree_list (list_tree ts) ≡ ts
tree_list-list_tree [] = refl
tree_list-list_tree (t ∷ ts) = ap (λ us. t ∷ us) (tree_list-list_tree ts)

pub tree_classifier-classifier_tree : (c : Classifier) → tree_classifier (classifier_tree c) ≡ c
tree_classifier-classifier_tree (pi binder domain rest) =
    ap₂ (pi binder) (tree_classifier-classifier_tree domain) (tree_classifier-classifier_tree rest)
tree_classifier-classifier_tree (arrow left right) =
    ap₂ arrow (tree_classifier-classifier_tree left) (tree_classifier-classifier_tree right)
tree_classifier-classifier_tree (family span arguments) = ap (family span) (tree_list-list_tree arguments)
tree_classifier-classifier_tree (star span) = refl

abbrev pub classifier_code : Coded Classifier
classifier_code = code_by Tree tree_code classifier_tree tree_classifier tree_classifier-classifier_tree

abbrev binding_classifier : Binding → Classifier
binding_classifier (pi_of binder domain) = pi binder domain (star no_span)
binding_classifier (arrow_of left) = arrow left (star no_span)

abbrev classifier_binding : Classifier → Binding
classifier_binding (pi binder domain rest) = pi_of binder domain
classifier_binding (arrow left right) = arrow_of left
classifier_binding (family span arguments) = arrow_of (star no_span)
classifier_binding (star span) = arrow_of (star span)

pub classifier_binding-binding_classifier : (b : Binding) → classifier_binding (binding_classifier b) ≡ b
classifier_binding-binding_classifier (pi_of binder domain) = refl
classifier_binding-binding_classifier (arrow_of left) = refl

abbrev pub binding_code : Coded Binding
binding_code = code_by Classifier classifier_code binding_classifier classifier_binding classifier_binding-binding_classifier
