-- Reading a type or a kind: what it is, or the first thing that is wrong with it.
use Rattle.std.specs.Prelude.{◌≡◌, ℕ, suc, ◌<◌, ◌≤◌, List, [], ◌∷◌, length, take, Option, Some, None, slice_get}
use Rattle.basics.specs.Limits.{most_binders}
use Rattle.lf_definitions.specs.Syntax.{LfType, LfKind, Spine, pi, family}
use Rattle.lf_definitions.specs.Substitution.{stays}
use Rattle.lf_definitions.specs.Typing.{Typing, with_variable}
use Rattle.lf_definitions.specs.Signatures.{LfSignature, kinds_in}
use Rattle.file_trees.specs.declared.span.Span.{Span}
use Rattle.file_trees.specs.declared.span.BinderSpan.{BinderSpan}
use Rattle.file_trees.specs.Trees.{Tree, Classifier}
use Rattle.file_trees.specs.Trees as trees
use Rattle.file_trees.specs.Places.{tree_place}
use Rattle.elab_terms.specs.Names.{Text, text_at, binder_name, Bound, family_of}
use Rattle.elab_terms.specs.Terms.{ReadsArguments, RefusesArguments}
use Rattle.elab_terms.specs.declared.elab_fault.ElabFault.{ElabFault}
use Rattle.elab_terms.specs.declared.elab_fault.ElabFault.TheVariants.{Unknown, TooMany, IllTyped}

-- The place of a type is its first brace, or that of the left side of its arrow, or its family's name. Parentheses don't count.
abbrev pub classifier_place : Classifier → ℕ
classifier_place (trees.pi binder domain rest) = binder.opening
classifier_place (trees.arrow left right) = classifier_place left
classifier_place (trees.family span arguments) = span.start
classifier_place (trees.star span) = span.start

-- one binder of a type, or the left side of an arrow: the place at which it is refused where it is one too many, its type, what stands after it, and what it binds
pub data IsBinder (text : Text) : Classifier → ℕ → Classifier → Classifier → Option (List ℕ) → Type 0 where
  pi_binder : (binder : BinderSpan) (domain rest : Classifier) →
      IsBinder text (trees.pi binder domain rest) binder.opening domain rest (binder_name text binder)
  arrow_binder : (left right : Classifier) → IsBinder text (trees.arrow left right) (classifier_place left) left right None

-- `count` binders of the type stand before.
pub data ReadsType (text : Text) (sig : LfSignature) : Bound → Typing → (count : ℕ) → Classifier → LfType → Type 0 where
  reads_binder : (binders : Bound) (Γ : Typing) (count place : ℕ) (whole domain rest : Classifier) (name : Option (List ℕ)) (a b : LfType) →
      IsBinder text whole place domain rest name → count < most_binders → ReadsType text sig binders Γ 0 domain a →
      ReadsType text sig (name ∷ binders) (with_variable a Γ) (suc count) rest b → ReadsType text sig binders Γ count whole (pi a b)
  reads_family : (binders : Bound) (Γ : Typing) (count : ℕ) (span : Span) (arguments : List Tree) (f : ℕ) (domains : LfKind) (ts : Spine) →
      family_of sig binders (text_at text span) ≡ Some f → kinds_in sig f ≡ Some domains → ReadsArguments text sig binders Γ stays arguments domains ts →
      ReadsType text sig binders Γ count (trees.family span arguments) (family f ts)

pub data RefusesType (text : Text) (sig : LfSignature) : Bound → Typing → (count : ℕ) → Classifier → ElabFault → Type 0 where
  -- a binder beyond 1,000
  refuses_binder : (binders : Bound) (Γ : Typing) (count place : ℕ) (whole domain rest : Classifier) (name : Option (List ℕ)) →
      IsBinder text whole place domain rest name → most_binders ≤ count → RefusesType text sig binders Γ count whole (TooMany place)
  refuses_domain : (binders : Bound) (Γ : Typing) (count place : ℕ) (whole domain rest : Classifier) (name : Option (List ℕ)) (fault : ElabFault) →
      IsBinder text whole place domain rest name → count < most_binders → RefusesType text sig binders Γ 0 domain fault → RefusesType text sig binders Γ count whole fault
  refuses_rest : (binders : Bound) (Γ : Typing) (count place : ℕ) (whole domain rest : Classifier) (name : Option (List ℕ)) (a : LfType) (fault : ElabFault) →
      IsBinder text whole place domain rest name → count < most_binders → ReadsType text sig binders Γ 0 domain a →
      RefusesType text sig (name ∷ binders) (with_variable a Γ) (suc count) rest fault → RefusesType text sig binders Γ count whole fault
  -- a name that is no family, or that a binder hides
  refuses_family : (binders : Bound) (Γ : Typing) (count : ℕ) (span : Span) (arguments : List Tree) →
      family_of sig binders (text_at text span) ≡ None → RefusesType text sig binders Γ count (trees.family span arguments) (Unknown span.start)
  -- the word `type`, which the grammar never has there
  refuses_word : (binders : Bound) (Γ : Typing) (count : ℕ) (span : Span) → RefusesType text sig binders Γ count (trees.star span) (Unknown span.start)
  -- too few arguments, before any of them is read
  refuses_few : (binders : Bound) (Γ : Typing) (count : ℕ) (span : Span) (arguments : List Tree) (f : ℕ) (domains : LfKind) →
      family_of sig binders (text_at text span) ≡ Some f → kinds_in sig f ≡ Some domains → length arguments < length domains →
      RefusesType text sig binders Γ count (trees.family span arguments) (IllTyped span.start)
  -- one of the arguments that the family takes
  refuses_family_argument : (binders : Bound) (Γ : Typing) (count : ℕ) (span : Span) (arguments : List Tree) (f : ℕ) (domains : LfKind) (fault : ElabFault) →
      family_of sig binders (text_at text span) ≡ Some f → kinds_in sig f ≡ Some domains → length domains ≤ length arguments →
      RefusesArguments text sig binders Γ stays (take (length domains) arguments) domains fault →
      RefusesType text sig binders Γ count (trees.family span arguments) fault
  -- the first argument beyond those
  refuses_family_extra : (binders : Bound) (Γ : Typing) (count : ℕ) (span : Span) (arguments : List Tree) (extra : Tree) (f : ℕ) (domains : LfKind) (ts : Spine) →
      family_of sig binders (text_at text span) ≡ Some f → kinds_in sig f ≡ Some domains →
      ReadsArguments text sig binders Γ stays (take (length domains) arguments) domains ts → slice_get arguments (length domains) ≡ Some extra →
      RefusesType text sig binders Γ count (trees.family span arguments) (IllTyped (tree_place extra))

-- A kind has no limit of its own on its binders.
pub data ReadsKind (text : Text) (sig : LfSignature) : Bound → Typing → Classifier → LfKind → Type 0 where
  reads_type_word : (binders : Bound) (Γ : Typing) (span : Span) → ReadsKind text sig binders Γ (trees.star span) []
  reads_kind_binder : (binders : Bound) (Γ : Typing) (place : ℕ) (whole domain rest : Classifier) (name : Option (List ℕ)) (a : LfType) (kind : LfKind) →
      IsBinder text whole place domain rest name → ReadsType text sig binders Γ 0 domain a →
      ReadsKind text sig (name ∷ binders) (with_variable a Γ) rest kind → ReadsKind text sig binders Γ whole (a ∷ kind)

pub data RefusesKind (text : Text) (sig : LfSignature) : Bound → Typing → Classifier → ElabFault → Type 0 where
  refuses_kind_domain : (binders : Bound) (Γ : Typing) (place : ℕ) (whole domain rest : Classifier) (name : Option (List ℕ)) (fault : ElabFault) →
      IsBinder text whole place domain rest name → RefusesType text sig binders Γ 0 domain fault → RefusesKind text sig binders Γ whole fault
  refuses_kind_rest : (binders : Bound) (Γ : Typing) (place : ℕ) (whole domain rest : Classifier) (name : Option (List ℕ)) (a : LfType) (fault : ElabFault) →
      IsBinder text whole place domain rest name → ReadsType text sig binders Γ 0 domain a →
      RefusesKind text sig (name ∷ binders) (with_variable a Γ) rest fault → RefusesKind text sig binders Γ whole fault
  -- a family in place of the word `type`, which the grammar never has there
  refuses_kind_family : (binders : Bound) (Γ : Typing) (span : Span) (arguments : List Tree) → RefusesKind text sig binders Γ (trees.family span arguments) (Unknown span.start)
