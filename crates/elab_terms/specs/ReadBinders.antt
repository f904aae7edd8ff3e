-- The binders that a type or a kind begins with, and what comes after them.
use Rattle.std.specs.Prelude.{◌≡◌, ℕ, ◌<◌, List, ◌++◌, length, Option, Some, None}
use Rattle.basics.specs.Limits.{most_binders}
use Rattle.lf_definitions.specs.Syntax.{LfType, pis, Context}
use Rattle.lf_definitions.specs.Typing.{Typing, with_context}
use Rattle.lf_definitions.specs.Signatures.{LfSignature}
use Rattle.file_trees.specs.Trees.{Classifier, Binding, pi_of, arrow_of, bind}
use Rattle.elab_terms.specs.Names.{Text, binder_name, Bound}
use Rattle.elab_terms.specs.KnownTypes.{KnownAt}
use Rattle.elab_terms.specs.Types.{ReadsType, RefusesType, ReadsKind, RefusesKind, classifier_place}
use Rattle.elab_terms.specs.declared.elab_fault.ElabFault.{ElabFault}
use Rattle.elab_terms.specs.declared.ending.Ending.{Ending}
use Rattle.elab_terms.specs.declared.ending.Ending.TheVariants.{Family, Word}

-- the place of a binder, its type, and the name that it binds
abbrev pub binding_place : Binding → ℕ
binding_place (pi_of binder domain) = binder.opening
binding_place (arrow_of left) = classifier_place left

abbrev pub domain_of : Binding → Classifier
domain_of (pi_of binder domain) = domain
domain_of (arrow_of left) = left

abbrev pub binding_name : Text → Binding → Option (List ℕ)
binding_name text (pi_of binder domain) = binder_name text binder
binding_name text (arrow_of left) = None

-- A binder may stand after so many.
abbrev pub HasRoom : Ending → ℕ → Type 0
HasRoom Family count = count < most_binders
HasRoom Word count = Unit {0}

-- A tree with this ending is read as binders, and what is at the end of a type.
abbrev pub ReadsAs : Ending → Text → LfSignature → Bound → Typing → (count : ℕ) → Classifier → Context → Option LfType → Type 0
ReadsAs Family text sig binders Γ count tree ctx (Some end) = ReadsType text sig binders Γ count tree (pis ctx end)
ReadsAs Family text sig binders Γ count tree ctx None = ⊥
ReadsAs Word text sig binders Γ count tree ctx (Some end) = ⊥
ReadsAs Word text sig binders Γ count tree ctx None = ReadsKind text sig binders Γ tree ctx

abbrev pub RefusesAs : Ending → Text → LfSignature → Bound → Typing → (count : ℕ) → Classifier → ElabFault → Type 0
RefusesAs Family text sig binders Γ count tree fault = RefusesType text sig binders Γ count tree fault
RefusesAs Word text sig binders Γ count tree fault = RefusesKind text sig binders Γ tree fault

-- Some binders are read: what the rest is read as, or refused for, in the scope of these, is what the whole is after them.
pub record Opens (ending : Ending) (text : Text) (sig : LfSignature) (old now : Bound) (Γ : Typing) (before after : Context) (whole rest : List Binding) : Type 0 where
  pub added : Context
  pub inside : Bound
  pub types_are : after ≡ before ++ added
  pub names_are : now ≡ inside ++ old
  pub known : KnownAt sig (with_context after Γ) now
  pub reads : (last : Classifier) (ctx : Context) (end : Option LfType) → ReadsAs ending text sig now (with_context after Γ) (length after) (bind rest last) ctx end →
      ReadsAs ending text sig old (with_context before Γ) (length before) (bind whole last) (added ++ ctx) end
  pub refuses : (last : Classifier) (fault : ElabFault) → RefusesAs ending text sig now (with_context after Γ) (length after) (bind rest last) fault →
      RefusesAs ending text sig old (with_context before Γ) (length before) (bind whole last) fault

-- What is read is these binders and what a tree is read as in their scope.
pub record ReadsAfter (ending : Ending) (text : Text) (sig : LfSignature) (binders : Bound) (Γ : Typing) (before : Context) (tree : Classifier) (ctx : Context) (end : Option LfType) : Type 0 where
  pub rest : Context
  pub whole : ctx ≡ before ++ rest
  pub read : ReadsAs ending text sig binders (with_context before Γ) (length before) tree rest end

abbrev pub RefusesAfter : Ending → Text → LfSignature → Bound → Typing → Context → Classifier → ElabFault → Type 0
RefusesAfter ending text sig binders Γ before tree fault = RefusesAs ending text sig binders (with_context before Γ) (length before) tree fault
