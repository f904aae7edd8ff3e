-- Reading a term against a type: the eta-long term that it is, or the first thing that is wrong with it.
use Rattle.std.specs.Prelude.{◌≡◌, ◌≢◌, ℕ, ◌≤◌, List, [], ◌∷◌, ◌++◌, length, Some, None, slice_get}
use Rattle.lf_definitions.specs.Syntax.{LfHead, LfTerm, lam, Spine, no_args, arg, shape_of, LfType, pi, family, pis}
use Rattle.lf_definitions.specs.Substitution.{Replacement, stays, push, push_all, SubstitutedType}
use Rattle.lf_definitions.specs.Typing.{Typing, with_variable}
use Rattle.lf_definitions.specs.Signatures.{LfSignature}
use Rattle.typing_laws.specs.EtaLaws.{expanded}
use Rattle.file_trees.specs.declared.span.Span.{Span}
use Rattle.file_trees.specs.declared.span.BinderSpan.{BinderSpan}
use Rattle.file_trees.specs.Trees.{Tree, leaf, abstraction}
use Rattle.file_trees.specs.Places.{tree_place}
use Rattle.elab_terms.specs.Applied.{IsApplied}
use Rattle.elab_terms.specs.Names.{Text, text_at, binder_name, Bound, named_head}
use Rattle.elab_terms.specs.declared.elab_fault.ElabFault.{ElabFault}
use Rattle.elab_terms.specs.declared.elab_fault.ElabFault.TheVariants.{Unknown, Redex, IllTyped}

mutual
  pub data ReadsTerm (text : Text) (sig : LfSignature) : Bound → Typing → Tree → LfType → LfTerm → Type 0 where
    -- An abstraction is read at a function type: it binds its variable, and its body is read at the result type.
    reads_abstraction : (binders : Bound) (Γ : Typing) (tree : Tree) (binder : BinderSpan) (body : Tree) (a c : LfType) (b : LfTerm) →
        IsApplied tree [] (abstraction binder body) [] → ReadsTerm text sig (binder_name text binder ∷ binders) (with_variable a Γ) body c b →
        ReadsTerm text sig binders Γ tree (pi a c) (lam b)
    -- An application of a name: the arguments are read at the first binders of its type, and what remains of that is the type that is wanted.
    reads_application : (binders : Bound) (Γ : Typing) (tree : Tree) (span : Span) (arguments : List Tree) (h : LfHead) (first missing : List LfType) (f : ℕ)
        (args ts : Spine) (wanted : LfType) →
        IsApplied tree [] (leaf span) arguments → named_head sig binders (text_at text span) ≡ Some h → Γ h ≡ Some (pis (first ++ missing) (family f args)) →
        ReadsArguments text sig binders Γ stays arguments first ts → SubstitutedType (push_all ts stays) (pis missing (family f args)) wanted →
        ReadsTerm text sig binders Γ tree wanted (expanded h ts (shape_of wanted))

  -- The arguments are read at the types of the binders, to which `σ` is still to be done: it puts the arguments before these.
  pub data ReadsArguments (text : Text) (sig : LfSignature) : Bound → Typing → Replacement → List Tree → List LfType → Spine → Type 0 where
    reads_none : (binders : Bound) (Γ : Typing) (σ : Replacement) → ReadsArguments text sig binders Γ σ [] [] no_args
    reads_argument : (binders : Bound) (Γ : Typing) (σ : Replacement) (tree : Tree) (trees : List Tree) (a c : LfType) (rest : List LfType) (t : LfTerm) (ts : Spine) →
        SubstitutedType σ a c → ReadsTerm text sig binders Γ tree c t → ReadsArguments text sig binders Γ (push t σ) trees rest ts →
        ReadsArguments text sig binders Γ σ (tree ∷ trees) (a ∷ rest) (arg t ts)

mutual
  pub data RefusesTerm (text : Text) (sig : LfSignature) : Bound → Typing → Tree → LfType → ElabFault → Type 0 where
    -- an abstraction at an atomic type
    refuses_abstraction : (binders : Bound) (Γ : Typing) (tree : Tree) (binder : BinderSpan) (body : Tree) (f : ℕ) (args : Spine) →
        IsApplied tree [] (abstraction binder body) [] → RefusesTerm text sig binders Γ tree (family f args) (IllTyped binder.opening)
    refuses_body : (binders : Bound) (Γ : Typing) (tree : Tree) (binder : BinderSpan) (body : Tree) (a c : LfType) (fault : ElabFault) →
        IsApplied tree [] (abstraction binder body) [] → RefusesTerm text sig (binder_name text binder ∷ binders) (with_variable a Γ) body c fault →
        RefusesTerm text sig binders Γ tree (pi a c) fault
    -- an abstraction that is applied
    refuses_redex : (binders : Bound) (Γ : Typing) (tree argument : Tree) (binder : BinderSpan) (body : Tree) (arguments : List Tree) (wanted : LfType) →
        IsApplied tree [] (abstraction binder body) (argument ∷ arguments) → RefusesTerm text sig binders Γ tree wanted (Redex binder.opening)
    -- a name that is no variable and no constant
    refuses_name : (binders : Bound) (Γ : Typing) (tree : Tree) (span : Span) (arguments : List Tree) (wanted : LfType) →
        IsApplied tree [] (leaf span) arguments → named_head sig binders (text_at text span) ≡ None → RefusesTerm text sig binders Γ tree wanted (Unknown span.start)
    -- more arguments than the head's type has binders
    refuses_extra : (binders : Bound) (Γ : Typing) (tree extra : Tree) (span : Span) (arguments : List Tree) (h : LfHead) (domains : List LfType) (f : ℕ) (args : Spine)
        (wanted : LfType) →
        IsApplied tree [] (leaf span) arguments → named_head sig binders (text_at text span) ≡ Some h → Γ h ≡ Some (pis domains (family f args)) →
        slice_get arguments (length domains) ≡ Some extra → RefusesTerm text sig binders Γ tree wanted (IllTyped (tree_place extra))
    -- the first argument that is refused
    refuses_in_argument : (binders : Bound) (Γ : Typing) (tree : Tree) (span : Span) (arguments : List Tree) (h : LfHead) (domains : List LfType) (f : ℕ) (args : Spine)
        (wanted : LfType) (fault : ElabFault) →
        IsApplied tree [] (leaf span) arguments → named_head sig binders (text_at text span) ≡ Some h → Γ h ≡ Some (pis domains (family f args)) →
        length arguments ≤ length domains → RefusesArguments text sig binders Γ stays arguments domains fault →
        RefusesTerm text sig binders Γ tree wanted fault
    -- another type than the one that is wanted
    refuses_result : (binders : Bound) (Γ : Typing) (tree : Tree) (span : Span) (arguments : List Tree) (h : LfHead) (first missing : List LfType) (f : ℕ)
        (args ts : Spine) (found wanted : LfType) →
        IsApplied tree [] (leaf span) arguments → named_head sig binders (text_at text span) ≡ Some h → Γ h ≡ Some (pis (first ++ missing) (family f args)) →
        ReadsArguments text sig binders Γ stays arguments first ts → SubstitutedType (push_all ts stays) (pis missing (family f args)) found → found ≢ wanted →
        RefusesTerm text sig binders Γ tree wanted (IllTyped (tree_place tree))

  -- the first of the arguments that is refused
  pub data RefusesArguments (text : Text) (sig : LfSignature) : Bound → Typing → Replacement → List Tree → List LfType → ElabFault → Type 0 where
    refuses_here : (binders : Bound) (Γ : Typing) (σ : Replacement) (tree : Tree) (trees : List Tree) (a c : LfType) (rest : List LfType) (fault : ElabFault) →
        SubstitutedType σ a c → RefusesTerm text sig binders Γ tree c fault → RefusesArguments text sig binders Γ σ (tree ∷ trees) (a ∷ rest) fault
    refuses_later : (binders : Bound) (Γ : Typing) (σ : Replacement) (tree : Tree) (trees : List Tree) (a c : LfType) (rest : List LfType) (t : LfTerm) (fault : ElabFault) →
        SubstitutedType σ a c → ReadsTerm text sig binders Γ tree c t → RefusesArguments text sig binders Γ (push t σ) trees rest fault →
        RefusesArguments text sig binders Γ σ (tree ∷ trees) (a ∷ rest) fault
