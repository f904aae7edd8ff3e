-- The names of declarations stand at words of the file.
use Rattle.std.proofs.Common.{List, Option, Some, None}
use Rattle.std.specs.List.{AllByRecursion}
use Rattle.file_trees.specs.declared.span.Span.{Span}
use Rattle.file_trees.specs.declared.decl_tree.DeclTree.{DeclTree}
use Rattle.file_trees.specs.declared.decl_tree.DeclTree.TheVariants.{Family, Const, Theorem, Rule, Ctors}
use Rattle.file_trees.specs.Trees.{Tree, Classifier}
use Rattle.file_syntax.specs.declared.terminal.Terminal.{Terminal}
use Rattle.file_syntax.specs.Productions.{IsTerm, abstracts, applies, IsArgument, name, variable, term, AreArguments, no_more, one_more, IsType, binds, ends, goes_to, IsSimple, family_of, group, IsKind, is_type, kind_binds, kind_goes_to, IsMajorPart, no_major, major_at, IsSet, no_set, set_in, AreNames, no_name, one_name, IsDecl, a_family, a_const, a_theorem, some_data, a_rule, IsFile, no_decl, one_decl}
use Rattle.file_elab.proofs.TokenNames.{IsWordWithin}

abbrev pub SetWithin : (Span → Type 0) → Option Span → Type 0
SetWithin P None = Unit {0}
SetWithin P (Some span) = P span

-- The spans of the names that a declaration gives are among these: its own name, and the set of a rule.
abbrev pub NamesWithin : (Span → Type 0) → DeclTree → Type 0
NamesWithin P (Family named tree) = P named
NamesWithin P (Const named tree) = P named
NamesWithin P (Theorem tree) = P tree.name
NamesWithin P (Rule parts) = P parts.name × SetWithin P parts.set
NamesWithin P (Ctors named spans) = Unit {0}

-- What is true of all terminals is true of those after a part of the file.
module _ (Q : Terminal → Type 0) where
  mutual
    after_term : {terminals rest : List Terminal} {tree : Tree} → IsTerm terminals rest tree → AllByRecursion Q terminals → AllByRecursion Q rest
    after_term (abstracts opening closing named bound inside rest body is h) all = after_term h all.1.1.1
    after_term (applies terminals after rest tree arguments h hs) all = after_arguments hs (after_argument h all)

    after_argument : {terminals rest : List Terminal} {tree : Tree} → IsArgument terminals rest tree → AllByRecursion Q terminals → AllByRecursion Q rest
    after_argument (name word span rest) all = all.1
    after_argument (variable span rest) all = all.1
    after_argument (term opening closing inside rest tree h) all = (after_term h all.1).1

    after_arguments : {terminals rest : List Terminal} {trees : List Tree} → AreArguments terminals rest trees → AllByRecursion Q terminals → AllByRecursion Q rest
    after_arguments (no_more rest) all = all
    after_arguments (one_more terminals after rest tree arguments h hs) all = after_arguments hs (after_argument h all)

  mutual
    after_type : {terminals rest : List Terminal} {tree : Classifier} → IsType terminals rest tree → AllByRecursion Q terminals → AllByRecursion Q rest
    after_type (binds opening colon closing named bound inside after rest domain body is h k) all = after_type k (after_type h all.1.1.1).1
    after_type (ends terminals rest last h) all = after_simple h all
    after_type (goes_to terminals after rest span left right h k) all = after_type k (after_simple h all).1

    after_simple : {terminals rest : List Terminal} {tree : Classifier} → IsSimple terminals rest tree → AllByRecursion Q terminals → AllByRecursion Q rest
    after_simple (family_of word span terminals rest arguments hs) all = after_arguments hs all.1
    after_simple (group opening closing inside rest classifier h) all = (after_type h all.1).1

  after_kind : {terminals rest : List Terminal} {tree : Classifier} → IsKind terminals rest tree → AllByRecursion Q terminals → AllByRecursion Q rest
  after_kind (is_type span rest) all = all.1
  after_kind (kind_binds opening colon closing named bound inside after rest domain body is h k) all = after_kind k (after_type h all.1.1.1).1
  after_kind (kind_goes_to terminals after rest span left right h k) all = after_kind k (after_simple h all).1

  after_major : {terminals rest : List Terminal} {major : Option Span} → IsMajorPart terminals rest major → AllByRecursion Q terminals → AllByRecursion Q rest
  after_major (no_major rest) all = all
  after_major (major_at at_span span rest) all = all.1.1

  after_names : {terminals rest : List Terminal} {names : List Span} → AreNames terminals rest names → AllByRecursion Q terminals → AllByRecursion Q rest
  after_names (no_name rest) all = all
  after_names (one_name word span terminals rest names hs) all = after_names hs all.1

module _ (P : Span → Type 0) where
  abbrev AllWithin : List Terminal → Type 0
  AllWithin terminals = AllByRecursion (IsWordWithin P) terminals

  set_within : {terminals rest : List Terminal} {set : Option Span} → IsSet terminals rest set → AllWithin terminals → SetWithin P set × AllWithin rest
  set_within (no_set rest) all = (tt, all)
  set_within (set_in in_span word span rest) all = (all.1.0, all.1.1)

  decl_within : {terminals rest : List Terminal} {declaration : DeclTree} → IsDecl terminals rest declaration → AllWithin terminals → NamesWithin P declaration × AllWithin rest
  decl_within (a_family first named colon dot word terminals rest kind h) all = (all.1.0, (after_kind (IsWordWithin P) h all.1.1.1).1)
  decl_within (a_const first named colon dot word terminals rest classifier h) all = (all.1.0, (after_type (IsWordWithin P) h all.1.1.1).1)
  decl_within (a_theorem first named colon dot word terminals rest classifier h) all = (all.1.0, (after_type (IsWordWithin P) h all.1.1.1).1)
  decl_within (some_data first named equals dot word terminals rest names hs) all = (tt, (after_names (IsWordWithin P) hs all.1.1.1).1)
  decl_within (a_rule first named colon phase_span number builder_span subject dot word phase_word builder_word subject_word terminals after rest phase builder major set is_phase is_builder is_major is_set) all =
      let last = set_within is_set (after_major (IsWordWithin P) is_major all.1.1.1.1.1.1.1) in
      ((all.1.0, last.0), last.1.1)

  pub file_within : {terminals : List Terminal} {declarations : List DeclTree} → IsFile terminals declarations → AllWithin terminals → AllByRecursion (NamesWithin P) declarations
  file_within no_decl all = tt
  file_within (one_decl terminals rest declaration declarations h hs) all =
      let both = decl_within h all in
      (both.0, file_within hs both.1)
