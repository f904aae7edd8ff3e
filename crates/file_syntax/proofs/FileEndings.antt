-- What a run that ends between two declarations has read: the declarations of a file.
use Rattle.std.proofs.Common.{◌≡◌, ℕ, zero, suc, ◌<◌, ◌≤◌, List, [], ◌∷◌, ◌++◌, length, Option, Some, None, refl, sym, ◌∙◌, subst, arith}
use Rattle.std.proofs.lemmas.List.{append-nil, append_assoc}
use Rattle.file_trees.specs.declared.span.Span.{Span}
use Rattle.file_syntax.specs.declared.terminal.Keyword.{Keyword}
use Rattle.file_syntax.specs.declared.terminal.Keyword.TheVariants.{Family as family_word, Const as const_word, Theorem as theorem_word, Data as data_word, Rule as rule_word, Norm as norm_word, Safe as safe_word, Unsafe as unsafe_word, Apply as apply_word, Constructors as constructors_word, Cases as cases_word, Forward as forward_word, Destruct as destruct_word, At as at_word, In as in_word}
use Rattle.file_syntax.specs.declared.terminal.Terminal.{Terminal}
use Rattle.file_syntax.specs.declared.terminal.Terminal.TheVariants.{Word, Number, Colon, Dot, Equals}
use Rattle.file_trees.specs.declared.decl_tree.DeclTree.{DeclTree}
use Rattle.file_trees.specs.declared.decl_tree.DeclTree.TheVariants.{Family as family_tree, Const as const_tree, Theorem as theorem_tree, Ctors as ctors_tree}
use Rattle.file_trees.specs.declared.decl_tree.PhaseWord.{PhaseWord}
use Rattle.file_trees.specs.declared.decl_tree.BuildWord.{BuildWord}
use Rattle.file_syntax.specs.declared.state.Purpose.{Purpose}
use Rattle.file_syntax.specs.declared.state.Purpose.TheVariants.{Family as goal_family, Const as goal_const, Theorem as goal_theorem}
use Rattle.file_syntax.specs.declared.state.RuleHead.{RuleHead}
use Rattle.file_syntax.specs.declared.state.RulePart.{RulePart}
use Rattle.file_syntax.specs.declared.state.RulePart.TheVariants.{ToName, ToColon, ToPhase, ToNumber, ToBuilder, ToSubject, PastSubject, ToMajor, PastMajor, ToSet, PastSet}
use Rattle.file_syntax.specs.declared.state.Top.TheVariants.{Between, GoalName, GoalColon, DataName, DataEquals, DataNames, InRule, TypeStart}
use Rattle.file_syntax.specs.declared.state.Frame.{Frame}
use Rattle.file_syntax.specs.declared.state.Frame.TheVariants.{Declared}
use Rattle.file_trees.specs.Trees.{Classifier}
use Rattle.file_syntax.specs.Productions.{IsType, IsPhase, norm, safe, unsafe, IsBuilder, apply, constructors, cases, forward, destruct, IsMajorPart, no_major, major_at, IsSet, no_set, set_in, AreNames, no_name, one_name, IsDecl, a_family, a_const, a_theorem, some_data, a_rule, IsFile, no_decl, one_decl}
use Rattle.file_syntax.specs.Reading.{at_top, rule_from, close_type, start}
use Rattle.file_syntax.proofs.Endings.{Ends, ends_none}
use Rattle.file_syntax.proofs.TypeEndings.{TypeRead, type_read, KindRead, kind_read}

-- the rest of a rule after a part of it, terminal by terminal
data RuleRest : RulePart → List Terminal → List Terminal → DeclTree → Type 0 where
  rest_name : (word : Keyword) (span : Span) (terminals rest : List Terminal) (declaration : DeclTree) →
      RuleRest (ToColon span) terminals rest declaration → RuleRest ToName (Word word span ∷ terminals) rest declaration
  rest_colon : (named colon : Span) (terminals rest : List Terminal) (declaration : DeclTree) →
      RuleRest (ToPhase named) terminals rest declaration → RuleRest (ToColon named) (Colon colon ∷ terminals) rest declaration
  rest_phase : (named : Span) (word : Keyword) (span : Span) (phase : PhaseWord) (terminals rest : List Terminal) (declaration : DeclTree) →
      IsPhase word phase → RuleRest (ToNumber named phase) terminals rest declaration → RuleRest (ToPhase named) (Word word span ∷ terminals) rest declaration
  rest_number : (named : Span) (phase : PhaseWord) (number : Span) (terminals rest : List Terminal) (declaration : DeclTree) →
      RuleRest (ToBuilder named phase number) terminals rest declaration → RuleRest (ToNumber named phase) (Number number ∷ terminals) rest declaration
  rest_builder : (named : Span) (phase : PhaseWord) (number : Span) (word : Keyword) (span : Span) (builder : BuildWord) (terminals rest : List Terminal) (declaration : DeclTree) →
      IsBuilder word builder → RuleRest (ToSubject named phase number builder) terminals rest declaration → RuleRest (ToBuilder named phase number) (Word word span ∷ terminals) rest declaration
  rest_subject : (named : Span) (phase : PhaseWord) (number : Span) (builder : BuildWord) (word : Keyword) (subject : Span) (terminals rest : List Terminal) (declaration : DeclTree) →
      RuleRest (PastSubject (record { name = named; phase = phase; number = number; builder = builder; subject = subject })) terminals rest declaration →
      RuleRest (ToSubject named phase number builder) (Word word subject ∷ terminals) rest declaration
  rest_ends : (rule : RuleHead) (terminals after rest : List Terminal) (dot : Span) (major set : Option Span) →
      IsMajorPart terminals after major → IsSet after (Dot dot ∷ rest) set → RuleRest (PastSubject rule) terminals rest (rule_from rule major set)

record RuleRead (part : RulePart) (terminals : List Terminal) (decls : List DeclTree) (frames : List Frame) (final : List DeclTree) : Type 0 where
  declaration : DeclTree
  rest : List Terminal
  is : RuleRest part terminals rest declaration
  shorter : length rest < length terminals
  go_on : Ends rest (at_top (decls ++ declaration ∷ []) frames Between) final

-- the end of a rule, after its subject and what is read of the rest
record SetRead (rule : RuleHead) (major : Option Span) (terminals : List Terminal) (decls : List DeclTree) (frames : List Frame) (final : List DeclTree) : Type 0 where
  set : Option Span
  dot : Span
  rest : List Terminal
  is : IsSet terminals (Dot dot ∷ rest) set
  shorter : length rest < length terminals
  go_on : Ends rest (at_top (decls ++ rule_from rule major set ∷ []) frames Between) final

past_set : (rule : RuleHead) (major : Option Span) (in_span : Span) (word : Keyword) (set : Span) (terminals : List Terminal) {decls : List DeclTree} {frames : List Frame} {final : List DeclTree} →
    Ends terminals (at_top decls frames (InRule (PastSet rule major set))) final → SetRead rule major (Word in_word in_span ∷ Word word set ∷ terminals) decls frames final
past_set rule major in_span word set [] e = cc
past_set rule major in_span word set (Dot dot ∷ rest) e =
    record { set = Some set; dot = dot; rest = rest; is = set_in in_span word set (Dot dot ∷ rest); shorter = omega arith; go_on = e }
past_set rule major in_span word set (_ ∷ rest) e = absurd (ends_none rest _ e)

to_set : (rule : RuleHead) (major : Option Span) (in_span : Span) (terminals : List Terminal) {decls : List DeclTree} {frames : List Frame} {final : List DeclTree} →
    Ends terminals (at_top decls frames (InRule (ToSet rule major))) final → SetRead rule major (Word in_word in_span ∷ terminals) decls frames final
to_set rule major in_span [] e = cc
to_set rule major in_span (Word word set ∷ terminals) e = past_set rule major in_span word set terminals e
to_set rule major in_span (_ ∷ terminals) e = absurd (ends_none terminals _ e)

past_major_read : (rule : RuleHead) (major : Span) (terminals : List Terminal) {decls : List DeclTree} {frames : List Frame} {final : List DeclTree} →
    Ends terminals (at_top decls frames (InRule (PastMajor rule major))) final → SetRead rule (Some major) terminals decls frames final
past_major_read rule major [] e = cc
past_major_read rule major (Dot dot ∷ rest) e = record { set = None; dot = dot; rest = rest; is = no_set (Dot dot ∷ rest); shorter = omega arith; go_on = e }
past_major_read rule major (Word in_word span ∷ terminals) e = to_set rule (Some major) span terminals e
past_major_read rule major (_ ∷ terminals) e = absurd (ends_none terminals _ e)

rule_ended : (rule : RuleHead) {terminals after : List Terminal} {major : Option Span} {decls : List DeclTree} {frames : List Frame} {final : List DeclTree} →
    IsMajorPart terminals after major → length after ≤ length terminals → SetRead rule major after decls frames final → RuleRead (PastSubject rule) terminals decls frames final
rule_ended rule {terminals = terminals} {after = after} {major = major} m h r =
    record {
      declaration = rule_from rule major r.set;
      rest = r.rest;
      is = rest_ends rule terminals after r.rest r.dot major r.set m r.is;
      shorter = omega (arith, r.shorter, h);
      go_on = r.go_on;
    }

to_major : (rule : RuleHead) (at_span : Span) (terminals : List Terminal) {decls : List DeclTree} {frames : List Frame} {final : List DeclTree} →
    Ends terminals (at_top decls frames (InRule (ToMajor rule))) final → RuleRead (PastSubject rule) (Word at_word at_span ∷ terminals) decls frames final
to_major rule at_span [] e = cc
to_major rule at_span (Number major ∷ terminals) e = rule_ended rule (major_at at_span major terminals) (omega arith) (past_major_read rule major terminals e)
to_major rule at_span (_ ∷ terminals) e = absurd (ends_none terminals _ e)

past_subject_read : (rule : RuleHead) (terminals : List Terminal) {decls : List DeclTree} {frames : List Frame} {final : List DeclTree} →
    Ends terminals (at_top decls frames (InRule (PastSubject rule))) final → RuleRead (PastSubject rule) terminals decls frames final
past_subject_read rule [] e = cc
past_subject_read rule (Dot dot ∷ rest) e =
    rule_ended rule (no_major (Dot dot ∷ rest)) (omega arith) (record { set = None; dot = dot; rest = rest; is = no_set (Dot dot ∷ rest); shorter = omega arith; go_on = e })
past_subject_read rule (Word at_word span ∷ terminals) e = to_major rule span terminals e
past_subject_read rule (Word in_word span ∷ terminals) e = rule_ended rule (no_major (Word in_word span ∷ terminals)) (omega arith) (to_set rule None span terminals e)
past_subject_read rule (_ ∷ terminals) e = absurd (ends_none terminals _ e)

to_subject : (named : Span) (phase : PhaseWord) (number : Span) (builder : BuildWord) (terminals : List Terminal) {decls : List DeclTree} {frames : List Frame} {final : List DeclTree} →
    Ends terminals (at_top decls frames (InRule (ToSubject named phase number builder))) final → RuleRead (ToSubject named phase number builder) terminals decls frames final
to_subject named phase number builder [] e = cc
to_subject named phase number builder (Word word subject ∷ terminals) {decls = decls} {frames = frames} {final = final} e =
    let rule : RuleHead = record { name = named; phase = phase; number = number; builder = builder; subject = subject } in
    let r : RuleRead (PastSubject rule) terminals decls frames final = past_subject_read rule terminals e in
    record {
      declaration = r.declaration;
      rest = r.rest;
      is = rest_subject named phase number builder word subject terminals r.rest r.declaration r.is;
      shorter = omega (arith, r.shorter);
      go_on = r.go_on;
    }
to_subject named phase number builder (_ ∷ terminals) e = absurd (ends_none terminals _ e)

builder_read : (named : Span) (phase : PhaseWord) (number : Span) (word : Keyword) (span : Span) (builder : BuildWord) (terminals : List Terminal) {decls : List DeclTree} {frames : List Frame} {final : List DeclTree} →
    IsBuilder word builder → Ends terminals (at_top decls frames (InRule (ToSubject named phase number builder))) final →
    RuleRead (ToBuilder named phase number) (Word word span ∷ terminals) decls frames final
builder_read named phase number word span builder terminals {decls = decls} {frames = frames} {final = final} b e =
    let r : RuleRead (ToSubject named phase number builder) terminals decls frames final = to_subject named phase number builder terminals e in
    record {
      declaration = r.declaration;
      rest = r.rest;
      is = rest_builder named phase number word span builder terminals r.rest r.declaration b r.is;
      shorter = omega (arith, r.shorter);
      go_on = r.go_on;
    }

to_builder : (named : Span) (phase : PhaseWord) (number : Span) (terminals : List Terminal) {decls : List DeclTree} {frames : List Frame} {final : List DeclTree} →
    Ends terminals (at_top decls frames (InRule (ToBuilder named phase number))) final → RuleRead (ToBuilder named phase number) terminals decls frames final
to_builder named phase number [] e = cc
to_builder named phase number (Word apply_word span ∷ terminals) e = builder_read named phase number apply_word span _ terminals apply e
to_builder named phase number (Word constructors_word span ∷ terminals) e = builder_read named phase number constructors_word span _ terminals constructors e
to_builder named phase number (Word cases_word span ∷ terminals) e = builder_read named phase number cases_word span _ terminals cases e
to_builder named phase number (Word forward_word span ∷ terminals) e = builder_read named phase number forward_word span _ terminals forward e
to_builder named phase number (Word destruct_word span ∷ terminals) e = builder_read named phase number destruct_word span _ terminals destruct e
to_builder named phase number (_ ∷ terminals) e = absurd (ends_none terminals _ e)

to_number : (named : Span) (phase : PhaseWord) (terminals : List Terminal) {decls : List DeclTree} {frames : List Frame} {final : List DeclTree} →
    Ends terminals (at_top decls frames (InRule (ToNumber named phase))) final → RuleRead (ToNumber named phase) terminals decls frames final
to_number named phase [] e = cc
to_number named phase (Number number ∷ terminals) {decls = decls} {frames = frames} {final = final} e =
    let r : RuleRead (ToBuilder named phase number) terminals decls frames final = to_builder named phase number terminals e in
    record {
      declaration = r.declaration;
      rest = r.rest;
      is = rest_number named phase number terminals r.rest r.declaration r.is;
      shorter = omega (arith, r.shorter);
      go_on = r.go_on;
    }
to_number named phase (_ ∷ terminals) e = absurd (ends_none terminals _ e)

phase_read : (named : Span) (word : Keyword) (span : Span) (phase : PhaseWord) (terminals : List Terminal) {decls : List DeclTree} {frames : List Frame} {final : List DeclTree} →
    IsPhase word phase → Ends terminals (at_top decls frames (InRule (ToNumber named phase))) final →
    RuleRead (ToPhase named) (Word word span ∷ terminals) decls frames final
phase_read named word span phase terminals {decls = decls} {frames = frames} {final = final} p e =
    let r : RuleRead (ToNumber named phase) terminals decls frames final = to_number named phase terminals e in
    record {
      declaration = r.declaration;
      rest = r.rest;
      is = rest_phase named word span phase terminals r.rest r.declaration p r.is;
      shorter = omega (arith, r.shorter);
      go_on = r.go_on;
    }

to_phase : (named : Span) (terminals : List Terminal) {decls : List DeclTree} {frames : List Frame} {final : List DeclTree} →
    Ends terminals (at_top decls frames (InRule (ToPhase named))) final → RuleRead (ToPhase named) terminals decls frames final
to_phase named [] e = cc
to_phase named (Word norm_word span ∷ terminals) e = phase_read named norm_word span _ terminals norm e
to_phase named (Word safe_word span ∷ terminals) e = phase_read named safe_word span _ terminals safe e
to_phase named (Word unsafe_word span ∷ terminals) e = phase_read named unsafe_word span _ terminals unsafe e
to_phase named (_ ∷ terminals) e = absurd (ends_none terminals _ e)

to_colon : (named : Span) (terminals : List Terminal) {decls : List DeclTree} {frames : List Frame} {final : List DeclTree} →
    Ends terminals (at_top decls frames (InRule (ToColon named))) final → RuleRead (ToColon named) terminals decls frames final
to_colon named [] e = cc
to_colon named (Colon colon ∷ terminals) {decls = decls} {frames = frames} {final = final} e =
    let r : RuleRead (ToPhase named) terminals decls frames final = to_phase named terminals e in
    record {
      declaration = r.declaration;
      rest = r.rest;
      is = rest_colon named colon terminals r.rest r.declaration r.is;
      shorter = omega (arith, r.shorter);
      go_on = r.go_on;
    }
to_colon named (_ ∷ terminals) e = absurd (ends_none terminals _ e)

rule_of : (first : Span) {terminals rest : List Terminal} {declaration : DeclTree} → RuleRest ToName terminals rest declaration → IsDecl (Word rule_word first ∷ terminals) rest declaration
rule_of first (rest_name word named _ rest _ (rest_colon _ colon _ _ _ (rest_phase _ phase_word phase_span phase _ _ _ p (rest_number _ _ number _ _ _ (rest_builder _ _ _ builder_word builder_span builder _ _ _ b (rest_subject _ _ _ _ other subject _ _ _ (rest_ends _ terminals after _ dot major set m s))))))) =
    a_rule first named colon phase_span number builder_span subject dot word phase_word builder_word other terminals after rest phase builder major set p b m s

-- one declaration, and the rest
pub record DeclRead (terminals : List Terminal) (decls : List DeclTree) (frames : List Frame) (final : List DeclTree) : Type 0 where
  pub declaration : DeclTree
  pub rest : List Terminal
  pub is : IsDecl terminals rest declaration
  pub shorter : length rest < length terminals
  pub go_on : Ends rest (at_top (decls ++ declaration ∷ []) frames Between) final

rule_read : (first : Span) (terminals : List Terminal) {decls : List DeclTree} {frames : List Frame} {final : List DeclTree} →
    Ends terminals (at_top decls frames (InRule ToName)) final → DeclRead (Word rule_word first ∷ terminals) decls frames final
rule_read first [] e = cc
rule_read first (Word word named ∷ terminals) {decls = decls} {frames = frames} {final = final} e =
    let r : RuleRead (ToColon named) terminals decls frames final = to_colon named terminals e in
    record {
      declaration = r.declaration;
      rest = r.rest;
      is = rule_of first (rest_name word named terminals r.rest r.declaration r.is);
      shorter = omega (arith, r.shorter);
      go_on = r.go_on;
    }
rule_read first (_ ∷ terminals) e = absurd (ends_none terminals _ e)

record NamesRead (terminals : List Terminal) (decls : List DeclTree) (frames : List Frame) (subject : Span) (items : List Span) (final : List DeclTree) : Type 0 where
  names : List Span
  dot : Span
  rest : List Terminal
  are : AreNames terminals (Dot dot ∷ rest) names
  shorter : length rest < length terminals
  go_on : Ends rest (at_top (decls ++ ctors_tree subject (items ++ names) ∷ []) frames Between) final

names_read : (terminals : List Terminal) {decls : List DeclTree} {frames : List Frame} {subject : Span} {items : List Span} {final : List DeclTree} →
    Ends terminals (at_top decls frames (DataNames subject items)) final → NamesRead terminals decls frames subject items final
names_read [] e = cc
names_read (Dot dot ∷ rest) {decls = decls} {frames = frames} {subject = subject} {items = items} {final = final} e =
    record {
      names = [];
      dot = dot;
      rest = rest;
      are = no_name (Dot dot ∷ rest);
      shorter = omega arith;
      go_on = subst (λ l. Ends rest (at_top (decls ++ ctors_tree subject l ∷ []) frames Between) final) (sym (append-nil items)) e;
    }
names_read (Word word span ∷ terminals) {decls = decls} {frames = frames} {subject = subject} {items = items} {final = final} e =
    let r : NamesRead terminals decls frames subject (items ++ span ∷ []) final = names_read terminals e in
    record {
      names = span ∷ r.names;
      dot = r.dot;
      rest = r.rest;
      are = one_name word span terminals (Dot r.dot ∷ r.rest) r.names r.are;
      shorter = omega (arith, r.shorter);
      go_on = subst (λ l. Ends r.rest (at_top (decls ++ ctors_tree subject l ∷ []) frames Between) final) (append_assoc items (span ∷ []) r.names) r.go_on;
    }
names_read (_ ∷ terminals) e = absurd (ends_none terminals _ e)

data_equals_read : (first : Span) (word : Keyword) (subject : Span) (terminals : List Terminal) {decls : List DeclTree} {frames : List Frame} {final : List DeclTree} →
    Ends terminals (at_top decls frames (DataEquals subject)) final → DeclRead (Word data_word first ∷ Word word subject ∷ terminals) decls frames final
data_equals_read first word subject [] e = cc
data_equals_read first word subject (Equals equals ∷ terminals) {decls = decls} {frames = frames} {final = final} e =
    let r : NamesRead terminals decls frames subject [] final = names_read terminals e in
    record {
      declaration = ctors_tree subject r.names;
      rest = r.rest;
      is = some_data first subject equals r.dot word terminals r.rest r.names r.are;
      shorter = omega (arith, r.shorter);
      go_on = r.go_on;
    }
data_equals_read first word subject (_ ∷ terminals) e = absurd (ends_none terminals _ e)

data_read : (first : Span) (terminals : List Terminal) {decls : List DeclTree} {frames : List Frame} {final : List DeclTree} →
    Ends terminals (at_top decls frames DataName) final → DeclRead (Word data_word first ∷ terminals) decls frames final
data_read first [] e = cc
data_read first (Word word subject ∷ terminals) e = data_equals_read first word subject terminals e
data_read first (_ ∷ terminals) e = absurd (ends_none terminals _ e)

-- the name and the colon of a declaration of a type or a kind
data Headed : List Terminal → Keyword → Span → Span → List Terminal → Type 0 where
  headed : (word : Keyword) (named colon : Span) (rest : List Terminal) → Headed (Word word named ∷ Colon colon ∷ rest) word named colon rest

record HeadRead (goal : Purpose) (terminals : List Terminal) (decls : List DeclTree) (frames : List Frame) (final : List DeclTree) : Type 0 where
  word : Keyword
  named : Span
  colon : Span
  rest : List Terminal
  is : Headed terminals word named colon rest
  go_on : Ends rest (at_top decls (Declared goal named ∷ frames) (TypeStart [])) final

head_colon : (goal : Purpose) (word : Keyword) (named : Span) (terminals : List Terminal) {decls : List DeclTree} {frames : List Frame} {final : List DeclTree} →
    Ends terminals (at_top decls frames (GoalColon goal named)) final → HeadRead goal (Word word named ∷ terminals) decls frames final
head_colon goal word named [] e = cc
head_colon goal word named (Colon colon ∷ rest) e = record { word = word; named = named; colon = colon; rest = rest; is = headed word named colon rest; go_on = e }
head_colon goal word named (_ ∷ rest) e = absurd (ends_none rest _ e)

head_read : (goal : Purpose) (terminals : List Terminal) {decls : List DeclTree} {frames : List Frame} {final : List DeclTree} →
    Ends terminals (at_top decls frames (GoalName goal)) final → HeadRead goal terminals decls frames final
head_read goal [] e = cc
head_read goal (Word word named ∷ terminals) e = head_colon goal word named terminals e
head_read goal (_ ∷ terminals) e = absurd (ends_none terminals _ e)

family_declared : (first : Span) {terminals rest : List Terminal} {word : Keyword} {named colon : Span} {decls : List DeclTree} {frames : List Frame} {final : List DeclTree} →
    Headed terminals word named colon rest → KindRead rest decls named frames [] final → DeclRead (Word family_word first ∷ terminals) decls frames final
family_declared first (headed word named colon rest) r =
    record {
      declaration = family_tree named r.kind;
      rest = r.rest;
      is = a_family first named colon r.dot word rest r.rest r.kind r.is;
      shorter = omega (arith, r.shorter);
      go_on = r.go_on;
    }

const_declared : (first : Span) {terminals rest : List Terminal} {word : Keyword} {named colon : Span} {decls : List DeclTree} {frames : List Frame} {final : List DeclTree} →
    Headed terminals word named colon rest → TypeRead rest decls (Declared goal_const named ∷ frames) [] final → DeclRead (Word const_word first ∷ terminals) decls frames final
const_declared first {decls = decls} {frames = frames} {final = final} (headed word named colon terminals) r = at_terminal r.classifier r.next r.rest r.is r.shorter r.go_on
  where
    at_terminal : (classifier : Classifier) (next : Terminal) (rest : List Terminal) → IsType terminals (next ∷ rest) classifier → length rest < length terminals →
        Ends rest (close_type decls (Declared goal_const named ∷ frames) classifier next) final →
        DeclRead (Word const_word first ∷ Word word named ∷ Colon colon ∷ terminals) decls frames final
    at_terminal classifier (Dot dot) rest is short go =
        record {
          declaration = const_tree named classifier;
          rest = rest;
          is = a_const first named colon dot word terminals rest classifier is;
          shorter = omega (arith, short);
          go_on = go;
        }
    at_terminal _ _ rest is short go = absurd (ends_none rest _ go)

theorem_declared : (first : Span) {terminals rest : List Terminal} {word : Keyword} {named colon : Span} {decls : List DeclTree} {frames : List Frame} {final : List DeclTree} →
    Headed terminals word named colon rest → TypeRead rest decls (Declared goal_theorem named ∷ frames) [] final → DeclRead (Word theorem_word first ∷ terminals) decls frames final
theorem_declared first {decls = decls} {frames = frames} {final = final} (headed word named colon terminals) r = at_terminal r.classifier r.next r.rest r.is r.shorter r.go_on
  where
    at_terminal : (classifier : Classifier) (next : Terminal) (rest : List Terminal) → IsType terminals (next ∷ rest) classifier → length rest < length terminals →
        Ends rest (close_type decls (Declared goal_theorem named ∷ frames) classifier next) final →
        DeclRead (Word theorem_word first ∷ Word word named ∷ Colon colon ∷ terminals) decls frames final
    at_terminal classifier (Dot dot) rest is short go =
        record {
          declaration = theorem_tree (record { name = named; statement = classifier });
          rest = rest;
          is = a_theorem first named colon dot word terminals rest classifier is;
          shorter = omega (arith, short);
          go_on = go;
        }
    at_terminal _ _ rest is short go = absurd (ends_none rest _ go)

family_read : (first : Span) (terminals : List Terminal) {decls : List DeclTree} {frames : List Frame} {final : List DeclTree} →
    Ends terminals (at_top decls frames (GoalName goal_family)) final → DeclRead (Word family_word first ∷ terminals) decls frames final
family_read first terminals {decls = decls} {frames = frames} {final = final} e =
    let r : HeadRead goal_family terminals decls frames final = head_read goal_family terminals e in
    family_declared first r.is (kind_read (suc (length r.rest)) r.rest (omega arith) r.go_on)

const_read : (first : Span) (terminals : List Terminal) {decls : List DeclTree} {frames : List Frame} {final : List DeclTree} →
    Ends terminals (at_top decls frames (GoalName goal_const)) final → DeclRead (Word const_word first ∷ terminals) decls frames final
const_read first terminals {decls = decls} {frames = frames} {final = final} e =
    let r : HeadRead goal_const terminals decls frames final = head_read goal_const terminals e in
    const_declared first r.is (type_read (suc (length r.rest)) r.rest (omega arith) refl r.go_on)

theorem_read : (first : Span) (terminals : List Terminal) {decls : List DeclTree} {frames : List Frame} {final : List DeclTree} →
    Ends terminals (at_top decls frames (GoalName goal_theorem)) final → DeclRead (Word theorem_word first ∷ terminals) decls frames final
theorem_read first terminals {decls = decls} {frames = frames} {final = final} e =
    let r : HeadRead goal_theorem terminals decls frames final = head_read goal_theorem terminals e in
    theorem_declared first r.is (type_read (suc (length r.rest)) r.rest (omega arith) refl r.go_on)

decl_read : (terminal : Terminal) (terminals : List Terminal) {decls : List DeclTree} {frames : List Frame} {final : List DeclTree} →
    Ends (terminal ∷ terminals) (at_top decls frames Between) final → DeclRead (terminal ∷ terminals) decls frames final
decl_read (Word family_word first) terminals e = family_read first terminals e
decl_read (Word const_word first) terminals e = const_read first terminals e
decl_read (Word theorem_word first) terminals e = theorem_read first terminals e
decl_read (Word data_word first) terminals e = data_read first terminals e
decl_read (Word rule_word first) terminals e = rule_read first terminals e
decl_read _ terminals e = absurd (ends_none terminals _ e)

pub record FileRead (terminals : List Terminal) (decls final : List DeclTree) : Type 0 where
  pub declarations : List DeclTree
  pub is : IsFile terminals declarations
  pub final_is : decls ++ declarations ≡ final

file_read : (n : ℕ) (terminals : List Terminal) (frames : List Frame) {decls final : List DeclTree} →
    length terminals < n → Ends terminals (at_top decls frames Between) final → FileRead terminals decls final
file_read zero terminals frames h e = absurd (omega arith)
file_read (suc n) [] frames {decls = decls} h e = record { declarations = []; is = no_decl; final_is = append-nil decls ∙ e.1 }
file_read (suc n) (terminal ∷ terminals) frames {decls = decls} {final = final} h e =
    let r : DeclRead (terminal ∷ terminals) decls frames final = decl_read terminal terminals e in
    let f : FileRead r.rest (decls ++ r.declaration ∷ []) final = file_read n r.rest frames (omega (arith, r.shorter)) r.go_on in
    record {
      declarations = r.declaration ∷ f.declarations;
      is = one_decl (terminal ∷ terminals) r.rest r.declaration f.declarations r.is f.is;
      final_is = sym (append_assoc decls (r.declaration ∷ []) f.declarations) ∙ f.final_is;
    }

-- A run from the start that ends between two declarations has read a file.
pub ends_file : (terminals : List Terminal) (final : List DeclTree) → Ends terminals (Some start) final → IsFile terminals final
ends_file terminals final e =
    let r : FileRead terminals [] final = file_read (suc (length terminals)) terminals [] (omega arith) e in
    subst (IsFile terminals) r.final_is r.is
