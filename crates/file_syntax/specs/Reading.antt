-- Reading a file from the left: what each terminal does to what was read before it, and where it is refused.
-- Only contracts of private functions cite these definitions. What `parse` promises is stated without them, by the grammar.
use Rattle.std.specs.Prelude.{Bool, true, false, if◌then◌else◌, List, [], ◌∷◌, ◌++◌, Option, Some, None}
use Rattle.file_trees.specs.declared.span.Span.{Span}
use Rattle.file_trees.specs.declared.span.BinderSpan.{BinderSpan}
use Rattle.file_syntax.specs.declared.terminal.Keyword.{Keyword}
use Rattle.file_syntax.specs.declared.terminal.Keyword.TheVariants.{Family as family_word, Const as const_word, Theorem as theorem_word, Data as data_word, Rule as rule_word, Norm as norm_word, Safe as safe_word, Unsafe as unsafe_word, Apply as apply_word, Constructors as constructors_word, Cases as cases_word, Forward as forward_word, Destruct as destruct_word, At as at_word, In as in_word}
use Rattle.file_syntax.specs.declared.terminal.Terminal.{Terminal}
use Rattle.file_syntax.specs.declared.terminal.Terminal.TheVariants.{TypeWord, Word, Var, Number, Colon, Dot, Equals, Arrow, LParen, RParen, LBrace, RBrace, LBracket, RBracket}
use Rattle.file_trees.specs.declared.decl_tree.PhaseWord.{PhaseWord}
use Rattle.file_trees.specs.declared.decl_tree.PhaseWord.TheVariants.{Norm, Safe, Unsafe}
use Rattle.file_trees.specs.declared.decl_tree.BuildWord.{BuildWord}
use Rattle.file_trees.specs.declared.decl_tree.BuildWord.TheVariants.{Apply, Constructors, Cases, Forward, Destruct}
use Rattle.file_trees.specs.declared.decl_tree.DeclTree.{DeclTree}
use Rattle.file_trees.specs.declared.decl_tree.DeclTree.TheVariants.{Family as family_tree, Const as const_tree, Theorem as theorem_tree, Rule as rule_tree, Ctors as ctors_tree}
use Rattle.file_syntax.specs.declared.state.Purpose.{Purpose}
use Rattle.file_syntax.specs.declared.state.Purpose.TheVariants.{Family as a_family, Const as a_const, Theorem as a_theorem}
use Rattle.file_syntax.specs.declared.state.RuleHead.{RuleHead}
use Rattle.file_syntax.specs.declared.state.RulePart.{RulePart}
use Rattle.file_syntax.specs.declared.state.RulePart.TheVariants.{ToName, ToColon, ToPhase, ToNumber, ToBuilder, ToSubject, PastSubject, ToMajor, PastMajor, ToSet, PastSet}
use Rattle.file_syntax.specs.declared.state.Owner.{Owner}
use Rattle.file_syntax.specs.declared.state.Owner.TheVariants.{Family as of_family, Term as of_term}
use Rattle.file_syntax.specs.declared.state.Top.{Top}
use Rattle.file_syntax.specs.declared.state.Top.TheVariants.{Between, GoalName, GoalColon, DataName, DataEquals, DataNames, InRule, TypeStart, PiName, PiColon, GroupEnd, StarEnd, Arguments, AbsName, AbsClose}
use Rattle.file_syntax.specs.declared.state.Frame.{Frame}
use Rattle.file_syntax.specs.declared.state.Frame.TheVariants.{Declared, Brace, Group, Argument}
use Rattle.file_syntax.specs.declared.state.State.{State}
use Rattle.file_syntax.specs.Productions.{binder_of}
use Rattle.file_trees.specs.Trees.{Tree, leaf, abstraction, applied, Classifier, family, star, Binding, pi_of, arrow_of, bind}

abbrev pub at_top : List DeclTree → List Frame → Top → Option State
at_top decls frames top = Some (record { decls = decls; frames = frames; top = top })

-- the first word of a declaration
abbrev pub begun : Keyword → Option Top
begun family_word = Some (GoalName a_family)
begun const_word = Some (GoalName a_const)
begun theorem_word = Some (GoalName a_theorem)
begun data_word = Some DataName
begun rule_word = Some (InRule ToName)
begun _ = None

abbrev pub phase_of : Keyword → Option PhaseWord
phase_of norm_word = Some Norm
phase_of safe_word = Some Safe
phase_of unsafe_word = Some Unsafe
phase_of _ = None

abbrev pub builder_word : Keyword → Option BuildWord
builder_word apply_word = Some Apply
builder_word constructors_word = Some Constructors
builder_word cases_word = Some Cases
builder_word forward_word = Some Forward
builder_word destruct_word = Some Destruct
builder_word _ = None

abbrev pub with_phase : Span → Option PhaseWord → Option RulePart
with_phase name None = None
with_phase name (Some phase) = Some (ToNumber name phase)

abbrev pub with_builder : Span → PhaseWord → Span → Option BuildWord → Option RulePart
with_builder name phase number None = None
with_builder name phase number (Some builder) = Some (ToSubject name phase number builder)

abbrev pub past_subject : RuleHead → Keyword → Option RulePart
past_subject rule at_word = Some (ToMajor rule)
past_subject rule in_word = Some (ToSet rule None)
past_subject rule _ = None

abbrev pub past_major : RuleHead → Span → Keyword → Option RulePart
past_major rule major in_word = Some (ToSet rule (Some major))
past_major rule major _ = None

abbrev pub next_word : RulePart → Keyword → Span → Option RulePart
next_word ToName word span = Some (ToColon span)
next_word (ToPhase name) word span = with_phase name (phase_of word)
next_word (ToBuilder name phase number) word span = with_builder name phase number (builder_word word)
next_word (ToSubject name phase number builder) word span =
    Some (PastSubject (record { name = name; phase = phase; number = number; builder = builder; subject = span }))
next_word (PastSubject rule) word span = past_subject rule word
next_word (PastMajor rule major) word span = past_major rule major word
next_word (ToSet rule major) word span = Some (PastSet rule major span)
next_word _ word span = None

abbrev pub next_number : RulePart → Span → Option RulePart
next_number (ToNumber name phase) span = Some (ToBuilder name phase span)
next_number (ToMajor rule) span = Some (PastMajor rule span)
next_number _ span = None

abbrev pub next_colon : RulePart → Option RulePart
next_colon (ToColon name) = Some (ToPhase name)
next_colon _ = None

-- the next part of a rule, but for its end
abbrev pub next_part : RulePart → Terminal → Option RulePart
next_part part (Word word span) = next_word part word span
next_part part (Number span) = next_number part span
next_part part (Colon span) = next_colon part
next_part part _ = None

abbrev pub rule_from : RuleHead → Option Span → Option Span → DeclTree
rule_from rule major set =
    rule_tree (record { name = rule.name; phase = rule.phase; number = rule.number; builder = rule.builder; subject = rule.subject; major = major; set = set })

-- the rule that may end here
abbrev pub ended_rule : RulePart → Option DeclTree
ended_rule (PastSubject rule) = Some (rule_from rule None None)
ended_rule (PastMajor rule major) = Some (rule_from rule (Some major) None)
ended_rule (PastSet rule major set) = Some (rule_from rule major (Some set))
ended_rule _ = None

abbrev pub ended : List DeclTree → List Frame → Option DeclTree → Option State
ended decls frames None = None
ended decls frames (Some declaration) = at_top (decls ++ declaration ∷ []) frames Between

abbrev pub went_on : List DeclTree → List Frame → Option RulePart → Option State
went_on decls frames None = None
went_on decls frames (Some part) = at_top decls frames (InRule part)

abbrev pub in_rule : List DeclTree → List Frame → RulePart → Terminal → Option State
in_rule decls frames part (Dot span) = ended decls frames (ended_rule part)
in_rule decls frames part terminal = went_on decls frames (next_part part terminal)

abbrev pub started : List DeclTree → List Frame → Option Top → Option State
started decls frames None = None
started decls frames (Some top) = at_top decls frames top

abbrev pub between : List DeclTree → List Frame → Terminal → Option State
between decls frames (Word word span) = started decls frames (begun word)
between decls frames _ = None

abbrev pub goal_name : List DeclTree → List Frame → Purpose → Terminal → Option State
goal_name decls frames goal (Word word span) = at_top decls frames (GoalColon goal span)
goal_name decls frames goal _ = None

abbrev pub goal_colon : List DeclTree → List Frame → Purpose → Span → Terminal → Option State
goal_colon decls frames goal name (Colon span) = at_top decls (Declared goal name ∷ frames) (TypeStart [])
goal_colon decls frames goal name _ = None

abbrev pub data_name : List DeclTree → List Frame → Terminal → Option State
data_name decls frames (Word word span) = at_top decls frames (DataEquals span)
data_name decls frames _ = None

abbrev pub data_equals : List DeclTree → List Frame → Span → Terminal → Option State
data_equals decls frames name (Equals span) = at_top decls frames (DataNames name [])
data_equals decls frames name _ = None

abbrev pub data_names : List DeclTree → List Frame → Span → List Span → Terminal → Option State
data_names decls frames name names (Word word span) = at_top decls frames (DataNames name (names ++ span ∷ []))
data_names decls frames name names (Dot span) = at_top (decls ++ ctors_tree name names ∷ []) frames Between
data_names decls frames name names _ = None

-- Whether the word `type` may stand here as the last part of a type: it ends the kind of a family.
abbrev pub stands_at_kind : List Frame → Bool
stands_at_kind (Declared a_family name ∷ frames) = true
stands_at_kind _ = false

abbrev pub type_start : List DeclTree → List Frame → List Binding → Terminal → Option State
type_start decls frames bindings (TypeWord span) =
    if stands_at_kind frames then at_top decls frames (StarEnd bindings span) else None
type_start decls frames bindings (LBrace span) = at_top decls frames (PiName bindings span)
type_start decls frames bindings (LParen span) = at_top decls (Group bindings ∷ frames) (TypeStart [])
type_start decls frames bindings (Word word span) = at_top decls frames (Arguments (of_family bindings span) [])
type_start decls frames bindings _ = None

abbrev pub pi_name : List DeclTree → List Frame → List Binding → Span → Terminal → Option State
pi_name decls frames bindings brace (Word word span) = at_top decls frames (PiColon bindings (binder_of brace span))
pi_name decls frames bindings brace (Var span) = at_top decls frames (PiColon bindings (binder_of brace span))
pi_name decls frames bindings brace _ = None

abbrev pub pi_colon : List DeclTree → List Frame → List Binding → BinderSpan → Terminal → Option State
pi_colon decls frames bindings binder (Colon span) = at_top decls (Brace bindings binder ∷ frames) (TypeStart [])
pi_colon decls frames bindings binder _ = None

-- a declaration of a type
abbrev pub typed : Purpose → Span → Classifier → Option DeclTree
typed a_family name classifier = None
typed a_const name classifier = Some (const_tree name classifier)
typed a_theorem name classifier = Some (theorem_tree (record { name = name; statement = classifier }))

abbrev pub close_brace : List DeclTree → List Frame → List Binding → BinderSpan → Classifier → Option State
close_brace decls frames bindings binder classifier = at_top decls frames (TypeStart (bindings ++ pi_of binder classifier ∷ []))

abbrev pub past_arrow : List DeclTree → List Frame → List Binding → Classifier → Option State
past_arrow decls frames bindings left = at_top decls frames (TypeStart (bindings ++ arrow_of left ∷ []))

-- The type ends at the terminal.
abbrev pub close_type : List DeclTree → List Frame → Classifier → Terminal → Option State
close_type decls (Declared goal name ∷ frames) classifier (Dot span) = ended decls frames (typed goal name classifier)
close_type decls (Brace bindings binder ∷ frames) classifier (RBrace span) = close_brace decls frames bindings binder classifier
close_type decls (Group bindings ∷ frames) classifier (RParen span) = at_top decls frames (GroupEnd bindings classifier)
close_type decls _ classifier _ = None

abbrev pub group_end : List DeclTree → List Frame → List Binding → Classifier → Terminal → Option State
group_end decls frames bindings inner (Arrow span) = past_arrow decls frames bindings inner
group_end decls frames bindings inner terminal = close_type decls frames (bind bindings inner) terminal

abbrev pub close_kind : List DeclTree → List Frame → Classifier → Option State
close_kind decls (Declared a_family name ∷ frames) classifier = at_top (decls ++ family_tree name classifier ∷ []) frames Between
close_kind decls _ classifier = None

abbrev pub star_end : List DeclTree → List Frame → List Binding → Span → Terminal → Option State
star_end decls frames bindings word (Dot span) = close_kind decls frames (bind bindings (star word))
star_end decls frames bindings word _ = None

abbrev pub more_arguments : List DeclTree → List Frame → Owner → List Tree → Tree → Option State
more_arguments decls frames owner arguments argument = at_top decls frames (Arguments owner (arguments ++ argument ∷ []))

-- the term under its abstractions, the outermost first
abbrev pub abstracted : List BinderSpan → Tree → Tree
abstracted [] tree = tree
abstracted (binder ∷ binders) tree = abstraction binder (abstracted binders tree)

-- The term ends.
abbrev pub close_term : List DeclTree → List Frame → Tree → Option State
close_term decls (Argument owner arguments ∷ frames) tree = more_arguments decls frames owner arguments tree
close_term decls _ tree = None

abbrev pub family_arguments : List DeclTree → List Frame → List Binding → Span → List Tree → Terminal → Option State
family_arguments decls frames bindings head arguments (Arrow span) = past_arrow decls frames bindings (family head arguments)
family_arguments decls frames bindings head arguments terminal = close_type decls frames (bind bindings (family head arguments)) terminal

abbrev pub term_arguments : List DeclTree → List Frame → List BinderSpan → List Tree → Terminal → Option State
term_arguments decls frames binders [] (LBracket span) = at_top decls frames (AbsName binders span)
term_arguments decls frames binders (tree ∷ arguments) (RParen span) =
    close_term decls frames (abstracted binders (applied tree arguments))
term_arguments decls frames binders _ _ = None

abbrev pub no_argument : List DeclTree → List Frame → Owner → List Tree → Terminal → Option State
no_argument decls frames (of_family bindings head) arguments terminal = family_arguments decls frames bindings head arguments terminal
no_argument decls frames (of_term binders) arguments terminal = term_arguments decls frames binders arguments terminal

abbrev pub among_arguments : List DeclTree → List Frame → Owner → List Tree → Terminal → Option State
among_arguments decls frames owner arguments (Word word span) = more_arguments decls frames owner arguments (leaf span)
among_arguments decls frames owner arguments (Var span) = more_arguments decls frames owner arguments (leaf span)
among_arguments decls frames owner arguments (LParen span) =
    at_top decls (Argument owner arguments ∷ frames) (Arguments (of_term []) [])
among_arguments decls frames owner arguments terminal = no_argument decls frames owner arguments terminal

abbrev pub abs_name : List DeclTree → List Frame → List BinderSpan → Span → Terminal → Option State
abs_name decls frames binders bracket (Word word span) = at_top decls frames (AbsClose binders (binder_of bracket span))
abs_name decls frames binders bracket (Var span) = at_top decls frames (AbsClose binders (binder_of bracket span))
abs_name decls frames binders bracket _ = None

abbrev pub abs_close : List DeclTree → List Frame → List BinderSpan → BinderSpan → Terminal → Option State
abs_close decls frames binders binder (RBracket span) = at_top decls frames (Arguments (of_term (binders ++ binder ∷ [])) [])
abs_close decls frames binders binder _ = None

abbrev pub move : List DeclTree → List Frame → Top → Terminal → Option State
move decls frames Between terminal = between decls frames terminal
move decls frames (GoalName goal) terminal = goal_name decls frames goal terminal
move decls frames (GoalColon goal name) terminal = goal_colon decls frames goal name terminal
move decls frames DataName terminal = data_name decls frames terminal
move decls frames (DataEquals name) terminal = data_equals decls frames name terminal
move decls frames (DataNames name names) terminal = data_names decls frames name names terminal
move decls frames (InRule part) terminal = in_rule decls frames part terminal
move decls frames (TypeStart bindings) terminal = type_start decls frames bindings terminal
move decls frames (PiName bindings brace) terminal = pi_name decls frames bindings brace terminal
move decls frames (PiColon bindings binder) terminal = pi_colon decls frames bindings binder terminal
move decls frames (GroupEnd bindings inner) terminal = group_end decls frames bindings inner terminal
move decls frames (StarEnd bindings word) terminal = star_end decls frames bindings word terminal
move decls frames (Arguments owner arguments) terminal = among_arguments decls frames owner arguments terminal
move decls frames (AbsName binders bracket) terminal = abs_name decls frames binders bracket terminal
move decls frames (AbsClose binders binder) terminal = abs_close decls frames binders binder terminal

-- The state after the terminal, or none where it is refused.
abbrev pub step : State → Terminal → Option State
step state terminal = move state.decls state.frames state.top terminal

abbrev pub stepped : Option State → Terminal → Option State
stepped None terminal = None
stepped (Some state) terminal = step state terminal

-- the state after the terminals
abbrev pub run : List Terminal → Option State → Option State
run [] state = state
run (terminal ∷ terminals) state = run terminals (stepped state terminal)

-- before the first terminal
abbrev pub start : State
start = record { decls = []; frames = []; top = Between }
