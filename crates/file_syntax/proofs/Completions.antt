-- What was read from the start can always be completed to a file.
use Rattle.std.proofs.Common.{◌≡◌, if◌then◌else◌, List, [], ◌∷◌, ◌++◌, Option, Some, None, refl, sym, subst}
use Rattle.file_trees.specs.declared.span.Span.{Span}
use Rattle.file_trees.specs.declared.span.BinderSpan.{BinderSpan}
use Rattle.file_syntax.specs.declared.terminal.Keyword.{Keyword}
use Rattle.file_syntax.specs.declared.terminal.Keyword.TheVariants.{Family as family_word, Const as const_word, Theorem as theorem_word, Data as data_word, Rule as rule_word, Norm as norm_word, Apply as apply_word, Other as other_word}
use Rattle.file_syntax.specs.declared.terminal.Terminal.{Terminal}
use Rattle.file_syntax.specs.declared.terminal.Terminal.TheVariants.{TypeWord, Word, Var, Number, Colon, Dot, Equals, Arrow, LParen, RParen, LBrace, RBrace, LBracket, RBracket}
use Rattle.file_trees.specs.declared.decl_tree.DeclTree.{DeclTree}
use Rattle.file_trees.specs.declared.decl_tree.PhaseWord.{PhaseWord}
use Rattle.file_trees.specs.declared.decl_tree.BuildWord.{BuildWord}
use Rattle.file_syntax.specs.declared.state.Purpose.{Purpose}
use Rattle.file_syntax.specs.declared.state.Purpose.TheVariants.{Family as goal_family, Const as goal_const, Theorem as goal_theorem}
use Rattle.file_syntax.specs.declared.state.RulePart.{RulePart}
use Rattle.file_syntax.specs.declared.state.RulePart.TheVariants.{ToName, ToColon, ToPhase, ToNumber, ToBuilder, ToSubject, PastSubject, ToMajor, PastMajor, ToSet, PastSet}
use Rattle.file_syntax.specs.declared.state.Owner.{Owner}
use Rattle.file_syntax.specs.declared.state.Owner.TheVariants.{Family as of_family, Term as of_term}
use Rattle.file_syntax.specs.declared.state.Top.{Top}
use Rattle.file_syntax.specs.declared.state.Top.TheVariants.{Between, GoalName, GoalColon, DataName, DataEquals, DataNames, InRule, TypeStart, PiName, PiColon, GroupEnd, StarEnd, Arguments, AbsName, AbsClose}
use Rattle.file_syntax.specs.declared.state.Frame.{Frame}
use Rattle.file_syntax.specs.declared.state.Frame.TheVariants.{Declared, Brace, Group, Argument}
use Rattle.file_syntax.specs.declared.state.State.{State}
use Rattle.file_trees.specs.Trees.{Tree, leaf, applied, Classifier, family, star, Binding, pi_of, arrow_of, bind}
use Rattle.file_syntax.specs.Productions.{binder_of}
use Rattle.file_syntax.specs.Reading.{at_top, went_on, ended, abstracted, close_type, close_kind, close_term, no_argument, term_arguments, family_arguments, stands_at_kind, move, stepped, run}
use Rattle.file_syntax.specs.Reading.{started, begun, next_part, ended_rule, typed}
use Rattle.file_syntax.proofs.Endings.{Ends}

-- a type is open, whose end closes what is open around it
abbrev pub TypeOpen : List Frame → Type 0
TypeOpen (Declared goal named ∷ frames) = Unit {0}
TypeOpen (Brace bindings span ∷ frames) = TypeOpen frames
TypeOpen (Group bindings ∷ frames) = TypeOpen frames
TypeOpen (Argument owner items ∷ frames) = ⊥
TypeOpen [] = ⊥

-- a term is open, as an argument
abbrev pub TermOpen : List Frame → Type 0
TermOpen (Argument (of_family bindings span) items ∷ frames) = TypeOpen frames
TermOpen (Argument (of_term binders) items ∷ frames) = TermOpen frames
TermOpen (Declared goal named ∷ frames) = ⊥
TermOpen (Brace bindings span ∷ frames) = ⊥
TermOpen (Group bindings ∷ frames) = ⊥
TermOpen [] = ⊥

abbrev pub OwnerOpen : Owner → List Frame → Type 0
OwnerOpen (of_family bindings span) frames = TypeOpen frames
OwnerOpen (of_term binders) frames = TermOpen frames

abbrev pub KindOpen : List Frame → Type 0
KindOpen (Declared goal_family named ∷ frames) = Unit {0}
KindOpen _ = ⊥

-- what is being read fits what is open
abbrev pub Fits : Top → List Frame → Type 0
Fits Between frames = Unit {0}
Fits (GoalName goal) frames = Unit {0}
Fits (GoalColon goal named) frames = Unit {0}
Fits DataName frames = Unit {0}
Fits (DataEquals named) frames = Unit {0}
Fits (DataNames named names) frames = Unit {0}
Fits (InRule part) frames = Unit {0}
Fits (TypeStart bindings) frames = TypeOpen frames
Fits (PiName bindings span) frames = TypeOpen frames
Fits (PiColon bindings binder) frames = TypeOpen frames
Fits (GroupEnd bindings inner) frames = TypeOpen frames
Fits (StarEnd bindings span) frames = KindOpen frames
Fits (Arguments owner items) frames = OwnerOpen owner frames
Fits (AbsName binders span) frames = TermOpen frames
Fits (AbsClose binders binder) frames = TermOpen frames

abbrev pub FitsSome : Option State → Type 0
FitsSome None = Unit {0}
FitsSome (Some state) = Fits state.top state.frames

ended-fits : (decls : List DeclTree) (frames : List Frame) (declaration : Option DeclTree) → FitsSome (ended decls frames declaration)
ended-fits decls frames None = tt
ended-fits decls frames (Some declaration) = tt

went-fits : (decls : List DeclTree) (frames : List Frame) (part : Option RulePart) → FitsSome (went_on decls frames part)
went-fits decls frames None = tt
went-fits decls frames (Some part) = tt

begun-fits : (decls : List DeclTree) (frames : List Frame) (word : Keyword) → FitsSome (started decls frames (begun word))
begun-fits decls frames family_word = tt
begun-fits decls frames const_word = tt
begun-fits decls frames theorem_word = tt
begun-fits decls frames data_word = tt
begun-fits decls frames rule_word = tt
begun-fits decls frames _ = tt

star-fits : (decls : List DeclTree) (frames : List Frame) (bindings : List Binding) (span : Span) →
    FitsSome (if stands_at_kind frames then at_top decls frames (StarEnd bindings span) else None)
star-fits decls (Declared goal_family named ∷ frames) bindings span = tt
star-fits decls _ bindings span = tt

close-fits : (decls : List DeclTree) (frames : List Frame) (classifier : Classifier) (terminal : Terminal) → TypeOpen frames → FitsSome (close_type decls frames classifier terminal)
close-fits decls (Declared goal named ∷ frames) classifier (Dot span) f = ended-fits decls frames (typed goal named classifier)
close-fits decls (Brace bindings binder ∷ frames) classifier (RBrace span) f = f
close-fits decls (Group bindings ∷ frames) classifier (RParen span) f = f
close-fits decls _ classifier _ f = tt

kind-fits : (decls : List DeclTree) (frames : List Frame) (classifier : Classifier) → FitsSome (close_kind decls frames classifier)
kind-fits decls (Declared goal_family named ∷ frames) classifier = tt
kind-fits decls _ classifier = tt

close_term-fits : (decls : List DeclTree) (frames : List Frame) (tree : Tree) → TermOpen frames → FitsSome (close_term decls frames tree)
close_term-fits decls (Argument (of_family bindings span) items ∷ frames) tree f = f
close_term-fits decls (Argument (of_term binders) items ∷ frames) tree f = f
close_term-fits decls _ tree f = tt

term-fits : (decls : List DeclTree) (frames : List Frame) (binders : List BinderSpan) (items : List Tree) (terminal : Terminal) → TermOpen frames →
    FitsSome (term_arguments decls frames binders items terminal)
term-fits decls frames binders [] (LBracket span) f = f
term-fits decls frames binders (tree ∷ items) (RParen span) f = close_term-fits decls frames (abstracted binders (applied tree items)) f
term-fits decls frames binders _ _ f = tt

family-fits : (decls : List DeclTree) (frames : List Frame) (bindings : List Binding) (span : Span) (items : List Tree) (terminal : Terminal) → TypeOpen frames →
    FitsSome (family_arguments decls frames bindings span items terminal)
family-fits decls frames bindings span items (Arrow arrow_span) f = f
family-fits decls frames bindings span items terminal f = close-fits decls frames (bind bindings (family span items)) terminal f

owner-fits : (decls : List DeclTree) (frames : List Frame) (owner : Owner) (items : List Tree) (terminal : Terminal) → OwnerOpen owner frames →
    FitsSome (no_argument decls frames owner items terminal)
owner-fits decls frames (of_family bindings span) items terminal f = family-fits decls frames bindings span items terminal f
owner-fits decls frames (of_term binders) items terminal f = term-fits decls frames binders items terminal f

-- Each step keeps what is being read fit for what is open.
pub move-fits : (decls : List DeclTree) (frames : List Frame) (top : Top) (terminal : Terminal) → Fits top frames → FitsSome (move decls frames top terminal)
move-fits decls frames Between (Word word span) f = begun-fits decls frames word
move-fits decls frames Between _ f = tt
move-fits decls frames (GoalName goal) (Word word span) f = tt
move-fits decls frames (GoalName goal) _ f = tt
move-fits decls frames (GoalColon goal named) (Colon span) f = tt
move-fits decls frames (GoalColon goal named) _ f = tt
move-fits decls frames DataName (Word word span) f = tt
move-fits decls frames DataName _ f = tt
move-fits decls frames (DataEquals named) (Equals span) f = tt
move-fits decls frames (DataEquals named) _ f = tt
move-fits decls frames (DataNames named names) (Word word span) f = tt
move-fits decls frames (DataNames named names) (Dot span) f = tt
move-fits decls frames (DataNames named names) _ f = tt
move-fits decls frames (InRule part) (Dot span) f = ended-fits decls frames (ended_rule part)
move-fits decls frames (InRule part) terminal f = went-fits decls frames (next_part part terminal)
move-fits decls frames (TypeStart bindings) (TypeWord span) f = star-fits decls frames bindings span
move-fits decls frames (TypeStart bindings) (LBrace span) f = f
move-fits decls frames (TypeStart bindings) (LParen span) f = f
move-fits decls frames (TypeStart bindings) (Word word span) f = f
move-fits decls frames (TypeStart bindings) _ f = tt
move-fits decls frames (PiName bindings brace) (Word word span) f = f
move-fits decls frames (PiName bindings brace) (Var span) f = f
move-fits decls frames (PiName bindings brace) _ f = tt
move-fits decls frames (PiColon bindings binder) (Colon span) f = f
move-fits decls frames (PiColon bindings binder) _ f = tt
move-fits decls frames (GroupEnd bindings inner) (Arrow span) f = f
move-fits decls frames (GroupEnd bindings inner) terminal f = close-fits decls frames (bind bindings inner) terminal f
move-fits decls frames (StarEnd bindings word) (Dot span) f = kind-fits decls frames (bind bindings (star word))
move-fits decls frames (StarEnd bindings word) _ f = tt
move-fits decls frames (Arguments owner items) (Word word span) f = f
move-fits decls frames (Arguments owner items) (Var span) f = f
move-fits decls frames (Arguments (of_family bindings head) items) (LParen span) f = f
move-fits decls frames (Arguments (of_term binders) items) (LParen span) f = f
move-fits decls frames (Arguments owner items) terminal f = owner-fits decls frames owner items terminal f
move-fits decls frames (AbsName binders bracket) (Word word span) f = f
move-fits decls frames (AbsName binders bracket) (Var span) f = f
move-fits decls frames (AbsName binders bracket) _ f = tt
move-fits decls frames (AbsClose binders binder) (RBracket span) f = f
move-fits decls frames (AbsClose binders binder) _ f = tt

stepped-fits : (state : Option State) (terminal : Terminal) → FitsSome state → FitsSome (stepped state terminal)
stepped-fits None terminal f = tt
stepped-fits (Some state) terminal f = move-fits state.decls state.frames state.top terminal f

pub run-fits : (terminals : List Terminal) (state : Option State) → FitsSome state → FitsSome (run terminals state)
run-fits [] state f = f
run-fits (terminal ∷ terminals) state f = run-fits terminals (stepped state terminal) (stepped-fits state terminal f)

-- terminals that complete what was read to a file
pub record Completed (decls : List DeclTree) (frames : List Frame) (top : Top) : Type 0 where
  pub more : List Terminal
  pub final : List DeclTree
  pub ends : Ends more (at_top decls frames top) final

-- the span of the terminals of a completion
abbrev nowhere : Span
nowhere = record { start = 0; end = 0 }

finish_family : (frames : List Frame) → TypeOpen frames → (decls : List DeclTree) (bindings : List Binding) (span : Span) (items : List Tree) →
    Completed decls frames (Arguments (of_family bindings span) items)
finish_family (Declared goal_family named ∷ frames) f decls bindings span items =
    record { more = Arrow nowhere ∷ TypeWord nowhere ∷ Dot nowhere ∷ []; final = _; ends = (refl, refl) }
finish_family (Declared goal_const named ∷ frames) f decls bindings span items =
    record { more = Dot nowhere ∷ []; final = _; ends = (refl, refl) }
finish_family (Declared goal_theorem named ∷ frames) f decls bindings span items =
    record { more = Dot nowhere ∷ []; final = _; ends = (refl, refl) }
finish_family (Brace outer binder ∷ frames) f decls bindings span items =
    let r : Completed decls frames (Arguments (of_family (outer ++ pi_of binder (bind bindings (family span items)) ∷ []) nowhere) []) =
    finish_family frames f decls (outer ++ pi_of binder (bind bindings (family span items)) ∷ []) nowhere [] in
    record { more = RBrace nowhere ∷ Word other_word nowhere ∷ r.more; final = r.final; ends = r.ends }
finish_family (Group outer ∷ frames) f decls bindings span items =
    let r : Completed decls frames (Arguments (of_family (outer ++ arrow_of (bind bindings (family span items)) ∷ []) nowhere) []) =
    finish_family frames f decls (outer ++ arrow_of (bind bindings (family span items)) ∷ []) nowhere [] in
    record { more = RParen nowhere ∷ Arrow nowhere ∷ Word other_word nowhere ∷ r.more; final = r.final; ends = r.ends }
finish_family (Argument owner arguments ∷ frames) f decls bindings span items = absurd f
finish_family [] f decls bindings span items = absurd f

finish_term : (frames : List Frame) → TermOpen frames → (decls : List DeclTree) (binders : List BinderSpan) (tree : Tree) (items : List Tree) →
    Completed decls frames (Arguments (of_term binders) (tree ∷ items))
finish_term (Argument (of_family bindings span) arguments ∷ frames) f decls binders tree items =
    let r : Completed decls frames (Arguments (of_family bindings span) (arguments ++ abstracted binders (applied tree items) ∷ [])) =
    finish_family frames f decls bindings span (arguments ++ abstracted binders (applied tree items) ∷ []) in
    record { more = RParen nowhere ∷ r.more; final = r.final; ends = r.ends }
finish_term (Argument (of_term outer) [] ∷ frames) f decls binders tree items =
    let r : Completed decls frames (Arguments (of_term outer) (abstracted binders (applied tree items) ∷ [])) =
    finish_term frames f decls outer (abstracted binders (applied tree items)) [] in
    record { more = RParen nowhere ∷ r.more; final = r.final; ends = r.ends }
finish_term (Argument (of_term outer) (first ∷ arguments) ∷ frames) f decls binders tree items =
    let r : Completed decls frames (Arguments (of_term outer) (first ∷ (arguments ++ abstracted binders (applied tree items) ∷ []))) =
    finish_term frames f decls outer first (arguments ++ abstracted binders (applied tree items) ∷ []) in
    record { more = RParen nowhere ∷ r.more; final = r.final; ends = r.ends }
finish_term (Declared goal named ∷ frames) f decls binders tree items = absurd f
finish_term (Brace bindings span ∷ frames) f decls binders tree items = absurd f
finish_term (Group bindings ∷ frames) f decls binders tree items = absurd f
finish_term [] f decls binders tree items = absurd f

-- a terminal before a completion
after_terminal : {decls next_decls : List DeclTree} {frames next_frames : List Frame} {top next : Top} (terminal : Terminal) →
    move decls frames top terminal ≡ at_top next_decls next_frames next → Completed next_decls next_frames next → Completed decls frames top
after_terminal terminal h r = record { more = terminal ∷ r.more; final = r.final; ends = subst (λ s. Ends r.more s r.final) (sym h) r.ends }

finish_start : (frames : List Frame) → TypeOpen frames → (decls : List DeclTree) (bindings : List Binding) → Completed decls frames (TypeStart bindings)
finish_start frames f decls bindings = after_terminal (Word other_word nowhere) refl (finish_family frames f decls bindings nowhere [])

finish_goal : (goal : Purpose) (named : Span) (decls : List DeclTree) (frames : List Frame) → Completed decls frames (GoalColon goal named)
finish_goal goal named decls frames = after_terminal (Colon nowhere) refl (finish_start (Declared goal named ∷ frames) tt decls [])

finish_names : (decls : List DeclTree) (frames : List Frame) (named : Span) (names : List Span) → Completed decls frames (DataNames named names)
finish_names decls frames named names = record { more = Dot nowhere ∷ []; final = _; ends = (refl, refl) }

finish_equals : (decls : List DeclTree) (frames : List Frame) (named : Span) → Completed decls frames (DataEquals named)
finish_equals decls frames named = after_terminal (Equals nowhere) refl (finish_names decls frames named [])

finish_subject : (decls : List DeclTree) (frames : List Frame) (named : Span) (phase : PhaseWord) (number : Span) (builder : BuildWord) →
    Completed decls frames (InRule (ToSubject named phase number builder))
finish_subject decls frames named phase number builder = record { more = Word other_word nowhere ∷ Dot nowhere ∷ []; final = _; ends = (refl, refl) }

finish_builder : (decls : List DeclTree) (frames : List Frame) (named : Span) (phase : PhaseWord) (number : Span) → Completed decls frames (InRule (ToBuilder named phase number))
finish_builder decls frames named phase number = after_terminal (Word apply_word nowhere) refl (finish_subject decls frames named phase number _)

finish_number : (decls : List DeclTree) (frames : List Frame) (named : Span) (phase : PhaseWord) → Completed decls frames (InRule (ToNumber named phase))
finish_number decls frames named phase = after_terminal (Number nowhere) refl (finish_builder decls frames named phase nowhere)

finish_phase : (decls : List DeclTree) (frames : List Frame) (named : Span) → Completed decls frames (InRule (ToPhase named))
finish_phase decls frames named = after_terminal (Word norm_word nowhere) refl (finish_number decls frames named _)

finish_colon : (decls : List DeclTree) (frames : List Frame) (named : Span) → Completed decls frames (InRule (ToColon named))
finish_colon decls frames named = after_terminal (Colon nowhere) refl (finish_phase decls frames named)

finish_rule : (part : RulePart) (decls : List DeclTree) (frames : List Frame) → Completed decls frames (InRule part)
finish_rule ToName decls frames = after_terminal (Word other_word nowhere) refl (finish_colon decls frames nowhere)
finish_rule (ToColon named) decls frames = finish_colon decls frames named
finish_rule (ToPhase named) decls frames = finish_phase decls frames named
finish_rule (ToNumber named phase) decls frames = finish_number decls frames named phase
finish_rule (ToBuilder named phase number) decls frames = finish_builder decls frames named phase number
finish_rule (ToSubject named phase number builder) decls frames = finish_subject decls frames named phase number builder
finish_rule (PastSubject rule) decls frames = record { more = Dot nowhere ∷ []; final = _; ends = (refl, refl) }
finish_rule (ToMajor rule) decls frames = record { more = Number nowhere ∷ Dot nowhere ∷ []; final = _; ends = (refl, refl) }
finish_rule (PastMajor rule major) decls frames = record { more = Dot nowhere ∷ []; final = _; ends = (refl, refl) }
finish_rule (ToSet rule major) decls frames = record { more = Word other_word nowhere ∷ Dot nowhere ∷ []; final = _; ends = (refl, refl) }
finish_rule (PastSet rule major set) decls frames = record { more = Dot nowhere ∷ []; final = _; ends = (refl, refl) }

finish_star : (frames : List Frame) → KindOpen frames → (decls : List DeclTree) (bindings : List Binding) (word : Span) → Completed decls frames (StarEnd bindings word)
finish_star (Declared goal_family named ∷ frames) f decls bindings word = record { more = Dot nowhere ∷ []; final = _; ends = (refl, refl) }
finish_star _ f decls bindings word = absurd f

finish_head : (frames : List Frame) → TermOpen frames → (decls : List DeclTree) (binders : List BinderSpan) → Completed decls frames (Arguments (of_term binders) [])
finish_head frames f decls binders = after_terminal (Word other_word nowhere) refl (finish_term frames f decls binders (leaf nowhere) [])

finish_bracket : (frames : List Frame) → TermOpen frames → (decls : List DeclTree) (binders : List BinderSpan) (binder : BinderSpan) → Completed decls frames (AbsClose binders binder)
finish_bracket frames f decls binders binder = after_terminal (RBracket nowhere) refl (finish_head frames f decls (binders ++ binder ∷ []))

-- Whatever is being read can be completed.
pub completion : (top : Top) (frames : List Frame) → Fits top frames → (decls : List DeclTree) → Completed decls frames top
completion Between frames f decls = record { more = []; final = decls; ends = (refl, refl) }
completion (GoalName goal) frames f decls = after_terminal (Word other_word nowhere) refl (finish_goal goal nowhere decls frames)
completion (GoalColon goal named) frames f decls = finish_goal goal named decls frames
completion DataName frames f decls = after_terminal (Word other_word nowhere) refl (finish_equals decls frames nowhere)
completion (DataEquals named) frames f decls = finish_equals decls frames named
completion (DataNames named names) frames f decls = finish_names decls frames named names
completion (InRule part) frames f decls = finish_rule part decls frames
completion (TypeStart bindings) frames f decls = finish_start frames f decls bindings
completion (PiName bindings brace) frames f decls =
    after_terminal (Word other_word nowhere) refl (after_terminal (Colon nowhere) refl (finish_start (Brace bindings (binder_of brace nowhere) ∷ frames) f decls []))
completion (PiColon bindings binder) frames f decls = after_terminal (Colon nowhere) refl (finish_start (Brace bindings binder ∷ frames) f decls [])
completion (GroupEnd bindings inner) frames f decls = after_terminal (Arrow nowhere) refl (finish_start frames f decls (bindings ++ arrow_of inner ∷ []))
completion (StarEnd bindings word) frames f decls = finish_star frames f decls bindings word
completion (Arguments (of_family bindings span) items) frames f decls = finish_family frames f decls bindings span items
completion (Arguments (of_term binders) []) frames f decls = finish_head frames f decls binders
completion (Arguments (of_term binders) (tree ∷ items)) frames f decls = finish_term frames f decls binders tree items
completion (AbsName binders bracket) frames f decls = after_terminal (Word other_word nowhere) refl (finish_bracket frames f decls binders (binder_of bracket nowhere))
completion (AbsClose binders binder) frames f decls = finish_bracket frames f decls binders binder
