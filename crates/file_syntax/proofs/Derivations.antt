-- Each derivation of the grammar is read: the machine goes over its terminals and keeps its tree.
use Rattle.std.proofs.Common.{◌≡◌, List, [], ◌∷◌, ◌++◌, Option, Some, refl, ap, sym, ◌∙◌}
use Rattle.file_trees.specs.declared.span.Span.{Span}
use Rattle.file_trees.specs.declared.span.BinderSpan.{BinderSpan}
use Rattle.file_syntax.specs.declared.terminal.Keyword.{Keyword}
use Rattle.file_syntax.specs.declared.terminal.Terminal.{Terminal}
use Rattle.file_syntax.specs.declared.terminal.Terminal.TheVariants.{Word, Number, Colon, Dot, Arrow, RParen, LBrace, RBrace, LBracket, RBracket}
use Rattle.file_trees.specs.declared.decl_tree.DeclTree.{DeclTree}
use Rattle.file_trees.specs.declared.decl_tree.DeclTree.TheVariants.{Family as family_tree, Const as const_tree, Theorem as theorem_tree}
use Rattle.file_trees.specs.declared.decl_tree.PhaseWord.{PhaseWord}
use Rattle.file_trees.specs.declared.decl_tree.BuildWord.{BuildWord}
use Rattle.file_syntax.specs.declared.state.Purpose.TheVariants.{Family as goal_family, Const as goal_const, Theorem as goal_theorem}
use Rattle.file_syntax.specs.declared.state.RuleHead.{RuleHead}
use Rattle.file_syntax.specs.declared.state.RulePart.TheVariants.{PastSubject}
use Rattle.file_syntax.specs.declared.state.Owner.{Owner}
use Rattle.file_syntax.specs.declared.state.Owner.TheVariants.{Family as of_family, Term as of_term}
use Rattle.file_syntax.specs.declared.state.Top.{Top}
use Rattle.file_syntax.specs.declared.state.Top.TheVariants.{Between, DataNames, InRule, TypeStart, GroupEnd, StarEnd, Arguments}
use Rattle.file_syntax.specs.declared.state.Frame.{Frame}
use Rattle.file_syntax.specs.declared.state.Frame.TheVariants.{Declared, Brace, Group, Argument}
use Rattle.file_trees.specs.Trees.{Tree, applied, Classifier, family, star, Binding, pi_of, arrow_of, bind}
use Rattle.file_syntax.specs.Productions.{binder_of, IsBound, a_name, a_variable, IsTerm, abstracts, applies, IsArgument, name, variable, term, AreArguments, no_more, one_more, IsType, binds, ends, goes_to, IsSimple, family_of, group, IsKind, is_type, kind_binds, kind_goes_to, IsPhase, norm, safe, unsafe, IsBuilder, apply, constructors, cases, forward, destruct, IsMajorPart, no_major, major_at, IsSet, no_set, set_in, AreNames, no_name, one_name, IsDecl, a_family, a_const, a_theorem, some_data, a_rule, IsFile, no_decl, one_decl}
use Rattle.file_syntax.specs.Reading.{at_top, phase_of, builder_word, with_phase, with_builder, went_on, rule_from, abstracted, close_type, past_arrow, move, run, start}
use Rattle.file_syntax.proofs.Abstractions.{abstracted_append, bind_append}
use Rattle.std.proofs.lemmas.List.{append-nil, append_assoc}

-- a term that is read up to its end: its abstractions, its head and its arguments
pub record TermEnd (terminals rest : List Terminal) (tree : Tree) (decls : List DeclTree) (frames : List Frame) (binders : List BinderSpan) : Type 0 where
  pub spans : List BinderSpan
  pub first : Tree
  pub arguments : List Tree
  pub ran : run terminals (at_top decls frames (Arguments (of_term binders) [])) ≡ run rest (at_top decls frames (Arguments (of_term spans) (first ∷ arguments)))
  pub tree_is : abstracted spans (applied first arguments) ≡ abstracted binders tree

closed-term : {inside rest : List Terminal} {closing : Span} {tree : Tree} {decls : List DeclTree} {frames : List Frame} {owner : Owner} {items : List Tree} →
    TermEnd inside (RParen closing ∷ rest) tree decls (Argument owner items ∷ frames) [] →
    run inside (at_top decls (Argument owner items ∷ frames) (Arguments (of_term []) [])) ≡ run rest (at_top decls frames (Arguments owner (items ++ tree ∷ [])))
closed-term {rest = rest} {decls = decls} {frames = frames} {owner = owner} {items = items} e =
    e.ran ∙ ap (λ t. run rest (at_top decls frames (Arguments owner (items ++ t ∷ [])))) e.tree_is

bracket-run : (bound : Terminal) {bound_name : Span} → IsBound bound bound_name → (opening closing : Span) (inside : List Terminal) (decls : List DeclTree) (frames : List Frame) (binders : List BinderSpan) →
    run (LBracket opening ∷ bound ∷ RBracket closing ∷ inside) (at_top decls frames (Arguments (of_term binders) []))
    ≡ run inside (at_top decls frames (Arguments (of_term (binders ++ binder_of opening bound_name ∷ [])) []))
bracket-run _ (a_name word span) opening closing inside decls frames binders = refl
bracket-run _ (a_variable span) opening closing inside decls frames binders = refl

mutual
  pub argument-run : {terminals rest : List Terminal} {tree : Tree} → IsArgument terminals rest tree →
      (decls : List DeclTree) (frames : List Frame) (owner : Owner) (items : List Tree) →
      run terminals (at_top decls frames (Arguments owner items)) ≡ run rest (at_top decls frames (Arguments owner (items ++ tree ∷ [])))
  argument-run (name word span rest) decls frames owner items = refl
  argument-run (variable span rest) decls frames owner items = refl
  argument-run (term opening closing inside rest tree d) decls frames owner items =
      closed-term (term-run d decls (Argument owner items ∷ frames) [])

  pub arguments-run : {terminals rest : List Terminal} {trees : List Tree} → AreArguments terminals rest trees →
      (decls : List DeclTree) (frames : List Frame) (owner : Owner) (items : List Tree) →
      run terminals (at_top decls frames (Arguments owner items)) ≡ run rest (at_top decls frames (Arguments owner (items ++ trees)))
  arguments-run (no_more rest) decls frames owner items =
      ap (λ l. run rest (at_top decls frames (Arguments owner l))) (sym (append-nil items))
  arguments-run (one_more terminals after rest tree arguments d ds) decls frames owner items =
      argument-run d decls frames owner items ∙ (arguments-run ds decls frames owner (items ++ tree ∷ [])
      ∙ ap (λ l. run rest (at_top decls frames (Arguments owner l))) (append_assoc items (tree ∷ []) arguments))

  pub term-run : {terminals rest : List Terminal} {tree : Tree} → IsTerm terminals rest tree →
      (decls : List DeclTree) (frames : List Frame) (binders : List BinderSpan) → TermEnd terminals rest tree decls frames binders
  term-run (abstracts opening closing bound_name bound inside rest body b d) decls frames binders =
      let e : TermEnd inside rest body decls frames (binders ++ binder_of opening bound_name ∷ []) = term-run d decls frames (binders ++ binder_of opening bound_name ∷ []) in
      record {
        spans = e.spans;
        first = e.first;
        arguments = e.arguments;
        ran = bracket-run bound b opening closing inside decls frames binders ∙ e.ran;
        tree_is = e.tree_is ∙ abstracted_append binders (binder_of opening bound_name ∷ []) body;
      }
  term-run (applies terminals after rest tree arguments d ds) decls frames binders =
      record {
        spans = binders;
        first = tree;
        arguments = arguments;
        ran = argument-run d decls frames (of_term binders) [] ∙ arguments-run ds decls frames (of_term binders) (tree ∷ []);
        tree_is = refl;
      }

-- a type may end here, with these bindings and this last part
pub data Ended : Top → List Binding → Classifier → Type 0 where
  ended_family : (bindings : List Binding) (span : Span) (arguments : List Tree) → Ended (Arguments (of_family bindings span) arguments) bindings (family span arguments)
  ended_group : (bindings : List Binding) (inner : Classifier) → Ended (GroupEnd bindings inner) bindings inner

arrow-move : {top : Top} {bindings : List Binding} {last : Classifier} → Ended top bindings last → (span : Span) (decls : List DeclTree) (frames : List Frame) →
    move decls frames top (Arrow span) ≡ past_arrow decls frames bindings last
arrow-move (ended_family bindings head arguments) span decls frames = refl
arrow-move (ended_group bindings inner) span decls frames = refl

dot-move : {top : Top} {bindings : List Binding} {last : Classifier} → Ended top bindings last → (span : Span) (decls : List DeclTree) (frames : List Frame) →
    move decls frames top (Dot span) ≡ close_type decls frames (bind bindings last) (Dot span)
dot-move (ended_family bindings head arguments) span decls frames = refl
dot-move (ended_group bindings inner) span decls frames = refl

rparen-move : {top : Top} {bindings : List Binding} {last : Classifier} → Ended top bindings last → (span : Span) (decls : List DeclTree) (frames : List Frame) →
    move decls frames top (RParen span) ≡ close_type decls frames (bind bindings last) (RParen span)
rparen-move (ended_family bindings head arguments) span decls frames = refl
rparen-move (ended_group bindings inner) span decls frames = refl

rbrace-move : {top : Top} {bindings : List Binding} {last : Classifier} → Ended top bindings last → (span : Span) (decls : List DeclTree) (frames : List Frame) →
    move decls frames top (RBrace span) ≡ close_type decls frames (bind bindings last) (RBrace span)
rbrace-move (ended_family bindings head arguments) span decls frames = refl
rbrace-move (ended_group bindings inner) span decls frames = refl

pub record SimpleEnd (terminals rest : List Terminal) (classifier : Classifier) (decls : List DeclTree) (frames : List Frame) (bindings : List Binding) : Type 0 where
  pub top : Top
  pub ended : Ended top bindings classifier
  pub ran : run terminals (at_top decls frames (TypeStart bindings)) ≡ run rest (at_top decls frames top)

pub record TypeEnd (terminals rest : List Terminal) (classifier : Classifier) (decls : List DeclTree) (frames : List Frame) (bindings : List Binding) : Type 0 where
  pub top : Top
  pub whole : List Binding
  pub last : Classifier
  pub ended : Ended top whole last
  pub ran : run terminals (at_top decls frames (TypeStart bindings)) ≡ run rest (at_top decls frames top)
  pub type_is : bind whole last ≡ bind bindings classifier

brace-run : (bound : Terminal) {bound_name : Span} → IsBound bound bound_name → (opening colon : Span) (inside : List Terminal) (decls : List DeclTree) (frames : List Frame) (bindings : List Binding) →
    run (LBrace opening ∷ bound ∷ Colon colon ∷ inside) (at_top decls frames (TypeStart bindings))
    ≡ run inside (at_top decls (Brace bindings (binder_of opening bound_name) ∷ frames) (TypeStart []))
brace-run _ (a_name word span) opening colon inside decls frames bindings = refl
brace-run _ (a_variable span) opening colon inside decls frames bindings = refl

closed-brace : {inside after : List Terminal} {closing : Span} {domain : Classifier} {decls : List DeclTree} {frames : List Frame} {bindings : List Binding} {binder : BinderSpan} →
    TypeEnd inside (RBrace closing ∷ after) domain decls (Brace bindings binder ∷ frames) [] →
    run inside (at_top decls (Brace bindings binder ∷ frames) (TypeStart [])) ≡ run after (at_top decls frames (TypeStart (bindings ++ pi_of binder domain ∷ [])))
closed-brace {after = after} {closing = closing} {decls = decls} {frames = frames} {bindings = bindings} {binder = binder} e =
    e.ran ∙ (ap (run after) (rbrace-move e.ended closing decls (Brace bindings binder ∷ frames))
    ∙ ap (λ c. run after (at_top decls frames (TypeStart (bindings ++ pi_of binder c ∷ [])))) e.type_is)

closed-group : {inside rest : List Terminal} {closing : Span} {classifier : Classifier} {decls : List DeclTree} {frames : List Frame} {bindings : List Binding} →
    TypeEnd inside (RParen closing ∷ rest) classifier decls (Group bindings ∷ frames) [] →
    run inside (at_top decls (Group bindings ∷ frames) (TypeStart [])) ≡ run rest (at_top decls frames (GroupEnd bindings classifier))
closed-group {rest = rest} {closing = closing} {decls = decls} {frames = frames} {bindings = bindings} e =
    e.ran ∙ (ap (run rest) (rparen-move e.ended closing decls (Group bindings ∷ frames))
    ∙ ap (λ c. run rest (at_top decls frames (GroupEnd bindings c))) e.type_is)

passed-arrow : {terminals after : List Terminal} {span : Span} {left : Classifier} {decls : List DeclTree} {frames : List Frame} {bindings : List Binding} →
    SimpleEnd terminals (Arrow span ∷ after) left decls frames bindings →
    run terminals (at_top decls frames (TypeStart bindings)) ≡ run after (at_top decls frames (TypeStart (bindings ++ arrow_of left ∷ [])))
passed-arrow {after = after} {span = span} {decls = decls} {frames = frames} e = e.ran ∙ ap (run after) (arrow-move e.ended span decls frames)

mutual
  pub type-run : {terminals rest : List Terminal} {classifier : Classifier} → IsType terminals rest classifier →
      (decls : List DeclTree) (frames : List Frame) (bindings : List Binding) → TypeEnd terminals rest classifier decls frames bindings
  type-run (binds opening colon closing bound_name bound inside after rest domain body b d k) decls frames bindings =
      let e : TypeEnd after rest body decls frames (bindings ++ pi_of (binder_of opening bound_name) domain ∷ []) =
      type-run k decls frames (bindings ++ pi_of (binder_of opening bound_name) domain ∷ []) in
      record {
        top = e.top;
        whole = e.whole;
        last = e.last;
        ended = e.ended;
        ran = brace-run bound b opening colon inside decls frames bindings
            ∙ (closed-brace (type-run d decls (Brace bindings (binder_of opening bound_name) ∷ frames) []) ∙ e.ran);
        type_is = e.type_is ∙ bind_append bindings (pi_of (binder_of opening bound_name) domain ∷ []) body;
      }
  type-run (ends terminals rest last d) decls frames bindings =
      let e : SimpleEnd terminals rest last decls frames bindings = simple-run d decls frames bindings in
      record { top = e.top; whole = bindings; last = last; ended = e.ended; ran = e.ran; type_is = refl }
  type-run (goes_to terminals after rest span left right d k) decls frames bindings =
      let e : TypeEnd after rest right decls frames (bindings ++ arrow_of left ∷ []) = type-run k decls frames (bindings ++ arrow_of left ∷ []) in
      record {
        top = e.top;
        whole = e.whole;
        last = e.last;
        ended = e.ended;
        ran = passed-arrow (simple-run d decls frames bindings) ∙ e.ran;
        type_is = e.type_is ∙ bind_append bindings (arrow_of left ∷ []) right;
      }

  pub simple-run : {terminals rest : List Terminal} {classifier : Classifier} → IsSimple terminals rest classifier →
      (decls : List DeclTree) (frames : List Frame) (bindings : List Binding) → SimpleEnd terminals rest classifier decls frames bindings
  simple-run (family_of word span terminals rest arguments ds) decls frames bindings =
      record {
        top = Arguments (of_family bindings span) arguments;
        ended = ended_family bindings span arguments;
        ran = arguments-run ds decls frames (of_family bindings span) [];
      }
  simple-run (group opening closing inside rest classifier d) decls frames bindings =
      record {
        top = GroupEnd bindings classifier;
        ended = ended_group bindings classifier;
        ran = closed-group (type-run d decls (Group bindings ∷ frames) []);
      }

pub record KindEnd (terminals rest : List Terminal) (classifier : Classifier) (decls : List DeclTree) (frames : List Frame) (bindings : List Binding) : Type 0 where
  pub whole : List Binding
  pub word : Span
  pub ran : run terminals (at_top decls frames (TypeStart bindings)) ≡ run rest (at_top decls frames (StarEnd whole word))
  pub kind_is : bind whole (star word) ≡ bind bindings classifier

pub kind-run : {terminals rest : List Terminal} {classifier : Classifier} → IsKind terminals rest classifier →
    (decls : List DeclTree) (family_name : Span) (frames : List Frame) (bindings : List Binding) →
    KindEnd terminals rest classifier decls (Declared goal_family family_name ∷ frames) bindings
kind-run (is_type span rest) decls family_name frames bindings = record { whole = bindings; word = span; ran = refl; kind_is = refl }
kind-run (kind_binds opening colon closing bound_name bound inside after rest domain body b d k) decls family_name frames bindings =
    let e : KindEnd after rest body decls (Declared goal_family family_name ∷ frames) (bindings ++ pi_of (binder_of opening bound_name) domain ∷ []) =
    kind-run k decls family_name frames (bindings ++ pi_of (binder_of opening bound_name) domain ∷ []) in
    record {
      whole = e.whole;
      word = e.word;
      ran = brace-run bound b opening colon inside decls (Declared goal_family family_name ∷ frames) bindings
          ∙ (closed-brace (type-run d decls (Brace bindings (binder_of opening bound_name) ∷ Declared goal_family family_name ∷ frames) []) ∙ e.ran);
      kind_is = e.kind_is ∙ bind_append bindings (pi_of (binder_of opening bound_name) domain ∷ []) body;
    }
kind-run (kind_goes_to terminals after rest span left right d k) decls family_name frames bindings =
    let e : KindEnd after rest right decls (Declared goal_family family_name ∷ frames) (bindings ++ arrow_of left ∷ []) =
    kind-run k decls family_name frames (bindings ++ arrow_of left ∷ []) in
    record {
      whole = e.whole;
      word = e.word;
      ran = passed-arrow (simple-run d decls (Declared goal_family family_name ∷ frames) bindings) ∙ e.ran;
      kind_is = e.kind_is ∙ bind_append bindings (arrow_of left ∷ []) right;
    }

pub names-run : {terminals rest : List Terminal} {names : List Span} → AreNames terminals rest names →
    (decls : List DeclTree) (frames : List Frame) (subject : Span) (items : List Span) →
    run terminals (at_top decls frames (DataNames subject items)) ≡ run rest (at_top decls frames (DataNames subject (items ++ names)))
names-run (no_name rest) decls frames subject items =
    ap (λ l. run rest (at_top decls frames (DataNames subject l))) (sym (append-nil items))
names-run (one_name word span terminals rest names ds) decls frames subject items =
    names-run ds decls frames subject (items ++ span ∷ [])
    ∙ ap (λ l. run rest (at_top decls frames (DataNames subject l))) (append_assoc items (span ∷ []) names)

phase-is : {word : Keyword} {phase : PhaseWord} → IsPhase word phase → phase_of word ≡ Some phase
phase-is norm = refl
phase-is safe = refl
phase-is unsafe = refl

builder-is : {word : Keyword} {builder : BuildWord} → IsBuilder word builder → builder_word word ≡ Some builder
builder-is apply = refl
builder-is constructors = refl
builder-is cases = refl
builder-is forward = refl
builder-is destruct = refl

rule_end-run : {terminals after rest : List Terminal} {dot : Span} {major set : Option Span} → IsMajorPart terminals after major → IsSet after (Dot dot ∷ rest) set →
    (decls : List DeclTree) (frames : List Frame) (rule : RuleHead) →
    run terminals (at_top decls frames (InRule (PastSubject rule))) ≡ run rest (at_top (decls ++ rule_from rule major set ∷ []) frames Between)
rule_end-run (no_major _) (no_set _) decls frames rule = refl
rule_end-run (no_major _) (set_in in_span word span rest) decls frames rule = refl
rule_end-run (major_at at_span span _) (no_set _) decls frames rule = refl
rule_end-run (major_at at_span span _) (set_in in_span word span' rest) decls frames rule = refl

pub decl-run : {terminals rest : List Terminal} {declaration : DeclTree} → IsDecl terminals rest declaration →
    (decls : List DeclTree) (frames : List Frame) →
    run terminals (at_top decls frames Between) ≡ run rest (at_top (decls ++ declaration ∷ []) frames Between)
decl-run (a_family first named colon dot word terminals rest kind k) decls frames =
    let e : KindEnd terminals (Dot dot ∷ rest) kind decls (Declared goal_family named ∷ frames) [] = kind-run k decls named frames [] in
    e.ran ∙ ap (λ c. run rest (at_top (decls ++ family_tree named c ∷ []) frames Between)) e.kind_is
decl-run (a_const first named colon dot word terminals rest classifier k) decls frames =
    let e : TypeEnd terminals (Dot dot ∷ rest) classifier decls (Declared goal_const named ∷ frames) [] = type-run k decls (Declared goal_const named ∷ frames) [] in
    e.ran ∙ (ap (run rest) (dot-move e.ended dot decls (Declared goal_const named ∷ frames))
    ∙ ap (λ c. run rest (at_top (decls ++ const_tree named c ∷ []) frames Between)) e.type_is)
decl-run (a_theorem first named colon dot word terminals rest classifier k) decls frames =
    let e : TypeEnd terminals (Dot dot ∷ rest) classifier decls (Declared goal_theorem named ∷ frames) [] = type-run k decls (Declared goal_theorem named ∷ frames) [] in
    e.ran ∙ (ap (run rest) (dot-move e.ended dot decls (Declared goal_theorem named ∷ frames))
    ∙ ap (λ c. run rest (at_top (decls ++ theorem_tree (record { name = named; statement = c }) ∷ []) frames Between)) e.type_is)
decl-run (some_data first named equals dot word terminals rest names ds) decls frames = names-run ds decls frames named []
decl-run (a_rule first named colon phase_span number builder_span subject dot word phase_word builder_word other terminals after rest phase builder major set p b m s) decls frames =
    ap (λ o. run (Number number ∷ Word builder_word builder_span ∷ Word other subject ∷ terminals) (went_on decls frames (with_phase named o))) (phase-is p)
    ∙ (ap (λ o. run (Word other subject ∷ terminals) (went_on decls frames (with_builder named phase number o))) (builder-is b)
    ∙ rule_end-run m s decls frames (record { name = named; phase = phase; number = number; builder = builder; subject = subject }))

pub file-run : {terminals : List Terminal} {declarations : List DeclTree} → IsFile terminals declarations →
    (decls : List DeclTree) (frames : List Frame) →
    run terminals (at_top decls frames Between) ≡ at_top (decls ++ declarations) frames Between
file-run no_decl decls frames = ap (λ l. at_top l frames Between) (sym (append-nil decls))
file-run (one_decl terminals rest declaration declarations d ds) decls frames =
    decl-run d decls frames ∙ (file-run ds (decls ++ declaration ∷ []) frames
    ∙ ap (λ l. at_top l frames Between) (append_assoc decls (declaration ∷ []) declarations))

-- A file is read to its end, with its declarations.
pub run-file : {terminals : List Terminal} {declarations : List DeclTree} → IsFile terminals declarations →
    run terminals (Some start) ≡ at_top declarations [] Between
run-file d = file-run d [] []
