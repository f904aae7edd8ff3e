-- What a run that ends between two declarations has read: each part of it is a part of the grammar.
use Rattle.std.proofs.Common.{◌≡◌, ℕ, zero, suc, ◌<◌, List, [], ◌∷◌, ◌++◌, length, Option, Some, None, sym, subst, arith}
use Rattle.std.proofs.lemmas.List.{append-nil, append_assoc}
use Rattle.file_trees.specs.declared.span.Span.{Span}
use Rattle.file_trees.specs.declared.span.BinderSpan.{BinderSpan}
use Rattle.file_syntax.specs.declared.terminal.Terminal.{Terminal}
use Rattle.file_syntax.specs.declared.terminal.Terminal.TheVariants.{Word, Var, LParen, RParen, LBracket, RBracket}
use Rattle.file_trees.specs.declared.decl_tree.DeclTree.{DeclTree}
use Rattle.file_syntax.specs.declared.state.Owner.{Owner}
use Rattle.file_syntax.specs.declared.state.Owner.TheVariants.{Term as of_term}
use Rattle.file_syntax.specs.declared.state.Top.TheVariants.{Between, Arguments, AbsName, AbsClose}
use Rattle.file_syntax.specs.declared.state.Frame.{Frame}
use Rattle.file_syntax.specs.declared.state.Frame.TheVariants.{Argument}
use Rattle.file_syntax.specs.declared.state.State.{State}
use Rattle.file_trees.specs.Trees.{Tree, abstraction, applied}
use Rattle.file_syntax.specs.Productions.{binder_of, IsBound, a_name, a_variable, IsTerm, abstracts, applies, IsArgument, name, variable, term, AreArguments, no_more, one_more}
use Rattle.file_syntax.specs.Reading.{at_top, abstracted, no_argument, stepped}
use Rattle.file_syntax.proofs.Abstractions.{abstracted_append}

-- The run over the terminals ends between two declarations, after these.
abbrev pub Ends : List Terminal → Option State → List DeclTree → Type 0
Ends [] None final = ⊥
Ends [] (Some state) final = (state.top ≡ Between) × (state.decls ≡ final)
Ends (terminal ∷ terminals) state final = Ends terminals (stepped state terminal) final

pub ends_none : (terminals : List Terminal) (final : List DeclTree) → Ends terminals None final → ⊥
ends_none [] final h = h
ends_none (terminal ∷ terminals) final h = ends_none terminals final h

pub record ArgumentsRead (terminals : List Terminal) (decls : List DeclTree) (frames : List Frame) (owner : Owner) (items : List Tree) (final : List DeclTree) : Type 0 where
  pub trees : List Tree
  pub next : Terminal
  pub rest : List Terminal
  pub are : AreArguments terminals (next ∷ rest) trees
  pub shorter : length rest < length terminals
  pub go_on : Ends rest (no_argument decls frames owner (items ++ trees) next) final

pub record TermRead (terminals : List Terminal) (decls : List DeclTree) (frames : List Frame) (binders : List BinderSpan) (owner : Owner) (items : List Tree) (final : List DeclTree) : Type 0 where
  pub tree : Tree
  pub closing : Span
  pub rest : List Terminal
  pub is : IsTerm terminals (RParen closing ∷ rest) tree
  pub shorter : length rest < length terminals
  pub go_on : Ends rest (at_top decls frames (Arguments owner (items ++ abstracted binders tree ∷ []))) final

stop : (next : Terminal) (rest : List Terminal) {decls : List DeclTree} {frames : List Frame} {owner : Owner} {items : List Tree} {final : List DeclTree} →
    Ends rest (no_argument decls frames owner items next) final → ArgumentsRead (next ∷ rest) decls frames owner items final
stop next rest {decls = decls} {frames = frames} {owner = owner} {items = items} {final = final} h =
    record {
      trees = [];
      next = next;
      rest = rest;
      are = no_more (next ∷ rest);
      shorter = omega arith;
      go_on = subst (λ l. Ends rest (no_argument decls frames owner l next) final) (sym (append-nil items)) h;
    }

-- one argument before others
before : {terminals after : List Terminal} {tree : Tree} {decls : List DeclTree} {frames : List Frame} {owner : Owner} {items : List Tree} {final : List DeclTree} →
    IsArgument terminals after tree → length after < length terminals → ArgumentsRead after decls frames owner (items ++ tree ∷ []) final →
    ArgumentsRead terminals decls frames owner items final
before {terminals = terminals} {after = after} {tree = tree} {decls = decls} {frames = frames} {owner = owner} {items = items} {final = final} a h r =
    record {
      trees = tree ∷ r.trees;
      next = r.next;
      rest = r.rest;
      are = one_more terminals after (r.next ∷ r.rest) tree r.trees a r.are;
      shorter = omega (arith, r.shorter, h);
      go_on = subst (λ l. Ends r.rest (no_argument decls frames owner l r.next) final) (append_assoc items (tree ∷ []) r.trees) r.go_on;
    }

-- a term that ends after its arguments
close_arguments : (binders : List BinderSpan) {terminals after : List Terminal} {tree : Tree} {decls : List DeclTree} {frames : List Frame} {owner : Owner} {items : List Tree} {final : List DeclTree} →
    IsArgument terminals after tree → length after < length terminals →
    ArgumentsRead after decls (Argument owner items ∷ frames) (of_term binders) (tree ∷ []) final →
    TermRead terminals decls frames binders owner items final
close_arguments binders {terminals = terminals} {after = after} {tree = tree} {decls = decls} {frames = frames} {owner = owner} {items = items} {final = final} a h r =
    at_terminal r.next r.rest r.trees r.are (omega (arith, r.shorter, h)) r.go_on
  where
    at_terminal : (next : Terminal) (rest : List Terminal) (trees : List Tree) → AreArguments after (next ∷ rest) trees → length rest < length terminals →
        Ends rest (no_argument decls (Argument owner items ∷ frames) (of_term binders) (tree ∷ trees) next) final →
        TermRead terminals decls frames binders owner items final
    at_terminal (RParen closing) rest trees are short go =
        record {
          tree = applied tree trees;
          closing = closing;
          rest = rest;
          is = applies terminals after (RParen closing ∷ rest) tree trees a are;
          shorter = short;
          go_on = go;
        }
    at_terminal _ rest trees are short go = absurd (ends_none rest _ go)

-- a bound name, and then a closing bracket
data Bracketed : List Terminal → Span → List Terminal → Type 0 where
  bracketed : (bound : Terminal) (bound_name closing : Span) (rest : List Terminal) → IsBound bound bound_name → Bracketed (bound ∷ RBracket closing ∷ rest) bound_name rest

record BracketRead (terminals : List Terminal) (decls : List DeclTree) (frames : List Frame) (binders : List BinderSpan) (opening : Span) (final : List DeclTree) : Type 0 where
  bound_name : Span
  rest : List Terminal
  is : Bracketed terminals bound_name rest
  go_on : Ends rest (at_top decls frames (Arguments (of_term (binders ++ binder_of opening bound_name ∷ [])) [])) final

bracket_closed : (bound : Terminal) {bound_name : Span} → IsBound bound bound_name → (terminals : List Terminal) {decls : List DeclTree} {frames : List Frame} {binders : List BinderSpan} {opening : Span} {final : List DeclTree} →
    Ends terminals (at_top decls frames (AbsClose binders (binder_of opening bound_name))) final → BracketRead (bound ∷ terminals) decls frames binders opening final
bracket_closed bound b [] h = cc
bracket_closed bound {bound_name = bound_name} b (RBracket closing ∷ rest) h = record { bound_name = bound_name; rest = rest; is = bracketed bound bound_name closing rest b; go_on = h }
bracket_closed bound b (_ ∷ rest) h = absurd (ends_none rest _ h)

bracket_read : (terminals : List Terminal) {decls : List DeclTree} {frames : List Frame} {binders : List BinderSpan} {opening : Span} {final : List DeclTree} →
    Ends terminals (at_top decls frames (AbsName binders opening)) final → BracketRead terminals decls frames binders opening final
bracket_read [] h = cc
bracket_read (Word word span ∷ terminals) h = bracket_closed (Word word span) (a_name word span) terminals h
bracket_read (Var span ∷ terminals) h = bracket_closed (Var span) (a_variable span) terminals h
bracket_read (_ ∷ terminals) h = absurd (ends_none terminals _ h)

abstracted_read : {terminals rest : List Terminal} {opening bound_name : Span} {binders : List BinderSpan} {decls : List DeclTree} {frames : List Frame} {owner : Owner} {items : List Tree} {final : List DeclTree} →
    Bracketed terminals bound_name rest → TermRead rest decls frames (binders ++ binder_of opening bound_name ∷ []) owner items final →
    TermRead (LBracket opening ∷ terminals) decls frames binders owner items final
abstracted_read {opening = opening} {binders = binders} {decls = decls} {frames = frames} {owner = owner} {items = items} {final = final} (bracketed bound bound_name closing rest b) r =
    record {
      tree = abstraction (binder_of opening bound_name) r.tree;
      closing = r.closing;
      rest = r.rest;
      is = abstracts opening closing bound_name bound rest (RParen r.closing ∷ r.rest) r.tree b r.is;
      shorter = omega (arith, r.shorter);
      go_on = subst (λ t. Ends r.rest (at_top decls frames (Arguments owner (items ++ t ∷ []))) final) (abstracted_append binders (binder_of opening bound_name ∷ []) r.tree) r.go_on;
    }

bracketed_shorter : {terminals rest : List Terminal} {bound_name : Span} → Bracketed terminals bound_name rest → length rest < length terminals
bracketed_shorter (bracketed bound bound_name closing rest b) = omega arith

mutual
  pub arguments_read : (n : ℕ) (terminals : List Terminal) {decls : List DeclTree} {frames : List Frame} {owner : Owner} {items : List Tree} {final : List DeclTree} →
      length terminals < n → Ends terminals (at_top decls frames (Arguments owner items)) final → ArgumentsRead terminals decls frames owner items final
  arguments_read zero terminals h e = absurd (omega arith)
  arguments_read (suc n) [] h e = cc
  arguments_read (suc n) (Word word span ∷ terminals) h e =
      before (name word span terminals) (omega arith) (arguments_read n terminals (omega arith) e)
  arguments_read (suc n) (Var span ∷ terminals) h e =
      before (variable span terminals) (omega arith) (arguments_read n terminals (omega arith) e)
  arguments_read (suc n) (LParen opening ∷ terminals) {decls = decls} {frames = frames} {owner = owner} {items = items} {final = final} h e =
      let r : TermRead terminals decls frames [] owner items final = term_read n terminals (omega arith) e in
      before (term opening r.closing terminals r.rest r.tree r.is) (omega (arith, r.shorter)) (arguments_read n r.rest (omega (arith, r.shorter)) r.go_on)
  arguments_read (suc n) (next ∷ terminals) h e = stop next terminals e

  pub term_read : (n : ℕ) (terminals : List Terminal) {decls : List DeclTree} {frames : List Frame} {binders : List BinderSpan} {owner : Owner} {items : List Tree} {final : List DeclTree} →
      length terminals < n → Ends terminals (at_top decls (Argument owner items ∷ frames) (Arguments (of_term binders) [])) final →
      TermRead terminals decls frames binders owner items final
  term_read zero terminals h e = absurd (omega arith)
  term_read (suc n) [] h e = cc
  term_read (suc n) (LBracket opening ∷ terminals) {decls = decls} {frames = frames} {binders = binders} {owner = owner} {items = items} {final = final} h e =
      let b : BracketRead terminals decls (Argument owner items ∷ frames) binders opening final = bracket_read terminals e in
      let short : length b.rest < length terminals = bracketed_shorter b.is in
      abstracted_read b.is (term_read n b.rest (omega (arith, short)) b.go_on)
  term_read (suc n) (Word word span ∷ terminals) {binders = binders} h e =
      close_arguments binders (name word span terminals) (omega arith) (arguments_read n terminals (omega arith) e)
  term_read (suc n) (Var span ∷ terminals) {binders = binders} h e =
      close_arguments binders (variable span terminals) (omega arith) (arguments_read n terminals (omega arith) e)
  term_read (suc n) (LParen opening ∷ terminals) {decls = decls} {frames = frames} {binders = binders} {owner = owner} {items = items} {final = final} h e =
      let r : TermRead terminals decls (Argument owner items ∷ frames) [] (of_term binders) [] final = term_read n terminals (omega arith) e in
      close_arguments binders (term opening r.closing terminals r.rest r.tree r.is) (omega (arith, r.shorter)) (arguments_read n r.rest (omega (arith, r.shorter)) r.go_on)
  term_read (suc n) (_ ∷ terminals) h e = absurd (ends_none terminals _ e)
