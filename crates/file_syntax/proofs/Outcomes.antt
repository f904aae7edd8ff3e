-- What is known of the tokens read so far, and what follows where reading goes on, stops or ends.
use Rattle.std.proofs.Common.{◌≡◌, ℕ, zero, suc, ◌<◌, ◌≤◌, List, [], ◌∷◌, ◌++◌, length, take, drop, get_or, Option, Some, None, refl, ap, sym, ◌∙◌, subst, arith}
use Rattle.std.specs.Prelude.{sum}
use Rattle.std.proofs.lemmas.List.{append-nil, map-append, take-append-drop}
use Rattle.std.proofs.Math.Seq.{drop-cons, take-nil, take-length}
use Rattle.lex_text.specs.declared.token.Token.{Token}
use Rattle.file_syntax.specs.declared.terminal.Terminal.{Terminal}
use Rattle.file_trees.specs.declared.decl_tree.DeclTree.{DeclTree}
use Rattle.file_syntax.specs.declared.state.Top.{Top}
use Rattle.file_syntax.specs.declared.state.Top.TheVariants.{Between}
use Rattle.file_syntax.specs.declared.state.State.{State}
use Rattle.file_syntax.specs.Terminals.{terminal_of, terminals_of}
use Rattle.file_syntax.specs.Productions.{IsFile}
use Rattle.file_syntax.specs.Reading.{at_top, step, stepped, run, start}
use Rattle.file_syntax.specs.Nesting.{open_after, open_in, IsShallow}
use Rattle.file_syntax.specs.Files.{IsParsed, GoesOn, IsNoFile, IsExpected, IsTooDeep}
use Rattle.file_syntax.proofs.Derivations.{run-file}
use Rattle.file_syntax.proofs.Endings.{Ends}
use Rattle.file_syntax.proofs.FileEndings.{ends_file}
use Rattle.file_syntax.proofs.Completions.{Fits, FitsSome, run-fits, Completed, completion}

run_append : (terminals more : List Terminal) (state : Option State) → run (terminals ++ more) state ≡ run more (run terminals state)
run_append [] more state = refl
run_append (terminal ∷ terminals) more state = run_append terminals more (stepped state terminal)

run_none : (terminals : List Terminal) → run terminals None ≡ None
run_none [] = refl
run_none (terminal ∷ terminals) = run_none terminals

open_append : (terminals more : List Terminal) (opened : List ℕ) → open_in opened (terminals ++ more) ≡ open_in (open_in opened terminals) more
open_append [] more opened = refl
open_append (terminal ∷ terminals) more opened = open_append terminals more (open_after terminal opened)

ends_append : (terminals more : List Terminal) (state : Option State) (final : List DeclTree) → Ends more (run terminals state) final → Ends (terminals ++ more) state final
ends_append [] more state final h = h
ends_append (terminal ∷ terminals) more state final h = ends_append terminals more (stepped state terminal) final h

ends_run : (terminals : List Terminal) (state : Option State) (final : List DeclTree) → Ends [] (run terminals state) final → Ends terminals state final
ends_run [] state final h = h
ends_run (terminal ∷ terminals) state final h = ends_run terminals (stepped state terminal) final h

-- What was read from the start goes on to a file.
goes_on : (terminals : List Terminal) (state : State) → run terminals (Some start) ≡ Some state → GoesOn terminals
goes_on terminals state h =
    let fits : Fits state.top state.frames = subst FitsSome h (run-fits terminals (Some start) tt) in
    let c : Completed state.decls state.frames state.top = completion state.top state.frames fits state.decls in
    let ends : Ends c.more (run terminals (Some start)) c.final = subst (λ s. Ends c.more s c.final) (sym h) c.ends in
    (c.more, c.final, ends_file (terminals ++ c.more) c.final (ends_append terminals c.more (Some start) c.final ends))

abbrev is_some : Option State → Type 0
is_some None = ⊥
is_some (Some state) = Unit {0}

-- No file has the terminal that is refused.
refused_terminal : (terminals : List Terminal) (state : State) (terminal : Terminal) → run terminals (Some start) ≡ Some state → step state terminal ≡ None → GoesOn (terminals ++ terminal ∷ []) → ⊥
refused_terminal terminals state terminal h refused g =
    let e : run ((terminals ++ terminal ∷ []) ++ g.0) (Some start) ≡ None =
    run_append (terminals ++ terminal ∷ []) g.0 (Some start)
    ∙ (ap (run g.0) (run_append terminals (terminal ∷ []) (Some start) ∙ (ap (λ s. stepped s terminal) h ∙ refused)) ∙ run_none g.0) in
    let f : run ((terminals ++ terminal ∷ []) ++ g.0) (Some start) ≡ at_top g.1 [] Between = run-file g.2 in
    subst is_some (sym f ∙ e) tt

abbrev top_of : Option State → Top
top_of None = Between
top_of (Some state) = state.top

-- Terminals after which a declaration is not ended are no file.
unfinished : (terminals : List Terminal) (state : State) → run terminals (Some start) ≡ Some state → (state.top ≡ Between → ⊥) → IsNoFile terminals
unfinished terminals state h not declarations f = not (ap top_of (sym h ∙ run-file f))

finished : (terminals : List Terminal) (state : State) → run terminals (Some start) ≡ Some state → state.top ≡ Between → IsFile terminals state.decls
finished terminals state h top =
    ends_file terminals state.decls (ends_run terminals (Some start) state.decls (subst (λ s. Ends [] s state.decls) (sym h) (top, refl)))

shallow_more : (terminals : List Terminal) (opened : List ℕ) (terminal : Terminal) → ((count : ℕ) → sum (open_in opened (take count terminals)) ≤ 256) →
    sum (open_in opened (terminals ++ terminal ∷ [])) ≤ 256 → (count : ℕ) → sum (open_in opened (take count (terminals ++ terminal ∷ []))) ≤ 256
shallow_more [] opened terminal h g zero = h 0
shallow_more [] opened terminal h g (suc count) = subst (λ l. sum (open_in opened (terminal ∷ l)) ≤ 256) (sym (take-nil count)) g
shallow_more (first ∷ terminals) opened terminal h g zero = h 0
shallow_more (first ∷ terminals) opened terminal h g (suc count) = shallow_more terminals (open_after first opened) terminal (λ k. h (suc k)) g count

-- what is known after the first tokens
pub record ReadSoFar (bytes : List ℕ) (prefix : List Token) (state : State) (opened : List ℕ) : Type 0 where
  pub ran : run (terminals_of bytes prefix) (Some start) ≡ Some state
  pub opened_is : open_in [] (terminals_of bytes prefix) ≡ opened
  pub shallow : IsShallow (terminals_of bytes prefix)

pub nothing_read : (bytes : List ℕ) → ReadSoFar bytes [] start []
nothing_read bytes = record { ran = refl; opened_is = refl; shallow = λ count. rw take-nil (omega arith) }

pub depth_so_far : {bytes : List ℕ} {prefix : List Token} {state : State} {opened : List ℕ} → ReadSoFar bytes prefix state opened → sum opened ≤ 256
depth_so_far {bytes = bytes} {prefix = prefix} r =
    let e : take (length (terminals_of bytes prefix)) (terminals_of bytes prefix) ≡ terminals_of bytes prefix = take-length (terminals_of bytes prefix) in
    subst (λ o. sum o ≤ 256) r.opened_is (subst (λ l. sum (open_in [] l) ≤ 256) e (r.shallow (length (terminals_of bytes prefix))))

terminals_more : (bytes : List ℕ) (prefix : List Token) (token : Token) → terminals_of bytes (prefix ++ token ∷ []) ≡ terminals_of bytes prefix ++ terminal_of bytes token ∷ []
terminals_more bytes prefix token = map-append (terminal_of bytes) prefix (token ∷ [])

run_more : {bytes : List ℕ} {prefix : List Token} {state after : State} {opened : List ℕ} (token : Token) →
    ReadSoFar bytes prefix state opened → step state (terminal_of bytes token) ≡ Some after →
    run (terminals_of bytes prefix ++ terminal_of bytes token ∷ []) (Some start) ≡ Some after
run_more {bytes = bytes} {prefix = prefix} token r h =
    run_append (terminals_of bytes prefix) (terminal_of bytes token ∷ []) (Some start) ∙ (ap (λ s. stepped s (terminal_of bytes token)) r.ran ∙ h)

open_more : {bytes : List ℕ} {prefix : List Token} {state : State} {opened : List ℕ} (token : Token) → ReadSoFar bytes prefix state opened →
    open_in [] (terminals_of bytes prefix ++ terminal_of bytes token ∷ []) ≡ open_after (terminal_of bytes token) opened
open_more {bytes = bytes} {prefix = prefix} token r =
    open_append (terminals_of bytes prefix) (terminal_of bytes token ∷ []) [] ∙ ap (open_after (terminal_of bytes token)) r.opened_is

pub read_more : {bytes : List ℕ} {prefix : List Token} {state after : State} {opened : List ℕ} (token : Token) →
    ReadSoFar bytes prefix state opened → step state (terminal_of bytes token) ≡ Some after → sum (open_after (terminal_of bytes token) opened) ≤ 256 →
    ReadSoFar bytes (prefix ++ token ∷ []) after (open_after (terminal_of bytes token) opened)
read_more {bytes = bytes} {prefix = prefix} {after = after} {opened = opened} token r h d =
    let more : open_in [] (terminals_of bytes prefix ++ terminal_of bytes token ∷ []) ≡ open_after (terminal_of bytes token) opened = open_more token r in
    let e : terminals_of bytes prefix ++ terminal_of bytes token ∷ [] ≡ terminals_of bytes (prefix ++ token ∷ []) = sym (terminals_more bytes prefix token) in
    record {
      ran = subst (λ l. run l (Some start) ≡ Some after) e (run_more token r h);
      opened_is = subst (λ l. open_in [] l ≡ open_after (terminal_of bytes token) opened) e more;
      shallow = subst IsShallow e (shallow_more (terminals_of bytes prefix) [] (terminal_of bytes token) r.shallow (subst (λ o. sum o ≤ 256) (sym more) d));
    }

pub refused_at : {bytes : List ℕ} {prefix : List Token} {state : State} {opened : List ℕ} (tokens : List Token) (token : Token) (rest : List Token) (size : ℕ) →
    ReadSoFar bytes prefix state opened → step state (terminal_of bytes token) ≡ None → tokens ≡ prefix ++ token ∷ rest → IsExpected bytes tokens size token.start
refused_at {bytes = bytes} {prefix = prefix} {state = state} tokens token rest size r h parts =
    record {
      prefix = prefix;
      rest = token ∷ rest;
      parts = parts;
      goes_on = goes_on (terminals_of bytes prefix) state r.ran;
      no_further = refused_terminal (terminals_of bytes prefix) state (terminal_of bytes token) r.ran h;
      shallow = r.shallow;
      place_is = refl;
    }

pub too_deep_at : {bytes : List ℕ} {prefix : List Token} {state after : State} {opened : List ℕ} (tokens : List Token) (token : Token) (rest : List Token) →
    ReadSoFar bytes prefix state opened → step state (terminal_of bytes token) ≡ Some after → 256 < sum (open_after (terminal_of bytes token) opened) →
    tokens ≡ prefix ++ token ∷ rest → IsTooDeep bytes tokens token.start
too_deep_at {bytes = bytes} {prefix = prefix} {after = after} {opened = opened} tokens token rest r h d parts =
    record {
      prefix = prefix;
      token = token;
      rest = rest;
      parts = parts;
      goes_on = goes_on (terminals_of bytes prefix ++ terminal_of bytes token ∷ []) after (run_more token r h);
      shallow = r.shallow;
      deep = subst (λ o. 256 < sum o) (sym (open_more token r)) d;
      place_is = refl;
    }

pub unfinished_at : {bytes : List ℕ} {tokens : List Token} {state : State} {opened : List ℕ} (size : ℕ) →
    ReadSoFar bytes tokens state opened → (state.top ≡ Between → ⊥) → IsExpected bytes tokens size size
unfinished_at {bytes = bytes} {tokens = tokens} {state = state} size r not =
    record {
      prefix = tokens;
      rest = [];
      parts = sym (append-nil tokens);
      goes_on = goes_on (terminals_of bytes tokens) state r.ran;
      no_further = unfinished (terminals_of bytes tokens) state r.ran not;
      shallow = r.shallow;
      place_is = refl;
    }

pub parsed_whole : {bytes : List ℕ} {tokens : List Token} {state : State} {opened : List ℕ} →
    ReadSoFar bytes tokens state opened → state.top ≡ Between → IsParsed bytes tokens state.decls
parsed_whole {bytes = bytes} {tokens = tokens} {state = state} r top =
    record { file = finished (terminals_of bytes tokens) state r.ran top; shallow = r.shallow }

-- the tokens, cut at one of them
pub cut_at : (tokens : List Token) (i : ℕ) (d : Token) → i < length tokens → tokens ≡ take i tokens ++ get_or tokens i d ∷ drop (suc i) tokens
cut_at tokens i d h = sym (take-append-drop i tokens) ∙ ap (λ l. take i tokens ++ l) (drop-cons tokens i d h)
