-- Tokens have one verdict: each says where they stop being good, and what it says there is one.
use Rattle.std.proofs.Common.{◌≡◌, ℕ, ◌<◌, ◌≤◌, List, [], ◌∷◌, ◌++◌, length, Some, sym, ap, ◌∙◌, subst, arith}
use Rattle.std.proofs.lemmas.List.{append-nil}
use Rattle.std.proofs.Math.Seq.{take-length}
use Rattle.basics.specs.Limits.{deepest_nesting}
use Rattle.lex_text.specs.declared.token.Token.{Token}
use Rattle.file_trees.specs.declared.decl_tree.DeclTree.{DeclTree}
use Rattle.file_syntax.specs.declared.terminal.Terminal.{Terminal}
use Rattle.file_syntax.specs.Terminals.{terminal_of, terminals_of}
use Rattle.file_syntax.specs.Productions.{IsFile}
use Rattle.file_syntax.specs.Nesting.{nesting, IsShallow}
use Rattle.file_syntax.specs.Files.{IsParsed, GoesOn, GoesNoFurther, place_at, IsExpected, IsTooDeep}
use Rattle.file_syntax.proofs.Derivations.{run-file}
use Rattle.syntax_verdicts.specs.Verdicts.{Verdict, parsed, expected, too_deep, IsVerdict, TokensHaveOneVerdict}
use Rattle.syntax_verdicts.proofs.Stops.{goes_on_before, Stops, StopsAt, SamePlace, stops_once}
use Rattle.syntax_verdicts.proofs.Reached.{SomeVerdict, some_verdict}

-- What a verdict says of the prefix, at which it stops, and the rest.
abbrev FileUpTo : List ℕ → List Token → List Token → List DeclTree → Type 0
FileUpTo bytes prefix [] declarations = IsFile (terminals_of bytes prefix) declarations
FileUpTo bytes prefix (token ∷ rest) declarations = ⊥

abbrev TooDeepWith : List ℕ → List Token → List Token → ℕ → Type 0
TooDeepWith bytes prefix [] place = ⊥
TooDeepWith bytes prefix (token ∷ rest) place = GoesOn (terminals_of bytes prefix ++ terminal_of bytes token ∷ []) × (place ≡ token.start)

abbrev SaysAt : List ℕ → ℕ → List Token → List Token → Verdict → Type 0
SaysAt bytes size prefix rest (parsed declarations) = FileUpTo bytes prefix rest declarations
SaysAt bytes size prefix rest (expected place) = GoesNoFurther bytes (terminals_of bytes prefix) rest × (place ≡ place_at size rest)
SaysAt bytes size prefix rest (too_deep place) = TooDeepWith bytes prefix rest place

record Said (bytes : List ℕ) (tokens : List Token) (size : ℕ) (verdict : Verdict) : Type 0 where
  prefix : List Token
  rest : List Token
  at : StopsAt bytes tokens prefix rest
  says : SaysAt bytes size prefix rest verdict

file_goes_on : (terminals : List Terminal) (declarations : List DeclTree) → IsFile terminals declarations → GoesOn terminals
file_goes_on terminals declarations file = ([], declarations, subst (λ l. IsFile l declarations) (sym (append-nil terminals)) file)

whole_said : (bytes : List ℕ) (tokens : List Token) (size : ℕ) (declarations : List DeclTree) → IsParsed bytes tokens declarations →
    Said bytes tokens size (parsed declarations)
whole_said bytes tokens size declarations h = record {
  prefix = tokens;
  rest = [];
  at = record {
    parts = sym (append-nil tokens);
    good = (file_goes_on (terminals_of bytes tokens) declarations h.file, h.shallow);
    stops = tt;
  };
  says = h.file;
}

further_stops : (bytes : List ℕ) (prefix rest : List Token) → GoesNoFurther bytes (terminals_of bytes prefix) rest → Stops bytes prefix rest
further_stops bytes prefix [] h = tt
further_stops bytes prefix (token ∷ rest) h = λ good. h good.0

expected_said : (bytes : List ℕ) (tokens : List Token) (size place : ℕ) → IsExpected bytes tokens size place → Said bytes tokens size (expected place)
expected_said bytes tokens size place h = record {
  prefix = h.prefix;
  rest = h.rest;
  at = record {
    parts = h.parts;
    good = (h.goes_on, h.shallow);
    stops = further_stops bytes h.prefix h.rest h.no_further;
  };
  says = (h.no_further, h.place_is);
}

not_deep : (terminals : List Terminal) → IsShallow terminals → deepest_nesting < nesting terminals → ⊥
not_deep terminals shallow deep =
    let here : nesting terminals ≤ deepest_nesting =
    subst (λ l. nesting l ≤ deepest_nesting) (take-length terminals) (shallow (length terminals)) in
    omega arith

deep_said : (bytes : List ℕ) (tokens : List Token) (size place : ℕ) → IsTooDeep bytes tokens place → Said bytes tokens size (too_deep place)
deep_said bytes tokens size place h = record {
  prefix = h.prefix;
  rest = h.token ∷ h.rest;
  at = record {
    parts = h.parts;
    good = (goes_on_before (terminals_of bytes h.prefix) (terminal_of bytes h.token ∷ []) h.goes_on, h.shallow);
    stops = λ good. not_deep (terminals_of bytes h.prefix ++ terminal_of bytes h.token ∷ []) good.1 h.deep;
  };
  says = (h.goes_on, h.place_is);
}

said : (bytes : List ℕ) (tokens : List Token) (size : ℕ) (verdict : Verdict) → IsVerdict bytes tokens size verdict → Said bytes tokens size verdict
said bytes tokens size (parsed declarations) h = whole_said bytes tokens size declarations h
said bytes tokens size (expected place) h = expected_said bytes tokens size place h
said bytes tokens size (too_deep place) h = deep_said bytes tokens size place h

some_same : {A : Type 0} {a b : A} → Some a ≡ Some b → a ≡ b
some_same e = cc

-- A file is read with its declarations.
same_declarations : {terminals : List Terminal} {declarations other : List DeclTree} → IsFile terminals declarations → IsFile terminals other →
    declarations ≡ other
same_declarations one two = let read = some_same (sym (run-file one) ∙ run-file two) in λ i. (read i).decls

same_file : (bytes : List ℕ) (prefix rest : List Token) (declarations other : List DeclTree) → FileUpTo bytes prefix rest declarations →
    FileUpTo bytes prefix rest other → declarations ≡ other
same_file bytes prefix [] declarations other h k = same_declarations h k
same_file bytes prefix (token ∷ rest) declarations other h k = absurd h

no_file_further : (bytes : List ℕ) (prefix rest : List Token) (declarations : List DeclTree) → FileUpTo bytes prefix rest declarations →
    GoesNoFurther bytes (terminals_of bytes prefix) rest → ⊥
no_file_further bytes prefix [] declarations h none = none declarations h
no_file_further bytes prefix (token ∷ rest) declarations h none = h

no_deep_file : (bytes : List ℕ) (prefix rest : List Token) (declarations : List DeclTree) (place : ℕ) → FileUpTo bytes prefix rest declarations →
    TooDeepWith bytes prefix rest place → ⊥
no_deep_file bytes prefix [] declarations place h deep = deep
no_deep_file bytes prefix (token ∷ rest) declarations place h deep = h

no_deep_further : (bytes : List ℕ) (prefix rest : List Token) (place : ℕ) → GoesNoFurther bytes (terminals_of bytes prefix) rest →
    TooDeepWith bytes prefix rest place → ⊥
no_deep_further bytes prefix [] place none deep = deep
no_deep_further bytes prefix (token ∷ rest) place none deep = none deep.0

same_deep : (bytes : List ℕ) (prefix rest : List Token) (place other : ℕ) → TooDeepWith bytes prefix rest place → TooDeepWith bytes prefix rest other →
    place ≡ other
same_deep bytes prefix [] place other h k = absurd h
same_deep bytes prefix (token ∷ rest) place other h k = h.1 ∙ sym k.1

-- Two verdicts that stop at one place are one.
same_there : (bytes : List ℕ) (size : ℕ) (prefix rest : List Token) (verdict other : Verdict) → SaysAt bytes size prefix rest verdict →
    SaysAt bytes size prefix rest other → verdict ≡ other
same_there bytes size prefix rest (parsed declarations) (parsed other) h k = ap parsed (same_file bytes prefix rest declarations other h k)
same_there bytes size prefix rest (parsed declarations) (expected other) h k = absurd (no_file_further bytes prefix rest declarations h k.0)
same_there bytes size prefix rest (parsed declarations) (too_deep other) h k = absurd (no_deep_file bytes prefix rest declarations other h k)
same_there bytes size prefix rest (expected place) (parsed declarations) h k = absurd (no_file_further bytes prefix rest declarations k h.0)
same_there bytes size prefix rest (expected place) (expected other) h k = ap expected (h.1 ∙ sym k.1)
same_there bytes size prefix rest (expected place) (too_deep other) h k = absurd (no_deep_further bytes prefix rest other h.0 k)
same_there bytes size prefix rest (too_deep place) (parsed declarations) h k = absurd (no_deep_file bytes prefix rest declarations place k h)
same_there bytes size prefix rest (too_deep place) (expected other) h k = absurd (no_deep_further bytes prefix rest place k.0 h)
same_there bytes size prefix rest (too_deep place) (too_deep other) h k = ap too_deep (same_deep bytes prefix rest place other h k)

said_there : (bytes : List ℕ) (size : ℕ) (prefix rest other left : List Token) (verdict : Verdict) → SamePlace prefix rest other left →
    SaysAt bytes size other left verdict → SaysAt bytes size prefix rest verdict
said_there bytes size prefix rest other left verdict same says =
    subst (λ p. SaysAt bytes size p rest verdict) (sym same.prefix_is) (subst (λ r. SaysAt bytes size other r verdict) (sym same.rest_is) says)

same_said : (bytes : List ℕ) (tokens : List Token) (size : ℕ) (verdict other : Verdict) → Said bytes tokens size verdict → Said bytes tokens size other →
    verdict ≡ other
same_said bytes tokens size verdict other h k =
    let same : SamePlace h.prefix h.rest k.prefix k.rest = stops_once bytes tokens h.prefix h.rest k.prefix k.rest h.at k.at in
    same_there bytes size h.prefix h.rest verdict other h.says (said_there bytes size h.prefix h.rest k.prefix k.rest other same k.says)

-- Two verdicts on tokens are one.
pub same_verdict : (bytes : List ℕ) (tokens : List Token) (size : ℕ) (verdict other : Verdict) → IsVerdict bytes tokens size verdict →
    IsVerdict bytes tokens size other → verdict ≡ other
same_verdict bytes tokens size verdict other h k =
    same_said bytes tokens size verdict other (said bytes tokens size verdict h) (said bytes tokens size other k)

pub tokens_have_one_verdict : TokensHaveOneVerdict
tokens_have_one_verdict bytes tokens size =
    let found : SomeVerdict bytes tokens size = some_verdict bytes tokens size in
    record { verdict = found.0; holds = found.1; alone = λ other h. same_verdict bytes tokens size other found.0 h found.1 }
