-- Bytes that are accepted are refused for nothing, since each pass has one answer.
use Rattle.std.proofs.Common.{◌≡◌, ℕ, ◌<◌, List, [], ◌∷◌, ◌++◌, length, refl, sym, ap, ◌∙◌, subst, arith, append_assoc, Option, None, Some}
use Rattle.std.proofs.lemmas.List.{append-nil, map-append, take_at}
use Rattle.lex_text.specs.declared.token.Token.{Token}
use Rattle.lex_text.specs.Tokens.{bad_character, long_name}
use Rattle.lex_text.proofs.Unique.{TokensOf-unique, TokensOf-not_wrong, TokensOf-not_not_utf8}
use Rattle.file_trees.specs.declared.decl_tree.DeclTree.{DeclTree}
use Rattle.file_syntax.specs.declared.terminal.Terminal.{Terminal}
use Rattle.file_syntax.specs.Terminals.{terminal_of, terminals_of}
use Rattle.file_syntax.specs.Productions.{IsFile}
use Rattle.file_syntax.specs.Nesting.{nesting, IsShallow}
use Rattle.file_syntax.specs.Files.{IsParsed, GoesNoFurther, IsExpected, IsTooDeep}
use Rattle.file_syntax.proofs.Derivations.{run-file}
use Rattle.elab_terms.specs.declared.elab_fault.ElabFault.{ElabFault}
use Rattle.elab_terms.specs.declared.elab_fault.ElabFault.TheVariants as faults
use Rattle.file_elab.specs.Programs.{LfProgram, IsParsedFrom, IsProgram}
use Rattle.aesop_session.specs.declared.refusal.RefusalKind.{RefusalKind}
use Rattle.aesop_session.specs.declared.refusal.RefusalKind.TheVariants.{NotUtf8, BadCharacter, LongName, Expected, TooDeep, Taken, TooMany, Unknown, Redex, IllTyped, BadRule}
use Rattle.aesop_session.specs.Refusals.{IsAccepted, HasFault, RefusesText}
use Rattle.file_elab.proofs.OneProgram.{program_not_refused}

-- the terminals of tokens of which these come first
terminals_of-parts : (bytes : List ℕ) (prefix rest tokens : List Token) → tokens ≡ prefix ++ rest → terminals_of bytes tokens ≡ terminals_of bytes prefix ++ terminals_of bytes rest
terminals_of-parts bytes prefix rest tokens e = ap (terminals_of bytes) e ∙ map-append (terminal_of bytes) prefix rest

terminals_of-token : (bytes : List ℕ) (prefix rest tokens : List Token) (token : Token) → tokens ≡ prefix ++ token ∷ rest →
    terminals_of bytes tokens ≡ (terminals_of bytes prefix ++ terminal_of bytes token ∷ []) ++ terminals_of bytes rest
terminals_of-token bytes prefix rest tokens token e =
    terminals_of-parts bytes prefix (token ∷ rest) tokens e ∙ sym (append_assoc (terminals_of bytes prefix) (terminal_of bytes token ∷ []) (terminals_of bytes rest))

-- a file goes on with each of its tokens
goes_further : (bytes : List ℕ) (prefix rest tokens : List Token) (declarations : List DeclTree) → tokens ≡ prefix ++ rest → IsFile (terminals_of bytes tokens) declarations →
    GoesNoFurther bytes (terminals_of bytes prefix) rest → ⊥
goes_further bytes prefix [] tokens declarations e file none = none declarations (subst (λ ts. IsFile (terminals_of bytes ts) declarations) (e ∙ append-nil prefix) file)
goes_further bytes prefix (token ∷ rest) tokens declarations e file none =
    none (terminals_of bytes rest, declarations, subst (λ terminals. IsFile terminals declarations) (terminals_of-token bytes prefix rest tokens token e) file)

IsParsed-not_expected : (bytes : List ℕ) (tokens : List Token) (size place : ℕ) (declarations : List DeclTree) → IsParsed bytes tokens declarations → IsExpected bytes tokens size place → ⊥
IsParsed-not_expected bytes tokens size place declarations parsed h = goes_further bytes h.prefix h.rest tokens declarations h.parts parsed.file h.no_further

-- a prefix of what is shallow is so
shallow_prefix : (prefix rest : List Terminal) → IsShallow (prefix ++ rest) → 256 < nesting prefix → ⊥
shallow_prefix prefix rest shallow deep =
    let same = ap nesting (take_at prefix rest (length prefix) refl) in
    omega (arith, shallow (length prefix), same, deep)

IsParsed-not_deep : (bytes : List ℕ) (tokens : List Token) (place : ℕ) (declarations : List DeclTree) → IsParsed bytes tokens declarations → IsTooDeep bytes tokens place → ⊥
IsParsed-not_deep bytes tokens place declarations parsed h =
    shallow_prefix (terminals_of bytes h.prefix ++ terminal_of bytes h.token ∷ []) (terminals_of bytes h.rest)
    (subst IsShallow (terminals_of-token bytes h.prefix h.rest tokens h.token h.parts) parsed.shallow) h.deep

abbrev inside : {A : Type 0} (a : A) → Option A → A
inside a None = a
inside a (Some b) = b

same_inside : {A : Type 0} (a b : A) → Some a ≡ Some b → a ≡ b
same_inside a b same = ap (inside a) same

-- the declarations of bytes are one list
one_tree : (bytes : List ℕ) (tokens : List Token) (declarations other : List DeclTree) → IsParsed bytes tokens declarations → IsParsed bytes tokens other → declarations ≡ other
one_tree bytes tokens declarations other h k =
    let same = same_inside _ _ (sym (run-file h.file) ∙ run-file k.file) in
    ap (λ state. state.decls) same

IsParsedFrom-unique : (bytes : List ℕ) (declarations other : List DeclTree) → IsParsedFrom bytes declarations → IsParsedFrom bytes other → declarations ≡ other
IsParsedFrom-unique bytes declarations other h k =
    one_tree bytes k.0 declarations other (subst (λ tokens. IsParsed bytes tokens declarations) (TokensOf-unique bytes h.0 k.0 h.1 k.1) h.2) k.2

IsAccepted-no_fault : (bytes : List ℕ) (program : LfProgram) (fault : ElabFault) → IsAccepted bytes program → HasFault bytes fault → ⊥
IsAccepted-no_fault bytes program fault h k =
    program_not_refused bytes k.0 program fault
    (subst (λ declarations. IsProgram bytes declarations program) (IsParsedFrom-unique bytes h.0 k.0 h.1 k.1) h.2) k.2

pub IsAccepted-not_refused : (kind : RefusalKind) (bytes : List ℕ) (program : LfProgram) (place : ℕ) → IsAccepted bytes program → RefusesText bytes place kind → ⊥
IsAccepted-not_refused NotUtf8 bytes program place h r = TokensOf-not_not_utf8 bytes h.1.0 place h.1.1 r
IsAccepted-not_refused BadCharacter bytes program place h r = TokensOf-not_wrong bytes h.1.0 (bad_character place) h.1.1 r
IsAccepted-not_refused LongName bytes program place h r = TokensOf-not_wrong bytes h.1.0 (long_name place) h.1.1 r
IsAccepted-not_refused Expected bytes program place h r =
    IsParsed-not_expected bytes r.0 (length bytes) place h.0 (subst (λ tokens. IsParsed bytes tokens h.0) (TokensOf-unique bytes h.1.0 r.0 h.1.1 r.1) h.1.2) r.2
IsAccepted-not_refused TooDeep bytes program place h r =
    IsParsed-not_deep bytes r.0 place h.0 (subst (λ tokens. IsParsed bytes tokens h.0) (TokensOf-unique bytes h.1.0 r.0 h.1.1 r.1) h.1.2) r.2
IsAccepted-not_refused Taken bytes program place h r = IsAccepted-no_fault bytes program (faults.Taken place) h r
IsAccepted-not_refused TooMany bytes program place h r = IsAccepted-no_fault bytes program (faults.TooMany place) h r
IsAccepted-not_refused Unknown bytes program place h r = IsAccepted-no_fault bytes program (faults.Unknown place) h r
IsAccepted-not_refused Redex bytes program place h r = IsAccepted-no_fault bytes program (faults.Redex place) h r
IsAccepted-not_refused IllTyped bytes program place h r = IsAccepted-no_fault bytes program (faults.IllTyped place) h r
IsAccepted-not_refused BadRule bytes program place h r = IsAccepted-no_fault bytes program (faults.BadRule place) h r
