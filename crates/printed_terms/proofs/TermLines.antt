-- A printed term has no line end.
use Rattle.std.proofs.Common.{ℕ, suc, List, [], ◌∷◌, ◌++◌, Bool, true, false, All, refl}
use Rattle.std.specs.Prelude.{codes, if◌then◌else◌}
use Rattle.std.specs.List.{AllByRecursion}
use Rattle.std.proofs.lemmas.List.Elements.{All-from_recursion}
use Rattle.lex_text.proofs.Places.{AllByRecursion-append}
use Rattle.lf_definitions.specs.Syntax.{LfTerm, lam, at, Spine, no_args, arg}
use Rattle.lf_definitions.specs.Signatures.{LfSignature, names_of}
use Rattle.file_elab.specs.GrammarNames.{IsGrammarName}
use Rattle.file_print.specs.Printable.{IsPrintable, ArePrintable}
use Rattle.file_print.specs.Texts.{variable_text, head_text, in_parentheses, is_name, term_text, args_text}
use Rattle.printed_tokens.proofs.Spelling.{AreNamed, are_named}
use Rattle.printed_terms.specs.NameBytes.{IsNameByte, line_signs, IsNoLineSign}
use Rattle.printed_terms.proofs.NameTexts.{signs_break, differs, not_among}
use Rattle.printed_terms.proofs.SameTexts.{IsNameText, all_of, variable_is_text, head_is_text}

abbrev IsLine : List ℕ → Type 0
IsLine = AllByRecursion IsNoLineSign

names_line : (xs : List ℕ) → AllByRecursion IsNameByte xs → IsLine xs
names_line [] all = tt
names_line (c ∷ cs) all = (differs c line_signs all.0 (signs_break line_signs refl), names_line cs all.1)

name_line : (xs : List ℕ) → IsNameText xs → IsLine xs
name_line xs is = names_line xs (all_of xs is)

joined : (xs ys : List ℕ) → IsLine xs → IsLine ys → IsLine (xs ++ ys)
joined xs ys = AllByRecursion-append IsNoLineSign xs ys

space_line : IsNoLineSign 32
space_line = not_among 32 line_signs refl

opening_line : IsNoLineSign 40
opening_line = not_among 40 line_signs refl

closing_line : IsNoLineSign 41
closing_line = not_among 41 line_signs refl

bracket_line : IsNoLineSign 91
bracket_line = not_among 91 line_signs refl

closing_bracket_line : IsNoLineSign 93
closing_bracket_line = not_among 93 line_signs refl

abstracted_line : (depth : ℕ) → IsLine (codes "[" ++ variable_text depth ++ codes "] ")
abstracted_line depth =
    (bracket_line, joined (variable_text depth) (93 ∷ 32 ∷ []) (name_line (variable_text depth) (variable_is_text depth)) (closing_bracket_line, (space_line, tt)))

argument_line : (b : Bool) (text : List ℕ) → IsLine text → IsLine (if b then text else in_parentheses text)
argument_line true text all = all
argument_line false text all = (opening_line, joined text (41 ∷ []) all (closing_line, tt))

module _ (sig : LfSignature) (names : AreNamed sig) where
  mutual
    term_line : (depth : ℕ) (t : LfTerm) → IsPrintable sig depth t → IsLine (term_text sig depth t)
    term_line depth (lam b) printable =
        joined (codes "[" ++ variable_text depth ++ codes "] ") (term_text sig (suc depth) b) (abstracted_line depth) (term_line (suc depth) b printable)
    term_line depth (at h args) printable =
        joined (head_text sig depth h) (args_text sig depth args) (name_line (head_text sig depth h) (head_is_text sig names depth h printable.0)) (args_line depth args printable.1)

    args_line : (depth : ℕ) (ts : Spine) → ArePrintable sig depth ts → IsLine (args_text sig depth ts)
    args_line depth no_args printable = tt
    args_line depth (arg t ts) printable =
        let here = if is_name t then term_text sig depth t else in_parentheses (term_text sig depth t) in
        joined (32 ∷ here) (args_text sig depth ts) (space_line, argument_line (is_name t) (term_text sig depth t) (term_line depth t printable.0)) (args_line depth ts printable.1)

pub terms_are_lines : (sig : LfSignature) (depth : ℕ) (t : LfTerm) → All IsGrammarName (names_of sig) → IsPrintable sig depth t → All IsNoLineSign (term_text sig depth t)
terms_are_lines sig depth t named printable = All-from_recursion IsNoLineSign (term_text sig depth t) (term_line sig (are_named sig named) depth t printable)
