-- Terms with one text are the same.
use Rattle.std.proofs.Common.{◌≡◌, ℕ, zero, suc, ◌+◌, ◌-◌, ◌<◌, ◌^◌, List, [], ◌∷◌, ◌++◌, true, false, length, Some, refl, sym, ap, ap₂, ◌∙◌, subst, append_assoc, arith}
use Rattle.std.specs.Prelude.{codes, decimal, if◌then◌else◌, slice_get, ◌||◌, ◌==◌, All}
use Rattle.std.specs.Char.{is_ascii_alphanumeric}
use Rattle.std.specs.List.{AllByRecursion}
use Rattle.std.proofs.lemmas.Bool.Decides.{nat_tests}
use Rattle.std.proofs.lemmas.List.{append-nil, append_cancel_left}
use Rattle.std.proofs.lemmas.List.Elements.{recursion_from_All}
use Rattle.std.proofs.lemmas.Fmt.{decimal_injective}
use Rattle.std.proofs.lemmas.Str.{len_utf8_bounds}
use Rattle.basics.specs.Places.{place_of}
use Rattle.lex_text.specs.Characters.{width, Spells, IsDigit}
use Rattle.lex_text.specs.Tokens.{IsWord}
use Rattle.lex_text.proofs.Places.{width-cons}
use Rattle.lex_text.proofs.Prefixes.{head_is, tail_is}
use Rattle.lf_definitions.specs.Syntax.{LfHead, bound, constant, metavariable, LfTerm, lam, at, Spine, no_args, arg}
use Rattle.lf_definitions.specs.Signatures.{LfSignature, names_of, constant_names, name_at, FormedSignature}
use Rattle.lf_definitions.proofs.Options.{Some-Some}
use Rattle.elab_terms.proofs.SignatureNames.{find_constant}
use Rattle.file_elab.specs.GrammarNames.{IsGrammarName}
use Rattle.file_print.specs.Printable.{IsPrintableHead, IsPrintable, ArePrintable}
use Rattle.file_print.specs.Texts.{variable_text, head_text, in_parentheses, is_name, term_text, args_text}
use Rattle.printed_tokens.proofs.Digits.{decimal_digits}
use Rattle.printed_tokens.proofs.Spelling.{AreNamed, are_named}
use Rattle.printed_types.specs.Depths.{IsWithinDepth, AreWithinDepth}
use Rattle.printed_types.proofs.PrintedNames.{name_no_variable}
use Rattle.printed_terms.specs.NameBytes.{IsNameByte}
use Rattle.printed_terms.specs.Laws.{BeginsNoArgument, EndsTerm}
use Rattle.printed_terms.proofs.NameTexts.{name_bytes}
use Rattle.printed_terms.proofs.TextLengths.{term_within}

-- the bytes of a name or a variable
abbrev pub IsNameText : List ℕ → Type 0
IsNameText [] = ⊥
IsNameText (c ∷ cs) = IsNameByte c × AllByRecursion IsNameByte cs

-- with such text after it a name goes no further
abbrev pub EndsName : List ℕ → Type 0
EndsName [] = Unit {0}
EndsName (c ∷ cs) = IsNameByte c → ⊥

pub all_of : (xs : List ℕ) → IsNameText xs → AllByRecursion IsNameByte xs
all_of [] is = absurd is
all_of (c ∷ cs) is = is

-- A text is a name and what follows in one way.
pub name_split : (xs ys rest left : List ℕ) → AllByRecursion IsNameByte xs → AllByRecursion IsNameByte ys → EndsName rest → EndsName left → xs ++ rest ≡ ys ++ left →
    (xs ≡ ys) × (rest ≡ left)
name_split [] [] rest left all others ends end e = (refl, e)
name_split [] (y ∷ ys) [] left all others ends end e = absurd cc
name_split [] (y ∷ ys) (c ∷ rest) left all others ends end e = absurd (ends (subst IsNameByte (sym (head_is e)) others.0))
name_split (x ∷ xs) [] rest [] all others ends end e = absurd cc
name_split (x ∷ xs) [] rest (c ∷ left) all others ends end e = absurd (end (subst IsNameByte (head_is e) all.0))
name_split (x ∷ xs) (y ∷ ys) rest left all others ends end e =
    let inside = name_split xs ys rest left all.1 others.1 ends end (tail_is e) in
    (ap₂ (λ c cs. c ∷ cs) (head_is e) inside.0, inside.1)

pub no_name_begins : (c : ℕ) (more xs rest : List ℕ) → (IsNameByte c → ⊥) → IsNameText xs → c ∷ more ≡ xs ++ rest → ⊥
no_name_begins c more [] rest outside is e = is
no_name_begins c more (x ∷ xs) rest outside is e = outside (subst IsNameByte (sym (head_is e)) is.0)

-- A name begins an argument.
name_begins_argument : (xs more rest : List ℕ) → IsNameText xs → BeginsNoArgument rest → rest ≡ xs ++ more → ⊥
name_begins_argument [] more rest is none e = is
name_begins_argument (x ∷ xs) more [] is none e = cc
name_begins_argument (x ∷ xs) more (c ∷ rest) is none e = none.0 (subst IsNameByte (sym (head_is e)) is.0)

parenthesis_begins_argument : (more rest : List ℕ) → BeginsNoArgument rest → rest ≡ 40 ∷ more → ⊥
parenthesis_begins_argument more [] none e = cc
parenthesis_begins_argument more (c ∷ rest) none e = none.1 (head_is e)

pub space_no_name : IsNameByte 32 → ⊥
space_no_name is = let no : false ≡ true = is (omega arith) in cc

pub opening_no_name : IsNameByte 40 → ⊥
opening_no_name is = let no : false ≡ true = is (omega arith) in cc

pub closing_no_name : IsNameByte 41 → ⊥
closing_no_name is = let no : false ≡ true = is (omega arith) in cc

bracket_no_name : IsNameByte 91 → ⊥
bracket_no_name is = let no : false ≡ true = is (omega arith) in cc

digit_is_name : (d : ℕ) → IsDigit d → IsNameByte d
digit_is_name d is low = alphanumeric
  where
    alphanumeric : (is_ascii_alphanumeric d || (d == 95)) ≡ true
    alphanumeric = grind (arith, nat_tests)

digits_are_name : (ds : List ℕ) → AllByRecursion IsDigit ds → AllByRecursion IsNameByte ds
digits_are_name [] all = tt
digits_are_name (d ∷ ds) all = (digit_is_name d all.0, digits_are_name ds all.1)

pub variable_is_text : (n : ℕ) → IsNameText (variable_text n)
variable_is_text n = (λ low. refl, digits_are_name (decimal n) (decimal_digits n))

some_bytes : (cs name : List ℕ) → IsWord cs → Spells cs name → 0 < length name
some_bytes [] name word spelled = absurd word
some_bytes (c ∷ cs) name word spelled =
    let wide = width-cons c cs in
    let bounds = len_utf8_bounds c in
    let same : width (c ∷ cs) ≡ length name = ap length spelled.encoded in
    omega (arith, wide, bounds, same)

some_text : (name : List ℕ) → 0 < length name → AllByRecursion IsNameByte name → IsNameText name
some_text [] some all = absurd (omega (arith, some))
some_text (c ∷ cs) some all = all

pub name_is_text : (name : List ℕ) → IsGrammarName name → IsNameText name
name_is_text name is = some_text name (some_bytes is.characters name is.word is.spelled) (recursion_from_All IsNameByte name (name_bytes name is))

pub named_at : (names : List (List ℕ)) (c : ℕ) → c < length names → slice_get names c ≡ Some (name_at names c)
named_at [] c within = absurd (omega (arith, within))
named_at (name ∷ names) zero within = refl
named_at (name ∷ names) (suc c) within = named_at names c (omega (arith, within))

module _ (sig : LfSignature) (names : AreNamed sig) where
  pub head_is_text : (depth : ℕ) (h : LfHead) → IsPrintableHead sig depth h → IsNameText (head_text sig depth h)
  head_is_text depth (bound n) printable = variable_is_text (depth - suc n)
  head_is_text depth (constant c) printable = name_is_text (name_at (constant_names sig) c) (names.constants c printable)
  head_is_text depth (metavariable g) printable = absurd printable

module _ (sig : LfSignature) (formed : FormedSignature sig) (names : AreNamed sig) where
  same_head : (depth : ℕ) (h k : LfHead) → depth < 2 ^ 64 → IsPrintableHead sig depth h → IsPrintableHead sig depth k → head_text sig depth h ≡ head_text sig depth k → h ≡ k
  same_head depth (bound m) (bound n) few first second e =
      let same : depth - suc m ≡ depth - suc n = decimal_injective (depth - suc m) (depth - suc n) (omega (arith, few)) (omega (arith, few)) (tail_is e) in
      let number : m ≡ n = omega (arith, first, second, same) in
      ap bound number
  same_head depth (bound m) (constant d) few first second e = absurd (name_no_variable (name_at (constant_names sig) d) (depth - suc m) (names.constants d second) (sym e))
  same_head depth (bound m) (metavariable g) few first second e = absurd second
  same_head depth (constant c) (bound n) few first second e = absurd (name_no_variable (name_at (constant_names sig) c) (depth - suc n) (names.constants c first) e)
  same_head depth (constant c) (constant d) few first second e =
      let here = find_constant sig (name_at (constant_names sig) c) c formed (named_at (constant_names sig) c first) in
      let there = find_constant sig (name_at (constant_names sig) d) d formed (named_at (constant_names sig) d second) in
      ap constant (Some-Some (here ∙ ap (place_of (constant_names sig)) e ∙ sym there))
  same_head depth (constant c) (metavariable g) few first second e = absurd second
  same_head depth (metavariable g) k few first second e = absurd first

  pub args_end : (depth : ℕ) (ts : Spine) (rest : List ℕ) → EndsTerm rest → EndsName (args_text sig depth ts ++ rest)
  args_end depth no_args [] ends = tt
  args_end depth no_args (c ∷ rest) ends = ends.0
  args_end depth (arg t ts) rest ends = space_no_name

  abbrev argument : ℕ → LfTerm → List ℕ
  argument depth t = if is_name t then term_text sig depth t else in_parentheses (term_text sig depth t)

  argument_begins : (depth : ℕ) (t : LfTerm) (more rest : List ℕ) → IsPrintable sig depth t → BeginsNoArgument rest → rest ≡ argument depth t ++ more → ⊥
  argument_begins depth (at h no_args) more rest printable none e =
      name_begins_argument (head_text sig depth h) more rest (head_is_text sig names depth h printable.0) none (e ∙ append_assoc (head_text sig depth h) [] more)
  argument_begins depth (lam b) more rest printable none e = parenthesis_begins_argument _ rest none e
  argument_begins depth (at h (arg t ts)) more rest printable none e = parenthesis_begins_argument _ rest none e

  -- What is to be shown of two terms, whatever ends them.
  abbrev AreOne : ℕ → LfTerm → LfTerm → Type 0
  AreOne depth t u = (rest left : List ℕ) → EndsTerm rest → EndsTerm left → term_text sig depth t ++ rest ≡ term_text sig depth u ++ left → (t ≡ u) × (rest ≡ left)

  enclosed_same : (depth : ℕ) (t u : LfTerm) (rest left : List ℕ) → AreOne depth t u → in_parentheses (term_text sig depth t) ++ rest ≡ in_parentheses (term_text sig depth u) ++ left →
      (t ≡ u) × (rest ≡ left)
  enclosed_same depth t u rest left one e =
      let inside : (term_text sig depth t ++ 41 ∷ []) ++ rest ≡ (term_text sig depth u ++ 41 ∷ []) ++ left = tail_is e in
      let closes : EndsTerm (41 ∷ rest) = (closing_no_name, λ same. absurd (omega (arith, same))) in
      let close : EndsTerm (41 ∷ left) = (closing_no_name, λ same. absurd (omega (arith, same))) in
      let both = one (41 ∷ rest) (41 ∷ left) closes close
      (sym (append_assoc (term_text sig depth t) (41 ∷ []) rest) ∙ inside ∙ append_assoc (term_text sig depth u) (41 ∷ []) left) in
      (both.0, tail_is both.1)

  -- A name is not the text of an argument in parentheses.
  no_enclosed : (depth : ℕ) (h : LfHead) (t : LfTerm) (rest left : List ℕ) → IsPrintableHead sig depth h →
      in_parentheses (term_text sig depth t) ++ rest ≡ (head_text sig depth h ++ []) ++ left → ⊥
  no_enclosed depth h t rest left printable e =
      let more : List ℕ = (term_text sig depth t ++ 41 ∷ []) ++ rest in
      let same : 40 ∷ more ≡ (head_text sig depth h ++ []) ++ left = e in
      no_name_begins 40 more (head_text sig depth h) left opening_no_name (head_is_text sig names depth h printable) (same ∙ append_assoc (head_text sig depth h) [] left)

  names_same : (depth : ℕ) (h k : LfHead) (rest left : List ℕ) → depth < 2 ^ 64 → IsPrintableHead sig depth h → IsPrintableHead sig depth k → EndsName rest → EndsName left →
      (head_text sig depth h ++ []) ++ rest ≡ (head_text sig depth k ++ []) ++ left → (at h no_args ≡ at k no_args) × (rest ≡ left)
  names_same depth h k rest left few first second ends end e =
      let text = sym (append_assoc (head_text sig depth h) [] rest) ∙ e ∙ append_assoc (head_text sig depth k) [] left in
      let parts = name_split (head_text sig depth h) (head_text sig depth k) rest left (all_of _ (head_is_text sig names depth h first)) (all_of _ (head_is_text sig names depth k second)) ends end text in
      (ap (λ head. at head no_args) (same_head depth h k few first second parts.0), parts.1)

  argument_same : (depth : ℕ) (t u : LfTerm) (rest left : List ℕ) → IsPrintable sig depth t → IsPrintable sig depth u → IsWithinDepth (2 ^ 64) depth t → EndsName rest → EndsName left →
      AreOne depth t u → argument depth t ++ rest ≡ argument depth u ++ left → (t ≡ u) × (rest ≡ left)
  argument_same depth (at h no_args) (at k no_args) rest left first second within ends end one e = names_same depth h k rest left within.0 first.0 second.0 ends end e
  argument_same depth (at h no_args) (lam c) rest left first second within ends end one e = absurd (no_enclosed depth h (lam c) left rest first.0 (sym e))
  argument_same depth (at h no_args) (at k (arg u us)) rest left first second within ends end one e = absurd (no_enclosed depth h (at k (arg u us)) left rest first.0 (sym e))
  argument_same depth (lam b) (at k no_args) rest left first second within ends end one e = absurd (no_enclosed depth k (lam b) rest left second.0 e)
  argument_same depth (lam b) (lam c) rest left first second within ends end one e = enclosed_same depth (lam b) (lam c) rest left one e
  argument_same depth (lam b) (at k (arg u us)) rest left first second within ends end one e = enclosed_same depth (lam b) (at k (arg u us)) rest left one e
  argument_same depth (at h (arg t ts)) (at k no_args) rest left first second within ends end one e = absurd (no_enclosed depth k (at h (arg t ts)) rest left second.0 e)
  argument_same depth (at h (arg t ts)) (lam c) rest left first second within ends end one e = enclosed_same depth (at h (arg t ts)) (lam c) rest left one e
  argument_same depth (at h (arg t ts)) (at k (arg u us)) rest left first second within ends end one e = enclosed_same depth (at h (arg t ts)) (at k (arg u us)) rest left one e

  mutual
    term_same : (depth : ℕ) (t u : LfTerm) → IsPrintable sig depth t → IsPrintable sig depth u → IsWithinDepth (2 ^ 64) depth t → AreOne depth t u
    term_same depth (lam b) (lam c) first second within rest left ends end e =
        let prefix = codes "[" ++ variable_text depth ++ codes "] " in
        let bodies = sym (append_assoc prefix (term_text sig (suc depth) b) rest) ∙ e ∙ append_assoc prefix (term_text sig (suc depth) c) left in
        let inside = term_same (suc depth) b c first second within rest left ends end (append_cancel_left prefix _ _ bodies) in
        (ap lam inside.0, inside.1)
    term_same depth (lam b) (at k us) first second within rest left ends end e =
        absurd (no_name_begins 91 _ (head_text sig depth k) (args_text sig depth us ++ left) bracket_no_name (head_is_text sig names depth k second.0)
        (e ∙ append_assoc (head_text sig depth k) (args_text sig depth us) left))
    term_same depth (at h ts) (lam c) first second within rest left ends end e =
        absurd (no_name_begins 91 _ (head_text sig depth h) (args_text sig depth ts ++ rest) bracket_no_name (head_is_text sig names depth h first.0)
        (sym e ∙ append_assoc (head_text sig depth h) (args_text sig depth ts) rest))
    term_same depth (at h ts) (at k us) first second within rest left ends end e =
        let text = sym (append_assoc (head_text sig depth h) (args_text sig depth ts) rest) ∙ e ∙ append_assoc (head_text sig depth k) (args_text sig depth us) left in
        let parts = name_split (head_text sig depth h) (head_text sig depth k) (args_text sig depth ts ++ rest) (args_text sig depth us ++ left)
        (all_of _ (head_is_text sig names depth h first.0)) (all_of _ (head_is_text sig names depth k second.0)) (args_end depth ts rest ends) (args_end depth us left end) text in
        let args = args_same depth ts us rest left first.1 second.1 within.1 ends end parts.1 in
        (ap₂ at (same_head depth h k within.0 first.0 second.0 parts.0) args.0, args.1)

    pub args_same : (depth : ℕ) (ts us : Spine) (rest left : List ℕ) → ArePrintable sig depth ts → ArePrintable sig depth us → AreWithinDepth (2 ^ 64) depth ts → EndsTerm rest → EndsTerm left →
        args_text sig depth ts ++ rest ≡ args_text sig depth us ++ left → (ts ≡ us) × (rest ≡ left)
    args_same depth no_args no_args rest left first second within ends end e = (refl, e)
    args_same depth no_args (arg u us) [] left first second within ends end e = absurd cc
    args_same depth no_args (arg u us) (c ∷ rest) left first second within ends end e =
        absurd (argument_begins depth u (args_text sig depth us ++ left) rest second.0 (ends.1 (head_is e)) (tail_is e ∙ append_assoc (argument depth u) (args_text sig depth us) left))
    args_same depth (arg t ts) no_args rest [] first second within ends end e = absurd cc
    args_same depth (arg t ts) no_args rest (c ∷ left) first second within ends end e =
        absurd (argument_begins depth t (args_text sig depth ts ++ rest) left first.0 (end.1 (sym (head_is e))) (sym (tail_is e) ∙ append_assoc (argument depth t) (args_text sig depth ts) rest))
    args_same depth (arg t ts) (arg u us) rest left first second within ends end e =
        let after : (argument depth t ++ args_text sig depth ts) ++ rest ≡ (argument depth u ++ args_text sig depth us) ++ left = tail_is e in
        let text = sym (append_assoc (argument depth t) (args_text sig depth ts) rest) ∙ after ∙ append_assoc (argument depth u) (args_text sig depth us) left in
        let one = argument_same depth t u (args_text sig depth ts ++ rest) (args_text sig depth us ++ left) first.0 second.0 within.0 (args_end depth ts rest ends) (args_end depth us left end)
        (λ more others close ending same. term_same depth t u first.0 second.0 within.0 more others close ending same) text in
        let others = args_same depth ts us rest left first.1 second.1 within.1 ends end one.1 in
        (ap₂ arg one.0 others.0, others.1)

-- A text that begins with a term which ends there begins with no other one.
pub terms_apart : (sig : LfSignature) (depth : ℕ) (t u : LfTerm) (rest left : List ℕ) → FormedSignature sig → All IsGrammarName (names_of sig) →
    IsPrintable sig depth t → IsPrintable sig depth u → depth + length (term_text sig depth t) < 2 ^ 64 → EndsTerm rest → EndsTerm left →
    term_text sig depth t ++ rest ≡ term_text sig depth u ++ left → (t ≡ u) × (rest ≡ left)
terms_apart sig depth t u rest left formed named first second fits ends end e =
    term_same sig formed (are_named sig named) depth t u first second (term_within sig (2 ^ 64) depth t fits) rest left ends end e

-- Two terms with one text are the same.
pub terms_one : (sig : LfSignature) (depth : ℕ) (t u : LfTerm) → FormedSignature sig → All IsGrammarName (names_of sig) →
    IsPrintable sig depth t → IsPrintable sig depth u → depth + length (term_text sig depth t) < 2 ^ 64 →
    term_text sig depth t ≡ term_text sig depth u → t ≡ u
terms_one sig depth t u formed named first second fits e =
    (terms_apart sig depth t u [] [] formed named first second fits tt tt
    (append-nil (term_text sig depth t) ∙ e ∙ sym (append-nil (term_text sig depth u)))).0
