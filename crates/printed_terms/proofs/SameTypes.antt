-- Types with one text are the same.
use Rattle.std.proofs.Common.{◌≡◌, ◌≢◌, ℕ, suc, ◌+◌, ◌<◌, ◌^◌, List, [], ◌∷◌, ◌++◌, Bool, true, false, length, sym, ap, ap₂, ◌∙◌, subst, append_assoc, arith}
use Rattle.std.specs.Prelude.{codes, All}
use Rattle.std.proofs.lemmas.List.{append-nil, append_cancel_left}
use Rattle.basics.specs.Places.{place_of}
use Rattle.lex_text.proofs.Prefixes.{head_is, tail_is}
use Rattle.lf_definitions.specs.Syntax.{Spine, LfType, pi, family}
use Rattle.lf_definitions.specs.Signatures.{LfSignature, names_of, family_names, name_at, FormedSignature}
use Rattle.lf_definitions.proofs.Options.{Some-Some}
use Rattle.elab_terms.proofs.SignatureNames.{find_family}
use Rattle.file_elab.specs.GrammarNames.{IsGrammarName}
use Rattle.binder_marks.specs.Mentions.{mentions}
use Rattle.file_print.specs.Parts.{left_text, binder_text}
use Rattle.file_print.specs.Printable.{IsPrintableType}
use Rattle.file_print.specs.Texts.{variable_text, args_text, type_text}
use Rattle.printed_tokens.proofs.Spelling.{AreNamed, are_named}
use Rattle.printed_types.specs.Depths.{IsTypeWithinDepth}
use Rattle.printed_terms.specs.NameBytes.{IsNameByte}
use Rattle.printed_terms.specs.Laws.{BeginsNoArgument, EndsTerm}
use Rattle.printed_terms.proofs.TextLengths.{type_within}
use Rattle.printed_terms.proofs.SameTexts.{IsNameText, all_of, name_split, no_name_begins, space_no_name, opening_no_name, closing_no_name, name_is_text, named_at, args_end, args_same}

-- An arrow does not begin with such text either.
abbrev BeginsNoPart : List ℕ → Type 0
BeginsNoPart [] = Unit {0}
BeginsNoPart (c ∷ cs) = (IsNameByte c → ⊥) × (c ≢ 40) × (c ≢ 45)

-- With such text after it a type goes no further.
abbrev EndsType : List ℕ → Type 0
EndsType [] = Unit {0}
EndsType (c ∷ cs) = (IsNameByte c → ⊥) × (c ≡ 32 → BeginsNoPart cs)

no_argument : (cs : List ℕ) → BeginsNoPart cs → BeginsNoArgument cs
no_argument [] none = tt
no_argument (c ∷ cs) none = (none.0, none.1)

ends_term : (cs : List ℕ) → EndsType cs → EndsTerm cs
ends_term [] ends = tt
ends_term (c ∷ cs) ends = (ends.0, λ e. no_argument cs (ends.1 e))

no_arrow_inside : (cs more : List ℕ) → BeginsNoPart cs → cs ≡ 45 ∷ more → ⊥
no_arrow_inside [] more none e = cc
no_arrow_inside (c ∷ cs) more none e = none.2 (head_is e)

no_arrow : (cs more : List ℕ) → EndsType cs → cs ≡ 32 ∷ 45 ∷ more → ⊥
no_arrow [] more ends e = cc
no_arrow (c ∷ cs) more ends e = no_arrow_inside cs more (ends.1 (head_is e)) (tail_is e)

minus_no_name : IsNameByte 45 → ⊥
minus_no_name is = let no : false ≡ true = is (omega arith) in cc

brace_no_name : IsNameByte 123 → ⊥
brace_no_name is = let no : false ≡ true = is (omega arith) in cc

closing_brace_no_name : IsNameByte 125 → ⊥
closing_brace_no_name is = let no : false ≡ true = is (omega arith) in cc

-- what stands after the left side of an arrow
arrow_ends : (more : List ℕ) → EndsTerm (codes " -> " ++ more)
arrow_ends more = (space_no_name, λ e. (minus_no_name, λ same. omega (arith, same)))

parenthesis_ends : (more : List ℕ) → EndsType (41 ∷ more)
parenthesis_ends more = (closing_no_name, λ same. absurd (omega (arith, same)))

brace_ends : (more : List ℕ) → EndsType (125 ∷ more)
brace_ends more = (closing_brace_no_name, λ same. absurd (omega (arith, same)))

module _ (sig : LfSignature) (formed : FormedSignature sig) (names : AreNamed sig) where
  same_family : (f g : ℕ) → f < length (family_names sig) → g < length (family_names sig) → name_at (family_names sig) f ≡ name_at (family_names sig) g → f ≡ g
  same_family f g first second e =
      let here = find_family sig (name_at (family_names sig) f) f formed (named_at (family_names sig) f first) in
      let there = find_family sig (name_at (family_names sig) g) g formed (named_at (family_names sig) g second) in
      Some-Some (here ∙ ap (place_of (family_names sig)) e ∙ sym there)

  family_is_text : (f : ℕ) → f < length (family_names sig) → IsNameText (name_at (family_names sig) f)
  family_is_text f within = name_is_text (name_at (family_names sig) f) (names.families f within)

  -- types without binders
  atom_same : (depth f g : ℕ) (ts us : Spine) (rest left : List ℕ) → IsPrintableType sig depth (family f ts) → IsPrintableType sig depth (family g us) →
      IsTypeWithinDepth (2 ^ 64) depth (family f ts) → EndsTerm rest → EndsTerm left →
      type_text sig depth (family f ts) ++ rest ≡ type_text sig depth (family g us) ++ left → (family f ts ≡ family g us) × (rest ≡ left)
  atom_same depth f g ts us rest left first second within ends end e =
      let word = name_at (family_names sig) f in
      let other = name_at (family_names sig) g in
      let text = sym (append_assoc word (args_text sig depth ts) rest) ∙ e ∙ append_assoc other (args_text sig depth us) left in
      let parts = name_split word other (args_text sig depth ts ++ rest) (args_text sig depth us ++ left) (all_of word (family_is_text f first.0)) (all_of other (family_is_text g second.0))
      (args_end sig formed names depth ts rest ends) (args_end sig formed names depth us left end) text in
      let args = args_same sig formed names depth ts us rest left first.1 second.1 within.1 ends end parts.1 in
      (ap₂ family (same_family f g first.0 second.0 parts.0) args.0, args.1)

  -- A type without binders does not begin with a parenthesis or a brace.
  no_atom : (depth f c : ℕ) (ts : Spine) (more rest : List ℕ) → IsPrintableType sig depth (family f ts) → (IsNameByte c → ⊥) → c ∷ more ≡ type_text sig depth (family f ts) ++ rest → ⊥
  no_atom depth f c ts more rest printable outside e =
      no_name_begins c more (name_at (family_names sig) f) (args_text sig depth ts ++ rest) outside (family_is_text f printable.0)
      (e ∙ append_assoc (name_at (family_names sig) f) (args_text sig depth ts) rest)

  -- What is to be shown of two types, whatever ends them.
  abbrev AreOne : ℕ → LfType → LfType → Type 0
  AreOne depth a c = (rest left : List ℕ) → EndsType rest → EndsType left → type_text sig depth a ++ rest ≡ type_text sig depth c ++ left → (a ≡ c) × (rest ≡ left)

  after_arrow : (more others : List ℕ) → codes " -> " ++ more ≡ codes " -> " ++ others → more ≡ others
  after_arrow more others e = append_cancel_left (codes " -> ") more others e

  left_same : (depth : ℕ) (a c : LfType) (more others : List ℕ) → IsPrintableType sig depth a → IsPrintableType sig depth c → IsTypeWithinDepth (2 ^ 64) depth a → AreOne depth a c →
      left_text sig depth a ++ (codes " -> " ++ more) ≡ left_text sig depth c ++ (codes " -> " ++ others) → (a ≡ c) × (more ≡ others)
  left_same depth (family f ts) (family g us) more others first second within one e =
      let both = atom_same depth f g ts us (codes " -> " ++ more) (codes " -> " ++ others) first second within (arrow_ends more) (arrow_ends others) e in
      (both.0, after_arrow more others both.1)
  left_same depth (family f ts) (pi c d) more others first second within one e =
      absurd (no_atom depth f 40 ts _ (codes " -> " ++ more) first opening_no_name (sym e))
  left_same depth (pi a b) (family g us) more others first second within one e =
      absurd (no_atom depth g 40 us _ (codes " -> " ++ others) second opening_no_name e)
  left_same depth (pi a b) (pi c d) more others first second within one e =
      let text = type_text sig depth (pi a b) in
      let other = type_text sig depth (pi c d) in
      let inside : (text ++ 41 ∷ []) ++ (codes " -> " ++ more) ≡ (other ++ 41 ∷ []) ++ (codes " -> " ++ others) = tail_is e in
      let both = one (41 ∷ codes " -> " ++ more) (41 ∷ codes " -> " ++ others) (parenthesis_ends (codes " -> " ++ more)) (parenthesis_ends (codes " -> " ++ others))
      (sym (append_assoc text (41 ∷ []) (codes " -> " ++ more)) ∙ inside ∙ append_assoc other (41 ∷ []) (codes " -> " ++ others)) in
      (both.0, after_arrow more others (tail_is both.1))

  left_begins : (depth : ℕ) (a : LfType) (more rest : List ℕ) → IsPrintableType sig depth a → 123 ∷ more ≡ left_text sig depth a ++ rest → ⊥
  left_begins depth (family f ts) more rest printable e = no_atom depth f 123 ts more rest printable brace_no_name e
  left_begins depth (pi a b) more rest printable e = let no : ◌≡◌ {A = ℕ} 123 40 = head_is e in omega (arith, no)

  binder_same : (m n : Bool) (depth : ℕ) (a c : LfType) (more others : List ℕ) → IsPrintableType sig depth a → IsPrintableType sig depth c → IsTypeWithinDepth (2 ^ 64) depth a → AreOne depth a c →
      binder_text sig depth m a ++ more ≡ binder_text sig depth n c ++ others → (a ≡ c) × (more ≡ others)
  binder_same true true depth a c more others first second within one e =
      let prefix = codes "{" ++ variable_text depth ++ codes ":" in
      let text = type_text sig depth a in
      let other = type_text sig depth c in
      let here = append_assoc (prefix ++ text) (codes "} ") more ∙ append_assoc prefix text (codes "} " ++ more) in
      let there = append_assoc (prefix ++ other) (codes "} ") others ∙ append_assoc prefix other (codes "} " ++ others) in
      let both = one (codes "} " ++ more) (codes "} " ++ others) (brace_ends (32 ∷ more)) (brace_ends (32 ∷ others))
      (append_cancel_left prefix (text ++ (codes "} " ++ more)) (other ++ (codes "} " ++ others)) (sym here ∙ e ∙ there)) in
      (both.0, append_cancel_left (codes "} ") more others both.1)
  binder_same true false depth a c more others first second within one e =
      absurd (left_begins depth c _ (codes " -> " ++ others) second (e ∙ append_assoc (left_text sig depth c) (codes " -> ") others))
  binder_same false true depth a c more others first second within one e =
      absurd (left_begins depth a _ (codes " -> " ++ more) first (sym e ∙ append_assoc (left_text sig depth a) (codes " -> ") more))
  binder_same false false depth a c more others first second within one e =
      left_same depth a c more others first second within one
      (sym (append_assoc (left_text sig depth a) (codes " -> ") more) ∙ e ∙ append_assoc (left_text sig depth c) (codes " -> ") others)

  -- A type without binders that ends is not one before an arrow.
  no_left : (depth f : ℕ) (ts : Spine) (a : LfType) (rest more : List ℕ) → IsPrintableType sig depth (family f ts) → IsPrintableType sig depth a →
      IsTypeWithinDepth (2 ^ 64) depth (family f ts) → EndsType rest → type_text sig depth (family f ts) ++ rest ≡ left_text sig depth a ++ (codes " -> " ++ more) → ⊥
  no_left depth f ts (family g us) rest more first second within ends e =
      let both = atom_same depth f g ts us rest (codes " -> " ++ more) first second within (ends_term rest ends) (arrow_ends more) e in
      no_arrow rest (62 ∷ 32 ∷ more) ends both.1
  no_left depth f ts (pi a b) rest more first second within ends e = no_atom depth f 40 ts _ rest first opening_no_name (sym e)

  no_binder : (m : Bool) (depth f : ℕ) (ts : Spine) (a : LfType) (rest more : List ℕ) → IsPrintableType sig depth (family f ts) → IsPrintableType sig depth a →
      IsTypeWithinDepth (2 ^ 64) depth (family f ts) → EndsType rest → type_text sig depth (family f ts) ++ rest ≡ binder_text sig depth m a ++ more → ⊥
  no_binder true depth f ts a rest more first second within ends e = no_atom depth f 123 ts _ rest first brace_no_name (sym e)
  no_binder false depth f ts a rest more first second within ends e =
      no_left depth f ts a rest more first second within ends (e ∙ append_assoc (left_text sig depth a) (codes " -> ") more)

  type_same : (depth : ℕ) (a c : LfType) → IsPrintableType sig depth a → IsPrintableType sig depth c → IsTypeWithinDepth (2 ^ 64) depth a → IsTypeWithinDepth (2 ^ 64) depth c → AreOne depth a c
  type_same depth (family f ts) (family g us) first second within other rest left ends end e =
      atom_same depth f g ts us rest left first second within (ends_term rest ends) (ends_term left end) e
  type_same depth (family f ts) (pi c d) first second within other rest left ends end e =
      absurd (no_binder (mentions 0 d) depth f ts c rest (type_text sig (suc depth) d ++ left) first second.0 within ends
      (e ∙ append_assoc (binder_text sig depth (mentions 0 d) c) (type_text sig (suc depth) d) left))
  type_same depth (pi a b) (family g us) first second within other rest left ends end e =
      absurd (no_binder (mentions 0 b) depth g us a left (type_text sig (suc depth) b ++ rest) second first.0 other end
      (sym e ∙ append_assoc (binder_text sig depth (mentions 0 b) a) (type_text sig (suc depth) b) rest))
  type_same depth (pi a b) (pi c d) first second within other rest left ends end e =
      let text = sym (append_assoc (binder_text sig depth (mentions 0 b) a) (type_text sig (suc depth) b) rest) ∙ e
      ∙ append_assoc (binder_text sig depth (mentions 0 d) c) (type_text sig (suc depth) d) left in
      let binders = binder_same (mentions 0 b) (mentions 0 d) depth a c (type_text sig (suc depth) b ++ rest) (type_text sig (suc depth) d ++ left) first.0 second.0 within.0
      (λ more others close ending same. type_same depth a c first.0 second.0 within.0 other.0 more others close ending same) text in
      let bodies = type_same (suc depth) b d first.1 second.1 within.1 other.1 rest left ends end binders.1 in
      (ap₂ pi binders.0 bodies.0, bodies.1)

-- Two types with one text are the same.
pub types_one : (sig : LfSignature) (depth : ℕ) (a b : LfType) → FormedSignature sig → All IsGrammarName (names_of sig) →
    IsPrintableType sig depth a → IsPrintableType sig depth b → depth + length (type_text sig depth a) < 2 ^ 64 →
    type_text sig depth a ≡ type_text sig depth b → a ≡ b
types_one sig depth a b formed named first second fits e =
    let other : depth + length (type_text sig depth b) < 2 ^ 64 = subst (λ text. depth + length text < 2 ^ 64) e fits in
    (type_same sig formed (are_named sig named) depth a b first second (type_within sig (2 ^ 64) depth a fits) (type_within sig (2 ^ 64) depth b other) [] [] tt tt
    (append-nil (type_text sig depth a) ∙ e ∙ sym (append-nil (type_text sig depth b)))).0
