-- Around each place of a term or a type stand fewer binders than its text has bytes, and those outside.
use Rattle.std.proofs.Common.{ℕ, suc, ◌+◌, ◌<◌, ◌≤◌, List, [], ◌∷◌, ◌++◌, Bool, true, false, length, length-append, arith}
use Rattle.std.specs.Prelude.{codes, if◌then◌else◌}
use Rattle.lf_definitions.specs.Syntax.{LfTerm, lam, at, Spine, no_args, arg, LfType, pi, family}
use Rattle.lf_definitions.specs.Signatures.{LfSignature, family_names, name_at}
use Rattle.binder_marks.specs.Mentions.{mentions}
use Rattle.file_print.specs.Parts.{binder_text}
use Rattle.file_print.specs.Texts.{variable_text, head_text, in_parentheses, is_name, term_text, args_text, has_binders, type_text}
use Rattle.printed_types.specs.Depths.{IsWithinDepth, AreWithinDepth, IsTypeWithinDepth}

longer : (x : ℕ) (xs ys : List ℕ) → length ys < length ((x ∷ xs) ++ ys)
longer x xs ys = omega (arith, length-append (x ∷ xs) ys)

argument_longer : (b : Bool) (text : List ℕ) → length text ≤ length (if b then text else in_parentheses text)
argument_longer true text = omega arith
argument_longer false text = omega (arith, length-append (40 ∷ text) (41 ∷ []))

left_longer : (has : Bool) (text : List ℕ) → length text ≤ length (if has then in_parentheses text else text)
left_longer true text = omega (arith, length-append (40 ∷ text) (41 ∷ []))
left_longer false text = omega arith

binder_longer : (mentioned has : Bool) (before text : List ℕ) →
    length text < length (if mentioned then before ++ text ++ codes "} " else (if has then in_parentheses text else text) ++ codes " -> ")
binder_longer true has before text = omega (arith, length-append (before ++ text) (125 ∷ 32 ∷ []), length-append before text)
binder_longer false has before text =
    omega (arith, left_longer has text, length-append (if has then in_parentheses text else text) (32 ∷ 45 ∷ 62 ∷ 32 ∷ []))

module _ (sig : LfSignature) (most : ℕ) where
  mutual
    pub term_within : (depth : ℕ) (t : LfTerm) → depth + length (term_text sig depth t) < most → IsWithinDepth most depth t
    term_within depth (lam b) fits =
        let shorter : length (term_text sig (suc depth) b) < length (term_text sig depth (lam b)) = longer 91 (variable_text depth ++ codes "] ") (term_text sig (suc depth) b) in
        term_within (suc depth) b (omega (arith, fits, shorter))
    term_within depth (at h args) fits =
        let parts = length-append (head_text sig depth h) (args_text sig depth args) in
        (omega (arith, fits), args_within depth args (omega (arith, fits, parts)))

    pub args_within : (depth : ℕ) (ts : Spine) → depth + length (args_text sig depth ts) < most → AreWithinDepth most depth ts
    args_within depth no_args fits = tt
    args_within depth (arg t ts) fits =
        let here = if is_name t then term_text sig depth t else in_parentheses (term_text sig depth t) in
        let parts = length-append (32 ∷ here) (args_text sig depth ts) in
        let inside = argument_longer (is_name t) (term_text sig depth t) in
        (term_within depth t (omega (arith, fits, parts, inside)), args_within depth ts (omega (arith, fits, parts)))

  pub type_within : (depth : ℕ) (a : LfType) → depth + length (type_text sig depth a) < most → IsTypeWithinDepth most depth a
  type_within depth (pi a b) fits =
      let parts = length-append (binder_text sig depth (mentions 0 b) a) (type_text sig (suc depth) b) in
      let inside : length (type_text sig depth a) < length (binder_text sig depth (mentions 0 b) a) =
      binder_longer (mentions 0 b) (has_binders a) (codes "{" ++ variable_text depth ++ codes ":") (type_text sig depth a) in
      (type_within depth a (omega (arith, fits, parts, inside)), type_within (suc depth) b (omega (arith, fits, parts, inside)))
  type_within depth (family f args) fits =
      let parts = length-append (name_at (family_names sig) f) (args_text sig depth args) in
      (omega (arith, fits), args_within depth args (omega (arith, fits, parts)))
