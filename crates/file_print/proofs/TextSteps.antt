-- Steps of printing: what is added for a part, and what comes after it.
use Rattle.std.proofs.Common.{◌≡◌, ℕ, suc, ◌+◌, ◌<◌, ◌≤◌, List, [], ◌∷◌, ◌++◌, Bool, false, length, get_or, drop, refl, sym, ap, ap₂, ◌∙◌, subst, arith, append_assoc, append-nil, length-append, add-one, slice_get, Some, nat_lt}
use Rattle.std.proofs.lemmas.Bool.{lt-ltb}
use Rattle.std.proofs.lemmas.List.{drop_all}
use Rattle.std.proofs.lemmas.Option.{get_or_from_slice_get}
use Rattle.std.specs.Io.{StartsWith}
use Rattle.lf_definitions.specs.Syntax.{Spine, arg, LfType, pi, family, pis}
use Rattle.lf_definitions.specs.Signatures.{LfSignature, family_names}
use Rattle.lf_terms.specs.declared.term.Term.{Term}
use Rattle.lf_terms.specs.declared.ty.Ty.{Ty}
use Rattle.lf_terms.specs.Terms.{term_of, spine_of}
use Rattle.lf_terms.specs.Types.{type_of, types_of}
use Rattle.lf_terms.proofs.TypeLists.{types_of-drop}
use Rattle.binder_marks.specs.Marks.{marks_of, HaveAt}
use Rattle.binder_marks.specs.Mentions.{mentions}
use Rattle.file_print.specs.Parts.{argument_text, binder_text}
use Rattle.file_print.specs.Printable.{IsPrintable, ArePrintable, IsPrintableType}
use Rattle.file_print.specs.Texts.{args_text, has_binders, type_text}
use Rattle.file_print.proofs.KeptTexts.{kept_unchanged, kept_appended, kept_later}
use Rattle.binder_marks.proofs.MarkPrefixes.{prefix_within, prefix_mark, prefix_later, prefix_first, prefix_then}
use Rattle.binder_marks.proofs.MarkSteps.{spine_of-drop}

-- Arguments: those before a place are printed, and the rest is still to come.

pub record PrintedArgs (sig : LfSignature) (depth : ℕ) (items : List Term) (i : ℕ) (old out : List ℕ) : Type 0 where
  pub printable : ArePrintable sig depth (spine_of (drop i items))
  pub rest : out ++ args_text sig depth (spine_of (drop i items)) ≡ old ++ args_text sig depth (spine_of items)
  pub kept : StartsWith out old

pub no_args_printed : (sig : LfSignature) (depth : ℕ) (items : List Term) (all : Spine) (old : List ℕ) → spine_of items ≡ all → ArePrintable sig depth all → PrintedArgs sig depth items 0 old old
no_args_printed sig depth items all old are printable = record { printable = rw are printable; rest = refl; kept = kept_unchanged old old refl }

pub arg_printable : (sig : LfSignature) (depth : ℕ) (items : List Term) (i : ℕ) (t : Term) (old out : List ℕ) → i < length items → t ≡ get_or items i t →
    PrintedArgs sig depth items i old out → IsPrintable sig depth (term_of t)
arg_printable sig depth items i t old out within is before =
    let P : Spine → Type 0 = λ s. ArePrintable sig depth s in
    let both : ArePrintable sig depth (arg (term_of t) (spine_of (drop (i + 1) items))) = subst P (spine_of-drop items i t within is) before.printable in
    both.0

pub arg_printed : (sig : LfSignature) (depth : ℕ) (items : List Term) (i : ℕ) (t : Term) (old out new : List ℕ) → i < length items → t ≡ get_or items i t →
    PrintedArgs sig depth items i old out → new ≡ out ++ argument_text sig depth (term_of t) → PrintedArgs sig depth items (i + 1) old new
arg_printed sig depth items i t old out new within is before here =
    let P : Spine → Type 0 = λ s. ArePrintable sig depth s in
    let split = spine_of-drop items i t within is in
    let later = spine_of (drop (i + 1) items) in
    let both : ArePrintable sig depth (arg (term_of t) later) = subst P split before.printable in
    record {
      printable = both.1;
      rest = ap (λ l. l ++ args_text sig depth later) here ∙ append_assoc out (argument_text sig depth (term_of t)) (args_text sig depth later)
          ∙ ap (λ s. out ++ args_text sig depth s) (sym split) ∙ before.rest;
      kept = kept_later old out new before.kept (kept_appended out (argument_text sig depth (term_of t)) new here);
    }

pub args_printed : (sig : LfSignature) (depth : ℕ) (items : List Term) (i : ℕ) (all : Spine) (old out : List ℕ) → length items ≤ i → spine_of items ≡ all →
    PrintedArgs sig depth items i old out → out ≡ old ++ args_text sig depth all
args_printed sig depth items i all old out past are before =
    sym (append-nil out) ∙ ap (λ l. out ++ args_text sig depth (spine_of l)) (sym (drop_all i items past)) ∙ before.rest ∙ ap (λ s. old ++ args_text sig depth s) are

-- Binders: the same, with the marks of the rest from a place on.

pub record PrintedBinders (sig : LfSignature) (items : List Ty) (end : LfType) (marks : List Bool) (i old_depth depth old_place place : ℕ) (old out : List ℕ) : Type 0 where
  pub printable : IsPrintableType sig depth (pis (types_of (drop i items)) end)
  pub marked : HaveAt marks place (marks_of (pis (types_of (drop i items)) end))
  pub places : place + length (marks_of (pis (types_of (drop i items)) end)) ≡ old_place + length (marks_of (pis (types_of items) end))
  pub rest : out ++ type_text sig depth (pis (types_of (drop i items)) end) ≡ old ++ type_text sig old_depth (pis (types_of items) end)
  pub kept : StartsWith out old

pub no_binders_printed : (sig : LfSignature) (items : List Ty) (bs : List LfType) (end : LfType) (marks : List Bool) (depth place : ℕ) (old : List ℕ) → types_of items ≡ bs →
    IsPrintableType sig depth (pis bs end) → HaveAt marks place (marks_of (pis bs end)) → PrintedBinders sig items end marks 0 depth depth place place old old
no_binders_printed sig items bs end marks depth place old are printable marked = record { printable = rw are printable; marked = rw are marked; places = refl; rest = refl; kept = kept_unchanged old old refl }

-- the binder at a place, and the rest
binder_split : (items : List Ty) (end : LfType) (i : ℕ) (t : Ty) → i < length items → t ≡ get_or items i t →
    pis (types_of (drop i items)) end ≡ pi (type_of t) (pis (types_of (drop (i + 1) items)) end)
binder_split items end i t within is =
    ap (λ l. pis l end) (types_of-drop items i t within is) ∙ ap (λ k. pi (type_of t) (pis (types_of (drop k items)) end)) (sym (add-one i))

-- what is asked of a binder that is printed
pub record AskedOfBinder (sig : LfSignature) (depth : ℕ) (marks : List Bool) (place : ℕ) (a : LfType) : Type 0 where
  pub printable : IsPrintableType sig depth a
  pub within : place < length marks
  pub marked : HaveAt marks (place + 1) (marks_of a)

pub binder_asked : (sig : LfSignature) (items : List Ty) (end : LfType) (marks : List Bool) (i old_depth depth old_place place : ℕ) (old out : List ℕ) (t : Ty) →
    i < length items → t ≡ get_or items i t → PrintedBinders sig items end marks i old_depth depth old_place place old out → AskedOfBinder sig depth marks place (type_of t)
binder_asked sig items end marks i old_depth depth old_place place old out t within is before =
    let a = type_of t in
    let b = pis (types_of (drop (i + 1) items)) end in
    let split = binder_split items end i t within is in
    let P : LfType → Type 0 = λ c. IsPrintableType sig depth c in
    let Q : LfType → Type 0 = λ c. HaveAt marks place (marks_of c) in
    let both : IsPrintableType sig depth (pi a b) = subst P split before.printable in
    let marked : HaveAt marks place (mentions 0 b ∷ (marks_of a ++ marks_of b)) = subst Q split before.marked in
    record {
      printable = both.0;
      within = prefix_within marks place (mentions 0 b) (marks_of a ++ marks_of b) marked;
      marked = prefix_first marks (place + 1) (marks_of a) (marks_of b) (prefix_later marks place (mentions 0 b) (marks_of a ++ marks_of b) marked);
    }

pub binder_printed : (sig : LfSignature) (items : List Ty) (end : LfType) (marks : List Bool) (i old_depth depth old_place place : ℕ) (old out : List ℕ) (t : Ty) (depth' place' : ℕ) (new : List ℕ) →
    i < length items → t ≡ get_or items i t → PrintedBinders sig items end marks i old_depth depth old_place place old out → depth' ≡ depth + 1 →
    place' ≡ place + 1 + length (marks_of (type_of t)) → new ≡ out ++ binder_text sig depth (get_or marks place false) (type_of t) →
    PrintedBinders sig items end marks (i + 1) old_depth depth' old_place place' old new
binder_printed sig items end marks i old_depth depth old_place place old out t depth' place' new within is before deep after here =
    let a = type_of t in
    let b = pis (types_of (drop (i + 1) items)) end in
    let split = binder_split items end i t within is in
    let P : LfType → Type 0 = λ c. IsPrintableType sig depth c in
    let Q : LfType → Type 0 = λ c. HaveAt marks place (marks_of c) in
    let R : ℕ → Type 0 = λ d. IsPrintableType sig d b in
    let both : IsPrintableType sig depth (pi a b) = subst P split before.printable in
    let marked : HaveAt marks place (mentions 0 b ∷ (marks_of a ++ marks_of b)) = subst Q split before.marked in
    let inside : depth' ≡ suc depth = deep ∙ add-one depth in
    let printed : new ≡ out ++ binder_text sig depth (mentions 0 b) a = here ∙ ap (λ m. out ++ binder_text sig depth m a) (prefix_mark marks place (mentions 0 b) (marks_of a ++ marks_of b) marked) in
    record {
      printable = subst R (sym inside) both.1;
      marked = prefix_then marks (place + 1) place' (marks_of a) (marks_of b) after (prefix_later marks place (mentions 0 b) (marks_of a ++ marks_of b) marked);
      places = omega (arith, after, before.places, ap (λ c. length (marks_of c)) split, length-append (marks_of a) (marks_of b));
      rest = ap₂ (λ l d. l ++ type_text sig d b) printed inside ∙ append_assoc out (binder_text sig depth (mentions 0 b) a) (type_text sig (suc depth) b)
          ∙ ap (λ c. out ++ type_text sig depth c) (sym split) ∙ before.rest;
      kept = kept_later old out new before.kept (kept_appended out (binder_text sig depth (mentions 0 b) a) new printed);
    }

-- the family with its arguments, at the end
pub type_printed : (sig : LfSignature) (items : List Ty) (bs : List LfType) (f : ℕ) (args : Spine) (marks : List Bool) (i old_depth depth old_place place : ℕ) (old out named new name : List ℕ) →
    length items ≤ i → types_of items ≡ bs → PrintedBinders sig items (family f args) marks i old_depth depth old_place place old out →
    slice_get (family_names sig) f ≡ Some name → named ≡ out ++ name → new ≡ named ++ args_text sig depth args → new ≡ old ++ type_text sig old_depth (pis bs (family f args))
type_printed sig items bs f args marks i old_depth depth old_place place old out named new name past are before found first second =
    second ∙ ap (λ l. l ++ args_text sig depth args) first ∙ append_assoc out name (args_text sig depth args)
    ∙ ap (λ l. out ++ (l ++ args_text sig depth args)) (sym (get_or_from_slice_get (family_names sig) f name [] found))
    ∙ ap (λ l. out ++ type_text sig depth (pis (types_of l) (family f args))) (sym (drop_all i items past)) ∙ before.rest
    ∙ ap (λ l. old ++ type_text sig old_depth (pis l (family f args))) are

-- a type has binders where it is made of some
pub binders_counted : (bs : List LfType) (f : ℕ) (args : Spine) → has_binders (pis bs (family f args)) ≡ nat_lt 0 (length bs)
binders_counted [] f args = refl
binders_counted (b ∷ bs) f args = sym (lt-ltb 0 (length (b ∷ bs)) (omega arith))
