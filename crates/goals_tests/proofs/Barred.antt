-- Whether a type mentions no head of which something is true, by computation.
use Rattle.std.proofs.Common.{◌≡◌, Bool, true, false, refl, sym, ◌∙◌}
use Rattle.std.specs.Prelude.{not, ◌&&◌}
use Rattle.lf_definitions.specs.Syntax.{LfHead, LfTerm, lam, at, Spine, no_args, arg, LfType, pi, family}
use Rattle.lf_definitions.specs.Renaming.{next, extended}
use Rattle.lf_definitions.specs.Occurrence.{OccursIn, occurs_head, occurs_args, occurs_lam, OccursInSpine, occurs_first, occurs_later, OccursInType, occurs_binder, occurs_rest, occurs_family}
use Rattle.lf_definitions.proofs.Renaming.{extended-next}
use Rattle.opening_laws.specs.Conditions.{MentionsNone}

abbrev mutual
  pub none_in : (LfHead → Bool) → LfTerm → Bool
  none_in barred (lam b) = none_in (extended false barred) b
  none_in barred (at h ts) = not (barred h) && none_in_spine barred ts

  pub none_in_spine : (LfHead → Bool) → Spine → Bool
  none_in_spine barred no_args = true
  none_in_spine barred (arg t ts) = none_in barred t && none_in_spine barred ts

abbrev pub none_in_type : (LfHead → Bool) → LfType → Bool
none_in_type barred (pi a b) = none_in_type barred a && none_in_type (extended false barred) b
none_in_type barred (family f args) = none_in_spine barred args

first_true : (a b : Bool) → a && b ≡ true → a ≡ true
first_true true b e = refl
first_true false b e = absurd cc

second_true : (a b : Bool) → a && b ≡ true → b ≡ true
second_true true b e = e
second_true false b e = absurd cc

not_true : (a : Bool) → not a ≡ true → a ≡ false
not_true true e = absurd cc
not_true false e = refl

mutual
  none_sound : (barred : LfHead → Bool) (h : LfHead) (t : LfTerm) → OccursIn h t → none_in barred t ≡ true → barred h ≡ false
  none_sound barred h (lam b) (occurs_lam _ _ o) e = sym (extended-next false barred h) ∙ none_sound (extended false barred) (next h) b o e
  none_sound barred h (at k ts) (occurs_head _ _) e = not_true (barred h) (first_true (not (barred h)) (none_in_spine barred ts) e)
  none_sound barred h (at k ts) (occurs_args _ _ _ o) e = spine_sound barred h ts o (second_true (not (barred k)) (none_in_spine barred ts) e)

  spine_sound : (barred : LfHead → Bool) (h : LfHead) (ts : Spine) → OccursInSpine h ts → none_in_spine barred ts ≡ true → barred h ≡ false
  spine_sound barred h no_args o e = elim o [ ]
  spine_sound barred h (arg t ts) (occurs_first _ _ _ o) e = none_sound barred h t o (first_true (none_in barred t) (none_in_spine barred ts) e)
  spine_sound barred h (arg t ts) (occurs_later _ _ _ o) e = spine_sound barred h ts o (second_true (none_in barred t) (none_in_spine barred ts) e)

type_sound : (barred : LfHead → Bool) (h : LfHead) (a : LfType) → OccursInType h a → none_in_type barred a ≡ true → barred h ≡ false
type_sound barred h (pi a b) (occurs_binder _ _ _ o) e = type_sound barred h a o (first_true (none_in_type barred a) (none_in_type (extended false barred) b) e)
type_sound barred h (pi a b) (occurs_rest _ _ _ o) e = sym (extended-next false barred h) ∙ type_sound (extended false barred) (next h) b o (second_true (none_in_type barred a) (none_in_type (extended false barred) b) e)
type_sound barred h (family f args) (occurs_family _ _ _ o) e = spine_sound barred h args o e

pub mentions_none : (barred : LfHead → Bool) (a : LfType) → none_in_type barred a ≡ true → MentionsNone barred a
mentions_none barred a e h o = type_sound barred h a o e
