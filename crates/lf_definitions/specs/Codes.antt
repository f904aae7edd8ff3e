-- Codes of the plain data, by which a proof tells values of structs that are seen as such data apart. A term is coded as its heads and marks, in order.
use Rattle.std.specs.Prelude.{◌≡◌, ℕ, zero, suc, List, [], ◌∷◌}
use Rattle.std.specs.Coded.{Coded, code_by, coded×, coded_ℕ, coded_list}
use mathlib.Core.Path.{refl, ap, ap₂, ◌∙◌}
use Rattle.lf_definitions.specs.Syntax.{LfHead, bound, constant, metavariable, LfTerm, lam, at, Spine, no_args, arg, SimpleType, base, arrow, LfType, pi, family, atomic, conclusion_atom}
use Rattle.lf_definitions.specs.Typing.{LfGoal}
use Rattle.lf_definitions.specs.Signatures.{LfEntry, family_entry, constant_entry, LfSignature}

abbrev Marks : Type 0
Marks = List (ℕ × ℕ)

abbrev mutual
  term_marks : LfTerm → Marks → Marks
  term_marks (lam b) rest = (0, 0) ∷ term_marks b rest
  term_marks (at (bound n) ts) rest = (3, n) ∷ spine_marks ts rest
  term_marks (at (constant c) ts) rest = (4, c) ∷ spine_marks ts rest
  term_marks (at (metavariable g) ts) rest = (5, g) ∷ spine_marks ts rest

  spine_marks : Spine → Marks → Marks
  spine_marks no_args rest = (1, 0) ∷ rest
  spine_marks (arg t ts) rest = (2, 0) ∷ term_marks t (spine_marks ts rest)

-- Reading back, from the end: the terms and the spines that aren't yet part of another.
abbrev Unread : Type 0
Unread = Spine × List Spine

abbrev read_lam : Spine → List Spine → Unread
read_lam no_args spines = (no_args, spines)
read_lam (arg t ts) spines = (arg (lam t) ts, spines)

abbrev read_arg : Spine → List Spine → Unread
read_arg (arg t ts) (s ∷ spines) = (ts, arg t s ∷ spines)
read_arg no_args spines = (no_args, spines)
read_arg (arg t ts) [] = (arg t ts, [])

abbrev read_at : LfHead → Spine → List Spine → Unread
read_at h ts (s ∷ spines) = (arg (at h s) ts, spines)
read_at h ts [] = (ts, [])

abbrev read_mark : ℕ → ℕ → Unread → Unread
read_mark zero n u = read_lam u.0 u.1
read_mark (suc zero) n u = (u.0, no_args ∷ u.1)
read_mark (suc (suc zero)) n u = read_arg u.0 u.1
read_mark (suc (suc (suc zero))) n u = read_at (bound n) u.0 u.1
read_mark (suc (suc (suc (suc zero)))) n u = read_at (constant n) u.0 u.1
read_mark (suc (suc (suc (suc (suc k))))) n u = read_at (metavariable n) u.0 u.1

abbrev read : Marks → Unread
read [] = (no_args, [])
read (m ∷ rest) = read_mark m.0 m.1 (read rest)

mutual
  read-term_marks : (t : LfTerm) (rest : Marks) → read (term_marks t rest) ≡ (arg t (read rest).0, (read rest).1)
  read-term_marks (lam b) rest = ap (read_mark 0 0) (read-term_marks b rest)
  read-term_marks (at (bound n) ts) rest = ap (read_mark 3 n) (read-spine_marks ts rest)
  read-term_marks (at (constant c) ts) rest = ap (read_mark 4 c) (read-spine_marks ts rest)
  read-term_marks (at (metavariable g) ts) rest = ap (read_mark 5 g) (read-spine_marks ts rest)

  read-spine_marks : (ts : Spine) (rest : Marks) → read (spine_marks ts rest) ≡ ((read rest).0, ts ∷ (read rest).1)
  read-spine_marks no_args rest = refl
  read-spine_marks (arg t ts) rest = ap (read_mark 2 0) (read-term_marks t (spine_marks ts rest) ∙ ap (λ u. (arg t u.0, u.1)) (read-spine_marks ts rest))

abbrev first_term : Spine → LfTerm
first_term no_args = at (bound 0) no_args
first_term (arg t ts) = t

abbrev read_term : Marks → LfTerm
read_term marks = first_term (read marks).0

pub read_term-term_marks : (t : LfTerm) → read_term (term_marks t []) ≡ t
read_term-term_marks t = ap (λ u. first_term u.0) (read-term_marks t [])

abbrev pub term_code : Coded LfTerm
term_code = code_by Marks (coded_list (coded× coded_ℕ coded_ℕ)) (λ t. term_marks t []) read_term read_term-term_marks

abbrev args_of : LfTerm → Spine
args_of (lam b) = no_args
args_of (at h ts) = ts

abbrev pub spine_code : Coded Spine
spine_code = code_by LfTerm term_code (at (bound 0)) args_of (λ _. refl)

-- shapes and types, as terms
abbrev shape_term : SimpleType → LfTerm
shape_term base = at (bound 0) no_args
shape_term (arrow a s) = at (bound 0) (arg (shape_term a) (arg (shape_term s) no_args))

abbrev term_shape : LfTerm → SimpleType
term_shape (lam b) = base
term_shape (at h no_args) = base
term_shape (at h (arg t no_args)) = base
term_shape (at h (arg t (arg u ts))) = arrow (term_shape t) (term_shape u)

pub term_shape-shape_term : (s : SimpleType) → term_shape (shape_term s) ≡ s
term_shape-shape_term base = refl
term_shape-shape_term (arrow a s) = ap₂ arrow (term_shape-shape_term a) (term_shape-shape_term s)

abbrev pub shape_code : Coded SimpleType
shape_code = code_by LfTerm term_code shape_term term_shape term_shape-shape_term

abbrev pub shapes_code : Coded (List SimpleType)
shapes_code = coded_list shape_code

abbrev type_term : LfType → LfTerm
type_term (pi a b) = at (bound 0) (arg (type_term a) (arg (type_term b) no_args))
type_term (family f ts) = lam (at (constant f) ts)

abbrev head_number : LfHead → ℕ
head_number (bound n) = n
head_number (constant c) = c
head_number (metavariable g) = g

abbrev term_type : LfTerm → LfType
term_type (lam (lam b)) = family 0 no_args
term_type (lam (at h ts)) = family (head_number h) ts
term_type (at h no_args) = family 0 no_args
term_type (at h (arg t no_args)) = family 0 no_args
term_type (at h (arg t (arg u ts))) = pi (term_type t) (term_type u)

pub term_type-type_term : (a : LfType) → term_type (type_term a) ≡ a
term_type-type_term (pi a b) = ap₂ pi (term_type-type_term a) (term_type-type_term b)
term_type-type_term (family f ts) = refl

abbrev pub type_code : Coded LfType
type_code = code_by LfTerm term_code type_term term_type term_type-type_term

abbrev pub types_code : Coded (List LfType)
types_code = coded_list type_code

-- shapes with numbers
abbrev pub numbered_shapes_code : Coded (List (ℕ × SimpleType))
numbered_shapes_code = coded_list (coded× coded_ℕ shape_code)

-- goals
abbrev goal_parts : LfGoal → ℕ × List LfType
goal_parts g = (g.id, atomic g.target ∷ g.context)

abbrev parts_goal : ℕ × List LfType → LfGoal
parts_goal (id, []) = record { id = id; context = []; target = conclusion_atom (family 0 no_args) }
parts_goal (id, target ∷ context) = record { id = id; context = context; target = conclusion_atom target }

abbrev pub goals_code : Coded (List LfGoal)
goals_code = coded_list (code_by (ℕ × List LfType) (coded× coded_ℕ types_code) goal_parts parts_goal (λ _. refl))

-- signatures
abbrev EntryParts : Type 0
EntryParts = ℕ × (List ℕ × List LfType)

abbrev entry_parts : LfEntry → EntryParts
entry_parts (family_entry name kind) = (0, (name, kind))
entry_parts (constant_entry name type) = (1, (name, type ∷ []))

abbrev constant_parts : List ℕ → List LfType → LfEntry
constant_parts name [] = family_entry name []
constant_parts name (type ∷ types) = constant_entry name type

abbrev parts_entry : EntryParts → LfEntry
parts_entry (zero, parts) = family_entry parts.0 parts.1
parts_entry (suc mark, parts) = constant_parts parts.0 parts.1

pub parts_entry-entry_parts : (e : LfEntry) → parts_entry (entry_parts e) ≡ e
parts_entry-entry_parts (family_entry name kind) = refl
parts_entry-entry_parts (constant_entry name type) = refl

abbrev pub signature_code : Coded LfSignature
signature_code = coded_list (code_by EntryParts (coded× coded_ℕ (coded× (coded_list coded_ℕ) types_code)) entry_parts parts_entry parts_entry-entry_parts)
