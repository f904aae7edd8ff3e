-- What the names in a file stand for.
use Rattle.std.specs.Prelude.{ℕ, suc, List, [], ◌∷◌, Option, Some, None, option_map, if◌then◌else◌, slice_range}
use Rattle.std.specs.Str.{bytes_eq}
use Rattle.basics.specs.Places.{place_of}
use Rattle.lf_definitions.specs.Syntax.{LfHead, bound, constant}
use Rattle.lf_definitions.specs.Signatures.{LfSignature, constant_names, family_names}
use Rattle.file_trees.specs.declared.span.Span.{Span}
use Rattle.file_trees.specs.declared.span.BinderSpan.{BinderSpan}

-- the bytes of a file
abbrev pub Text : Type 0
Text = List ℕ

-- the bytes of a span
abbrev pub text_at : Text → Span → List ℕ
text_at text span = slice_range text span.start span.end

-- the name that a binder binds
abbrev pub binder_name : Text → BinderSpan → Option (List ℕ)
binder_name text binder = Some (text_at text binder.name)

-- the names of the binders around a place, the innermost first; the left side of an arrow binds none
abbrev pub Bound : Type 0
Bound = List (Option (List ℕ))

abbrev pub variable_of : Bound → List ℕ → Option ℕ
variable_of [] name = None
variable_of (None ∷ outer) name = option_map suc (variable_of outer name)
variable_of (Some binder ∷ outer) name = if bytes_eq name binder then Some 0 else option_map suc (variable_of outer name)

-- a variable, or else another head
abbrev pub head_or : Option LfHead → Option ℕ → Option LfHead
head_or other None = other
head_or other (Some n) = Some (bound n)

-- In a term a name is that of the innermost binder that has it, or else of a constant.
abbrev pub named_head : LfSignature → Bound → List ℕ → Option LfHead
named_head sig binders name = head_or (option_map constant (place_of (constant_names sig) name)) (variable_of binders name)

-- nothing where it is a variable's
abbrev pub family_or : Option ℕ → Option ℕ → Option ℕ
family_or other None = other
family_or other (Some n) = None

-- In a type it is that of a family, where no binder hides it.
abbrev pub family_of : LfSignature → Bound → List ℕ → Option ℕ
family_of sig binders name = family_or (place_of (family_names sig) name) (variable_of binders name)
