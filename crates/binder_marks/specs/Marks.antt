-- Marks of the binders of a type that the rest mentions.
use Rattle.std.specs.Prelude.{◌≡◌, ◌+◌, ◌<◌, ℕ, suc, List, [], ◌∷◌, ◌++◌, Bool, true, false, length, drop, map, set, slice_index_or, All}
use Rattle.lf_definitions.specs.Syntax.{LfType, pi, family}
use Rattle.binder_marks.specs.Mentions.{mentions}

-- For each binder of a type and of the types of its binders, in the order in which they are printed, whether the rest mentions it.
abbrev pub marks_of : LfType → List Bool
marks_of (pi a b) = mentions 0 b ∷ (marks_of a ++ marks_of b)
marks_of (family f args) = []

-- the places of the binders of a type among the marks, where its marks begin at a place
abbrev pub binder_places : ℕ → LfType → List ℕ
binder_places place (pi a b) = place ∷ binder_places (suc (place + length (marks_of a))) b
binder_places place (family f args) = []

-- the marks at places
abbrev pub marks_at : List ℕ → List Bool → List Bool
marks_at places marks = map (λ place. slice_index_or marks place false) places

-- the mark at a place, made besides where this is true
abbrev pub with_mark : ℕ → Bool → List Bool → List Bool
with_mark place true marks = set marks place true
with_mark place false marks = marks

-- The variables around a type have their marks at these places, the outermost first. Those that are mentioned are marked besides.
abbrev pub with_marks : List ℕ → (ℕ → Bool) → List Bool → List Bool
with_marks [] mentioned marks = marks
with_marks (place ∷ places) mentioned marks = with_marks places mentioned (with_mark place (mentioned (length places)) marks)

-- all of them places of marks
abbrev pub ArePlaces : List ℕ → List Bool → Type 0
ArePlaces places marks = All (λ place. place < length marks) places

-- From this place on the marks begin with these.
abbrev pub HaveAt : List Bool → ℕ → List Bool → Type 0
HaveAt marks place prefix = (rest : List Bool) × (drop place marks ≡ prefix ++ rest)
