-- Signatures: families with their kinds and constants with their types, in the order in which they were added.
use Rattle.std.specs.Prelude.{◌≡◌, ◌≢◌, ℕ, List, [], ◌∷◌, ◌++◌, map, All, slice_index_or}
use Rattle.lf_definitions.specs.Syntax.{LfType, Context, LfKind}
use Rattle.lf_definitions.specs.Typing.{Typing, Kinds, Formed, FormedKind, LfGoal, kinds_of, types_in}

-- A family with its kind, or a constant with its type. A name is the list of its bytes.
pub data LfEntry : Type 0 where
  family_entry : (name : List ℕ) (kind : LfKind) → LfEntry
  constant_entry : (name : List ℕ) (type : LfType) → LfEntry

-- the entries, the oldest first
abbrev pub LfSignature : Type 0
LfSignature = List LfEntry

abbrev pub name_of_entry : LfEntry → List ℕ
name_of_entry (family_entry name kind) = name
name_of_entry (constant_entry name type) = name

-- the names of all entries, in the order in which they were added
abbrev pub names_of : LfSignature → List (List ℕ)
names_of sig = map name_of_entry sig

-- Families and constants are numbered apart, from 0: the names of the families, by their numbers.
abbrev pub family_names : LfSignature → List (List ℕ)
family_names [] = []
family_names (family_entry name kind ∷ sig) = name ∷ family_names sig
family_names (constant_entry name type ∷ sig) = family_names sig

-- the kinds of the families
abbrev pub family_kinds : LfSignature → List LfKind
family_kinds [] = []
family_kinds (family_entry name kind ∷ sig) = kind ∷ family_kinds sig
family_kinds (constant_entry name type ∷ sig) = family_kinds sig

-- the names of the constants
abbrev pub constant_names : LfSignature → List (List ℕ)
constant_names [] = []
constant_names (family_entry name kind ∷ sig) = constant_names sig
constant_names (constant_entry name type ∷ sig) = name ∷ constant_names sig

-- the name of this number, in a list of names
abbrev pub name_at : List (List ℕ) → ℕ → List ℕ
name_at names number = slice_index_or names number []

-- the types of the constants
abbrev pub constant_types : LfSignature → List LfType
constant_types [] = []
constant_types (family_entry name kind ∷ sig) = constant_types sig
constant_types (constant_entry name type ∷ sig) = type ∷ constant_types sig

-- the kinds of the families, by their numbers
abbrev pub kinds_in : LfSignature → Kinds
kinds_in sig = kinds_of (family_kinds sig)

-- the types of constants, of goals as metavariables, and of the variables of a context
abbrev pub typing_in : LfSignature → List LfGoal → Context → Typing
typing_in sig goals ctx = types_in (constant_types sig) goals ctx

-- An entry is well formed over a signature where its kind or its type is, with no variables and no metavariables.
abbrev pub FormedEntry : LfSignature → LfEntry → Type 0
FormedEntry sig (family_entry name kind) = FormedKind (kinds_in sig) (typing_in sig [] []) kind
FormedEntry sig (constant_entry name type) = Formed (kinds_in sig) (typing_in sig [] []) type

-- No entry has the name.
abbrev pub IsNewName : LfSignature → List ℕ → Type 0
IsNewName sig name = All (λ other. other ≢ name) (names_of sig)

-- A signature is well formed where each entry has a new name and is well formed over the entries before it.
pub data FormedSignature : LfSignature → Type 0 where
  formed_nothing : FormedSignature []
  formed_more : (sig after : LfSignature) (entry : LfEntry) → FormedSignature sig → IsNewName sig (name_of_entry entry) → FormedEntry sig entry →
      after ≡ sig ++ entry ∷ [] → FormedSignature after
