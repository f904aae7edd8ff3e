-- Terms that read as variables, patterns, and what a metavariable applied to a pattern is assigned (Miller 1991).
use Rattle.std.specs.Prelude.{ℕ, zero, suc, ◌-◌, List, [], ◌∷◌, map, length, Bool, true, false, not, ◌&&◌, ◌||◌, Option, Some, None, is_some, if◌then◌else◌, nat_eq}
use Rattle.lf_definitions.specs.Syntax.{LfHead, bound, constant, metavariable, LfTerm, lam, at, Spine, no_args, arg}
use Rattle.lf_definitions.specs.Renaming.{Renaming}
use Rattle.head_laws.specs.Mentions.{same_head, is_rigid}
use Rattle.head_laws.specs.Renumbering.{place_of_number}

-- A variable as it is seen from outside so many binders, and nothing where it is one of theirs.
abbrev pub from_outside : ℕ → ℕ → Option ℕ
from_outside zero n = Some n
from_outside (suc count) zero = None
from_outside (suc count) (suc n) = from_outside count n

abbrev pub is_number : ℕ → Option ℕ → Bool
is_number n None = false
is_number n (Some m) = nat_eq n m

abbrev mutual
  -- The variable that a term reads as, seen from outside the abstractions that were passed, as many as `count`: under them it is applied to their variables.
  pub reads_under : ℕ → LfTerm → Option ℕ
  reads_under count (lam b) = reads_under (suc count) b
  reads_under count (at (bound n) ts) = if are_own count ts then from_outside count n else None
  reads_under count (at (constant c) ts) = None
  reads_under count (at (metavariable g) ts) = None

  -- Arguments read as the variables of so many binders, the oldest first.
  pub are_own : ℕ → Spine → Bool
  are_own zero no_args = true
  are_own zero (arg t ts) = false
  are_own (suc count) no_args = false
  are_own (suc count) (arg t ts) = is_number count (reads_under zero t) && are_own count ts

-- The variable that a term reads as: the one of which it is the eta-long form.
abbrev pub reads : LfTerm → Option ℕ
reads t = reads_under zero t

abbrev pub joined_reading : Option ℕ → Option (List ℕ) → Option (List ℕ)
joined_reading None ns = None
joined_reading (Some n) None = None
joined_reading (Some n) (Some ns) = Some (n ∷ ns)

-- the variables that arguments read as, in order, where each reads as one
abbrev pub variables_of : Spine → Option (List ℕ)
variables_of no_args = Some []
variables_of (arg t ts) = joined_reading (reads t) (variables_of ts)

abbrev pub has_number : List ℕ → ℕ → Bool
has_number [] n = false
has_number (m ∷ rest) n = nat_eq m n || has_number rest n

abbrev pub are_different : List ℕ → Bool
are_different [] = true
are_different (n ∷ rest) = not (has_number rest n) && are_different rest

abbrev pub where_different : Option (List ℕ) → Option (List ℕ)
where_different None = None
where_different (Some ns) = if are_different ns then Some ns else None

-- Arguments are a pattern where they read as different variables.
abbrev pub pattern_of : Spine → Option (List ℕ)
pattern_of ts = where_different (variables_of ts)

-- the same variables, seen from under one more binder, and its own
abbrev pub under_binder : List ℕ → List ℕ
under_binder ns = zero ∷ map suc ns

abbrev pub is_among : List ℕ → LfHead → Bool
is_among ns (bound n) = has_number ns n
is_among ns (constant c) = true
is_among ns (metavariable g) = true

abbrev mutual
  -- Each variable that occurs in a term, but for those of its own binders, is one of these.
  pub is_over : List ℕ → LfTerm → Bool
  is_over ns (lam b) = is_over (under_binder ns) b
  is_over ns (at h ts) = is_among ns h && is_over_spine ns ts

  pub is_over_spine : List ℕ → Spine → Bool
  is_over_spine ns no_args = true
  is_over_spine ns (arg t ts) = is_over ns t && is_over_spine ns ts

abbrev mutual
  -- One that is none of these occurs outside all arguments of metavariables.
  pub escapes_from : List ℕ → LfTerm → Bool
  escapes_from ns (lam b) = escapes_from (under_binder ns) b
  escapes_from ns (at h ts) = not (is_among ns h) || (is_rigid h && spine_escapes_from ns ts)

  pub spine_escapes_from : List ℕ → Spine → Bool
  spine_escapes_from ns no_args = false
  spine_escapes_from ns (arg t ts) = escapes_from ns t || spine_escapes_from ns ts

abbrev mutual
  -- A metavariable, applied to arguments that all read as variables, occurs outside all arguments of metavariables.
  pub occurs_plainly : ℕ → LfTerm → Bool
  occurs_plainly g (lam b) = occurs_plainly g b
  occurs_plainly g (at h ts) = (same_head (metavariable g) h && is_some (variables_of ts)) || (is_rigid h && occurs_plainly_in_spine g ts)

  pub occurs_plainly_in_spine : ℕ → Spine → Bool
  occurs_plainly_in_spine g no_args = false
  occurs_plainly_in_spine g (arg t ts) = occurs_plainly g t || occurs_plainly_in_spine g ts

-- Each of these variables becomes that of the entry at its place, in a context with as many entries.
abbrev pub placed : List ℕ → Renaming
placed ns (bound n) = bound (length ns - suc (place_of_number ns n))
placed ns (constant c) = constant c
placed ns (metavariable g) = metavariable g
