-- What is read as a list of constructors before a book judges it, and where the judgement is said.
use Rattle.std.specs.Prelude.{ℕ, ◌<◌, List, length, get_or, Option, Some, None}
use Rattle.basics.specs.Places.{place_of}
use Rattle.lf_definitions.specs.Signatures.{LfSignature, constant_names}
use Rattle.file_trees.specs.declared.span.Span.{Span}
use Rattle.rule_sets.specs.declared.rule.CtorFault.{CtorFault}
use Rattle.rule_sets.specs.declared.rule.CtorFault.TheVariants as list_faults
use Rattle.elab_terms.specs.Names.{Text, text_at}
use Rattle.elab_terms.specs.declared.elab_fault.ElabFault.{ElabFault}
use Rattle.elab_terms.specs.declared.elab_fault.ElabFault.TheVariants.{Taken, Unknown, BadRule, NoMemory}
use Rattle.file_elab.specs.ReadRules.{number_of}

abbrev pub number_in : Text → LfSignature → Span → ℕ
number_in text sig span = number_of sig (text_at text span)

-- The place of the fault is one of the list.
abbrev pub HasPlaceIn : List Span → CtorFault → Type 0
HasPlaceIn spans (list_faults.Repeated place) = place < length spans
HasPlaceIn spans (list_faults.Other place) = place < length spans
HasPlaceIn spans _ = Unit {0}

abbrev pub unknown_or_bad : Span → Option ℕ → ElabFault
unknown_or_bad span None = Unknown span.start
unknown_or_bad span (Some constant) = BadRule span.start

-- A name that is none of a constant of the family is one of no constant, or of one of another family.
abbrev pub other_refused_as : Text → LfSignature → Span → ElabFault
other_refused_as text sig span = unknown_or_bad span (place_of (constant_names sig) (text_at text span))

-- where a fault of the list is said
abbrev pub list_refused_as : Text → LfSignature → Span → List Span → CtorFault → ElabFault
list_refused_as text sig name spans list_faults.Taken = Taken name.start
list_refused_as text sig name spans (list_faults.Repeated place) = Taken (get_or spans place name).start
list_refused_as text sig name spans (list_faults.Other place) = other_refused_as text sig (get_or spans place name)
list_refused_as text sig name spans (list_faults.NoMemory constants) = NoMemory
