-- Entries of assignments, seen as plain data.
use Rattle.std.specs.Prelude.{ℕ}
use Rattle.lf_terms.specs.Terms.{term_of}
use Rattle.meta_goals.specs.Bindings.{LfBinding}
use Rattle.meta_goals.specs.declared.assign.Entry.{Entry}

-- a goal's number with its entry
abbrev pub binding_of : ℕ × Entry → LfBinding
binding_of e = record { number = e.0; shapes = e.1.shapes; bound_body = term_of e.1.body }
