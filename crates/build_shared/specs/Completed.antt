-- What goals become, seen as plain data.
use Rattle.lf_terms.specs.Terms.{term_of}
use Rattle.applications.specs.Applications.{Completion}
use Rattle.build_shared.specs.declared.completing.Completed.{Completed}

abbrev pub seen_completed : Completed → Completion
seen_completed done = record { becomes_term = term_of done.becomes; more = done.more }
