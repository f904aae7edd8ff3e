use Rattle.std.proofs.Common.{sym, ap, ◌∙◌}
use Rattle.lf_definitions.specs.Syntax.{args_count}
use Rattle.lf_terms.proofs.Spines.{args_count-spine_of}
use Rattle.lf_terms.proofs.term.Terms.len.Goals as goal

pub returns : goal.returns
returns c = sym (args_count-spine_of _) ∙ ap args_count c.as_slice.ensures
