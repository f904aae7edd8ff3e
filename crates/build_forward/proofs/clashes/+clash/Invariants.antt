use Rattle.lf_definitions.specs.Syntax.{term_size, spine_size}
use Rattle.lf_terms.specs.Terms.{term_of}
use Rattle.build_forward.proofs.clashes.+clash.Given as goal

abbrev pub decreases-terms_clash : goal.decreases-terms_clash
decreases-terms_clash l = term_size (term_of l.left.now)

abbrev pub decreases-args_clash : goal.decreases-args_clash
decreases-args_clash l = spine_size l.left.now
