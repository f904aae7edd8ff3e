use Rattle.std.proofs.Common.{sym, ◌∙◌}
use Rattle.std.proofs.lemmas.Result.{IfOk-weaker}
use Rattle.lf_terms.specs.Terms.{term_of}
use Rattle.meta_patterns.proofs.Placings.{own_placed}
use Rattle.meta_patterns.proofs.pattern.Pattern.placed.Goals as goal

pub returns-then-is_own : goal.returns-then-is_own
returns-then-is_own c =
    IfOk-weaker c.copy.result _ _ (λ r same. same ∙ sym (own_placed c.args.self.now (term_of c.args.term.now) (c.is_own.ensures c.if-is_own.true) c.requires)) c.copy.ensures
