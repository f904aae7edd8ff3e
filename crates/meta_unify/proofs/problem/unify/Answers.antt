use Rattle.unification.specs.Equations.{numbered_from}
use Rattle.unification.specs.Patterns.{has_number}
use Rattle.meta_unify.specs.Endings.{ending_of}
use Rattle.meta_unify.specs.declared.unified.Unified.TheVariants.{Solved}
use Rattle.meta_unify.proofs.Problems.{same_frozen, problem_stands, problem_solved, problem_contexts, problem_refused}
use Rattle.meta_unify.proofs.problem.unify.Goals as goal

pub resolved-requires : goal.resolved-requires
resolved-requires c =
    problem_stands (has_number c.in_ok-goals.goals) c.new-late.result c.unify_all.new.late c.args.equations.now c.in_ok-unify_all.field-0 c.new-late.ensures c.requires c.in-None.is c.in_ok-unify_all.ensures

pub returns-in-None-clause-ending : goal.returns-in-None-clause-ending
returns-in-None-clause-ending c =
    same_frozen c.in_ok-goals.goals c.args.frozen.now c.in_ok-goals.ensures (numbered_from 0 c.args.equations.now) (ending_of (Solved c.in_ok-resolved-in-None.field-0))
    (problem_solved (has_number c.in_ok-goals.goals) c.new-late.result c.unify_all.new.late c.in_ok-resolved-in-None.field-0 c.args.equations.now c.in_ok-unify_all.field-0 c.new-late.ensures c.requires c.in-None.is
    c.in_ok-unify_all.ensures c.in_ok-resolved-in-None.ensures.entries)

pub returns-in-None-clause-contexts : goal.returns-in-None-clause-contexts
returns-in-None-clause-contexts c =
    problem_contexts (has_number c.in_ok-goals.goals) c.new-late.result c.unify_all.new.late c.in_ok-resolved-in-None.field-0 c.args.equations.now c.in_ok-unify_all.field-0 c.new-late.ensures c.in-None.is
    c.in_ok-unify_all.ensures c.in_ok-resolved-in-None.ensures.contexts

pub returns-clause-ending : goal.returns-clause-ending
returns-clause-ending c =
    same_frozen c.in_ok-goals.goals c.args.frozen.now c.in_ok-goals.ensures (numbered_from 0 c.args.equations.now) (ending_of c.refusal.result)
    (problem_refused (has_number c.in_ok-goals.goals) c.new-late.result c.unify_all.new.late c.args.equations.now c.in_ok-unify_all.field-0 c.in-Some.stop (ending_of c.refusal.result) c.new-late.ensures c.requires c.in-Some.is
    c.in_ok-unify_all.ensures c.refusal.ensures)
