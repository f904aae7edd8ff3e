use Rattle.std.proofs.Common.{map, ap, subst, ◌∙◌}
use Rattle.lf_definitions.specs.Signatures.{FormedSignature}
use Rattle.meta_goals.specs.GoalsOf.{goals_of}
use Rattle.rule_problem.specs.Problems.{as_branch}
use Rattle.rule_problem.proofs.Branches.{found_are_distinct, nodes_are_own, branches_are_made}
use Rattle.rule_problem.proofs.problem.RuleProblemProblem.expand.Goals as goal

pub branches_of-requires : goal.branches_of-requires
branches_of-requires c =
    found_are_distinct c.args.self.now.book.now c.is_formed.ensures (subst FormedSignature c.sig.ensures c.is_formed-2.ensures) (goals_of c.args.node.now) c.requires.shaped
    c.in_ok-found.found.items c.in_ok-found.ensures.alternatives

pub returns-clause-own : goal.returns-clause-own
returns-clause-own c =
    nodes_are_own c.args.self.now.book.now c.is_formed.ensures (subst FormedSignature c.sig.ensures c.is_formed-2.ensures) (goals_of c.args.node.now) c.requires.shaped
    c.in_ok-made.made (c.in_ok-made.ensures ∙ ap (map as_branch) c.in_ok-found.ensures.alternatives)

pub returns-clause-branches : goal.returns-clause-branches
returns-clause-branches c =
    branches_are_made c.args.self.now.book.now c.is_formed.ensures (subst FormedSignature c.sig.ensures c.is_formed-2.ensures) (goals_of c.args.node.now) c.requires.shaped
    c.in_ok-made.made (c.in_ok-made.ensures ∙ ap (map as_branch) c.in_ok-found.ensures.alternatives)
