use Rattle.std.proofs.Common.{map, sym, subst}
use Rattle.std.proofs.lemmas.Result.{IfOk-weaker}
use Rattle.lf_definitions.specs.Syntax.{at, base}
use Rattle.lf_definitions.specs.Instantiation.{Instantiated}
use Rattle.lf_terms.specs.Terms.{term_of}
use Rattle.completion_laws.proofs.Unified.{closed_here, goes_here}
use Rattle.meta_goals.specs.Bindings.{assigned_of, assigning}
use Rattle.meta_goals.specs.Instantiates.{Instantiates, TermIsShaped}
use Rattle.build_shared.specs.Attempts.{goals_at, goal_at, candidate_at, among_at}
use Rattle.build_shared.proofs.InstancesAmong.{instantiates_in, term_is}
use Rattle.build_shared.proofs.completing.head_applied.Goals as goal

pub instantiate-requires : goal.instantiate-requires
instantiate-requires c =
    let a = c.args.attempt.now in
    let x = c.requires.unified in
    let entries = map assigned_of c.args.entries.now in
    let k = candidate_at a in
    subst (λ ts. Instantiates c.args.entries.now (TermIsShaped (at k.head ts))) (sym c.in_ok-args.ensures)
    (instantiates_in a.sig.now (among_at a) (among_at a) c.args.entries.now (closed_here a.sig.now (goals_at a) a.first (goal_at a) k entries x) (goes_here a.sig.now (goals_at a) a.first (goal_at a) k entries x)
    c.requires.have_shapes (goal_at a).context (TermIsShaped (at k.head k.opened.terms)) (base, x.may_be_used.term_is_shaped))

pub returns : goal.returns
returns c =
    let a = c.args.attempt.now in
    let x = c.requires.unified in
    let entries = map assigned_of c.args.entries.now in
    let k = candidate_at a in
    IfOk-weaker c.instantiate.result _ _
    (λ r result. term_is a.sig.now (among_at a) (among_at a) c.args.entries.now (closed_here a.sig.now (goals_at a) a.first (goal_at a) k entries x) (goes_here a.sig.now (goals_at a) a.first (goal_at a) k entries x)
    c.requires.have_shapes (goal_at a).context (at k.head k.opened.terms) (term_of r) base x.may_be_used.term_is_shaped
    (subst (λ ts. Instantiated (assigning c.args.entries.now) (at k.head ts) (term_of r)) c.in_ok-args.ensures result))
    c.instantiate.ensures.result
