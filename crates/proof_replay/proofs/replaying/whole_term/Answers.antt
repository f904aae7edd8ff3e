use Rattle.std.proofs.Common.{sym, ap, ◌∙◌, length}
use Rattle.lf_definitions.specs.Syntax.{lams}
use Rattle.lf_definitions.specs.GoalLists.{opening}
use Rattle.lf_definitions.proofs.Failures.{binders_of-pis}
use Rattle.lf_terms.specs.Terms.{term_of}
use Rattle.lf_terms.specs.Types.{type_of}
use Rattle.proof_replay.proofs.WholeTables.{first_is_ended, whole_term_is}
use Rattle.proof_replay.proofs.replaying.whole_term.Goals as goal

pub finals_of-requires : goal.finals_of-requires
finals_of-requires c = (c.requires.0, opening (type_of c.args.ty.now), c.requires.1)

pub first_body-requires : goal.first_body-requires
first_body-requires c = first_is_ended (type_of c.args.ty.now) c.args.builds.now c.in_ok-finals.finals c.in_ok-finals.ensures c.requires.0 c.requires.1

pub returns : goal.returns
returns c =
    let ty = c.args.ty.now in
    let first = first_is_ended (type_of ty) c.args.builds.now c.in_ok-finals.finals c.in_ok-finals.ensures c.requires.0 c.requires.1 in
    whole_term_is (type_of ty) c.args.builds.now c.in_ok-finals.finals c.in_ok-finals.ensures first.0 (term_of c.in_ok-term.term) c.len.result first.1
    (c.len.ensures ∙ sym (ap length (binders_of-pis ty.binders ty.family ty.args))) (c.in_ok-term.ensures ∙ ap (lams c.len.result) (c.in_ok-body.ensures first.0 first.1))
