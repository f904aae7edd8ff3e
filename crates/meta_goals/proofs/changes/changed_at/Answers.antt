use Rattle.std.proofs.Common.{sym, subst, unwrap_or}
use Rattle.lf_definitions.specs.Syntax.{at, metavariable}
use Rattle.lf_definitions.specs.Instantiation.{Instantiated, InstantiatedSpine}
use Rattle.lf_terms.specs.Terms.{term_of}
use Rattle.meta_goals.specs.Bindings.{assigning}
use Rattle.meta_goals.specs.Entries.{binding_of}
use Rattle.meta_goals.proofs.ChangedTerms.{unassigned, applies, assigned_applied, head_kept}
use Rattle.meta_goals.proofs.changes.changed_at.Goals as goal

pub applied-requires : goal.applied-requires
applied-requires c =
    let a = c.args in
    applies a.assign.now a.id a.args.now a.args.now (binding_of (a.id, c.in-Some.entry.now)) c.requires.shaped (sym c.in-Some.ensures)
    (subst (λ o. InstantiatedSpine (assigning a.assign.now) a.args.now (unwrap_or o a.args.now)) c.in-None-results.is c.requires.results)

pub applied-requires-in-Some-results : goal.applied-requires-in-Some-results
applied-requires-in-Some-results c =
    let a = c.args in
    applies a.assign.now a.id a.args.now c.in-Some-results.results (binding_of (a.id, c.in-Some.entry.now)) c.requires.shaped (sym c.in-Some.ensures)
    (subst (λ o. InstantiatedSpine (assigning a.assign.now) a.args.now (unwrap_or o a.args.now)) c.in-Some-results.is c.requires.results)

pub returns-in-None : goal.returns-in-None
returns-in-None c =
    let a = c.args in
    let h = metavariable a.id in
    subst (Instantiated (assigning a.assign.now) (at h a.args.now)) (head_kept h a.args.now a.results _ c.with_head.ensures)
    (unassigned a.assign.now a.id a.args.now (unwrap_or a.results a.args.now) (sym c.in-None.ensures) c.requires.results)

pub returns-in_ok-applied-in-None-results : goal.returns-in_ok-applied-in-None-results
returns-in_ok-applied-in-None-results c =
    let a = c.args in
    assigned_applied a.assign.now a.id a.args.now a.args.now (binding_of (a.id, c.in-Some.entry.now)) c.requires.shaped (sym c.in-Some.ensures)
    (subst (λ o. InstantiatedSpine (assigning a.assign.now) a.args.now (unwrap_or o a.args.now)) c.in-None-results.is c.requires.results)
    (term_of c.in_ok-applied-in-None-results.field-0) c.in_ok-applied-in-None-results.ensures

pub returns-in_ok-applied-in-Some-results : goal.returns-in_ok-applied-in-Some-results
returns-in_ok-applied-in-Some-results c =
    let a = c.args in
    assigned_applied a.assign.now a.id a.args.now c.in-Some-results.results (binding_of (a.id, c.in-Some.entry.now)) c.requires.shaped (sym c.in-Some.ensures)
    (subst (λ o. InstantiatedSpine (assigning a.assign.now) a.args.now (unwrap_or o a.args.now)) c.in-Some-results.is c.requires.results)
    (term_of c.in_ok-applied-in-Some-results.field-0) c.in_ok-applied-in-Some-results.ensures
