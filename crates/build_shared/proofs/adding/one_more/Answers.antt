use Rattle.std.proofs.Common.{◌<◌, [], ◌∷◌, ◌++◌, length, All, sym, ap, ap₂, ◌∙◌, subst}
use Rattle.lf_definitions.specs.Syntax.{arg, no_args, joined}
use Rattle.lf_definitions.proofs.Renaming.{rename_spine-same_head}
use Rattle.head_laws.proofs.Results.{length-shapes_of_types}
use Rattle.lf_terms.specs.Targets.{goal_of}
use Rattle.lf_terms.specs.Terms.{term_of}
use Rattle.opening_laws.specs.Openings.{AreKept, kept_variables}
use Rattle.opening_laws.proofs.Kept.{entries_unique}
use Rattle.applications.specs.OpenedTypes.{kept_entries}
use Rattle.applications.specs.Applications.{goal_with}
use Rattle.meta_openings.specs.Tables.{AreTables}
use Rattle.build_shared.specs.Added.{CanAdd}
use Rattle.build_shared.specs.Seen.{seen_atom}
use Rattle.build_shared.proofs.OneMoreHypothesis.{made_of}
use Rattle.build_shared.proofs.adding.one_more.Goals as goal

pub places_of-requires : goal.places_of-requires
places_of-requires c = subst (λ n. All (λ place. place < n) c.args.kept.now) (sym c.len.ensures) c.requires.are_places

pub kept_entries-requires-clause-tables : goal.kept_entries-requires-clause-tables
kept_entries-requires-clause-tables c = subst (AreTables c.in_ok-places.places) c.len.ensures c.in_ok-places.ensures.tables

pub kept_entries-requires-clause-kept : goal.kept_entries-requires-clause-kept
kept_entries-requires-clause-kept c =
    let ctx = c.args.goal.now.ctx in
    (kept_entries c.args.kept.now 0 ctx, subst (λ k. AreKept k 0 ctx (kept_entries c.args.kept.now 0 ctx)) (sym c.in_ok-places.ensures.kept) c.requires.entries_kept)

pub kept_variables-requires : goal.kept_variables-requires
kept_variables-requires c =
    subst (AreTables c.in_ok-places.places) (c.len.ensures ∙ sym (ap length c.in_ok-shapes.ensures ∙ length-shapes_of_types c.args.goal.now.ctx)) c.in_ok-places.ensures.tables

pub added_goal-requires-clause-tables : goal.added_goal-requires-clause-tables
added_goal-requires-clause-tables c = subst (AreTables c.in_ok-places.places) c.len.ensures c.in_ok-places.ensures.tables

pub added_goal-requires-clause-entries : goal.added_goal-requires-clause-entries
added_goal-requires-clause-entries c =
    let ctx = c.args.goal.now.ctx in
    let kept = c.args.kept.now in
    entries_unique c.requires.entries_kept (subst (λ k. AreKept k 0 ctx c.in_ok-entries.entries) c.in_ok-places.ensures.kept c.in_ok-entries.ensures)
    ∙ ap (λ k. kept_entries k 0 ctx) (sym c.in_ok-places.ensures.kept)

pub added_goal-requires-clause-can : goal.added_goal-requires-clause-can
added_goal-requires-clause-can c = subst (λ k. CanAdd (goal_of c.args.goal.now) k (seen_atom c.args.fact)) (sym c.in_ok-places.ensures.kept) c.requires

pub returns : goal.returns
returns c =
    let ctx = c.args.goal.now.ctx in
    let kept = c.args.kept.now in
    let entries = c.in_ok-entries.entries in
    let entries_are = entries_unique c.requires.entries_kept (subst (λ k. AreKept k 0 ctx entries) c.in_ok-places.ensures.kept c.in_ok-entries.ensures) in
    let variables =
    c.in_ok-variables.ensures ctx entries c.in_ok-shapes.ensures c.in_ok-entries.ensures ∙ rename_spine-same_head (kept_variables c.in_ok-places.places.kept.now (length ctx) entries)
    ∙ ap₂ (λ k es. kept_variables k (length ctx) es) c.in_ok-places.ensures.kept entries_are in
    made_of c.args.number (goal_of c.args.goal.now) kept (seen_atom c.args.fact) (term_of c.args.proof) _ _ _
    (c.in_ok-args.ensures ∙ ap (λ vs. joined vs (arg (term_of c.args.proof) no_args)) variables)
    (c.in_ok-push.ensures.ok ∙ ap (λ l. l ++ goal_of c.in_ok-added.added ∷ []) c.new-more.ensures)
    (c.in_ok-added.ensures ∙ ap (λ k. goal_with c.args.number (goal_of c.args.goal.now) k (seen_atom c.args.fact)) c.in_ok-places.ensures.kept)
