use Rattle.std.proofs.Common.{length, sym, ap, ◌∙◌, subst, subst₂}
use Rattle.lf_definitions.specs.Syntax.{Context}
use Rattle.lf_definitions.specs.Substitution.{SubstitutedSpine}
use Rattle.lf_definitions.proofs.Renaming.{rename_spine-same_head}
use Rattle.lf_terms.specs.Putting.{putting, Puts, ArgsShaped}
use Rattle.lf_terms.specs.Terms.{spine_of}
use Rattle.lf_terms.specs.Types.{type_of}
use Rattle.typing_laws.proofs.Binders.{length-shapes_of_types}
use Rattle.opening_laws.specs.Openings.{kept_variables, AreKept, IsOpened}
use Rattle.meta_openings.specs.Results.{IsOpenable}
use Rattle.meta_openings.specs.Tables.{AreTables}
use Rattle.meta_openings.proofs.NextArgument.{conclusion_puts}
use Rattle.meta_openings.proofs.Whole.{has_entries, fixed_are_arguments, begins, ends}
use Rattle.meta_openings.proofs.open.open_args.Goals as goal

pub kept_entries-requires-clause-kept : goal.kept_entries-requires-clause-kept
kept_entries-requires-clause-kept c =
    let a = c.args in
    subst (λ k. (entries : Context) × AreKept k 0 a.ctx.now entries) (sym c.in_ok-places.ensures.kept) (has_entries a.ctx.now a.kept.now a.fixed.now a.first (type_of a.ty.now) c.requires)

pub kept_variables-requires : goal.kept_variables-requires
kept_variables-requires c =
    subst (AreTables c.in_ok-places.places) (c.len.ensures ∙ sym (ap length c.in_ok-shapes.ensures ∙ length-shapes_of_types c.args.ctx.now)) c.in_ok-places.ensures.tables

pub open_arguments-requires-clause-setting : goal.open_arguments-requires-clause-setting
open_arguments-requires-clause-setting c =
    let a = c.args in
    let counts = sym (ap length c.in_ok-shapes.ensures ∙ length-shapes_of_types a.ctx.now) in
    let kept = c.in_ok-places.places.kept.now in
    let entries = c.in_ok-entries.entries in
    record {
      context = a.ctx.now;
      shapes_are = c.in_ok-shapes.ensures;
      are_kept = c.in_ok-entries.ensures;
      tables = subst (AreTables c.in_ok-places.places) (c.len.ensures ∙ counts) c.in_ok-places.ensures.tables;
      variables_are =
          c.in_ok-variables.ensures a.ctx.now entries c.in_ok-shapes.ensures c.in_ok-entries.ensures ∙ rename_spine-same_head (kept_variables kept (length a.ctx.now) entries)
          ∙ ap (λ n. kept_variables kept n entries) counts;
    }

pub open_arguments-requires-clause-fixed : goal.open_arguments-requires-clause-fixed
open_arguments-requires-clause-fixed c =
    let a = c.args in
    fixed_are_arguments a.ctx.now a.kept.now a.fixed.now a.first a.ty.now.binders a.ty.now.family a.ty.now.args c.requires

pub open_arguments-requires-clause-begins : goal.open_arguments-requires-clause-begins
open_arguments-requires-clause-begins c =
    let a = c.args in
    begins _ a.ctx.now a.fixed.now (type_of a.ty.now) c.in_ok-shapes.ensures c.in_ok-entries.ensures
    (subst (λ k. IsOpenable a.ctx.now k a.fixed.now a.first (type_of a.ty.now)) (sym c.in_ok-places.ensures.kept) c.requires)

pub put_all-requires : goal.put_all-requires
put_all-requires c =
    let a = c.args in
    subst₂ (λ ts ss. Puts ts ss 0 0 (ArgsShaped a.ty.now.args)) (ap spine_of (sym c.as_slice-2.ensures.value)) (sym c.as_slice.ensures)
    (conclusion_puts _ a.fixed.now (type_of a.ty.now) _ _ _ _ a.ty.now.family a.ty.now.args c.in_ok-opened.ensures)

pub returns : goal.returns
returns c =
    let a = c.args in
    let args = c.in_ok-args.args in
    let put = subst (λ xs. SubstitutedSpine (putting (spine_of xs) 0 0) a.ty.now.args args) c.as_slice-2.ensures.value c.in_ok-args.ensures.result in
    subst (λ k. IsOpened a.ctx.now k a.fixed.now a.first (type_of a.ty.now)
    (record { terms = c.in_ok-from_vec.field-0; fresh = c.from_vec-2.result; end = record { atom_family = a.ty.now.family; atom_args = args } })) c.in_ok-places.ensures.kept
    (subst₂ (λ ts gs. IsOpened a.ctx.now c.in_ok-places.places.kept.now a.fixed.now a.first (type_of a.ty.now)
    (record { terms = ts; fresh = gs; end = record { atom_family = a.ty.now.family; atom_args = args } })) (sym c.in_ok-from_vec.ensures) (sym c.from_vec-2.ensures)
    (ends _ a.ctx.now a.fixed.now (type_of a.ty.now) c.in_ok-shapes.ensures c.in_ok-entries.ensures _ _ _ _ a.ty.now.family a.ty.now.args args c.in_ok-opened.ensures put))
