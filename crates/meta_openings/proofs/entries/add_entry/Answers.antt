use Rattle.std.proofs.Common.{◌++◌, ◌∷◌, [], false, sym, ap, ◌∙◌}
use Rattle.std.proofs.lemmas.List.{get_or_read, append-nil}
use Rattle.lf_definitions.specs.Renaming.{rename_type}
use Rattle.lf_terms.specs.Types.{type_of, types_of}
use Rattle.lf_terms.proofs.TypeLists.{types_of-append}
use Rattle.meta_openings.specs.Counts.{by_counts}
use Rattle.meta_openings.specs.Tables.{one_if}
use Rattle.meta_openings.proofs.entries.add_entry.Goals as goal

pub returns-in_ok-push : goal.returns-in_ok-push
returns-in_ok-push c =
    let a = c.args in
    let mark = sym c.if-index.true ∙ get_or_read a.places.now.marks.items a.place c.index.result.now c.requires.mark c.index.ensures false in
    ap types_of c.in_ok-push.ensures.items ∙ types_of-append a.entries.now.items c.in_ok-renamed_type.field-0
    ∙ ap (λ t. types_of a.entries.now.items ++ t ∷ []) (c.in_ok-renamed_type.ensures ∙ ap (λ b. rename_type (by_counts b a.place) (type_of a.ty.now)) c.as_slice.ensures.value)
    ∙ ap (λ m. types_of a.entries.now.items ++ one_if m (rename_type (by_counts a.places.now.before.items a.place) (type_of a.ty.now))) mark

pub returns-else-index : goal.returns-else-index
returns-else-index c =
    let a = c.args in
    let mark = sym c.if-index.false ∙ get_or_read a.places.now.marks.items a.place c.index.result.now c.requires.mark c.index.ensures false in
    sym (append-nil (types_of a.entries.now.items)) ∙ ap (λ m. types_of a.entries.now.items ++ one_if m (rename_type (by_counts a.places.now.before.items a.place) (type_of a.ty.now))) mark
