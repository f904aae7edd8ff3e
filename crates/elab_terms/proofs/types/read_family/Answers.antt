use Rattle.std.proofs.Common.{◌≡◌, ℕ, Some, arith, sym, ap, ◌∙◌, subst, length, take, take_all}
use Rattle.std.specs.Prelude.{slice_get}
use Rattle.lf_definitions.specs.Substitution.{stays}
use Rattle.lf_terms.specs.Terms.{spine_of}
use Rattle.file_trees.specs.TermViews.{tree_of, trees_of}
use Rattle.file_trees.specs.Trees as trees
use Rattle.elab_terms.specs.Names.{family_of}
use Rattle.elab_terms.specs.Readers.{whole_text, typing_by}
use Rattle.elab_terms.specs.Terms.{ReadsArguments, RefusesArguments}
use Rattle.elab_terms.specs.Types.{ReadsType, reads_family, RefusesType, refuses_family, refuses_few, refuses_family_argument, refuses_family_extra}
use Rattle.elab_terms.specs.declared.elab_fault.ElabFault.TheVariants.{IllTyped}
use Rattle.lf_definitions.specs.Syntax as syntax
use Rattle.elab_terms.proofs.Applications.{length-trees_of, slice_get-trees_of}
use Rattle.elab_terms.proofs.Families.{trees_of-take, kind_domains}
use Rattle.elab_terms.proofs.Reading.{IsRefusal-map}
use Rattle.elab_terms.proofs.types.read_family.Goals as goal

pub returns-in_default-clause-refused : goal.returns-in_default-clause-refused
returns-in_default-clause-refused c = λ count.
    let a = c.args in
    refuses_family a.names.now (typing_by a.reader.now a.scope.now) count a.span a.arguments.now (ap (family_of a.reader.now.sig.now a.names.now) (sym c.text.ensures) ∙ sym c.family_at.ensures ∙ c.in_default.is)

pub returns-then-items-count-clause-refused : goal.returns-then-items-count-clause-refused
returns-then-items-count-clause-refused c = λ count.
    let a = c.args in
    let domains = c.kind_of.result.now.binders in
    let items = c.as_slice-items.result.now in
    let size : length a.arguments.now ≡ length items = ap length (sym c.as_slice-items.ensures) ∙ length-trees_of items in
    refuses_few a.names.now (typing_by a.reader.now a.scope.now) count a.span a.arguments.now c.in-Some.number domains
    (ap (family_of a.reader.now.sig.now a.names.now) (sym c.text.ensures) ∙ sym c.family_at.ensures ∙ c.in-Some.is) c.kind_of.ensures (omega (arith, size, c.len-count.ensures, c.if-items-count.true))

pub read_terms-requires-clause-domains : goal.read_terms-requires-clause-domains
read_terms-requires-clause-domains c =
    let a = c.args in
    kind_domains a.reader.now.sig.now (typing_by a.reader.now a.scope.now) c.in-Some.number c.kind_of.result.now.binders c.requires.known.founded.shaped c.kind_of.ensures

pub returns-in-Err-clause-refused : goal.returns-in-Err-clause-refused
returns-in-Err-clause-refused c =
    let a = c.args in
    let text = whole_text a.reader.now in
    let Γ = typing_by a.reader.now a.scope.now in
    let domains = c.kind_of.result.now.binders in
    let items = c.as_slice-items.result.now in
    let n = c.len-count.result in
    let size : length a.arguments.now ≡ length items = ap length (sym c.as_slice-items.ensures) ∙ length-trees_of items in
    IsRefusal-map (RefusesArguments text a.reader.now.sig.now a.names.now Γ stays (trees_of (take n items)) domains) (λ fault. (count : ℕ) → RefusesType text a.reader.now.sig.now a.names.now Γ count (trees.family a.span a.arguments.now) fault)
    (λ fault p count. refuses_family_argument a.names.now Γ count a.span a.arguments.now c.in-Some.number domains fault
    (ap (family_of a.reader.now.sig.now a.names.now) (sym c.text.ensures) ∙ sym c.family_at.ensures ∙ c.in-Some.is) c.kind_of.ensures (omega (arith, size, c.len-count.ensures, c.if-items-count.false))
    (subst (λ ts. RefusesArguments text a.reader.now.sig.now a.names.now Γ stays ts domains fault)
    (trees_of-take items n ∙ ap (take n) c.as_slice-items.ensures ∙ ap (λ m. take m a.arguments.now) c.len-count.ensures) p))
    c.in-Err.fault c.in-Err.ensures.refused

pub returns-then-items-count-2-clause-refused : goal.returns-then-items-count-2-clause-refused
returns-then-items-count-2-clause-refused c = λ count.
    let a = c.args in
    let text = whole_text a.reader.now in
    let Γ = typing_by a.reader.now a.scope.now in
    let domains = c.kind_of.result.now.binders in
    let items = c.as_slice-items.result.now in
    let n = c.len-count.result in
    let extra = tree_of c.index-items-count.result in
    let there : slice_get a.arguments.now (length domains) ≡ Some extra =
    ap (slice_get a.arguments.now) (sym c.len-count.ensures) ∙ ap (λ ts. slice_get ts n) (sym c.as_slice-items.ensures) ∙ slice_get-trees_of items n c.index-items-count.result c.if-items-count-2.true c.index-items-count.is in
    subst (λ p. RefusesType text a.reader.now.sig.now a.names.now Γ count (trees.family a.span a.arguments.now) (IllTyped p)) (sym c.place.ensures)
    (refuses_family_extra a.names.now Γ count a.span a.arguments.now extra c.in-Some.number domains (spine_of c.in-Ok.terms.items)
    (ap (family_of a.reader.now.sig.now a.names.now) (sym c.text.ensures) ∙ sym c.family_at.ensures ∙ c.in-Some.is) c.kind_of.ensures
    (subst (λ ts. ReadsArguments text a.reader.now.sig.now a.names.now Γ stays ts domains (spine_of c.in-Ok.terms.items))
    (trees_of-take items n ∙ ap (take n) c.as_slice-items.ensures ∙ ap (λ m. take m a.arguments.now) c.len-count.ensures) c.in-Ok.ensures.read) there)

pub returns-clause-read : goal.returns-clause-read
returns-clause-read c = λ count.
    let a = c.args in
    let text = whole_text a.reader.now in
    let Γ = typing_by a.reader.now a.scope.now in
    let domains = c.kind_of.result.now.binders in
    let items = c.as_slice-items.result.now in
    let n = c.len-count.result in
    let ts = spine_of c.in-Ok.terms.items in
    subst (λ us. ReadsType text a.reader.now.sig.now a.names.now Γ count (trees.family a.span a.arguments.now) (syntax.family c.in-Some.number us)) (sym c.in_ok-args-in-Ok.ensures)
    (reads_family a.names.now Γ count a.span a.arguments.now c.in-Some.number domains ts
    (ap (family_of a.reader.now.sig.now a.names.now) (sym c.text.ensures) ∙ sym c.family_at.ensures ∙ c.in-Some.is) c.kind_of.ensures
    (subst (λ xs. ReadsArguments text a.reader.now.sig.now a.names.now Γ stays xs domains ts) (ap trees_of (take_all n items (omega (arith, c.if-items-count-2.false))) ∙ c.as_slice-items.ensures) c.in-Ok.ensures.read))
