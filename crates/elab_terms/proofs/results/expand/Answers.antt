use Rattle.std.proofs.Common.{◌∙◌, sym}
use Rattle.std.proofs.lemmas.Result.{IfOk-weaker}
use Rattle.lf_definitions.specs.Syntax.{shape_of}
use Rattle.lf_terms.specs.Terms.{head_of, spine_of}
use Rattle.lf_terms.specs.Types.{type_of}
use Rattle.elab_terms.proofs.Expanding.{arity_of_type, expanded_none, puts_raised, seen_spine, expanded_some}
use Rattle.elab_terms.proofs.results.expand.Goals as goal

pub returns-then-count-eq0 : goal.returns-then-count-eq0
returns-then-count-eq0 c =
    let made = c.args.made.now in
    expanded_none (head_of c.args.head) (spine_of c.args.terms.items) c.in_ok-terms.terms (shape_of (type_of made))
    (arity_of_type made.binders made.family made.args ∙ sym c.len-count.ensures ∙ c.if-count-eq0.true) c.in_ok-terms.ensures

pub put_all-requires : goal.put_all-requires
put_all-requires c =
    let r = c.requires in
    puts_raised r.0 r.1 (spine_of c.args.terms.items) c.in_ok-terms.terms c.len-count.result c.args.made.now.binders c.in_ok-terms.ensures c.len-count.ensures r.2

pub returns : goal.returns
returns c =
    let made = c.args.made.now in
    let ts = spine_of c.args.terms.items in
    IfOk-weaker c.abstracted.result _ _
    (λ term is. is ∙ expanded_some (head_of c.args.head) (head_of c.in_ok-raised.field-0) ts c.in_ok-args.args c.in_ok-seen.seen c.in_ok-own.own made.binders made.family made.args c.in_ok-shapes.shapes c.len-count.result
    c.len-count.ensures (seen_spine c.len-count.result ts c.in_ok-terms.terms c.in_ok-seen.seen c.in_ok-terms.ensures c.in_ok-seen.ensures.result) c.in_ok-shapes.ensures c.in_ok-own.ensures c.in_ok-args.ensures c.in_ok-raised.ensures)
    c.abstracted.ensures
