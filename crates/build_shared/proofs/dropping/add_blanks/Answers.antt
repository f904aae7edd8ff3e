use Rattle.std.proofs.Common.{sym, ap, ap₂, ◌∙◌}
use Rattle.std.proofs.lemmas.List.{append-nil}
use Rattle.lf_definitions.specs.Syntax.{family, pis}
use Rattle.lf_terms.specs.Types.{types_of}
use Rattle.lf_terms.proofs.TypeLists.{types_of-append}
use Rattle.build_shared.proofs.DroppedPlaces.{blanks_more}
use Rattle.build_shared.proofs.dropping.add_blanks.Goals as goal

pub loop-init : goal.loop-init
loop-init c = sym (append-nil (types_of c.args.types.now.items))

pub loop-preserved : goal.loop-preserved
loop-preserved c =
    blanks_more (types_of c.args.types.now.items) (types_of c.loop.types.items) _ c.loop.counter _ c.loop.invariant (ap types_of c.in_ok-push.ensures.items ∙ types_of-append c.loop.types.items _)
    (ap₂ (λ bs ts. pis bs (family 0 ts)) c.new.ensures c.new-in-loop.ensures)
