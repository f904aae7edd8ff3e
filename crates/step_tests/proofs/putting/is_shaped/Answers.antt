use Rattle.lf_terms.specs.Terms.{head_of}
use Rattle.meta_goals.specs.GoalsOf.{goals_of}
use Rattle.step_tests.proofs.PutHeads.{head_among}
use Rattle.step_tests.proofs.putting.is_shaped.Goals as goal

pub returns : goal.returns
returns c =
    λ fits.
    head_among c.args.sig.now (goals_of c.args.goals.now) (head_of c.args.head) _ _ _ c.in_ok-all.all c.in_ok-metas.metas _ c.shapes.ensures c.in_ok-all.ensures c.in_ok-metas.ensures c.new-3.ensures c.new.ensures
    c.new-2.ensures (c.shaped-fits.ensures.0 fits)
