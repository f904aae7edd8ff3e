use Rattle.std.proofs.Common.{sym, ap, ◌∙◌, take_all, arith}
use Rattle.std.specs.Prelude.{not, nat_eq}
use Rattle.std.specs.List.{list_any}
use Rattle.std.proofs.lemmas.Bool.{eq-eqb, ne_eqb}
use Rattle.meta_goals.specs.Bindings.{LfBinding}
use Rattle.build_shared.proofs.BindingLists.{none_next, one_passes, nothing_within}
use Rattle.build_shared.proofs.answering.assigns_another.Goals as goal

pub unreachable-requires : goal.unreachable-requires
unreachable-requires c = nothing_within c.args.entries.now c.loop-place.place (omega (arith, c.loop-place-test.true, c.len-place-end.ensures)) (sym c.in-None.ensures)

pub returns : goal.returns
returns c = sym c.loop-place.invariant ∙ ap (list_any (λ (b : LfBinding). not (nat_eq b.number c.args.goal))) (take_all c.loop-place.place c.args.entries.now (omega (arith, c.loop-place-test.false, c.len-place-end.ensures)))

pub returns-then-id-goal : goal.returns-then-id-goal
returns-then-id-goal c =
    one_passes (λ (b : LfBinding). not (nat_eq b.number c.args.goal)) c.args.entries.now c.loop-place.place _ (sym c.in-Some.ensures) (ap not (ne_eqb c.in-Some.id c.args.goal c.if-id-goal.true))

pub loop-place-preserved : goal.loop-place-preserved
loop-place-preserved c =
    none_next (λ (b : LfBinding). not (nat_eq b.number c.args.goal)) c.args.entries.now c.loop-place.place _ (sym c.in-Some.ensures) c.loop-place.invariant (ap not (eq-eqb c.in-Some.id c.args.goal c.if-id-goal.false))
