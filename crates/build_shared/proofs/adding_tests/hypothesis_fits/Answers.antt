use Rattle.std.proofs.Common.{◌≡◌, true, false, sym, ap, ◌∙◌}
use Rattle.std.proofs.lemmas.Result.{IfOk-weaker}
use Rattle.lf_terms.specs.Types.{type_of}
use Rattle.std.specs.Prelude.{not}
use Rattle.std.specs.List.{list_all}
use Rattle.head_laws.specs.Mentions.{occurs_in_type}
use Rattle.opening_laws.specs.Openings.{context_variable}
use Rattle.build_shared.specs.Seen.{seen_hypothesis}
use Rattle.build_shared.proofs.AddingTests.{passed, same_fails, other_fits}
use Rattle.build_shared.proofs.FrozenNumbers.{any_number}
use Rattle.build_shared.proofs.adding_tests.hypothesis_fits.Goals as goal

pub returns-then-not-is_one_of : goal.returns-then-not-is_one_of
returns-then-not-is_one_of c =
    passed c.args.goal.now.ctx c.args.kept.now c.args.dropped.now (type_of c.args.fact.now) (seen_hypothesis c.args.hypothesis.now)
    (any_number c.args.kept.now c.args.hypothesis.now.place ∙ sym c.is_one_of.ensures ∙ c.if-not-is_one_of.true)

pub returns-then-same_ty : goal.returns-then-same_ty
returns-then-same_ty c =
    same_fails c.args.goal.now.ctx c.args.kept.now c.args.dropped.now (type_of c.args.fact.now) (seen_hypothesis c.args.hypothesis.now)
    (any_number c.args.kept.now c.args.hypothesis.now.place ∙ sym c.is_one_of.ensures ∙ c.if-not-is_one_of.false) (c.same_ty.ensures.0 c.if-same_ty.true)

pub returns : goal.returns
returns c =
    IfOk-weaker c.mentions_none_of.result _ _
    (λ t e. e ∙ ap (λ n. list_all (λ place. not (occurs_in_type (context_variable n place) (type_of c.args.hypothesis.now.ty))) c.args.dropped.now) c.len.ensures ∙ other_fits c.args.goal.now.ctx c.args.kept.now c.args.dropped.now (type_of c.args.fact.now) (seen_hypothesis c.args.hypothesis.now)
    (any_number c.args.kept.now c.args.hypothesis.now.place ∙ sym c.is_one_of.ensures ∙ c.if-not-is_one_of.false)
    (λ same. let clash : false ≡ true = sym c.if-same_ty.false ∙ c.same_ty.ensures.1 same in absurd cc)) c.mentions_none_of.ensures
