use Rattle.std.proofs.Common.{[], ◌∷◌, ◌++◌, sym, ap, ◌∙◌}
use Rattle.std.specs.Prelude.{if◌then◌else◌}
use Rattle.std.proofs.lemmas.List.{append-nil}
use Rattle.std.proofs.lemmas.Result.{on_ok_weaker}
use Rattle.build_shared.proofs.FrozenNumbers.{any_number}
use Rattle.build_shared.proofs.dropping.add_unless.Goals as goal

pub returns-then-is_one_of : goal.returns-then-is_one_of
returns-then-is_one_of c =
    let a = c.args in
    sym (append-nil a.rest.now) ∙ ap (λ b. a.rest.now ++ (if b then [] else a.place ∷ [])) (sym (any_number a.dropped.now a.place ∙ sym c.is_one_of.ensures ∙ c.if-is_one_of.true))

pub returns : goal.returns
returns c =
    let a = c.args in
    on_ok_weaker c.push.result (λ e. e ∙ ap (λ b. a.rest.now ++ (if b then [] else a.place ∷ [])) (sym (any_number a.dropped.now a.place ∙ sym c.is_one_of.ensures ∙ c.if-is_one_of.false))) c.push.ensures.ok
