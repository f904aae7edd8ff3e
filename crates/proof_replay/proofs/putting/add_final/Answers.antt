use Rattle.std.proofs.Common.{[], ◌∷◌, ◌++◌, map, ap, ◌∙◌}
use Rattle.std.proofs.lemmas.List.{map-append}
use Rattle.lf_terms.specs.Terms.{term_of}
use Rattle.proof_replay.specs.Putting.{seen_final, with_body}
use Rattle.proof_replay.proofs.putting.add_final.Goals as goal

pub returns : goal.returns
returns c = (
  term_of c.in_ok-body.body,
  c.in_ok-body.ensures.result,
  ap (map seen_final) c.in_ok-push.ensures.items ∙ map-append seen_final c.args.entries.now.items (_ ∷ [])
      ∙ ap (λ s. map seen_final c.args.entries.now.items ++ with_body c.args.id s (term_of c.in_ok-body.body) ∷ []) c.in_ok-shapes.ensures,
)
