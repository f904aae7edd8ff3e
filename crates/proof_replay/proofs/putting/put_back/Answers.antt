use Rattle.std.proofs.Common.{sym, ap, ◌∙◌, subst}
use Rattle.lf_definitions.specs.GoalLists.{all_goals}
use Rattle.proof_replay.specs.Putting.{all_again, PutsBack}
use Rattle.proof_replay.proofs.PutBack.{each_can_end, puts_back}
use Rattle.proof_replay.proofs.putting.put_back.Goals as goal

pub final_entries-requires : goal.final_entries-requires
final_entries-requires c =
    let r = c.requires in
    (all_goals r.2, each_can_end r.0 r.1 r.2 c.args.build.now c.args.finals.now r.3 r.4)

pub returns : goal.returns
returns c = λ sig list next takes ends.
    let build = c.args.build.now in
    let old = c.args.finals.now in
    subst (PutsBack sig list next build old)
    (sym (c.in_ok-put_all.ensures ∙ ap (all_again old) (c.in_ok-entries.ensures (all_goals next) (each_can_end sig list next build old takes ends))))
    (puts_back sig list next build old takes ends)
