use Rattle.std.proofs.Common.{◌≡◌, ◌-◌, length, take, drop, sym, ap, ◌∙◌}
use Rattle.std.proofs.lemmas.List.{take_rest, drop-drop}
use Rattle.run_io.proofs.Copying.{reads_prefix}
use Rattle.run_io.proofs.sure.SureSourceSource.read.Goals as goal

pub returns-clause-bytes : goal.returns-clause-bytes
returns-clause-bytes c =
    let n = c.copy_prefix-count.result in
    let given = c.self.inside.given in
    let all = c.as_slice.result.now in
    let left_is : take (length all - given) (drop given all) ≡ c.args.self.now = take_rest all given ∙ ap (drop given) c.as_slice.ensures ∙ c.self.view_is in
    reads_prefix c.args.self.now c.args.buf.now c.copy_prefix-count.new.to _ n
    (rw (← left_is) c.copy_prefix-count.ensures.count)
    (rw (← left_is) c.copy_prefix-count.ensures.copied)
    (sym (drop-drop n given c.self.inside.bytes) ∙ ap (drop n) c.self.view_is)
