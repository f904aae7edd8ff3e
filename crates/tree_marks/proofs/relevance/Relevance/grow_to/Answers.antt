use Rattle.std.proofs.Common.{◌≡◌, ℕ, ◌+◌, ◌-◌, ap, ◌∙◌, length, replicate, true, arith, length-append}
use Rattle.std.proofs.lemmas.List.{length-replicate}
use Rattle.tree_marks.specs.Fading.{FadingRoom, ups}
use Rattle.tree_marks.proofs.Fallen.{ups-extended}
use Rattle.tree_marks.proofs.relevance.Relevance.grow_to.Goals as goal

pub invariant_of-self : goal.invariant_of-self
invariant_of-self c =
    let flags = c.self.inside.flags.items in
    let more : ℕ = c.args.len - length flags in
    let size : length c.extend.new.flags.items ≡ length flags + more = ap length c.extend.ensures.items ∙ (length-append flags (replicate more true) ∙ ap (λ (k : ℕ). length flags + k) (length-replicate more true)) in
    let raised : ups c.extend.new.flags.items ≡ ups flags + more = ap ups c.extend.ensures.items ∙ ups-extended flags more in
    let same = ap (λ (r : FadingRoom). length r.fading.flags) c.self.view_is in
    let spare = ap (λ (r : FadingRoom). r.spare) c.self.view_is in
    let room = c.self.invariant in
    record {
      flags_room = record {
        memory = omega (arith, size, same, spare, room.flags_room.memory, c.requires.longer, c.requires.room, c.extend.ensures.capacity);
        numbers = omega (arith, size, same, spare, room.flags_room.numbers, c.requires.longer, c.requires.room);
      };
      pending_room = omega (arith, size, same, spare, room.pending_room, c.requires.longer, c.requires.room);
      once = omega (arith, size, raised, room.once);
    }
