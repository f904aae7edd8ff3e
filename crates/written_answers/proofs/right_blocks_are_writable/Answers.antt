use Rattle.written_answers.proofs.right_blocks_are_writable.Goals as goal
use Rattle.written_answers.proofs.WritableBlocks

pub returns : goal.returns
returns c = WritableBlocks.right_blocks_are_writable
