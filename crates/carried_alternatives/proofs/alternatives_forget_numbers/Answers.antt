use Rattle.carried_alternatives.proofs.alternatives_forget_numbers.Goals as goal
use Rattle.carried_alternatives.proofs.ForgottenNumbers

pub returns : goal.returns
returns c = ForgottenNumbers.alternatives_forget_numbers
