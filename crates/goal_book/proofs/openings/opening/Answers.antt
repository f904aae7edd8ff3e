use Rattle.goal_book.proofs.Opened.{opened_list}
use Rattle.goal_book.proofs.openings.opening.Goals as goal

pub returns : goal.returns
returns c = opened_list c.args.ty.now.binders c.in_ok-ctx.ctx c.args.ty.now.family c.args.ty.now.args c.in_ok-args.args c.new-proofs.result c.push.new.self c.new.result c.in_ok-ctx.ensures c.in_ok-args.ensures c.new-proofs.ensures c.in_ok-push.ensures.ok c.new.ensures
