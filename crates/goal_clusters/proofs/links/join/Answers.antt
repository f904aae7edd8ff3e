use Rattle.std.proofs.Common.{refl, arith}
use Rattle.goal_clusters.proofs.LinkLaws.{relinked}
use Rattle.goal_clusters.proofs.links.join.Goals as goal

pub returns-then-a-b : goal.returns-then-a-b
returns-then-a-b c =
    let a = c.find-a.result in
    let b = c.find-b.result in
    relinked c.args.links.now.items c.find-b.new.links.items _ c.args.first c.args.second a b b a c.requires.first_within c.requires.second_within
    (omega (arith, c.find-a.ensures.as_long, c.find-b.ensures.as_long)) c.find-b.ensures.leads_back
    (λ root t. c.find-b.ensures.leads_to root (c.find-a.ensures.leads_to root t)) c.find-a.ensures.is_root (λ root t. c.find-b.ensures.is_root root (c.find-a.ensures.leads_to root t))
    (omega (arith, c.if-a-b.true)) (omega (arith, c.if-a-b.true)) (omega (arith, c.find-a.ensures.as_long, c.find-b.ensures.as_long, c.find-b.ensures.within)) refl

pub returns-else-a-b : goal.returns-else-a-b
returns-else-a-b c =
    let a = c.find-a.result in
    let b = c.find-b.result in
    relinked c.args.links.now.items c.find-b.new.links.items _ c.args.first c.args.second a b a b c.requires.first_within c.requires.second_within
    (omega (arith, c.find-a.ensures.as_long, c.find-b.ensures.as_long)) c.find-b.ensures.leads_back
    (λ root t. c.find-b.ensures.leads_to root (c.find-a.ensures.leads_to root t)) c.find-a.ensures.is_root (λ root t. c.find-b.ensures.is_root root (c.find-a.ensures.leads_to root t))
    (omega (arith, c.if-a-b.false)) (omega (arith, c.if-a-b.false)) (omega (arith, c.find-a.ensures.as_long, c.find-b.ensures.as_long, c.find-a.ensures.within)) refl
