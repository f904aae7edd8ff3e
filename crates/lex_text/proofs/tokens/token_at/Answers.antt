use Rattle.std.proofs.Common.{◌≡◌, ◌-◌, refl, arith}
use Rattle.lex_text.specs.Characters.{width}
use Rattle.lex_text.proofs.Cutting.{Wrong-no_token, Wrong-too_long, IsShort-from_size, IsShortSize-from_prefix}
use Rattle.lex_text.proofs.tokens.token_at.Goals as goal

pub returns-in_default-clause-fault : goal.returns-in_default-clause-fault
returns-in_default-clause-fault c =
    Wrong-no_token c.args.text.now c.args.start c.requires.boundary c.requires.some_left c.requires.no_separator c.requires.no_comment c.in_default.ensures

pub returns-then-not-is_short-clause-fault : goal.returns-then-not-is_short-clause-fault
returns-then-not-is_short-clause-fault c =
    let found = c.in-Some.ensures in
    let size : c.in-Some.end - c.args.start ≡ width found.prefix = (let e = found.end_is in omega arith) in
    Wrong-too_long c.args.text.now c.args.start c.requires.boundary c.in-Some.mark c.in-Some.end found
    (λ short. let yes = c.is_short.ensures.1 (IsShortSize-from_prefix c.in-Some.mark found.prefix (c.in-Some.end - c.args.start) size short) in
    let no_longer = c.if-not-is_short.true in cc)

pub returns-clause-token : goal.returns-clause-token
returns-clause-token c =
    let found = c.in-Some.ensures in
    let size : c.in-Some.end - c.args.start ≡ width found.prefix = (let e = found.end_is in omega arith) in
    record {
      start_is = refl;
      found = found;
      short = IsShort-from_size c.in-Some.mark found.prefix (c.in-Some.end - c.args.start) size (c.is_short.ensures.0 c.if-not-is_short.false);
    }
