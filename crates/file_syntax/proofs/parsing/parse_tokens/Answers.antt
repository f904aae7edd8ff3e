use Rattle.std.proofs.Common.{◌≡◌, ◌<◌, ◌≤◌, suc, [], ◌∷◌, ◌++◌, take, drop, get_or, None, Some, sym, subst, arith, rules}
use Rattle.std.specs.Prelude.{sum}
use Rattle.std.proofs.lemmas.List.{take_all, take_more}
use Rattle.lex_text.specs.declared.mark.Mark.TheVariants.{Word}
use Rattle.lex_text.specs.declared.token.Token.{Token}
use Rattle.file_syntax.specs.Terminals.{terminal_of}
use Rattle.file_syntax.specs.Nesting.{open_after}
use Rattle.file_syntax.specs.Reading.{step}
use Rattle.file_syntax.proofs.Outcomes.{ReadSoFar, nothing_read, depth_so_far, read_more, refused_at, too_deep_at, unfinished_at, parsed_whole, cut_at}
use Rattle.file_syntax.proofs.parsing.parse_tokens.Goals as goal

abbrev no_token : Token
no_token = record { mark = Word; start = 0; end = 0 }

pub loop-token-init : goal.loop-token-init
loop-token-init c = rw (c.start-state.ensures, c.new-nesting.ensures) (nothing_read c.args.bytes.now)

pub returns-in-Err-Refused-clause-refused : goal.returns-in-Err-Refused-clause-refused
returns-in-Err-Refused-clause-refused c =
    let token : Token = get_or c.args.tokens.now c.loop-token.token-index no_token in
    let h : step c.loop-token.state c.terminal_at-terminal.result ≡ None = search rules in
    refused_at c.args.tokens.now (get_or c.args.tokens.now c.loop-token.token-index no_token) (drop (suc c.loop-token.token-index) c.args.tokens.now) c.args.end
    c.loop-token.invariant
    (subst (λ s. step c.loop-token.state s ≡ None) c.terminal_at-terminal.ensures h)
    (cut_at c.args.tokens.now c.loop-token.token-index no_token c.loop-token-test.true)

pub pass-requires : goal.pass-requires
pass-requires c = omega (arith, depth_so_far c.loop-token.invariant)

pub returns-then-depth-gt-DEEPEST_NESTING-clause-refused : goal.returns-then-depth-gt-DEEPEST_NESTING-clause-refused
returns-then-depth-gt-DEEPEST_NESTING-clause-refused c =
    let h : step c.loop-token.state c.terminal_at-terminal.result ≡ Some c.step.new.state = search rules in
    let o : c.pass.new.self ≡ open_after c.terminal_at-terminal.result c.loop-token.nesting = search rules in
    let d : 256 < sum c.pass.new.self = omega arith in
    too_deep_at c.args.tokens.now (get_or c.args.tokens.now c.loop-token.token-index no_token) (drop (suc c.loop-token.token-index) c.args.tokens.now)
    c.loop-token.invariant
    (subst (λ s. step c.loop-token.state s ≡ Some c.step.new.state) c.terminal_at-terminal.ensures h)
    (subst (λ s. 256 < sum (open_after s c.loop-token.nesting)) c.terminal_at-terminal.ensures (subst (λ n. 256 < sum n) o d))
    (cut_at c.args.tokens.now c.loop-token.token-index no_token c.loop-token-test.true)

pub loop-token-preserved : goal.loop-token-preserved
loop-token-preserved c =
    let h : step c.loop-token.state c.terminal_at-terminal.result ≡ Some c.step.new.state = search rules in
    let o : c.pass.new.self ≡ open_after c.terminal_at-terminal.result c.loop-token.nesting = search rules in
    let d : sum c.pass.new.self ≤ 256 = omega arith in
    let o' : open_after (terminal_of c.args.bytes.now (get_or c.args.tokens.now c.loop-token.token-index no_token)) c.loop-token.nesting ≡ c.pass.new.self =
    sym (subst (λ s. c.pass.new.self ≡ open_after s c.loop-token.nesting) c.terminal_at-terminal.ensures o) in
    let r : ReadSoFar c.args.bytes.now (take c.loop-token.token-index c.args.tokens.now ++ get_or c.args.tokens.now c.loop-token.token-index no_token ∷ []) c.step.new.state
    (open_after (terminal_of c.args.bytes.now (get_or c.args.tokens.now c.loop-token.token-index no_token)) c.loop-token.nesting) =
    read_more (get_or c.args.tokens.now c.loop-token.token-index no_token) c.loop-token.invariant
    (subst (λ s. step c.loop-token.state s ≡ Some c.step.new.state) c.terminal_at-terminal.ensures h)
    (subst (λ n. sum n ≤ 256) (sym o') d) in
    subst (λ f. ReadSoFar c.args.bytes.now f c.step.new.state c.pass.new.self)
    (sym (take_more c.args.tokens.now c.loop-token.token-index no_token c.loop-token-test.true))
    (subst (λ n. ReadSoFar c.args.bytes.now (take c.loop-token.token-index c.args.tokens.now ++ get_or c.args.tokens.now c.loop-token.token-index no_token ∷ []) c.step.new.state n) o' r)

pub returns-in-Between-clause-parsed : goal.returns-in-Between-clause-parsed
returns-in-Between-clause-parsed c =
    let whole : take c.loop-token.token-index c.args.tokens.now ≡ c.args.tokens.now = take_all c.loop-token.token-index c.args.tokens.now (omega arith) in
    parsed_whole (subst (λ f. ReadSoFar c.args.bytes.now f c.loop-token.state c.loop-token.nesting) whole c.loop-token.invariant) c.in-Between.is

pub returns-in_default : goal.returns-in_default
returns-in_default c =
    let whole : take c.loop-token.token-index c.args.tokens.now ≡ c.args.tokens.now = take_all c.loop-token.token-index c.args.tokens.now (omega arith) in
    record {
      parsed = tt;
      refused = unfinished_at c.args.end (subst (λ f. ReadSoFar c.args.bytes.now f c.loop-token.state c.loop-token.nesting) whole c.loop-token.invariant) c.in_default.not-Between;
    }
