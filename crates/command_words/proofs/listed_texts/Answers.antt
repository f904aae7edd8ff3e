-- The words are read one after another.
use Rattle.std.proofs.Common.{◌∙◌, ◌+◌, ◌++◌, ◌∷◌, [], ℕ, List, ap, arith, map, rules, refl, subst}
use Rattle.std.specs.Prelude.{All}
use Rattle.std.proofs.lemmas.List.{map-append, take_all}
use Rattle.command_words.specs.Given.{IsListed}
use Rattle.command_words.proofs.CommandWords.{listed_more, one_unread}
use Rattle.command_words.proofs.listed_texts.Goals as goal

pub returns-in-None-clause-none : goal.returns-in-None-clause-none
returns-in-None-clause-none c = λ e. one_unread c.args.words.now c.loop-word.word-index c.word-item.result (search rules) c.word-item.is (c.in-None.ensures.none refl)

pub loop-word-preserved : goal.loop-word-preserved
loop-word-preserved c =
    let reads = c.in-Some.ensures.some in
    let more = listed_more c.args.words.now _ c.loop-word.word-index (c.loop-word.word-index + 1) c.word-item.result c.loop-word.invariant.same c.loop-word.invariant.listed (search rules) c.word-item.is reads.1 (omega arith) in
    record {
      same = ap (map (λ text. text.now)) c.in_ok-push-in-Some.ensures.items ∙ map-append (λ text. text.now) c.loop-word.texts.items (c.in-Some.text ∷ [])
          ∙ ap (λ (word : List ℕ). map (λ text. text.now) c.loop-word.texts.items ++ word ∷ []) reads.0 ∙ more.0;
      listed = more.1;
    }

pub returns-clause-some : goal.returns-clause-some
returns-clause-some c =
    let whole = take_all c.loop-word.word-index c.args.words.now (search rules) in (c.loop-word.invariant.same ∙ whole, subst (All IsListed) whole c.loop-word.invariant.listed)
