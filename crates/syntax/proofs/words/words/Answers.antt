use Rattle.std.proofs.Common.{◌≡◌, ◌+◌, ◌++◌, length, drop, vec_items, sym, ap, ◌∙◌, arith}
use Rattle.std.specs.List.{between}
use Rattle.syntax.specs.Lines.{texts, words_from, words_of}
use Rattle.syntax.proofs.Cuts.{word_turn, word_longer, word_end}
use Rattle.syntax.proofs.words.words.Goals as goal
use Rattle.syntax.proofs.words.words.Goals.{then-is_blank+in_ok-keep, else-is_blank}

pub loop-i-preserved : goal.loop-i-preserved
loop-i-preserved c =
    let said = c.before_comment-said.result.now in
    let i = c.loop-i.i in
    elim c.if-is_blank.branch [
      | then-is_blank+in_ok-keep w ↦ (
        omega arith,
        ap (λ s. texts (vec_items c.if-is_blank.words) ++ words_from (between s (i + 1) said) (drop (i + 1) said)) w.start-is
            ∙ ap (λ v. texts (vec_items v) ++ words_from (between (i + 1) (i + 1) said) (drop (i + 1) said)) w.words-is
            ∙ word_turn _ _ said c.loop-i.start i c.loop-i-test.true (sym w.if-is_blank.ensures) w.in_ok-keep.ensures.kept
            ∙ c.loop-i.invariant.1,
      )
      | else-is_blank w ↦ (
        omega arith,
        ap (λ s. texts (vec_items c.if-is_blank.words) ++ words_from (between s (i + 1) said) (drop (i + 1) said)) w.start-is
            ∙ ap (λ v. texts (vec_items v) ++ words_from (between c.loop-i.start (i + 1) said) (drop (i + 1) said)) w.words-is
            ∙ ap (λ l. texts (vec_items c.loop-i.words) ++ l) (sym (word_longer c.loop-i.start said i c.loop-i.invariant.0 c.loop-i-test.true (sym w.if-is_blank.ensures)))
            ∙ c.loop-i.invariant.1,
      )
    ]

pub returns-clause-words : goal.returns-clause-words
returns-clause-words c =
    let said = c.before_comment-said.result.now in
    let end : c.loop-i.i ≡ length said = omega arith in
    word_end (texts (vec_items c.loop-i.words)) (texts (vec_items c.keep-2.new.words)) said c.loop-i.start c.loop-i.i end c.in_ok-keep-2.ensures.kept
    ∙ c.loop-i.invariant.1
    ∙ ap words_of c.before_comment-said.ensures
