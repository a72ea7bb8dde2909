use Rattle.std.proofs.Common.{◌≡◌, ◌≤◌, length, vec_items, sym, ◌∙◌, rules}
use Rattle.syntax.proofs.Cuts.{spaced-none, spaced-start, led-turn, led_end}
use Rattle.syntax.proofs.words.joined.Goals as goal

pub returns-in_default-clause-text : goal.returns-in_default-clause-text
returns-in_default-clause-text c = let e : length c.args.words.now ≡ 0 = search rules in c.new-text.ensures.items ∙ sym (spaced-none c.args.words.now e)

pub loop-word-init : goal.loop-word-init
loop-word-init c =
    let long : 1 ≤ length c.args.words.now = search rules in
    spaced-start c.args.words.now _ (vec_items c.new-text.result) (vec_items c.extend_from_slice.new.self) long c.new-text.ensures.items c.in_ok-extend_from_slice.ensures.items

pub loop-word-preserved : goal.loop-word-preserved
loop-word-preserved c =
    led-turn _ _ c.loop-word.word-index _ _ _ c.loop-word-test.true c.in_ok-push.ensures.items c.in_ok-extend_from_slice-2.ensures.items
    ∙ c.loop-word.invariant

pub returns-clause-text : goal.returns-clause-text
returns-clause-text c = led_end _ c.loop-word.word-index _ c.loop-word-test.false ∙ c.loop-word.invariant
