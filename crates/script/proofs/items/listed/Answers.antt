use Rattle.std.proofs.Common.{◌≡◌, ◌<◌, eqb, length, get_or, drop, vec_items, sym, refl, ap, ◌∙◌, inr, arith, rules}
use Rattle.std.proofs.lemmas.Result.{err_from_is_err_and}
use Rattle.std.proofs.lemmas.List.{length_push}
use Rattle.std.proofs.lemmas.Iterator.Splits.{YieldsList-from_slice_split}
use Rattle.std.proofs.lemmas.Iterator.Consumers.{YieldsList-turn, YieldsList-end}
use Rattle.syntax.proofs.Rows.{after}
use Rattle.script.proofs.Pieces.{pieces, all_items, items-are, item_turn, item_fault, item_end}
use Rattle.script.proofs.items.listed.Goals as goal
use Rattle.script.proofs.items.listed.Goals.{In-Some}

-- the piece of an iteration is the next of the word
turn : (c : In-Some) → (length c.loop-piece.yielded < length (pieces c.args.word.now)) × (c.in-Some.piece.now ≡ get_or (pieces c.args.word.now) (length c.loop-piece.yielded) c.in-Some.piece.now)
turn c =
    YieldsList-turn (YieldsList-from_slice_split {s = c.into_iter-piece-iterator.result} _ (λ b. eqb b 44) c.args.word.now (cc) (cc) refl (λ x b q k. search rules))
    c.loop-piece.yielded _ c.loop-piece.yielded_by _ _ c.in-Some.piece c.in-Some.is c.next.ensures.steps

pub returns-in_err-item : goal.returns-in_err-item
returns-in_err-item c =
    let t = turn (goal.at.returns-in_err-item c).In-Some in
    let p = err_from_is_err_and c.from_residual.result c.from_residual.ensures.1 in
    rw (p.1, p.2)
    (inr (sym (items-are c.args.word.now)
    ∙ sym c.loop-piece.invariant.2
    ∙ item_fault (vec_items c.loop-piece.items) (pieces c.args.word.now) (length c.loop-piece.yielded) c.in-Some.piece.now c.in_err-item.field-0.0 t.0 t.1 c.in_err-item.ensures))

pub loop-piece-preserved : goal.loop-piece-preserved
loop-piece-preserved c =
    let word = c.args.word.now in
    let t = turn (goal.at.loop-piece-preserved c).In-Some in (
      search rules,
      search rules,
      ap (λ n. after (vec_items c.push.new.self) (all_items (drop n (pieces word)))) (length_push c.loop-piece.yielded c.in-Some.piece)
          ∙ item_turn (vec_items c.loop-piece.items) (vec_items c.push.new.self) (pieces word) (length c.loop-piece.yielded) c.in-Some.piece.now c.in_ok-item.field-0 t.0 t.1 c.in_ok-item.ensures c.in_ok-push.ensures.items
          ∙ c.loop-piece.invariant.2,
    )

pub returns : goal.returns
returns c =
    let word = c.args.word.now in
    let t = YieldsList-end (YieldsList-from_slice_split {s = c.into_iter-piece-iterator.result} _ (λ b. eqb b 44) word (cc) (cc) refl (λ x b q k. search rules)) c.loop-piece.yielded _ c.loop-piece.yielded_by _ _ c.in-None.is c.next.ensures.steps in
    sym (items-are word)
    ∙ sym c.loop-piece.invariant.2
    ∙ item_end (vec_items c.loop-piece.items) (pieces word) (length c.loop-piece.yielded) (omega (arith, t.1))
