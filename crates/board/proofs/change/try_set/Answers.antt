use Rattle.std.proofs.Common.{◌≡◌, ℕ, ◌<◌, ◌≤◌, Bool, true, false, cond, length, Some, None, sym, ap, ◌∙◌, arith}
use Rattle.event.specs.declared.refusal.Refusal.TheVariants.{UnlawfulReading}
use Rattle.event.specs.Bytes.{Bytes}
use Rattle.board.specs.Boards.{Sources, takes}
use Rattle.board.specs.Changes.{change_refusal, handed_back}
use Rattle.board.proofs.Changes.{change_past, change-below}
use Rattle.board.proofs.Rereads.{takes_past, after_refused}
use Rattle.board.proofs.change.try_set.Goals as goal

pub returns-then-place-count : goal.returns-then-place-count
returns-then-place-count g c =
    let told = g.B.Board.told c.args.board.now in
    let place = c.args.place in
    let r = c.args.reading.now in
    let past : length told ≤ place = omega arith in
    record {
      result = sym (ap handed_back (change_past told place r past));
      after = sym (after_refused told place r (takes_past told place r past));
    }

-- below the count the answer is that of the set
answered : (told : Sources) (place : ℕ) (r : Bytes) (taken : Bool) → place < length told → taken ≡ takes told place r → handed_back (cond taken None (Some UnlawfulReading)) ≡ handed_back (change_refusal told place r)
answered told place r taken below is = sym (ap handed_back (change-below told place r below ∙ ap (λ (b : Bool). cond b None (Some UnlawfulReading)) (sym is)))

pub returns-then-not-set : goal.returns-then-not-set
returns-then-not-set g c =
    record { result = answered (g.B.Board.told c.args.board.now) c.args.place c.args.reading.now false (omega arith) c.if-not-set.ensures.taken; after = c.set.ensures.after }

pub returns : goal.returns
returns g c =
    record { result = answered (g.B.Board.told c.args.board.now) c.args.place c.args.reading.now true (omega arith) c.if-not-set.ensures.taken; after = c.set.ensures.after }
