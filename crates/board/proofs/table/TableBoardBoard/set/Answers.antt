use Rattle.std.proofs.Common.{arith, length, sym, ap, ◌∙◌, refl, ◌<◌, ◌≤◌}
use Rattle.std.proofs.lemmas.List.{length-map}
use Rattle.std.proofs.lemmas.Bool.{false≢true}
use Rattle.event.specs.View.{occurrence_of}
use Rattle.board.specs.Boards.{lawful_board}
use Rattle.board.specs.Tables.{rows_told}
use Rattle.board.proofs.Rereads.{takes_past, after_refused, lawful-after}
use Rattle.event.proofs.Readings.{too_long}
use Rattle.board.proofs.Tables.{row-left, row-set}
use Rattle.board.proofs.table.TableBoardBoard.set.Goals as goal

pub returns-in_default : goal.returns-in_default
returns-in_default c =
    let rows = c.args.self.now.rows.items in
    let told = rows_told rows in
    let none : ¬ (c.args.place < length rows) = λ h. false≢true (c.in_default.ensures.variant.1 h) in
    let past : length told ≤ c.args.place = omega (arith, length-map rows occurrence_of) in
    let refused = takes_past told c.args.place c.args.reading.now past in
    record { taken = sym refused; after = sym (after_refused told c.args.place c.args.reading.now refused) }

pub returns-then-not-allows : goal.returns-then-not-allows
returns-then-not-allows c =
    let left = row-left c.args.self.now.rows.items c.args.place c.args.reading.now _ (c.in-Some.ensures.variant.0 refl) c.in-Some.ensures.value c.if-not-allows.ensures in
    record { taken = left.0; after = left.1 }

pub returns-in_default-new : goal.returns-in_default-new
returns-in_default-new c = absurd (false≢true (sym (too_long _ c.args.reading.now c.in_default-new.ensures) ∙ sym c.if-not-allows.ensures))

pub invariant_of-self-2 : goal.invariant_of-self-2
invariant_of-self-2 c =
    let rows = c.args.self.now.rows.items in
    let set = row-set rows c.args.place c.args.reading.now _ _ (c.in-Some.ensures.variant.0 refl) c.in-Some.ensures.value c.if-not-allows.ensures c.in-Some-new.ensures in
    record { lawful = ap lawful_board set.1 ∙ lawful-after (rows_told rows) c.args.place c.args.reading.now c.args.self.now.lawful }

pub returns : goal.returns
returns c =
    let set = row-set c.args.self.now.rows.items c.args.place c.args.reading.now _ _ (c.in-Some.ensures.variant.0 refl) c.in-Some.ensures.value c.if-not-allows.ensures c.in-Some-new.ensures in
    record { taken = set.0; after = set.1 }
