use Rattle.std.proofs.Common.{List, length, sym, ap, ◌∙◌, arith}
use mathlib.Core.Bool.{false≢true}
use Rattle.std.proofs.lemmas.Bool.{le-leb, lt-leb, leb-true, leb-false}
use Rattle.event.specs.Sources.{Occurrence}
use Rattle.event.specs.View.{occurrence_of}
use Rattle.list.specs.View.{left}
use Rattle.protocol.specs.Book.{enter, merge}
use Rattle.book.specs.Tables.{rows}
use Rattle.book.proofs.Rows.{few-rows, merge_step, merge_end, merge_longer, entered_fits}
use Rattle.book.proofs.table.Table.merge.Goals as goal

pub returns-then-not-enter : goal.returns-then-not-enter
returns-then-not-enter c =
    let o = occurrence_of c.in-Some.occurrence in
    let es = rows c.loop-occurrence.self in
    let over = leb-false (length (enter o es)) 64 (sym c.enter.ensures.fits ∙ c.if-not-enter.true) in
    let all = sym c.loop-occurrence.invariant ∙ merge_step es _ _ o c.in-Some.ensures.steps in
    let long = merge_longer (enter o es) (left c.next.new.self) in
    record { fits = sym (lt-leb _ 64 (omega (arith, ap length all))); rows = λ e. absurd (false≢true e) }

pub loop-occurrence-preserved : goal.loop-occurrence-preserved
loop-occurrence-preserved c =
    let o = occurrence_of c.in-Some.occurrence in
    let es = rows c.loop-occurrence.self in
    let room = leb-true (length (enter o es)) 64 (sym c.enter.ensures.fits ∙ c.if-not-enter.false) in
    let all = merge_step es _ _ o c.in-Some.ensures.steps in
    let is = c.enter.ensures.rows ∙ entered_fits o es room in
    ap (λ (l : List Occurrence). merge l (left c.next.new.self)) is ∙ sym all ∙ c.loop-occurrence.invariant

pub returns : goal.returns
returns c =
    let es = rows c.loop-occurrence.self in
    let all = sym (merge_end es _ c.in-None.ensures.steps.0) ∙ c.loop-occurrence.invariant in
    let few = few-rows c.loop-occurrence.self in
    record { fits = sym (le-leb _ 64 (omega (arith, ap length all))); rows = λ _. all }
