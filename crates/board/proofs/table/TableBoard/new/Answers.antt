use Rattle.std.proofs.Common.{◌≡◌, ◌<◌, ◌≤◌, Bool, true, false, List, map, length, Ok, Err, Result, MatchResult, sym, ap, ◌∙◌, arith, rules}
use Rattle.std.proofs.lemmas.Bool.Decides.{nat_tests}
use Rattle.std.proofs.lemmas.List.{length-map}
use Rattle.arrayvec.specs.ArrayVec.{ArrayVec}
use Rattle.keys.specs.Keys.{twice}
use Rattle.event.proofs.SameId.{same_id_test}
use Rattle.event.specs.Bytes.{within}
use Rattle.event.specs.Sources.{same_id, ids, all_lawful}
use Rattle.event.specs.View.{occurrence_of}
use Rattle.event.specs.declared.id.UniqueId.{UniqueId}
use Rattle.event.specs.declared.occurrence.Occurrence.{Occurrence as Row}
use Rattle.event.specs.declared.refusal.Refusal.{Refusal}
use Rattle.board.specs.Boards.{lawful_board}
use Rattle.board.specs.Tables.{rows_told}
use Rattle.board.proofs.Tables.{ids_rows, refuse_count, refuse_unlawful, refuse_twice, refuse_none, rows-lawful}
use Rattle.board.proofs.table.TableBoard.new.Goals as goal
use Rattle.board.proofs.table.TableBoard.new.Goals.{After-has_twice}

-- as many sources as rows
counted : {b : Bool} (rows : List Row) → within 1 64 (length rows) ≡ b → within 1 64 (length (rows_told rows)) ≡ b
counted rows e = ap (within 1 64) (length-map rows occurrence_of) ∙ e

pub returns-then-not-contains : goal.returns-then-not-contains
returns-then-not-contains c =
    let rows = c.args.rows.now in
    let other : within 1 64 (length rows) ≡ false = search rules in
    refuse_count (rows_told rows) (counted rows other)

pub returns-then-not-all_lawful : goal.returns-then-not-all_lawful
returns-then-not-all_lawful c =
    let rows = c.args.rows.now in
    let few : within 1 64 (length rows) ≡ true = search rules in
    refuse_unlawful (rows_told rows) (counted rows few) (sym c.if-not-all_lawful.ensures)

-- the answer of the search among the rows' unique IDs is that for the sources
searched : {b : Bool} {seen us : List UniqueId} (rows : List Row) → seen ≡ us → us ≡ map (λ (row : Row). row.id) rows → b ≡ twice same_id seen → twice same_id (ids (rows_told rows)) ≡ b
searched rows same named e = ap (twice same_id) (ids_rows rows ∙ sym (same ∙ named)) ∙ sym e

-- what is known of the rows once their unique IDs were searched
record Searched (rows : List Row) (repeated : Bool) : Type 0 where
  few : within 1 64 (length (rows_told rows)) ≡ true
  all : all_lawful (rows_told rows) ≡ true
  once : twice same_id (ids (rows_told rows)) ≡ repeated

known : (c : After-has_twice) → Searched c.args.rows.now c.has_twice.result
known c =
    let few : within 1 64 (length c.args.rows.now) ≡ true = search rules in
    record {
      few = counted c.args.rows.now few;
      all = sym c.if-not-all_lawful.ensures;
      once = searched c.args.rows.now c.deref.ensures.0 c.ids.ensures (c.has_twice.ensures same_id same_id_test);
    }

-- 1 to 64 rows fit into the vector, which then has them
copied : {E : Type 0} {copy : ArrayVec Row} (rows : List Row) (t : Result (ArrayVec Row) E) → MatchResult t (λ v. (v.items ≡ rows) × (length rows ≤ 64)) (λ _. 64 < length rows) → MatchResult t (λ v. ◌≡◌ {A = Result (ArrayVec Row) Refusal} (Ok copy) (Ok v)) (λ _. ⊥) → copy.items ≡ rows
copied {copy = copy} rows (Ok v) made same = let e : copy ≡ v = cc in ap (λ (w : ArrayVec Row). w.items) e ∙ made.0
copied rows (Err e) made same = absurd same

fits : {E : Type 0} (P : E → Type 0) (r : Refusal) (rows : List Row) (t : Result (ArrayVec Row) E) → within 1 64 (length rows) ≡ true → MatchResult t (λ v. (v.items ≡ rows) × (length rows ≤ 64)) (λ _. 64 < length rows) → MatchResult t (λ v. ◌≡◌ {A = Result (ArrayVec Row) Refusal} (Err r) (Ok v)) P → ⊥
fits P r rows (Ok v) few made same = absurd (cc)
fits P r rows (Err e) few made same = grind (arith, nat_tests)

pub returns-then-has_twice : goal.returns-then-has_twice
returns-then-has_twice c =
    let k = known (goal.at.returns-then-has_twice c).After-has_twice in
    refuse_twice (rows_told c.args.rows.now) k.few k.all (k.once ∙ c.if-has_twice.true)

pub returns-in_err-rows : goal.returns-in_err-rows
returns-in_err-rows c =
    let rows = c.args.rows.now in
    let few : within 1 64 (length rows) ≡ true = search rules in
    absurd (fits _ _ rows c.try_from.result few c.try_from.ensures c.in_err-rows.ensures.cases)

pub returns : goal.returns
returns c =
    let k = known (goal.at.returns c).After-has_twice in
    let same = copied c.args.rows.now c.try_from.result c.try_from.ensures c.in_ok-rows.ensures.cases in
    ap (λ (l : List Row). Ok (rows_told l)) same ∙ refuse_none (rows_told c.args.rows.now) k.few k.all (k.once ∙ c.if-has_twice.false)

pub invariant_of-result : goal.invariant_of-result
invariant_of-result c =
    let k = known (goal.at.invariant_of-result c).After-has_twice in
    let same = copied c.args.rows.now c.try_from.result c.try_from.ensures c.in_ok-rows.ensures.cases in
    record { lawful = ap (λ (l : List Row). lawful_board (rows_told l)) same ∙ rows-lawful (rows_told c.args.rows.now) k.few k.all (k.once ∙ c.if-has_twice.false) }
