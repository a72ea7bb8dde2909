-- The table board's rows, and what a set makes of them. Assumes nothing.
use Rattle.std.proofs.Common.{◌≡◌, ℕ, zero, suc, ◌<◌, Bool, true, false, cond, not, ◌&&◌, leb, List, [], ◌∷◌, Bor, map, length, get_or, set, Some, None, Ok, Err, Option, sym, refl, ap, ◌∙◌}
use Rattle.std.specs.List.{slice_get, list_all}
use Rattle.std.specs.Option.{option_map, MatchOption, IsSomeAnd}
use Rattle.std.specs.Slice.{IsItemAt}
use Rattle.std.proofs.lemmas.List.{set-get_or}
use Rattle.std.proofs.lemmas.Option.{cond_some, slice_get-map, slice_get_past, slice_get_read}
use Rattle.keys.specs.Keys.{twice}
use Rattle.event.specs.Bytes.{Bytes, within}
use Rattle.event.specs.Sources.{same_id, lawful_reading, lawful_occurrence, ids, all_lawful}
use Rattle.event.specs.View.{held, held_if, occurrence_of}
use Rattle.event.specs.declared.id.UniqueId.{UniqueId}
use Rattle.event.specs.declared.occurrence.Occurrence.{Occurrence as Row}
use Rattle.event.specs.declared.reading.Reading.{Reading}
use Rattle.event.specs.declared.refusal.Refusal.TheVariants.{RowCount, UnlawfulRow, RowTwice}
use Rattle.board.specs.Boards.{Sources, at, reading_of, lawful_board, takes, reread, after_set}
use Rattle.board.specs.Tables.{rows_told, row_refusal, board_of}
use Rattle.board.proofs.Rereads.{takes_at, after_taken, after_refused, lawful_from}

-- ROWS

-- what stands at a place of any list
at_get : {A : Type 0} (l : List A) (place : ℕ) → at l place ≡ slice_get l place
unfolding at
at_get [] place = refl
at_get (x ∷ l) zero = refl
at_get (x ∷ l) (suc place) = at_get l place

-- what stands at a place is what the row there tells
at_row : (rows : List Row) (place : ℕ) → at (rows_told rows) place ≡ option_map occurrence_of (slice_get rows place)
at_row rows place = at_get (rows_told rows) place ∙ slice_get-map occurrence_of rows place

-- all IDs are those of the rows
pub ids_rows : (rows : List Row) → ids (rows_told rows) ≡ map (λ (row : Row). row.id) rows
ids_rows [] = refl
ids_rows (row ∷ rows) = ap (λ (us : List UniqueId). row.id ∷ us) (ids_rows rows)

-- the ID at a place is that of the row there
pub id_row : (rows : List Row) (place : ℕ) → at (ids (rows_told rows)) place ≡ option_map (λ (row : Row). row.id) (slice_get rows place)
id_row rows place =
    ap (λ (us : List UniqueId). at us place) (ids_rows rows)
    ∙ at_get (map (λ (row : Row). row.id) rows) place
    ∙ slice_get-map (λ (row : Row). row.id) rows place

-- and so is the reading
pub reading_row : (rows : List Row) (place : ℕ) → reading_of (at (rows_told rows) place) ≡ held_if (option_map (λ (row : Row). row.reading) (slice_get rows place))
reading_row rows place = ap reading_of (at_row rows place) ∙ told (slice_get rows place)
  where
    told : (o : Option Row) → reading_of (option_map occurrence_of o) ≡ held_if (option_map (λ (row : Row). row.reading) o)
    told None = refl
    told (Some row) = refl

-- rows are lawful exactly if each is
pub rows_all_lawful : (rows : List Row) → list_all (λ (row : Row). lawful_occurrence (occurrence_of row)) rows ≡ all_lawful (rows_told rows)
unfolding all_lawful
rows_all_lawful [] = refl
rows_all_lawful (row ∷ rows) = ap (λ (b : Bool). lawful_occurrence (occurrence_of row) && b) (rows_all_lawful rows)

-- a look at a place, and the part that is taken of the row there
pub looked : {Y : Type 0} {P : Bor Row → Y → Type 0} {seen : List Row} (o : Option (Bor Row)) (r : Option Y) (part : Row → Y) (rows : List Row) (place : ℕ) → seen ≡ rows → IsItemAt seen place o → MatchOption o (r ≡ None) (λ x. IsSomeAnd r (P x)) → ((x : Bor Row) (y : Y) → P x y → y ≡ part x.now) → r ≡ option_map part (slice_get rows place)
looked {seen = seen} None r part rows place same here e says =
    e ∙ ap (option_map part) (sym (slice_get_past seen place here.3)) ∙ ap (λ (l : List Row). option_map part (slice_get l place)) same
looked (Some x) None part rows place same here e says = absurd e
looked {seen = seen} (Some x) (Some y) part rows place same here e says =
    ap Some (says x y e)
    ∙ ap (option_map part) (sym (slice_get_read seen (length seen) place x.now refl here.3.0 here.1))
    ∙ ap (λ (l : List Row). option_map part (slice_get l place)) same

-- A SET

-- a row allows the readings that its unique ID allows
takes_row : (rows : List Row) (place : ℕ) (r : Bytes) (row : Row) → place < length rows → row ≡ get_or rows place row → takes (rows_told rows) place r ≡ lawful_reading row.id.identifier r
takes_row rows place r row h is = takes_at (rows_told rows) place r (occurrence_of row) (at_row rows place ∙ ap (option_map occurrence_of) (slice_get_read rows (length rows) place row refl h is))

-- another reading in the row is another reading of the board
reread_row : (rows : List Row) (place : ℕ) (d : Row) (new : Reading) → rows_told (set rows place (record { id = (get_or rows place d).id; reading = new })) ≡ reread (rows_told rows) place (held new)
unfolding reread
reread_row [] place d new = refl
reread_row (row ∷ rows) zero d new = refl
reread_row (row ∷ rows) (suc place) d new = ap (λ (l : Sources). occurrence_of row ∷ l) (reread_row rows place d new)

-- a reading that the row does not allow changes nothing
pub row-left : (rows : List Row) (place : ℕ) (r : Bytes) (row : Row) → place < length rows → row ≡ get_or rows place row → false ≡ lawful_reading row.id.identifier r → (false ≡ takes (rows_told rows) place r) × (rows_told (set rows place row) ≡ after_set (rows_told rows) place r)
row-left rows place r row h is not-allowed =
    let refused = takes_row rows place r row h is ∙ sym not-allowed in
    (sym refused, ap rows_told (ap (set rows place) is ∙ set-get_or rows place row) ∙ sym (after_refused (rows_told rows) place r refused))

-- a reading that it allows is taken, and stands in the row after it
pub row-set : (rows : List Row) (place : ℕ) (r : Bytes) (row : Row) (new : Reading) → place < length rows → row ≡ get_or rows place row → true ≡ lawful_reading row.id.identifier r → Some (held new) ≡ cond (leb (length r) 64) (Some r) None → (true ≡ takes (rows_told rows) place r) × (rows_told (set rows place (record { id = row.id; reading = new })) ≡ after_set (rows_told rows) place r)
row-set rows place r row new h is allows made =
    let took = takes_row rows place r row h is ∙ sym allows in
    let same = cond_some (leb (length r) 64) r (held new) (sym made) in (
      sym took,
      ap (λ (x : Row). rows_told (set rows place (record { id = x.id; reading = new }))) is
          ∙ reread_row rows place row new
          ∙ ap (reread (rows_told rows) place) (sym same.1)
          ∙ sym (after_taken (rows_told rows) place r took),
    )

-- WHICH ROWS ARE REFUSED

pub refuse_count : (rows : Sources) → within 1 64 (length rows) ≡ false → Err RowCount ≡ board_of (row_refusal rows) rows
unfolding row_refusal
refuse_count rows few = rw few refl

pub refuse_unlawful : (rows : Sources) → within 1 64 (length rows) ≡ true → all_lawful rows ≡ false → Err UnlawfulRow ≡ board_of (row_refusal rows) rows
unfolding row_refusal
refuse_unlawful rows few all = rw (few, all) refl

pub refuse_twice : (rows : Sources) → within 1 64 (length rows) ≡ true → all_lawful rows ≡ true → twice same_id (ids rows) ≡ true → Err RowTwice ≡ board_of (row_refusal rows) rows
unfolding row_refusal
refuse_twice rows few all again = rw (few, all, again) refl

pub refuse_none : (rows : Sources) → within 1 64 (length rows) ≡ true → all_lawful rows ≡ true → twice same_id (ids rows) ≡ false → Ok rows ≡ board_of (row_refusal rows) rows
unfolding row_refusal
refuse_none rows few all once = rw (few, all, once) refl

-- rows that are not refused make a lawful board
pub rows-lawful : (rows : Sources) → within 1 64 (length rows) ≡ true → all_lawful rows ≡ true → twice same_id (ids rows) ≡ false → lawful_board rows ≡ true
rows-lawful rows few all once = lawful_from rows (record { few = few; all = all; apart = ap not once })
