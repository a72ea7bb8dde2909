-- Rows with a reading of more than 64 bytes. Assumes nothing.
use Rattle.std.proofs.Common.{◌≡◌, ℕ, ◌<◌, ◌≤◌, Bool, true, false, cond, ◌&&◌, leb, eqb, ◌⊎◌, List, [], ◌∷◌, map, length, take, replicate, Err, sym, refl, ap, ◌∙◌, inl, inr, arith}
use Rattle.std.specs.List.{list_all}
use Rattle.std.proofs.lemmas.Bool.{and_parts, and_left, and_right, false≢true, ne_eqb, lt-leb}
use Rattle.std.proofs.lemmas.Bool.Decides.{leb_tells, nat_tests}
use Rattle.std.proofs.lemmas.List.{length-map, length-replicate, length-take, take_all}
use Rattle.event.specs.Bytes.{Bytes, byte, within}
use Rattle.event.specs.Sources.{Occurrence, occurrence, is_vendor, lawful_id, lawful_occurrence, lawful_reading, one_byte, all_lawful}
use Rattle.event.specs.declared.refusal.Refusal.TheVariants.{UnlawfulRow}
use Rattle.board.specs.Tables.{row_refusal, board_of}
use Rattle.crossing.proofs.Firsts.{too_many}
use Rattle.crossing.specs.declared.types.Row.{Row}
use Rattle.crossing.specs.Crossing.{id_told, row_kept, row_told, rows_told, reading_told, all_short}

pub each_short : (rows : List Row) → list_all (λ (row : Row). leb row.length 64) rows ≡ all_short rows
each_short [] = refl
each_short (r ∷ rs) = ap (λ (b : Bool). leb r.length 64 && b) (each_short rs)

-- of short rows no reading is cut
pub kept_whole : (rows : List Row) → all_short rows ≡ true → map row_kept rows ≡ rows_told rows
kept_whole [] e = refl
kept_whole (r ∷ rs) e =
    let parts = and_parts (leb r.length 64) (all_short rs) e in
    let reading : take r.length r.bytes ≡ reading_told r = sym (ap (λ (b : Bool). cond b (take r.length r.bytes) (replicate r.length 0)) parts.0) in
    ap (λ (x : Bytes). occurrence (id_told r) x ∷ map row_kept rs) reading ∙ ap (λ (os : List Occurrence). row_told r ∷ os) (kept_whole rs parts.1)

neither : (b x y : Bool) → x ≡ false → y ≡ false → cond b x y ≡ false
neither true x y e f = e
neither false x y e f = f

-- a reading of more than 64 bytes is lawful nowhere
long_unlawful : (identifier : ℕ) (reading : Bytes) → 64 < length reading → lawful_reading identifier reading ≡ false
unfolding lawful_reading
long_unlawful identifier reading h =
    let not1 : eqb (length reading) 1 ≡ false = ne_eqb _ _ (λ e. omega arith) in
    let not0 : eqb (length reading) 0 ≡ false = ne_eqb _ _ (λ e. omega arith) in
    let one : (most : ℕ) → one_byte most reading ≡ false = λ most. and_left (eqb (length reading) 1) (leb (byte reading 0) most) not1 in
    neither (leb identifier 0x01) (one_byte 1 reading) _ (one 1)
    (neither (eqb identifier 0x02) (one_byte 7 reading) _ (one 7)
    (neither (eqb identifier 0x03) (one_byte 3 reading) _ (one 3)
    (neither (within 0x04 0x05 identifier) (eqb (length reading) 0) _ not0
    (neither (within 0x06 0x09 identifier) (one_byte 0xFF reading) _ (one 0xFF)
    (neither (eqb identifier 0x0A) (eqb (length reading) 0) _ not0
    (neither (eqb identifier 0x0B) (one_byte 1 reading) _ (one 1) (and_right (is_vendor identifier) (leb (length reading) 64) (lt-leb (length reading) 64 h))))))))

-- and a board with such a row is refused
long_refused : (rows : List Row) → all_short rows ≡ false → all_lawful (rows_told rows) ≡ false
unfolding all_lawful
long_refused [] e = absurd (false≢true (sym e))
long_refused (r ∷ rs) e = go (leb_tells r.length 64) (long_refused rs)
  where
    go : ((leb r.length 64 ≡ true) × (r.length ≤ 64)) ⊎ ((leb r.length 64 ≡ false) × (64 < r.length)) → (all_short rs ≡ false → all_lawful (rows_told rs) ≡ false) → all_lawful (rows_told (r ∷ rs)) ≡ false
    go (inl t) rest = and_right (lawful_occurrence (row_told r)) _ (rest (sym (ap (λ (b : Bool). b && all_short rs) t.0) ∙ e))
    go (inr t) rest =
        let reading : reading_told r ≡ replicate r.length 0 = ap (λ (b : Bool). cond b (take r.length r.bytes) (replicate r.length 0)) t.0 in
        let long : 64 < length (reading_told r) = omega (arith, ap length reading, length-replicate {A = ℕ} r.length 0) in
        and_left (lawful_occurrence (row_told r)) _ (and_right (lawful_id (id_told r)) _ (long_unlawful r.identifier (reading_told r) long))

some_long : (rows : List Row) → length rows ≤ 64 → all_short rows ≡ false → within 1 64 (length (rows_told rows)) ≡ true
some_long [] h e = absurd (false≢true (sym e))
some_long (r ∷ rs) h e = ap (within 1 64) (length-map (r ∷ rs) row_told) ∙ grind (arith, nat_tests)

pub refused_long : (rows : List Row) → length rows ≤ 64 → all_short rows ≡ false → Err UnlawfulRow ≡ board_of (row_refusal (rows_told rows)) (rows_told rows)
unfolding row_refusal
refused_long rows h e = rw (some_long rows h e, long_refused rows e) refl

-- where no row is too long, or there are too many anyway, those that are kept make the board
pub board_kept : (rows : List Row) → (length rows ≤ 64 → all_short rows ≡ true)
    → board_of (row_refusal (map row_kept (take 65 rows))) (map row_kept (take 65 rows)) ≡ board_of (row_refusal (rows_told rows)) (rows_told rows)
board_kept rows short = go (leb_tells (length rows) 64)
  where
    go : ((leb (length rows) 64 ≡ true) × (length rows ≤ 64)) ⊎ ((leb (length rows) 64 ≡ false) × (64 < length rows))
        → board_of (row_refusal (map row_kept (take 65 rows))) (map row_kept (take 65 rows)) ≡ board_of (row_refusal (rows_told rows)) (rows_told rows)
    go (inl t) = ap (λ (os : List Occurrence). board_of (row_refusal os) os) (ap (map row_kept) (take_all 65 rows (omega arith)) ∙ kept_whole rows (short t.1))
    go (inr t) =
        too_many (map row_kept (take 65 rows)) (omega (arith, length-map (take 65 rows) row_kept, length-take 65 rows))
        ∙ sym (too_many (rows_told rows) (omega (arith, length-map rows row_told)))
