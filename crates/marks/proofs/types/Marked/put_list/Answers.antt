use Rattle.std.proofs.Common.{◌≡◌, ℕ, ◌+◌, ◌-◌, length, refl, ap, ◌∙◌, arith}
use borrow.Rule.Slice.PartMut.{put_mid}
use Rattle.event.specs.Bytes.{Bytes, placed}
use Rattle.event.proofs.Placed.{placed_copy, placed-placed, length-placed}
use Rattle.list.specs.Lists.{body, header, told, list_bytes}
use Rattle.list.proofs.Lengths.{told-short}
use Rattle.marks.specs.View.{occurrences_in}
use Rattle.marks.proofs.Lawful.{lists_lawful, lists_read_back}
use Rattle.marks.proofs.Lists.{over_list, whole_list}
use Rattle.marks.proofs.Parts.{part_placed, length-part}
use Rattle.marks.proofs.Writers.{written, unwritten}
use Rattle.marks.proofs.types.Marked.put_list.Goals as goal

pub returns-then-out : goal.returns-then-out
returns-then-out g c =
    let os = occurrences_in g.B.Board.told c.args.self.now in
    record { written = unwritten 4103 _ c.args.out.now (told-short c.args.transmission os) (omega arith); lawful = lists_lawful; back = lists_read_back c.args.transmission _ _ (g.met.B.Board.lawful c.args.self.now.board.now) }

pub returns-then-n-gt-LONGEST_BODY : goal.returns-then-n-gt-LONGEST_BODY
returns-then-n-gt-LONGEST_BODY g c =
    let t = c.args.transmission in
    let os = occurrences_in g.B.Board.told c.args.self.now in
    let is = over_list t os (omega (arith, c.body_length-n.ensures)) in
    record {
      written = written 4103 _ c.args.out.now _ _ (told-short t os) (omega arith) (ap length is) (placed_copy c.args.out.now 0 7 _ _ (c.copy_from_slice.ensures.after ∙ c.header_bytes.ensures ∙ is) (ap length is));
      lawful = lists_lawful;
      back = lists_read_back t _ _ (g.met.B.Board.lawful c.args.self.now.board.now);
    }

-- the header, written to the front
header-first : (d new : Bytes) (number total t : ℕ) → new ≡ header number total t → put_mid 0 7 d new ≡ placed d 0 (header number total t)
header-first d new number total t e = placed_copy d 0 7 new (header number total t) e refl

pub put_body-requires : goal.put_body-requires
put_body-requires g c =
    let d = c.args.out.now in
    let one = put_mid 0 7 d c.copy_from_slice-2.new.self in
    let first = header-first d _ _ _ _ (c.copy_from_slice-2.ensures.after ∙ c.header_bytes-header.ensures) in
    let same : length one ≡ length d = ap length first ∙ length-placed d 0 _ (omega arith) in
    omega (arith, length-part 7 one, c.body_length-n.ensures)

pub returns : goal.returns
returns g c =
    let d = c.args.out.now in
    let t = c.args.transmission in
    let os = occurrences_in g.B.Board.told c.args.self.now in
    let bs = body os in
    let n = c.body_length-n.ensures in
    let k = c.number.ensures in
    let is = whole_list t os (omega (arith, n)) in
    let one = put_mid 0 7 d c.copy_from_slice-2.new.self in
    let first : one ≡ placed d 0 (header (length os) (7 + length bs) t) =
    header-first d _ _ _ _ (c.copy_from_slice-2.ensures.after ∙ c.header_bytes-header.ensures) ∙ (λ i. placed d 0 (header (k i) (7 + n i) t)) in
    let out : put_mid 7 (length one - 7) one c.put_body.new.out ≡ placed d 0 (list_bytes t (told os)) =
    ap (put_mid 7 (length one - 7) one) c.put_body.ensures
    ∙ part_placed 7 one bs
    ∙ ap (λ (b : Bytes). placed b 7 bs) first
    ∙ placed-placed d 0 (header (length os) (7 + length bs) t) bs (omega arith)
    ∙ ap (placed d 0) is in
    record {
      written = written 4103 _ d _ _ (told-short t os) (omega arith) (omega (arith, n, ap length is)) out;
      lawful = lists_lawful;
      back = lists_read_back t _ _ (g.met.B.Board.lawful c.args.self.now.board.now);
    }
