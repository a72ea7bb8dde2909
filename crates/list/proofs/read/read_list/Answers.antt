use Rattle.std.proofs.Common.{◌≡◌, ◌<◌, ◌≤◌, false, ◌&&◌, eqb, length, Some, None, sym, rules}
use Rattle.std.proofs.lemmas.List.{take_rest}
use Rattle.std.proofs.lemmas.Bool.{ne_eqb, and_left, and_right}
use Rattle.event.specs.Bytes.{byte}
use Rattle.list.specs.View.{told_by}
use Rattle.list.proofs.Back.{reads_back}
use Rattle.list.proofs.Only.{only_encoding}
use Rattle.list.proofs.Headers.{no_header, refused, told}
use Rattle.list.proofs.read.read_list.Goals as goal
use Rattle.list.proofs.read.read_list.Goals.{then-version-ne0-via-then-version-ne0, then-version-ne0-via-else-version-ne0+then-header_length-ne7}

pub returns-in_default : goal.returns-in_default
returns-in_default c =
    let short : length c.args.bytes.now < 7 = search rules in
    record { listing = sym (no_header c.args.bytes.now short); only = only_encoding; back = reads_back }

pub returns-then-version-ne0 : goal.returns-then-version-ne0
returns-then-version-ne0 c =
    let s = c.args.bytes.now in
    let seven : 7 ≤ length s = search rules in
    let bad : (eqb (byte s 1) 0 && eqb (byte s 5) 7) ≡ false = elim c.then-version-ne0.branch [
      | then-version-ne0-via-then-version-ne0 w ↦ and_left _ _ (ne_eqb _ 0 w.if-version-ne0.true)
      | then-version-ne0-via-else-version-ne0+then-header_length-ne7 w ↦ and_right _ _ (ne_eqb _ 7 w.if-header_length-ne7.true)
    ] in
    record { listing = refused s (λ k. (c.type_inv.bytes k).fits) seven bad; only = only_encoding; back = reads_back }

pub returns-in_err-list : goal.returns-in_err-list
returns-in_err-list c =
    let s = c.args.bytes.now in
    let seven : 7 ≤ length s = search rules in
    let read = told s (λ k. (c.type_inv.bytes k).fits) seven c.if-version-ne0.false c.if-header_length-ne7.false _ _ None c.from_le_bytes-info.ensures (take_rest s 7) c.in_err-list.ensures in
    rw c.from_residual.ensures (record { listing = read; only = only_encoding; back = reads_back })

pub returns : goal.returns
returns c =
    let s = c.args.bytes.now in
    let seven : 7 ≤ length s = search rules in
    let t = Some (told_by c.in_ok-list.list) in
    let read = told s (λ k. (c.type_inv.bytes k).fits) seven c.if-version-ne0.false c.if-header_length-ne7.false _ _ t c.from_le_bytes-info.ensures (take_rest s 7) c.in_ok-list.ensures in
    record { listing = read; only = only_encoding; back = reads_back }
