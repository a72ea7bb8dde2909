-- A list that is read is the only encoding of what it tells. Assumes nothing.
use Rattle.std.proofs.Common.{◌&&◌, sym, ap, ◌∙◌}
use Rattle.std.proofs.lemmas.Bool.{and_parts}
use Rattle.std.proofs.lemmas.Option.{cond_some}
use Rattle.event.specs.Bytes.{byte, same_bytes}
use Rattle.list.specs.Lists.{lawful_told, tells, list_bytes, Listing, listing, read_list}
use Rattle.list.specs.Laws.{OnlyEncoding}
use Rattle.event.proofs.SameBytes.{same_is}

pub only_encoding : OnlyEncoding
unfolding read_list
only_encoding bytes l e =
    let x = cond_some (lawful_told (tells bytes) && same_bytes bytes (list_bytes (byte bytes 6) (tells bytes))) (listing (byte bytes 6) (tells bytes)) l e in
    let both = and_parts (lawful_told (tells bytes)) _ x.0 in
    record {
      is = same_is bytes _ both.1 ∙ ap (λ (w : Listing). list_bytes w.transmission w.told) x.1;
      lawful = sym (ap (λ (w : Listing). lawful_told w.told) x.1) ∙ both.0;
    }
