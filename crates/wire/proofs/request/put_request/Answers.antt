use Rattle.std.proofs.Common.{◌≡◌, ◌+◌, [], ◌∷◌, ◌++◌, length, get_or, take, ap, ◌∙◌, arith}
use Rattle.std.proofs.lemmas.List.{length-append}
use Rattle.crc.specs.Crc.{crc32c}
use Rattle.event.specs.Bytes.{Bytes, placed, le16, le32}
use Rattle.event.specs.Outcomes.{over_front}
use Rattle.wire.specs.Checks.{checked}
use Rattle.wire.specs.Requests.{items_bytes, enable_list, request_head, request_message}
use Rattle.event.proofs.Placed.{placed-front, one_more}
use Rattle.wire.proofs.Buffers.{with_check, length-checked}
use Rattle.wire.proofs.ItemLists.{length-items}
use Rattle.wire.proofs.request.put_request.Goals as goal

pub returns : goal.returns
unfolding request_message
returns c =
    let d = c.args.buffer.now in
    let items = c.args.items.now in
    let body = items_bytes items in
    let n = length-items items in
    let head = request_head c.args.delays.first.0 c.args.delays.retry.0 in
    let word = c.to_le_bytes.result in
    let is : word ≡ le16 (5 + length body) = c.to_le_bytes.ensures ∙ ap le16 (omega arith) in
    let header : Bytes = length items ∷ 0 ∷ get_or word 0 0 ∷ get_or word 1 0 ∷ 5 ∷ [] in
    let whole = head ++ (header ++ body) in
    let same : header ++ body ≡ enable_list items = ap (λ (w : Bytes). length items ∷ 0 ∷ get_or w 0 0 ∷ get_or w 1 0 ∷ 5 ∷ body) is in
    let one : c.put-list.new.buffer ≡ over_front head d = c.put-list.ensures.buffer ∙ placed-front d head in
    let at : c.put-list.result ≡ length head = omega (arith, c.put-list.ensures.end) in
    let two : c.put-start.new.buffer ≡ over_front (head ++ header) d =
    c.put-start.ensures.buffer ∙ ap (λ (l : Bytes). placed l c.put-list.result header) one ∙ one_more d head header c.put-list.result at in
    let first : c.put-start.result ≡ length (head ++ header) = omega (arith, c.put-start.ensures.end) in
    let three : c.put_items-end.new.buffer ≡ over_front whole d =
    c.put_items-end.ensures.buffer ∙ ap (λ (l : Bytes). placed l c.put-start.result body) two ∙ one_more d (head ++ header) body c.put-start.result first in
    let all = length-append (head ++ header) body in
    let end = c.put_items-end.result in
    let long : end ≡ length whole = omega (arith, c.put_items-end.ensures.end) in
    let is : checked whole ≡ request_message c.args.delays.first.0 c.args.delays.retry.0 items = ap (λ (l : Bytes). checked (head ++ l)) same in
    record {
      end = c.put_check.ensures.end ∙ (omega (arith, length-checked whole, ap length is));
      buffer =
          c.put_check.ensures.buffer
          ∙ ap (λ (l : Bytes). placed l end (le32 (crc32c (take end l)))) three
          ∙ with_check d whole end long
          ∙ ap (λ (m : Bytes). over_front m d) is;
    }
