use Rattle.std.proofs.Common.{◌≡◌, ◌+◌, ◌-◌, ◌≤◌, ◌++◌, length, take, drop, sym, ap, ◌∙◌, arith, length-drop, length-take}
use Rattle.std.proofs.lemmas.List.{length-append}
use Rattle.event.specs.Bytes.{Bytes, placed}
use Rattle.event.proofs.Placed.{length-placed, placed-front}
use Rattle.list.specs.Lists.{told, list_bytes}
use Rattle.list.proofs.Lengths.{told-short}
use Rattle.marks.specs.View.{occurrences_in}
use Rattle.marks.proofs.Writers.{written, unwritten, written-buffer}
use Rattle.wire.specs.Checks.{checked}
use Rattle.wire.proofs.Buffers.{message-written, length-checked}
use Rattle.wire.proofs.message.write_framed.Goals as goal

-- a message is no longer than its head, the longest list and the check word
message-short : (head l : Bytes) → length l ≤ 4103 → length (checked (head ++ l)) ≤ length head + 4107
message-short head l h = omega (arith, length-checked (head ++ l), length-append head l)

pub returns-then-buffer-head : goal.returns-then-buffer-head
returns-then-buffer-head g c =
    let os = occurrences_in g.B.Board.told c.args.marked.now in
    unwritten _ _ c.args.buffer.now (message-short c.args.head.now _ (told-short c.args.transmission os)) c.if-buffer-head.true

pub returns : goal.returns
returns g c =
    let d = c.args.buffer.now in
    let head = c.args.head.now in
    let os = occurrences_in g.B.Board.told c.args.marked.now in
    let l = list_bytes c.args.transmission (told os) in
    let one = c.put-start.new.buffer in
    let at : c.put-start.result ≡ length head = omega (arith, c.put-start.ensures.end) in
    let first : one ≡ placed d 0 head = c.put-start.ensures.buffer in
    let same : length one ≡ length d = ap length first ∙ length-placed d 0 head (omega arith) in
    let start = c.put-start.result in
    let part = take (length one - start) (drop start one) in
    let room : 4103 ≤ length part = omega (arith, length-take (length one - start) (drop start one), length-drop start one) in
    let wrote = c.in_ok-n.ensures.written in
    let end : start + c.in_ok-n.n ≡ length (head ++ l) = omega (arith, wrote.counts.0, at, length-append head l) in
    written _ _ d c.put_check.new.buffer _ (message-short head l (told-short c.args.transmission os)) c.if-buffer-head.false
    (c.put_check.ensures.end ∙ omega (arith, end, length-checked (head ++ l)))
    (message-written d head l one c.put_list.new.out c.put_check.new.buffer start _ at first (written-buffer 4103 l part c.put_list.new.out _ wrote room) end c.put_check.ensures.buffer
    ∙ sym (placed-front d (checked (head ++ l))))
