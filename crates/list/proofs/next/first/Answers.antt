use Rattle.std.proofs.Common.{◌≡◌, ℕ, ◌<◌, take, ap, ◌∙◌, rules, lit<}
use Rattle.std.proofs.lemmas.List.{get_or-take}
use Rattle.event.specs.Bytes.{Bytes, byte, four}
use Rattle.list.proofs.next.first.Goals as goal

-- a byte of the first nine
at : (chunk s : Bytes) → chunk ≡ take 9 s → (k : ℕ) → k < 9 → byte chunk k ≡ byte s k
at chunk s e k h = ap (λ (l : Bytes). byte l k) e ∙ get_or-take 9 s k 0 h

pub returns : goal.returns
returns c =
    let same = at c.in_ok-head.head.now c.args.bytes.now c.in_ok-head.ensures.cases.0 in
    let identifier = same 3 (lit< tt) in
    let info0 = same 4 (lit< tt) in
    let info1 = same 5 (lit< tt) in
    let info2 = same 6 (lit< tt) in
    let info3 = same 7 (lit< tt) in
    let scope = same 8 (lit< tt) in
    let info = c.from_le_bytes-info.ensures ∙ (λ i. four (info0 i) (info1 i) (info2 i) (info3 i)) in
    record {
      nine = search rules;
      whole = search rules;
      mark = search rules;
      specific = search rules;
      vendor = search rules;
      id = λ i. record { identifier = identifier i; scope = scope i; info = info i };
      reading = search rules;
      rest = search rules;
    }
