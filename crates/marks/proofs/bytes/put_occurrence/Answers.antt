use Rattle.std.proofs.Common.{◌≡◌, ℕ, [], ◌∷◌, length, get_or, ap, ◌∙◌, arith, length-append, length-drop, refl}
use borrow.Rule.Slice.PartMut.{put_mid}
use Rattle.event.specs.declared.id.UniqueId.{UniqueId}
use Rattle.event.specs.Bytes.{Bytes, placed, le32}
use Rattle.event.specs.Sources.{occurrence}
use Rattle.event.specs.View.{held}
use Rattle.event.proofs.Placed.{placed_copy, placed-placed}
use Rattle.list.specs.Lists.{specific_length, vendor_length, occurrence_head, occurrence_bytes}
use Rattle.list.proofs.Lengths.{length-occurrence}
use Rattle.marks.proofs.bytes.put_occurrence.Goals as goal

-- the nine bytes as they are written
head-is : (id : UniqueId) (n s v : ℕ) (bs : Bytes) → bs ≡ le32 id.info → s ≡ specific_length id.identifier n → v ≡ vendor_length id.identifier n
    → 9 ∷ s ∷ v ∷ id.identifier ∷ get_or bs 0 0 ∷ get_or bs 1 0 ∷ get_or bs 2 0 ∷ get_or bs 3 0 ∷ id.scope ∷ [] ≡ occurrence_head id n
head-is id n s v bs b es ev = λ i. 9 ∷ es i ∷ ev i ∷ id.identifier ∷ get_or (b i) 0 0 ∷ get_or (b i) 1 0 ∷ get_or (b i) 2 0 ∷ get_or (b i) 3 0 ∷ id.scope ∷ []

pub slice_bounds-copy_from_slice-end : goal.slice_bounds-copy_from_slice-end
slice_bounds-copy_from_slice-end c = omega (arith, length-occurrence (occurrence c.args.id (held c.args.reading.now)))

pub slice_bounds-copy_from_slice-end-3 : goal.slice_bounds-copy_from_slice-end-3
slice_bounds-copy_from_slice-end-3 c =
    let e = length-occurrence (occurrence c.args.id (held c.args.reading.now)) in
    let part = ap length c.as_bytes-bytes.ensures in
    simp (length-append, length-drop) (omega arith)

pub returns-clause-count : goal.returns-clause-count
returns-clause-count c = omega (arith, length-occurrence (occurrence c.args.id (held c.args.reading.now)), ap length c.as_bytes-bytes.ensures)

pub returns-clause-out : goal.returns-clause-out
unfolding occurrence_bytes
returns-clause-out c =
    let id = c.args.id in
    let d = c.args.out.now in
    let r = held c.args.reading.now in
    let view = c.as_bytes-bytes.ensures in
    let long = ap length view in
    let split = c.split_length-specific.ensures in
    let head = head-is id (length r) _ _ _ c.to_le_bytes.ensures (split.specific ∙ ap (specific_length id.identifier) long) (split.vendor ∙ ap (vendor_length id.identifier) long) in
    let first : put_mid 0 9 d c.copy_from_slice.new.self ≡ placed d 0 (occurrence_head id (length r)) = placed_copy d 0 9 _ _ (c.copy_from_slice.ensures.after ∙ head) refl in
    placed_copy _ 9 _ _ r (c.copy_from_slice-2.ensures.after ∙ view) (omega arith) ∙ ap (λ (b : Bytes). placed b 9 r) first ∙ placed-placed d 0 (occurrence_head id (length r)) r (omega arith)
