-- Event messages and answers read back, and are the only encodings. Assumes nothing.
use Rattle.std.proofs.Common.{◌≡◌, ℕ, ◌+◌, ◌-◌, ◌*◌, ◌/◌, ◌%◌, ◌<◌, ◌≤◌, Bool, true, false, cond, ◌&&◌, eqb, leb, [], ◌++◌, length, take, drop, Some, None, Option, sym, refl, ap, ◌∙◌, subst, arith, length-take}
use Rattle.std.proofs.Math.Bool.{and-false}
use Rattle.std.proofs.lemmas.List.{length-append, drop_all, take-take}
use Rattle.std.proofs.lemmas.Bool.{eqb-true, leb-true, leb-false}
use Rattle.std.specs.Cmp.Lexicographic.{pointwise}
use Rattle.event.specs.Bytes.{Bytes, same_bytes}
use Rattle.list.specs.Lists.{Told, these, overflow, Listing, listing, header, body, lawful_told, list_bytes, tells, read_list}
use Rattle.event.proofs.SameBytes.{same_is}
use Rattle.list.proofs.Back.{reads_back}
use Rattle.list.proofs.Only.{only_encoding}
use Rattle.wire.specs.Checks.{checked, unchecked, is_checked}
use Rattle.wire.specs.Messages.{event_head, event_message, Event, event_of, read_framed, read_event, answer_head, answer_message, Answer, answer_of, slot_of, read_answer}
use Rattle.wire.specs.Laws.{EventsReadBack, AnswersReadBack, EncodesEvent, OnlyEvent, EncodesAnswer, OnlyAnswer}
use Rattle.wire.proofs.Words.{pointwise-same}
use Rattle.wire.proofs.Frames.{framed, frame_back, list_back, frame_only}

-- a list in its frame reads back
framed_back : (head : Bytes) (transmission : ℕ) (t : Told) → lawful_told t ≡ true → read_framed head (checked (head ++ list_bytes transmission t)) ≡ Some (listing transmission t)
unfolding read_framed
framed_back head transmission t h =
    let m = list_bytes transmission t in
    ap (λ (b : Bool). cond b (read_list (drop (length head) (unchecked (checked (head ++ m))))) None) (frame_back head m)
    ∙ ap read_list (list_back head m)
    ∙ reads_back transmission t h

-- a list has at least its header
some_list : (transmission : ℕ) (t : Told) → 0 < length (list_bytes transmission t)
unfolding list_bytes
some_list transmission (these os) = let e = length-append (header (length os) (7 + length (body os)) transmission) (body os) in omega arith
some_list transmission overflow = omega arith

-- what passed a test
passed : {A : Type 0} (v : Bool) (x : Option A) (a : A) → cond v x None ≡ Some a → (v ≡ true) × (x ≡ Some a)
passed true x a e = (refl, e)
passed false x a e = absurd (cc)

-- what is read in a frame is framed so
framed_only : (head bytes : Bytes) (l : Listing) → read_framed head bytes ≡ Some l →
    (bytes ≡ checked (head ++ list_bytes l.transmission l.told)) × (lawful_told l.told ≡ true)
unfolding read_framed
framed_only head bytes l e =
    let x = passed (framed head bytes) (read_list (drop (length head) (unchecked bytes))) l e in
    let only = only_encoding (drop (length head) (unchecked bytes)) l x.1 in
    (frame_only head bytes (list_bytes l.transmission l.told) x.0 only.is (some_list l.transmission l.told), only.lawful)

pub events_read_back : EventsReadBack
unfolding read_event event_message
events_read_back transmission t h = ap event_of (framed_back event_head transmission t h)

pub only-event : OnlyEvent
unfolding read_event event_message
only-event bytes v e = go (read_framed event_head bytes) refl e
  where
    go : (o : Option Listing) → read_framed event_head bytes ≡ o → event_of o ≡ Some v → EncodesEvent bytes v
    go None f e = absurd (cc)
    go (Some l) f e =
        let only = framed_only event_head bytes l f in
        let is : ◌≡◌ {A = Event} (record { generation = l.transmission / 8; retries = l.transmission % 8; told = l.told }) v = cc in
        let few : l.transmission % 8 < 8 = omega arith in
        let whole : l.transmission ≡ l.transmission / 8 * 8 + l.transmission % 8 = omega arith in
        subst (EncodesEvent bytes) is
        (record { is = only.0 ∙ ap (λ (k : ℕ). checked (event_head ++ list_bytes k l.told)) whole; few = few; lawful = only.1 })

-- the slot bit of an answer
slot-of : (slot : Bool) (t : Told) → slot_of (answer_message slot t) ≡ slot
unfolding answer_message checked
slot-of true t = refl
slot-of false t = refl

pub answers_read_back : AnswersReadBack
unfolding read_answer answer_message
answers_read_back slot t h =
    ap (λ (s : Bool). answer_of s (read_framed (answer_head s) (answer_message slot t))) (slot-of slot t) ∙ ap (answer_of slot) (framed_back (answer_head slot) 0 t h)

pub only-answer : OnlyAnswer
unfolding read_answer answer_message
only-answer bytes a e = go (read_framed (answer_head (slot_of bytes)) bytes) refl e
  where
    zero_info : (l : Listing) (t : Bool) → eqb l.transmission 0 ≡ t → read_framed (answer_head (slot_of bytes)) bytes ≡ Some l →
        cond t (Some (record { slot = slot_of bytes; told = l.told })) None ≡ Some a → EncodesAnswer bytes a
    zero_info l false z f e = absurd (cc)
    zero_info l true z f e =
        let only = framed_only (answer_head (slot_of bytes)) bytes l f in
        let is : ◌≡◌ {A = Answer} (record { slot = slot_of bytes; told = l.told }) a = cc in
        let none = eqb-true l.transmission 0 z in
        subst (EncodesAnswer bytes) is
        (record { is = only.0 ∙ ap (λ (k : ℕ). checked (answer_head (slot_of bytes) ++ list_bytes k l.told)) none; lawful = only.1 })

    go : (o : Option Listing) → read_framed (answer_head (slot_of bytes)) bytes ≡ o → answer_of (slot_of bytes) o ≡ Some a → EncodesAnswer bytes a
    go None f e = absurd (cc)
    go (Some l) f e = zero_info l (eqb l.transmission 0) refl f e

-- HOW THE CODE READS A FRAME

-- an answer is read by its slot, its head, and what stands in the frame behind that
pub answer_framed : (bytes : Bytes) (slot : Bool) (head : Bytes) (o : Option Listing) → slot ≡ slot_of bytes → head ≡ answer_head slot → o ≡ read_framed head bytes →
    read_answer bytes ≡ answer_of slot o
unfolding read_answer
answer_framed bytes slot head o e f g = cc

-- no bytes are no list
no_list : read_list [] ≡ None
unfolding read_list list_bytes
no_list = ap (λ (b : Bool). cond b (Some (listing 0 (tells []))) None) (and-false (lawful_told (tells [])))

pub too_short : (head bytes : Bytes) → length bytes < length head + 4 → read_framed head bytes ≡ None
unfolding read_framed unchecked
too_short head bytes h =
    let n = length bytes - 4 in
    let none = ap read_list (drop_all (length head) (take n bytes) (let e = length-take n bytes in omega arith)) ∙ no_list in
    ap (λ (o : Option Listing). cond (framed head bytes) o None) none
    ∙ (elim (framed head bytes) as (λ (b : Bool). cond {A = Option Listing} b None None ≡ None) [ true ↦ refl | false ↦ refl ])

-- bytes that are not in the frame
not_framed : (head bytes : Bytes) → framed head bytes ≡ false → read_framed head bytes ≡ None
unfolding read_framed
not_framed head bytes e = ap (λ (b : Bool). cond b (read_list (drop (length head) (unchecked bytes))) None) e

-- the head stands before the check word
abbrev pub begins : (head bytes : Bytes) → Bool
begins head bytes = pointwise eqb (take (length head) (take (length bytes - 4) bytes)) head

pub not_starting : (head bytes : Bytes) → begins head bytes ≡ false → read_framed head bytes ≡ None
not_starting head bytes e = go (leb (length head) (length bytes - 4)) refl
  where
    go : (b : Bool) → leb (length head) (length bytes - 4) ≡ b → read_framed head bytes ≡ None
    go false f = too_short head bytes (let h = leb-false (length head) (length bytes - 4) f in omega arith)
    go true f =
        let front = take-take (length head) (length bytes - 4) bytes (leb-true _ _ f) in
        let other = ap (λ (l : Bytes). same_bytes l head) (sym front) ∙ sym (pointwise-same _ head) ∙ e in
        not_framed head bytes (ap (λ (b : Bool). b && is_checked bytes) other)

pub not_checked : (head bytes : Bytes) → is_checked bytes ≡ false → read_framed head bytes ≡ None
not_checked head bytes e = not_framed head bytes (ap (λ (b : Bool). same_bytes (take (length head) bytes) head && b) e ∙ and-false (same_bytes (take (length head) bytes) head))

pub the_list : (head bytes : Bytes) → begins head bytes ≡ true → is_checked bytes ≡ true → read_framed head bytes ≡ read_list (drop (length head) (take (length bytes - 4) bytes))
unfolding read_framed unchecked
the_list head bytes e f =
    let k = length head in
    let n = length bytes - 4 in
    let same = sym (pointwise-same (take k (take n bytes)) head) ∙ e in
    let inside : k ≤ n = omega (arith, ap length (same_is (take k (take n bytes)) head same), length-take k (take n bytes), length-take n bytes) in
    let front = ap (λ (l : Bytes). same_bytes l head) (sym (take-take k n bytes inside)) ∙ same in
    λ i. cond (front i && f i) (read_list (drop k (take n bytes))) None
