use Rattle.std.proofs.Common.{ℕ, ◌<◌, ◌≤◌, length, take, set, sym, refl, ap, ◌∙◌, subst, arith}
use native.Mathlib.Nat.{sub-zero}
use Rattle.std.proofs.lemmas.List.{length-set}
use Rattle.std.proofs.lemmas.Bool.{le-leb, lt-leb}
use Rattle.keys.specs.Keys.{First, Nowhere}
use Rattle.event.specs.View.{occurrence_of}
use Rattle.protocol.specs.Book.{enter}
use Rattle.book.specs.Tables.{rows, paired}
use Rattle.book.proofs.Rows.{replaced, added, more, length-rows, entered_fits, entered-over}
use Rattle.book.proofs.table.Table.enter.Goals as goal

pub returns-in-None : goal.returns-in-None
unfolding rows
returns-in-None c =
    let t = c.args.self.now in
    let o = occurrence_of c.args.occurrence in
    let f = subst (λ (m : ℕ). Nowhere (take m t.keys) o.id) (sub-zero t.len) c.in-None.ensures in
    let n = more t.keys t.readings t.len t.few t.keyed t.read o f in
    let h : 64 < length (enter o (take t.len (paired t.keys t.readings))) = omega arith in
    record { fits = sym (lt-leb _ 64 h); rows = sym (entered-over o _ h) }

pub returns-in-Some : goal.returns-in-Some
unfolding rows
returns-in-Some c =
    let t = c.args.self.now in
    let o = occurrence_of c.args.occurrence in
    let r = c.args.occurrence.reading in
    let i = c.in-Some.i in
    let f = subst (λ (m : ℕ). First (take m t.keys) o.id i) (sub-zero t.len) c.in-Some.ensures in
    let is = replaced t.keys t.readings t.len t.few t.keyed t.read i o r refl f in
    let n = length-rows t.keys (set t.readings i r) t.len t.few t.keyed (length-set t.readings i r ∙ t.read) in
    let h : length (enter o (take t.len (paired t.keys t.readings))) ≤ 64 = omega (arith, ap length is, t.few) in
    record { fits = sym (le-leb _ 64 h); rows = is ∙ sym (entered_fits o _ h) }

pub returns-in-None-2 : goal.returns-in-None-2
unfolding rows
returns-in-None-2 c =
    let t = c.args.self.now in
    let o = occurrence_of c.args.occurrence in
    let r = c.args.occurrence.reading in
    let f = subst (λ (m : ℕ). Nowhere (take m t.keys) o.id) (sub-zero t.len) c.in-None-2.ensures in
    let is = added t.keys t.readings t.len t.few t.keyed t.read o r refl (omega arith) f in
    let n = more t.keys t.readings t.len t.few t.keyed t.read o f in
    let h : length (enter o (take t.len (paired t.keys t.readings))) ≤ 64 = omega arith in
    record { fits = sym (le-leb _ 64 h); rows = is ∙ sym (entered_fits o _ h) }
