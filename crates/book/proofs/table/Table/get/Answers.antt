use Rattle.std.proofs.Common.{ℕ, take, sym, subst}
use native.Mathlib.Nat.{sub-zero}
use Rattle.keys.specs.Keys.{First, Nowhere}
use Rattle.book.specs.Tables.{rows}
use Rattle.book.proofs.Rows.{seen, unseen}
use Rattle.book.proofs.table.Table.get.Goals as goal

pub returns : goal.returns
unfolding rows
returns c =
    let t = c.args.self.now in
    let f = subst (λ (m : ℕ). First (take m t.keys) c.args.id c.in_ok-i.i) (sub-zero t.len) c.in_ok-i.ensures in
    sym (seen t.keys t.readings t.len t.few t.keyed t.read c.in_ok-i.i c.args.id _ f)

pub returns-in_err-i : goal.returns-in_err-i
unfolding rows
returns-in_err-i c =
    let t = c.args.self.now in
    let f = subst (λ (m : ℕ). Nowhere (take m t.keys) c.args.id) (sub-zero t.len) c.in_err-i.ensures in
    rw c.from_residual.ensures (sym (unseen t.keys t.readings t.len t.few t.keyed t.read c.args.id f))
