use Rattle.std.proofs.Common.{◌≡◌, ℕ, ◌≤◌, Some, None, Ok, Err, Result, sym, ap, ◌∙◌, arith}
use Rattle.std.proofs.lemmas.Int.{ints}
use Rattle.std.specs.Result.{OkIff, result_ok}
use Rattle.std.proofs.lemmas.Option.{none-some, same_Some}
use Rattle.event.specs.Sources.{ids}
use Rattle.board.specs.Boards.{at}
use Rattle.board.specs.Drives.{of_controller, of_port, drive_sources}
use Rattle.board.proofs.Drives.{id_controller, id_subsystem}
use Rattle.board.proofs.Rereads.{at_past}
use Rattle.board.proofs.drive.DriveBoardBoard.id.Goals as goal

-- a number that became a byte is that byte
same_number : {E : Type 0} {x : ℕ} (P : Type 0) (n : ℕ) (r : Result ℕ E) → OkIff r P n → Some x ≡ result_ok r → x ≡ n
same_number P n (Ok y) fits e = same_Some _ y e ∙ fits.1
same_number P n (Err y) fits e = absurd (none-some _ (sym e))

-- one that became none does not fit
no_byte : {E : Type 0} (P : Type 0) (n : ℕ) (r : Result ℕ E) → OkIff r P n → None ≡ result_ok r → P → ⊥
no_byte P n (Ok y) fits e p = none-some y e
no_byte P n (Err y) fits e p = fits p

pub returns-in-0-to-4 : goal.returns-in-0-to-4
returns-in-0-to-4 c =
    let d = c.args.self.now.status in
    let same = same_number _ c.args.place c.try_from.result c.try_from.ensures c.in_ok-identifier.ensures.value in
    ap (λ (i : ℕ). Some (of_controller c.in_ok-identifier.identifier i)) c.from.ensures
    ∙ sym (id_controller d c.in_ok-identifier.identifier (omega arith))
    ∙ ap (at (ids (drive_sources d))) same

pub returns-in-5-to-10 : goal.returns-in-5-to-10
returns-in-5-to-10 c =
    let d = c.args.self.now.status in
    let same = same_number _ c.args.place c.try_from.result c.try_from.ensures c.in_ok-identifier.ensures.value in
    sym (id_subsystem d c.in_ok-identifier.identifier (omega arith) (omega arith)) ∙ ap (at (ids (drive_sources d))) same

pub returns-in-11 : goal.returns-in-11
unfolding drive_sources at
returns-in-11 c =
    let ids = ids (drive_sources c.args.self.now.status) in
    let same = same_number _ c.args.place c.try_from.result c.try_from.ensures c.in_ok-identifier.ensures.value in
    ap (λ (i : ℕ). Some (of_port i)) c.in-11.is ∙ ap (at ids) (sym c.in-11.is ∙ same)

pub returns-in_default : goal.returns-in_default
unfolding drive_sources
returns-in_default c =
    let same = same_number _ c.args.place c.try_from.result c.try_from.ensures c.in_ok-identifier.ensures.value in
    sym (at_past (ids (drive_sources c.args.self.now.status)) c.args.place (omega arith))

pub returns-in_err-identifier : goal.returns-in_err-identifier
unfolding drive_sources
returns-in_err-identifier c =
    let many = no_byte _ c.args.place c.try_from.result c.try_from.ensures c.in_err-identifier.ensures.value in
    let past : 12 ≤ c.args.place = grind (arith, ints) in
    c.from_residual.ensures ∙ sym (at_past (ids (drive_sources c.args.self.now.status)) c.args.place (omega arith))
