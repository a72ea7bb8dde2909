-- Calls on a table board of rows: on the board that was made, or refused as it is. Assumes nothing.
use Rattle.std.proofs.Common.{◌≡◌, ℕ, Some, None, Ok, Err, Option, Result, sym, refl, ap, ◌∙◌}
use Rattle.event.specs.Bytes.{Bytes}
use Rattle.event.specs.Outcomes.{Outcome, Gives, over_front}
use Rattle.event.specs.Refusals.{number}
use Rattle.event.specs.declared.refusal.Refusal.{Refusal}
use Rattle.board.specs.Boards.{Sources}
use Rattle.board.specs.Tables.{row_refusal, board_of}
use Rattle.measured.specs.Runs.{Run, run}
use Rattle.crossing.specs.Outcomes.{refusal_number, count_of, unless_refused, of_rows, Leaves}
use Rattle.capi.specs.Runs.{on_rows, RunsOn}
use Rattle.capi.proofs.Results.{same_value, same_refusal, no_refusal}

-- rows of which a board is made are not refused, and the board tells them
made : (rows told : Sources) (e : Option Refusal) → Ok told ≡ board_of e rows → (e ≡ None) × (told ≡ rows)
made rows told None m = (refl, same_value told rows m)
made rows told (Some r) m = absurd (no_refusal told r m)

-- and those of which none is made are refused so
refused : (rows : Sources) (r : Refusal) (e : Option Refusal) → Err r ≡ board_of e rows → e ≡ Some r
refused rows r None m = absurd (no_refusal rows r (sym m))
refused rows r (Some s) m = ap Some (sym (same_refusal {A = Sources} r s m))

module _ (rows : Sources) (before after : Bytes) (n result : ℕ) where
  pub leaves : (told : Sources) (o : Sources → Outcome) (r : Result ℕ Refusal) → Ok told ≡ board_of (row_refusal rows) rows → Gives (o told) before after r
      → result ≡ refusal_number r → n ≡ count_of r → Leaves (of_rows rows (o rows)) before after n result
  leaves told o r m g said counted =
      let p = made rows told (row_refusal rows) m in
      let same : o told ≡ of_rows rows (o rows) = ap o p.1 ∙ ap (λ (e : Option Refusal). unless_refused e (o rows)) (sym p.0) in
      let given = g.result ∙ ap (λ (x : Outcome). x.result) same in
      record {
        number = said ∙ ap refusal_number given;
        count = counted ∙ ap count_of given;
        buffer = g.buffer ∙ ap (λ (x : Outcome). over_front x.written before) same;
      }

  pub runs : (told : Sources) (o : Sources → Run) (r : Result ℕ Refusal) → Ok told ≡ board_of (row_refusal rows) rows → run r after ≡ o told
      → result ≡ refusal_number r → n ≡ count_of r → RunsOn rows (o rows) before after n result
  runs told o r m g said counted =
      let p = made rows told (row_refusal rows) m in
      let same : run r after ≡ on_rows (row_refusal rows) before (o rows) = g ∙ ap o p.1 ∙ ap (λ (e : Option Refusal). on_rows e before (o rows)) (sym p.0) in
      record {
        number = said ∙ ap (λ (x : Run). refusal_number x.result) same;
        count = counted ∙ ap (λ (x : Run). count_of x.result) same;
        buffer = ap (λ (x : Run). x.buffer) same;
      }

module _ (rows : Sources) (before : Bytes) (n result : ℕ) (r : Refusal) (m : Err r ≡ board_of (row_refusal rows) rows) (said : result ≡ number r) (counted : n ≡ 0) where
  pub leaves-refused : (o : Outcome) → Leaves (of_rows rows o) before before n result
  leaves-refused o =
      let e = ap (λ (x : Option Refusal). unless_refused x o) (sym (refused rows r (row_refusal rows) m)) in
      record {
        number = said ∙ ap (λ (x : Outcome). refusal_number x.result) e;
        count = counted ∙ ap (λ (x : Outcome). count_of x.result) e;
        buffer = ap (λ (x : Outcome). over_front x.written before) e;
      }

  pub runs-refused : (o : Run) → RunsOn rows o before before n result
  runs-refused o =
      let e = ap (λ (x : Option Refusal). on_rows x before o) (sym (refused rows r (row_refusal rows) m)) in
      record {
        number = said ∙ ap (λ (x : Run). refusal_number x.result) e;
        count = counted ∙ ap (λ (x : Run). count_of x.result) e;
        buffer = ap (λ (x : Run). x.buffer) e;
      }
