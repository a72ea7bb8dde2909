-- The drive board's sources by place, and what another status makes of them. Assumes nothing.
use Rattle.std.proofs.Common.{◌≡◌, ℕ, zero, suc, ◌≤◌, Bool, true, false, cond, eqb, leb, [], ◌∷◌, length, Some, sym, refl, ap, ◌∙◌, ⊎_elim, arith}
use Rattle.std.proofs.lemmas.Bool.{cases_Bool, and_parts, eqb-true, le-leb, lt-leb}
use Rattle.event.specs.Bytes.{Bytes, byte}
use Rattle.event.specs.Sources.{lawful_id, one_byte, lawful_reading, ids, all_lawful}
use Rattle.std.proofs.lemmas.List.{nil_from_length}
use Rattle.std.proofs.lemmas.Bool.Decides.{nat_tests}
use Rattle.keys.specs.Keys.{among, twice}
use Rattle.board.specs.Boards.{Sources, at, lawful_board, takes, reread, after_set}
use Rattle.board.specs.Drives.{of_controller, of_subsystem, drive_sources, new_drive, Sets}
use Rattle.board.specs.declared.status.DriveStatus.{DriveStatus}
use Rattle.board.proofs.Rereads.{takes_past, after_taken, after_refused}

-- one byte is the byte at the place 0
one_long : (xs : Bytes) → length xs ≡ 1 → xs ≡ byte xs 0 ∷ []
one_long [] h = absurd (omega arith)
one_long (x ∷ []) h = refl
one_long (x ∷ y ∷ xs) h = absurd (omega arith)

-- WHAT STANDS AT A PLACE

-- five sources of the controller, then six of the subsystem
id_at : (d : DriveStatus) (place : ℕ) → place ≤ 10 → at (ids (drive_sources d)) place ≡ Some (cond (leb place 4) (of_controller place d.controller) (of_subsystem place))
unfolding drive_sources at
id_at d zero h = refl
id_at d (suc zero) h = refl
id_at d (suc (suc zero)) h = refl
id_at d (suc (suc (suc zero))) h = refl
id_at d (suc (suc (suc (suc zero)))) h = refl
id_at d (suc (suc (suc (suc (suc zero))))) h = refl
id_at d (suc (suc (suc (suc (suc (suc zero)))))) h = refl
id_at d (suc (suc (suc (suc (suc (suc (suc zero))))))) h = refl
id_at d (suc (suc (suc (suc (suc (suc (suc (suc zero)))))))) h = refl
id_at d (suc (suc (suc (suc (suc (suc (suc (suc (suc zero))))))))) h = refl
id_at d (suc (suc (suc (suc (suc (suc (suc (suc (suc (suc zero)))))))))) h = refl
id_at d (suc (suc (suc (suc (suc (suc (suc (suc (suc (suc (suc place))))))))))) h = absurd (omega arith)

pub id_controller : (d : DriveStatus) (place : ℕ) → place ≤ 4 → at (ids (drive_sources d)) place ≡ Some (of_controller place d.controller)
id_controller d place h =
    id_at d place (omega arith) ∙ ap (λ (b : Bool). Some (cond b (of_controller place d.controller) (of_subsystem place))) (le-leb place 4 h)

pub id_subsystem : (d : DriveStatus) (place : ℕ) → 5 ≤ place → place ≤ 10 → at (ids (drive_sources d)) place ≡ Some (of_subsystem place)
id_subsystem d place low high =
    id_at d place high ∙ ap (λ (b : Bool). Some (cond b (of_controller place d.controller) (of_subsystem place))) (lt-leb place 4 (omega arith))

-- SETS

-- a set of the source at n, which is taken as the test says
sets_by : {told after : Sources} {place : ℕ} {r : Bytes} {b : Bool} (n : ℕ) (test : Bool) → place ≡ n → b ≡ test → takes told n r ≡ test → (test ≡ true → after ≡ reread told n r) → (test ≡ false → after ≡ told) → Sets told place r b after
sets_by {told} {after} {place} {r} {b} n test at answer same took left = record {
  answer = answer ∙ sym same ∙ ap (λ (p : ℕ). takes told p r) (sym at);
  leaves = ⊎_elim (λ e. took e ∙ sym (after_taken told n r (same ∙ e))) (λ e. left e ∙ sym (after_refused told n r (same ∙ e))) (cases_Bool test)
      ∙ ap (λ (p : ℕ). after_set told p r) (sym at);
}

-- a status that is given a reading of one byte
pub put_sets : {told after : Sources} {place : ℕ} {r : Bytes} {b : Bool} {new : ℕ} (n most old : ℕ) → place ≡ n → b ≡ one_byte most r → new ≡ cond (one_byte most r) (byte r 0) old → takes told n r ≡ one_byte most r → after ≡ reread told n (new ∷ []) → told ≡ reread told n (old ∷ []) → Sets told place r b after
put_sets {told} {after} {place} {r} {b} {new} n most old at answer now test changed as-was =
    let value : (x : Bool) → one_byte most r ≡ x → after ≡ reread told n (cond x (byte r 0) old ∷ []) =
    λ x e. changed ∙ ap (λ (v : ℕ). reread told n (v ∷ [])) (now ∙ ap (λ (y : Bool). cond y (byte r 0) old) e) in
    sets_by n (one_byte most r) at answer test
    (λ took. let one = eqb-true (length r) 1 (and_parts (eqb (length r) 1) (leb (byte r 0) most) took).0 in value true took ∙ ap (reread told n) (sym (one_long r one)))
    (λ left. value false left ∙ sym as-was)

-- a source whose reading is empty
pub empty_sets : {told : Sources} {place : ℕ} {r : Bytes} {b : Bool} (n : ℕ) → place ≡ n → b ≡ eqb (length r) 0 → takes told n r ≡ eqb (length r) 0 → told ≡ reread told n [] → Sets told place r b told
empty_sets {told} {place} {r} {b} n at answer test as-was =
    sets_by n (eqb (length r) 0) at answer test (λ took. as-was ∙ ap (reread told n) (sym (nil_from_length r (eqb-true (length r) 0 took)))) (λ left. refl)

-- past the last place nothing is set
pub past_sets : (told : Sources) (place : ℕ) (r : Bytes) → length told ≤ place → Sets told place r false told
past_sets told place r h =
    let no = takes_past told place r h in
    record { answer = sym no; leaves = sym (after_refused told place r no) }

-- THE LAW

-- a new drive board is lawful
pub new_lawful : (controller : ℕ) → controller ≤ 0xFFFF → lawful_board (new_drive controller) ≡ true
unfolding lawful_board new_drive drive_sources all_lawful lawful_id lawful_reading twice among
new_lawful controller h = let e : leb controller 0xFFFF ≡ true = grind (arith, nat_tests) in rw e refl
