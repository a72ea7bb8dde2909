-- The first two promises, carried from run to run. Assumes nothing.
use Rattle.std.proofs.Common.{◌≡◌, true, List, [], ◌∷◌, ◌++◌, Option, sym, refl, ap, ◌∙◌, subst}
use Rattle.board.specs.Boards.{Sources, lawful_board}
use Rattle.carrier.specs.Carriers.{Line}
use Rattle.wire.proofs.MessagesBack.{events_read_back, answers_read_back}
use Rattle.protocol.specs.Pair.{Pair, new_pair, Call, step, run}
use Rattle.protocol.specs.History.{History, new_history, after_call, after_calls}
use Rattle.protocol.specs.Promise.{Given, PresentOrMarked, WasSo, BookShowsPresent, BookShowsWhatWas}
use Rattle.promises.proofs.RunMarks.{run-append}
use Rattle.promises.proofs.Right.{book-shows-present, book-shows-what-was}
use Rattle.pair.specs.View.{step_if}
use Rattle.pair.specs.Runs.{prepend}
use Rattle.pair.specs.Fair.{CameFairly, KeepsPromises}
use Rattle.pair.proofs.Loops.{run-prepend}

-- the first promise
pub present : BookShowsPresent
present = book-shows-present events_read_back answers_read_back

-- the second promise
pub what_was : BookShowsWhatWas
what_was = book-shows-what-was events_read_back answers_read_back

after-append : (p : Pair) (cs ds : List Call) (h : History) → after_calls p (cs ++ ds) h ≡ after_calls (run p cs) ds (after_calls p cs h)
after-append p [] ds h = refl
after-append p (c ∷ cs) ds h = after-append (step p c).pair cs ds (after_call p c h)

given-append : (p : Pair) (h : History) (cs ds : List Call) → Given p h cs → Given (run p cs) (after_calls p cs h) ds → Given p h (cs ++ ds)
given-append p h [] ds x y = y
given-append p h (c ∷ cs) ds x y = (x.0, given-append (step p c).pair (after_call p c h) cs ds x.1 y)

-- a new pair came fairly
pub came_new : (board : Sources) (line : Line) → lawful_board board ≡ true → (p : Pair) → p ≡ new_pair board line → CameFairly p new_history
came_new board line lawful p e = record { board = board; lawful = lawful; line = line; calls = []; given = tt; pair = e; history = refl }

-- and so did one that went on fairly
came_more : (p p' : Pair) (h : History) (calls : List Call) → CameFairly p h → Given p h calls → p' ≡ run p calls → CameFairly p' (after_calls p calls h)
came_more p p' h calls x given e =
    let new = new_pair x.board x.line in
    let fair = subst (λ (v : Pair). Given v h calls) x.pair given in
    let later = subst (λ (k : History). Given (run new x.calls) k calls) x.history fair in
    record {
      board = x.board;
      lawful = x.lawful;
      line = x.line;
      calls = x.calls ++ calls;
      given = given-append new new_history x.calls calls x.given later;
      pair = e ∙ ap (λ (v : Pair). run v calls) x.pair ∙ sym (run-append new x.calls calls);
      history = ap (λ (v : Pair). after_calls v calls h) x.pair ∙ ap (after_calls (run new x.calls) calls) x.history ∙ sym (after-append new x.calls calls new_history);
    }

-- the promises of one that came fairly
shows-present : (p : Pair) (h : History) → CameFairly p h → PresentOrMarked p
shows-present p h x = subst PresentOrMarked (sym x.pair) (present x.board x.line x.calls x.lawful x.given)

shows_what_was : (p : Pair) (h : History) → CameFairly p h → WasSo p h
shows_what_was p h x =
    let new = new_pair x.board x.line in
    let here = subst (λ (v : Pair). WasSo v (after_calls new x.calls new_history)) (sym x.pair) (what_was x.board x.line x.calls x.lawful x.given) in
    subst (λ (k : History). WasSo p k) (sym x.history) here

-- after a run
pub keeps : (p p' : Pair) (calls : List Call) → p' ≡ run p calls → KeepsPromises p calls p'
keeps p p' calls e h x given =
    let y = came_more p p' h calls x given e in
    (y, (shows-present p' (after_calls p calls h) y, shows_what_was p' (after_calls p calls h) y))

-- after one call, if it is one
pub keeps_one : (p p' : Pair) (c : Option Call) → p' ≡ step_if p c → KeepsPromises p (prepend c []) p'
keeps_one p p' c e = keeps p p' (prepend c []) (e ∙ run-prepend p c [])
