use Rattle.std.proofs.Common.{◌≡◌, Bool, true, false, cond, leb, [], length, sym, ap, rules}
use Rattle.pair.specs.View.{pair_in}
use Rattle.pair.specs.Runs.{recordable, calls_in}
use Rattle.pair.proofs.Loops.{ran_as, ran_none}
use Rattle.pair.proofs.Fairness.{present, what_was, keeps}
use Rattle.pair.proofs.pair.Pair.run.Goals as goal

pub returns-then-records-tasks : goal.returns-then-records-tasks
returns-then-records-tasks g c =
    let p = pair_in g.B.Board.told g.C.Carrier.carried c.args.self.now in
    let few : leb (length c.args.tasks.now) (length c.args.records.now) ≡ false = search rules in
    let ran = ran_as p p _ _ _ _ (ap (λ (b : Bool). cond b c.args.tasks.now []) few) (ran_none p _) in
    let kept = keeps p p (calls_in p (recordable c.args.tasks.now c.args.records.now)) ran.pair in
    record { done = sym few; ran = ran; kept = kept; present = present; what_was = what_was }

pub returns : goal.returns
returns g c =
    let p = pair_in g.B.Board.told g.C.Carrier.carried c.args.self.now in
    let enough : leb (length c.args.tasks.now) (length c.args.records.now) ≡ true = search rules in
    let ran = ran_as p _ _ _ _ _ (ap (λ (b : Bool). cond b c.args.tasks.now []) enough) c.run_all.ensures in
    let kept = keeps p _ (calls_in p (recordable c.args.tasks.now c.args.records.now)) ran.pair in
    record { done = sym enough; ran = ran; kept = kept; present = present; what_was = what_was }
