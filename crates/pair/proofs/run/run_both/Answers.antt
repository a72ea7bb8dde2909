use Rattle.std.proofs.Common.{◌≡◌, Bool, true, false, cond, ◌&&◌, leb, [], length, sym, ap, rules}
use Rattle.pair.specs.View.{pair_in}
use Rattle.pair.specs.Runs.{recordable_twice}
use Rattle.pair.proofs.Loops.{ran_as, ran_none}
use Rattle.pair.proofs.Both.{anew, go_on}
use Rattle.pair.proofs.run.run_both.Goals as goal

pub returns-then-not-enough : goal.returns-then-not-enough
returns-then-not-enough g c =
    let p = pair_in g.B.Board.told g.C.Carrier.carried c.args.one.now in
    let q = pair_in g.D.Board.told g.E.Carrier.carried c.args.other.now in
    let few : (leb (length c.args.tasks.now) (length c.args.first.now) && leb (length c.args.tasks.now) (length c.args.second.now)) ≡ false = search rules in
    let none = ap (λ (b : Bool). cond b c.args.tasks.now []) few in
    let one = ran_as p p _ _ _ _ none (ran_none p _) in
    let other = ran_as q q _ _ _ _ none (ran_none q _) in
    record { done = sym few; one = one; other = other; alike = go_on p q (recordable_twice c.args.tasks.now c.args.first.now c.args.second.now) _ _ one.pair other.pair; anew = anew }

pub returns : goal.returns
returns g c =
    let p = pair_in g.B.Board.told g.C.Carrier.carried c.args.one.now in
    let q = pair_in g.D.Board.told g.E.Carrier.carried c.args.other.now in
    let enough : (leb (length c.args.tasks.now) (length c.args.first.now) && leb (length c.args.tasks.now) (length c.args.second.now)) ≡ true = search rules in
    let all = ap (λ (b : Bool). cond b c.args.tasks.now []) enough in
    let one = ran_as p _ _ _ _ _ all c.run_all.ensures in
    let other = ran_as q _ _ _ _ _ all c.run_all-2.ensures in
    record { done = sym enough; one = one; other = other; alike = go_on p q (recordable_twice c.args.tasks.now c.args.first.now c.args.second.now) _ _ one.pair other.pair; anew = anew }
