use Rattle.std.proofs.Common.{refl, arith}
use Rattle.pair.specs.View.{pair_in}
use Rattle.pair.specs.Runs.{notes_of}
use Rattle.pair.proofs.Loops.{outcomes-run, end_more, end_all, notes_more, notes_all}
use Rattle.pair.proofs.pair.Pair.run_all.Goals as goal

pub loop-i-init : goal.loop-i-init
loop-i-init g c = (refl, refl)

pub loop-i-preserved : goal.loop-i-preserved
loop-i-preserved g c = (
  end_more _ _ _ _ _ _ c.loop-i-test.true c.work.ensures.pair c.loop-i.invariant.0,
  notes_more _ _ _ _ _ _ _ _ _ c.loop-i-test.true (omega arith) c.work.ensures.pair c.work.ensures.note c.loop-i.invariant.1,
)

pub returns : goal.returns
returns g c =
    let p = pair_in g.B.Board.told g.C.Carrier.carried c.args.self.now in
    record {
      pair = end_all p _ c.args.tasks.now _ c.loop-i-test.false c.loop-i.invariant.0;
      records = notes_all p _ c.args.tasks.now _ (notes_of c.args.records.now) _ c.loop-i-test.false c.loop-i.invariant.1;
      outcomes = outcomes-run p c.args.tasks.now;
    }
