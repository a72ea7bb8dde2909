use Rattle.session.proofs.Single.{ran-one, noted-one}
use Rattle.session.proofs.beside.make_both.Goals as goal

pub returns-clause-one : goal.returns-clause-one
returns-clause-one c = ran-one c.args.one.now c.args.room c.in-Some.call _ _ c.run_both-made.ensures.one.pair c.in-Some.ensures.call

pub returns-clause-other : goal.returns-clause-other
returns-clause-other c = ran-one c.args.other.now c.args.room c.in-Some.call _ _ c.run_both-made.ensures.other.pair c.in-Some.ensures.call

pub returns-clause-first : goal.returns-clause-first
returns-clause-first c = noted-one c.args.one.now c.args.room c.in-Some.call c.new.result _ _ c.args.action.now _ c.run_both-made.ensures.one.records c.new.ensures c.in-Some.ensures.some c.in-Some.ensures.call

pub returns-clause-second : goal.returns-clause-second
returns-clause-second c = noted-one c.args.other.now c.args.room c.in-Some.call c.new-2.result _ _ c.args.action.now _ c.run_both-made.ensures.other.records c.new-2.ensures c.in-Some.ensures.some c.in-Some.ensures.call
