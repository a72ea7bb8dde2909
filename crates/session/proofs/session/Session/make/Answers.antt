use Rattle.session.proofs.Single.{ran-one, noted-one}
use Rattle.session.proofs.session.Session.make.Goals as goal

pub returns-clause-pair : goal.returns-clause-pair
returns-clause-pair c = ran-one c.args.self.now c.args.room c.in_ok-call.call _ _ c.run-made.ensures.ran.pair c.in_ok-call.ensures.call

pub returns-clause-made : goal.returns-clause-made
returns-clause-made c = noted-one c.args.self.now c.args.room c.in_ok-call.call c.new.result _ _ c.args.action.now _ c.run-made.ensures.ran.records c.new.ensures c.in_ok-call.ensures.some c.in_ok-call.ensures.call
