use Rattle.session.proofs.session.Session.end.Goals as goal

pub returns : goal.returns
returns c = c.end.ensures
