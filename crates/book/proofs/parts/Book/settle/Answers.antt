use Rattle.list.specs.View.{left}
use Rattle.book.proofs.Fresh.{replaces_all}
use Rattle.book.proofs.parts.Book.settle.Goals as goal

pub returns-in-Sync : goal.returns-in-Sync
returns-in-Sync c =
    replaces_all c.args.kind _ (left c.args.list) c.args.self.now _ c.in-Sync.is c.clear.ensures c.requires c.absorb.ensures
