use Rattle.std.proofs.Common.{sym, ◌∙◌, arith}
use Rattle.std.proofs.lemmas.Nat.{one_shl}
use Rattle.std.proofs.lemmas.Bool.{lt-ltb, cond-true}
use Rattle.marks.proofs.Shown.{marked_more}
use Rattle.marks.proofs.types.Marks.mark.Goals as goal

pub returns-clause-after : goal.returns-clause-after
returns-clause-after c =
    marked_more _ _ c.args.self.now.readings c.args.place c.args.reading (omega arith) (one_shl c.args.place 64 (omega arith))
    ∙ sym (cond-true _ _ _ (lt-ltb c.args.place 64 (omega arith)))
