use Rattle.std.proofs.Common.{sym, ◌∙◌}
use Rattle.std.proofs.lemmas.Bool.{le-ltb}
use Rattle.marks.proofs.Shown.{far_bit}
use Rattle.marks.proofs.marking.is_set.Goals as goal

pub returns-else-place-lt64-clause-is : goal.returns-else-place-lt64-clause-is
returns-else-place-lt64-clause-is c =
    let far = c.if-place-lt64.false in
    le-ltb c.args.place 64 far ∙ sym (far_bit c.args.set c.args.place c.ranges.set.fits far)
