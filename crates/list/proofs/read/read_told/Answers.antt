use Rattle.std.proofs.Common.{arith}
use Rattle.std.proofs.lemmas.Bool.Decides.{nat_tests}
use Rattle.list.specs.Reader.{read_told}
use Rattle.list.proofs.read.read_told.Goals as goal

pub returns-then-is_empty : goal.returns-then-is_empty
unfolding read_told
returns-then-is_empty c = grind (arith, nat_tests)

pub returns-then-lawful_body : goal.returns-then-lawful_body
unfolding read_told
returns-then-lawful_body c = grind (arith, nat_tests)

pub returns-else-info-body : goal.returns-else-info-body
unfolding read_told
returns-else-info-body c = grind (arith, nat_tests)
