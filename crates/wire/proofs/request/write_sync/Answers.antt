use Rattle.std.proofs.Common.{◌≡◌, true, false, nat_eq, sym, ◌∙◌, rules}
use Rattle.keys.specs.Keys.{twice}
use Rattle.wire.specs.Writing.{identifiers}
use Rattle.wire.proofs.request.write_sync.Goals as goal

pub returns-then-names_twice : goal.returns-then-names_twice
returns-then-names_twice c = let twice : twice nat_eq (identifiers c.args.items.now) ≡ true = sym c.names_twice.ensures ∙ c.if-names_twice.true in search rules

pub returns : goal.returns
returns c = let once : twice nat_eq (identifiers c.args.items.now) ≡ false = sym c.names_twice.ensures ∙ c.if-names_twice.false in search rules
