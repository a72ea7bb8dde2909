use Rattle.std.proofs.Common.{◌≡◌, ◌%◌, false, length, rules}
use Rattle.std.proofs.lemmas.Bool.{eq-eqb, ne_eqb}
use Rattle.event.specs.Bytes.{byte, within}
use Rattle.wire.proofs.read.read_asked.Goals as goal

pub returns-then-not-contains : goal.returns-then-not-contains
returns-then-not-contains c = let other : within 25 4224 (length c.args.bytes.now) ≡ false = search rules in record { said = rw other; list = search rules }

pub returns-then-bytes-ne0-clause-said : goal.returns-then-bytes-ne0-clause-said
returns-then-bytes-ne0-clause-said c = let flags = ne_eqb (byte c.args.bytes.now 2 % 4) 0 c.if-bytes-ne0.true in search rules

pub returns-clause-said : goal.returns-clause-said
returns-clause-said c = let flags = eq-eqb (byte c.args.bytes.now 2 % 4) 0 c.if-bytes-ne0.false in search rules
