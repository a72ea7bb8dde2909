use Rattle.std.proofs.Common.{take, ◌∙◌, rules}
use Rattle.std.proofs.lemmas.List.{take_rest}
use Rattle.wire.specs.Requests.{kind_of}
use Rattle.wire.proofs.read.read_enable_list.Goals as goal

pub returns-then-not-items_fit : goal.returns-then-not-items_fit
returns-then-not-items_fit c = let e = take_rest c.args.bytes.now 16 in record { said = search rules; list = tt }

pub returns-then-bytes-eq0-clause-said : goal.returns-then-bytes-eq0-clause-said
unfolding kind_of
returns-then-bytes-eq0-clause-said c = let e = take_rest c.args.bytes.now 16 in search rules

pub returns-then-bytes-eq0-clause-list : goal.returns-then-bytes-eq0-clause-list
returns-then-bytes-eq0-clause-list c =
    let e = take_rest c.args.bytes.now 16 in
    let total = c.from-total.ensures ∙ c.from_le_bytes.ensures in
    λ i. take (total i) (e i)

pub returns : goal.returns
unfolding kind_of
returns c = let e = take_rest c.args.bytes.now 16 in record { said = search rules; list = tt }
