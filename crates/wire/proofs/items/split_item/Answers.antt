use Rattle.std.proofs.Common.{◌≡◌, ℕ, ◌∷◌, drop, sym, ap, ◌∙◌, rules, tests}
use Rattle.std.proofs.lemmas.List.{take_rest}
use Rattle.event.specs.Bytes.{Bytes, byte}
use Rattle.wire.specs.Requests.{item_at, items_in}
use Rattle.wire.proofs.Stepped.{in_none, in_more}
use Rattle.wire.proofs.items.split_item.Goals as goal
use Rattle.wire.proofs.items.split_item.Goals.{in_default-via-then-part-lt3, in_default-via-else-part-lt3+then-part-lt3-2}

pub returns-in_default : goal.returns-in_default
returns-in_default c =
    elim c.in_default.branch [
      | in_default-via-then-part-lt3 w ↦ in_none c.args.part.now (λ low high. search (rules, tests))
      | in_default-via-else-part-lt3+then-part-lt3-2 w ↦ in_none c.args.part.now (λ low high. search (rules, tests))
    ]

pub returns-in_err-rest : goal.returns-in_err-rest
returns-in_err-rest c = rw c.from_residual.ensures (in_none c.args.part.now (λ low high. search rules))

pub returns : goal.returns
returns c =
    let part = c.args.part.now in
    let rest : c.in_ok-rest.rest.now ≡ drop (byte part 0) part =
    c.in_ok-rest.ensures.lookup.0.2 ∙ take_rest part c.from.result ∙ ap (λ (k : ℕ). drop k part) c.from.ensures in
    λ n. in_more part (search rules) (search rules) n ∙ ap (λ (r : Bytes). item_at part ∷ items_in n r) (sym rest)
