use Rattle.std.proofs.Common.{◌≡◌, ◌-◌, leb, ◌∷◌, length, sym, ◌∙◌, rules}
use Rattle.std.proofs.lemmas.Option.{cond_some}
use Rattle.event.specs.Sources.{occurrence}
use Rattle.list.specs.Lists.{fronts}
use Rattle.list.proofs.Passed.{not_passed}
use Rattle.list.proofs.Steps.{fronts-none, fronts_end, fronts_more, no_front, front_by_length}
use Rattle.list.proofs.next.OccurrencesIterator.next.Goals as goal

pub returns-in_err-number-clause-steps : goal.returns-in_err-number-clause-steps
returns-in_err-number-clause-steps c =
    let e = fronts-none c.args.self.now.number c.args.self.now.rest.now (search rules) in
    rw c.from_residual.ensures (e, e)

pub returns-in_err-found-clause-steps : goal.returns-in_err-found-clause-steps
returns-in_err-found-clause-steps c =
    let bytes = c.args.self.now.rest.now in
    let e = fronts_end c.args.self.now.number bytes (no_front bytes c.in_err-found.ensures) in
    rw c.from_residual-in_err-found.ensures (e, e)

pub returns-in_err-reading-clause-steps : goal.returns-in_err-reading-clause-steps
returns-in_err-reading-clause-steps c =
    let bytes = c.args.self.now.rest.now in
    let f = c.in_ok-found.found in
    let long = not_passed (leb (length f.reading.now) 64) f.reading.now (sym c.in_err-reading.ensures) in
    let e = fronts_end c.args.self.now.number bytes (front_by_length bytes f c.in_ok-found.ensures ∙ long) in
    rw c.from_residual-in_err-reading.ensures (e, e)

pub returns-clause-steps : goal.returns-clause-steps
returns-clause-steps c =
    let bytes = c.args.self.now.rest.now in
    let n = c.args.self.now.number in
    let f = c.in_ok-found.found in
    let begins = c.in_ok-found.ensures in
    let taken = cond_some (leb (length f.reading.now) 64) f.reading.now _ (sym c.in_ok-reading.ensures) in
    let less : n - 1 ≡ c.in_ok-number.number = search rules in
    let id = sym begins.id in
    let reading = sym begins.reading ∙ taken.1 in
    let rest = sym begins.rest in
    fronts_more n bytes (search rules) (front_by_length bytes f begins ∙ taken.0) ∙ (λ i. occurrence (id i) (reading i) ∷ fronts (less i) (rest i))
