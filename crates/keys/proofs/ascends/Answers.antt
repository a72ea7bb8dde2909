use Rattle.std.proofs.Common.{◌≡◌, subst, sym, rules}
use borrow.Author.Tests.{tests}
use Rattle.std.proofs.lemmas.Fn.{always_returns_same}
use Rattle.std.specs.List.{IsAllAdjacentAnswer}
use Rattle.std.specs.Ordering.{is_lt}
use Rattle.keys.proofs.Ascending.{less, total, ascends_apart}
use Rattle.keys.proofs.ascends.Goals as goal

pub returns : goal.returns
returns g c = λ same test yes.
    let keys = c.args.keys.now in
    let asked = c.is_sorted_by.ensures.cases (λ x y. is_lt (g.K.Key.order x y)) (always_returns_same _ _ _ (λ a r f k. (search (rules, tests), search (rules, tests)))) in
    let each = subst (λ r. IsAllAdjacentAnswer (λ x y b. b ≡ is_lt (g.K.Key.order x y)) keys r) yes asked in
    ascends_apart (total g.K.Key.order g.met.K.Key.same g.met.K.Key.turned g.met.K.Key.chain) same test keys (λ i d l. less _ (sym (each i d l)))
