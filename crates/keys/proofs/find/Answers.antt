use Rattle.std.proofs.Common.{◌≡◌, ◌≢◌, ℕ, ◌<◌, true, false, List, length, Option, Some, None, MatchOption, sym, rules, arith}
use borrow.Author.Tests.{tests}
use Rattle.std.proofs.lemmas.Bool.{both_ways}
use Rattle.std.proofs.lemmas.Iterator.{YieldsList-from_slice, IsFirst-from_position}
use Rattle.std.specs.List.{AllWithin, HoldsAt}
use Rattle.std.specs.Ordering.{is_eq}
use Rattle.keys.specs.Keys.{Sought}
use Rattle.keys.proofs.find.Goals as goal

-- the first place at which a test that tells the key holds
sought : {K : Type 0} (keys : List K) (key : K) (r : Option ℕ) → MatchOption r (AllWithin (λ x. x ≢ key) keys 0 (length keys)) (λ i. (i < length keys) × HoldsAt (λ x. x ≡ key) keys i × AllWithin (λ x. x ≢ key) keys 0 i) → Sought keys key r
sought keys key None none = λ k d l. none k d (omega arith) l
sought keys key (Some place) first = record { inside = first.0; here = first.1; before = λ k d l. first.2 k d (omega arith) l }

pub returns : goal.returns
returns g c =
    let key = c.args.key.now in
    sought c.args.keys.now key c.position.result
    (IsFirst-from_position _ _ c.position.result (λ x. x ≡ key) (λ x. x ≢ key) c.position.ensures.ran
    (YieldsList-from_slice c.args.keys.now (cc))
    (λ x q k. let e : true ≡ is_eq (g.K.Key.order x.now key) = search (rules, tests) in (g.met.K.Key.same x.now key).0 (sym e))
    (λ x q k. let e : false ≡ is_eq (g.K.Key.order x.now key) = search (rules, tests) in (search (rules, tests), λ same. both_ways _ (sym e) ((g.met.K.Key.same x.now key).1 same))))
