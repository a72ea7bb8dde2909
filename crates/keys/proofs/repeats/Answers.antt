use Rattle.std.proofs.Common.{◌≡◌, ◌≢◌, ℕ, ◌<◌, Bool, true, false, List, length, take, slice_index_or, slice_set, is_some, Option, Some, None, sym, ap, ◌∙◌, ⊎_elim, below_more, arith, length-take, length-set, get_or-set_same, get_or-set_other}
use Rattle.std.proofs.lemmas.Bool.{both_ways, cases_eq}
use Rattle.std.proofs.lemmas.List.{get_or-take, get_or_default}
use Rattle.keys.specs.Keys.{Test, Sought, twice}
use Rattle.keys.proofs.Rows.{apart_once, places_twice}
use Rattle.keys.proofs.repeats.Goals as goal
use Rattle.keys.proofs.repeats.Goals.{else-met-bucket-via-then-met-bucket+else-is_some, else-met-bucket-via-else-met-bucket}

-- a key that is found before its place stands twice
found_twice : {K : Type 0} (same : K → K → Bool) → Test same → (keys : List K) (i : ℕ) (key : K) (r : Option ℕ) → i < length keys → key ≡ slice_index_or keys i key → Sought (take i keys) key r → is_some r ≡ true → twice same keys ≡ true
found_twice same test keys i key None inside at sought found = cc
found_twice same test keys i key (Some place) inside at first found =
    let before : place < i = omega (arith, first.inside, length-take i keys) in
    places_twice same test keys place i before inside
    (λ d. sym (get_or-take i keys place d before) ∙ first.here d ∙ at ∙ get_or_default keys i key d inside)

-- a key that is not found before a place stands nowhere before it
not_found : {K : Type 0} (keys : List K) (i : ℕ) (key : K) (r : Option ℕ) → i < length keys → Sought (take i keys) key r → is_some r ≡ false → (j : ℕ) → j < i → (d : K) → slice_index_or keys j d ≢ key
not_found keys i key None inside nowhere found j before d e =
    nowhere j d (omega (arith, length-take i keys)) (get_or-take i keys j d before ∙ e)
not_found keys i key (Some place) inside first found j before d e = cc

-- a bucket that is met stays so
stays_met : (met : List Bool) (bucket other : ℕ) → bucket < length met → slice_index_or met other false ≡ true → slice_index_or (slice_set met bucket true) other false ≡ true
stays_met met bucket other inside e =
    ⊎_elim
    (λ same. ap (λ k. slice_index_or (slice_set met bucket true) k false) same ∙ get_or-set_same met bucket true false inside)
    (λ apart. get_or-set_other met bucket other true false apart ∙ e)
    (cases_eq other bucket)

pub returns-then-is_some : goal.returns-then-is_some
returns-then-is_some g c = λ same test.
    sym (found_twice same test c.args.keys.now c.loop-i.i _ _ c.loop-i-test.true c.index-keys-i.is c.find.ensures (sym c.is_some.ensures ∙ c.if-is_some.true))

pub loop-i-preserved : goal.loop-i-preserved
loop-i-preserved g c =
    let K = g.row.K.Denot in
    let keys : List K = c.args.keys.now in
    let i : ℕ = c.loop-i.i in
    let key : K = c.index-keys-i.result in
    let bucket : K → ℕ = g.K.Key.bucket in
    let place : ℕ = c.from-bucket.result in
    let is : place ≡ bucket key = c.from-bucket.ensures ∙ c.bucket.ensures in
    let inside : place < length c.loop-i.met = omega arith in
    let at : (d : K) → slice_index_or keys i d ≡ key = λ d. get_or_default keys i d key c.loop-i-test.true ∙ sym c.index-keys-i.is in
    let new : (j : ℕ) → j < i → (d : K) → slice_index_or keys j d ≢ key =
    elim c.else-met-bucket.branch [
      | else-met-bucket-via-then-met-bucket+else-is_some w ↦ not_found keys i key _ c.loop-i-test.true w.find.ensures (sym w.is_some.ensures ∙ w.if-is_some.false)
      | else-met-bucket-via-else-met-bucket w ↦ λ j l d e.
          both_ways _ w.if-met-bucket.false (ap (λ q. slice_index_or c.loop-i.met q false) (is ∙ ap bucket (sym e)) ∙ c.loop-i.invariant.met j l d)
    ] in
    record {
      places = length-set c.loop-i.met place true ∙ c.loop-i.invariant.places;
      met = below_more _ _
          (λ k l d. stays_met c.loop-i.met place (bucket (slice_index_or keys k d)) inside (c.loop-i.invariant.met k l d))
          (λ d. ap (λ q. slice_index_or (slice_set c.loop-i.met place true) q false) (ap bucket (at d) ∙ sym is) ∙ get_or-set_same c.loop-i.met place true false inside);
      apart = below_more _ _ c.loop-i.invariant.apart (λ j l d e. new j l d (e ∙ at d));
    }

pub returns : goal.returns
returns g c = λ same test. sym (apart_once same test c.args.keys.now (λ k m. c.loop-i.invariant.apart k (omega (arith, c.loop-i-test.false))))
