-- The test of two unique IDs tells them apart. Assumes nothing.
use Rattle.std.proofs.Common.{◌&&◌, eqb, ap}
use Rattle.std.proofs.lemmas.Bool.Decides.{Decides-eqb, Decides-and, Decides-like}
use Rattle.keys.specs.Keys.{Test}
use Rattle.event.specs.Sources.{same_id}

-- unique IDs are told apart by `same_id`
pub same_id_test : Test same_id
same_id_test u v =
    Decides-like (same_id u v)
    (λ h i. record { identifier = h.0 i; scope = h.1.0 i; info = h.1.1 i })
    (λ e. (ap (λ w. w.identifier) e, (ap (λ w. w.scope) e, ap (λ w. w.info) e)))
    (Decides-and (eqb u.identifier v.identifier) (eqb u.scope v.scope && eqb u.info v.info) (Decides-eqb u.identifier v.identifier) (Decides-and (eqb u.scope v.scope) (eqb u.info v.info) (Decides-eqb u.scope v.scope) (Decides-eqb u.info v.info)))
