-- What a push adds to the heap, it adds to the timers.
use Rattle.std.proofs.Common.{◌≡◌, ap, map, Bool, Result, Ok, Err, MatchBool, OnOk, OnErr, is_ok}
use Rattle.std.proofs.lemmas.List.Sorted.{IsPermutation-map}
use Rattle.tox_serve.proofs.workers.timers.Timers.set.Goals as goal

by_result : {T E P Q P' Q' : Type 0} (r : Result T E) (b : Bool) → b ≡ is_ok r
    → (P → P') → (Q → Q') → OnOk r P → OnErr r Q → MatchBool b P' Q'
by_result (Ok x) b same good bad ok err = rw same (good ok)
by_result (Err e) b same good bad ok err = rw same (bad err)

pub returns : goal.returns
returns c = rw (← c.of.ensures)
    (by_result c.push.result c.is_ok.result c.is_ok.ensures.value
    (λ more. IsPermutation-map (λ reversed. reversed.0) _ _ more)
    (λ same. ap (map (λ reversed. reversed.0)) same.0)
    c.push.ensures.permutation c.push.ensures.unchanged)
