-- What a result was before its error was reported in other words.
use Rattle.std.proofs.Common.{◌≡◌, Result, Ok, Err, refl}
use Rattle.std.specs.Result.{IsErrAnd, MatchResult}

-- it was the same value
pub ok_before : {A E F : Type 0} (r : Result A E) (s : Result A F) (Q : E → F → Type 0) (x : A) → MatchResult r (λ y. s ≡ Ok y) (λ e. IsErrAnd s (Q e))
    → s ≡ Ok x → r ≡ Ok x
ok_before (Ok y) s Q x cases is = cc
ok_before (Err e) (Ok y) Q x cases is = absurd cases
ok_before (Err e) (Err f) Q x cases is = absurd (cc)

-- it was an error that the words tell
pub err_before : {A E F : Type 0} (r : Result A E) (s : Result A F) (Q : E → F → Type 0) (fault : F) → MatchResult r (λ y. s ≡ Ok y) (λ e. IsErrAnd s (Q e))
    → s ≡ Err fault → (e : E) × (r ≡ Err e) × Q e fault
err_before (Ok y) s Q fault cases is = absurd (cc)
err_before (Err e) (Ok y) Q fault cases is = absurd cases
err_before (Err e) (Err f) Q fault cases is = let same : f ≡ fault = cc in (e, refl, rw (← same) cases)
