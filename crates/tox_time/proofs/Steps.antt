-- Steps that all went well.
use Rattle.std.proofs.Common.{◌≡◌, Bool, true, false, cond, Option, Some, None, Result, Ok, Err, ok_or, refl}
use Rattle.tox_time.specs.Steps.{◌>>=◌, map_err}

-- the step before had a value
pub bind_ok : {A B E : Type 0} (r : Result A E) (f : A → Result B E) (y : B) → (r >>= f) ≡ Ok y → (x : A) × (r ≡ Ok x) × (f x ≡ Ok y)
bind_ok (Ok x) f y is = (x, refl, is)
bind_ok (Err e) f y is = absurd (cc)

-- other words for an error change no value
pub map_err_ok : {A E F : Type 0} (words : E → F) (r : Result A E) (x : A) → map_err words r ≡ Ok x → r ≡ Ok x
map_err_ok words (Ok y) x is = let same : y ≡ x = cc in rw same refl
map_err_ok words (Err e) x is = absurd (cc)

-- there was a value
pub ok_or_ok : {A E : Type 0} (o : Option A) (e : E) (x : A) → ok_or o e ≡ Ok x → o ≡ Some x
ok_or_ok (Some y) e x is = let same : y ≡ x = cc in rw same refl
ok_or_ok None e x is = absurd (cc)

-- a step with a value, and the next with one
pub bind_from : {A B E : Type 0} (r : Result A E) (f : A → Result B E) (x : A) (y : B) → r ≡ Ok x → f x ≡ Ok y → (r >>= f) ≡ Ok y
bind_from (Ok z) f x y is gives = let same : z ≡ x = cc in rw same gives
bind_from (Err e) f x y is gives = absurd (cc)

-- a value that passed
pub passing_some : {A : Type 0} (x y : A) (test : Bool) → cond test (Some x) None ≡ Some y → (test ≡ true) × (x ≡ y)
passing_some x y true is = (refl, cc)
passing_some x y false is = absurd (cc)
