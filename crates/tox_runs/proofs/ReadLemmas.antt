-- What a reader gave in several reads.
use Rattle.std.proofs.Common.{◌≡◌, ℕ, ◌≤◌, List, ◌++◌, length, Option, Some, None, refl, ap, sym, ◌∙◌, append_assoc}
use Rattle.std.specs.Io.KnownBytes.{prepend_known}
use Rattle.tox_runs.specs.runs.Reading.{TakesAtMost}

prepend_known-append : (xs ys : List ℕ) (known : Option (List ℕ)) → prepend_known xs (prepend_known ys known) ≡ prepend_known (xs ++ ys) known
prepend_known-append xs ys None = refl
prepend_known-append xs ys (Some zs) = ap Some (sym (append_assoc xs ys zs))

-- one read more
pub TakesAtMost-read : (most : ℕ) (first before after : Option (List ℕ)) (text bytes : List ℕ) → first ≡ prepend_known text before
    → before ≡ prepend_known bytes after → length (text ++ bytes) ≤ most → TakesAtMost most first after
TakesAtMost-read most first before after text bytes given read few =
    record { taken = text ++ bytes; given = given ∙ ap (prepend_known text) read ∙ prepend_known-append text bytes after; few = few }
