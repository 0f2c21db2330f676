-- Bytes that a file took, one write behind the other.
use Rattle.std.proofs.Common.{◌≡◌, ℕ, ◌+◌, ◌-◌, ◌≤◌, List, [], ◌++◌, Option, None, Some, length, take, drop, ap, sym, ◌∙◌, subst, take-add, arith}
use Rattle.std.specs.Io.KnownBytes.{Appends, Keeps}
use Rattle.std.proofs.KnownBytes.{Appends-trans}
use Rattle.std.proofs.lemmas.List.{length-drop, take_all}

-- the next bytes of those that are left
pub appends-more : (old mid new : Option (List ℕ)) (bytes : List ℕ) (done count : ℕ) → Appends old mid (take done bytes)
    → Appends mid new (take count (take (length bytes - done) (drop done bytes))) → Appends old new (take (done + count) bytes)
appends-more old mid new bytes done count first second =
    let all : take (length bytes - done) (drop done bytes) ≡ drop done bytes =
    take_all (length bytes - done) (drop done bytes) (omega (arith, length-drop done bytes)) in
    let joined : take done bytes ++ take count (take (length bytes - done) (drop done bytes)) ≡ take (done + count) bytes =
    ap (λ rest. take done bytes ++ take count rest) all ∙ sym (take-add done count bytes) in
    let P : List ℕ → Type 0 = Appends old new in
    subst P joined (Appends-trans old mid new (take done bytes) (take count (take (length bytes - done) (drop done bytes))) first second)

-- no more bytes
pub appends-none : (old mid new : Option (List ℕ)) (bytes : List ℕ) → Appends old mid bytes → Keeps mid new → Appends old new bytes
appends-none None mid new bytes first kept = tt
appends-none (Some x) None new bytes first kept = absurd first
appends-none (Some x) (Some y) None bytes first kept = absurd kept
appends-none (Some x) (Some y) (Some z) bytes first kept = kept ∙ first
