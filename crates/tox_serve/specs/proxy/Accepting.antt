-- What follows a failed accept.
use Rattle.std.specs.Prelude.{Bool, false, ℤ, pos, [], ◌∷◌, Option, None, Some, if◌then◌else◌}
use Rattle.std.specs.List.{list_any}
use Rattle.std.specs.Ordering.{int_eq}
use Rattle.std.specs.declared.io.ErrorKind.{ErrorKind}
use Rattle.std.specs.declared.io.ErrorKind.TheVariants.{Interrupted, ConnectionAborted, ConnectionReset, HostUnreachable, NetworkUnreachable, NetworkDown}
use Rattle.std.specs.declared.io.ErrorKind.TheVariants.{WouldBlock}
use Rattle.std.specs.declared.io.ErrorKind.TheVariants as kind
use Rattle.tox_serve.specs.declared.proxy.accepting.Next.{Next}
use Rattle.tox_serve.specs.declared.proxy.accepting.Next.TheVariants.{TryAgain, Rest, GiveUp}

-- a connection that broke before it was accepted, by Linux's codes
abbrev pub has_broken : ℤ → Bool
has_broken code =
    list_any (λ known. int_eq known code)
    (pos 1 ∷ pos 64 ∷ pos 71 ∷ pos 92 ∷ pos 95 ∷ pos 110 ∷ pos 112 ∷ [])

-- a lack of descriptors, in the process or the system, of buffers or of streams
abbrev pub is_lack_code : ℤ → Bool
is_lack_code code =
    list_any (λ known. int_eq known code) (pos 24 ∷ pos 23 ∷ pos 105 ∷ pos 63 ∷ [])

-- a call failed for such a lack
abbrev pub is_lack_of : Option ℤ → Bool
is_lack_of None = false
is_lack_of (Some code) = is_lack_code code

-- what follows a failure of no kind of its own
abbrev pub next_of_code : Option ℤ → Next
next_of_code None = GiveUp
next_of_code (Some code) =
    if has_broken code then TryAgain else (if is_lack_code code then Rest else GiveUp)

-- what follows a failure: a momentary one is tried again, at a lack after a rest
abbrev pub next_of : ErrorKind → Option ℤ → Next
next_of Interrupted code = TryAgain
next_of ConnectionAborted code = TryAgain
next_of ConnectionReset code = TryAgain
next_of HostUnreachable code = TryAgain
next_of NetworkUnreachable code = TryAgain
next_of NetworkDown code = TryAgain
next_of kind.OutOfMemory code = Rest
next_of WouldBlock code = Rest
next_of _ code = next_of_code code
