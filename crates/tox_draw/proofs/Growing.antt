-- A text that grows in several steps.
use Rattle.std.proofs.Common.{ℕ, List, ◌++◌, ap, ◌∙◌, append_assoc, string_bytes, Result, Ok, Err, OnOk}
use Rattle.std.specs.declared.string.String.{String}
use Rattle.std.specs.declared.alloc.Global.{Global}
use Rattle.std.specs.declared.alloc.AllocError.{AllocError}
use Rattle.tox_draw.specs.Adding.{AddsText}

-- one part, and then another
pub adds_both : (old mid new : String Global) (a b : List ℕ) → AddsText old mid a → AddsText mid new b → AddsText old new (a ++ b)
adds_both old mid new a b before after =
    record { added = after.added ∙ ap (λ text. text ++ b) before.added ∙ append_assoc (string_bytes old) a b }

-- one part, and then another, unless memory is refused
pub adds_then : {A : Type 0} (result : Result A AllocError) (old mid new : String Global) (a b : List ℕ)
    → AddsText old mid a → OnOk result (AddsText mid new b) → OnOk result (AddsText old new (a ++ b))
adds_then (Ok done) old mid new a b before after = adds_both old mid new a b before after
adds_then (Err error) old mid new a b before after = after
