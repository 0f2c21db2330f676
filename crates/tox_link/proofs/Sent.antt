-- Messages sent one after the other.
use Rattle.std.proofs.Common.{◌≡◌, ℕ, List, [], ◌∷◌, ◌++◌, Option, Some, None, refl, ap, sym, ◌∙◌, append_assoc, append-nil}
use Rattle.std.specs.Io.KnownBytes.{prepend_known}
use Rattle.tox_link.specs.declared.ring.message.Message.{Message}
use Rattle.tox_link.specs.declared.ring.message.Message.TheVariants.{Piece, End}
use Rattle.tox_link.specs.declared.ring.message.ReadEnd.{ReadEnd}
use Rattle.tox_link.specs.ring.Messages.{bytes_of, ArePieces}

pub bytes_of-append : (xs ys : List Message) → bytes_of (xs ++ ys) ≡ bytes_of xs ++ bytes_of ys
bytes_of-append [] ys = refl
bytes_of-append (Piece piece ∷ xs) ys = ap (λ bytes. piece.items ++ bytes) (bytes_of-append xs ys) ∙ sym (append_assoc piece.items (bytes_of xs) (bytes_of ys))
bytes_of-append (End end ∷ xs) ys = bytes_of-append xs ys

pub pieces-append : (xs ys : List Message) → ArePieces xs → ArePieces ys → ArePieces (xs ++ ys)
pieces-append [] ys first second = second
pieces-append (Piece piece ∷ xs) ys first second = pieces-append xs ys first second
pieces-append (End end ∷ xs) ys first second = absurd first

-- bytes before bytes before what is left
pub prepend-append : (xs ys : List ℕ) (known : Option (List ℕ)) → prepend_known (xs ++ ys) known ≡ prepend_known xs (prepend_known ys known)
prepend-append xs ys None = refl
prepend-append xs ys (Some zs) = ap Some (append_assoc xs ys zs)

pub prepend_more : (xs ys : List ℕ) (before between after : Option (List ℕ)) → before ≡ prepend_known xs between → between ≡ prepend_known ys after
    → before ≡ prepend_known (xs ++ ys) after
prepend_more xs ys before between after first second = first ∙ ap (prepend_known xs) second ∙ sym (prepend-append xs ys after)

-- the bytes after one more message
pub sent_more : (xs ys : List Message) (message : Message) (bytes : List ℕ) → ys ≡ xs ++ message ∷ [] → bytes_of (message ∷ []) ≡ bytes
    → bytes_of ys ≡ bytes_of xs ++ bytes
sent_more xs ys message bytes more one = ap bytes_of more ∙ bytes_of-append xs (message ∷ []) ∙ ap (λ bytes. bytes_of xs ++ bytes) one

-- an end has no bytes
pub sent_end : (xs ys : List Message) (end : ReadEnd) → ys ≡ xs ++ End end ∷ [] → bytes_of ys ≡ bytes_of xs
sent_end xs ys end more = sent_more xs ys (End end) [] more refl ∙ append-nil (bytes_of xs)
