-- What the reader's thread sends.
use Rattle.std.specs.Prelude.{◌≡◌, ℕ, ◌+◌, ◌<◌, ◌≤◌, ◌^◌, List, [], ◌∷◌, ◌++◌, length, Option, Bool, true, false}
use Rattle.std.specs.Io.KnownBytes.{prepend_known, IsAtEnd}
use Rattle.tox_link.specs.declared.ring.message.Message.{Message}
use Rattle.tox_link.specs.declared.ring.message.Message.TheVariants.{Piece, End}
use Rattle.tox_link.specs.declared.ring.message.ReadEnd.{ReadEnd}
use Rattle.tox_link.specs.declared.ring.message.ReadEnd.TheVariants.{Eof, ReadFault, ReadsUsedUp, TooManyBytes, OutOfMemory}

-- the bytes of the pieces, joined
abbrev pub bytes_of : List Message → List ℕ
bytes_of [] = []
bytes_of (Piece piece ∷ messages) = piece.items ++ bytes_of messages
bytes_of (End end ∷ messages) = bytes_of messages

-- no message is an end
abbrev pub ArePieces : List Message → Type 0
ArePieces [] = Unit {0}
ArePieces (Piece piece ∷ messages) = ArePieces messages
ArePieces (End end ∷ messages) = ⊥

-- whether an end is among the messages
abbrev pub has_end : List Message → Bool
has_end [] = false
has_end (Piece piece ∷ messages) = has_end messages
has_end (End end ∷ messages) = true

-- a nonempty piece of at most 16,384 bytes may come after pieces, up to 2^40 bytes in all, and an end after pieces
abbrev pub Allows : List Message → Message → Type 0
Allows before (Piece piece) =
    ArePieces before × (0 < length piece.items) × (length (bytes_of before) + length piece.items ≤ 2 ^ 40) × (length piece.items ≤ 16_384)
Allows before (End end) = ArePieces before

-- what was read and not sent: one piece too many, or one for which there was no memory
abbrev pub IsUnsent : ReadEnd → List ℕ → List ℕ → Type 0
IsUnsent Eof bytes unsent = unsent ≡ []
IsUnsent ReadFault bytes unsent = unsent ≡ []
IsUnsent ReadsUsedUp bytes unsent = unsent ≡ []
IsUnsent TooManyBytes bytes unsent = 2 ^ 40 < length (bytes ++ unsent)
IsUnsent OutOfMemory bytes unsent = Unit {0}

-- the bytes sent, then what was read and not sent, then what is left, are what there was to give
abbrev pub HandsOn : Option (List ℕ) → List ℕ → ReadEnd → Option (List ℕ) → Type 0
HandsOn before bytes end after = (unsent : List ℕ) × (before ≡ prepend_known (bytes ++ unsent) after) × IsUnsent end bytes unsent

-- why the reading ended, after so many bytes
abbrev pub EndsFor : ReadEnd → ℕ → ℕ → Option (List ℕ) → Bool → Type 0
EndsFor Eof reads count left failed = IsAtEnd left
EndsFor ReadFault reads count left failed = failed ≡ true
EndsFor ReadsUsedUp reads count left failed = reads ≤ count
EndsFor TooManyBytes reads count left failed = Unit {0}
EndsFor OutOfMemory reads count left failed = Unit {0}

-- pieces, and then how the reading ended
abbrev pub IsEndedBy : ReadEnd → List Message → Type 0
IsEndedBy end messages = (pieces : List Message) × (messages ≡ pieces ++ End end ∷ []) × ArePieces pieces

-- a reading of at most `reads` reads sent these messages of what there was to give, ended so, and left this
pub record ReadsFrom (before : Option (List ℕ)) (reads : ℕ) (messages : List Message) (end : ReadEnd) (left : Option (List ℕ)) (failed : Bool) : Type 0 where
  pub ended : IsEndedBy end messages
  pub hands_on : HandsOn before (bytes_of messages) end left
  pub cause : EndsFor end reads (length (bytes_of messages)) left failed
  -- each read sent at most one piece, and the end comes behind; where the reads were used up, each sent one
  pub few : length messages ≤ reads + 1
  pub spent : end ≡ ReadsUsedUp → length messages ≡ reads + 1

-- these are the first messages that such a reading sent
pub record AreFirstOf (before : Option (List ℕ)) (reads : ℕ) (taken : List Message) (left : Option (List ℕ)) (failed : Bool) : Type 0 where
  pub others : List Message
  pub end : ReadEnd
  pub sent : ReadsFrom before reads (taken ++ others) end left failed
