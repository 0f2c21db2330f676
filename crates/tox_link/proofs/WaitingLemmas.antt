-- Pieces that wait, as chunks.
use Rattle.std.proofs.Common.{◌≡◌, ℕ, ◌+◌, ◌<◌, ◌≤◌, List, [], ◌∷◌, ◌++◌, refl, ap, ◌∙◌, arith}
use Rattle.tox_time.specs.declared.streams.item.Item.{Item}
use Rattle.tox_time.specs.declared.streams.item.Item.TheVariants.{Chunk}
use Rattle.tox_link.specs.declared.link_core.waiting.WaitingPiece.{WaitingPiece}
use Rattle.tox_link.specs.link_core.Core.{arrivals_from}
use Rattle.tox_link.specs.link_core.CoreKept.{total_len, AreTimely}

-- the piece as a chunk from a position on
abbrev pub chunk_from : ℕ → WaitingPiece → Item
chunk_from start piece = Chunk (record { start = start; stop = start + piece.len }) piece.instant

pub arrivals_from-append : (start : ℕ) (pieces : List WaitingPiece) (piece : WaitingPiece) (items : List Item)
    → arrivals_from start (pieces ++ piece ∷ []) items ≡ arrivals_from start pieces (chunk_from (start + total_len pieces) piece ∷ items)
arrivals_from-append start [] piece items = let same : start + 0 ≡ start = omega arith in rw same refl
arrivals_from-append start (first ∷ pieces) piece items =
    let same : (start + first.len) + total_len pieces ≡ start + (first.len + total_len pieces) = omega arith in
    ap (λ items. chunk_from start first ∷ items)
    (arrivals_from-append (start + first.len) pieces piece items ∙ ap (λ at. arrivals_from (start + first.len) pieces (chunk_from at piece ∷ items)) same)

pub total_len-append : (pieces : List WaitingPiece) (piece : WaitingPiece) → total_len (pieces ++ piece ∷ []) ≡ total_len pieces + piece.len
total_len-append [] piece = omega arith
total_len-append (first ∷ pieces) piece = let rest = total_len-append pieces piece in omega (arith, rest)

pub timely-append : (since until : ℕ) (pieces : List WaitingPiece) (piece : WaitingPiece) → AreTimely since pieces until → until ≤ piece.instant → 0 < piece.len
    → AreTimely since (pieces ++ piece ∷ []) piece.instant
timely-append since until [] piece timely later some = (omega (arith, timely, later), some, omega arith)
timely-append since until (first ∷ pieces) piece timely later some = (timely.0, timely.1, timely-append first.instant until pieces piece timely.2 later some)

pub timely-earlier : (earlier since until : ℕ) (pieces : List WaitingPiece) → earlier ≤ since → AreTimely since pieces until → AreTimely earlier pieces until
timely-earlier earlier since until [] before timely = omega (arith, before, timely)
timely-earlier earlier since until (first ∷ pieces) before timely = (omega (arith, before, timely.0), timely.1, timely.2)

pub timely-later : (since until later : ℕ) (pieces : List WaitingPiece) → until ≤ later → AreTimely since pieces until → AreTimely since pieces later
timely-later since until later [] after timely = omega (arith, after, timely)
timely-later since until later (first ∷ pieces) after timely = (timely.0, timely.1, timely-later first.instant until later pieces after timely.2)

pub timely-below : (since until : ℕ) (pieces : List WaitingPiece) → AreTimely since pieces until → since ≤ until
timely-below since until [] timely = timely
timely-below since until (first ∷ pieces) timely = let rest = timely-below first.instant until pieces timely.2 in omega (arith, rest, timely.0)
