-- How long the pieces of a log are.
use Rattle.std.proofs.Common.{ℕ, ◌≤◌, List, [], ◌∷◌, ◌++◌, length, subst, sym}
use Rattle.std.specs.Prelude.{All}
use Rattle.std.proofs.Math.Seq.{take-append_seam}
use Rattle.std.proofs.lemmas.List.Elements.{All-append, All-cons, All-nil, All-take}
use Rattle.tox_link.specs.declared.notes.LinkEvent.{LinkEvent}
use Rattle.tox_link.specs.log.Log.{heard_lens, HasSmallPieces}
use Rattle.tox_link.proofs.Depths.{heard_lens-append}

abbrev IsSmall : ℕ → Type 0
IsSmall len = len ≤ 16_384

-- no piece is heard
pub small-none : All IsSmall []
small-none = All-nil IsSmall

-- one piece is
pub small-one : (len : ℕ) → len ≤ 16_384 → All IsSmall (len ∷ [])
small-one len small = All-cons IsSmall len [] small small-none

-- small pieces behind others
pub small-append : (log more : List LinkEvent) → HasSmallPieces log → HasSmallPieces more → HasSmallPieces (log ++ more)
small-append log more first next = subst (All IsSmall) (sym (heard_lens-append log more)) (All-append IsSmall (heard_lens log) (heard_lens more) first next)

pub small-front : (log more : List LinkEvent) → HasSmallPieces (log ++ more) → HasSmallPieces log
small-front log more all =
    subst (All IsSmall) (take-append_seam (heard_lens log) (heard_lens more))
    (All-take IsSmall (length (heard_lens log)) (heard_lens log ++ heard_lens more) (subst (All IsSmall) (heard_lens-append log more) all))
