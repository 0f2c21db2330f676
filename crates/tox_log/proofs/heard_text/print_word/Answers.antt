-- The word at the index's lane and turn.
use Rattle.std.proofs.Common.{ℕ, List, ◌++◌, ◌≡◌, ap₂, ap, ◌∙◌, decimal, get_or, length, append-nil}
use Rattle.tox_log.proofs.HeardParts.{index-place}
use Rattle.tox_text.proofs.Printings.{Prints-as}
use Rattle.tox_log.proofs.heard_text.print_word.Goals as goal

pub returns : goal.returns
returns g c =
    let words : List ℕ = c.args.words.now in
    let word : c.from.result ≡ get_or words c.args.index 0 =
    c.from.ensures ∙ c.draw-word.ensures ∙ ap (λ (n : ℕ). get_or words n 0) (index-place c.args.index (length words) c.requires.within) in
    Prints-as (ap₂ (λ (before digits : List ℕ). before ++ digits) c.separator.ensures (append-nil (decimal c.from.result) ∙ ap decimal word)) c.print.ensures
