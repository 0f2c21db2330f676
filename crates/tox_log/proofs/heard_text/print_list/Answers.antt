-- Word by word.
use Rattle.std.proofs.Common.{ap, List, ℕ, decimal, map, length, ◌≤◌, arith}
use Rattle.std.specs.List.{join_with_byte}
use Rattle.std.proofs.lemmas.List.{length-map, take_all}
use Rattle.tox_log.proofs.HeardParts.{words-behind, words-more}
use Rattle.tox_text.proofs.Printings.{Prints-as, Prints-failed, Prints-none, Prints-then}
use Rattle.tox_log.proofs.heard_text.print_list.Goals as goal

pub loop-index-init : goal.loop-index-init
loop-index-init g c = Prints-none c.requires

pub loop-index-preserved : goal.loop-index-preserved
loop-index-preserved g c =
    Prints-as (words-more c.args.words.now c.loop-index.index (omega arith)) (Prints-then c.loop-index.invariant c.in_ok-print_word.ensures)

pub returns-in_err-print_word : goal.returns-in_err-print_word
returns-in_err-print_word g c =
    let (rest, whole) = words-behind c.args.words.now c.loop-index.index (omega arith) in
    Prints-as whole (Prints-failed rest c.from_residual.ensures.1 (Prints-then c.loop-index.invariant c.in_err-print_word.ensures))

pub returns : goal.returns
returns g c =
    let words : List ℕ = c.args.words.now in
    let past : length (map decimal words) ≤ c.loop-index.index = omega (arith, length-map words decimal) in
    Prints-as (ap (join_with_byte 44) (take_all c.loop-index.index (map decimal words) past)) c.loop-index.invariant
