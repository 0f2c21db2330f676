-- A text that wasn't written whole fills the room.
use Rattle.std.proofs.Common.{◌≡◌, ℕ, ◌<◌, ◌++◌, true, List, [], Ok, Err, Result, Some, is_err, length, length-append, ap, sym, ◌∙◌, arith}
use Rattle.tox_text.specs.Writing.{Writes}
use Rattle.tox_time.specs.declared.ends.EndFault.{EndFault}
use Rattle.tox_serve.specs.declared.output.text.LineText.{LineText}
use Rattle.tox_serve.proofs.output.text.LineText.of_object.Goals as goal

too-long : (result : Result (Unit {0}) EndFault) (line : LineText) (old text : List ℕ) → is_err result ≡ true → old ≡ []
    → Writes result (Some old) (Some line.bytes.items) line.failed text
    → 6144 < length text
too-long (Ok done) line old text errs none wrote = absurd cc
too-long (Err fault) line old text errs none wrote =
    let front = wrote.0 in
    let full = line.full wrote.1 in
    let both = length-append front.sent front.unsent in
    let items : line.bytes.items ≡ old ++ front.sent = cc in
    let sent : length line.bytes.items ≡ length front.sent = ap length (items ∙ ap (λ old. old ++ front.sent) none) in
    omega (arith, full, both, sent, ap length front.whole)

pub returns-then-is_err : goal.returns-then-is_err
returns-then-is_err c = too-long c.write_object-written.result c.write_object-written.new.writer c.new-line.result.bytes.items _
    (sym (c.if-is_err.ensures).value) c.new-line.ensures.empty c.write_object-written.ensures
