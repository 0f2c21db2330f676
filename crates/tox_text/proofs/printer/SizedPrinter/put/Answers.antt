-- What waited is written first.
use Rattle.std.proofs.Common.{arith, refl}
use Rattle.tox_text.proofs.Printings.{Prints-failed, Prints-kept, Prints-then, Prints-written}
use Rattle.tox_text.proofs.printer.SizedPrinter.put.Goals as goal
use Rattle.tox_text.proofs.printer.SizedPrinter.put.Goals.{then-bytes-remaining_capacity+in_ok-flush, else-bytes-remaining_capacity}

pub returns-in_err-flush : goal.returns-in_err-flush
returns-in_err-flush g c = Prints-failed _ c.from_residual.ensures.1 c.in_err-flush.ensures.prints

pub returns-then-bytes : goal.returns-then-bytes
returns-then-bytes g c =
    elim c.if-bytes-remaining_capacity.branch [
      | then-bytes-remaining_capacity+in_ok-flush w ↦
          let flushed = rw (← w.self-is) at w.in_ok-flush.ensures in
          Prints-then flushed.prints (Prints-written c.write_all.result flushed.empty flushed.empty refl c.write_all.ensures)
      | else-bytes-remaining_capacity w ↦ absurd (omega arith)
    ]

pub returns : goal.returns
returns g c =
    let added = rw c.unwrap.ensures at c.try_extend_from_slice.ensures.ok in
    elim c.if-bytes-remaining_capacity.branch [
      | then-bytes-remaining_capacity+in_ok-flush w ↦
          let flushed = rw (← w.self-is) at w.in_ok-flush.ensures in
          Prints-then flushed.prints (Prints-kept flushed.prints.leaves.1 refl added)
      | else-bytes-remaining_capacity w ↦ rw (← w.self-is) (Prints-kept (rw (← w.self-is) at c.requires) refl added)
    ]
