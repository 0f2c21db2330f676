-- Parts of a page on their way to a writer.
use Rattle.std.proofs.Common.{◌≡◌, ℕ, false, List, [], Ok, Err, refl}
use Rattle.tox_time.specs.declared.ends.EndFault.{EndFault}
use Rattle.tox_time.specs.declared.ends.Sink.{Ghosts}
use Rattle.tox_text.specs.Writing.{Writes}
use Rattle.tox_text.specs.declared.printer.SizedPrinter.{SizedPrinter}
use Rattle.tox_text.proofs.Printings.{AppendsFront-broken, Writes-finished}
use Rattle.tox_text.proofs.Writes.{append_known-nil}
use Rattle.tox_draw.specs.declared.pages.fault.PageFault.{PageFault}
use Rattle.tox_draw.specs.declared.pages.fault.PageFault.TheVariants.{OutOfMemory, WriteFault}
use Rattle.tox_draw.specs.pages.Pages.{LeavesPage, Shows}

module _ {W : Type 0} {sink : Ghosts W} {R : ℕ} where
  -- where memory is refused nothing is printed
  pub Shows-none : {printer : SizedPrinter W R} {text : List ℕ} → sink.failed printer.writer.now ≡ false → Shows sink (Err OutOfMemory) printer printer text
  Shows-none {printer = printer} working =
      record { sent = []; rest = _; whole = refl; written = append_known-nil (sink.written printer.writer.now); leaves = working; same_writer = refl }

  -- a page broke off
  pub LeavesPage-broken : {fault : PageFault} {old new : SizedPrinter W R} {text : List ℕ} → old.bytes.items ≡ [] → Shows sink (Err fault) old new text
      → LeavesPage (Err fault) (sink.written old.writer.now) (sink.written new.writer.now) (sink.failed new.writer.now) text
  LeavesPage-broken empty front = (AppendsFront-broken empty front, front.leaves)

  -- what waited of a page was written
  pub LeavesPage-whole : {old new : SizedPrinter W R} {text : List ℕ} (last : W) → old.bytes.items ≡ [] → Shows sink (Ok tt) old new text
      → Writes {E = EndFault} (Ok tt) (sink.written new.writer.now) (sink.written last) (sink.failed last) new.bytes.items
      → LeavesPage (Ok tt) (sink.written old.writer.now) (sink.written last) (sink.failed last) text
  LeavesPage-whole last empty shown wrote = Writes-finished (Ok tt) last empty shown wrote

  -- or a prefix of it
  pub LeavesPage-stopped : (fault : EndFault) {old new : SizedPrinter W R} {text : List ℕ} (last : W) → old.bytes.items ≡ [] → Shows sink (Ok tt) old new text
      → Writes (Err fault) (sink.written new.writer.now) (sink.written last) (sink.failed last) new.bytes.items
      → LeavesPage (Err WriteFault) (sink.written old.writer.now) (sink.written last) (sink.failed last) text
  LeavesPage-stopped fault last empty shown wrote = Writes-finished (Err fault) last empty shown wrote
