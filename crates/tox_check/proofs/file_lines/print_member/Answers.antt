-- Where memory runs out, nothing is printed.
use Rattle.std.proofs.Common.{◌++◌, [], refl}
use Rattle.tox_check.specs.FileLines.{unread_lines}
use Rattle.tox_check.specs.Printing.{joined_lines}
use Rattle.tox_text.proofs.Writes.{append_known-nil}
use Rattle.tox_check.proofs.file_lines.print_member.Goals as goal

pub returns-in_default : goal.returns-in_default
returns-in_default g c = (
  record {
    sent = [];
    rest = c.args.printer.now.bytes.items ++ joined_lines (unread_lines c.args.member.now);
    whole = refl;
    written = append_known-nil (g.W.Sink.written c.args.printer.now.writer.now);
    leaves = c.requires;
    same_writer = refl;
  },
  tt,
)
