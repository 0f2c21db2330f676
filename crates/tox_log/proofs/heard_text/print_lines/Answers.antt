-- Line by line.
use Rattle.std.proofs.Common.{◌≡◌, MatchOption, IfNone, subst}
use Rattle.tox_log.specs.Reading.{Hands, LacksLine, to_hand}
use Rattle.tox_log.proofs.HeardParts.{lines-all, lines-more, lines-none}
use Rattle.tox_log.proofs.heard_text.print_lines.Goals as goal

pub lines-init : goal.lines-init
lines-init g c = record {
  reads = c.requires.reads;
  works = c.requires.works;
  heard = lines-none (to_hand c.args.log.now (g.R.Source.remaining c.args.reader.now)) c.args.printer.now c.requires.works;
}

pub lines-preserved : goal.lines-preserved
lines-preserved g c =
    let before = g.R.Source.remaining c.lines.reader in
    let after = g.R.Source.remaining c.next_line.new.reader in
    let handed : Hands c.lines.log c.next_line.new.self before after c.in-Some.line =
    subst (λ handed. MatchOption handed (c.next_line.new.self.over ≡ c.lines.log.over) (Hands c.lines.log c.next_line.new.self before after)) c.in-Some.is
    c.in_ok-line.ensures.hands in record {
      reads = c.in_ok-line.ensures.working;
      works = c.in_ok-print_heard_line.ensures.leaves.1;
      heard = lines-more (to_hand c.args.log.now (g.R.Source.remaining c.args.reader.now)) before after c.lines.log c.next_line.new.self c.in-Some.line
          c.args.printer.now c.lines.printer c.print_heard_line.new.printer c.lines.invariant.heard handed c.in_ok-print_heard_line.ensures;
    }

pub returns-in_default-clause-prints : goal.returns-in_default-clause-prints
returns-in_default-clause-prints g c =
    let before = to_hand c.lines.log (g.R.Source.remaining c.lines.reader) in
    let none : LacksLine before = subst (λ handed. IfNone handed (LacksLine before)) c.in_default.is c.in_ok-line.ensures.ends in
    lines-all c.lines.invariant.heard none
