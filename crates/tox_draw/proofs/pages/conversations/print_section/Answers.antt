-- Where memory is refused nothing is printed: any conversation begins so.
use Rattle.std.proofs.Common.{string_bytes}
use Rattle.tox_draw.proofs.pages.Drawn.{IsSection-any}
use Rattle.tox_draw.proofs.pages.Shown.{Shows-none}
use Rattle.tox_text.proofs.Printings.{Prints-exited}
use Rattle.tox_draw.proofs.pages.conversations.print_section.Goals as goal

pub returns-in_err-text : goal.returns-in_err-text
returns-in_err-text g c =
    let any = IsSection-any (g.S.LogStore.known c.args.store.now) c.args.number c.args.link.now in
    record { text = any.0; is = any.1; shows = Prints-exited c.from_residual.ensures.1 (Shows-none c.requires) }

pub returns : goal.returns
returns g c = record {
  text = string_bytes c.in_ok-text.text;
  is = c.in_ok-text.ensures;
  shows = rw c.as_str.ensures.value at c.print_text.ensures;
}
