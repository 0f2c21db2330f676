-- The entry over the one of its name, and at the end.
use Rattle.std.proofs.Common.{sym}
use Rattle.std.proofs.lemmas.List.Quantifiers.{position-Some}
use Rattle.tox_config.specs.LentProxy.{lent_view}
use Rattle.tox_config.specs.Populate.{is_named}
use Rattle.tox_config.proofs.Puts.{put-found, put-missing, position-None}
use Rattle.tox_config.proofs.populate.put.Goals as goal

pub returns-in-Some : goal.returns-in-Some
returns-in-Some c =
    let entries = c.args.entries.now.items in
    let found = position-Some (λ entry. is_named c.args.entry.name.now (lent_view entry)) entries c.in-Some.index c.args.entry
    (sym (rw c.deref.ensures.value at c.in-Some.ensures)) in
    put-found lent_view c.args.entry entries c.in-Some.index found.0 found.1 found.2

pub returns-in_ok-push-in-None : goal.returns-in_ok-push-in-None
returns-in_ok-push-in-None c =
    let entries = c.args.entries.now.items in
    let none = position-None (λ entry. is_named c.args.entry.name.now (lent_view entry)) entries (sym (rw c.deref.ensures.value at c.in-None.ensures)) in
    rw c.in_ok-push-in-None.ensures.items (put-missing lent_view c.args.entry entries none)
