-- The text with and without a colon.
use Rattle.std.proofs.Common.{ℕ, ◌==◌, Bool, ap, sym, ◌∙◌}
use Rattle.std.specs.List.{list_all}
use Rattle.tox_config.proofs.LastColon.{after_last-found, after_last-none}
use Rattle.tox_check.proofs.file_lines.has_any_port.Goals as goal

pub returns-in-Some : goal.returns-in-Some
returns-in-Some c =
    let cut = c.in-Some.ensures.cases in
    let zero : ℕ → Bool = λ byte. byte == 48 in
    c.is_zero.ensures
    ∙ ap (list_all zero) (sym (after_last-found c.args.address.now c.in-Some.port.now cut.0 cut.1 cut.2 cut.4 cut.7))

pub returns-in-None : goal.returns-in-None
returns-in-None c =
    let zero : ℕ → Bool = λ byte. byte == 48 in
    c.is_zero-in-None.ensures ∙ ap (list_all zero) (sym (after_last-none c.args.address.now c.in-None.ensures.cases))
