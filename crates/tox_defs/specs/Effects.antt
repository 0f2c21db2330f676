-- When a toxic lets chunks pass, and what is known of what it does.
use Rattle.std.specs.Prelude.{false}
use Rattle.tox_defs.specs.declared.attributes.effect.Effect.{Effect}
use Rattle.tox_defs.specs.declared.attributes.window.Window.{Window}

-- nothing is known: it may change everything
abbrev pub any_effect : Effect
any_effect =
    record { does_nothing = false; needs_data = false; drops_data = false; only_cuts = false }

-- it never lets chunks pass
abbrev pub always : Window
always = record { from = 0; until = 0 }
