-- When the book of a proxy is reported as nearly full, and as full.
use Rattle.std.specs.Prelude.{ℕ, ◌==◌, Option, Some, None, if◌then◌else◌}
use Rattle.tox_serve.specs.declared.proxy.filling.Fill.{Fill}
use Rattle.tox_serve.specs.declared.proxy.filling.Fill.TheVariants.{Nearly, Full}

-- with the 900,000th connection and with the last, where no limit of links is set
abbrev pub fill_of : Option ℕ → ℕ → Option Fill
fill_of (Some links) number = None
fill_of None number =
    if number == 900_000 then Some Nearly else
    if number == 1_000_000 then Some Full else None
