-- Where a picture stands.
use Rattle.std.specs.Prelude.{ℕ, List, ◌++◌, codes, decimal}
use Rattle.tox_time.specs.streams.StreamName.{stream_name}
use Rattle.tox_draw.specs.declared.setting.Setting.{Setting}
use Rattle.tox_draw.specs.declared.setting.Setting.TheVariants.{Alone, OnPage}
use Rattle.tox_draw.specs.Style.{style}

-- the end of the ids of what a page has of a link's stream
unfoldable pub place_end : ℕ → List ℕ → List ℕ
place_end number stream = codes "-" ++ (decimal number ++ (codes "-" ++ stream))

-- what the ids of a picture end with: on a page the number of its link and its stream
abbrev pub id_end : Setting → List ℕ
id_end Alone = codes ""
id_end (OnPage number stream) = place_end number (stream_name stream)

-- a picture that stands alone has its style
abbrev pub own_style : Setting → List ℕ
own_style Alone = style
own_style (OnPage number side) = codes ""
