-- The tag with its id, the title, and the tag's end.
use Rattle.std.proofs.Common.{◌++◌, List, ℕ, codes}
use Rattle.tox_draw.specs.Headings.{texts_of}
use Rattle.tox_draw.specs.Pictures.{title_element}
use Rattle.tox_draw.specs.Sentences.{title}
use Rattle.tox_draw.specs.Settings.{id_end}
use Rattle.tox_draw.proofs.Growing.{adds_then}
use Rattle.tox_draw.proofs.front.push_title_line.Goals as goal

pub returns : goal.returns
unfolding title_element
returns c =
    let tag : List ℕ = codes "<title id=\"toxi-title" ++ (id_end c.args.setting.now ++ codes "\">") in
    let forms : List ℕ = title (texts_of c.args.forms.now) in
    adds_then _ _ _ _ tag (forms ++ codes "</title>\n") (record { added = c.in_ok-write.ensures.bytes })
    (adds_then _ _ _ _ forms (codes "</title>\n") c.in_ok-push_title.ensures c.push_word.ensures)
