-- The tag with its id, the sentences, and the tag's end.
use Rattle.std.proofs.Common.{◌++◌, List, ℕ, codes}
use Rattle.tox_draw.specs.Pictures.{description, sentences}
use Rattle.tox_draw.specs.Settings.{id_end}
use Rattle.tox_draw.proofs.Growing.{adds_then}
use Rattle.tox_draw.proofs.front.push_description.Goals as goal

pub returns : goal.returns
unfolding description
returns c =
    let tag : List ℕ = codes "<desc id=\"toxi-desc" ++ (id_end c.args.picture.now.setting ++ codes "\">Bytes over time.") in
    let said : List ℕ = sentences c.args.picture.now in
    adds_then _ _ _ _ tag (said ++ codes "</desc>\n") (record { added = c.in_ok-write.ensures.bytes })
    (adds_then _ _ _ _ said (codes "</desc>\n") c.in_ok-push_sentences.ensures c.push_word.ensures)
