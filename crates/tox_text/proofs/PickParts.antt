-- Lines of the pick text, in the parts in which they are printed.
use Rattle.std.proofs.Common.{◌≡◌, ℕ, Bool, List, ◌++◌, codes, decimal, append_assoc}
use Rattle.tox_words.specs.Draw.{Draws}
use Rattle.tox_defs.specs.chain.Applied.{is_applied}
use Rattle.tox_defs.specs.short.Printed.{printed_short}
use Rattle.tox_defs.specs.declared.chain.Entry.{Entry}
use Rattle.tox_text.specs.Names.{visible_name}
use Rattle.tox_text.specs.PickText.{applied_word, picked_toxic_line}

line_of_toxic : (draws : Draws) (place : ℕ) (entry : Entry) (name : List ℕ)
    → (decimal place ++ codes " " ++ applied_word (is_applied entry place draws) ++ codes " ")
    ++ (printed_short entry.toxic entry.toxicity ++ (codes " " ++ (visible_name name ++ codes "\n")))
    ≡ picked_toxic_line draws place entry name
line_of_toxic draws place entry name = simp append_assoc

-- what the call answered is whether the toxic is applied
pub picked_toxic_line-parts : (draws : Draws) (place : ℕ) (entry : Entry) (name : List ℕ) (applied : Bool) → applied ≡ is_applied entry place draws
    → (decimal place ++ codes " " ++ applied_word applied ++ codes " ") ++ (printed_short entry.toxic entry.toxicity ++ (codes " " ++ (visible_name name ++ codes "\n")))
    ≡ picked_toxic_line draws place entry name
picked_toxic_line-parts draws place entry name applied is = rw is (line_of_toxic draws place entry name)
