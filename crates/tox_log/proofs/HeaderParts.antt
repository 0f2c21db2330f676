-- Lines of the header, in the parts in which they are printed.
use Rattle.std.proofs.Common.{◌≡◌, ℕ, List, [], ◌∷◌, ◌++◌, codes, decimal, append-nil, append_assoc}
use Rattle.tox_defs.specs.short.Printed.{printed_short}
use Rattle.tox_defs.specs.declared.chain.Entry.{Entry}
use Rattle.tox_time.specs.declared.streams.stream.Stream.{Stream}
use Rattle.tox_time.specs.streams.StreamName.{stream_name}
use Rattle.tox_words.specs.declared.lanes.Lanes.{Lanes}
use Rattle.tox_words.specs.Draw.{lane_count}
use Rattle.tox_log.specs.HeaderText.{heading_lines, seed_line, toxic_line}

three-lines : (title a name b number c word d e count f seed g : List ℕ)
    → title ++ (a ++ (name ++ (b ++ (number ++ (c ++ (word ++ (d ++ (e ++ (count ++ (f ++ (seed ++ (g ++ []))))))))))))
    ≡ title ++ (a ++ name ++ b ++ number ++ c ++ word ++ d) ++ (e ++ count ++ f ++ seed ++ g)
three-lines title a name b number c word d e count f seed g = simp (append_assoc, append-nil)

pub heading-parts : (name : List ℕ) (number : ℕ) (direction : Stream) (lanes : Lanes) (seed : ℕ) (word : List ℕ) (count : ℕ) → word ≡ stream_name direction
    → count ≡ lane_count lanes
    → codes "toxi log 1\n" ++ (codes "link " ++ (name ++ (codes " " ++ (decimal number
    ++ (codes " " ++ (word ++ (codes "\n" ++ (codes "lanes " ++ (decimal count ++ (codes " seed " ++ (decimal seed ++ (codes "\n" ++ []))))))))))))
    ≡ heading_lines name number direction lanes seed
heading-parts name number direction lanes seed word count is_name is_count =
    rw (is_name, is_count)
    (three-lines (codes "toxi log 1\n") (codes "link ") name (codes " ") (decimal number) (codes " ") (stream_name direction) (codes "\n") (codes "lanes ")
    (decimal (lane_count lanes)) (codes " seed ") (decimal seed) (codes "\n"))

pub toxic_line-parts : (entry : Entry) (name : List ℕ)
    → codes "toxic " ++ (printed_short entry.toxic entry.toxicity ++ (codes " " ++ (name ++ codes "\n"))) ≡ toxic_line entry name
toxic_line-parts entry name = simp append_assoc

seed-words : (lanes count seed digits feed : List ℕ) → (lanes ++ (count ++ 32 ∷ (seed ++ digits))) ++ feed ≡ lanes ++ count ++ (32 ∷ seed) ++ digits ++ feed
seed-words lanes count seed digits feed = simp append_assoc

-- the third line, as it is read
pub seed-read : (line rest count more digits : List ℕ) (lanes : Lanes) (seed : ℕ) → line ≡ codes "lanes " ++ rest → rest ≡ count ++ 32 ∷ more
    → more ≡ codes "seed " ++ digits
    → count ≡ decimal (lane_count lanes) → digits ≡ decimal seed → line ++ 10 ∷ [] ≡ seed_line lanes seed
seed-read line rest count more digits lanes seed is_line is_rest is_more is_count is_digits =
    rw (is_line, is_rest, is_more, is_count, is_digits) (seed-words (codes "lanes ") (decimal (lane_count lanes)) (codes "seed ") (decimal seed) (codes "\n"))

-- the line of a toxic, as it is read
pub toxic-read : (line short name : List ℕ) (entry : Entry) → line ≡ codes "toxic " ++ short ++ 32 ∷ name → short ≡ printed_short entry.toxic entry.toxicity
    → line ++ 10 ∷ [] ≡ toxic_line entry name
toxic-read line short name entry is_line is_short = rw (is_line, is_short) (simp append_assoc)
