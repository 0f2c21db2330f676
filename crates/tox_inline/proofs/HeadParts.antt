-- The table of a toxic, in the parts in which it is printed.
use Rattle.std.proofs.Common.{◌≡◌, ℕ, List, [], ◌++◌, codes, decimal, append_assoc, append-nil}
use Rattle.tox_time.specs.streams.StreamName.{stream_name}
use Rattle.tox_defs.specs.Toxic.{name_of}
use Rattle.tox_inline.specs.Texts.{short_name, toxic_head}
use Rattle.tox_inline.specs.declared.toxics.NumberedToxic.{NumberedToxic}

ten : (a b c d e f g h i j : List ℕ)
    → a ++ (b ++ (c ++ (d ++ (e ++ (f ++ (g ++ (h ++ (i ++ (j ++ []))))))))) ≡ a ++ b ++ c ++ d ++ e ++ f ++ g ++ h ++ i ++ j
ten a b c d e f g h i j = simp (append_assoc, append-nil)

pub toxic_head-parts : (toxic : NumberedToxic) (short name stream : List ℕ) (number toxicity : ℕ)
    → short ≡ short_name toxic.stream → number ≡ toxic.number → name ≡ name_of toxic.entry.toxic → stream ≡ stream_name toxic.stream
    → toxicity ≡ toxic.entry.toxicity
    → codes "\n[[rule.toxic]]\nname = \"" ++ (short ++ (decimal number ++
    (codes "\"\ntype = \"" ++ (name ++ (codes "\"\nstream = \"" ++ (stream ++ (codes "\"\ntoxicity = " ++ (decimal toxicity
    ++ (codes "\n\n[rule.toxic.attributes]\n" ++ []))))))))) ≡ toxic_head toxic
toxic_head-parts toxic short name stream number toxicity is_short is_number is_name is_stream is_toxicity =
    rw (is_short, is_number, is_name, is_stream, is_toxicity)
    (ten (codes "\n[[rule.toxic]]\nname = \"") (short_name toxic.stream) (decimal toxic.number) (codes "\"\ntype = \"") (name_of toxic.entry.toxic)
    (codes "\"\nstream = \"")
    (stream_name toxic.stream) (codes "\"\ntoxicity = ") (decimal toxic.entry.toxicity) (codes "\n\n[rule.toxic.attributes]\n"))
