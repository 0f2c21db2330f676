-- Lines, in the parts in which they are read.
use Rattle.std.proofs.Common.{◌≡◌, ℕ, List, [], ◌∷◌, ◌++◌, Option, IfSome, codes, decimal, sym, subst, append_assoc, append-nil}
use Rattle.tox_log.specs.declared.event_line.LogLine.{LogLine}
use Rattle.tox_log.specs.declared.event_line.LogLine.TheVariants.{SourceReset}
use Rattle.tox_log.specs.Lines.{line_words, IsWritable}

-- a range, a space and an instant
pub wrote-parts : (front range due start stop instant : List ℕ) → range ≡ start ++ codes ".." ++ stop → due ≡ instant
    → front ++ (range ++ 32 ∷ due) ≡ front ++ start ++ codes ".." ++ stop ++ codes " " ++ instant
wrote-parts front range due start stop instant is_range is_due = rw (is_range, is_due) (simp append_assoc)

-- a name, a space and an instant
pub ending-parts : (front name due word instant : List ℕ) → name ≡ word → due ≡ instant
    → front ++ codes " " ++ name ++ codes " " ++ due ≡ front ++ codes " " ++ (word ++ codes " " ++ instant)
ending-parts front name due word instant is_name is_due = rw (is_name, is_due) (simp append_assoc)

-- a word alone
pub open-parts : (front words name : List ℕ) → words ≡ name → front ++ 32 ∷ words ≡ front ++ codes " " ++ name
open-parts front words name is = rw is (simp append_assoc)

-- a word and what stands behind it
pub words-parts : (front words word rest name : List ℕ) → words ≡ word ++ 32 ∷ rest → word ≡ name
    → front ++ 32 ∷ words ≡ front ++ (32 ∷ name ++ 32 ∷ []) ++ rest
words-parts front words word rest name is_words is_word = rw (is_words, is_word) (simp append_assoc)

-- the same text, otherwise put together
pub some-line : (read : Option LogLine) (text other : List ℕ) → other ≡ text → IfSome read (λ line. (text ≡ line_words line) × IsWritable line)
    → IfSome read (λ line. (other ≡ line_words line) × IsWritable line)
some-line read text other same = subst (λ t. IfSome read (λ line. (t ≡ line_words line) × IsWritable line)) (sym same)

-- a reading and the word of a reset, as they are printed
pub reset-parts : (instant number : ℕ) → number ≡ instant → decimal number ++ (codes " end reset\n" ++ []) ≡ line_words (SourceReset instant) ++ codes "\n"
reset-parts instant number is = rw is (simp (append_assoc, append-nil))
