-- Texts of whole lines.
use Rattle.std.proofs.Common.{◌≡◌, ℕ, ◌+◌, ◌-◌, ◌<◌, List, [], ◌∷◌, ◌++◌, codes, length, get_or, take, ap, sym, ◌∙◌, subst, arith}
use Rattle.std.proofs.lemmas.List.{append-nil, get_or-append-add, get_or-take, get_or_push, length-append, length-take-le}
use Rattle.tox_log.specs.files.WholeLines.{AreLines}

pub lines-nil : AreLines []
lines-nil some = absurd (omega (arith, some))

-- the last line feed stands at the end
pub lines-line : (words : List ℕ) → AreLines (words ++ codes "\n")
lines-line words some = get_or_push words 10 0 (length (words ++ codes "\n") - 1) (omega (arith, length-append {A = ℕ}))

pub lines-append : (a b : List ℕ) → AreLines a → AreLines b → AreLines (a ++ b)
lines-append a [] first second = let P : List ℕ → Type 0 = AreLines in subst P (sym (append-nil a)) first
lines-append a (byte ∷ rest) first second = λ some.
    let b : List ℕ = byte ∷ rest in
    let last : length (a ++ b) - 1 ≡ length a + (length b - 1) = omega (arith, length-append a b) in
    ap (λ i. get_or (a ++ b) i 0) last ∙ get_or-append-add a b (length b - 1) 0 ∙ second (omega arith)

-- the bytes up to a line feed
pub lines-take : (text : List ℕ) (place : ℕ) → place < length text → get_or text place 0 ≡ 10 → AreLines (take (place + 1) text)
lines-take text place within feed some =
    let len : length (take (place + 1) text) - 1 ≡ place = omega (arith, length-take-le (place + 1) text (omega arith)) in
    ap (λ i. get_or (take (place + 1) text) i 0) len ∙ get_or-take (place + 1) text place 0 (omega arith) ∙ feed
