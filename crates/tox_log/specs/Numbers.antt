-- The parts of a line.
use Rattle.std.specs.Prelude.{◌≡◌, ◌≢◌, ℕ, ◌≤◌, Bool, false, List, All, decimal, length, Option, MatchOption}

-- a byte stands nowhere in a text
abbrev pub Lacks : ℕ → List ℕ → Type 0
Lacks byte text = All (λ other. other ≢ byte) text

-- what a text is read as: the number of at most so much that it writes, or none where it writes no such number
abbrev pub ReadsNumber : Option ℕ → ℕ → List ℕ → Type 0
ReadsNumber read greatest text =
    MatchOption read ((n : ℕ) → n ≤ greatest → text ≢ decimal n)
    (λ n. (n ≤ greatest) × (text ≡ decimal n))

-- what is kept of a text: its bytes, unless it is too long, which one of at most 4,096 bytes isn't
abbrev pub KeepsText : List ℕ → Bool → List ℕ → Type 0
KeepsText kept long text = (long ≡ false → kept ≡ text) × (length text ≤ 4_096 → long ≡ false)
