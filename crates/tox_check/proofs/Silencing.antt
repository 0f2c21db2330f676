-- A chain with the toxicity 0 at a place.
use Rattle.std.proofs.Common.{◌≡◌, ℕ, zero, suc, ◌%◌, true, false, List, [], ◌∷◌, length, arith, refl, ap}
use Rattle.std.specs.Prelude.{All}
use Rattle.std.proofs.lemmas.Bool.{le-ltb, lt-ltb}
use Rattle.std.proofs.lemmas.List.Elements.{All-cons, All-head, All-tail}
use Rattle.tox_words.specs.Draw.{Draws}
use Rattle.tox_defs.specs.declared.chain.Entry.{Entry}
use Rattle.tox_defs.specs.declared.toxic.Toxic.{Toxic}
use Rattle.tox_defs.specs.chain.Applied.{is_applied}
use Rattle.tox_defs.specs.chain.Chain.{Toxics, IsChain, IsEntry}
use Rattle.tox_check.specs.Idle.{silenced}

-- a toxicity of 0 is never applied, and one of 1000 always
pub never : (toxic : Toxic) (place : ℕ) (draws : Draws) → is_applied (record { toxic = toxic; toxicity = 0 }) place draws ≡ false
never toxic place draws = le-ltb (draws place 0 % 1000) 0 (omega arith)

pub always : (entry : Entry) (place : ℕ) (draws : Draws) → entry.toxicity ≡ 1000 → is_applied entry place draws ≡ true
always entry place draws is = rw is (lt-ltb (draws place 0 % 1000) 1000 (omega arith))

-- the chain without its toxic at a place
abbrev pub without : ℕ → Toxics → Toxics
without k chain = record { lanes = chain.lanes; entries = silenced k chain.entries }

entries-fit : (k : ℕ) (entries : List Entry) → All IsEntry entries → All IsEntry (silenced k entries)
entries-fit k [] fit = fit
entries-fit zero (entry ∷ entries) fit =
    All-cons IsEntry (record { toxic = entry.toxic; toxicity = 0 }) entries ((All-head IsEntry entry entries fit).0, omega arith)
    (All-tail IsEntry entry entries fit)
entries-fit (suc k) (entry ∷ entries) fit =
    All-cons IsEntry entry (silenced k entries) (All-head IsEntry entry entries fit) (entries-fit k entries (All-tail IsEntry entry entries fit))

length-silenced : (k : ℕ) (entries : List Entry) → length (silenced k entries) ≡ length entries
length-silenced k [] = refl
length-silenced zero (entry ∷ entries) = refl
length-silenced (suc k) (entry ∷ entries) = ap suc (length-silenced k entries)

pub is_chain-without : (k : ℕ) (chain : Toxics) → IsChain chain → IsChain (without k chain)
is_chain-without k chain fits = record {
  most = omega (arith, length-silenced k chain.entries, fits.most);
  entries_fit =
      entries-fit k chain.entries fits.entries_fit;
}
