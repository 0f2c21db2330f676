-- The later of two readings is one of them.
use Rattle.std.proofs.Common.{◌≡◌, ℕ, ◌⊎◌, inl, inr, subst, sym, arith}
use Rattle.std.specs.Prelude.{max}
use Rattle.std.proofs.lemmas.Bool.{cases_lt}
use Rattle.tox_link.proofs.clock.reading.Goals as goal

reported-max : (reported : ℕ → Type 0) (a b : ℕ) → (a ≡ 0) ⊎ reported a → reported b → reported (max a b)
reported-max reported a b (inl none) says = let same : b ≡ max a b = omega (arith, none) in subst reported same says
reported-max reported a b (inr before) says = elim (cases_lt a b) [
  | inl less ↦ (let same : b ≡ max a b = omega (arith, less) in subst reported same says)
  | inr more ↦ (let same : a ≡ max a b = omega (arith, more) in subst reported same before)
]

pub returns-clause-reported : goal.returns-clause-reported
returns-clause-reported g c = subst (g.C.Clock.reported c.args.clock.now) (sym c.later.ensures.value)
    (reported-max (g.C.Clock.reported c.args.clock.now) c.args.latest c.now.result c.requires c.now.ensures)
