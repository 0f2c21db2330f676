-- Where the words of a lane lie in a table, reckoned within the table.
use Rattle.std.proofs.Common.{◌≡◌, ℕ, ◌+◌, ◌*◌, ◌%◌, ◌∙◌, sym, ap}
use Rattle.std.proofs.Math.Nat.{add-mod-mod, mod-add-mod}
use Rattle.std.proofs.lemmas.Nat.{mul-mod_second}

-- the lane and the turn may each be reduced first
pub reduced_place : (len lanes lane j : ℕ)
    → (lane % len + lanes * (j % len)) % len ≡ (lane + lanes * j) % len
reduced_place len lanes lane j =
    mod-add-mod lane len (lanes * (j % len))
    ∙ sym (add-mod-mod lane (lanes * (j % len)) len)
    ∙ ap (λ n. (lane + n) % len) (mul-mod_second lanes j len)
    ∙ add-mod-mod lane (lanes * j) len
