-- What the last colon tells of a port.
use Rattle.std.proofs.Common.{◌≡◌, ℕ, ◌+◌, ◌≤◌, true, false, List, length, drop, get_or, arith, refl, ◌∙◌}
use Rattle.std.specs.List.{after_last, list_any}
use Rattle.std.specs.Str.{NoCharPasses}
use Rattle.std.specs.Str.Pattern.{HasCharAt}
use Rattle.std.proofs.lemmas.List.{get_or_default}
use Rattle.std.proofs.lemmas.List.Folds.{list_any_at, list_any_none}
use Rattle.std.proofs.lemmas.Str.Pattern.{NoCharPasses-char}
use Rattle.tox_time.specs.Text.{is_colon}
use Rattle.tox_config.specs.Address.{ends_in_port, is_port}
use Rattle.tox_config.proofs.LastColon.{after_last-found, is_colon-other}

-- what follows the last colon, where `rsplit_once` found it
pub ends_in_port-found : (text port : List ℕ) (i j : ℕ) → NoCharPasses is_colon (drop j text) × HasCharAt 58 text i j → port ≡ drop j text
    → length port + j ≡ length text → ends_in_port text ≡ is_port port
ends_in_port-found text port i j found cut whole =
    let after : j ≡ i + 1 = found.1.ends in
    let colon : get_or text i 0 ≡ 58 = found.1.byte (omega arith) in
    let any : list_any is_colon text ≡ true = list_any_at is_colon text i 0 (omega arith) (rw colon refl) in
    let port_there : after_last is_colon text ≡ port = after_last-found text port i j found cut whole in
    rw (any, port_there) refl

-- a text in which `rsplit_once` found no colon
pub ends_in_port-none : (text : List ℕ) → NoCharPasses is_colon text → ends_in_port text ≡ false
ends_in_port-none text none =
    let absent : list_any is_colon text ≡ false =
    list_any_none is_colon text (λ k d within. is_colon-other (get_or text k d)
    (λ e. NoCharPasses-char 58 text k none (omega arith) within (get_or_default text k 0 d within ∙ e))) in
    rw absent refl
