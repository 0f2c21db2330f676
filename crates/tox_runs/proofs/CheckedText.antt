-- What holds of whatever a text says, of a text that was checked.
use Rattle.std.proofs.Common.{◌≡◌, ℕ, List, Ok, ◌∙◌, ap}
use Rattle.tox_text.specs.arrivals.ArrivalsText.{Arrived, arrivals_of}
use Rattle.tox_text.specs.arrivals.Checked.{IsChecked}

pub at_checked : {P : Arrived → Type 0} (text now : List ℕ) (longest : ℕ) (checked : IsChecked text longest) → now ≡ text
    → ((arrived : Arrived) → arrivals_of now ≡ Ok arrived → P arrived) → P checked.arrived
at_checked text now longest checked same reported = reported checked.arrived (ap arrivals_of same ∙ checked.spelled)
