-- What is left of a pick text that was not printed.
use Rattle.std.specs.Prelude.{◌≡◌, ℕ, Bool, true, List, Option}
use Rattle.tox_text.specs.Writing.{AppendsFront}
use Rattle.tox_text.specs.declared.pick_text.PrintPickFault.{PrintPickFault}
use Rattle.tox_text.specs.declared.pick_text.PrintPickFault.TheVariants.{OutOfMemory, WriteFault}

-- nothing was written, or the writer has failed and a prefix of the text is written
abbrev pub PickLeaves : Option (List ℕ) → Option (List ℕ) → Bool → List ℕ → PrintPickFault → Type 0
PickLeaves old new failed text OutOfMemory = new ≡ old
PickLeaves old new failed text WriteFault = AppendsFront old new text × (failed ≡ true)
