-- Why a wait for an address failed.
use Rattle.std.specs.Prelude.{◌≡◌, ℕ, true, false, List}
use Rattle.tox_config.specs.Address.{is_address}
use Rattle.tox_serve.specs.declared.waiting.fault.WaitFault.{WaitFault}
use Rattle.tox_serve.specs.declared.waiting.fault.WaitFault.TheVariants.{OutOfMemory, SpawnRefused, NotReady, BadAddress}

-- why a wait for an address failed: exactly a text that is no address is said to be one
abbrev pub HasWaitCause : List ℕ → WaitFault → Type 0
HasWaitCause address OutOfMemory = is_address address ≡ true
HasWaitCause address SpawnRefused = is_address address ≡ true
HasWaitCause address (NotReady text) = (text.now ≡ address) × (is_address address ≡ true)
HasWaitCause address (BadAddress text) = (text.now ≡ address) × (is_address address ≡ false)
