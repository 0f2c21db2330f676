-- The answer of a pick request over files, and what is written where it fails.
use Rattle.std.specs.Prelude.{◌≡◌, ℕ, Bool, List, Option, Some, None}
use Rattle.std.specs.List.{find}
use Rattle.std.specs.Io.KnownBytes.{append_known}
use Rattle.tox_time.specs.declared.streams.stream.Stream.{Stream}
use Rattle.tox_time.specs.streams.StreamName.{stream_named}
use Rattle.tox_config.specs.Populate.{is_named}
use Rattle.tox_config.specs.Proxy.{Proxy}
use Rattle.tox_script.specs.Rule.{Rules}
use Rattle.tox_text.specs.PickText.{pick_text}
use Rattle.tox_text.specs.PrintingPick.{PickLeaves}
use Rattle.tox_runs.specs.files.Files.{KnownFile}
use Rattle.tox_runs.specs.files.Setup.{HasSetupCause, IsSetUp}
use Rattle.tox_text.specs.declared.pick_text.PrintPickFault.{PrintPickFault}
use Rattle.tox_runs.specs.declared.files.pick_request.PickRequest.{PickRequest}
use Rattle.tox_runs.specs.declared.files.pick_request.PickFault.{PickFault}
use Rattle.tox_runs.specs.declared.files.pick_request.PickFault.TheVariants.{BadStream, Setup, UnknownProxy, Print}

-- the two files were read, and by them this text answers a question
pub record AnswersPick (known : List ℕ → KnownFile) (request : PickRequest)
    (text : List ℕ) : Type 0 where
  pub stream : Stream
  pub named : stream_named request.stream.now ≡ Some stream
  pub proxies : List Proxy
  pub rules : Rules
  pub set_up : IsSetUp (known request.config.now) (known request.script.now) proxies rules
  pub proxy : Proxy
  pub found : find (is_named request.proxy.now) proxies ≡ Some proxy
  pub spelled : text ≡ pick_text proxy rules request.conn stream request.seed

-- the answer was written, and nothing else
pub record WritesPick (known : List ℕ → KnownFile) (request : PickRequest)
    (old new : Option (List ℕ)) : Type 0 where
  pub text : List ℕ
  pub answers : AnswersPick known request text
  pub written : new ≡ append_known old text

-- the two files were read, and define no such proxy
pub record LacksProxy (known : List ℕ → KnownFile) (request : PickRequest) : Type 0 where
  pub proxies : List Proxy
  pub rules : Rules
  pub set_up : IsSetUp (known request.config.now) (known request.script.now) proxies rules
  pub missing : find (is_named request.proxy.now) proxies ≡ None

-- the answer is known, and was not printed for this cause
pub record StopsPrinting (known : List ℕ → KnownFile) (request : PickRequest)
    (old new : Option (List ℕ)) (failed : Bool) (fault : PrintPickFault) : Type 0 where
  pub text : List ℕ
  pub answers : AnswersPick known request text
  pub left : PickLeaves old new failed text fault

-- why a pick request failed, and what was written: nothing, or a prefix of the answer where the writer has failed
abbrev pub HasPickCause : (List ℕ → KnownFile) → PickRequest → Option (List ℕ) → Option (List ℕ)
    → Bool → PickFault → Type 0
HasPickCause known request old new failed BadStream =
    (stream_named request.stream.now ≡ None) × (new ≡ old)
HasPickCause known request old new failed (Setup fault) =
    HasSetupCause known request.config.now request.script.now fault × (new ≡ old)
HasPickCause known request old new failed (UnknownProxy name) =
    (name.now ≡ request.proxy.now) × LacksProxy known request × (new ≡ old)
HasPickCause known request old new failed (Print fault) =
    StopsPrinting known request old new failed fault
