-- The answer of a forecast request over files, and what is written where it fails.
use Rattle.std.specs.Prelude.{◌≡◌, ℕ, Bool, List, Option, Some, None}
use Rattle.std.specs.List.{find}
use Rattle.std.specs.Io.KnownBytes.{append_known}
use Rattle.tox_time.specs.declared.streams.stream.Stream.{Stream}
use Rattle.tox_config.specs.Populate.{is_named}
use Rattle.tox_config.specs.Proxy.{Proxy}
use Rattle.tox_script.specs.Rule.{Rules}
use Rattle.tox_text.specs.PrintingPick.{PickLeaves}
use Rattle.tox_text.specs.declared.pick_text.PrintPickFault.{PrintPickFault}
use Rattle.tox_runs.specs.files.Files.{KnownFile}
use Rattle.tox_runs.specs.files.Setup.{HasSetupCause, IsSetUp}
use Rattle.tox_runs.specs.declared.files.pick_request.PickFault.{PickFault}
use Rattle.tox_runs.specs.declared.files.pick_request.PickFault.TheVariants.{BadStream, Setup, UnknownProxy, Print}
use Rattle.tox_check.specs.forecast.Asked.{AsksFor, IsBadStream}
use Rattle.tox_check.specs.forecast.ForecastText.{forecast_text}
use Rattle.tox_check.specs.declared.forecast.question.Question.{Question}
use Rattle.tox_check.specs.declared.forecast.request.ForecastRequest.{ForecastRequest}

-- what is asked about a stream, or about both
abbrev pub question_of : ForecastRequest → Option Stream → Question
question_of request stream = record {
  links = request.links;
  seed = request.seed;
  stream = stream;
  named = request.named;
  json = request.json;
}

-- the two files were read, and by them this text answers a question
pub record Forecasts (known : List ℕ → KnownFile) (request : ForecastRequest)
    (text : List ℕ) : Type 0 where
  pub stream : Option Stream
  pub asked : AsksFor request.stream stream
  pub proxies : List Proxy
  pub rules : Rules
  pub set_up : IsSetUp (known request.config.now) (known request.script.now) proxies rules
  pub proxy : Proxy
  pub found : find (is_named request.proxy.now) proxies ≡ Some proxy
  pub spelled : text ≡ forecast_text (question_of request stream) proxy.name rules

-- the answer was written, and nothing else
pub record WritesForecast (known : List ℕ → KnownFile) (request : ForecastRequest)
    (old new : Option (List ℕ)) : Type 0 where
  pub text : List ℕ
  pub forecasts : Forecasts known request text
  pub written : new ≡ append_known old text

-- the two files were read, and define no such proxy
pub record LacksForecastProxy (known : List ℕ → KnownFile) (request : ForecastRequest)
    : Type 0 where
  pub proxies : List Proxy
  pub rules : Rules
  pub set_up : IsSetUp (known request.config.now) (known request.script.now) proxies rules
  pub missing : find (is_named request.proxy.now) proxies ≡ None

-- the answer is known, and was not printed for this cause
pub record StopsForecast (known : List ℕ → KnownFile) (request : ForecastRequest)
    (old new : Option (List ℕ)) (failed : Bool) (fault : PrintPickFault) : Type 0 where
  pub text : List ℕ
  pub forecasts : Forecasts known request text
  pub left : PickLeaves old new failed text fault

-- why a forecast request failed, and what was written: nothing, or a prefix of the answer where the writer has failed
abbrev pub HasForecastCause : (List ℕ → KnownFile) → ForecastRequest → Option (List ℕ)
    → Option (List ℕ) → Bool → PickFault → Type 0
HasForecastCause known request old new failed BadStream =
    IsBadStream request.stream × (new ≡ old)
HasForecastCause known request old new failed (Setup fault) =
    HasSetupCause known request.config.now request.script.now fault × (new ≡ old)
HasForecastCause known request old new failed (UnknownProxy name) =
    (name.now ≡ request.proxy.now) × LacksForecastProxy known request × (new ≡ old)
HasForecastCause known request old new failed (Print fault) =
    StopsForecast known request old new failed fault
