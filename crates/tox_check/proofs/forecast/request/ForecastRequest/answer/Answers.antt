-- What the files say answers the question.
use Rattle.std.proofs.Common.{◌≡◌, ℕ, List, Option, None, ◌∙◌, Some, ap, rules}
use Rattle.std.specs.Borrow.{Bor}
use Rattle.std.specs.List.{find}
use Rattle.std.proofs.lemmas.Result.{err_from_is_err_and}
use Rattle.tox_config.specs.Populate.{is_named}
use Rattle.tox_config.specs.Proxy.{Proxy}
use Rattle.tox_runs.specs.files.Setup.{IsSetUp}
use Rattle.tox_time.specs.declared.streams.stream.Stream.{Stream}
use Rattle.tox_check.specs.forecast.Asked.{AsksFor, IsBadStream}
use Rattle.tox_check.specs.forecast.ForecastText.{forecast_text}
use Rattle.tox_check.specs.forecast.Forecasting.{Forecasts, question_of}
use Rattle.tox_check.proofs.forecast.request.ForecastRequest.answer.Goals as goal

-- what a name asks for is no bad stream
asked-good : (name : Option (Bor (List ℕ))) (asked : Option Stream) → AsksFor name asked → IsBadStream name → ⊥
asked-good None asked asks bad = bad
asked-good (Some name) asked asks bad = let found = asks.1 in cc

pub returns-in_err-print_forecast-clause-stream_first : goal.returns-in_err-print_forecast-clause-stream_first
returns-in_err-print_forecast-clause-stream_first g c = λ bad. absurd (asked-good c.args.self.now.stream c.in_ok-stream.stream c.in_ok-stream.ensures.ok bad)

pub returns-clause-stream_first : goal.returns-clause-stream_first
returns-clause-stream_first g c = λ bad. absurd (asked-good c.args.self.now.stream c.in_ok-stream.stream c.in_ok-stream.ensures.ok bad)

pub returns-in_err-print_forecast-clause-fault : goal.returns-in_err-print_forecast-clause-fault
returns-in_err-print_forecast-clause-fault g c =
    let request = c.args.self.now in
    let setup = c.in_ok-setup.setup in
    let asked : AsksFor request.stream c.in_ok-stream.stream = c.in_ok-stream.ensures.ok in
    let set_up : IsSetUp (g.F.NamedFiles.known c.args.files.now request.config.now) (g.F.NamedFiles.known c.args.files.now request.script.now)
    setup.proxies.items setup.script = c.in_ok-setup.ensures.ok in
    let found : find (is_named request.proxy.now) setup.proxies.items ≡ Some c.in-Some.proxy.now = search rules in
    let named : c.deref-2.result.now ≡ c.in-Some.proxy.now.name = c.deref-2.ensures ∙ ap (λ (p : Proxy). p.name) c.proxy.view_is in
    let answers : Forecasts (g.F.NamedFiles.known c.args.files.now) request
    (forecast_text (question_of request c.in_ok-stream.stream) c.deref-2.result.now setup.script) =
    record {
      stream = c.in_ok-stream.stream;
      asked = asked;
      proxies = setup.proxies.items;
      rules = setup.script;
      set_up = set_up;
      proxy = c.in-Some.proxy.now;
      found = found;
      spelled = ap (λ name. forecast_text (question_of request c.in_ok-stream.stream) name setup.script) named;
    } in
    let exit = err_from_is_err_and c.from_residual-in_err-print_forecast.result c.from_residual-in_err-print_forecast.ensures.1 in
    rw (exit.1, exit.2) (record { text = _; forecasts = answers; left = c.in_err-print_forecast.ensures.left })

pub returns-clause-ok : goal.returns-clause-ok
returns-clause-ok g c =
    let request = c.args.self.now in
    let setup = c.in_ok-setup.setup in
    let asked : AsksFor request.stream c.in_ok-stream.stream = c.in_ok-stream.ensures.ok in
    let set_up : IsSetUp (g.F.NamedFiles.known c.args.files.now request.config.now) (g.F.NamedFiles.known c.args.files.now request.script.now)
    setup.proxies.items setup.script = c.in_ok-setup.ensures.ok in
    let found : find (is_named request.proxy.now) setup.proxies.items ≡ Some c.in-Some.proxy.now = search rules in
    let named : c.deref-2.result.now ≡ c.in-Some.proxy.now.name = c.deref-2.ensures ∙ ap (λ (p : Proxy). p.name) c.proxy.view_is in
    let answers : Forecasts (g.F.NamedFiles.known c.args.files.now) request
    (forecast_text (question_of request c.in_ok-stream.stream) c.deref-2.result.now setup.script) =
    record {
      stream = c.in_ok-stream.stream;
      asked = asked;
      proxies = setup.proxies.items;
      rules = setup.script;
      set_up = set_up;
      proxy = c.in-Some.proxy.now;
      found = found;
      spelled = ap (λ name. forecast_text (question_of request c.in_ok-stream.stream) name setup.script) named;
    } in
    record { text = _; forecasts = answers; written = c.in_ok-print_forecast.ensures.ok }
