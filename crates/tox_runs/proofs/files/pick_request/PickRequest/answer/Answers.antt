-- What the files say answers the question.
use Rattle.std.proofs.Common.{◌≡◌, Some, refl, rules}
use Rattle.std.specs.List.{find}
use Rattle.std.proofs.lemmas.Result.{err_from_is_err_and}
use Rattle.tox_time.specs.streams.StreamName.{stream_named}
use Rattle.tox_config.specs.Populate.{is_named}
use Rattle.tox_text.specs.PickText.{pick_text}
use Rattle.tox_runs.specs.files.Picking.{AnswersPick}
use Rattle.tox_runs.specs.files.Setup.{IsSetUp}
use Rattle.tox_runs.proofs.files.pick_request.PickRequest.answer.Goals as goal

pub returns-in_err-print_pick-clause-fault : goal.returns-in_err-print_pick-clause-fault
returns-in_err-print_pick-clause-fault g c =
    let request = c.args.self.now in
    let setup = c.in_ok-setup.setup in
    let named : stream_named request.stream.now ≡ Some c.in-Some.stream = search rules in
    let set_up : IsSetUp (g.F.NamedFiles.known c.args.files.now request.config.now) (g.F.NamedFiles.known c.args.files.now request.script.now)
    setup.proxies.items setup.script = c.in_ok-setup.ensures.ok in
    let found : find (is_named request.proxy.now) setup.proxies.items ≡ Some c.in-Some-find_proxy.proxy.now = search rules in
    let answers : AnswersPick (g.F.NamedFiles.known c.args.files.now) request
    (pick_text c.in-Some-find_proxy.proxy.now setup.script request.conn c.in-Some.stream request.seed) =
    record {
      stream = c.in-Some.stream;
      named = named;
      proxies = setup.proxies.items;
      rules = setup.script;
      set_up = set_up;
      proxy =
          c.in-Some-find_proxy.proxy.now;
      found = found;
      spelled = refl;
    } in
    let exit = err_from_is_err_and c.from_residual-in_err-print_pick.result c.from_residual-in_err-print_pick.ensures.1 in
    rw (exit.1, exit.2) (record { text = _; answers = answers; left = c.in_err-print_pick.ensures.left })

pub returns-clause-ok : goal.returns-clause-ok
returns-clause-ok g c =
    let request = c.args.self.now in
    let setup = c.in_ok-setup.setup in
    let named : stream_named request.stream.now ≡ Some c.in-Some.stream = search rules in
    let set_up : IsSetUp (g.F.NamedFiles.known c.args.files.now request.config.now) (g.F.NamedFiles.known c.args.files.now request.script.now)
    setup.proxies.items setup.script = c.in_ok-setup.ensures.ok in
    let found : find (is_named request.proxy.now) setup.proxies.items ≡ Some c.in-Some-find_proxy.proxy.now = search rules in
    let answers : AnswersPick (g.F.NamedFiles.known c.args.files.now) request
    (pick_text c.in-Some-find_proxy.proxy.now setup.script request.conn c.in-Some.stream request.seed) =
    record {
      stream = c.in-Some.stream;
      named = named;
      proxies = setup.proxies.items;
      rules = setup.script;
      set_up = set_up;
      proxy =
          c.in-Some-find_proxy.proxy.now;
      found = found;
      spelled = refl;
    } in
    record { text = _; answers = answers; written = c.in_ok-print_pick.ensures.ok }
