use Rattle.std.proofs.Common.{ap, ◌∙◌, arith}
use Rattle.tox_log.specs.files.FileName.{names_file}
use Rattle.tox_log.proofs.files.FileNames.{names-log}
use Rattle.tox_log.proofs.files.run_logs.RunLogs.log_of.Goals as goal

pub new-requires : goal.new-requires
new-requires c =
    ap names_file c.in-Ok.ensures
    ∙ names-log c.args.link.now.proxy.now c.args.place c.args.link.now.number c.args.link.now.stream (omega arith) (omega arith)
