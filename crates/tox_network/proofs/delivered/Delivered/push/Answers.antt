-- One item more is shown.
use Rattle.tox_network.proofs.ShownItems.{chunk_pushed, final_pushed}
use Rattle.tox_network.proofs.delivered.Delivered.push.Goals as goal

pub returns-in_ok-push-in-Chunk-clause-ok : goal.returns-in_ok-push-in-Chunk-clause-ok
returns-in_ok-push-in-Chunk-clause-ok c =
    chunk_pushed c.self.inside.slices c.push.new.self _ c.self.inside.ending c.args.self.now c.args.item c.self.view_is c.requires c.in-Chunk.is
    c.in_ok-push-in-Chunk.ensures.ok

pub returns-in-Closed-clause-ok : goal.returns-in-Closed-clause-ok
returns-in-Closed-clause-ok c = final_pushed c.self.inside.slices c.self.inside.ending c.args.self.now c.args.item _ c.self.view_is c.requires c.in-Closed.is

pub returns-in-Reset-clause-ok : goal.returns-in-Reset-clause-ok
returns-in-Reset-clause-ok c = final_pushed c.self.inside.slices c.self.inside.ending c.args.self.now c.args.item _ c.self.view_is c.requires c.in-Reset.is

pub returns-in-Quiet-clause-ok : goal.returns-in-Quiet-clause-ok
returns-in-Quiet-clause-ok c = final_pushed c.self.inside.slices c.self.inside.ending c.args.self.now c.args.item _ c.self.view_is c.requires c.in-Quiet.is
