use Rattle.std.proofs.Common.{◌≡◌, ◌∙◌, ap, false}
use Rattle.tl_check.specs.Scopes.{is_handle}
use Rattle.tl_check.specs.Seen.{entries_seen}
use Rattle.tl_check.proofs.Tables.{handle_added}
use Rattle.tl_check.proofs.handles.Handles.add.Goals as goal

pub returns : goal.returns
returns c =
    let n : is_handle c.args.name.now c.args.self.now ≡ false = cc in
    ap entries_seen c.in_ok-insert.ensures.entries ∙ handle_added c.in_ok-own.own c.args.watches c.self.inside.watches.entries c.args.name.now c.args.self.now c.in_ok-own.ensures.items c.self.view_is n
