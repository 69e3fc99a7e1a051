-- `view::shown` meets its contract: what a view of the sheet hands back is the sheet's own part.
-- Its signature has no view, so whoever calls it sees none.
use Rattle.view.proofs.ViewLaws.{of_following}
use Rattle.view.proofs.shown.Goals as goal

pub returns : goal.returns
returns c =
    let m = c.of.ensures in
    of_following c.of.result c.args.sheet c.following.result (record { sheet = m.0; states = m.1; commands = m.2 }) c.args.command c.args.state c.following.ensures
