-- `search::search` meets its contract: an accepted sheet's head gives a domain and a start that the engine takes, and its answer is the sheet's.
use Rattle.std.proofs.Common.{sym}
use Rattle.search.proofs.SheetLaws.{engine_ready, engine_done}
use Rattle.search.proofs.search.Goals as goal

pub search_from-requires : goal.search_from-requires
search_from-requires c = engine_ready c.args.sheet.now (sym c.in-Ok.ensures.answer)

pub returns-in-Ok : goal.returns-in-Ok
returns-in-Ok c = engine_done c.args.sheet.now (sym c.in-Ok.ensures.answer) c.search_from.ensures
