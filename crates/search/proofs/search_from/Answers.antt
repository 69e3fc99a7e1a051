-- `search::search_from` meets its contract: how the exploration ended lets a plan be read back, and both together are the search's answer.
use Rattle.search.proofs.EndLaws.{can_read, done}
use Rattle.search.proofs.search_from.Goals as goal

pub finish-requires : goal.finish-requires
finish-requires c = can_read c.explore-end.ensures.ended

pub returns : goal.returns
returns c = done c.explore-end.ensures c.finish.ensures
