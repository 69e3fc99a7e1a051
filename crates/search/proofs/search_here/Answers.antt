-- `search::search_here` meets its contract: each of the 4,096 places that it makes is the one that stands for nothing.
use Rattle.search.proofs.SheetLaws.{searched-here}
use Rattle.search.proofs.search_here.Goals as goal

pub returns : goal.returns
returns c = searched-here 4096 c.blank-place.ensures c.search.ensures
