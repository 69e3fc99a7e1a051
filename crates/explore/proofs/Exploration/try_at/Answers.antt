-- `explore::Exploration::try_at` meets its contract, by cases: the command gave nothing new, or a set that has no place, or one that is stored.
use Rattle.std.proofs.Common.{refl, arith}
use Rattle.explore.proofs.TurnLaws.{tried-old, tried_full, tried_new}
use Rattle.explore.proofs.Exploration.try_at.Goals as goal

pub returns-in_default : goal.returns-in_default
returns-in_default c = tried-old c.requires.going c.requires.i_lt_count (c.in_default.ensures.old refl)

pub returns-then-count-self : goal.returns-then-count-self
returns-then-count-self c = tried_full c.requires.going c.requires.i_lt_count (c.in-Some.ensures.fresh _ refl) (omega (arith, c.requires.going.fits))

pub returns : goal.returns
returns c = tried_new c.requires.going c.requires.i_lt_count (c.in-Some.ensures.fresh _ refl) (omega (arith, c.requires.going.fits)) c.put.ensures c.stored.result c.stored.ensures
