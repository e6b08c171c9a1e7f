use Rattle.kex_frontier.proofs.Bits.{top_is}
use Rattle.kex_frontier.proofs.row.top_of.Goals as goal

pub returns : goal.returns
returns c = top_is c.args.word c.requires c.ranges.word.fits
