use Rattle.std.proofs.Common.{refl}
use Rattle.kex_tokens.proofs.Offsets.{scanned_at, if_found, if_none, if_inside}
use Rattle.kex_tokens.proofs.scan.longest.Goals as goal

pub returns : goal.returns
returns c =
    let text = c.args.text.now in
    let at = c.args.at in
    let e = scanned_at text at _ c.begun.result c.requires refl c.begun.ensures in
    record {
      found = if_found _ c.begun.result e;
      none = if_none _ c.begun.result e;
      inside = if_inside text at c.begun.result c.requires e;
    }
