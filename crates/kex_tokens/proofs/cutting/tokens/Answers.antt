use Rattle.std.proofs.Common.{arith}
use Rattle.kex_tokens.proofs.Cuts.{too_long, whole_answered, bad_answered, spans_answered, order_answered}
use Rattle.kex_tokens.proofs.cutting.tokens.Goals as goal

pub returns : goal.returns
returns c =
    let text = c.args.text.now in
    let r = c.cut.result in
    let a = c.cut.ensures.cut in
    let b = c.cut.ensures.refused in
    record {
      cut = a;
      refused = b;
      too_long = too_long text r (omega arith);
      whole = λ ts h k. whole_answered text r h a b ts k;
      bad = λ at h k. bad_answered text r h a b at k;
      spans = spans_answered text r a;
      order = order_answered text r a;
    }
