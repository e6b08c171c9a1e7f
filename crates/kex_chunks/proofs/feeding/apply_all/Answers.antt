use Rattle.std.proofs.Common.{rules, ◌≡◌, ◌+◌, ◌-◌, length, take, drop, sym, ap, subst, ◌∙◌, arith}
use Rattle.std.specs.Prelude.{IfOk, Ok, get_or, Some}
use Rattle.std.proofs.lemmas.List.{get_or_read}
use Rattle.std.proofs.lemmas.Result.{IfOk-weaker}
use Rattle.kex_sst.specs.Summaries.{Sum}
use Rattle.kex_runner.specs.Running.{RunnerFeeds}
use Rattle.kex_chunks.specs.Parts.{AreSummaries}
use Rattle.kex_chunks.proofs.Feeds.{HasGone, gone_some, part_fed, rest_fed}
use Rattle.kex_chunks.proofs.Sums.{no_more, part_at}
use Rattle.kex_chunks.proofs.feeding.apply_all.Goals as goal

pub apply-requires-clause-room : goal.apply-requires-clause-room
apply-requires-clause-room c =
    let i = c.parts.invariant in
    let s = c.in-Some.summary in
    let r = c.slot-item.result in
    let sums = c.args.summaries.now in
    let k = c.parts.slot-index in
    let is : get_or sums k r ≡ Some s = sym (get_or_read sums k r c.parts-test.true c.slot-item.is r) ∙ c.in-Some.is in
    let p = part_at c.parts.runner.table c.args.piece.now c.parts.at k sums s r i.within c.parts-test.true is i.rest in
    let long : s.bytes ≡ length p.part = ap (λ (z : Sum). z.bytes) p.sum in
    let read = i.read.1 in
    let within = p.within in
    let room = c.requires.room in
    omega (arith, long, room, read, within)

pub returns-in_err-apply-clause-read : goal.returns-in_err-apply-clause-read
returns-in_err-apply-clause-read c =
    let i = c.parts.invariant in
    let s = c.in-Some.summary in
    let r = c.slot-item.result in
    let sums = c.args.summaries.now in
    let k = c.parts.slot-index in
    let is : get_or sums k r ≡ Some s = sym (get_or_read sums k r c.parts-test.true c.slot-item.is r) ∙ c.in-Some.is in
    let p = part_at c.parts.runner.table c.args.piece.now c.parts.at k sums s r i.within c.parts-test.true is i.rest in
    let long : s.bytes ≡ length p.part = ap (λ (z : Sum). z.bytes) p.sum in
    let low = i.read.0 in
    let high = i.read.1 in
    let within = p.within in
    let more = c.apply.ensures.read.0 in
    let most = c.apply.ensures.read.1 in
    (omega (arith, low, more), omega (arith, long, most, high, within))

pub overflow_add-at : goal.overflow_add-at
overflow_add-at c =
    let i = c.parts.invariant in
    let s = c.in-Some.summary in
    let r = c.slot-item.result in
    let sums = c.args.summaries.now in
    let k = c.parts.slot-index in
    let is : get_or sums k r ≡ Some s = sym (get_or_read sums k r c.parts-test.true c.slot-item.is r) ∙ c.in-Some.is in
    let p = part_at c.parts.runner.table c.args.piece.now c.parts.at k sums s r i.within c.parts-test.true is i.rest in
    let long : c.length.result ≡ length p.part = c.length.ensures.same ∙ ap (λ (z : Sum). z.bytes) p.sum in
    let within = p.within in
    let room = c.requires.room in
    omega (arith, long, room, within)

pub returns-in-Gone-clause-fed : goal.returns-in-Gone-clause-fed
returns-in-Gone-clause-fed c =
    let old = c.args.runner.now in
    let mid = c.parts.runner in
    let new = c.feed_plainly-in-Gone.new.runner in
    let piece = c.args.piece.now in
    let rest = take (length piece - c.parts.at) (drop c.parts.at piece) in
    let after = c.feed_plainly-in-Gone.new.code in
    let same = c.apply.ensures.gone c.in-Gone.field-0 (c.in_ok-apply.was ∙ ap (λ z. Ok z) c.in-Gone.is) in
    IfOk-weaker c.feed_plainly-in-Gone.result (λ answer. RunnerFeeds answer c.apply.new.self new rest c.apply.new.code after) (λ answer. RunnerFeeds answer old new piece c.args.code.now after)
    (λ answer f. rest_fed answer old mid new piece c.parts.at c.args.code.now c.parts.code after c.parts.invariant.gone
    (subst (λ z. RunnerFeeds answer z new rest c.parts.code after) same.0 (subst (λ z. RunnerFeeds answer c.apply.new.self new rest z after) same.1 f)))
    c.feed_plainly-in-Gone.ensures.fed

pub parts-preserved : goal.parts-preserved
parts-preserved c =
    let i = c.parts.invariant in
    let s = c.in-Some.summary in
    let r = c.slot-item.result in
    let sums = c.args.summaries.now in
    let k = c.parts.slot-index in
    let at = c.parts.at in
    let piece = c.args.piece.now in
    let old = c.args.runner.now in
    let new = c.apply.new.self in
    let is : get_or sums k r ≡ Some s = sym (get_or_read sums k r c.parts-test.true c.slot-item.is r) ∙ c.in-Some.is in
    let p = part_at c.parts.runner.table piece at k sums s r i.within c.parts-test.true is i.rest in
    let bytes : s.bytes ≡ length p.part = ap (λ (z : Sum). z.bytes) p.sum in
    let long : c.length.result ≡ length p.part = c.length.ensures.same ∙ bytes in
    let fed = part_fed old c.parts.runner new piece p.part at c.args.code.now c.parts.code c.apply.new.code p.before i.gone (c.apply.ensures.on (c.in_ok-apply.was ∙ ap (λ z. Ok z) c.in-On.is) p.part p.sum) in
    let low = i.read.0 in
    let high = i.read.1 in
    let more = c.apply.ensures.read.0 in
    let most = c.apply.ensures.read.1 in
    let within = p.within in
    record {
      within = omega (arith, long, within);
      rest = subst (λ z. AreSummaries z (drop (at + c.length.result) piece) (drop (k + 1) sums)) (sym c.apply.ensures.table) (subst (λ n. AreSummaries c.parts.runner.table (drop (at + n) piece) (drop (k + 1) sums)) (sym long) p.rest);
      gone = subst (λ n. HasGone old new (take (at + n) piece) c.args.code.now c.apply.new.code) (sym long) fed;
      read = (omega (arith, low, more), omega (arith, long, bytes, most, high));
      table = c.apply.ensures.table ∙ i.table;
      words = c.apply.ensures.words ∙ i.words;
      live = c.in_ok-apply.ensures.live;
      ended = c.apply.ensures.open;
      usable = search rules;
    }

pub returns-clause-fed : goal.returns-clause-fed
returns-clause-fed c =
    let i = c.parts.invariant in
    let piece = c.args.piece.now in
    let sums = c.args.summaries.now in
    let past = c.parts-test.false in
    let whole = no_more c.parts.runner.table piece c.parts.at c.parts.slot-index sums (omega (arith, past)) i.rest in
    let gone = subst (λ z. HasGone c.args.runner.now c.parts.runner z c.args.code.now c.parts.code) whole i.gone in
    gone_some c.args.runner.now c.parts.runner piece c.args.code.now c.parts.code c.requires.some gone
