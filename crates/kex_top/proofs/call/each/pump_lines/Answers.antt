use Rattle.std.proofs.Common.{rules, arith, ◌≡◌, ◌++◌, ◌+◌, ◌≤◌, ◌∙◌, inl, ℕ, List, [], true, false, refl, take, length, length-append, length-take, subst}
use Rattle.std.specs.Prelude.{Err}
use Rattle.std.specs.Io.KnownBytes.{Consumes}
use Rattle.kex_each.specs.Lines.{begun_behind, lines_behind, line_if_some}
use Rattle.kex_ports.proofs.Known.{append-nil, consumes-then, consumes-last, consumes-nothing}
use Rattle.kex_ports.proofs.ReadRequests.{asks-on, last-read}
use Rattle.kex_ports.specs.Reads.{last_given}
use Rattle.kex_ports.proofs.Endings.{same-finishes}
use Rattle.kex_stage.specs.Stages.{StagePlan}
use Rattle.kex_top.specs.LineWrites.{PassesLines, WritesTexts}
use Rattle.kex_top.specs.declared.status.Status.TheVariants.{Done, InputTooLong, ReadFault}
use Rattle.kex_top.proofs.LineRuns.{answered_more, answered_none, broken_by_lines, done_all, past_most, read_fails, says_end, says_more}
use Rattle.kex_top.proofs.PortCalls.{open-broken, open-worked}
use Rattle.kex_top.proofs.call.each.pump_lines.Goals as goal

short-piece : (buf : List ℕ) (n most : ℕ) → n ≤ most → length (take n buf) ≤ most
short-piece buf n most le = omega (arith, length-take n buf)

piece-length : (w buf : List ℕ) (n total : ℕ) → n ≤ length buf → length w ≡ total → length (w ++ take n buf) ≡ total + n
piece-length w buf n total le same = omega (arith, length-append w (take n buf), length-take n buf)

-- ---- what a run leaves

pub returns-in-Ok-pass_last-clause-pumped : goal.returns-in-Ok-pass_last-clause-pumped
returns-in-Ok-pass_last-clause-pumped g c =
    let i = c.reads.invariant in
    let k = subst (λ (q : List StagePlan). WritesTexts q (line_if_some (begun_behind [] i.w)) (g.K.Sink.held c.reads.output) (g.K.Sink.held c.pass_last.new.output)) i.plans (c.in-Ok-pass_last.ensures.passes i.w i.begun) in
    done_all c.args.answers.now.plans _ _ _ i.w _ i.answered k
    (consumes-last _ _ _ _ _ _ (omega arith) i.consumed c.in-Ok-eq0.ensures.bytes.0)
    (c.in-Ok-eq0.ensures.bytes.1 (omega arith) (omega arith))
    (omega (arith, i.count, i.few))
    (search rules) (search rules)

pub returns-in-Err-pass_last-clause-pumped : goal.returns-in-Err-pass_last-clause-pumped
returns-in-Err-pass_last-clause-pumped g c =
    let i = c.reads.invariant in
    let ps = c.args.answers.now.plans in
    broken_by_lines ps _ _ _ i.w [] true (line_if_some (begun_behind [] i.w)) _ i.answered
    (λ texts k. says_end ps i.w i.answered.said texts i.answered.says k)
    _ c.in-Err-pass_last.trouble _ (omega arith)
    (subst (λ (q : List StagePlan). PassesLines {T = Unit {0}} q (line_if_some (begun_behind [] i.w)) (g.K.Sink.held c.reads.output) (g.K.Sink.held c.pass_last.new.output) (Err c.in-Err-pass_last.trouble)) i.plans (c.in-Err-pass_last.ensures.passes i.w i.begun))
    (subst (λ z. Consumes (g.S.Source.rest c.args.input.now) (g.S.Source.rest c.read.new.self) z) (append-nil i.w) (consumes-last _ _ _ _ _ _ (omega arith) i.consumed c.in-Ok-eq0.ensures.bytes.0))
    (λ e. c.in-Ok-eq0.ensures.bytes.1 (omega arith) (omega arith))
    (search rules) i.written c.in-Err-pass_last.ensures.cause
    c.status_after.ensures

pub returns-in-Err-clause-pumped : goal.returns-in-Err-clause-pumped
returns-in-Err-clause-pumped g c =
    let i = c.reads.invariant in
    read_fails c.args.answers.now.plans _ _ _ i.w _ i.answered refl (search rules) (omega (arith, i.count, i.few)) (search rules) (search rules) (search rules)

-- ---- what was asked for

-- ---- the loop

pub reads-init : goal.reads-init
reads-init g c = record {
  plans = refl;
  w = [];
  count = refl;
  few = omega arith;
  some = omega arith;
  begun = c.requires.fresh;
  consumed = consumes-nothing _;
  answered = answered_none _ _;
  read = refl;
  written = refl;
  asked = inl refl;
  unfinished = refl;
}

pub returns-in-Err-pass_lines-clause-pumped : goal.returns-in-Err-pass_lines-clause-pumped
returns-in-Err-pass_lines-clause-pumped g c =
    let i = c.reads.invariant in
    let ps = c.args.answers.now.plans in
    let piece = take c.in-Ok.count c.read.new.buf in
    broken_by_lines ps _ _ _ i.w piece false (lines_behind (begun_behind [] i.w) piece) _ i.answered
    (λ texts k. says_more ps i.w piece i.answered.said texts i.answered.says k)
    _ c.in-Err-pass_lines.trouble _ (short-piece _ c.in-Ok.count _ (last-read _ _ _ _ _ (omega (arith, c.in-Ok.ensures.bound, c.reads.auto.block)) c.in-Ok.ensures.asked))
    (subst (λ (q : List StagePlan). PassesLines {T = Unit {0}} q (lines_behind (begun_behind [] i.w) piece) (g.K.Sink.held c.reads.output) (g.K.Sink.held c.pass_lines.new.output) (Err c.in-Err-pass_lines.trouble)) i.plans (c.in-Err-pass_lines.ensures.passes i.w i.begun))
    (consumes-then _ _ _ _ _ i.consumed c.in-Ok.ensures.bytes.0)
    (λ e. let bad : false ≡ true = e in cc)
    (search rules) i.written c.in-Err-pass_lines.ensures.cause
    c.status_after-in-Err-pass_lines.ensures

pub returns-then-total-gt-MOST_INPUT-clause-pumped : goal.returns-then-total-gt-MOST_INPUT-clause-pumped
returns-then-total-gt-MOST_INPUT-clause-pumped g c =
    let i = c.reads.invariant in
    let ps = c.args.answers.now.plans in
    let piece = take c.in-Ok.count c.read.new.buf in
    let k = subst (λ (q : List StagePlan). WritesTexts q (lines_behind (begun_behind [] i.w) piece) (g.K.Sink.held c.reads.output) (g.K.Sink.held c.pass_lines.new.output)) i.plans (c.in-Ok-pass_lines.ensures.passes i.w i.begun) in
    past_most ps _ _ _ (i.w ++ piece) _ (answered_more ps i.w piece _ _ _ i.answered k) refl
    (consumes-then _ _ _ _ _ i.consumed c.in-Ok.ensures.bytes.0)
    (let same = piece-length i.w c.read.new.buf c.in-Ok.count c.reads.total (omega (arith, c.in-Ok.ensures.bound, c.reads.auto.block)) i.count in
    let given : c.in-Ok.count ≤ last_given (length c.args.block.now) (g.S.Source.reads c.read.new.self) = last-read _ _ _ _ _ (omega (arith, c.in-Ok.ensures.bound, c.reads.auto.block)) c.in-Ok.ensures.asked in
    (omega arith, omega (arith, same, given, i.few)))
    (search rules) (search rules)

-- each read gave a byte, so there would have been too many
pub returns-clause-pumped : goal.returns-clause-pumped
returns-clause-pumped g c = let i = c.reads.invariant in absurd (omega (arith, c.reads-test.false, i.some, i.few))

-- ---- what was asked for

pub returns-in-Ok-pass_last-clause-asks : goal.returns-in-Ok-pass_last-clause-asks
returns-in-Ok-pass_last-clause-asks g c = asks-on _ _ _ _ _ _ c.reads.auto.block c.reads.invariant.asked c.in-Ok-eq0.ensures.asked

pub returns-in-Err-pass_last-clause-asks : goal.returns-in-Err-pass_last-clause-asks
returns-in-Err-pass_last-clause-asks g c = asks-on _ _ _ _ _ _ c.reads.auto.block c.reads.invariant.asked c.in-Ok-eq0.ensures.asked

pub returns-in-Err-pass_lines-clause-asks : goal.returns-in-Err-pass_lines-clause-asks
returns-in-Err-pass_lines-clause-asks g c = asks-on _ _ _ _ _ _ c.reads.auto.block c.reads.invariant.asked c.in-Ok.ensures.asked

pub returns-then-total-gt-MOST_INPUT-clause-asks : goal.returns-then-total-gt-MOST_INPUT-clause-asks
returns-then-total-gt-MOST_INPUT-clause-asks g c = asks-on _ _ _ _ _ _ c.reads.auto.block c.reads.invariant.asked c.in-Ok.ensures.asked

pub returns-in-Err-clause-asks : goal.returns-in-Err-clause-asks
returns-in-Err-clause-asks g c = asks-on _ _ _ _ _ _ c.reads.auto.block c.reads.invariant.asked c.in-Err.ensures.asked

-- ---- whether the sink is open

pub returns-in-Ok-pass_last-clause-unclosed : goal.returns-in-Ok-pass_last-clause-unclosed
returns-in-Ok-pass_last-clause-unclosed g c = open-worked _ _ Done (c.in-Ok-pass_last.ensures.unfinished ∙ c.reads.invariant.unfinished)

pub returns-in-Err-pass_last-clause-unclosed : goal.returns-in-Err-pass_last-clause-unclosed
returns-in-Err-pass_last-clause-unclosed g c =
    open-broken _ _ _ _ c.status_after.ensures (c.in-Err-pass_last.ensures.unfinished ∙ same-finishes _ _ c.reads.invariant.unfinished)

pub returns-in-Err-pass_lines-clause-unclosed : goal.returns-in-Err-pass_lines-clause-unclosed
returns-in-Err-pass_lines-clause-unclosed g c =
    open-broken _ _ _ _ c.status_after-in-Err-pass_lines.ensures (c.in-Err-pass_lines.ensures.unfinished ∙ same-finishes _ _ c.reads.invariant.unfinished)

pub returns-then-total-gt-MOST_INPUT-clause-unclosed : goal.returns-then-total-gt-MOST_INPUT-clause-unclosed
returns-then-total-gt-MOST_INPUT-clause-unclosed g c = open-worked _ _ InputTooLong (c.in-Ok-pass_lines.ensures.unfinished ∙ c.reads.invariant.unfinished)

pub returns-in-Err-clause-unclosed : goal.returns-in-Err-clause-unclosed
returns-in-Err-clause-unclosed g c = open-worked _ _ ReadFault c.reads.invariant.unfinished

pub reads-preserved : goal.reads-preserved
reads-preserved g c =
    let i = c.reads.invariant in
    let ps = c.args.answers.now.plans in
    let piece = take c.in-Ok.count c.read.new.buf in
    let k = subst (λ (q : List StagePlan). WritesTexts q (lines_behind (begun_behind [] i.w) piece) (g.K.Sink.held c.reads.output) (g.K.Sink.held c.pass_lines.new.output)) i.plans (c.in-Ok-pass_lines.ensures.passes i.w i.begun) in
    record {
      plans = c.pass_lines.ensures.plans ∙ i.plans;
      w = i.w ++ piece;
      count = piece-length i.w c.read.new.buf c.in-Ok.count c.reads.total (omega (arith, c.in-Ok.ensures.bound, c.reads.auto.block)) i.count;
      few = omega arith;
      some = omega arith;
      begun = c.in-Ok-pass_lines.ensures.reads i.w i.begun;
      consumed = consumes-then _ _ _ _ _ i.consumed c.in-Ok.ensures.bytes.0;
      answered = answered_more ps i.w piece _ _ _ i.answered k;
      read = search rules;
      written = search rules;
      asked = asks-on _ _ _ _ _ _ c.reads.auto.block i.asked c.in-Ok.ensures.asked;
      unfinished = c.in-Ok-pass_lines.ensures.unfinished ∙ i.unfinished;
    }
