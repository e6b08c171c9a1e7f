use Rattle.std.proofs.Common.{rules, arith, ◌≡◌, ◌++◌, ◌<◌, ◌≤◌, ◌∙◌, inl, ℕ, List, [], true, false, refl, sym, take, length, length-take, subst}
use Rattle.std.proofs.lemmas.Grind.{common_steps}
use Rattle.std.specs.Prelude.{Some, None}
use Rattle.kex_ports.proofs.Known.{consumes-then, consumes-last, consumes-nothing, appends-nothing, appends-same, appends-then, append-nil}
use Rattle.kex_ports.proofs.ReadRequests.{asks-on, last-read}
use Rattle.kex_ports.proofs.Endings.{same-finishes}
use Rattle.kex_pipeline.specs.History.{StagesFed}
use Rattle.kex_top.specs.declared.status.Status.TheVariants.{ReadFault}
use Rattle.kex_pipeline.specs.Piped.{PipeSays, limit_of, plans_of, stages_of}
use Rattle.kex_pipeline.specs.Sayings.{AlwaysSays}
use Rattle.kex_pipeline.specs.PipelineLaws.{says_grows, says_ends}
use Rattle.kex_top.proofs.PortCalls.{open-broken, open-worked}
use Rattle.kex_top.proofs.WholeRuns.{worked, broken, broken-first, some-not-none}
use Rattle.kex_top.proofs.stream.pump.Goals as goal

short-piece : (buf : List ℕ) (n most : ℕ) → n ≤ most → length (take n buf) ≤ most
short-piece buf n most le = omega (arith, length-take n buf)

pub returns-in-Ok-pass_end-clause-pumped : goal.returns-in-Ok-pass_end-clause-pumped
returns-in-Ok-pass_end-clause-pumped g c =
    let i = c.reads.invariant in
    let w = i.fed.0 in
    let f : StagesFed = record { bytes = w; ended = false; said = i.fed.1 } in
    let x = c.in-Ok-pass_end.ensures.writes (Some f) i.fed.3 refl in
    worked (PipeSays g.T.Turn) _ _ i.same (Some f) _ _ _ _ w true _ _ _ _
    (consumes-last _ _ _ _ _ _ (omega arith) i.fed.5 c.in-Ok-eq0.ensures.bytes.0)
    (λ e. c.in-Ok-eq0.ensures.bytes.1 (omega arith) (omega arith))
    (search rules) (search rules) i.fed.7 x
    c.status_of-in-Ok-pass_end.ensures
    (c.rejected-in-Ok-pass_end.ensures (record { bytes = w; ended = true; said = x.said }) x.stands_for)
    (λ e. refl) (i.fed.1, i.fed.2)

pub returns-in-Err-pass_end-clause-pumped : goal.returns-in-Err-pass_end-clause-pumped
returns-in-Err-pass_end-clause-pumped g c =
    let laws = g.met.T.Turn g.world.𝓛 g.world.𝓜 g.world.𝓡 ((λ s x. x), (λ x. x), (λ x. x), λ x. x) in
    let i = c.reads.invariant in
    let w = i.fed.0 in
    let f : StagesFed = record { bytes = w; ended = false; said = i.fed.1 } in
    broken (PipeSays g.T.Turn) _ _ i.same f _ _ _ _ w true _ [] (append-nil w) (omega arith) i.fed.2 i.fed.7 (says_grows g.T.Turn.gives laws.one laws.grows laws.stays laws.ends) _ _
    (consumes-last _ _ _ _ _ _ (omega arith) i.fed.5 c.in-Ok-eq0.ensures.bytes.0)
    (λ e. c.in-Ok-eq0.ensures.bytes.1 (omega arith) (omega arith))
    (search rules)
    (c.in-Err-pass_end.ensures.trouble (Some f) i.fed.3 refl)
    i.written c.in-Err-pass_end.ensures.cause
    c.status_after-in-Err-pass_end.ensures

pub returns-in-Ok-Stopped-pass-clause-pumped : goal.returns-in-Ok-Stopped-pass-clause-pumped
returns-in-Ok-Stopped-pass-clause-pumped g c =
    let i = c.reads.invariant in
    let w = i.fed.0 in
    let f : StagesFed = record { bytes = w; ended = false; said = i.fed.1 } in
    let v = w ++ take c.in-Ok.count c.read.new.buf in
    let x = c.in-Ok-Stopped-pass.ensures.writes (Some f) i.fed.3 refl in
    let report = c.rejected-in-Ok-Stopped-pass.ensures (record { bytes = v; ended = false; said = x.said }) x.stands_for in
    let fate = rw c.in-Ok-Stopped-pass.field-0-is at x.is_fate in
    worked (PipeSays g.T.Turn) _ _ i.same (Some f) _ _ _ _ v false _ _ _ _
    (consumes-then _ _ _ _ _ i.fed.5 c.in-Ok.ensures.bytes.0)
    (λ e. let bad : false ≡ true = e in cc)
    (search rules) (search rules) i.fed.7 x
    c.status_of-in-Ok-Stopped-pass.ensures
    report
    (λ none. absurd (some-not-none _ _ report fate none))
    (x.said, subst (λ q. PipeSays g.T.Turn q v false x.said) i.same x.is_said)

pub returns-in-Err-pass-clause-pumped : goal.returns-in-Err-pass-clause-pumped
returns-in-Err-pass-clause-pumped g c =
    let laws = g.met.T.Turn g.world.𝓛 g.world.𝓜 g.world.𝓡 ((λ s x. x), (λ x. x), (λ x. x), λ x. x) in
    let i = c.reads.invariant in
    let w = i.fed.0 in
    let f : StagesFed = record { bytes = w; ended = false; said = i.fed.1 } in
    let piece = take c.in-Ok.count c.read.new.buf in
    broken (PipeSays g.T.Turn) _ _ i.same f _ _ _ _ (w ++ piece) false _ piece refl (short-piece _ c.in-Ok.count _ (last-read _ _ _ _ _ (omega (arith, c.in-Ok.ensures.bound, c.reads.auto.block)) c.in-Ok.ensures.asked)) i.fed.2 i.fed.7 (says_grows g.T.Turn.gives laws.one laws.grows laws.stays laws.ends) _ _
    (consumes-then _ _ _ _ _ i.fed.5 c.in-Ok.ensures.bytes.0)
    (λ e. let bad : false ≡ true = e in cc)
    (search rules)
    (c.in-Err-pass.ensures.trouble (Some f) i.fed.3 refl)
    i.written c.in-Err-pass.ensures.cause
    c.status_after-in-Err-pass.ensures

pub returns-in-Ok-Stopped-clause-pumped : goal.returns-in-Ok-Stopped-clause-pumped
returns-in-Ok-Stopped-clause-pumped g c =
    let x = c.in-Ok-Stopped.ensures.writes None c.requires.fresh refl in
    let report = c.rejected.ensures (record { bytes = []; ended = false; said = x.said }) x.stands_for in
    let fate = rw c.in-Ok-Stopped.field-0-is at x.is_fate in
    worked (PipeSays g.T.Turn) _ _ refl None _ _ _ _ [] false _ _ _ _
    (consumes-nothing _) (λ e. let bad : false ≡ true = e in cc) refl (search rules) (appends-nothing _) x
    c.status_of.ensures report
    (λ none. absurd (some-not-none _ _ report fate none))
    (x.said, x.is_said)

pub returns-in-Err-read-clause-pumped : goal.returns-in-Err-read-clause-pumped
returns-in-Err-read-clause-pumped g c =
    let i = c.reads.invariant in (
      record {
        w = i.fed.0;
        e = false;
        read = search rules;
        ended = λ e. let bad : false ≡ true = e in cc;
        ends = (refl, record { said = i.fed.1; is_said = i.fed.2; reports = i.fed.6; appended = i.fed.7 }, search rules, search rules);
      },
      λ whole. (i.fed.1, i.fed.2),
    )

pub returns-in-Err-clause-pumped : goal.returns-in-Err-clause-pumped
returns-in-Err-clause-pumped g c =
    let laws = g.met.T.Turn g.world.𝓛 g.world.𝓜 g.world.𝓡 ((λ s x. x), (λ x. x), (λ x. x), λ x. x) in
    let plans = plans_of g.T.Turn c.args.pipe.now in
    broken-first (PipeSays g.T.Turn plans) _ _ _ _ (says_grows g.T.Turn.gives laws.one laws.grows laws.stays laws.ends plans) _ (consumes-nothing _) refl (c.in-Err.ensures.trouble None c.requires.fresh refl) c.in-Err.ensures.cause c.status_after.ensures

-- past the limit there would have been a report
pub returns-clause-pumped : goal.returns-clause-pumped
returns-clause-pumped g c =
    let limited = g.met.T.Limited g.world.𝓛 g.world.𝓜 g.world.𝓡 ((λ s x. x), (λ x. x), (λ x. x), λ x. x) in
    let i = c.reads.invariant in
    let past : limit_of g.T.Turn g.T.Limited.limit c.args.pipe.now < length i.fed.0 = omega (arith, c.reads-test.false, i.fed.4, c.requires.limit) in
    absurd (some-not-none _ _ refl ((says_ends g.T.Turn.gives g.T.Turn.plan g.T.Limited.limit (λ s v b gives more. limited.past_limit s v b gives more) (stages_of g.T.Turn c.args.pipe.now)) _ _ i.fed.2 past) i.fed.6)

-- ---- what was asked for

pub returns-in-Ok-pass_end-clause-asks : goal.returns-in-Ok-pass_end-clause-asks
returns-in-Ok-pass_end-clause-asks g c = asks-on _ _ _ _ _ _ c.reads.auto.block c.reads.invariant.asked c.in-Ok-eq0.ensures.asked

pub returns-in-Err-pass_end-clause-asks : goal.returns-in-Err-pass_end-clause-asks
returns-in-Err-pass_end-clause-asks g c = asks-on _ _ _ _ _ _ c.reads.auto.block c.reads.invariant.asked c.in-Ok-eq0.ensures.asked

pub returns-in-Ok-Stopped-pass-clause-asks : goal.returns-in-Ok-Stopped-pass-clause-asks
returns-in-Ok-Stopped-pass-clause-asks g c = asks-on _ _ _ _ _ _ c.reads.auto.block c.reads.invariant.asked c.in-Ok.ensures.asked

pub returns-in-Err-pass-clause-asks : goal.returns-in-Err-pass-clause-asks
returns-in-Err-pass-clause-asks g c = asks-on _ _ _ _ _ _ c.reads.auto.block c.reads.invariant.asked c.in-Ok.ensures.asked

pub returns-in-Err-read-clause-asks : goal.returns-in-Err-read-clause-asks
returns-in-Err-read-clause-asks g c = asks-on _ _ _ _ _ _ c.reads.auto.block c.reads.invariant.asked c.in-Err-read.ensures.asked

-- ---- whether the sink is open

pub returns-in-Ok-pass_end-clause-unclosed : goal.returns-in-Ok-pass_end-clause-unclosed
returns-in-Ok-pass_end-clause-unclosed g c = open-worked _ _ _ (c.in-Ok-pass_end.ensures.unfinished ∙ c.reads.invariant.unfinished)

pub returns-in-Err-pass_end-clause-unclosed : goal.returns-in-Err-pass_end-clause-unclosed
returns-in-Err-pass_end-clause-unclosed g c =
    open-broken _ _ _ _ c.status_after-in-Err-pass_end.ensures (c.in-Err-pass_end.ensures.unfinished ∙ same-finishes _ _ c.reads.invariant.unfinished)

pub returns-in-Ok-Stopped-pass-clause-unclosed : goal.returns-in-Ok-Stopped-pass-clause-unclosed
returns-in-Ok-Stopped-pass-clause-unclosed g c = open-worked _ _ _ (c.in-Ok-Stopped-pass.ensures.unfinished ∙ c.reads.invariant.unfinished)

pub returns-in-Err-pass-clause-unclosed : goal.returns-in-Err-pass-clause-unclosed
returns-in-Err-pass-clause-unclosed g c =
    open-broken _ _ _ _ c.status_after-in-Err-pass.ensures (c.in-Err-pass.ensures.unfinished ∙ same-finishes _ _ c.reads.invariant.unfinished)

pub returns-in-Ok-Stopped-clause-unclosed : goal.returns-in-Ok-Stopped-clause-unclosed
returns-in-Ok-Stopped-clause-unclosed g c = open-worked _ _ _ c.in-Ok-Stopped.ensures.unfinished

pub returns-in-Err-read-clause-unclosed : goal.returns-in-Err-read-clause-unclosed
returns-in-Err-read-clause-unclosed g c = open-worked _ _ ReadFault c.reads.invariant.unfinished

-- ---- the loop

pub reads-init : goal.reads-init
reads-init g c =
    let x = c.in-Ok-On.ensures.writes None c.requires.fresh refl in
    record {
      same = c.in-Ok-On.ensures.same;
      fed = ([], x.said, x.is_said, x.stands_for, omega arith, consumes-nothing _, rw c.in-Ok-On.field-0-is at x.is_fate, appends-same _ _ _ _ (sym x.whole) x.appended);
      read = refl;
      written = search rules;
      asked = inl refl;
      unfinished = c.in-Ok-On.ensures.unfinished;
    }

pub pass-requires-in-Ok-clause-stands : goal.pass-requires-in-Ok-clause-stands
pass-requires-in-Ok-clause-stands g c = λ κs bounds. let i = c.reads.invariant in (Some (record { bytes = i.fed.0; ended = false; said = i.fed.1 }), i.fed.3, refl)

pub pass-requires-in-Ok-clause-says : goal.pass-requires-in-Ok-clause-says
pass-requires-in-Ok-clause-says g c = λ κs bounds by_parts. subst (λ q. AlwaysSays (PipeSays g.T.Turn q)) (sym c.reads.invariant.same) (c.requires.says by_parts)

pub pass_end-requires-after_bounds : goal.pass_end-requires-after_bounds
pass_end-requires-after_bounds g c = λ κs bounds. let i = c.reads.invariant in (Some (record { bytes = i.fed.0; ended = false; said = i.fed.1 }), i.fed.3, refl)

pub reads-preserved : goal.reads-preserved
reads-preserved g c =
    let i = c.reads.invariant in
    let w = i.fed.0 in
    let f : StagesFed = record { bytes = w; ended = false; said = i.fed.1 } in
    let piece = take c.in-Ok.count c.read.new.buf in
    let x = c.in-Ok-On-pass.ensures.writes (Some f) i.fed.3 refl in
    record {
      same = search rules;
      fed = (
        w ++ piece,
        x.said,
        subst (λ q. PipeSays g.T.Turn q (w ++ piece) false x.said) i.same x.is_said,
        x.stands_for,
        grind (arith, common_steps),
        consumes-then _ _ _ _ _ i.fed.5 c.in-Ok.ensures.bytes.0,
        rw c.in-Ok-On-pass.field-0-is at x.is_fate,
        appends-same _ _ _ _ (sym x.whole) (appends-then _ _ _ _ _ i.fed.7 x.appended),
      );
      read = search rules;
      written = search rules;
      asked = asks-on _ _ _ _ _ _ c.reads.auto.block i.asked c.in-Ok.ensures.asked;
      unfinished = c.in-Ok-On-pass.ensures.unfinished ∙ i.unfinished;
    }
