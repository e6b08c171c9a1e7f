use Rattle.std.proofs.Common.{◌≡◌, ◌++◌, ◌≤◌, ◌∙◌, [], List, ℕ, ap, arith, length, length-append, refl, sym, take}
use Rattle.std.proofs.lemmas.Grind.{common_steps}
use Rattle.kex_ports.proofs.Endings.{failed-on, unfinished-at, written-on}
use Rattle.kex_ports.proofs.Known.{appends-then, front-then, front-same}
use Rattle.kex_words.proofs.Writes.{on-err}
use Rattle.kex_words.proofs.writing.write_all.Goals as goal

-- Of no bytes none are left.
none-left : (all done rest : List ℕ) → all ≡ done ++ rest → all ≡ [] → length rest ≡ 0
none-left all done rest split none =
    omega (arith, ap (λ z. length z) none, ap (λ z. length z) split ∙ length-append done rest)

pub loop-rest-preserved : goal.loop-rest-preserved
loop-rest-preserved g c =
    let i = c.loop-rest.invariant in
    let wrote = c.in_ok-count in
    let n = wrote.count in
    let before = i.written.1 in
    let within : n ≤ length c.loop-rest.rest.now = omega (arith, wrote.ensures.bound) in
    record {
      written = (
        i.written.0 ++ take n c.loop-rest.rest.now,
        grind (arith, common_steps),
        appends-then _ _ _ _ _ i.written.2 wrote.ensures.taken,
      );
      kept = cc wrote.ensures.cause.kept;
      unfinished = written-on _ _ _ i.unfinished wrote.ensures.ending;
      left = λ none. (
          let ended : length c.loop-rest.rest.now ≡ 0 =
          none-left c.args.bytes.now i.written.0 c.loop-rest.rest.now i.written.1 none in
          grind (arith, common_steps));
    }

pub returns-in_err-count-clause-failed : goal.returns-in_err-count-clause-failed
returns-in_err-count-clause-failed g c =
    let i = c.loop-rest.invariant in
    on-err _ _ (front-same _ _ _ _ (sym i.written.1) (front-then _ _ _ _ _ i.written.2 c.in_err-count.ensures.failed))

pub returns-in_err-count-clause-unfinished : goal.returns-in_err-count-clause-unfinished
returns-in_err-count-clause-unfinished g c =
    unfinished-at _ _ _ c.from_residual.ensures.0 (failed-on _ _ _ c.loop-rest.invariant.unfinished c.in_err-count.ensures.ending)

pub returns-in_err-count-clause-left : goal.returns-in_err-count-clause-left
returns-in_err-count-clause-left g c none =
    let i = c.loop-rest.invariant in
    let ended : length c.loop-rest.rest.now ≡ 0 = none-left c.args.bytes.now i.written.0 c.loop-rest.rest.now i.written.1 none in
    grind (arith, common_steps)

pub returns-clause-left : goal.returns-clause-left
returns-clause-left g c none = (refl, c.loop-rest.invariant.left none)
