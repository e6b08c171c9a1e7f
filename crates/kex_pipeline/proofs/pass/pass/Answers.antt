use Rattle.std.proofs.Common.{rules, ◌++◌, ◌∙◌, ℕ, List, false, refl, sym, subst, take}
use Rattle.std.proofs.lemmas.Result.{err_from_is_err_and}
use Rattle.std.specs.Prelude.{Some}
use Rattle.kex_ports.proofs.Endings.{same-finishes}
use Rattle.kex_ports.proofs.Known.{appends-same, front-same}
use Rattle.kex_pipeline.specs.History.{FeedsStages, History, IsSaidSoFar, bytes_passed}
use Rattle.kex_pipeline.specs.Piped.{PipeSays, PipeStands, plans_of}
use Rattle.kex_pipeline.specs.PipelineLaws.{says_grows}
use Rattle.kex_pipeline.proofs.BlockFronts.{Passing, all-passed, failed, front-passed, said-open, wanted, what-is-left}
use Rattle.kex_pipeline.proofs.pass.pass.Goals as goal

pub returns-in_err-front-clause-trouble : goal.returns-in_err-front-clause-trouble
returns-in_err-front-clause-trouble g c =
    let r = err_from_is_err_and c.from_residual.result c.from_residual.ensures.1 in
    rw (r.1, r.2) (λ h s is_open.
    let t = g.T.Turn in
    let i = c.fronts.invariant in
    let p = i.passing h s is_open in
    wanted (PipeSays t (plans_of t c.args.pipe.now)) (PipeStands t c.fronts.pipe) h _ c.fronts.rest.now _ _ p (subst (λ q. IsSaidSoFar (PipeSays t q) p.now) i.same (said-open t c.fronts.pipe p.now p.stands_for p.is_open)))

pub returns-in_err-front-clause-unfinished : goal.returns-in_err-front-clause-unfinished
returns-in_err-front-clause-unfinished g c =
    let r = err_from_is_err_and c.from_residual.result c.from_residual.ensures.1 in
    rw r.1 (same-finishes _ _ c.fronts.invariant.unfinished)

pub returns-in_err-write_all-clause-trouble : goal.returns-in_err-write_all-clause-trouble
returns-in_err-write_all-clause-trouble g c =
    let r = err_from_is_err_and c.from_residual-in_err-write_all.result c.from_residual-in_err-write_all.ensures.1 in
    rw (r.1, r.2) (λ h s is_open.
    let t = g.T.Turn in
    let laws = g.met.T.Turn g.world.𝓛 g.world.𝓜 g.world.𝓡 ((λ s x. x), (λ x. x), (λ x. x), λ x. x) in
    let i = c.fronts.invariant in
    let p = i.passing h s is_open in
    let plans = plans_of t c.args.pipe.now in
    let rest : List ℕ = c.fronts.rest.now in
    let n : ℕ = c.in_ok-front.front.count in
    let x = subst (λ q. FeedsStages (PipeSays t q) (PipeStands t c.feed.new.pipe) p.now (bytes_passed p.now ++ take n rest) false c.feed.new.out.items c.in_ok-front.front.fate) i.same (c.in_ok-front.ensures.feeds p.now p.stands_for p.is_open) in
    failed (PipeSays t plans) (PipeStands t c.fronts.pipe) h _ rest _ _ p (PipeStands t c.feed.new.pipe) n c.feed.new.out.items c.in_ok-front.front.fate x _ c.args.pace c.in_ok-front.ensures.front c.requires.says
    (says_grows t.gives laws.one laws.grows laws.stays laws.ends plans)
    (front-same _ _ _ _ c.deref.ensures.value c.in_err-write_all.ensures.failed))

pub returns-then-front-rest-clause-writes : goal.returns-then-front-rest-clause-writes
returns-then-front-rest-clause-writes g c = λ h s is_open.
    let t = g.T.Turn in
    let i = c.fronts.invariant in
    let p = i.passing h s is_open in
    let rest : List ℕ = c.fronts.rest.now in
    let n : ℕ = c.in_ok-front.front.count in
    let x = subst (λ q. FeedsStages (PipeSays t q) (PipeStands t c.feed.new.pipe) p.now (bytes_passed p.now ++ take n rest) false c.feed.new.out.items c.in_ok-front.front.fate) i.same (c.in_ok-front.ensures.feeds p.now p.stands_for p.is_open) in
    all-passed (PipeSays t (plans_of t c.args.pipe.now)) (PipeStands t c.fronts.pipe) h _ rest _ _ p (PipeStands t c.feed.new.pipe) n c.feed.new.out.items c.in_ok-front.front.fate x _ (search rules) (appends-same _ _ _ _ c.deref.ensures.value c.in_ok-write_all.ensures.written)

pub fronts-preserved : goal.fronts-preserved
fronts-preserved g c =
    let t = g.T.Turn in
    let i = c.fronts.invariant in
    let rest : List ℕ = c.fronts.rest.now in
    let n : ℕ = c.in_ok-front.front.count in
    let stands : History → Type 0 = λ k. PipeStands t c.feed.new.pipe k in
    let was = c.in_ok-front.ensures.feeds i.stands.0 i.stands.1 i.stands.2 in
    record {
      same = c.in_ok-front.ensures.same ∙ i.same;
      stands = (Some (record { bytes = bytes_passed i.stands.0 ++ take n rest; ended = false; said = was.said }), was.stands_for, refl);
      passing = λ h s is_open.
          let p = i.passing h s is_open in
          let x = subst (λ q. FeedsStages (PipeSays t q) stands p.now (bytes_passed p.now ++ take n rest) false c.feed.new.out.items c.in_ok-front.front.fate) i.same (c.in_ok-front.ensures.feeds p.now p.stands_for p.is_open) in
          subst (λ z. Passing stands h (bytes_passed h ++ c.args.block.now) z (g.K.Sink.held c.args.output.now) (g.K.Sink.held c.write_all.new.sink)) (sym (what-is-left rest n c.in_ok-front.ensures.front.within))
          (front-passed (PipeSays t (plans_of t c.args.pipe.now)) (PipeStands t c.fronts.pipe) h _ rest _ _ p stands n c.feed.new.out.items c.in_ok-front.front.fate x _ (appends-same _ _ _ _ c.deref.ensures.value c.in_ok-write_all.ensures.written));
      written = search rules;
      unfinished = search rules;
    }
