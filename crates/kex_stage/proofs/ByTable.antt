-- An oracle that goes by a table.
use Rattle.std.proofs.Common.{◌≡◌, ℕ, ◌<◌, ◌≤◌, ◌+◌, true, false, List, [], ◌∷◌, ◌++◌, ⊎_elim, Option, Some, None, length, take, drop, refl, sym, ap, subst, ◌∙◌, append_assoc, append-nil, arith, length-append, length-take, take-append-drop}
use Rattle.kex_code.specs.declared.symbol.Symbol.{Symbol}
use Rattle.kex_code.specs.Codes.{Begins, bytes_of}
use Rattle.kex_model.specs.Moves.{code_of}
use Rattle.kex_model.proofs.OpenAnswers.{same_front}
use Rattle.kex_model.proofs.Walks.{bytes_of-append}
use Rattle.kex_model.proofs.Derivations.{walk-append, code_of-append}
use Rattle.kex_machine.specs.Nodes.{Graph, node_moves, IsTrimmed}
use Rattle.kex_machine.specs.Answers.{IsViableFor, HasRun}
use Rattle.kex_machine.proofs.Ranges.{is_trim}
use Rattle.kex_machine.proofs.LongestFronts.{no_parse}
use Rattle.kex_sst.specs.Tables.{Transducer}
use Rattle.kex_sst.specs.Passes.{Pass, first_pass, passes, whole_code}
use Rattle.kex_runner.specs.Running.{Running, HasNoEnd, IsRunnerFed, IsRunOf, IsRunnerLive, IsRunnerDead, HasPassed, RunnerFeeds, RunnerEnds, pass_of}
use Rattle.kex_runner.specs.declared.answers.Fed.{Fed}
use Rattle.kex_runner.specs.declared.answers.Fed.TheVariants.{On, Dead}
use Rattle.kex_runner.specs.declared.answers.Ended.TheVariants.{Parsed, Cut}
use Rattle.kex_runner.proofs.FedRunners.{stopped_none}
use Rattle.kex_stage.specs.declared.follower.Follower.{Follower}
use Rattle.kex_stage.specs.declared.oracle.Oracle.{Oracle}
use Rattle.kex_stage.specs.declared.oracle.Oracle.TheVariants.{Table}
use Rattle.kex_plan.specs.declared.plan.Telling.{Telling}
use Rattle.kex_plan.specs.Plans.{IsTableAs, ToldBy}
use Rattle.kex_stage.specs.Oracles.{Hears, Agrees, HearsOn, Tells, TellsEnd}
use Rattle.kex_stage.proofs.ToldCodes.{greedy_told, viable_told}
use Rattle.kex_stage.proofs.OracleAnswers.{take_all}

module _ (k : Telling) (g : Graph) (t : Transducer) (trimmed : IsTrimmed g) (of : IsTableAs k g t) where
  -- a text that can go on goes on to one with a parse, whose greedy code begins with what is passed on
  pub table_agrees : (w : List ℕ) (p : Pass) → passes t w ≡ Some p → Agrees k g w p.code
  table_agrees w p e = by (viable_told k g w p.code told)
    where
      told : ToldBy k g w p.code
      told = of.goes_on w p e

      with_parse : (v : List ℕ) → HasRun g (w ++ v) → Agrees k g w p.code
      with_parse v h = at (passes t (w ++ v)) refl
        where
          ends : (q : Pass) → passes t (w ++ v) ≡ Some q → (o : Option (List Symbol)) → whole_code t q ≡ o → Agrees k g w p.code
          ends q f None whole = absurd (of.cut (w ++ v) q f whole h)
          ends q f (Some d) whole =
              let parsed = of.parsed (w ++ v) q d f whole in
              let greedy = parsed.greedy in
              let path = greedy.2.reached in
              record {
                told = told;
                run = path.0;
                runs = (greedy.0, path.1.walk, greedy.1);
                begins = let b = greedy_told k g w v p.code d told parsed in (b.0, path.2 ∙ b.1);
                reads = (v, path.1.reads);
              }

          at : (o : Option Pass) → passes t (w ++ v) ≡ o → Agrees k g w p.code
          at None f = absurd (no_parse g (is_trim g trimmed) (w ++ v) (of.stops (w ++ v) f) h)
          at (Some q) f = ends q f (whole_code t q) refl

      by : IsViableFor g w → Agrees k g w p.code
      by (q, (c, (ks, path, is), (js, e, walk, end))) =
          with_parse (bytes_of (code_of js)) (
            ks ++ js,
            (e, walk-append (node_moves g.nodes) ks js g.start q e path.walk walk, end),
            ap (λ z. bytes_of z) (code_of-append ks js) ∙ bytes_of-append (code_of ks) (code_of js) ∙ ap (λ z. z ++ bytes_of (code_of js)) path.reads,
          )

  -- where a text can go on, no byte of it was refused
  pub still_live : (r : Running) (w : List ℕ) (c : List Symbol) → r.table ≡ t → IsRunOf r w c → IsViableFor g w → HasPassed r w c
  still_live r w c e s v = ⊎_elim (λ l. l.1) (λ x. absurd (of.stops w (subst (λ z. passes z w ≡ None) e (stopped_none x.1.1)) v)) s

  pub begins_good : IsViableFor g []
  begins_good = viable_told k g [] _ (of.goes_on [] (first_pass t.initial) refl)

fed_stands : (answer : Fed) (r : Running) (w : List ℕ) (c : List Symbol) → IsRunnerFed answer r w c → IsRunOf r w c
fed_stands On r w c h = h.1
fed_stands Dead r w c h = h.1

no_end : (t : Transducer) (o : Option Pass) (p : Pass) → o ≡ Some p → HasNoEnd t o → whole_code t p ≡ None
no_end t o p e h = subst (λ z. HasNoEnd t z) e h

-- the oracle tells what a runner passes on along a piece
pub table_tells : (answer : Fed) (f0 f1 : Follower) (piece : List ℕ) (count : ℕ) (before after : List Symbol) → f1.moves ≡ f0.moves → f1.runner.table ≡ f0.runner.table → RunnerFeeds answer f0.runner f1.runner piece before after → f1.runner.read ≡ f0.runner.read + count → count ≤ length piece → Tells (Table f0) (Table f1) piece count before after
table_tells answer f0 f1 piece count before after moves same f read within = record {
  more = f.more;
  code = f.code;
  within = within;
  tells = λ k g w c h v. on k g w c h.0 h.1 h.2 (still_live k g f0.runner.table h.0 h.1 f0.runner w c refl h.3 v) (fed_stands answer f1.runner (w ++ piece) (c ++ f.more) (f.fed w c h.3));
}
  where
    on : (k : Telling) (g : Graph) (w : List ℕ) (c : List Symbol) → IsTrimmed g → IsTableAs k g f0.runner.table → f0.moves.table ≡ f0.runner.table → HasPassed f0.runner w c → IsRunOf f1.runner (w ++ piece) (c ++ f.more) → HearsOn k g (Table f1) w piece count (c ++ f.more)
    on k g w c trimmed of learnt was s = ⊎_elim live dead s
      where
        of_new : IsTableAs k g f1.runner.table
        of_new = subst (λ z. IsTableAs k g z) (sym same) of

        told : (v : List ℕ) → HasPassed f1.runner v (c ++ f.more) → Agrees k g v (c ++ f.more)
        told v h = subst (λ z. Agrees k g v z) (ap (λ z. (c ++ f.more) ++ z) f.told ∙ append-nil (c ++ f.more)) (table_agrees k g f1.runner.table trimmed of_new v (pass_of f1.runner (c ++ f.more)) h.passes)

        live : IsRunnerLive f1.runner (w ++ piece) (c ++ f.more) → HearsOn k g (Table f1) w piece count (c ++ f.more)
        live l =
            let all : count ≡ length piece = omega (arith, read, l.1.count, was.count, length-append w piece) in
            let whole : take count piece ≡ piece = ap (λ z. take z piece) all ∙ take_all piece in
            let agrees = told (w ++ piece) l.1 in
            record {
              hears = λ e. (trimmed, of_new, ap (λ z. z.table) moves ∙ learnt ∙ sym same, s);
              good = subst (λ z. IsViableFor g (w ++ z)) (sym whole) (viable_told k g (w ++ piece) (c ++ f.more) agrees.told);
              bad = λ lt. absurd (omega (arith, lt, all));
              agrees = subst (λ z. Agrees k g (w ++ z) (c ++ f.more)) (sym whole) agrees;
            }

        dead : IsRunnerDead f1.runner (w ++ piece) (c ++ f.more) → HearsOn k g (Table f1) w piece count (c ++ f.more)
        dead (d, (v, stop, h)) =
            let long : length v ≡ length w + count = omega (arith, read, h.count, was.count) in
            let less : count < length piece = omega (arith, long, ap length stop.front, length-append w piece, length-append v (stop.byte ∷ stop.rest)) in
            let front : (k : ℕ) → Begins (w ++ piece) (w ++ take k piece) = λ k. (drop k piece, ap (λ z. w ++ z) (sym (take-append-drop k piece)) ∙ sym (append_assoc w (take k piece) (drop k piece))) in
            let here : v ≡ w ++ take count piece = same_front (w ++ piece) v (w ++ take count piece) (stop.byte ∷ stop.rest, stop.front) (front count) (omega (arith, long, length-append w (take count piece), length-take count piece, less)) in
            let next : v ++ stop.byte ∷ [] ≡ w ++ take (count + 1) piece = same_front (w ++ piece) (v ++ stop.byte ∷ []) (w ++ take (count + 1) piece) (stop.rest, stop.front ∙ sym (append_assoc v (stop.byte ∷ []) stop.rest)) (front (count + 1)) (omega (arith, long, length-append v (stop.byte ∷ []), length-append w (take (count + 1) piece), length-take (count + 1) piece, less)) in
            let agrees = told v h in
            record {
              hears = λ e. absurd (omega (arith, e, less));
              good = subst (λ z. IsViableFor g z) here (viable_told k g v (c ++ f.more) agrees.told);
              bad = λ lt. subst (λ z. ¬ IsViableFor g z) next (of_new.stops (v ++ stop.byte ∷ []) stop.stops);
              agrees = subst (λ z. Agrees k g z (c ++ f.more)) here agrees;
            }

-- the oracle tells what a runner passes on at the end
pub table_ends : (f : Follower) (before after : List Symbol) → RunnerEnds Parsed f.runner before after → TellsEnd true (Table f) before after
table_ends f before after e = record {
  more = e.more;
  code = e.code;
  tells = λ k g w c h v. let o = e.over w c h.3 in h.1.parsed w o.0 (c ++ e.more) o.1 o.2;
}

pub table_cut : (f : Follower) (before after : List Symbol) → RunnerEnds Cut f.runner before after → TellsEnd false (Table f) before after
table_cut f before after e = record {
  more = e.more;
  code = e.code;
  tells = λ k g w c h v.
      let o = e.over w c h.3 in
      let live = still_live k g f.runner.table h.0 h.1 f.runner w c refl h.3 v in
      let p = o.1 in
      ⊎_elim
      (λ whole.
      let is : passes f.runner.table w ≡ Some p.pass = ap (λ z. passes f.runner.table z) whole ∙ p.passes in
      (h.1.cut w p.pass is (no_end f.runner.table (passes f.runner.table w) p.pass is o.0), subst (λ z. Agrees k g w z) (sym p.code) (table_agrees k g f.runner.table h.0 h.1 w p.pass is)))
      (λ stop. absurd (h.1.stops w (stopped_none stop) v))
      p.longest;
}

-- the oracle has told all that there was to tell
pub table_told : (f : Follower) (k : Telling) (g : Graph) (w : List ℕ) (c : List Symbol) → f.runner.pending ≡ [] → Hears k g (Table f) w c → IsViableFor g w → Agrees k g w c
table_told f k g w c none h v =
    let live = still_live k g f.runner.table h.0 h.1 f.runner w c refl h.3 v in
    subst (λ z. Agrees k g w z) (ap (λ z. c ++ z) none ∙ append-nil c) (table_agrees k g f.runner.table h.0 h.1 w (pass_of f.runner c) live.passes)

-- a follower tells the same whatever else it keeps
pub still_tells : (o : Oracle) (f n : Follower) (piece : List ℕ) (count : ℕ) (before after : List Symbol) → n.runner ≡ f.runner → n.moves ≡ f.moves → Tells o (Table f) piece count before after → Tells o (Table n) piece count before after
still_tells o f n piece count before after runner moves t = record {
  more = t.more;
  code = t.code;
  within = t.within;
  tells = λ k g w c h v.
      let on = t.tells k g w c h v in
      record {
        hears = λ e.
            let q = on.hears e in (
              q.0,
              subst (λ r. IsTableAs k g r.table) (sym runner) q.1,
              ap (λ m. m.table) moves ∙ q.2 ∙ ap (λ r. r.table) (sym runner),
              subst (λ r. IsRunOf r (w ++ piece) (c ++ t.more)) (sym runner) q.3,
            );
        good = on.good;
        bad = on.bad;
        agrees = on.agrees;
      };
}
