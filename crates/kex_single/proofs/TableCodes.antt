-- What an oracle tells that goes by a table.
use Rattle.std.proofs.Common.{◌≡◌, ℕ, ◌<◌, ◌≤◌, ◌+◌, ◌-◌, List, [], ◌∷◌, ◌++◌, ⊎_elim, Option, Some, None, length, take, refl, sym, ap, subst, ◌∙◌, append_assoc, append-nil, arith, length-append, length-take}
use Rattle.kex_code.specs.declared.symbol.Symbol.{Symbol}
use Rattle.kex_code.specs.Texts.{text_of}
use Rattle.kex_code.proofs.Texts.{text_of-append}
use Rattle.kex_model.proofs.OpenAnswers.{same_front}
use Rattle.kex_machine.specs.Nodes.{Graph, IsTrimmed}
use Rattle.kex_machine.specs.Answers.{IsViableFor}
use Rattle.kex_sst.specs.Tables.{Transducer}
use Rattle.kex_sst.specs.Passes.{Pass, first_pass, passes, whole_code}
use Rattle.kex_sst.specs.Machines.{IsTableOf}
use Rattle.kex_runner.specs.Running.{Running, HasNoEnd, HasPassed, IsRunOf, IsRunnerDead, IsRunnerFed, IsRunnerLive, RunnerEnds, RunnerFeeds, pass_of}
use Rattle.kex_runner.specs.declared.answers.Fed.{Fed}
use Rattle.kex_runner.specs.declared.answers.Fed.TheVariants.{On, Dead}
use Rattle.kex_runner.specs.declared.answers.Ended.{Ended}
use Rattle.kex_runner.specs.declared.answers.Ended.TheVariants.{Parsed, Cut}
use Rattle.kex_runner.proofs.FedRunners.{stopped_none}
use Rattle.kex_single.specs.Standing.{is_parsed_run, stopped_at}
use Rattle.kex_single.specs.Told.{AgreeOn, TellsLast, TellsMore, WritesFed}
use Rattle.kex_single.specs.declared.code_oracle.CodeOracle.TheVariants.{Table}
use Rattle.kex_single.specs.declared.table_codes.CodeRunner.{CodeRunner}
use Rattle.kex_single.proofs.Codings.{front_of}

-- the text of one more symbol or word
pub text_on : (before now : List ℕ) (c d e : List Symbol) → now ≡ before ++ text_of c → c ++ d ≡ e → now ++ text_of d ≡ before ++ text_of e
text_on before now c d e is all = ap (λ z. z ++ text_of d) is ∙ append_assoc before (text_of c) (text_of d) ∙ ap (λ z. before ++ z) (sym (text_of-append c d) ∙ ap text_of all)

fed_stands : (answer : Fed) (r : Running) (w : List ℕ) (c : List Symbol) → IsRunnerFed answer r w c → IsRunOf r w c
fed_stands On r w c h = h.1
fed_stands Dead r w c h = h.1

-- a runner has passed on words, and their text was written
pub writes_once : (answer : Fed) (r0 r1 : Running) (piece before after : List ℕ) (code : List Symbol) → RunnerFeeds answer r0 r1 piece [] code → after ≡ before ++ text_of code → WritesFed answer r0 r1 piece before after
writes_once answer r0 r1 piece before after code f written = record {
  more = f.more;
  written = written ∙ ap (λ z. before ++ text_of z) f.code;
  fed = f.fed;
  told = f.told;
}

-- one piece after another
pub writes_more : (a b : Fed) (r0 r1 r2 : Running) (p q before mid after : List ℕ) → WritesFed a r0 r1 p before mid → WritesFed b r1 r2 q mid after → WritesFed b r0 r2 (p ++ q) before after
writes_more a b r0 r1 r2 p q before mid after f h = record {
  more = f.more ++ h.more;
  written = h.written ∙ text_on before mid f.more h.more (f.more ++ h.more) f.written refl;
  fed = λ w c s.
      let on = h.fed (w ++ p) (c ++ f.more) (fed_stands a r1 (w ++ p) (c ++ f.more) (f.fed w c s)) in
      subst (λ z. IsRunnerFed b r2 z (c ++ (f.more ++ h.more))) (append_assoc w p q)
      (subst (λ z. IsRunnerFed b r2 ((w ++ p) ++ q) z) (append_assoc c f.more h.more) on);
  told = h.told;
}

module _ (g : Graph) (t : Transducer) (of : IsTableOf g t) where
  -- where a text can go on, no byte of it was refused
  still_live : (r : Running) (w : List ℕ) (c : List Symbol) → r.table ≡ t → IsRunOf r w c → IsViableFor g w → HasPassed r w c
  still_live r w c e s v = ⊎_elim (λ l. l.1) (λ x. absurd (of.stops w (subst (λ z. passes z w ≡ None) e (stopped_none x.1.1)) v)) s

  -- what was passed on is agreed
  agreed : (r : Running) (w : List ℕ) (c : List Symbol) → r.table ≡ t → r.pending ≡ [] → HasPassed r w c → AgreeOn g w c
  agreed r w c e none h = subst (λ z. AgreeOn g w z) (ap (λ z. c ++ z) none ∙ append-nil c) (of.goes_on w (pass_of r c) (subst (λ z. passes z w ≡ Some (pass_of r c)) e h.passes))

  module _ (r0 r1 : Running) (reader : CodeRunner) (is : reader.runner ≡ r1) (piece before after : List ℕ) (trimmed : IsTrimmed g) (same0 : r0.table ≡ t) (same1 : r1.table ≡ r0.table) (le : r0.read ≤ r1.read) (w : List ℕ) (c : List Symbol) (s : IsRunOf r0 w c) (good : IsViableFor g w) where
    same : r1.table ≡ t
    same = same1 ∙ same0

    stands : (more : List Symbol) → IsRunOf r1 (w ++ piece) (c ++ more) → IsTrimmed g × IsTableOf g reader.runner.table × IsRunOf reader.runner (w ++ piece) (c ++ more)
    stands more h = (trimmed, subst (λ z. IsTableOf g z) (sym (ap (λ r. r.table) is ∙ same)) of, subst (λ r. IsRunOf r (w ++ piece) (c ++ more)) (sym is) h)

    on : (f : WritesFed On r0 r1 piece before after) → TellsMore g (Table reader) w piece None c before after
    on f =
        let h = f.fed w c s in
        let a : AgreeOn g (w ++ piece) (c ++ f.more) = of.goes_on (w ++ piece) _ (subst (λ z. passes z (w ++ piece) ≡ Some (record { state = r1.state; code = c ++ f.more; registers = r1.registers })) same h.0) in
        record {
          more = f.more;
          written = f.written;
          goes = a.viable;
          agreed = a;
          told = λ e. stands f.more h.1;
        }

    dead : (f : WritesFed Dead r0 r1 piece before after) → TellsMore g (Table reader) w piece (Some (r1.read - r0.read)) c before after
    dead f = ⊎_elim live stopped h.1
      where
        h : IsRunnerFed Dead r1 (w ++ piece) (c ++ f.more)
        h = f.fed w c s

        k : ℕ
        k = r1.read - r0.read

        live : IsRunnerLive r1 (w ++ piece) (c ++ f.more) → TellsMore g (Table reader) w piece (Some k) c before after
        live l = let no : None ≡ Some (pass_of r1 (c ++ f.more)) = sym h.0 ∙ l.1.passes in cc

        stopped : IsRunnerDead r1 (w ++ piece) (c ++ f.more) → TellsMore g (Table reader) w piece (Some k) c before after
        stopped (d, (v, stop, p)) =
            let was = still_live r0 w c same0 s good in
            let long : length v ≡ length w + k = omega (arith, le, p.count, was.count) in
            let less : k < length piece = omega (arith, long, ap length stop.front, length-append w piece, length-append v (stop.byte ∷ stop.rest)) in
            let here : v ≡ w ++ take k piece = same_front (w ++ piece) v (w ++ take k piece) (stop.byte ∷ stop.rest, stop.front) (front_of k w piece) (omega (arith, long, length-append w (take k piece), length-take k piece, less)) in
            let next : v ++ stop.byte ∷ [] ≡ w ++ take (k + 1) piece = same_front (w ++ piece) (v ++ stop.byte ∷ []) (w ++ take (k + 1) piece) (stop.rest, stop.front ∙ sym (append_assoc v (stop.byte ∷ []) stop.rest)) (front_of (k + 1) w piece) (omega (arith, long, length-append v (stop.byte ∷ []), length-append w (take (k + 1) piece), length-take (k + 1) piece, less)) in
            let a : AgreeOn g (w ++ take k piece) (c ++ f.more) = subst (λ z. AgreeOn g z (c ++ f.more)) here (agreed r1 v (c ++ f.more) same f.told p) in
            record {
              more = f.more;
              written = f.written;
              goes = (less, a.viable, subst (λ z. IsViableFor g z → ⊥) next (of.stops (v ++ stop.byte ∷ []) (subst (λ z. passes z (v ++ stop.byte ∷ []) ≡ None) same stop.stops)));
              agreed = a;
              told = λ e. let no : Some k ≡ None = e in cc;
            }

    pub table_tells : (answer : Fed) → WritesFed answer r0 r1 piece before after → TellsMore g (Table reader) w piece (stopped_at answer (r1.read - r0.read)) c before after
    table_tells On f = on f
    table_tells Dead f = dead f

no_end : (t : Transducer) (o : Option Pass) (p : Pass) → o ≡ Some p → HasNoEnd t o → whole_code t p ≡ None
no_end t o p e h = subst (λ z. HasNoEnd t z) e h

-- a runner was given the end, and the text of the rest was written
pub table_ends : (g : Graph) (r : Running) (w : List ℕ) (answer : Ended) (c code : List Symbol) (before after : List ℕ) → IsTableOf g r.table → IsRunOf r w c → IsViableFor g w → RunnerEnds answer r [] code → after ≡ before ++ text_of code → TellsLast g w (is_parsed_run answer) c before after
table_ends g r w Parsed c code before after of s good e written =
    let o = e.over w c s in
    record {
      more = e.more;
      written = written ∙ ap (λ z. before ++ text_of z) e.code;
      shows = of.parsed w o.0 (c ++ e.more) o.1 o.2;
    }
table_ends g r w Cut c code before after of s good e written =
    let o = e.over w c s in
    let p = o.1 in
    record {
      more = e.more;
      written = written ∙ ap (λ z. before ++ text_of z) e.code;
      shows = ⊎_elim
          (λ whole.
          let is : passes r.table w ≡ Some p.pass = ap (λ z. passes r.table z) whole ∙ p.passes in
          (of.cut w p.pass is (no_end r.table (passes r.table w) p.pass is o.0), subst (λ z. AgreeOn g w z) (sym p.code) (of.goes_on w p.pass is)))
          (λ stop. absurd (of.stops w (stopped_none stop) good))
          p.longest;
    }

-- the empty text can go on
pub none_read : (g : Graph) (t : Transducer) → IsTableOf g t → IsViableFor g []
none_read g t of = (of.goes_on [] (first_pass t.initial) refl).viable
