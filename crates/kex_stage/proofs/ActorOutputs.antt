-- What the actor writes of what the oracle tells.
use Rattle.std.proofs.Common.{◌≡◌, ℕ, ◌<◌, Bool, true, false, List, [], ◌++◌, length, take, sym, ap, subst, ◌∙◌, append_assoc, append-nil, arith}
use Rattle.kex_code.specs.declared.symbol.Symbol.{Symbol}
use Rattle.kex_machine.specs.Nodes.{Graph}
use Rattle.kex_machine.specs.Answers.{IsViableFor}
use Rattle.kex_action.specs.Actors.{Position, HasPerformed, BeginsRun, WentOn, TookAll}
use Rattle.kex_moves.specs.Speech.{PerformsSaid}
use Rattle.kex_plan.specs.declared.plan.Telling.{Telling}
use Rattle.kex_stage.specs.declared.oracle.Oracle.{Oracle}
use Rattle.kex_stage.specs.Oracles.{HearsOn, Tells, TellsEnd}
use Rattle.kex_stage.specs.Works.{Followed, StageGoes, StageWorks, StageFinishes}
use Rattle.kex_stage.proofs.OracleAnswers.{says, means, take_all}

module _ (a b : Position) (start code symbols more : List Symbol) (out new : List ℕ) (none : start ≡ []) (same : symbols ≡ code) (added : code ≡ start ++ more) (took : TookAll a b symbols out new) where
  performed : (c : List Symbol) (text : List ℕ) → HasPerformed a c c text → HasPerformed b (c ++ more) (c ++ more) (text ++ took.went.more)
  performed c text h =
      let is : symbols ≡ more = same ∙ added ∙ ap (λ z. z ++ more) none in
      subst (λ z. HasPerformed b (c ++ z) (c ++ z) (text ++ took.went.more)) is (took.went.performed c c text h)

pub works : (o new : Oracle) (a b : Position) (piece : List ℕ) (count : ℕ) (start code symbols : List Symbol) (before after : List ℕ) → start ≡ [] → symbols ≡ code → b.machine ≡ a.machine → Tells o new piece count start code → TookAll a b symbols before after → StageWorks o new a b piece count before after
works o new a b piece count start code symbols before after none same mb h took = record {
  within = h.within;
  works = λ tell g w text f v.
      let x = h.tells tell g w f.code f.hears v in
      let done = performed a b start code symbols h.more before after none same h.code took f.code text f.performed in
      record {
        more = took.went.more;
        written = took.went.written;
        followed = λ all. record { code = f.code ++ h.more; hears = x.hears all; performed = done; machine = mb ∙ f.machine };
        good = x.good;
        bad = x.bad;
        says = says g b (mb ∙ f.machine) took.settled (f.code ++ h.more) (text ++ took.went.more) done (w ++ take count piece) x.agrees;
      };
}

pub finishes : (parsed : Bool) (o : Oracle) (a b : Position) (start code symbols : List Symbol) (before after : List ℕ) → start ≡ [] → symbols ≡ code → b.machine ≡ a.machine → TellsEnd parsed o start code → TookAll a b symbols before after → StageFinishes parsed o a before after
finishes true o a b start code symbols before after none same mb h took = record {
  more = took.went.more;
  written = took.went.written;
  finishes = λ tell g w text f v.
      let done = performed a b start code symbols h.more before after none same h.code took f.code text f.performed in
      means g b (mb ∙ f.machine) took.settled (f.code ++ h.more) (text ++ took.went.more) done w (h.tells tell g w f.code f.hears v);
}
finishes false o a b start code symbols before after none same mb h took = record {
  more = took.went.more;
  written = took.went.written;
  finishes = λ tell g w text f v.
      let x = h.tells tell g w f.code f.hears v in
      let done = performed a b start code symbols h.more before after none same h.code took f.code text f.performed in
      (x.0, says g b (mb ∙ f.machine) took.settled (f.code ++ h.more) (text ++ took.went.more) done w x.1);
}

-- what the oracle told is performed by pieces
module _ (o new : Oracle) (a b : Position) (piece : List ℕ) (count : ℕ) (said : List Symbol) (before after : List ℕ) (mb : b.machine ≡ a.machine) (h : Tells o new piece count [] said) (p : PerformsSaid a b said before after) where
  module _ (tell : Telling) (g : Graph) (w text : List ℕ) (f : Followed tell g o a w text) (v : IsViableFor g w) where
    heard : HearsOn tell g new w piece count (f.code ++ said)
    heard = subst (λ z. HearsOn tell g new w piece count (f.code ++ z)) (sym h.code) (h.tells tell g w f.code f.hears v)

    begins : BeginsRun a.machine (f.code ++ said)
    begins = subst (λ m. BeginsRun m (f.code ++ said)) (sym f.machine) (heard.agrees.run, heard.agrees.runs, heard.agrees.begins)

    went : WentOn a b said said before after
    went = p f.code f.code text f.performed begins

  pub speaks : count ≡ length piece → StageGoes o new a b piece before after
  speaks all = record {
    goes = λ tell g w text f v.
        let x = heard tell g w text f v in
        let k = went tell g w text f v in
        record {
          more = k.more;
          written = k.written;
          followed = record { code = f.code ++ said; hears = x.hears all; performed = k.performed f.code f.code text f.performed; machine = mb ∙ f.machine };
          good = subst (λ z. IsViableFor g (w ++ z)) (ap (λ z. take z piece) all ∙ take_all piece) x.good;
        };
  }

  -- and after the last good byte the actor does what needs no symbol
  pub stops : (c : Position) (last : List ℕ) → count < length piece → c.machine ≡ b.machine → TookAll b c [] after last → StageWorks o new a c piece count before last
  stops c last lt mc took = record {
    within = omega (arith, lt);
    works = λ tell g w text f v.
        let x = heard tell g w text f v in
        let k = went tell g w text f v in
        let code : List Symbol = f.code ++ said in
        let done : HasPerformed c code code ((text ++ k.more) ++ took.went.more) = subst (λ u. HasPerformed c u u ((text ++ k.more) ++ took.went.more)) (append-nil code) (took.went.performed code code (text ++ k.more) (k.performed f.code f.code text f.performed)) in
        record {
          more = k.more ++ took.went.more;
          written = took.went.written ∙ ap (λ u. u ++ took.went.more) k.written ∙ append_assoc before k.more took.went.more;
          followed = λ e. absurd (omega (arith, e, lt));
          good = x.good;
          bad = x.bad;
          says = says g c (mc ∙ mb ∙ f.machine) took.settled code (text ++ (k.more ++ took.went.more)) (subst (λ u. HasPerformed c code code u) (append_assoc text k.more took.went.more) done) (w ++ take count piece) x.agrees;
        };
  }
