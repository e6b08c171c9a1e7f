-- A stage that goes on, piece by piece.
use Rattle.std.proofs.Common.{◌≡◌, ℕ, ◌<◌, ◌≤◌, ◌+◌, Bool, true, false, List, ◌++◌, Some, None, length, take, drop, refl, sym, ap, subst, ◌∙◌, append_assoc, arith, length-append, length-take, take-append-drop}
use Rattle.kex_code.specs.Codes.{Begins}
use Rattle.kex_machine.specs.Nodes.{Graph}
use Rattle.kex_machine.specs.Answers.{HasRun, MeansByRun, IsViableFor}
use Rattle.kex_action.specs.Actors.{Position}
use Rattle.kex_pipe.specs.Working.{CameToEnd, ReadMore}
use Rattle.kex_pipe.proofs.ViableAnswers.{refuses}
use Rattle.kex_plan.specs.declared.plan.Telling.{Telling}
use Rattle.kex_stage.specs.declared.oracle.Oracle.{Oracle}
use Rattle.kex_plan.specs.Plans.{SaysAs, teller}
use Rattle.kex_stage.specs.StageLaws.{told_orderly}
use Rattle.kex_stage.specs.Oracles.{read_of}
use Rattle.kex_stage.specs.Works.{Followed, StageWorks, WorksOn, StageFinishes}
use Rattle.kex_stage.specs.Stages.{ClosesAs, SaysOf, StageFollows, refused_at}
use Rattle.kex_stage.proofs.OracleAnswers.{take_all, more_taken}

module _ (tell : Telling) (o new : Oracle) (a b : Position) (w text piece : List ℕ) (count : ℕ) (before after : List ℕ) (f : StageFollows tell o a w text) (k : StageWorks o new a b piece count before after) (read : read_of new ≡ read_of o + count) (mb : b.machine ≡ a.machine) where
  abbrev g : Graph
  g = a.machine

  abbrev on : WorksOn tell g new b w text piece count before after
  on = k.works tell g w text f.followed f.good

  front_of : (n : ℕ) → Begins (w ++ piece) (w ++ take n piece)
  front_of n = (drop n piece, ap (λ z. w ++ z) (sym (take-append-drop n piece)) ∙ sym (append_assoc w (take n piece) (drop n piece)))

  stops : count < length piece → SaysOf (teller tell g) (w ++ piece) (Some (read_of new)) (text ++ on.more)
  stops lt =
      let v = w ++ take count piece in
      let next = w ++ take (count + 1) piece in
      let at : read_of new ≡ length v = omega (arith, length-append w (take count piece), length-take count piece, lt, f.count, read) in
      let one : length next ≡ length v + 1 = omega (arith, length-append w (take count piece), length-append w (take (count + 1) piece), length-take count piece, length-take (count + 1) piece, lt) in
      refuses (IsViableFor g) (SaysAs tell g) (HasRun g) (MeansByRun g) (told_orderly tell g) (w ++ piece) v next (text ++ on.more) (read_of new) (front_of (count + 1)) (more_taken w count piece) one at on.good (on.bad lt) on.says

  all_good : length piece ≤ count → count ≡ length piece
  all_good le = omega (arith, le, k.within)

  all_taken : length piece ≤ count → take count piece ≡ piece
  all_taken le = ap (λ z. take z piece) (all_good le) ∙ take_all piece

  goes : length piece ≤ count → SaysOf (teller tell g) (w ++ piece) None (text ++ on.more)
  goes le = (subst (λ z. IsViableFor g (w ++ z)) (all_taken le) on.good, subst (λ z. SaysAs tell g (w ++ z) (text ++ on.more)) (all_taken le) on.says)

  follows : length piece ≤ count → StageFollows tell new b (w ++ piece) (text ++ on.more)
  follows le = record {
    followed = subst (λ z. Followed tell z new b (w ++ piece) (text ++ on.more)) (sym mb) (on.followed (all_good le));
    count = omega (arith, read, f.count, all_good le, length-append w piece);
    good = subst (λ z. IsViableFor z (w ++ piece)) (sym mb) (goes le).0;
  }

  pub stage_reads : (refused : Bool) → (refused ≡ true → count < length piece) → (refused ≡ false → length piece ≤ count)
      → ReadMore (SaysOf (teller tell g)) (StageFollows tell new b) w text piece (refused_at refused (read_of new)) before after
  stage_reads true lt le = record {
    more = on.more;
    written = on.written;
    says = stops (lt refl);
    follows = λ e. let no : Some (read_of new) ≡ None = e in cc;
  }
  stage_reads false lt le = record {
    more = on.more;
    written = on.written;
    says = goes (le refl);
    follows = λ e. follows (le refl);
  }

-- the end
pub stage_ends : (tell : Telling) (o : Oracle) (a : Position) (w text before after : List ℕ) (parsed : Bool) → StageFollows tell o a w text → StageFinishes parsed o a before after
    → CameToEnd (ClosesAs (teller tell a.machine)) w text parsed before after
stage_ends tell o a w text before after true f k = record { more = k.more; written = k.written; closes = k.finishes tell a.machine w text f.followed f.good }
stage_ends tell o a w text before after false f k =
    let x = k.finishes tell a.machine w text f.followed f.good in
    record { more = k.more; written = k.written; closes = (f.good, x.0, x.1) }
