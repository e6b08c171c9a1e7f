-- The laws of a player's answers.
use Rattle.std.proofs.Common.{ℕ, List, ◌++◌, refl, sym, ap, ◌∙◌, append_assoc, ◌<◌, false, length}
use Rattle.std.specs.Prelude.{IsSome}
use Rattle.kex_code.specs.declared.symbol.Symbol.{Symbol}
use Rattle.kex_code.specs.Codes.{Begins}
use Rattle.kex_model.specs.Answers.{Answer}
use Rattle.kex_machine.specs.Nodes.{Graph}
use Rattle.kex_machine.proofs.NodeAnswers.{more_left}
use Rattle.kex_action.specs.Actors.{BeginsRun, IsWholeCode}
use Rattle.kex_pipe.specs.Working.{Answering}
use Rattle.kex_single.specs.Plays.{MachineActAnswers, ClosesPlayed, SaysPlayed, WritesRun, bad_byte}
use Rattle.kex_single.specs.Plays.{too_long, cut_off, whole, still_open}
use Rattle.kex_single.specs.PlayLaws as laws

module _ (g : Graph) where
  pub front : (c d : List Symbol) → Begins d c → BeginsRun g d → BeginsRun g c
  front c d (m, e) (ks, run, q) =
      (ks, run, (m ++ q.0, q.1 ∙ ap (λ z. z ++ q.0) e ∙ append_assoc c m q.0))

  pub more : (c d : List Symbol) (s t : List ℕ) → Begins d c → WritesRun g c s → WritesRun g d t
      → Begins t s
  more c d s t p (js, run, b, e) (ks, run', b', f) =
      let m = more_left g js ks c d run run' b b' p in
      (m.0, f ∙ m.1 ∙ ap (λ z. z ++ m.0) (sym e))

  pub answering : Answering (SaysPlayed (BeginsRun g) (IsWholeCode g) (WritesRun g)) (ClosesPlayed
      (BeginsRun g) (IsWholeCode g) (WritesRun g)) (λ n w e a. MachineActAnswers g n w e a)
  answering = record {
    stops_at = λ n w e at text s. bad_byte s.0 at s.1 s.2;
    too_long = λ n w e text lt s. too_long s.0 lt s.1 s.2;
    cut_off = λ n w text le c. cut_off c.0 le c.1 c.2 c.3;
    whole = λ n w text le c. whole c.0 le c.1 c.2 c.3 c.4;
    still_open = λ n w text le s. still_open s.0 le s.1 s.2;
    stopped = λ n w v e a h some.
        laws.stopped_more (BeginsRun g) (IsWholeCode g) (WritesRun g) front more n w v e h some;
    one = λ n w e a b h k.
        laws.one_answer (BeginsRun g) (IsWholeCode g) (WritesRun g) front more n h k;
    grows = λ n w v e a b h k.
        (laws.stays (BeginsRun g) (IsWholeCode g) (WritesRun g) front more n (v, refl) h k).0;
    stays = λ n w v e a b h k.
        (laws.stays (BeginsRun g) (IsWholeCode g) (WritesRun g) front more n (v, refl) h k).1;
    ends = λ n w e a h. laws.ends (BeginsRun g) (IsWholeCode g) (WritesRun g) front more n h;
    past = λ n w e a h lt.
        laws.past_limit (BeginsRun g) (IsWholeCode g) (WritesRun g) front more n h lt;
  }

  -- past the limit there is a stop
  pub past : (n : ℕ) (w : List ℕ) (a : Answer) → MachineActAnswers g n w false a → n < length w
      → IsSome a.stop
  past n w a h lt = answering.past n w false a h lt
