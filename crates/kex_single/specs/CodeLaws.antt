-- The laws of a coder's answers.
use Rattle.std.proofs.Common.{◌≡◌, ℕ, List, ◌++◌, sym, ap, subst, ◌∙◌, ◌<◌, false, length}
use Rattle.std.specs.Prelude.{IsSome}
use Rattle.kex_code.specs.declared.symbol.Symbol.{Symbol}
use Rattle.kex_code.specs.Codes.{Begins}
use Rattle.kex_code.specs.Texts.{text_of}
use Rattle.kex_code.proofs.Texts.{text_of-append}
use Rattle.kex_model.specs.Survivors.{Agreed, Greedy}
use Rattle.kex_model.proofs.AgreedFronts.{agreed_grows, agreed_greedy}
use Rattle.kex_model.proofs.Orders.{at_most_both}
use Rattle.kex_model.proofs.OpenAnswers as model
use Rattle.kex_model.specs.Answers.{Answer}
use Rattle.kex_machine.specs.Nodes.{Graph, node_moves}
use Rattle.kex_machine.specs.Answers.{IsViableFor, HasRun}
use Rattle.kex_machine.proofs.NodeAnswers as nodes
use Rattle.kex_pipe.specs.Working.{Answering, ClosesParsed, SaysViable}
use Rattle.kex_pipe.proofs.ViableAnswers as viable
use Rattle.kex_single.specs.Singles.{MachineCodeAnswers, MeansRunCode, SaysSharedCode}

-- where a code goes on, so does its text
pub text_grows : (c d : List Symbol) (s t : List ℕ) → Begins d c → s ≡ text_of c → t ≡ text_of d
    → Begins t s
text_grows c d s t (m, e) f g =
    (text_of m, g ∙ ap text_of e ∙ text_of-append c m ∙ ap (λ z. z ++ text_of m) (sym f))

module _ (g : Graph) where
  pub orderly : model.Orderly (IsViableFor g) (SaysSharedCode g) (HasRun g) (MeansRunCode g)
  orderly = record {
    front = (nodes.orderly g).front;
    said = λ w x s t p h k. text_grows h.0 k.0 s t
        (agreed_grows (node_moves g.nodes) g.start w p.0 h.0 k.0 h.1
        (subst (λ z. Agreed (node_moves g.nodes) g.start z k.0) p.1 k.1)) h.2 k.2;
    meant = λ w x s t p h k. text_grows h.0 k.0 s t
        (agreed_greedy (node_moves g.nodes) g.start w p.0 h.0 k.0 h.1
        (subst (λ z. Greedy (node_moves g.nodes) g.start z k.0) p.1 k.1.greedy)) h.2 k.2;
    good = λ w s m. let k = m.1.greedy in (k.0, (m.0, k.2.reached, k.2.alive));
  }

  one_code : (w s t : List ℕ) → MeansRunCode g w s → MeansRunCode g w t → s ≡ t
  one_code w s t h k =
      let same : h.0 ≡ k.0 =
      at_most_both h.0 k.0 (h.1.least k.0 k.1.greedy) (k.1.least h.0 h.1.greedy) in
      h.2 ∙ ap text_of same ∙ sym k.2

  pub answering : Answering (SaysViable (IsViableFor g) (SaysSharedCode g) (HasRun g) (MeansRunCode
      g)) (ClosesParsed (IsViableFor g) (SaysSharedCode g) (HasRun g) (MeansRunCode g)) (λ n w e a.
      MachineCodeAnswers g n w e a)
  answering = viable.answering (IsViableFor g) (SaysSharedCode g) (HasRun g)
      (MeansRunCode g) orderly (λ u s m. m.1.parse) one_code

  -- past the limit there is a stop
  pub past : (n : ℕ) (w : List ℕ) (a : Answer) → MachineCodeAnswers g n w false a → n < length w
      → IsSome a.stop
  past n w a h lt = answering.past n w false a h lt
