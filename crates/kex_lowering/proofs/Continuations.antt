-- A text is viable exactly where some text that begins with it has a parse.
use Rattle.std.proofs.Common.{ℕ, false, List, [], ◌∷◌, ◌++◌, length, sym, subst, append-nil, arith}
use Rattle.std.proofs.lemmas.List.{take_all}
use Rattle.kex_model.specs.Moves.{Move, took, Allows, reads, IsWaiting}
use Rattle.kex_model.specs.Answers.{Answer, bad_byte, too_long, still_open}
use Rattle.kex_machine.specs.Nodes.{Graph, node_moves}
use Rattle.kex_machine.specs.Answers.{IsViableFor, HasRun}
use Rattle.kex_machine.proofs.CutWalks.{cut}
use Rattle.kex_machine.proofs.Nexts.{IsTrim, reached_by}
use Rattle.kex_machine.proofs.Ranges.{is_trim}
use Rattle.kex_lowering.specs.Existence.{ViableTextsGoOn}
use Rattle.kex_lowering.specs.Stages.{Carries}
use Rattle.kex_model.proofs.Correspondence.{from_tree}
use Rattle.kex_lowering.proofs.PairedNodes.{carries}
use Rattle.kex_lowering.proofs.Existence.{left_trimmed, stage_answers}
use Rattle.kex_model.specs.Answers as places
use Rattle.kex_model.specs.Laws as stages

module _ (g : Graph) (trim : IsTrim (node_moves g.nodes) g.start) where
  abbrev ms : ℕ → Move ℕ
  ms = node_moves g.nodes

  byte_waits : {n : Move ℕ} {b u : ℕ} → Allows n (took b u) → IsWaiting n
  byte_waits (reads h) = tt

  parse_viable : (w : List ℕ) → HasRun g w → IsViableFor g w
  parse_viable w (ks, (e, walk, acc), q) = let r = reached_by ms g.start trim w e ks walk (subst (λ z. IsWaiting z) (sym acc) tt) q in (e, (r.0, r.1, trim.ends e))

  -- a text is viable that begins one with a parse
  pub front_viable : (w v : List ℕ) → HasRun g (w ++ v) → IsViableFor g w
  front_viable w [] h = subst (λ z. IsViableFor g z) (append-nil w) (parse_viable (w ++ []) h)
  front_viable w (b ∷ v) (ks, (e, walk, acc), q) =
      let r = cut ms ks g.start e w b v walk q in
      let q = reached_by ms g.start trim w r.at r.front r.first (byte_waits r.byte) r.front_bytes in
      (r.at, (q.0, q.1, trim.ends r.at))

pub viable_texts_go_on : ViableTextsGoOn
viable_texts_go_on P root m kept w = (λ h. ahead h answer.0 answer.1, back)
  where
    answer : (a : Answer) × stages.StageAnswers P root (length w) w false a
    answer = stage_answers P root m kept (length w) w false

    same : Carries P root m
    same = carries P root kept.whole m kept.of_places kept.trimmed

    -- what is said on it is said of a parse of a longer text
    ahead : places.Viable P root w → (a : Answer) → stages.StageAnswers P root (length w) w false a → (v : List ℕ) × places.HasParse P root (w ++ v)
    ahead h _ (bad_byte v gone longest says) = absurd (gone (subst (λ z. places.Viable P root z) (sym (take_all (length w) w (omega arith))) h))
    ahead h _ (too_long long good says) = absurd (omega (arith, long))
    ahead h _ (still_open short good says) = (says.more, from_tree P root (w ++ says.more) says.tree says.parses)

    back : (v : List ℕ) × places.HasParse P root (w ++ v) → places.Viable P root w
    back (v, h) = (same.viable w).1 (front_viable m (is_trim m (left_trimmed kept.whole m kept.trimmed)) w v ((same.parsed (w ++ v)).0 h))
