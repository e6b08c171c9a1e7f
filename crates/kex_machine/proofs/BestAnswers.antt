-- A stage that says what is best: what it says grows, and there is one answer on each text.
use Rattle.std.proofs.Common.{◌≡◌, ℕ, zero, suc, ◌≤◌, List, [], ◌∷◌, ◌++◌, length, refl, sym, ap, subst, ◌∙◌, append-nil, append_assoc, length-append, arith}
use Rattle.kex_code.specs.declared.symbol.Symbol.{Symbol}
use Rattle.kex_code.specs.declared.symbol.Symbol.TheVariants.{L, R, Byte}
use Rattle.kex_code.specs.Codes.{bytes_of, Begins}
use Rattle.kex_model.proofs.Orders.{begins_trans}
use Rattle.kex_model.proofs.OpenAnswers as model
use Rattle.kex_machine.specs.Nodes.{Graph, IsMachineInRange, IsTrimmed}
use Rattle.kex_machine.specs.Answers.{IsViableFor, HasRun, IsGreedy, MeansByRun}
use Rattle.kex_machine.specs.Covering.{cut_behind, Best, SaysBest, BestGrows, BestAnswersStand}
use Rattle.kex_machine.proofs.NodeAnswers.{more_left, orderly}
use Rattle.kex_machine.proofs.NodeAnswers as nodes
use Rattle.kex_machine.proofs.Unique.{one_front}
use Rattle.kex_machine.proofs.UncoveredPlaces.{first_leads}

-- what is cut later begins with what is cut before
pub cut_later : (n m : ℕ) (d : List Symbol) → n ≤ m → Begins (cut_behind m d) (cut_behind n d)
cut_later n m [] le = ([], refl)
cut_later n m (L ∷ d) le = let r = cut_later n m d le in (r.0, ap (λ z. L ∷ z) r.1)
cut_later n m (R ∷ d) le = let r = cut_later n m d le in (r.0, ap (λ z. R ∷ z) r.1)
cut_later zero m (Byte b ∷ d) le = (cut_behind m (Byte b ∷ d), refl)
cut_later (suc n) zero (Byte b ∷ d) le = absurd (omega (arith, le))
cut_later (suc n) (suc m) (Byte b ∷ d) le = let r = cut_later n m d (omega (arith, le)) in (r.0, ap (λ z. Byte b ∷ z) r.1)

-- a code begins with what is left of it
pub cut_front : (n : ℕ) (d : List Symbol) → Begins d (cut_behind n d)
cut_front n [] = ([], refl)
cut_front n (L ∷ d) = let r = cut_front n d in (r.0, ap (λ z. L ∷ z) r.1)
cut_front n (R ∷ d) = let r = cut_front n d in (r.0, ap (λ z. R ∷ z) r.1)
cut_front zero (Byte b ∷ d) = (Byte b ∷ d, refl)
cut_front (suc n) (Byte b ∷ d) = let r = cut_front n d in (r.0, ap (λ z. Byte b ∷ z) r.1)

module _ (g : Graph) where
  pub one_best : (w : List ℕ) (c d : List Symbol) → Best g w c → Best g w d → c ≡ d
  one_best w c d h k = one_front c d (h.longest d k.common) (k.longest c h.common)

  pub best_grows : (w v : List ℕ) (c d : List Symbol) → Best g w c → Best g (w ++ v) d → Begins d c
  best_grows w v c d h k = k.longest c (λ x e greedy.
      let e' = subst (λ z. IsGreedy g z e) (append_assoc w v x) greedy in
      begins_trans c (cut_behind (length w) e) (cut_behind (length (w ++ v)) e) (cut_later (length w) (length (w ++ v)) e (omega (arith, length-append w v))) (h.common (v ++ x) e e'))

  pub best_greedy : (w v : List ℕ) (c d : List Symbol) → Best g w c → IsGreedy g (w ++ v) d → Begins d c
  best_greedy w v c d h k = begins_trans c (cut_behind (length w) d) d (cut_front (length w) d) (h.common v d k)

  said_grows : (w x s t : List ℕ) → Begins x w → SaysBest g w s → SaysBest g x t → Begins t s
  said_grows w x s t p h k =
      let d = best_grows w p.0 h.agreed k.agreed h.is_agreed (subst (λ z. Best g z k.agreed) p.1 k.is_agreed) in
      let m = more_left g h.run k.run h.agreed k.agreed h.runs k.runs h.begins k.begins d in
      (m.0, k.said ∙ m.1 ∙ ap (λ z. z ++ m.0) (sym h.said))

  greedy_meant : (w t : List ℕ) (m : MeansByRun g w t) → IsGreedy g w m.greedy
  greedy_meant w t m = let k = m.is_greedy in let r = k.2.reached in record { parse = (m.run, m.runs, ap (λ z. bytes_of z) (m.codes ∙ sym r.2) ∙ r.1.reads); greedy = m.is_greedy; least = m.least }

  meant_grows : (w x s t : List ℕ) → Begins x w → SaysBest g w s → MeansByRun g x t → Begins t s
  meant_grows w x s t p h k =
      let d = best_greedy w p.0 h.agreed k.greedy h.is_agreed (subst (λ z. IsGreedy g z k.greedy) p.1 (greedy_meant x t k)) in
      let m = more_left g h.run k.run h.agreed k.greedy h.runs k.runs h.begins ([], k.codes ∙ sym (append-nil k.greedy)) d in
      (m.0, k.meant ∙ m.1 ∙ ap (λ z. z ++ m.0) (sym h.said))

  pub best_orderly : model.Orderly (IsViableFor g) (SaysBest g) (HasRun g) (MeansByRun g)
  best_orderly = record { front = (orderly g).front; said = said_grows; meant = meant_grows; good = (orderly g).good }

  parsed : (w s : List ℕ) → MeansByRun g w s → HasRun g w
  parsed w s m = (greedy_meant w s m).parse

  pub best_stand : (n : ℕ) → BestAnswersStand g n
  best_stand n = record {
    one = λ w e a b h k. model.one_answer (IsViableFor g) (SaysBest g) (HasRun g) (MeansByRun g) best_orderly n parsed (nodes.one_meaning g) h k;
    grows = λ w v e a b h k. (model.stays (IsViableFor g) (SaysBest g) (HasRun g) (MeansByRun g) best_orderly n (v, refl) h k).0;
    stays = λ w v e a b h k. (model.stays (IsViableFor g) (SaysBest g) (HasRun g) (MeansByRun g) best_orderly n (v, refl) h k).1;
  }

  pub best_grows_all : IsMachineInRange g.start g.nodes g.registers → IsTrimmed g → (w v : List ℕ) → BestGrows g w v
  best_grows_all range trimmed w v = record {
    one = one_best w;
    best = best_grows w v;
    greedy = best_greedy w v;
    agreed = λ c d h k. k.longest c (λ x e greedy. let f = first_leads g range trimmed w x e greedy in subst (λ z. Begins z c) (sym f.4) (h.common f.0 f.1 f.2.survives));
    said = λ s t h k. said_grows w (w ++ v) s t (v, refl) h k;
    meant = λ s t h k. meant_grows w (w ++ v) s t (v, refl) h k;
  }
