-- What is said of a text: what the survivors of its longest viable front agree on.
use Rattle.std.proofs.Common.{◌≡◌, ℕ, List, [], ◌∷◌, ◌++◌, ◌⊎◌, inl, inr, ⊎_elim, length, refl, sym, ap, subst, ◌∙◌, append_assoc, append-nil, length-append, arith}
use Rattle.std.proofs.lemmas.List.{append_cancel_left}
use Rattle.kex_code.specs.declared.symbol.Symbol.{Symbol}
use Rattle.kex_code.specs.Codes.{Begins}
use Rattle.kex_model.specs.Moves.{Move, took, Allows, reads, IsWaiting}
use Rattle.kex_model.specs.Labelled.{Labelled}
use Rattle.kex_model.specs.Survivors.{IsViable, LongestViable, HasTree}
use Rattle.kex_model.proofs.Orders.{two_fronts}
use Rattle.kex_model.proofs.Shapes.{tree_agrees}
use Rattle.kex_machine.specs.Nodes.{Graph, node_moves}
use Rattle.kex_machine.specs.Answers.{IsViableFor, HasRun, IsSaid}
use Rattle.kex_machine.proofs.CutWalks.{cut}
use Rattle.kex_machine.proofs.Nexts.{IsTrim, reached_by}

module _ (moves : ℕ → Move ℕ) (start : ℕ) where
  pub longest_self : (w : List ℕ) → IsViable moves start w → LongestViable moves start w w
  longest_self w h = record { front = ([], sym (append-nil w)); viable = h; longest = λ u (more, e) v. omega (arith, ap length e, length-append u more) }

  -- a front of w and one more byte is the whole, or a front of w
  shorter : (w u : List ℕ) (b : ℕ) → Begins (w ++ b ∷ []) u → (u ≡ w ++ b ∷ []) ⊎ Begins w u
  shorter w u b (more, e) = ⊎_elim (λ r. inr r) (λ r. by r.0 r.1) (two_fronts w u (b ∷ []) more e)
    where
      none : (x : ℕ) (m : List ℕ) → b ∷ [] ≡ (x ∷ m) ++ more → m ≡ [] × more ≡ []
      none x [] e = (refl, (cc))
      none x (y ∷ m) e = cc

      by : (m : List ℕ) → u ≡ w ++ m → (u ≡ w ++ b ∷ []) ⊎ Begins w u
      by [] f = inr ([], sym (append-nil u ∙ f ∙ append-nil w))
      by (x ∷ m) f =
          let q : b ∷ [] ≡ (x ∷ m) ++ more = append_cancel_left w (b ∷ []) ((x ∷ m) ++ more) (e ∙ ap (λ z. z ++ more) f ∙ append_assoc w (x ∷ m) more) in
          inl (sym (append-nil u) ∙ ap (λ z. u ++ z) (sym (none x m q).1) ∙ sym e)

  pub longest_later : (w v : List ℕ) (b : ℕ) → LongestViable moves start w v → ¬ IsViable moves start (w ++ b ∷ []) → LongestViable moves start (w ++ b ∷ []) v
  longest_later w v b l dead = record {
    front = (l.front.0 ++ b ∷ [], ap (λ z. z ++ b ∷ []) l.front.1 ∙ append_assoc v l.front.0 (b ∷ []));
    viable = l.viable;
    longest = λ u begins viable. ⊎_elim (λ e. absurd (dead (subst (λ z. IsViable moves start z) e viable))) (λ h. l.longest u h viable) (shorter w u b begins);
  }

module _ (g : Graph) (trim : IsTrim (node_moves g.nodes) g.start) where
  abbrev ms : ℕ → Move ℕ
  ms = node_moves g.nodes

  byte_waits : {n : Move ℕ} {b u : ℕ} → Allows n (took b u) → IsWaiting n
  byte_waits (reads h) = tt

  -- what can go on by a byte can go on before it
  pub viable_before : (w : List ℕ) (b : ℕ) → IsViableFor g (w ++ b ∷ []) → IsViableFor g w
  viable_before w b (p, (c, (ks, path, e), end)) =
      let r = cut ms ks g.start p w b [] path.walk path.reads in
      let q = reached_by ms g.start trim w r.at r.front r.first (byte_waits r.byte) r.front_bytes in
      (r.at, (q.0, q.1, trim.ends r.at))

  pub said_of_tree : (w : List ℕ) (c : List Symbol) (t : Labelled Symbol ℕ) → HasTree ms g.start w c t → IsSaid g w c
  said_of_tree w c t h = let a = tree_agrees ms g.start w c t h in record { of = w; longest = longest_self ms g.start w a.viable; agreed = a }

  pub said_later : (w : List ℕ) (b : ℕ) (c : List Symbol) → IsSaid g w c → ¬ IsViableFor g (w ++ b ∷ []) → IsSaid g (w ++ b ∷ []) c
  said_later w b c h dead = record { of = h.of; longest = longest_later ms g.start w h.of b h.longest dead; agreed = h.agreed }

  -- a text that isn't viable has no parse
  pub no_parse : (w : List ℕ) → ¬ IsViableFor g w → ¬ HasRun g w
  no_parse w dead (ks, (e, walk, acc), q) = let r = reached_by ms g.start trim w e ks walk (subst (λ z. IsWaiting z) (sym acc) tt) q in dead (e, (r.0, r.1, trim.ends e))
