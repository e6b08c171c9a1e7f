-- A stage's answers over nodes: there is one on each text, they grow, and a stop stays.
use Rattle.std.proofs.Common.{◌≡◌, ℕ, ◌<◌, Bool, true, false, ◌&&◌, List, [], ◌++◌, None, length, refl, sym, ap, subst, ◌∙◌, append-nil, append_assoc, arith, ⊎_elim, take, length-append}
use Rattle.std.specs.Prelude.{is_none, IsSome}
use Rattle.kex_code.specs.declared.symbol.Symbol.{Symbol}
use Rattle.kex_code.specs.Codes.{Begins, bytes_of}
use Rattle.kex_model.specs.Moves.{Step, code_of}
use Rattle.kex_model.specs.Survivors.{Agreed, Greedy}
use Rattle.kex_model.specs.Answers.{Answer, bad_byte, too_long, cut_off, whole, still_open}
use Rattle.kex_model.proofs.Orders.{at_most_both, two_fronts}
use Rattle.kex_model.proofs.AgreedFronts.{viable_front, agreed_grows, agreed_greedy}
use Rattle.kex_model.proofs.Effects.{same_acted}
use Rattle.kex_model.proofs.OpenAnswers as model
use Rattle.kex_machine.specs.Nodes.{Graph, node_moves}
use Rattle.kex_machine.specs.Answers.{start_state, IsViableFor, IsRun, HasRun, left_by, SaysByRun, MeansByRun, MachineAnswers}
use Rattle.kex_machine.proofs.Outputs.{further_front, acted_grows}

module _ (g : Graph) where
  -- two runs are followed alike, as far as both codes go
  pub same_left : (js ks : List (Step ℕ)) (c : List Symbol) → IsRun g js → IsRun g ks → Begins (code_of js) c → Begins (code_of ks) c → left_by g js c ≡ left_by g ks c
  same_left js ks c (d, w, a) (e, v, b) p q = same_acted (node_moves g.nodes) js ks g.start d e c p.0 q.0 (start_state g.registers) w v a b p.1 q.1

  -- and with more of a code more is written
  pub more_left : (js ks : List (Step ℕ)) (c d : List Symbol) → IsRun g js → IsRun g ks → Begins (code_of js) c → Begins (code_of ks) d → Begins d c → Begins (left_by g ks d).out (left_by g js c).out
  more_left js ks c d r s p q (m, e) =
      let front : Begins (code_of ks) c = (m ++ q.0, q.1 ∙ ap (λ z. z ++ q.0) e ∙ append_assoc c m q.0) in
      let more : Begins (left_by g ks (c ++ m)).out (left_by g ks c).out = acted_grows ks c m (start_state g.registers) in
      subst (λ z. Begins z.out (left_by g js c).out) (ap (λ z. left_by g ks z) (sym e)) (subst (λ z. Begins (left_by g ks (c ++ m)).out z.out) (sym (same_left js ks c r s p front)) more)

  said_grows : (w x s t : List ℕ) → Begins x w → SaysByRun g w s → SaysByRun g x t → Begins t s
  said_grows w x s t p h k =
      let d = agreed_grows (node_moves g.nodes) g.start w p.0 h.agreed k.agreed h.is_agreed (subst (λ z. Agreed (node_moves g.nodes) g.start z k.agreed) p.1 k.is_agreed) in
      let m = more_left h.run k.run h.agreed k.agreed h.runs k.runs h.begins k.begins d in
      (m.0, k.said ∙ m.1 ∙ ap (λ z. z ++ m.0) (sym h.said))

  meant_grows : (w x s t : List ℕ) → Begins x w → SaysByRun g w s → MeansByRun g x t → Begins t s
  meant_grows w x s t p h k =
      let d = agreed_greedy (node_moves g.nodes) g.start w p.0 h.agreed k.greedy h.is_agreed (subst (λ z. Greedy (node_moves g.nodes) g.start z k.greedy) p.1 k.is_greedy) in
      let m = more_left h.run k.run h.agreed k.greedy h.runs k.runs h.begins ([], k.codes ∙ sym (append-nil k.greedy)) d in
      (m.0, k.meant ∙ m.1 ∙ ap (λ z. z ++ m.0) (sym h.said))

  pub orderly : model.Orderly (IsViableFor g) (SaysByRun g) (HasRun g) (MeansByRun g)
  orderly = record {
    front = λ w x p v. viable_front (node_moves g.nodes) g.start w p.0 (subst (λ z. IsViableFor g z) p.1 v);
    said = said_grows;
    meant = meant_grows;
    good = λ w s m. let k = m.is_greedy in (k.0, (m.greedy, k.2.reached, k.2.alive));
  }

  parsed : (w s : List ℕ) → MeansByRun g w s → HasRun g w
  parsed w s m =
      let k = m.is_greedy in
      let r = k.2.reached in
      (m.run, m.runs, ap (λ z. bytes_of z) (m.codes ∙ sym r.2) ∙ r.1.reads)

  pub one_meaning : (w s t : List ℕ) → MeansByRun g w s → MeansByRun g w t → s ≡ t
  one_meaning w s t h k =
      let code : h.greedy ≡ k.greedy = at_most_both h.greedy k.greedy (h.least k.greedy k.is_greedy) (k.least h.greedy h.is_greedy) in
      let left = same_left h.run k.run h.greedy h.runs k.runs ([], h.codes ∙ sym (append-nil h.greedy)) ([], k.codes ∙ sym code ∙ sym (append-nil h.greedy)) in
      h.meant ∙ ap (λ z. z.out) left ∙ ap (λ z. (left_by g k.run z).out) code ∙ sym k.meant

  pub one_answer : (n : ℕ) {w : List ℕ} {e : Bool} {a b : Answer} → MachineAnswers g n w e a → MachineAnswers g n w e b → a ≡ b
  one_answer n h k = model.one_answer (IsViableFor g) (SaysByRun g) (HasRun g) (MeansByRun g) orderly n parsed one_meaning h k

  pub grows : (n : ℕ) (w v : List ℕ) {e : Bool} {a b : Answer} → MachineAnswers g n w false a → MachineAnswers g n (w ++ v) e b → Begins b.text a.text
  grows n w v h k = (model.stays (IsViableFor g) (SaysByRun g) (HasRun g) (MeansByRun g) orderly n (v, refl) h k).0

  pub stays : (n : ℕ) (w v : List ℕ) {e : Bool} {a b : Answer} → MachineAnswers g n w false a → MachineAnswers g n (w ++ v) e b → (a.stop ≡ None → ⊥) → b ≡ a
  stays n w v h k = (model.stays (IsViableFor g) (SaysByRun g) (HasRun g) (MeansByRun g) orderly n (v, refl) h k).1

  pub ends : (n : ℕ) {w : List ℕ} {e : Bool} {a : Answer} → MachineAnswers g n w e a → a.ended ≡ (e && is_none a.stop)
  ends n {e = false} (bad_byte v bad l says) = refl
  ends n {e = true} (bad_byte v bad l says) = refl
  ends n {e = false} (too_long lt good says) = refl
  ends n {e = true} (too_long lt good says) = refl
  ends n (cut_off le good none says) = refl
  ends n (whole le means) = refl
  ends n (still_open le good says) = refl

  pub past_limit : (n : ℕ) {w : List ℕ} {e : Bool} {a : Answer} → MachineAnswers g n w e a → n < length w → IsSome a.stop
  past_limit n (bad_byte v bad l says) lt = refl
  past_limit n (too_long l good says) lt = refl
  past_limit n (cut_off le good none says) lt = refl
  past_limit n (whole le means) lt = absurd (omega (arith, le, lt))
  past_limit n (still_open le good says) lt = absurd (omega (arith, le, lt))

  -- what has stopped stays so, whatever comes
  pub stopped_more : (n : ℕ) (w v : List ℕ) (e : Bool) {a : Answer} → MachineAnswers g n w false a → (a.stop ≡ None → ⊥) → MachineAnswers g n (w ++ v) e a
  stopped_more n w v e (bad_byte u bad l says) some =
      let front : Begins (take n (w ++ v)) (take n w) = model.take_front n w (w ++ v) (v, refl) in
      bad_byte u (λ good. bad (orderly.front (take n w) (take n (w ++ v)) front good)) (record {
        front = further_front u (take n w) (take n (w ++ v)) l.front front;
        good = l.good;
        longest = λ x b good. ⊎_elim
            (λ q. absurd (bad (orderly.front (take n w) x q good)))
            (λ q. l.longest x q good)
            (two_fronts x (take n w) b.0 front.0 (sym b.1 ∙ front.1));
      }) says
  stopped_more n w v e (too_long {text = text} lt good says) some =
      let same : take n w ≡ take n (w ++ v) = model.same_take n w (w ++ v) (v, refl) lt in
      too_long (omega (arith, lt, length-append w v)) (subst (λ z. IsViableFor g z) same good) (subst (λ z. SaysByRun g z text) same says)
  stopped_more n w v e (still_open le good says) some = absurd (some refl)
