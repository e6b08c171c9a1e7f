-- What an oracle and an actor say is what the stage answers.
use Rattle.std.proofs.Common.{◌≡◌, ℕ, ◌≤◌, ◌+◌, List, [], ◌∷◌, ◌++◌, length, take, drop, refl, sym, ap, subst, ◌∙◌, append_assoc, append-nil, arith, length-append, take-append-drop, length-take}
use Rattle.kex_code.specs.declared.symbol.Symbol.{Symbol}
use Rattle.kex_code.specs.Codes.{Begins, bytes_of}
use Rattle.kex_model.specs.Moves.{Step, code_of}
use Rattle.kex_model.specs.Survivors.{Agreed, LongestViable}
use Rattle.kex_model.proofs.OpenAnswers.{shorter_front, same_front}
use Rattle.kex_model.proofs.Walks.{bytes_of-append}
use Rattle.kex_model.proofs.Derivations.{walk-append, code_of-append}
use Rattle.kex_machine.specs.Nodes.{Graph, node_moves}
use Rattle.kex_machine.specs.Answers.{IsViableFor, IsRun, left_by, MeansByRun, IsSaid, IsGreedy}
use Rattle.kex_action.specs.Actors.{Position, HasPerformed, IsSettled}
use Rattle.kex_plan.specs.declared.plan.Telling.{Telling}
use Rattle.kex_plan.specs.declared.plan.Telling.TheVariants as telling
use Rattle.kex_stage.specs.Oracles.{Agrees, HasSurvivor}
use Rattle.kex_plan.specs.Plans.{SaysAs}

-- the longest front that can go on of a text that can is the text
pub whole_front : (g : Graph) (w of : List ℕ) → LongestViable (node_moves g.nodes) g.start w of → IsViableFor g w → of ≡ w
whole_front g w of l v =
    let more : length w ≤ length of = l.longest w ([], sym (append-nil w)) v in
    same_front w of w l.front ([], sym (append-nil w)) (omega (arith, more, ap length l.front.1, length-append of l.front.0))

-- a survivor's path goes on to a run
pub agrees : (g : Graph) (w : List ℕ) (c : List Symbol) → HasSurvivor g w → Agreed (node_moves g.nodes) g.start w c → Agrees telling.Agreed g w c
agrees g w c (p, d, s) agreed =
    let path = s.reached in
    let on = s.alive in
    let front : Begins d c = agreed.common p d s in
    record {
      told = agreed;
      run = path.0 ++ on.0;
      runs = (on.1, walk-append (node_moves g.nodes) path.0 on.0 g.start p on.1 path.1.walk on.2, on.3);
      begins = (front.0 ++ code_of on.0, code_of-append path.0 on.0 ∙ ap (λ z. z ++ code_of on.0) (path.2 ∙ front.1) ∙ append_assoc c front.0 (code_of on.0));
      reads = (bytes_of (code_of on.0), ap (λ z. bytes_of z) (code_of-append path.0 on.0) ∙ bytes_of-append (code_of path.0) (code_of on.0) ∙ ap (λ z. z ++ bytes_of (code_of on.0)) path.1.reads);
    }

module _ (g : Graph) (a : Position) (same : a.machine ≡ g) (settled : IsSettled a) (c : List Symbol) (out : List ℕ) (p : HasPerformed a c c out) where
  left_out : (ks : List (Step ℕ)) → IsRun g ks → Begins (code_of ks) c → out ≡ (left_by g ks c).out
  left_out ks r b = subst (λ m. out ≡ (left_by m ks c).out) same (sym (ap (λ z. z.out) (p.left settled ks (subst (λ m. IsRun m ks) (sym same) r) b)))

  pub says : {k : Telling} (w : List ℕ) → Agrees k g w c → SaysAs k g w out
  says w h = record { agreed = c; is_agreed = h.told; run = h.run; runs = h.runs; reads = h.reads; begins = h.begins; said = left_out h.run h.runs h.begins }

  pub means : (w : List ℕ) → IsGreedy g w c → MeansByRun g w out
  means w h =
      let e = h.greedy in
      let path = e.2.reached in
      let run : IsRun g path.0 = (e.0, path.1.walk, e.1) in
      record {
        greedy = c;
        is_greedy = e;
        least = h.least;
        run = path.0;
        runs = run;
        codes = path.2;
        meant = left_out path.0 run ([], path.2 ∙ sym (append-nil c));
      }

-- what is said where a byte was refused is what was agreed before it
pub said_before : (g : Graph) (v next : List ℕ) (c : List Symbol) → Begins next v → length next ≡ length v + 1 → IsViableFor g v → (IsViableFor g next → ⊥) → IsSaid g next c → Agreed (node_moves g.nodes) g.start v c
said_before g v next c p n good bad s =
    let more : length v ≤ length s.of = s.longest.longest v p good in
    subst (λ z. Agreed (node_moves g.nodes) g.start z c) (same_front next s.of v s.longest.front p (by s.of s.longest.front.0 s.longest.front.1 s.longest.viable more)) s.agreed
  where
    by : (of m : List ℕ) → next ≡ of ++ m → IsViableFor g of → length v ≤ length of → length of ≡ length v
    by of [] f h le = absurd (bad (subst (λ z. IsViableFor g z) (sym (f ∙ append-nil of)) h))
    by of (y ∷ m) f h le = omega (arith, ap length f, length-append of (y ∷ m), n, le)

pub take_all : {A : Type 0} (xs : List A) → take (length xs) xs ≡ xs
take_all [] = refl
take_all (x ∷ xs) = ap (λ z. x ∷ z) (take_all xs)

-- after a text, the first bytes of a piece begin one more of them
pub more_taken : (w : List ℕ) (k : ℕ) (xs : List ℕ) → Begins (w ++ take (k + 1) xs) (w ++ take k xs)
more_taken w k xs =
    let d = shorter_front xs (take k xs) (take (k + 1) xs) (drop k xs, sym (take-append-drop k xs)) (drop (k + 1) xs, sym (take-append-drop (k + 1) xs)) (omega (arith, length-take k xs, length-take (k + 1) xs)) in
    (d.0, ap (λ z. w ++ z) d.1 ∙ sym (append_assoc w (take k xs) d.0))
