-- What is said grows.
use Rattle.std.proofs.Common.{zero, suc, true, false, ◌∷◌}
use Rattle.kex_model.specs.declared.program.Kind.{Kind}
use Rattle.kex_model.specs.declared.program.Kind.TheVariants.{One, Lit, Class, Call, Seq, Alt, Rep, Mute, At, Write, Set, Add}
use Rattle.kex_model.specs.Moves.{accept}
use Rattle.kex_model.specs.declared.frame.Frame.TheVariants.{Pending, EndOf}
use Rattle.kex_model.specs.Places.{Place, moves_of, with_counts}
use Rattle.kex_model.specs.Survivors.{Survives}
use Rattle.std.proofs.Common.{◌≡◌, ℕ, List, [], ◌++◌, ◌⊎◌, Option, Some, None, refl, sym, ap, subst, ◌∙◌, append_assoc, append-nil}
use Rattle.kex_model.specs.Programs.{Grammar}
use Rattle.kex_code.specs.declared.symbol.Symbol.{Symbol}
use Rattle.kex_code.specs.Codes.{Begins, Before}
use Rattle.kex_model.specs.Trees.{Tree, IsTree, kind_at, code, PartMeaning, meaning, part_meaning}
use Rattle.kex_model.specs.Places.{moves, start_of}
use Rattle.kex_model.specs.Survivors.{IsViable, Greedy}
use Rattle.kex_model.specs.Answers.{empty, code_at, GreedyParse, Means}
use Rattle.kex_model.specs.Laws.{Grows}
use Rattle.kex_model.proofs.AgreedFronts.{agreed_grows, agreed_greedy, viable_front}
use Rattle.kex_model.proofs.Parts.{same_part}
use Rattle.kex_model.proofs.PartialMeanings.{GrownBy, part_grows, part_whole}
use Rattle.kex_model.proofs.Correspondence.{one_to_one}

grown_bytes : (o : Option (List Symbol)) (p q : PartMeaning) (m : List Symbol) → GrownBy o p q m → Begins q.bytes p.bytes
grown_bytes None p q m h = h
grown_bytes (Some r) p q m h = ([], h.0 ∙ sym (append-nil p.bytes))

module _ (P : Grammar) (root : ℕ) where
  -- more of the code, also of another tree that begins so, writes more
  pub more_written : (s t : Tree) (c d : List Symbol) → IsTree P (kind_at P root) s → IsTree P (kind_at P root) t → Begins (code_at P root s) c → Begins (code_at P root t) d → Begins d c → Begins (part_meaning P (kind_at P root) t d (empty P)).bytes (part_meaning P (kind_at P root) s c (empty P)).bytes
  more_written s t c d hs ht bs bt more =
      let k = kind_at P root in
      let same : part_meaning P k s c (empty P) ≡ part_meaning P k t c (empty P) = same_part P c [] [] bs.0 (more.0 ++ bt.0) (empty P) hs ht (append-nil (code P k s) ∙ bs.1) (append-nil (code P k t) ∙ bt.1 ∙ ap (λ z. z ++ bt.0) more.1 ∙ append_assoc c more.0 bt.0) in
      let grown : Begins (part_meaning P k t (c ++ more.0) (empty P)).bytes (part_meaning P k t c (empty P)).bytes = grown_bytes (part_meaning P k t c (empty P)).rest (part_meaning P k t c (empty P)) (part_meaning P k t (c ++ more.0) (empty P)) more.0 (part_grows P c more.0 (empty P) ht) in
      rw (more.1, same) grown

  pub survivor_of : (w : List ℕ) (t : Tree) → GreedyParse P root w t → Greedy (moves P) (start_of P root) w (code_at P root t)
  survivor_of w t g =
      let both = one_to_one P root w in
      let path = both.path_of_parse t g.parses in (
        [],
        refl,
        record {
          reached = path;
          alive = ([], [], refl, refl);
          least = λ d r. let s = both.parse_of_path r.0 r.1 in subst (λ z. (code_at P root t ≡ z) ⊎ Before (code_at P root t) z) (s.2 ∙ r.2) (g.least s.0 s.1);
        },
      )

  pub grows : (w v : List ℕ) → Grows P root w v
  grows w v = record {
    viable = viable_front (moves P) (start_of P root) w v;
    agreed = agreed_grows (moves P) (start_of P root) w v;
    greedy = λ c t hc g. agreed_greedy (moves P) (start_of P root) w v c (code_at P root t) hc (survivor_of (w ++ v) t g);
    said = λ x y hx hy. let m = more_written hx.tree hy.tree hx.agreed hy.agreed hx.parses.tree hy.parses.tree hx.begins hy.begins (agreed_grows (moves P) (start_of P root) w v hx.agreed hy.agreed hx.is_agreed hy.is_agreed) in (m.0, hy.said ∙ m.1 ∙ ap (λ z. z ++ m.0) (sym hx.said));
    meant = λ x y hx hy.
        let t = hy.0 in
        let k = kind_at P root in
        let whole : Begins (code_at P root t) (code_at P root t) = ([], sym (append-nil (code_at P root t))) in
        let m = more_written hx.tree t hx.agreed (code_at P root t) hx.parses.tree hy.1.parses.derives.tree hx.begins whole (agreed_greedy (moves P) (start_of P root) w v hx.agreed (code_at P root t) hx.is_agreed (survivor_of (w ++ v) t hy.1)) in
        let all : (part_meaning P k t (code P k t) (empty P)).bytes ≡ (meaning P k t (empty P)).bytes = ap (λ z. (part_meaning P k t z (empty P)).bytes) (sym (append-nil (code P k t))) ∙ ap (λ z. z.bytes) (part_whole P [] (empty P) hy.1.parses.derives.tree) in
        (m.0, hy.2 ∙ sym all ∙ m.1 ∙ ap (λ z. z ++ m.0) (sym hx.said));
  }

  pub means_good : (w s : List ℕ) → Means P root w s → IsViable (moves P) (start_of P root) w
  means_good w s h = let g = survivor_of w h.0 h.1 in (g.0, (code_at P root h.0, g.2.reached, g.2.alive))

  never_accepts : (n : ℕ) (k : Kind) (rest : Place) → moves_of P n k rest ≡ accept → ⊥
  never_accepts n One rest e = cc
  never_accepts n (Lit s) rest e = cc
  never_accepts n (Class s) rest e = cc
  never_accepts n (Call f) rest e = cc
  never_accepts n (Seq l r) rest e = cc
  never_accepts n (Alt l r) rest e = cc
  never_accepts n (Rep body (suc min) max lazy) rest e = cc
  never_accepts n (Rep body zero None false) rest e = cc
  never_accepts n (Rep body zero None true) rest e = cc
  never_accepts n (Rep body zero (Some zero) lazy) rest e = cc
  never_accepts n (Rep body zero (Some (suc m)) false) rest e = cc
  never_accepts n (Rep body zero (Some (suc m)) true) rest e = cc
  never_accepts n (Mute t) rest e = cc
  never_accepts n (At r t) rest e = cc
  never_accepts n (Write r) rest e = cc
  never_accepts n (Set r s) rest e = cc
  never_accepts n (Add r s) rest e = cc

  -- the empty place alone is the end
  pub end_is_empty : (p : Place) → moves P p ≡ accept → p ≡ []
  end_is_empty [] e = refl
  end_is_empty (Pending n need left ∷ rest) e = absurd (never_accepts n (with_counts (kind_at P n) need left) rest e)
  end_is_empty (EndOf n ∷ rest) e = cc

  -- the least path to the end is that of the greedy parse
  pub parse_of_survivor : (w : List ℕ) (c : List Symbol) → Greedy (moves P) (start_of P root) w c → (t : Tree) × GreedyParse P root w t × (code_at P root t ≡ c)
  parse_of_survivor w c (p, acc, s) =
      let both = one_to_one P root w in
      let at_end : Survives (moves P) (start_of P root) w [] c = subst (λ z. Survives (moves P) (start_of P root) w z c) (end_is_empty p acc) s in
      let t = both.parse_of_path at_end.reached.0 at_end.reached.1 in
      let same : code_at P root t.0 ≡ c = t.2 ∙ at_end.reached.2 in (
        t.0,
        record {
          parses = t.1;
          least = λ u h. let x = both.path_of_parse u h in subst (λ z. (z ≡ code_at P root u) ⊎ Before z (code_at P root u)) (sym same) (at_end.least (code_at P root u) x);
        },
        same,
      )
