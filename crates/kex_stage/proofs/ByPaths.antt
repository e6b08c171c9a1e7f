-- An oracle that goes by paths.
use Rattle.std.proofs.Common.{◌≡◌, ℕ, ◌<◌, ◌≤◌, ◌+◌, ◌⊎◌, List, [], ◌∷◌, ◌++◌, length, take, refl, sym, ap, subst, ◌∙◌, append_assoc, arith, inl, inr, ⊎_elim, take-suc, add-one, length-append, length-take}
use Rattle.std.specs.Prelude.{slice_index_or}
use Rattle.kex_code.specs.declared.symbol.Symbol.{Symbol}
use Rattle.kex_code.specs.Codes.{Begins, IsAmong}
use Rattle.kex_model.specs.Labelled.{Leaf, Labelled, tip, fork, leaves_of}
use Rattle.kex_model.specs.Survivors.{Agreed}
use Rattle.kex_machine.specs.Nodes.{Graph, node_moves}
use Rattle.kex_machine.specs.Answers.{IsViableFor, HasRun, IsSaid, IsGreedy}
use Rattle.kex_frontier.specs.Frontiers.{Front, IsFed, IsOver}
use Rattle.kex_frontier.specs.declared.frontier.Ended.{Ended}
use Rattle.kex_frontier.specs.declared.frontier.Ended.TheVariants.{Parsed, Cut}
use Rattle.kex_plan.specs.declared.plan.Telling.TheVariants as telling
use Rattle.kex_stage.specs.declared.oracle.Oracle.TheVariants.{Paths}
use Rattle.kex_stage.specs.Oracles.{Agrees, HasSurvivor, HearsOn, Tells, TellsEnd, ReadsOn, OracleReads, is_parsed}
use Rattle.kex_stage.proofs.OracleAnswers.{whole_front, said_before, agrees, take_all, more_taken}

-- a tree has a leaf
leaf_in : {A S : Type 0} (t : Labelled A S) (c : List A) → (x : Leaf A S) × IsAmong (leaves_of t c) x
leaf_in (tip p) c = (record { at = p; code = c }, inl refl)
leaf_in (fork x l y r) c =
    let h = leaf_in l (c ++ x) in
    (h.0, among_front (leaves_of l (c ++ x)) (leaves_of r (c ++ y)) h.0 h.1)
  where
    among_front : {B : Type 0} (xs ys : List B) (z : B) → IsAmong xs z → IsAmong (xs ++ ys) z
    among_front [] ys z h = absurd h
    among_front (x ∷ xs) ys z (inl e) = inl e
    among_front (x ∷ xs) ys z (inr h) = inr (among_front xs ys z h)

-- what was fed and can go on has a survivor
pub survivor_of : (f : Front) (g : Graph) (w : List ℕ) (c : List Symbol) → f.machine ≡ g → IsFed f w c → IsViableFor g w → HasSurvivor g w
survivor_of f g w c e (inl (t, h, k)) v =
    let x = leaf_in t (c ++ f.untaken) in
    subst (λ z. HasSurvivor z w) e (x.0.at, x.0.code, h.lists.each x.0 x.1)
survivor_of f g w c e (inr (dead, h, k)) v = absurd (dead (subst (λ z. IsViableFor z w) (sym e) v))

-- the empty text can go on
pub begins_good : (f : Front) (g : Graph) → f.machine ≡ g → IsFed f [] [] → IsViableFor g []
begins_good f g e (inl (t, h, k)) =
    let x = leaf_in t ([] ++ f.untaken) in
    let s = h.lists.each x.0 x.1 in
    subst (λ z. IsViableFor z []) e (x.0.at, (x.0.code, s.reached, s.alive))
begins_good f g e (inr (dead, h, k)) = absurd (dead (subst (λ z. IsViableFor f.machine z) (empty h.of h.longest.front) h.longest.viable))
  where
    empty : (of : List ℕ) → Begins [] of → of ≡ []
    empty [] b = refl
    empty (x ∷ of) b = let bad : [] ≡ x ∷ (of ++ b.0) = b.1 in cc

pub next_byte : (w piece : List ℕ) (i : ℕ) → i < length piece → (w ++ take i piece) ++ slice_index_or piece i 0 ∷ [] ≡ w ++ take (i + 1) piece
next_byte w piece i h = append_assoc w (take i piece) _ ∙ ap (λ z. w ++ z) (sym (ap (λ (n : ℕ). take n piece) (add-one i) ∙ take-suc piece i 0 h))

-- the frontier was fed the first bytes
pub record Went (f old : Front) (g : Graph) (piece : List ℕ) (i : ℕ) : Type 0 where
  pub fed : (w : List ℕ) (c : List Symbol) → IsFed old w c → IsViableFor g w → IsFed f (w ++ take i piece) c
  pub good : (w : List ℕ) (c : List Symbol) → IsFed old w c → IsViableFor g w → IsViableFor g (w ++ take i piece)

module _ (f old : Front) (g : Graph) (same : f.machine ≡ g) (piece : List ℕ) where
  pub reads_all : Went f old g piece (length piece) → (w : List ℕ) (c : List Symbol) → IsFed old w c → IsViableFor g w → ReadsOn f g w piece (length piece) c
  reads_all h w c fed v =
      let is = h.fed w c fed v in
      let good = h.good w c fed v in
      record {
        good = good;
        survivor = survivor_of f g (w ++ take (length piece) piece) c same is good;
        all = λ e. subst (λ z. IsFed f (w ++ z) c) (take_all piece) is;
        bad = λ lt. absurd (omega (arith, lt));
      }

  pub reads_so_far : (i : ℕ) → i < length piece → Went f old g piece i → (new : Front) → ((w : List ℕ) (c : List Symbol) → IsFed f w c → (¬ IsViableFor g (w ++ slice_index_or piece i 0 ∷ [])) × IsFed new (w ++ slice_index_or piece i 0 ∷ []) c) → (w : List ℕ) (c : List Symbol) → IsFed old w c → IsViableFor g w → ReadsOn new g w piece i c
  reads_so_far i lt h new by w c fed v =
      let is = h.fed w c fed v in
      let good = h.good w c fed v in
      let next = by (w ++ take i piece) c is in
      record {
        good = good;
        survivor = survivor_of f g (w ++ take i piece) c same is good;
        all = λ e. absurd (omega (arith, e, lt));
        bad = λ _. (subst (λ z. ¬ IsViableFor g z) (next_byte w piece i lt) next.0, subst (λ z. IsFed new z c) (next_byte w piece i lt) next.1);
      }

pub went_next : (f old : Front) (g : Graph) (piece : List ℕ) (i : ℕ) → i < length piece → Went f old g piece i → (new : Front) → ((w : List ℕ) (c : List Symbol) → IsFed f w c → IsViableFor g (w ++ slice_index_or piece i 0 ∷ []) × IsFed new (w ++ slice_index_or piece i 0 ∷ []) c) → Went new old g piece (i + 1)
went_next f old g piece i lt h new by = record {
  fed = λ w c fed v. subst (λ z. IsFed new z c) (next_byte w piece i lt) (by (w ++ take i piece) c (h.fed w c fed v)).1;
  good = λ w c fed v. subst (λ z. IsViableFor g z) (next_byte w piece i lt) (by (w ++ take i piece) c (h.fed w c fed v)).0;
}

-- the oracle tells what a frontier's paths agree on
pub paths_tell : (f mid new : Front) (n m : ℕ) (piece : List ℕ) (count : ℕ) (told before after : List Symbol) → mid.machine ≡ f.machine → new.machine ≡ mid.machine → after ≡ before ++ told → count ≤ length piece → OracleReads f mid piece count → ((w : List ℕ) (c : List Symbol) → IsFed mid w c → IsFed new w (c ++ told) × IsSaid mid.machine w (c ++ told)) → Tells (Paths (record { frontier = f; read = n })) (Paths (record { frontier = new; read = m })) piece count before after
paths_tell f mid new n m piece count told before after m1 m2 e within reads takes = record {
  more = told;
  code = e;
  within = within;
  tells = λ k g w c h v. subst (λ z. HearsOn z g (Paths (record { frontier = new; read = m })) w piece count (c ++ told)) (sym h.0) (heard g w c h.1 h.2 v);
}
  where
    agreed_at : (g : Graph) (w : List ℕ) (c : List Symbol) → ReadsOn mid g w piece count c → ((x : List ℕ) → IsFed mid x c → IsFed new x (c ++ told) × IsSaid g x (c ++ told)) → Agreed (node_moves g.nodes) g.start (w ++ take count piece) (c ++ told)
    agreed_at g w c r said = ⊎_elim all some (cases within)
      where
        cases : count ≤ length piece → (count ≡ length piece) ⊎ (count < length piece)
        cases le = equal_or_less count (length piece) le
          where
            equal_or_less : (a b : ℕ) → a ≤ b → (a ≡ b) ⊎ (a < b)
            equal_or_less a b le = grind arith

        all : count ≡ length piece → Agreed (node_moves g.nodes) g.start (w ++ take count piece) (c ++ told)
        all is =
            let whole : take count piece ≡ piece = ap (λ z. take z piece) is ∙ take_all piece in
            let s = (said (w ++ piece) (r.all is)).1 in
            let good = subst (λ z. IsViableFor g (w ++ z)) whole r.good in
            subst (λ z. Agreed (node_moves g.nodes) g.start (w ++ z) (c ++ told)) (sym whole) (subst (λ z. Agreed (node_moves g.nodes) g.start z (c ++ told)) (whole_front g (w ++ piece) s.of s.longest good) s.agreed)

        some : count < length piece → Agreed (node_moves g.nodes) g.start (w ++ take count piece) (c ++ told)
        some lt =
            let b = r.bad lt in
            let s = (said (w ++ take (count + 1) piece) b.1).1 in
            said_before g (w ++ take count piece) (w ++ take (count + 1) piece) (c ++ told) (more_taken w count piece) (omega (arith, length-append w (take count piece), length-append w (take (count + 1) piece), length-take count piece, length-take (count + 1) piece, lt)) r.good b.0 s

    heard : (g : Graph) (w : List ℕ) (c : List Symbol) → f.machine ≡ g → IsFed f w c → IsViableFor g w → HearsOn telling.Agreed g (Paths (record { frontier = new; read = m })) w piece count (c ++ told)
    heard g w c same fed v =
        let r : ReadsOn mid g w piece count c = subst (λ z. ReadsOn mid z w piece count c) same (reads w c fed (subst (λ z. IsViableFor z w) (sym same) v)) in
        let said : (x : List ℕ) → IsFed mid x c → IsFed new x (c ++ told) × IsSaid g x (c ++ told) = λ x k. let t = takes x c k in (t.0, subst (λ z. IsSaid z x (c ++ told)) (m1 ∙ same) t.1) in
        record {
          hears = λ all. (refl, m2 ∙ m1 ∙ same, (said (w ++ piece) (r.all all)).0);
          good = r.good;
          bad = λ lt. (r.bad lt).0;
          agrees = agrees g (w ++ take count piece) (c ++ told) r.survivor (agreed_at g w c r said);
        }

-- what the paths tell at the end
pub paths_end : (answer : Ended) (f mid : Front) (n : ℕ) (told before after : List Symbol) → mid.machine ≡ f.machine → told ≡ mid.untaken → after ≡ before ++ told → ((w : List ℕ) (c : List Symbol) → IsFed f w c → IsOver answer mid w c) → TellsEnd (is_parsed answer) (Paths (record { frontier = f; read = n })) before after
paths_end Parsed f mid n told before after m is e over = record {
  more = told;
  code = e;
  tells = λ k g w c h v. subst (λ z. IsGreedy z w (c ++ told)) (m ∙ h.1) (subst (λ z. IsGreedy mid.machine w (c ++ z)) (sym is) (over w c h.2));
}
paths_end Cut f mid n told before after m is e over = record {
  more = told;
  code = e;
  tells = λ k g w c h v.
      let o = over w c h.2 in
      let s = subst (λ z. IsSaid z w (c ++ told)) (m ∙ h.1) (subst (λ z. IsSaid mid.machine w (c ++ z)) (sym is) o.1) in (
        subst (λ z. ¬ HasRun z w) (m ∙ h.1) o.0,
        subst (λ z. Agrees z g w (c ++ told)) (sym h.0) (agrees g w (c ++ told) (survivor_of f g w c h.1 h.2 v) (subst (λ z. Agreed (node_moves g.nodes) g.start z (c ++ told)) (whole_front g w s.of s.longest v) s.agreed)),
      );
}
