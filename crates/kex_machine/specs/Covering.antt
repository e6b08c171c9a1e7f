-- Which survivors of a text matter for what may come: those that aren't covered, and what their
-- codes agree on.
use Rattle.std.specs.Prelude.{◌≡◌, ℕ, zero, suc, Bool, true, false, List, [], ◌∷◌, ◌++◌, Option}
use Rattle.std.specs.Prelude.{Some, None, length, if◌then◌else◌}
use Rattle.kex_code.specs.declared.symbol.Symbol.{Symbol}
use Rattle.kex_code.specs.declared.symbol.Symbol.TheVariants.{L, R, Byte}
use Rattle.kex_code.specs.Codes.{bytes_of, Begins, Before, IsAmong}
use Rattle.kex_model.specs.Moves.{accept, Step, code_of, Walk}
use Rattle.kex_model.specs.Labelled.{Labelled, tip, fork, leaves_of, Grown, with_prefix, fork_of}
use Rattle.kex_model.specs.Survivors.{CodedPlace, IsParted, Survives, Agreed}
use Rattle.kex_model.specs.Answers.{Answer, Answers}
use Rattle.kex_machine.specs.Nodes.{Graph, node_moves}
use Rattle.kex_machine.specs.Answers.{IsViableFor, HasRun, IsGreedy, SaysTold, MeansByRun}

-- a code, cut before the symbol of the first byte after n bytes
abbrev pub cut_behind : ℕ → List Symbol → List Symbol
cut_behind n [] = []
cut_behind n (L ∷ c) = L ∷ cut_behind n c
cut_behind n (R ∷ c) = R ∷ cut_behind n c
cut_behind zero (Byte b ∷ c) = []
cut_behind (suc n) (Byte b ∷ c) = Byte b ∷ cut_behind n c

-- the tree of the leaves that are kept, and the label before its root: where one side of a fork is
-- gone, labels are joined
abbrev pub restrict : {A : Type 0} → (ℕ → Bool) → Labelled A ℕ → Option (Grown A ℕ)
restrict keep (tip p) = if keep p then Some (record { label = []; tree = tip p }) else None
restrict keep (fork x l y r) = fork_of (with_prefix x (restrict keep l))
    (with_prefix y (restrict keep r))

abbrev pub restrict_if : {A : Type 0} → (ℕ → Bool) → Option (Grown A ℕ) → Option (Grown A ℕ)
restrict_if keep None = None
restrict_if keep (Some g) = with_prefix g.label (restrict keep g.tree)

module _ (g : Graph) where
  -- x leads from node p to the end
  abbrev pub EndsBy : ℕ → List ℕ → Type 0
  EndsBy p x = (ks : List (Step ℕ)) × (e : ℕ) × Walk (node_moves g.nodes) p ks e
      × (node_moves g.nodes e ≡ accept) × (bytes_of (code_of ks) ≡ x)

  -- the survivor p of w, of code c, is covered: every text that leads from it to the end leads
  -- there from some survivor that comes before it
  abbrev pub IsCovered : List ℕ → ℕ → List Symbol → Type 0
  IsCovered w p c = (x : List ℕ) → EndsBy p x → (q : ℕ) × (d : List Symbol)
      × Survives (node_moves g.nodes) g.start w q d × Before d c × EndsBy q x

  -- of the survivors of w from which x leads to the end p is the first
  pub record IsFirstBy (w x : List ℕ) (p : ℕ) (c : List Symbol) : Type 0 where
    pub survives : Survives (node_moves g.nodes) g.start w p c
    pub ends : EndsBy p x
    pub none_before : (q : ℕ) (d : List Symbol) → Survives (node_moves g.nodes) g.start w q d
        → Before d c → EndsBy q x → ⊥

  -- the survivor p of w, of code c, isn't covered: for some text it is the first
  abbrev pub IsUncovered : List ℕ → ℕ → List Symbol → Type 0
  IsUncovered w p c = (x : List ℕ) × IsFirstBy w x p c

  -- c is the longest common prefix of the greedy codes of all texts that begin with w, each cut
  -- where w ends
  pub record Best (w : List ℕ) (c : List Symbol) : Type 0 where
    pub viable : IsViableFor g w
    pub common : (x : List ℕ) (d : List Symbol) → IsGreedy g (w ++ x) d
        → Begins (cut_behind (length w) d) c
    pub longest : (c' : List Symbol) → ((x : List ℕ) (d : List Symbol) → IsGreedy g (w ++ x) d
        → Begins (cut_behind (length w) d) c') → Begins c c'

  -- c is the longest common prefix of the codes of the survivors that aren't covered
  pub record UncoveredAgree (w : List ℕ) (c : List Symbol) : Type 0 where
    pub viable : IsViableFor g w
    pub common : (p : ℕ) (d : List Symbol) → IsUncovered w p d → Begins d c
    pub longest : (c' : List Symbol) → ((p : ℕ) (d : List Symbol) → IsUncovered w p d → Begins d c')
        → Begins c c'

  -- which places are kept: of the survivors of w those that aren't covered
  pub record KeepsUncovered (w : List ℕ) (keep : ℕ → Bool) : Type 0 where
    pub kept : (p : ℕ) (c : List Symbol) → Survives (node_moves g.nodes) g.start w p c
        → keep p ≡ true → IsUncovered w p c
    pub left_out : (p : ℕ) (c : List Symbol) → Survives (node_moves g.nodes) g.start w p c
        → keep p ≡ false → IsCovered w p c

  -- t is the tree of the survivors of w that aren't covered, and c what they agree on
  pub record HasUncoveredTree (w : List ℕ) (c : List Symbol) (t : Labelled Symbol ℕ) : Type 0 where
    pub each : (x : CodedPlace ℕ) → IsAmong (leaves_of t c) x → IsUncovered w x.at x.code
    pub all : (p : ℕ) (d : List Symbol) → IsUncovered w p d
        → IsAmong (leaves_of t c) (record { at = p; code = d })
    pub parted : IsParted t

  -- a tree of those that aren't covered, or none where w isn't viable
  abbrev pub ShowsUncovered : List ℕ → List Symbol → Option (Grown Symbol ℕ) → Type 0
  ShowsUncovered w c None = ¬ IsViableFor g w
  ShowsUncovered w c (Some a) = HasUncoveredTree w (c ++ a.label) a.tree

  -- ---- the laws

  -- where w and then x has a parse, its greedy code begins with that of the first survivor of w
  -- from which x leads to the end
  abbrev pub FirstLeads : List ℕ → List ℕ → Type 0
  FirstLeads w x = (d : List Symbol) → IsGreedy g (w ++ x) d → (p : ℕ) × (c : List Symbol)
      × IsFirstBy w x p c × Begins d c × (cut_behind (length w) d ≡ c)

  -- what is best is what the survivors agree on that aren't covered, of which there is one where w
  -- is viable; none of them is covered
  pub record BestByUncovered (w : List ℕ) : Type 0 where
    pub some : IsViableFor g w → (p : ℕ) × (c : List Symbol) × IsUncovered w p c
    pub apart : (p : ℕ) (c : List Symbol) → IsCovered w p c → IsUncovered w p c → ⊥
    pub best : (c : List Symbol) → UncoveredAgree w c → Best w c
    pub agree : (c : List Symbol) → Best w c → UncoveredAgree w c

  -- a survivor of w and b that isn't covered comes from one of w that isn't
  abbrev pub UncoveredComes : List ℕ → ℕ → Type 0
  UncoveredComes w b = (q : ℕ) (d : List Symbol) → IsUncovered (w ++ b ∷ []) q d → (p : ℕ)
      × (c : List Symbol) × IsUncovered w p c × Begins d (c ++ Byte b ∷ [])

  -- ---- a stage that says what is best

  abbrev pub SaysBest : List ℕ → List ℕ → Type 0
  SaysBest w text = SaysTold g Best w text

  -- its answer on w, open or (true) ended, within a limit
  abbrev pub BestAnswers : ℕ → List ℕ → Bool → Answer → Type 0
  BestAnswers limit w e a = Answers (IsViableFor g) SaysBest (HasRun g) (MeansByRun g) limit w e a

  -- what is best grows with the text, up to the greedy code, and has what is agreed in front; what
  -- is said grows with it, up to the meaning
  pub record BestGrows (w v : List ℕ) : Type 0 where
    pub one : (c d : List Symbol) → Best w c → Best w d → c ≡ d
    pub best : (c d : List Symbol) → Best w c → Best (w ++ v) d → Begins d c
    pub greedy : (c d : List Symbol) → Best w c → IsGreedy g (w ++ v) d → Begins d c
    pub agreed : (c d : List Symbol) → Agreed (node_moves g.nodes) g.start w c → Best w d
        → Begins d c
    pub said : (s t : List ℕ) → SaysBest w s → SaysBest (w ++ v) t → Begins t s
    pub meant : (s t : List ℕ) → SaysBest w s → MeansByRun g (w ++ v) t → Begins t s

  -- on each text there is at most one answer; the text grows, and a stop stays; past the limit
  -- there is a stop
  pub record BestAnswersStand (n : ℕ) : Type 0 where
    pub one : (w : List ℕ) (e : Bool) (a b : Answer) → BestAnswers n w e a → BestAnswers n w e b
        → a ≡ b
    pub grows : (w v : List ℕ) (e : Bool) (a b : Answer) → BestAnswers n w false a
        → BestAnswers n (w ++ v) e b → Begins b.text a.text
    pub stays : (w v : List ℕ) (e : Bool) (a b : Answer) → BestAnswers n w false a
        → BestAnswers n (w ++ v) e b → (a.stop ≡ None → ⊥) → b ≡ a
