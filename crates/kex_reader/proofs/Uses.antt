-- Nothing is spare: what is held, and what comes into a node.
use Rattle.std.proofs.Common.{◌≡◌, ℕ, ◌<◌, Bool, true, false, List, [], ◌∷◌, ◌++◌, ◌⊎◌, inl, inr, length, Option, None, Result, Ok, Err, refl, sym, ap, ◌∙◌, subst, arith, length-append}
use Rattle.std.specs.Prelude.{slice_get, IfOk, OnOk}
use Rattle.std.proofs.lemmas.Bool.{cases_lt}
use Rattle.kex_code.specs.Codes.{IsAmong}
use Rattle.kex_code.specs.declared.piece.Piece.{Piece}
use Rattle.kex_code.specs.declared.piece.Piece.TheVariants as pieces
use Rattle.kex_model.specs.declared.program.Kind.{Kind}
use Rattle.kex_model.specs.declared.program.Kind.TheVariants as kinds
use Rattle.kex_model.specs.declared.program.Node.{Node}
use Rattle.kex_model.specs.declared.program.Definition.{Definition as Root}
use Rattle.kex_model.specs.declared.program.Start.{Start}
use Rattle.kex_model.proofs.Shapes.{among_left, among_right}
use Rattle.kex_model.proofs.Tables.{get_last}
use Rattle.kex_regexp.specs.Parents.{NoneLost as NodesKept}
use Rattle.kex_regexp.specs.declared.counts.Bounds.{Bounds}
use Rattle.kex_reader.specs.declared.inside.TermFault.{TermFault}
use Rattle.kex_reader.specs.declared.inside.TermWait.{TermWait}
use Rattle.kex_reader.specs.declared.inside.TermWait.TheVariants as waits
use Rattle.kex_reader.specs.declared.reader.Head.{Head}
use Rattle.kex_reader.specs.declared.reader.Phase.{Phase}
use Rattle.kex_reader.specs.declared.reader.Phase.TheVariants as phases
use Rattle.kex_reader.specs.declared.reader.Reader.{Reader}
use Rattle.kex_reader.specs.declared.stack.TermConstruct.{TermConstruct}
use Rattle.kex_reader.specs.declared.stack.Prefix.{Prefix}
use Rattle.kex_reader.specs.declared.stack.Prefix.TheVariants as prefixes
use Rattle.kex_reader.specs.declared.stack.PlacedNode.{PlacedNode as Shown}
use Rattle.kex_reader.specs.Reading.{State, Begin, StageRead}
use Rattle.kex_reader.specs.Shown.{Made, assignment_kind}
use Rattle.kex_reader.specs.Stands.{Keeps, Has, LosesNone, InConstruct, InConstructs, InPart, InPieces, InPiece, InWait, IsHeld, StepLosesNone, construct_of, prefixed_kind}
use Rattle.kex_reader.specs.Holding.{InPhase, InReader, InProgram, EndLosesNone, ReaderLosesNone, FinishLosesNone, ShowsState, SomeState}
use Rattle.kex_reader.specs.Uses.{Numbered, NodeNumber, NameNumber, RegisterNumber, InKind, InNodes, InDefinition, InDefinitions, InStages, NoneSpare}
use Rattle.kex_model.specs.Programs.{Grammar}
use Rattle.kex_reader.proofs.Drafts.{Keeps-refl, Keeps-trans}

pub uses_stay : (a b : Made) (x : Numbered) → Keeps a b → InNodes a.nodes x → InNodes b.nodes x
uses_stay a b x k h = (h.0, h.1, k.nodes h.0 h.1 h.2, h.3)

-- where nothing is made
pub unchanged : (a : Made) (B A : Numbered → Type 0) → ((x : Numbered) → B x → A x) → LosesNone a a B A
unchanged a B A f = λ e. record { held = λ x h. inr (f x h); added = λ x h. inl h }

pub none_lost : (a b c : Made) (B M A : Numbered → Type 0) → Keeps b c → LosesNone a b B M → LosesNone b c M A → LosesNone a c B A
none_lost a b c B M A k f g = λ e.
    let p = f (k.broken e) in
    let q = g e in
    record {
      held = λ x h. elim (p.held x h) [ inl u ↦ inl (uses_stay b c x k u) | inr m ↦ q.held x m ];
      added = λ x h. elim (q.added x h) [
        | inl old ↦ elim (p.added x old) [
          | inl older ↦ inl older
          | inr r ↦ elim r [ inl u ↦ inr (inl (uses_stay b c x k u)) | inr m ↦ inr (q.held x m) ]
        ]
        | inr r ↦ inr r
      ];
    }

-- what is held beside it stays
pub beside : (a b : Made) (B A R B' A' : Numbered → Type 0) → ((x : Numbered) → B' x → B x ⊎ R x) → ((x : Numbered) → A x → A' x) → ((x : Numbered) → R x → A' x) → LosesNone a b B A → LosesNone a b B' A'
beside a b B A R B' A' f g r h = λ e.
    let p = h e in
    record {
      held = λ x i. elim (f x i) [ inl m ↦ elim (p.held x m) [ inl u ↦ inl u | inr m ↦ inr (g x m) ] | inr m ↦ inr (r x m) ];
      added = λ x i. elim (p.added x i) [ inl old ↦ inl old | inr q ↦ elim q [ inl u ↦ inr (inl u) | inr m ↦ inr (inr (g x m)) ] ];
    }

pub held_as : (a b : Made) (B A B' A' : Numbered → Type 0) → ((x : Numbered) → B' x → B x) → ((x : Numbered) → A x → A' x) → LosesNone a b B A → LosesNone a b B' A'
held_as a b B A B' A' f g h = beside a b B A (λ x. ⊥) B' A' (λ x i. inl (f x i)) g (λ x z. absurd z) h

-- ---- what is made

pub node_added : (a b : Made) (kind : Kind) (at n : ℕ) → b.nodes ≡ a.nodes ++ record { kind = kind; at = at } ∷ [] → b.names ≡ a.names → b.registers ≡ a.registers → n ≡ length a.nodes → LosesNone a b (InKind kind) (λ x. x ≡ NodeNumber n)
node_added a b kind at n e f g i = λ z. record {
  held = λ x h. inl (length a.nodes, record { kind = kind; at = at }, ap (λ (ns : List Node). slice_get ns (length a.nodes)) e ∙ get_last a.nodes (record { kind = kind; at = at }), h);
  added = go;
}
  where
    go : (x : Numbered) → Has b x → Has a x ⊎ (InNodes b.nodes x ⊎ (x ≡ NodeNumber n))
    go (NodeNumber k) h = elim (cases_lt k (length a.nodes)) [
      | inl below ↦ inl below
      | inr above ↦ let same : k ≡ n = omega (arith, i, ap (λ (ns : List Node). length ns) e, length-append a.nodes (record { kind = kind; at = at } ∷ [])) in inr (inr (ap NodeNumber same))
    ]
    go (NameNumber k) h = inl (subst (λ (ns : List (List ℕ)). k < length ns) f h)
    go (RegisterNumber k) h = inl (subst (λ (ns : List (List ℕ)). k < length ns) g h)

pub name_added : (a b : Made) (n : ℕ) → b.nodes ≡ a.nodes → b.registers ≡ a.registers → ((k : ℕ) → k < length b.names → (k < length a.names) ⊎ (k ≡ n)) → LosesNone a b (λ x. ⊥) (λ x. x ≡ NameNumber n)
name_added a b n e f g = λ z. record { held = λ x h. absurd h; added = go }
  where
    go : (x : Numbered) → Has b x → Has a x ⊎ (InNodes b.nodes x ⊎ (x ≡ NameNumber n))
    go (NodeNumber k) h = inl (subst (λ (ns : List Node). k < length ns) e h)
    go (NameNumber k) h = elim (g k h) [ inl below ↦ inl below | inr same ↦ inr (inr (ap NameNumber same)) ]
    go (RegisterNumber k) h = inl (subst (λ (ns : List (List ℕ)). k < length ns) f h)

pub register_added : (a b : Made) (n : ℕ) → b.nodes ≡ a.nodes → b.names ≡ a.names → ((k : ℕ) → k < length b.registers → (k < length a.registers) ⊎ (k ≡ n)) → LosesNone a b (λ x. ⊥) (λ x. x ≡ RegisterNumber n)
register_added a b n e f g = λ z. record { held = λ x h. absurd h; added = go }
  where
    go : (x : Numbered) → Has b x → Has a x ⊎ (InNodes b.nodes x ⊎ (x ≡ RegisterNumber n))
    go (NodeNumber k) h = inl (subst (λ (ns : List Node). k < length ns) e h)
    go (NameNumber k) h = inl (subst (λ (ns : List (List ℕ)). k < length ns) f h)
    go (RegisterNumber k) h = elim (g k h) [ inl below ↦ inl below | inr same ↦ inr (inr (ap RegisterNumber same)) ]

pub body_added : (a b : Made) (n : ℕ) → b.names ≡ a.names → b.registers ≡ a.registers → NodesKept a.nodes b.nodes (λ k. ⊥) (λ k. k ≡ n) → LosesNone a b (λ x. ⊥) (λ x. x ≡ NodeNumber n)
body_added a b n e f p = λ z. record { held = λ x h. absurd h; added = go }
  where
    go : (x : Numbered) → Has b x → Has a x ⊎ (InNodes b.nodes x ⊎ (x ≡ NodeNumber n))
    go (NodeNumber k) h = elim (p.added k h) [ inl old ↦ inl old | inr q ↦ elim q [ inl u ↦ inr (inl u) | inr same ↦ inr (inr (ap NodeNumber same)) ] ]
    go (NameNumber k) h = inl (subst (λ (ns : List (List ℕ)). k < length ns) e h)
    go (RegisterNumber k) h = inl (subst (λ (ns : List (List ℕ)). k < length ns) f h)

-- ---- where it is in a kind

pub in_seq : (l r : ℕ) (x : Numbered) → (x ≡ NodeNumber l) ⊎ (x ≡ NodeNumber r) → InKind (kinds.Seq l r) x
in_seq l r x (inl e) = subst (λ (y : Numbered). InKind (kinds.Seq l r) y) (sym e) (inl refl)
in_seq l r x (inr e) = subst (λ (y : Numbered). InKind (kinds.Seq l r) y) (sym e) (inr refl)

pub in_alt : (l r : ℕ) (x : Numbered) → (x ≡ NodeNumber l) ⊎ (x ≡ NodeNumber r) → InKind (kinds.Alt l r) x
in_alt l r x (inl e) = subst (λ (y : Numbered). InKind (kinds.Alt l r) y) (sym e) (inl refl)
in_alt l r x (inr e) = subst (λ (y : Numbered). InKind (kinds.Alt l r) y) (sym e) (inr refl)

pub in_rep : (n low : ℕ) (high : Option ℕ) (lazy : Bool) (x : Numbered) → x ≡ NodeNumber n → InKind (kinds.Rep n low high lazy) x
in_rep n low high lazy x e = subst (λ (y : Numbered). InKind (kinds.Rep n low high lazy) y) (sym e) refl

pub in_call : (n : ℕ) (x : Numbered) → x ≡ NameNumber n → InKind (kinds.Call n) x
in_call n x e = subst (λ (y : Numbered). InKind (kinds.Call n) y) (sym e) refl

pub in_write : (n : ℕ) (x : Numbered) → x ≡ RegisterNumber n → InKind (kinds.Write n) x
in_write n x e = subst (λ (y : Numbered). InKind (kinds.Write n) y) (sym e) refl

pub in_prefixed : (prefix : Prefix) (n : ℕ) (x : Numbered) → (x ≡ NodeNumber n) ⊎ InConstruct (construct_of prefix) x → InKind (prefixed_kind prefix n) x
in_prefixed (prefixes.Mute at) n x (inl e) = subst (λ (y : Numbered). InKind (kinds.Mute n) y) (sym e) refl
in_prefixed (prefixes.Mute at) n x (inr h) = absurd h
in_prefixed (prefixes.Store s) n x (inl e) = subst (λ (y : Numbered). InKind (kinds.At s.register n) y) (sym e) refl
in_prefixed (prefixes.Store s) n x (inr e) = subst (λ (y : Numbered). InKind (kinds.At s.register n) y) (sym e) refl

pub prefixed_as : (prefix p : Prefix) (n : ℕ) → prefix ≡ p → (x : Numbered) → (x ≡ NodeNumber n) ⊎ InConstruct (construct_of prefix) x → InKind (prefixed_kind p n) x
prefixed_as prefix p n e x h = in_prefixed p n x (subst (λ (q : Prefix). (x ≡ NodeNumber n) ⊎ InConstruct (construct_of q) x) e h)

pub in_assigned : (append : Bool) (r : ℕ) (ps : List Piece) (x : Numbered) → (x ≡ RegisterNumber r) ⊎ InPieces ps x → InKind (assignment_kind append r ps) x
in_assigned true r ps x (inl e) = subst (λ (y : Numbered). InKind (kinds.Add r ps) y) (sym e) (inl refl)
in_assigned false r ps x (inl e) = subst (λ (y : Numbered). InKind (kinds.Set r ps) y) (sym e) (inl refl)
in_assigned true r ps (RegisterNumber k) (inr h) = inr h
in_assigned false r ps (RegisterNumber k) (inr h) = inr h
in_assigned append r ps (NodeNumber k) (inr h) = absurd h
in_assigned append r ps (NameNumber k) (inr h) = absurd h

-- ---- pieces

pub pieces_under : (ps qs : List Piece) (q : Piece) → qs ≡ ps ++ q ∷ [] → (x : Numbered) → InPieces ps x → InPieces qs x
pieces_under ps qs q e (RegisterNumber r) h = subst (λ (ys : List Piece). IsAmong ys (pieces.Register r)) (sym e) (among_left ps (q ∷ []) (pieces.Register r) h)
pieces_under ps qs q e (NodeNumber n) h = absurd h
pieces_under ps qs q e (NameNumber n) h = absurd h

pub piece_on : (ps qs : List Piece) (q : Piece) → qs ≡ ps ++ q ∷ [] → (x : Numbered) → InPieces (q ∷ []) x → InPieces qs x
piece_on ps qs q e (RegisterNumber r) h = subst (λ (ys : List Piece). IsAmong ys (pieces.Register r)) (sym e) (among_right ps (q ∷ []) (pieces.Register r) h)
piece_on ps qs q e (NodeNumber n) h = absurd h
piece_on ps qs q e (NameNumber n) h = absurd h

pub pieces_are : (o p : Option Piece) → o ≡ p → (x : Numbered) → InPiece o x → InPiece p x
pieces_are o p e x h = subst (λ (y : Option Piece). InPiece y x) e h

pub register_piece : (r : ℕ) (x : Numbered) → x ≡ RegisterNumber r → InPieces (pieces.Register r ∷ []) x
register_piece r x e = subst (λ (y : Numbered). InPieces (pieces.Register r ∷ []) y) (sym e) (inl refl)

-- ---- constructs

pub constructs_are : (fs gs : List TermConstruct) → fs ≡ gs → (x : Numbered) → InConstructs fs x → InConstructs gs x
constructs_are fs gs e x h = subst (λ (ys : List TermConstruct). InConstructs ys x) e h

pub no_constructs : (fs : List TermConstruct) → length fs ≡ 0 → (x : Numbered) → InConstructs fs x → ⊥
no_constructs [] e x h = h
no_constructs (f ∷ fs) e x h = absurd (omega (arith, e))

pub parts_are : (o p : Option Shown) → o ≡ p → (x : Numbered) → InPart o x → InPart p x
parts_are o p e x h = subst (λ (y : Option Shown). InPart y x) e h

-- ---- steps

pub step_from : (r : Result TermWait TermFault) (a b : Made) (B B' : Numbered → Type 0) (gs : List TermConstruct) → ((x : Numbered) → B' x → B x) → IfOk r (λ w. LosesNone a b B (IsHeld gs w)) → IfOk r (λ w. LosesNone a b B' (IsHeld gs w))
step_from (Ok w) a b B B' gs f h = held_as a b _ _ _ _ f (λ x i. i) h
step_from (Err e) a b B B' gs f h = tt

pub step_then : (r : Result TermWait TermFault) (a b c : Made) (B M M' : Numbered → Type 0) (gs : List TermConstruct) → OnOk r (Keeps b c) → LosesNone a b B M → ((x : Numbered) → M x → M' x) → IfOk r (λ w. LosesNone b c M' (IsHeld gs w)) → IfOk r (λ w. LosesNone a c B (IsHeld gs w))
step_then (Ok w) a b c B M M' gs k f g h = none_lost a b c B M (IsHeld gs w) k f (held_as b c _ _ _ _ g (λ x i. i) h)
step_then (Err e) a b c B M M' gs k f g h = tt

pub waiting : (w v : TermWait) (a b : Made) (fs gs : List TermConstruct) (r : Result TermWait TermFault) → w ≡ v → StepLosesNone a b fs v gs r → StepLosesNone a b fs w gs r
waiting w v a b fs gs r e h = subst (λ (x : TermWait). StepLosesNone a b fs x gs r) (sym e) h

pub sign_read : (r : Result TermWait TermFault) (a : Made) (fs : List TermConstruct) (at k : ℕ) → IfOk r (λ w. (x : Numbered) → x ≡ RegisterNumber k → InWait w x) → StepLosesNone a a fs (waits.BracketName at k) fs r
sign_read (Ok w) a fs at k h = unchanged a _ _ (λ x i. elim i [ inl j ↦ inl j | inr e ↦ inr (h x e) ])
sign_read (Err e) a fs at k h = tt

-- an atom begins to take turns
pub turned_held : (w : TermWait) (a : Made) (fs : List TermConstruct) (part : Shown) (b : Bounds) → w ≡ waits.Turned part b → LosesNone a a (IsHeld fs (waits.After part)) (IsHeld fs w)
turned_held w a fs part b e = subst (λ (v : TermWait). LosesNone a a (IsHeld fs (waits.After part)) (IsHeld fs v)) (sym e) (unchanged a _ _ (λ x h. h))

-- ---- definitions and stages

pub definitions_under : (ds es : List Root) (d : Root) → es ≡ ds ++ d ∷ [] → (x : Numbered) → InDefinitions ds x → InDefinitions es x
definitions_under ds es d e x h = (h.0, subst (λ (ys : List Root). IsAmong ys h.0) (sym e) (among_left ds (d ∷ []) h.0 h.1), h.2)

pub definition_on : (ds es : List Root) (name at root : ℕ) → es ≡ ds ++ record { name = name; at = at; root = root } ∷ [] → (x : Numbered) → (x ≡ NodeNumber root) ⊎ (x ≡ NameNumber name) → InDefinitions es x
definition_on ds es name at root e x h =
    let d : Root = record { name = name; at = at; root = root } in
    (d, subst (λ (ys : List Root). IsAmong ys d) (sym e) (among_right ds (d ∷ []) d (inl refl)), elim h [ inl i ↦ subst (λ (y : Numbered). InDefinition d y) (sym i) refl | inr i ↦ subst (λ (y : Numbered). InDefinition d y) (sym i) refl ])

pub definitions_are : (ds es : List Root) → ds ≡ es → (x : Numbered) → InDefinitions ds x → InDefinitions es x
definitions_are ds es e x h = subst (λ (ys : List Root). InDefinitions ys x) e h

pub stages_are : (ss ts : List Start) → ss ≡ ts → (x : Numbered) → InStages ss x → InStages ts x
stages_are ss ts e x h = subst (λ (ys : List Start). InStages ys x) e h

pub stages_under : (ss ts : List Start) (s : Start) → ts ≡ ss ++ s ∷ [] → (x : Numbered) → InStages ss x → InStages ts x
stages_under ss ts s e x h = (h.0, subst (λ (ys : List Start). IsAmong ys h.0) (sym e) (among_left ss (s ∷ []) h.0 h.1), h.2)

pub stage_on : (ss ts : List Start) (name at : ℕ) → ts ≡ ss ++ record { name = name; at = at } ∷ [] → (x : Numbered) → x ≡ NameNumber name → InStages ts x
stage_on ss ts name at e x h =
    let s : Start = record { name = name; at = at } in
    (s, subst (λ (ys : List Start). IsAmong ys s) (sym e) (among_right ss (s ∷ []) s (inl refl)), h)

-- ---- readers

pub phase_as : (p q : Phase) (old new : Reader) (r : Result Phase TermFault) → p ≡ q → ReaderLosesNone old q new r → ReaderLosesNone old p new r
phase_as p q old new r e h = subst (λ (x : Phase). ReaderLosesNone old x new r) (sym e) h

pub reader_still : (r : Reader) (p q : Phase) → ((x : Numbered) → InPhase p x → InPhase q x) → Keeps r.draft r.draft × LosesNone r.draft r.draft (InReader r p) (InReader r q)
reader_still r p q f = (Keeps-refl r.draft, unchanged r.draft _ _ (λ x h. elim h [ inl i ↦ inl i | inr j ↦ elim j [ inl k ↦ inr (inl (f x k)) | inr k ↦ inr (inr k) ] ]))

-- a head is read
pub head_then : (r : Result Phase TermFault) (a : Made) (mid new : Reader) (B : Numbered → Type 0) → Keeps a mid.draft → LosesNone a mid.draft B (λ x. InConstructs mid.stack x ⊎ InProgram mid x) → OnOk r (Keeps mid.draft new.draft) → OnOk r ((new.stack ≡ mid.stack) × (new.definitions.items ≡ mid.definitions.items) × (new.stages.items ≡ mid.stages.items)) → IfOk r (λ p. LosesNone mid.draft new.draft (λ x. ⊥) (InPhase p)) → IfOk r (λ p. Keeps a new.draft × LosesNone a new.draft B (InReader new p))
head_then (Err e) a mid new B k f l rest h = tt
head_then (Ok p) a mid new B k f l rest h = (
  Keeps-trans a mid.draft new.draft k l,
  none_lost a mid.draft new.draft B (λ x. InConstructs mid.stack x ⊎ InProgram mid x) (InReader new p) l f
      (beside mid.draft new.draft _ _ (λ x. InConstructs mid.stack x ⊎ InProgram mid x) _ _ (λ x i. inr i) (λ x i. inr (inl i)) (λ x i. elim i [
        | inl j ↦ inl (constructs_are _ _ (sym rest.0) x j)
        | inr j ↦ elim j [ inl d ↦ inr (inr (inl (definitions_are _ _ (sym rest.1) x d))) | inr s ↦ inr (inr (inr (stages_are _ _ (sym rest.2) x s))) ]
      ]) h),
)

pub head_first : (r : Result Phase TermFault) (old new : Reader) (q : Phase) → ((x : Numbered) → InPhase q x → ⊥) → OnOk r (Keeps old.draft new.draft) → OnOk r ((new.stack ≡ old.stack) × (new.definitions.items ≡ old.definitions.items) × (new.stages.items ≡ old.stages.items)) → IfOk r (λ p. LosesNone old.draft new.draft (λ x. ⊥) (InPhase p)) → ReaderLosesNone old q new r
head_first r old new q f k rest h = head_then r old.draft old new (InReader old q) (Keeps-refl old.draft) (unchanged old.draft _ _ (λ x i. elim i [ inl j ↦ inl j | inr j ↦ elim j [ inl z ↦ absurd (f x z) | inr l ↦ inr l ] ])) k rest h

-- a stage is read
pub stage_then : (r : Result Phase TermFault) (old new : Reader) (q : Phase) → ((x : Numbered) → InPhase q x → ⊥) → OnOk r (Keeps old.draft new.draft) → OnOk r (LosesNone old.draft new.draft (InStages old.stages.items) (InStages new.stages.items)) → OnOk r ((new.stack ≡ old.stack) × (new.definitions.items ≡ old.definitions.items)) → ReaderLosesNone old q new r
stage_then (Err e) old new q f k h rest = tt
stage_then (Ok p) old new q f k h rest = (
  k,
  beside old.draft new.draft _ _ (λ x. InConstructs old.stack x ⊎ InDefinitions old.definitions.items x) _ _ (λ x i. elim i [
    | inl j ↦ inr (inl j)
    | inr j ↦ elim j [ inl z ↦ absurd (f x z) | inr l ↦ elim l [ inl d ↦ inr (inr d) | inr s ↦ inl s ] ]
  ]) (λ x s. inr (inr (inr s))) (λ x i. elim i [ inl j ↦ inl (constructs_are _ _ (sym rest.0) x j) | inr d ↦ inr (inr (inl (definitions_are _ _ (sym rest.1) x d))) ]) h,
)

-- a step inside a definition
pub inside_then : (old new : Reader) (head : Head) (w v : TermWait) → new.definitions.items ≡ old.definitions.items → new.stages.items ≡ old.stages.items → Keeps old.draft new.draft → LosesNone old.draft new.draft (IsHeld old.stack w) (IsHeld new.stack v) → Keeps old.draft new.draft × LosesNone old.draft new.draft (InReader old (phases.Within head w)) (InReader new (phases.Within head v))
inside_then old new head w v d s k h = (
  k,
  beside old.draft new.draft _ _ (λ x. (x ≡ NameNumber head.name) ⊎ InProgram old x) _ _ (λ x i. elim i [
    | inl j ↦ inl (inl j)
    | inr j ↦ elim j [ inl l ↦ elim l [ inl e ↦ inr (inl e) | inr u ↦ inl (inr u) ] | inr l ↦ inr (inr l) ]
  ]) (λ x i. elim i [ inl j ↦ inl j | inr u ↦ inr (inl (inr u)) ]) (λ x i. elim i [
    | inl e ↦ inr (inl (inl e))
    | inr l ↦ elim l [ inl j ↦ inr (inr (inl (definitions_are _ _ (sym d) x j))) | inr j ↦ inr (inr (inr (stages_are _ _ (sym s) x j))) ]
  ]) h,
)

-- a definition ends
pub ended_left : (old new : Reader) (head : Head) (w v : TermWait) (Held : Numbered → Type 0) → w ≡ v → ((x : Numbered) → IsHeld old.stack v x → Held x) → new.stages.items ≡ old.stages.items → EndLosesNone old new head Held → LosesNone old.draft new.draft (InReader old (phases.Within head w)) (InProgram new)
ended_left old new head w v Held e f s h = beside old.draft new.draft _ _ (InStages old.stages.items) _ _ (λ x i. elim i [
  | inl j ↦ inl (inl (f x (inl j)))
  | inr j ↦ elim j [
    | inl l ↦ elim l [ inl n ↦ inl (inr (inl n)) | inr u ↦ inl (inl (f x (inr (subst (λ (y : TermWait). InWait y x) e u)))) ]
    | inr l ↦ elim l [ inl d ↦ inl (inr (inr d)) | inr t ↦ inr t ]
  ]
]) (λ x d. inl d) (λ x t. inr (stages_are _ _ (sym s) x t)) h

pub end_then : (r : Result (Unit {0}) TermFault) (old new : Reader) (head : Head) (w v : TermWait) (Held : Numbered → Type 0) → w ≡ v → ((x : Numbered) → IsHeld old.stack v x → Held x) → OnOk r (Keeps old.draft new.draft) → OnOk r (new.stages.items ≡ old.stages.items) → OnOk r (EndLosesNone old new head Held) → FinishLosesNone old (phases.Within head w) new r
end_then (Ok u) old new head w v Held e f k s h = (k, ended_left old new head w v Held e f s h)
end_then (Err z) old new head w v Held e f k s h = tt

pub on_then : (r : Result (Unit {0}) TermFault) (a b c : Made) (B M A : Numbered → Type 0) → OnOk r (Keeps b c) → LosesNone a b B M → OnOk r (LosesNone b c M A) → OnOk r (LosesNone a c B A)
on_then (Ok u) a b c B M A k f g = none_lost a b c B M A k f g
on_then (Err e) a b c B M A k f g = tt

-- ---- the end

begin_open : (made : Made) (at : ℕ → ℕ) (fs : List TermConstruct) (ds : List Root) (ss : List Start) (s : State) → ShowsState made at fs ds ss phases.Begin s → fs ≡ []
unfolding ShowsState
begin_open made at fs ds ss Begin h = h.0
begin_open made at fs ds ss _ h = absurd h

read_open : (made : Made) (at : ℕ → ℕ) (fs : List TermConstruct) (ds : List Root) (ss : List Start) (s : State) → ShowsState made at fs ds ss phases.StageRead s → fs ≡ []
unfolding ShowsState
read_open made at fs ds ss (StageRead f ns) h = h.0
read_open made at fs ds ss _ h = absurd h

finish_still : (r : Reader) (p q : Phase) → p ≡ q → r.stack ≡ [] → ((x : Numbered) → InPhase q x → ⊥) → Keeps r.draft r.draft × LosesNone r.draft r.draft (InReader r p) (InProgram r)
finish_still r p q e s f = (
  Keeps-refl r.draft,
  unchanged r.draft _ _ (λ x h. elim h [
    | inl i ↦ absurd (constructs_are _ _ s x i)
    | inr j ↦ elim j [ inl k ↦ absurd (f x (subst (λ (y : Phase). InPhase y x) e k)) | inr l ↦ l ]
  ]),
)

pub finish_begun : (r : Reader) (p : Phase) → p ≡ phases.Begin → SomeState r.draft r.stack r.definitions.items r.stages.items p → Keeps r.draft r.draft × LosesNone r.draft r.draft (InReader r p) (InProgram r)
finish_begun r p e s = finish_still r p phases.Begin e (begin_open r.draft s.0 r.stack r.definitions.items r.stages.items s.1 (subst (λ (y : Phase). ShowsState r.draft s.0 r.stack r.definitions.items r.stages.items y s.1) e s.2)) (λ x h. h)

pub finish_read : (r : Reader) (p : Phase) → p ≡ phases.StageRead → SomeState r.draft r.stack r.definitions.items r.stages.items p → Keeps r.draft r.draft × LosesNone r.draft r.draft (InReader r p) (InProgram r)
finish_read r p e s = finish_still r p phases.StageRead e (read_open r.draft s.0 r.stack r.definitions.items r.stages.items s.1 (subst (λ (y : Phase). ShowsState r.draft s.0 r.stack r.definitions.items r.stages.items y s.1) e s.2)) (λ x h. h)

pub finish_as : (p q : Phase) (old new : Reader) (r : Result (Unit {0}) TermFault) → p ≡ q → FinishLosesNone old q new r → FinishLosesNone old p new r
finish_as p q old new r e h = subst (λ (x : Phase). FinishLosesNone old x new r) (sym e) h

-- ---- the whole text

abbrev pub AllHeld : Made → (Numbered → Type 0) → Type 0
AllHeld made Held = made.broken ≡ None → (x : Numbered) → Has made x → InNodes made.nodes x ⊎ Held x

pub none_made : (a : Made) (H : Numbered → Type 0) → a ≡ record { nodes = []; names = []; registers = []; broken = None } → AllHeld a H
none_made a H e b x h = absurd (go x (subst (λ (y : Made). Has y x) e h))
  where
    go : (x : Numbered) → Has (record { nodes = []; names = []; registers = []; broken = None }) x → ⊥
    go (NodeNumber n) h = omega arith
    go (NameNumber n) h = omega arith
    go (RegisterNumber n) h = omega arith

pub all_held : (a b : Made) (B A : Numbered → Type 0) → Keeps a b × LosesNone a b B A → AllHeld a B → AllHeld b A
all_held a b B A k f e x h =
    let p = k.1 e in
    elim (p.added x h) [
      | inl old ↦ elim (f (k.0.broken e) x old) [ inl u ↦ inl (uses_stay a b x k.0 u) | inr m ↦ p.held x m ]
      | inr q ↦ q
    ]

pub named_stages : (named stages : List Start) → ((length named ≡ 0 → ⊥) → stages ≡ named) → (x : Numbered) → InStages named x → InStages stages x
named_stages [] stages line x h = absurd h.1
named_stages (s ∷ ss) stages line x h = subst (λ (ys : List Start). InStages ys x) (sym (line (λ z. absurd (omega (arith, z))))) h

pub none_spare : (made : Made) (names : List (List ℕ)) (ds : List Root) (named stages : List Start) (P : Grammar) → P ≡ record { nodes = made.nodes; names = names; definitions = ds; stages = stages; registers = length made.registers } → names ≡ made.names → ((length named ≡ 0 → ⊥) → stages ≡ named) → ((x : Numbered) → Has made x → InNodes made.nodes x ⊎ (InDefinitions ds x ⊎ InStages named x)) → NoneSpare P
none_spare made names ds named stages P e n line all = subst NoneSpare (sym e) (λ x h. elim (all x (had x h)) [ inl u ↦ inl u | inr r ↦ elim r [ inl d ↦ inr (inl d) | inr s ↦ inr (inr (named_stages named stages line x s)) ] ])
  where
    had : (x : Numbered) → Has (record { nodes = made.nodes; names = names; registers = made.registers; broken = None }) x → Has made x
    had (NodeNumber k) h = h
    had (NameNumber k) h = subst (λ (ns : List (List ℕ)). k < length ns) n h
    had (RegisterNumber k) h = h
