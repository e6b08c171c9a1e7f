-- From the machine inside a definition to the machine over a program.
use Rattle.std.proofs.Common.{◌≡◌, ℕ, ◌+◌, ◌*◌, Bool, true, false, List, [], ◌∷◌, ◌++◌, ◌⊎◌, inl, inr, length, Option, Some, None, Result, Ok, Err, refl, sym, ap, ◌∙◌, subst, arith, length-append}
use Rattle.std.specs.Prelude.{◌==◌, bytes_eq, if◌then◌else◌, IfOk, IfErr, OnOk, IsErrAnd}
use Rattle.kex_model.specs.declared.program.Definition.{Definition as Root}
use Rattle.kex_model.specs.declared.program.Start.{Start}
use Rattle.kex_tokens.specs.declared.token.TokenKind.{TokenKind}
use Rattle.kex_tokens.specs.declared.token.TokenKind.TheVariants as kinds
use Rattle.kex_reader.specs.declared.stack.TermConstruct.{TermConstruct}
use Rattle.kex_reader.specs.declared.stack.TermConstruct.TheVariants as constructs
use Rattle.kex_reader.specs.declared.inside.TermWait.{TermWait}
use Rattle.kex_reader.specs.declared.inside.TermWait.TheVariants as waits
use Rattle.kex_reader.specs.declared.inside.TermFault.{TermFault}
use Rattle.kex_reader.specs.declared.inside.TermFault.TheVariants as faults
use Rattle.kex_regexp.specs.declared.counts.Bounds.{Bounds}
use Rattle.kex_reader.specs.declared.reader.Head.{Head}
use Rattle.kex_reader.specs.declared.reader.Phase.{Phase}
use Rattle.kex_reader.specs.declared.reader.Phase.TheVariants as phases
use Rattle.kex_reader.specs.declared.word.Name.{Name as Named'}
use Rattle.kex_reader.specs.Syntax.{Word, Name, Define, Colon, Pipe, word, Definition, Header, NoStart, Stages, Program, Term, Once, Turns, Postfix, Call, start, header, definitions, stages, term}
use Rattle.kex_reader.specs.Reading.{Entry, Mark, Ended, Done, Muted, Storing, Mode, Need, Ready, After, Turned, Named, Inside, State, Begin, FirstName, StartLine, StageRead, StageNext, HeadRead, Within, before, take_term, with_pre, lift, on_head, next_head, on_define, step_in, step_within, first_name, head_read, stage_read, name_then, step, words_read, entries, program_of_whole, program_of_term, finish_within, finish}
use Rattle.kex_reader.specs.Shown.{Made, IsName, ShowsTerm, ShowsDefinitions, ShowsStages}
use Rattle.kex_reader.specs.Stands.{Keeps, ConstructsShow, SomeInside, ShowsInside, Steps, TermTaken, ShowsMode}
use Rattle.kex_reader.specs.Holding.{ShowsHead, ShowsState, SomeState, StateSteps, whole_term, Ends, Finishes}
use Rattle.kex_reader.proofs.Drafts.{definitions_more, stages_more}
use Rattle.kex_reader.proofs.Sound.{term_taken, TermTaken as Spelled}

pub head_more : (h : Header) (a b : Made) (at : ℕ → ℕ) (ss : List Start) → Keeps a b → ShowsHead h a at ss → ShowsHead h b at ss
head_more NoStart a b at ss k e = e
head_more (Stages n ns) a b at ss k e = stages_more (n ∷ ns) a b at ss 2 k e

-- ---- outcomes

module _ (made : Made) (at : ℕ → ℕ) (fs : List TermConstruct) (ds : List Root) (ss : List Start) where
  pub to_state : (r : Result Phase TermFault) (o p : Option State) → o ≡ p → StateSteps made at fs ds ss r p → StateSteps made at fs ds ss r o
  to_state r o p e s = subst (λ (x : Option State). StateSteps made at fs ds ss r x) (sym e) s

  pub state_memory : (o : Option State) → StateSteps made at fs ds ss (Err faults.Memory) o
  unfolding StateSteps
  state_memory o = tt

  pub state_wrong : StateSteps made at fs ds ss (Err faults.Wrong) None
  unfolding StateSteps
  state_wrong = tt

-- a definition whose head was read
pub head_steps : (a b : Made) (at : ℕ → ℕ) (fs gs : List TermConstruct) (ds es : List Root) (ss ts : List Start) (n : Named') (h : Header) (done : List Definition) (r : Result Phase TermFault)
    → OnOk r (Keeps a b) → OnOk r ((gs ≡ fs) × (es ≡ ds) × (ts ≡ ss)) → IfOk r (λ p. (k : ℕ) × (p ≡ phases.Within (record { name = k; at = n.at }) waits.Need) × IsName b k n.bytes.now) → IfErr r (λ e. e ≡ faults.Memory)
    → fs ≡ [] → ShowsHead h a at ss → ShowsDefinitions done a at ds (length (header h)) → n.at ≡ at (length (header h) + length (definitions done))
    → StateSteps b at gs es ts r (Some (Within h done n.bytes.now (record { mode = Need; entries = [] })))
unfolding StateSteps ShowsState ConstructsShow ShowsMode
head_steps a b at fs gs ds es ss ts n h done (Ok p) k rest ph m nil hd df pl =
    subst (λ (x : Phase). ShowsState b at gs es ts x (Within h done n.bytes.now (record { mode = Need; entries = [] }))) (sym ph.1) (
      subst (λ (x : List Start). ShowsHead h b at x) (sym rest.2) (head_more h a b at ss k hd),
      subst (λ (x : List Root). ShowsDefinitions done b at x (length (header h))) (sym rest.1) (definitions_more done a b at ds (length (header h)) k df),
      ph.2,
      pl,
      record { below = subst (λ (x : List TermConstruct). ConstructsShow b at (length (before h done n.bytes.now)) x []) (sym (rest.0 ∙ nil)) tt; mode = tt },
    )
head_steps a b at fs gs ds es ss ts n h done (Err e) k rest ph m nil hd df pl = subst (λ (x : TermFault). StateSteps b at gs es ts (Err x) (Some (Within h done n.bytes.now (record { mode = Need; entries = [] })))) (sym m) tt

-- inside a definition
pub lift_steps : (a b : Made) (at : ℕ → ℕ) (gs : List TermConstruct) (ds : List Root) (ss : List Start) (head : Head) (h : Header) (done : List Definition) (name : List ℕ) (r : Result TermWait TermFault) (o : Option Inside)
    → OnOk r (Keeps a b) → ShowsHead h a at ss → ShowsDefinitions done a at ds (length (header h)) → IsName a head.name name → head.at ≡ at (length (header h) + length (definitions done))
    → Steps b at (length (before h done name)) gs r o
    → (q : Result Phase TermFault) → IfOk r (λ w. q ≡ Ok (phases.Within head w)) → IfErr r (λ e. q ≡ Err e) → StateSteps b at gs ds ss q (lift h done name o)
unfolding StateSteps ShowsState Steps lift
lift_steps a b at gs ds ss head h done name (Ok w) None k hd df nm pl s q e f = absurd s
lift_steps a b at gs ds ss head h done name (Ok w) (Some i) k hd df nm pl s q e f =
    subst (λ (x : Result Phase TermFault). StateSteps b at gs ds ss x (Some (Within h done name i))) (sym e)
    (head_more h a b at ss k hd, definitions_more done a b at ds (length (header h)) k df, k.names head.name name nm, pl, s)
lift_steps a b at gs ds ss head h done name (Err faults.Memory) o k hd df nm pl s q e f = subst (λ (x : Result Phase TermFault). StateSteps b at gs ds ss x (lift h done name o)) (sym f) tt
lift_steps a b at gs ds ss head h done name (Err faults.Wrong) None k hd df nm pl s q e f = subst (λ (x : Result Phase TermFault). StateSteps b at gs ds ss x None) (sym f) tt
lift_steps a b at gs ds ss head h done name (Err faults.Wrong) (Some i) k hd df nm pl s q e f = absurd s

-- ---- stages

pub stages_long : (ns : List (List ℕ)) → length (stages ns) ≡ 2 * length ns
unfolding stages
stages_long [] = refl
stages_long (n ∷ ns) = omega (arith, stages_long ns)

pub stages_push : (ns : List (List ℕ)) (n : List ℕ) (made : Made) (at : ℕ → ℕ) (ss : List Start) (k a i : ℕ) → ShowsStages ns made at ss i → IsName made k n → a ≡ at (i + 2 * length ns) → ShowsStages (ns ++ n ∷ []) made at (ss ++ record { name = k; at = a } ∷ []) i
unfolding ShowsStages
stages_push [] n made at [] k a i h m e =
    let j : i + 0 ≡ i = omega arith in
    (m, e ∙ ap at j, tt)
stages_push [] n made at (s ∷ ss) k a i h m e = absurd h
stages_push (x ∷ ns) n made at [] k a i h m e = absurd h
stages_push (x ∷ ns) n made at (s ∷ ss) k a i h m e =
    let j : i + 2 * length (x ∷ ns) ≡ i + 2 + 2 * length ns = omega arith in
    (h.0, h.1, stages_push ns n made at ss k a (i + 2) h.2 m (e ∙ ap at j))

pub definitions_push : (ds : List Definition) (d : Definition) (made : Made) (at : ℕ → ℕ) (rs : List Root) (r : Root) (i : ℕ) → ShowsDefinitions ds made at rs i → IsName made r.name d.name → r.at ≡ at (i + length (definitions ds)) → ShowsTerm d.term made at r.root (i + length (definitions ds) + 2) → ShowsDefinitions (ds ++ d ∷ []) made at (rs ++ r ∷ []) i
unfolding ShowsDefinitions definitions
definitions_push [] d made at [] r i h m e t =
    let j : i + 0 ≡ i = omega arith in
    let k : i + 0 + 2 ≡ i + 2 = omega arith in
    (m, e ∙ ap at j, subst (λ (x : ℕ). ShowsTerm d.term made at r.root x) k t, tt)
definitions_push [] d made at (x ∷ rs) r i h m e t = absurd h
definitions_push (x ∷ ds) d made at [] r i h m e t = absurd h
definitions_push (x ∷ ds) d made at (y ∷ rs) r i h m e t =
    let n = length (term x.term) in
    let j : i + length (Name x.name ∷ Define ∷ (term x.term ++ definitions ds)) ≡ i + 2 + n + length (definitions ds) = omega (arith, length-append (term x.term) (definitions ds)) in
    let k : i + length (Name x.name ∷ Define ∷ (term x.term ++ definitions ds)) + 2 ≡ i + 2 + n + length (definitions ds) + 2 = omega (arith, length-append (term x.term) (definitions ds)) in
    (h.0, h.1, h.2, definitions_push ds d made at rs r (i + 2 + n) h.3 m (e ∙ ap at j) (subst (λ (z : ℕ). ShowsTerm d.term made at r.root z) k t))

-- ---- the end of a definition

pub ends_of : (b : Made) (at : ℕ → ℕ) (base : ℕ) (fs : List TermConstruct) (part : Rattle.kex_reader.specs.declared.stack.PlacedNode.PlacedNode) (old new : List Root) (name from : ℕ) (o : Option (Term × List Entry)) → length fs ≡ 0 → new ≡ old ++ record { name = name; at = from; root = part.node } ∷ [] → TermTaken b at base fs (Some part) o → Ends b at base fs old new name from (Ok tt) (whole_term o)
unfolding Ends whole_term ConstructsShow entries
ends_of b at base fs part old new name from None z e h = absurd h
ends_of b at base [] part old new name from (Some (t, [])) z e h = (refl, part.node, e, subst (λ (x : ℕ). ShowsTerm t b at part.node x) (plus_none base) h.shows)
  where
    plus_none : (n : ℕ) → n + length (entries []) ≡ n
    plus_none n = omega arith
ends_of b at base [] part old new name from (Some (t, x ∷ es)) z e h = absurd h.below
ends_of b at base (f ∷ fs) part old new name from (Some (t, es)) z e h = absurd (omega (arith, z))

pub ends_none : (b : Made) (at : ℕ → ℕ) (base : ℕ) (fs gs : List TermConstruct) (old new : List Root) (name from : ℕ) (o : Option (Term × List Entry)) → TermTaken b at base fs None o → Ends b at base gs old new name from (Err faults.Wrong) (whole_term o)
unfolding Ends whole_term
ends_none b at base fs gs old new name from None h = tt
ends_none b at base fs gs old new name from (Some t) h = absurd h

nothing_shown : (b : Made) (at : ℕ → ℕ) (base : ℕ) (fs : List TermConstruct) → ConstructsShow b at base fs [] → length fs ≡ 0
unfolding ConstructsShow
nothing_shown b at base [] h = refl
nothing_shown b at base (constructs.Mark x ∷ fs) h = absurd h
nothing_shown b at base (constructs.Ended x ∷ fs) h = absurd h
nothing_shown b at base (constructs.Done x ∷ fs) h = absurd h
nothing_shown b at base (constructs.Muted x ∷ fs) h = absurd h
nothing_shown b at base (constructs.Storing x ∷ fs) h = absurd h

pub ends_open : (b : Made) (at : ℕ → ℕ) (base : ℕ) (fs : List TermConstruct) (part : Rattle.kex_reader.specs.declared.stack.PlacedNode.PlacedNode) (old new : List Root) (name from : ℕ) (o : Option (Term × List Entry)) → (length fs ≡ 0 → ⊥) → TermTaken b at base fs (Some part) o → Ends b at base fs old new name from (Err faults.Wrong) (whole_term o)
unfolding Ends whole_term
ends_open b at base fs part old new name from None n h = tt
ends_open b at base fs part old new name from (Some (t, [])) n h = absurd (n (nothing_shown b at base fs h.below))
ends_open b at base fs part old new name from (Some (t, x ∷ es)) n h = tt

pub ends_memory : (b : Made) (at : ℕ → ℕ) (base : ℕ) (fs : List TermConstruct) (old new : List Root) (name from : ℕ) (o : Option Term) → Ends b at base fs old new name from (Err faults.Memory) o
unfolding Ends
ends_memory b at base fs old new name from o = tt

pub ends_exit : (b : Made) (at : ℕ → ℕ) (base : ℕ) (fs : List TermConstruct) (old new : List Root) (name from : ℕ) (r : Result (Unit {0}) TermFault) → IsErrAnd r (λ e. e ≡ faults.Memory) → (o : Option Term) → Ends b at base fs old new name from r o
ends_exit b at base fs old new name from (Ok u) e o = absurd e
ends_exit b at base fs old new name from (Err f) e o = subst (λ (x : TermFault). Ends b at base fs old new name from (Err x) o) (sym e) (ends_memory b at base fs old new name from o)

-- ---- where the next definition begins

abbrev pub with_head : Header → List Definition → List ℕ → List ℕ → Option Term → Option State
with_head h ds name n None = None
with_head h ds name n (Some t) = Some (Within h (ds ++ record { name = name; term = t } ∷ []) n (record { mode = Need; entries = [] }))

pub on_head_is : (h : Header) (ds : List Definition) (name n : List ℕ) (o : Option (Term × List Entry)) → on_head h ds name n o ≡ with_head h ds name n (whole_term o)
unfolding on_head next_head whole_term
on_head_is h ds name n None = refl
on_head_is h ds name n (Some (t, [])) = refl
on_head_is h ds name n (Some (t, x ∷ es)) = refl

abbrev pub with_end : Header → List Definition → List ℕ → Option Term → Option Program
with_end h ds name None = None
with_end h ds name (Some t) = Some (record { header = h; definitions = ds ++ record { name = name; term = t } ∷ [] })

pub ended_is : (h : Header) (ds : List Definition) (name : List ℕ) (o : Option (Term × List Entry)) → program_of_term h ds name o ≡ with_end h ds name (whole_term o)
unfolding program_of_term program_of_whole whole_term
ended_is h ds name None = refl
ended_is h ds name (Some (t, [])) = refl
ended_is h ds name (Some (t, x ∷ es)) = refl

pub before_long : (h : Header) (ds : List Definition) (name : List ℕ) → length (before h ds name) ≡ length (header h) + length (definitions ds) + 2
unfolding before
before_long h ds name = omega (arith, length-append (header h) (definitions ds ++ Name name ∷ Define ∷ []), length-append (definitions ds) (Name name ∷ Define ∷ []))

-- the definition that has ended is shown
pub ended_shows : (a b : Made) (at : ℕ → ℕ) (h : Header) (done : List Definition) (name : List ℕ) (head : Head) (old new : List Root) (root : ℕ) (t : Term) → Keeps a b → ShowsDefinitions done a at old (length (header h)) → IsName a head.name name → head.at ≡ at (length (header h) + length (definitions done)) → new ≡ old ++ record { name = head.name; at = head.at; root = root } ∷ [] → ShowsTerm t b at root (length (before h done name)) → ShowsDefinitions (done ++ record { name = name; term = t } ∷ []) b at new (length (header h))
ended_shows a b at h done name head old new root t k df nm pl e s =
    subst (λ (x : List Root). ShowsDefinitions (done ++ record { name = name; term = t } ∷ []) b at x (length (header h))) (sym e)
    (definitions_push done (record { name = name; term = t }) b at old (record { name = head.name; at = head.at; root = root }) (length (header h)) (definitions_more done a b at old (length (header h)) k df) (k.names head.name name nm) pl (subst (λ (x : ℕ). ShowsTerm t b at root x) (before_long h done name) s))

definitions_long : (ds : List Definition) (name : List ℕ) (t : Term) → length (definitions (ds ++ record { name = name; term = t } ∷ [])) ≡ length (definitions ds) + 2 + length (term t)
unfolding definitions
definitions_long [] name t = omega (arith, length-append (term t) [])
definitions_long (d ∷ ds) name t = omega (arith, definitions_long ds name t, length-append (term d.term) (definitions ds), length-append (term d.term) (definitions (ds ++ record { name = name; term = t } ∷ [])))

-- ---- a word that is Define

pub define_none : (h : Header) (ds : List Definition) (name : List ℕ) (m : Mode) (es : List Entry) → ((n : List ℕ) → m ≡ Named true n → ⊥) → step_within h ds name m es Define ≡ None
unfolding step_within on_define step_in lift Rattle.kex_reader.specs.Reading.begin_pre Rattle.kex_reader.specs.Reading.after_atom Rattle.kex_reader.specs.Reading.after_term_turns Rattle.kex_reader.specs.Reading.on_name Rattle.kex_reader.specs.Reading.on_sign Rattle.kex_reader.specs.Reading.first_part Rattle.kex_reader.specs.Reading.next_part Rattle.kex_reader.specs.Reading.on_count Rattle.kex_reader.specs.Reading.count_step
define_none h ds name Need es n = refl
define_none h ds name Ready es n = refl
define_none h ds name (After a) es n = refl
define_none h ds name (Turned a p) es n = refl
define_none h ds name (Named true k) es n = absurd (n k refl)
define_none h ds name (Named false k) es n = refl
define_none h ds name Rattle.kex_reader.specs.Reading.Writing es n = refl
define_none h ds name Rattle.kex_reader.specs.Reading.Bracket es n = refl
define_none h ds name (Rattle.kex_reader.specs.Reading.BracketName r) es n = refl
define_none h ds name (Rattle.kex_reader.specs.Reading.Assigning a r) es n = refl
define_none h ds name (Rattle.kex_reader.specs.Reading.Assigned a r p ps) es n = refl
define_none h ds name (Rattle.kex_reader.specs.Reading.InCount a Rattle.kex_reader.specs.Reading.Opened) es n = refl
define_none h ds name (Rattle.kex_reader.specs.Reading.InCount a (Rattle.kex_reader.specs.Reading.Low k)) es n = refl
define_none h ds name (Rattle.kex_reader.specs.Reading.InCount a (Rattle.kex_reader.specs.Reading.LowComma k)) es n = refl
define_none h ds name (Rattle.kex_reader.specs.Reading.InCount a (Rattle.kex_reader.specs.Reading.LowHigh k l)) es n = refl
define_none h ds name (Rattle.kex_reader.specs.Reading.InCount a Rattle.kex_reader.specs.Reading.OnlyComma) es n = refl
define_none h ds name (Rattle.kex_reader.specs.Reading.InCount a (Rattle.kex_reader.specs.Reading.High k)) es n = refl

pub define_named : (h : Header) (ds : List Definition) (name n : List ℕ) (m : Mode) (es : List Entry) → m ≡ Named true n → step_within h ds name m es Define ≡ on_head h ds name n (take_term es)
unfolding step_within on_define
define_named h ds name n m es e = ap (λ (x : Mode). step_within h ds name x es Define) e

-- any other word
pub within_other : (h : Header) (ds : List Definition) (name : List ℕ) (m : Mode) (es : List Entry) (k : TokenKind) (b : List ℕ) → (k ≡ kinds.Define → ⊥) → step_within h ds name m es (word k b) ≡ lift h ds name (step_in m es (word k b))
unfolding step_within
within_other h ds name (Named free n) es kinds.Define b e = absurd (e refl)
within_other h ds name (Named free n) es _ b e = refl
within_other h ds name _ es k b e = refl

-- ---- the other phases

pub name_then_other : (f : List ℕ → State) (k : TokenKind) (b : List ℕ) → (k ≡ kinds.Name → ⊥) → name_then f (word k b) ≡ None
unfolding name_then
name_then_other f kinds.Name b n = absurd (n refl)
name_then_other f _ b n = refl

pub name_then_is : (f : List ℕ → State) (k : TokenKind) (b : List ℕ) → k ≡ kinds.Name → name_then f (word k b) ≡ Some (f b)
unfolding name_then
name_then_is f k b e = ap (λ (x : TokenKind). name_then f (word x b)) e

pub first_other : (n : List ℕ) (k : TokenKind) (b : List ℕ) → (k ≡ kinds.Define → ⊥) → (k ≡ kinds.Colon → ⊥) → first_name n (word k b) ≡ None
unfolding first_name
first_other n kinds.Define b d c = absurd (d refl)
first_other n kinds.Colon b d c = absurd (c refl)
first_other n _ b d c = refl

pub first_define : (n : List ℕ) (k : TokenKind) (b : List ℕ) → k ≡ kinds.Define → first_name n (word k b) ≡ Some (Within NoStart [] n (record { mode = Need; entries = [] }))
unfolding first_name
first_define n k b e = ap (λ (x : TokenKind). first_name n (word x b)) e

pub first_colon : (n : List ℕ) (k : TokenKind) (b : List ℕ) (t : Bool) → k ≡ kinds.Colon → bytes_eq n start ≡ t → first_name n (word k b) ≡ (if t then Some StartLine else None)
unfolding first_name
first_colon n k b t e f = ap (λ (x : TokenKind). first_name n (word x b)) e ∙ ap (λ (x : Bool). if x then Some StartLine else None) f

pub read_other : (f : List ℕ) (ns : List (List ℕ)) (k : TokenKind) (b : List ℕ) → (k ≡ kinds.Pipe → ⊥) → (k ≡ kinds.Name → ⊥) → stage_read f ns (word k b) ≡ None
unfolding stage_read
read_other f ns kinds.Pipe b p n = absurd (p refl)
read_other f ns kinds.Name b p n = absurd (n refl)
read_other f ns _ b p n = refl

pub read_pipe : (f : List ℕ) (ns : List (List ℕ)) (k : TokenKind) (b : List ℕ) → k ≡ kinds.Pipe → stage_read f ns (word k b) ≡ Some (StageNext f ns)
unfolding stage_read
read_pipe f ns k b e = ap (λ (x : TokenKind). stage_read f ns (word x b)) e

pub read_name : (f : List ℕ) (ns : List (List ℕ)) (k : TokenKind) (b : List ℕ) → k ≡ kinds.Name → stage_read f ns (word k b) ≡ Some (HeadRead (Stages f ns) b)
unfolding stage_read
read_name f ns k b e = ap (λ (x : TokenKind). stage_read f ns (word x b)) e

pub head_other : (h : Header) (n : List ℕ) (k : TokenKind) (b : List ℕ) → (k ≡ kinds.Define → ⊥) → head_read h n (word k b) ≡ None
unfolding head_read
head_other h n kinds.Define b d = absurd (d refl)
head_other h n _ b d = refl

pub head_define : (h : Header) (n : List ℕ) (k : TokenKind) (b : List ℕ) → k ≡ kinds.Define → head_read h n (word k b) ≡ Some (Within h [] n (record { mode = Need; entries = [] }))
unfolding head_read
head_define h n k b e = ap (λ (x : TokenKind). head_read h n (word x b)) e

-- the machine's state, for each thing that the code waits for
module _ (a : Made) (at : ℕ → ℕ) (fs : List TermConstruct) (ds : List Root) (ss : List Start) where
  pub state_begin : (s : State) → ShowsState a at fs ds ss phases.Begin s → (s ≡ Begin) × (fs ≡ []) × (ds ≡ []) × (ss ≡ [])
  unfolding ShowsState
  state_begin Begin h = (refl, h.0, h.1, h.2)
  state_begin _ h = absurd h

  pub state_first : (n : Named') (s : State) → ShowsState a at fs ds ss (phases.FirstName n) s → (s ≡ FirstName n.bytes.now)
  unfolding ShowsState
  state_first n (FirstName name) h = ap FirstName (sym h.3)
  state_first n _ h = absurd h

  pub state_start : (s : State) → ShowsState a at fs ds ss phases.StartLine s → (s ≡ StartLine) × (fs ≡ []) × (ds ≡ []) × (ss ≡ [])
  unfolding ShowsState
  state_start StartLine h = (refl, h.0, h.1, h.2)
  state_start _ h = absurd h

  pub state_read : (s : State) → ShowsState a at fs ds ss phases.StageRead s → (f : List ℕ) × (ns : List (List ℕ)) × (s ≡ StageRead f ns) × (fs ≡ []) × (ds ≡ []) × ShowsStages (f ∷ ns) a at ss 2
  unfolding ShowsState
  state_read (StageRead f ns) h = (f, ns, refl, h.0, h.1, h.2)
  state_read _ h = absurd h

  pub state_next : (s : State) → ShowsState a at fs ds ss phases.StageNext s → (f : List ℕ) × (ns : List (List ℕ)) × (s ≡ StageNext f ns) × (fs ≡ []) × (ds ≡ []) × ShowsStages (f ∷ ns) a at ss 2
  unfolding ShowsState
  state_next (StageNext f ns) h = (f, ns, refl, h.0, h.1, h.2)
  state_next _ h = absurd h

  pub state_head : (n : Named') (s : State) → ShowsState a at fs ds ss (phases.HeadRead n) s → (h : Header) × (s ≡ HeadRead h n.bytes.now) × (fs ≡ []) × (ds ≡ []) × ShowsHead h a at ss × (n.at ≡ at (length (header h)))
  unfolding ShowsState
  state_head n (HeadRead h name) k = (h, ap (HeadRead h) (sym k.3), k.0, k.1, k.2, k.4)
  state_head n _ k = absurd k

  pub state_within : (head : Head) (w : TermWait) (s : State) → ShowsState a at fs ds ss (phases.Within head w) s → (h : Header) × (done : List Definition) × (name : List ℕ) × (i : Inside) × (s ≡ Within h done name i)
  unfolding ShowsState
  state_within head w (Within h done name i) k = (h, done, name, i, refl)
  state_within head w _ k = absurd k

  pub within_parts : (head : Head) (w : TermWait) (h : Header) (done : List Definition) (name : List ℕ) (i : Inside) → ShowsState a at fs ds ss (phases.Within head w) (Within h done name i) → ShowsHead h a at ss × ShowsDefinitions done a at ds (length (header h)) × IsName a head.name name × (head.at ≡ at (length (header h) + length (definitions done))) × ShowsInside a at (length (before h done name)) fs w i
  unfolding ShowsState
  within_parts head w h done name i k = k

-- stages that are named

stage_on : (a b : Made) (at : ℕ → ℕ) (fs gs : List TermConstruct) (ds es : List Root) (ss ts : List Start) (f : List ℕ) (ns : List (List ℕ)) (n : List ℕ) (k from : ℕ) → Keeps a b → gs ≡ [] → es ≡ [] → ShowsStages (f ∷ ns) a at ss 2 → IsName b k n → from ≡ at (2 + 2 * length (f ∷ ns)) → ts ≡ ss ++ record { name = k; at = from } ∷ [] → ShowsState b at gs es ts phases.StageRead (StageRead f (ns ++ n ∷ []))
unfolding ShowsState
stage_on a b at fs gs ds es ss ts f ns n k from keep g e st nm pl t = (g, e, subst (λ (x : List Start). ShowsStages (f ∷ (ns ++ n ∷ [])) b at x 2) (sym t) (stages_push (f ∷ ns) n b at ss k from 2 (stages_more (f ∷ ns) a b at ss 2 keep st) nm pl))

stage_one : (b : Made) (at : ℕ → ℕ) (gs : List TermConstruct) (es : List Root) (ss ts : List Start) (n : List ℕ) (k from : ℕ) → gs ≡ [] → es ≡ [] → ss ≡ [] → IsName b k n → from ≡ at 2 → ts ≡ ss ++ record { name = k; at = from } ∷ [] → ShowsState b at gs es ts phases.StageRead (StageRead n [])
unfolding ShowsState ShowsStages
stage_one b at gs es ss ts n k from g e z nm pl t = (g, e, subst (λ (x : List Start). ShowsStages (n ∷ []) b at x 2) (sym (t ∙ ap (λ (x : List Start). x ++ record { name = k; at = from } ∷ []) z)) (nm, pl, tt))

pub shown_state : (b : Made) (at : ℕ → ℕ) (gs : List TermConstruct) (es : List Root) (ts : List Start) (p q : Phase) (s : State) → p ≡ q → ShowsState b at gs es ts q s → StateSteps b at gs es ts (Ok p) (Some s)
unfolding StateSteps
shown_state b at gs es ts p q s e h = subst (λ (x : Phase). ShowsState b at gs es ts x s) (sym e) h

pub fault_state : (b : Made) (at : ℕ → ℕ) (gs : List TermConstruct) (es : List Root) (ts : List Start) (e : TermFault) (P : Type 0) (o : Option State) → (P → o ≡ None) → (e ≡ faults.Memory) ⊎ ((e ≡ faults.Wrong) × P) → StateSteps b at gs es ts (Err e) o
fault_state b at gs es ts e P o f (inl m) = subst (λ (x : TermFault). StateSteps b at gs es ts (Err x) o) (sym m) (state_memory b at gs es ts o)
fault_state b at gs es ts e P o f (inr m) = subst (λ (x : TermFault). StateSteps b at gs es ts (Err x) o) (sym m.0) (to_state b at gs es ts (Err faults.Wrong) o None (f m.1) (state_wrong b at gs es ts))

pub start_steps : (a b : Made) (at : ℕ → ℕ) (fs gs : List TermConstruct) (ds es : List Root) (ss ts : List Start) (k : TokenKind) (n : List ℕ) (from : ℕ) (r : Result Phase TermFault) → OnOk r ((gs ≡ fs) × (es ≡ ds)) → IfOk r (λ p. (x : ℕ) × (p ≡ phases.StageRead) × (k ≡ kinds.Name) × IsName b x n × (ts ≡ ss ++ record { name = x; at = from } ∷ [])) → IfErr r (λ e. (e ≡ faults.Memory) ⊎ ((e ≡ faults.Wrong) × (k ≡ kinds.Name → ⊥))) → fs ≡ [] → ds ≡ [] → ss ≡ [] → from ≡ at 2 → StateSteps b at gs es ts r (name_then (λ m. StageRead m []) (word k n))
start_steps a b at fs gs ds es ss ts k n from (Ok p) rest h m z y x pl =
    to_state b at gs es ts (Ok p) (name_then (λ m. StageRead m []) (word k n)) (Some (StageRead n [])) (name_then_is (λ m. StageRead m []) k n h.2)
    (shown_state b at gs es ts p phases.StageRead (StageRead n []) h.1 (stage_one b at gs es ss ts n h.0 from (rest.0 ∙ z) (rest.1 ∙ y) x h.3 pl h.4))
start_steps a b at fs gs ds es ss ts k n from (Err e) rest h m z y x pl = fault_state b at gs es ts e (k ≡ kinds.Name → ⊥) (name_then (λ m. StageRead m []) (word k n)) (name_then_other (λ m. StageRead m []) k n) m

pub next_steps : (a b : Made) (at : ℕ → ℕ) (fs gs : List TermConstruct) (ds es : List Root) (ss ts : List Start) (f : List ℕ) (ns : List (List ℕ)) (k : TokenKind) (n : List ℕ) (from : ℕ) (r : Result Phase TermFault) → OnOk r (Keeps a b) → OnOk r ((gs ≡ fs) × (es ≡ ds)) → IfOk r (λ p. (x : ℕ) × (p ≡ phases.StageRead) × (k ≡ kinds.Name) × IsName b x n × (ts ≡ ss ++ record { name = x; at = from } ∷ [])) → IfErr r (λ e. (e ≡ faults.Memory) ⊎ ((e ≡ faults.Wrong) × (k ≡ kinds.Name → ⊥))) → fs ≡ [] → ds ≡ [] → ShowsStages (f ∷ ns) a at ss 2 → from ≡ at (2 + 2 * length (f ∷ ns)) → StateSteps b at gs es ts r (name_then (λ m. StageRead f (ns ++ m ∷ [])) (word k n))
next_steps a b at fs gs ds es ss ts f ns k n from (Ok p) keep rest h m z y st pl =
    to_state b at gs es ts (Ok p) (name_then (λ m. StageRead f (ns ++ m ∷ [])) (word k n)) (Some (StageRead f (ns ++ n ∷ []))) (name_then_is (λ m. StageRead f (ns ++ m ∷ [])) k n h.2)
    (shown_state b at gs es ts p phases.StageRead (StageRead f (ns ++ n ∷ [])) h.1 (stage_on a b at fs gs ds es ss ts f ns n h.0 from keep (rest.0 ∙ z) (rest.1 ∙ y) st h.3 pl h.4))
next_steps a b at fs gs ds es ss ts f ns k n from (Err e) keep rest h m z y st pl = fault_state b at gs es ts e (k ≡ kinds.Name → ⊥) (name_then (λ m. StageRead f (ns ++ m ∷ [])) (word k n)) (name_then_other (λ m. StageRead f (ns ++ m ∷ [])) k n) m

pub lift_ok : (a b : Made) (at : ℕ → ℕ) (gs : List TermConstruct) (ds : List Root) (ss : List Start) (head : Head) (h : Header) (done : List Definition) (name : List ℕ) (r : Result TermWait TermFault) (o : Option Inside) (w : TermWait) → r ≡ Ok w
    → OnOk r (Keeps a b) → ShowsHead h a at ss → ShowsDefinitions done a at ds (length (header h)) → IsName a head.name name → head.at ≡ at (length (header h) + length (definitions done))
    → Steps b at (length (before h done name)) gs r o → StateSteps b at gs ds ss (Ok (phases.Within head w)) (lift h done name o)
lift_ok a b at gs ds ss head h done name r o w e k hd df nm pl s = lift_steps a b at gs ds ss head h done name (Ok w) o (subst (λ (x : Result TermWait TermFault). OnOk x (Keeps a b)) e k) hd df nm pl (subst (λ (x : Result TermWait TermFault). Steps b at (length (before h done name)) gs x o) e s) (Ok (phases.Within head w)) refl tt

pub lift_err : (a b : Made) (at : ℕ → ℕ) (gs : List TermConstruct) (ds : List Root) (ss : List Start) (head : Head) (h : Header) (done : List Definition) (name : List ℕ) (r : Result TermWait TermFault) (o : Option Inside) (e : TermFault) → r ≡ Err e
    → ShowsHead h a at ss → ShowsDefinitions done a at ds (length (header h)) → IsName a head.name name → head.at ≡ at (length (header h) + length (definitions done))
    → Steps b at (length (before h done name)) gs r o → StateSteps b at gs ds ss (Err e) (lift h done name o)
lift_err a b at gs ds ss head h done name r o e q hd df nm pl s = lift_steps a b at gs ds ss head h done name (Err e) o tt hd df nm pl (subst (λ (x : Result TermWait TermFault). Steps b at (length (before h done name)) gs x o) q s) (Err e) tt refl

-- places of words

pub start_place : length (words_read StartLine) ≡ 2
unfolding words_read
start_place = refl

pub next_place : (f : List ℕ) (ns : List (List ℕ)) → length (words_read (StageNext f ns)) ≡ 2 + 2 * length (f ∷ ns)
unfolding words_read
next_place f ns = omega (arith, length-append (stages ns) (Pipe ∷ []), stages_long ns)

pub head_place : (f : List ℕ) (ns : List (List ℕ)) → length (words_read (StageRead f ns)) ≡ length (header (Stages f ns))
unfolding words_read header
head_place f ns = refl

-- ---- heads

no_definitions : (a : Made) (at : ℕ → ℕ) (ds : List Root) (i : ℕ) → ds ≡ [] → ShowsDefinitions [] a at ds i
unfolding ShowsDefinitions
no_definitions a at ds i e = subst (λ (x : List Root). ShowsDefinitions [] a at x i) (sym e) tt

pub first_steps : (a b : Made) (at : ℕ → ℕ) (fs gs : List TermConstruct) (ds es : List Root) (ss ts : List Start) (n : Named') (m : List ℕ) (r : Result Phase TermFault)
    → ShowsState a at fs ds ss (phases.FirstName n) (FirstName m)
    → OnOk r (Keeps a b) → OnOk r ((gs ≡ fs) × (es ≡ ds) × (ts ≡ ss)) → IfOk r (λ p. (k : ℕ) × (p ≡ phases.Within (record { name = k; at = n.at }) waits.Need) × IsName b k n.bytes.now) → IfErr r (λ e. e ≡ faults.Memory)
    → StateSteps b at gs es ts r (Some (Within NoStart [] m (record { mode = Need; entries = [] })))
unfolding ShowsState header definitions
first_steps a b at fs gs ds es ss ts n m r st k rest ph f =
    subst (λ (x : List ℕ). StateSteps b at gs es ts r (Some (Within NoStart [] x (record { mode = Need; entries = [] })))) st.3
    (head_steps a b at fs gs ds es ss ts n NoStart [] r k rest ph f st.0 st.2 (no_definitions a at ds 0 st.1) st.4)

pub head_read_steps : (a b : Made) (at : ℕ → ℕ) (fs gs : List TermConstruct) (ds es : List Root) (ss ts : List Start) (n : Named') (h : Header) (r : Result Phase TermFault)
    → fs ≡ [] → ds ≡ [] → ShowsHead h a at ss → n.at ≡ at (length (header h))
    → OnOk r (Keeps a b) → OnOk r ((gs ≡ fs) × (es ≡ ds) × (ts ≡ ss)) → IfOk r (λ p. (k : ℕ) × (p ≡ phases.Within (record { name = k; at = n.at }) waits.Need) × IsName b k n.bytes.now) → IfErr r (λ e. e ≡ faults.Memory)
    → StateSteps b at gs es ts r (Some (Within h [] n.bytes.now (record { mode = Need; entries = [] })))
unfolding definitions
head_read_steps a b at fs gs ds es ss ts n h r nil none hd pl k rest ph f =
    let j : length (header h) ≡ length (header h) + 0 = omega arith in
    head_steps a b at fs gs ds es ss ts n h [] r k rest ph f nil hd (no_definitions a at ds (length (header h)) none) (pl ∙ ap at j)

pub started : (b : Made) (at : ℕ → ℕ) (fs : List TermConstruct) (ds : List Root) (ss : List Start) (n : Named') (m : List ℕ) → ShowsState b at fs ds ss (phases.FirstName n) (FirstName m) → StateSteps b at fs ds ss (Ok phases.StartLine) (Some StartLine)
unfolding ShowsState StateSteps
started b at fs ds ss n m st = (st.0, st.1, st.2)

pub first_is : (b : Made) (at : ℕ → ℕ) (fs : List TermConstruct) (ds : List Root) (ss : List Start) (n : Named') (m : List ℕ) → ShowsState b at fs ds ss (phases.FirstName n) (FirstName m) → n.bytes.now ≡ m
unfolding ShowsState
first_is b at fs ds ss n m st = st.3

-- where a definition ends and the next one begins, with what was answered of the end
pub next_definition_steps : (a b d : Made) (at : ℕ → ℕ) (fs gs hs : List TermConstruct) (old mid new : List Root) (ss ts us : List Start) (head : Head) (n : Named') (h : Header) (done : List Definition) (name : List ℕ) (o : Option Term) (r : Result Phase TermFault)
    → ShowsHead h a at ss → ShowsDefinitions done a at old (length (header h)) → IsName a head.name name → head.at ≡ at (length (header h) + length (definitions done))
    → Keeps a b → ts ≡ ss → Ends b at (length (before h done name)) gs old mid head.name head.at (Ok tt) o
    → ((t : Term) → o ≡ Some t → n.at ≡ at (length (before h done name) + length (term t)))
    → OnOk r (Keeps b d) → OnOk r ((hs ≡ gs) × (new ≡ mid) × (us ≡ ts)) → IfOk r (λ p. (k : ℕ) × (p ≡ phases.Within (record { name = k; at = n.at }) waits.Need) × IsName d k n.bytes.now) → IfErr r (λ e. e ≡ faults.Memory)
    → StateSteps d at hs new us r (with_head h done name n.bytes.now o)
unfolding Ends
next_definition_steps a b d at fs gs hs old mid new ss ts us head n h done name None r hd df nm pl k e en place l rest ph f = absurd en
next_definition_steps a b d at fs gs hs old mid new ss ts us head n h done name (Some t) r hd df nm pl k e en place l rest ph f =
    let shown = ended_shows a b at h done name head old mid en.1 t k df nm pl en.2 en.3 in
    let j : length (before h done name) + length (term t) ≡ length (header h) + length (definitions (done ++ record { name = name; term = t } ∷ [])) = omega (arith, before_long h done name, definitions_long done name t) in
    head_steps b d at gs hs mid new ts us n h (done ++ record { name = name; term = t } ∷ []) r l rest ph f en.0 (subst (λ (x : List Start). ShowsHead h b at x) (sym e) (head_more h a b at ss k hd)) shown (place t refl ∙ ap at j)

pub next_wrong_steps : (b : Made) (at : ℕ → ℕ) (gs : List TermConstruct) (old mid new : List Root) (us : List Start) (h : Header) (done : List Definition) (name n : List ℕ) (from to' base : ℕ) (e : TermFault) (o : Option Term) → Ends b at base gs old mid from to' (Err e) o → StateSteps b at gs new us (Err e) (with_head h done name n o)
unfolding Ends StateSteps
next_wrong_steps b at gs old mid new us h done name n from to' base faults.Memory o en = tt
next_wrong_steps b at gs old mid new us h done name n from to' base faults.Wrong None en = tt
next_wrong_steps b at gs old mid new us h done name n from to' base faults.Wrong (Some t) en = absurd en

-- entries that make a term are as long as it
pub whole_long : (es : List Entry) (t : Term) → whole_term (take_term es) ≡ Some t → length (entries es) ≡ length (term t)
unfolding whole_term Spelled entries
whole_long es t e = go (take_term es) (term_taken es) e
  where
    go : (o : Option (Term × List Entry)) → Spelled es o → whole_term o ≡ Some t → length (entries es) ≡ length (term t)
    go None k e = absurd cc
    go (Some (u, [])) k e = ap (λ (w : List Word). length w) (sym k) ∙ ap (λ (x : Term). length (term x)) (cc)
    go (Some (u, x ∷ xs)) k e = absurd cc

-- ---- the end

pub finish_of : (a b : Made) (at : ℕ → ℕ) (gs : List TermConstruct) (old mid : List Root) (ss ts : List Start) (head : Head) (h : Header) (done : List Definition) (name : List ℕ) (r : Result (Unit {0}) TermFault) (o : Option Term) → ShowsHead h a at ss → ShowsDefinitions done a at old (length (header h)) → IsName a head.name name → head.at ≡ at (length (header h) + length (definitions done)) → OnOk r (Keeps a b) → OnOk r (ts ≡ ss) → Ends b at (length (before h done name)) gs old mid head.name head.at r o → Finishes b at mid ts r (with_end h done name o)
unfolding Ends Finishes
finish_of a b at gs old mid ss ts head h done name (Ok u) None hd df nm pl k e en = absurd en
finish_of a b at gs old mid ss ts head h done name (Ok u) (Some t) hd df nm pl k e en = (ended_shows a b at h done name head old mid en.1 t k df nm pl en.2 en.3, subst (λ (x : List Start). ShowsHead h b at x) (sym e) (head_more h a b at ss k hd))
finish_of a b at gs old mid ss ts head h done name (Err faults.Memory) o hd df nm pl k e en = tt
finish_of a b at gs old mid ss ts head h done name (Err faults.Wrong) None hd df nm pl k e en = tt
finish_of a b at gs old mid ss ts head h done name (Err faults.Wrong) (Some t) hd df nm pl k e en = absurd en

pub to_finish : (b : Made) (at : ℕ → ℕ) (ds : List Root) (ss : List Start) (r : Result (Unit {0}) TermFault) (o p : Option Program) → o ≡ p → Finishes b at ds ss r p → Finishes b at ds ss r o
to_finish b at ds ss r o p e h = subst (λ (x : Option Program). Finishes b at ds ss r x) (sym e) h

pub finish_wrong : (b : Made) (at : ℕ → ℕ) (ds : List Root) (ss : List Start) → Finishes b at ds ss (Err faults.Wrong) None
unfolding Finishes
finish_wrong b at ds ss = tt

pub finish_ready : (h : Header) (done : List Definition) (name : List ℕ) (m : Mode) (es : List Entry) → m ≡ Ready → finish_within h done name m es ≡ with_end h done name (whole_term (take_term es))
unfolding finish_within
finish_ready h done name m es e = ap (λ (x : Mode). finish_within h done name x es) e ∙ ended_is h done name (take_term es)

pub finish_after : (h : Header) (done : List Definition) (name : List ℕ) (m : Mode) (a : Rattle.kex_reader.specs.Syntax.Atom) (es : List Entry) → m ≡ After a → finish_within h done name m es ≡ with_end h done name (whole_term (take_term (with_pre (Once a) es)))
unfolding finish_within
finish_after h done name m a es e = ap (λ (x : Mode). finish_within h done name x es) e ∙ ended_is h done name (take_term (with_pre (Once a) es))

pub finish_turned : (h : Header) (done : List Definition) (name : List ℕ) (m : Mode) (a : Rattle.kex_reader.specs.Syntax.Atom) (p : Postfix) (es : List Entry) → m ≡ Turned a p → finish_within h done name m es ≡ with_end h done name (whole_term (take_term (with_pre (Turns a p false) es)))
unfolding finish_within
finish_turned h done name m a p es e = ap (λ (x : Mode). finish_within h done name x es) e ∙ ended_is h done name (take_term (with_pre (Turns a p false) es))

pub finish_named : (h : Header) (done : List Definition) (name : List ℕ) (m : Mode) (f : Bool) (n : List ℕ) (es : List Entry) → m ≡ Named f n → finish_within h done name m es ≡ with_end h done name (whole_term (take_term (with_pre (Once (Call n)) es)))
unfolding finish_within
finish_named h done name m f n es e = ap (λ (x : Mode). finish_within h done name x es) e ∙ ended_is h done name (take_term (with_pre (Once (Call n)) es))

-- the waiting of modes in which a definition can't end
pub finish_other : (a : Made) (at : ℕ → ℕ) (i : ℕ) (w : TermWait) (m : Mode) (h : Header) (done : List Definition) (name : List ℕ) (es : List Entry) → (w ≡ waits.Ready → ⊥) → ((p : Rattle.kex_reader.specs.declared.stack.PlacedNode.PlacedNode) → w ≡ waits.After p → ⊥) → ((p : Rattle.kex_reader.specs.declared.stack.PlacedNode.PlacedNode) (b : Bounds) → w ≡ waits.Turned p b → ⊥) → ((f : Bool) (n : Named') → w ≡ waits.Named f n → ⊥) → ShowsMode a at i w m → finish_within h done name m es ≡ None
unfolding ShowsMode finish_within
finish_other a at i waits.Ready m h done name es n1 n2 n4 n3 k = absurd (n1 refl)
finish_other a at i (waits.After p) m h done name es n1 n2 n4 n3 k = absurd (n2 p refl)
finish_other a at i (waits.Turned p b) m h done name es n1 n2 n4 n3 k = absurd (n4 p b refl)
finish_other a at i (waits.Named f n) m h done name es n1 n2 n4 n3 k = absurd (n3 f n refl)
finish_other a at i waits.Need Need h done name es n1 n2 n4 n3 k = refl
finish_other a at i (waits.Writing x) Rattle.kex_reader.specs.Reading.Writing h done name es n1 n2 n4 n3 k = refl
finish_other a at i (waits.Bracket x) Rattle.kex_reader.specs.Reading.Bracket h done name es n1 n2 n4 n3 k = refl
finish_other a at i (waits.BracketName x y) (Rattle.kex_reader.specs.Reading.BracketName r) h done name es n1 n2 n4 n3 k = refl
finish_other a at i (waits.Assigning x) (Rattle.kex_reader.specs.Reading.Assigning b r) h done name es n1 n2 n4 n3 k = refl
finish_other a at i (waits.Assigned x) (Rattle.kex_reader.specs.Reading.Assigned b r p ps) h done name es n1 n2 n4 n3 k = refl
finish_other a at i (waits.InCount p c b) (Rattle.kex_reader.specs.Reading.InCount x d) h done name es n1 n2 n4 n3 k = refl
finish_other a at i w m h done name es n1 n2 n4 n3 k = absurd k

-- a wait for another mode than a name that may be a head
pub not_head : (a : Made) (at : ℕ → ℕ) (i : ℕ) (w : TermWait) (m : Mode) → ((f : Bool) (n : Named') → w ≡ waits.Named f n → ⊥) → ShowsMode a at i w m → (n : List ℕ) → m ≡ Named true n → ⊥
unfolding ShowsMode
not_head a at i w m never k n e = go w (subst (λ (x : Mode). ShowsMode a at i w x) e k) never
  where
    go : (w : TermWait) → ShowsMode a at i w (Named true n) → ((f : Bool) (n : Named') → w ≡ waits.Named f n → ⊥) → ⊥
    go (waits.Named f x) k never = never f x refl
    go w k never = absurd k

pub needed_name : (a : Made) (at : ℕ → ℕ) (i : ℕ) (x : Named') (m : Mode) → ShowsMode a at i (waits.Named false x) m → (n : List ℕ) → m ≡ Named true n → ⊥
unfolding ShowsMode
needed_name a at i x m k n e = go (subst (λ (y : Mode). ShowsMode a at i (waits.Named false x) y) e k)
  where
    go : ShowsMode a at i (waits.Named false x) (Named true n) → ⊥
    go (e, f, g) = absurd cc

pub within_place : (h : Header) (done : List Definition) (name : List ℕ) (i : Inside) → length (words_read (Within h done name i)) ≡ length (before h done name) + length (Rattle.kex_reader.specs.Reading.inside i)
unfolding words_read
within_place h done name i = length-append (before h done name) (Rattle.kex_reader.specs.Reading.inside i)

pub not_empty : (n : ℕ) (b : Bool) → b ≡ (n == 0) → b ≡ false → n ≡ 0 → ⊥
not_empty n b e f z = grind (arith, e, f, z)

pub is_empty : (n : ℕ) (b : Bool) → b ≡ (n == 0) → b ≡ true → n ≡ 0
is_empty n b e f = grind (arith, e, f)

-- ---- a step, by the state

pub at_begin : (s : State) (w : Word) → s ≡ Begin → step s w ≡ name_then FirstName w
unfolding step
at_begin s w e = ap (λ (x : State). step x w) e

pub at_first : (s : State) (w : Word) (n : List ℕ) → s ≡ FirstName n → step s w ≡ first_name n w
unfolding step
at_first s w n e = ap (λ (x : State). step x w) e

pub at_start : (s : State) (w : Word) → s ≡ StartLine → step s w ≡ name_then (λ n. StageRead n []) w
unfolding step
at_start s w e = ap (λ (x : State). step x w) e

pub at_read : (s : State) (w : Word) (f : List ℕ) (ns : List (List ℕ)) → s ≡ StageRead f ns → step s w ≡ stage_read f ns w
unfolding step
at_read s w f ns e = ap (λ (x : State). step x w) e

pub at_next : (s : State) (w : Word) (f : List ℕ) (ns : List (List ℕ)) → s ≡ StageNext f ns → step s w ≡ name_then (λ n. StageRead f (ns ++ n ∷ [])) w
unfolding step
at_next s w f ns e = ap (λ (x : State). step x w) e

pub at_head : (s : State) (w : Word) (h : Header) (n : List ℕ) → s ≡ HeadRead h n → step s w ≡ head_read h n w
unfolding step
at_head s w h n e = ap (λ (x : State). step x w) e

pub at_within : (s : State) (w : Word) (h : Header) (done : List Definition) (name : List ℕ) (i : Inside) → s ≡ Within h done name i → step s w ≡ step_within h done name i.mode i.entries w
unfolding step
at_within s w h done name i e = ap (λ (x : State). step x w) e

pub place_of : (at : ℕ → ℕ) (from : ℕ) (s t : State) (k : ℕ) → s ≡ t → length (words_read t) ≡ k → from ≡ at (length (words_read s)) → from ≡ at k
place_of at from s t k e l p = p ∙ ap (λ (x : State). at (length (words_read x))) e ∙ ap at l

pub begin_long : length (words_read Begin) ≡ 0
unfolding words_read
begin_long = refl

pub first_named : (a : Made) (at : ℕ → ℕ) (fs : List TermConstruct) (ds : List Root) (ss : List Start) (n : Named') → fs ≡ [] → ds ≡ [] → ss ≡ [] → n.at ≡ at 0 → StateSteps a at fs ds ss (Ok (phases.FirstName n)) (Some (FirstName n.bytes.now))
unfolding StateSteps ShowsState
first_named a at fs ds ss n f d s p = (f, d, s, refl, p)

pub next_waits : (a : Made) (at : ℕ → ℕ) (fs : List TermConstruct) (ds : List Root) (ss : List Start) (f : List ℕ) (ns : List (List ℕ)) → fs ≡ [] → ds ≡ [] → ShowsStages (f ∷ ns) a at ss 2 → StateSteps a at fs ds ss (Ok phases.StageNext) (Some (StageNext f ns))
unfolding StateSteps ShowsState
next_waits a at fs ds ss f ns x y z = (x, y, z)

pub head_named : (a : Made) (at : ℕ → ℕ) (fs : List TermConstruct) (ds : List Root) (ss : List Start) (f : List ℕ) (ns : List (List ℕ)) (n : Named') → fs ≡ [] → ds ≡ [] → ShowsStages (f ∷ ns) a at ss 2 → n.at ≡ at (length (header (Stages f ns))) → StateSteps a at fs ds ss (Ok (phases.HeadRead n)) (Some (HeadRead (Stages f ns) n.bytes.now))
unfolding StateSteps ShowsState
head_named a at fs ds ss f ns n x y z p = (x, y, z, refl, p)

pub some_inside : (a : Made) (fs : List TermConstruct) (ds : List Root) (ss : List Start) (phase : Phase) (head : Head) (w : TermWait) → phase ≡ phases.Within head w → SomeState a fs ds ss phase → SomeInside a fs w
some_inside a fs ds ss phase head w e s =
    let here = subst (λ (x : Phase). ShowsState a s.0 fs ds ss x s.1) e s.2 in
    let t = state_within a s.0 fs ds ss head w s.1 here in
    let q = within_parts a s.0 fs ds ss head w t.0 t.1 t.2 t.3 (subst (λ (x : State). ShowsState a s.0 fs ds ss (phases.Within head w) x) t.4 here) in
    (s.0, length (before t.0 t.1 t.2), t.3, q.4)

-- ---- the end, by the state

pub end_begin : (a : Made) (at : ℕ → ℕ) (fs : List TermConstruct) (ds : List Root) (ss : List Start) (s : State) → ShowsState a at fs ds ss phases.Begin s → Finishes a at ds ss (Ok tt) (finish s)
unfolding ShowsState Finishes finish ShowsDefinitions
end_begin a at fs ds ss Begin h = (subst (λ (x : List Root). ShowsDefinitions [] a at x (length (header NoStart))) (sym h.1) tt, h.2)
end_begin a at fs ds ss _ h = absurd h

pub end_read : (a : Made) (at : ℕ → ℕ) (fs : List TermConstruct) (ds : List Root) (ss : List Start) (s : State) → ShowsState a at fs ds ss phases.StageRead s → Finishes a at ds ss (Ok tt) (finish s)
unfolding ShowsState Finishes finish ShowsDefinitions
end_read a at fs ds ss (StageRead f ns) h = (subst (λ (x : List Root). ShowsDefinitions [] a at x (length (header (Stages f ns)))) (sym h.1) tt, h.2)
end_read a at fs ds ss _ h = absurd h

pub end_within : (s : State) (h : Header) (done : List Definition) (name : List ℕ) (i : Inside) → s ≡ Within h done name i → finish s ≡ finish_within h done name i.mode i.entries
unfolding finish
end_within s h done name i e = ap finish e

pub end_other : (a : Made) (at : ℕ → ℕ) (fs : List TermConstruct) (ds : List Root) (ss : List Start) (p : Phase) (s : State) → (p ≡ phases.Begin → ⊥) → (p ≡ phases.StageRead → ⊥) → ((x : Head) (w : TermWait) → p ≡ phases.Within x w → ⊥) → ShowsState a at fs ds ss p s → finish s ≡ None
unfolding ShowsState finish
end_other a at fs ds ss phases.Begin s n1 n2 n3 h = absurd (n1 refl)
end_other a at fs ds ss phases.StageRead s n1 n2 n3 h = absurd (n2 refl)
end_other a at fs ds ss (phases.Within x w) s n1 n2 n3 h = absurd (n3 x w refl)
end_other a at fs ds ss (phases.FirstName n) (FirstName m) n1 n2 n3 h = refl
end_other a at fs ds ss phases.StartLine StartLine n1 n2 n3 h = refl
end_other a at fs ds ss phases.StageNext (StageNext f ns) n1 n2 n3 h = refl
end_other a at fs ds ss (phases.HeadRead n) (HeadRead g m) n1 n2 n3 h = refl
end_other a at fs ds ss p s n1 n2 n3 h = absurd h
