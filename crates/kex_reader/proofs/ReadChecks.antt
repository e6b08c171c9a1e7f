-- The checks of what has been read stay what they are when it becomes a part of more, and a word adds those that it asks.
use Rattle.std.proofs.Common.{◌≡◌, ℕ, suc, ◌+◌, ◌*◌, Bool, true, false, List, [], ◌∷◌, ◌++◌, length, Option, Some, None, refl, sym, ap, ◌∙◌, subst, append_assoc, length-append, arith}
use Rattle.std.specs.Prelude.{bytes_eq, codes}
use Rattle.std.proofs.lemmas.List.{append-nil}
use Rattle.kex_reader.specs.Syntax.{Word, Name, Number, Literal, Regex, Define, Colon, Pipe, Bar, Tilde, At, Star, Plus, PlusEquals, Question, OpenBrace, Bang, OpenBracket, CloseBracket, Arrow, OpenParen, CloseParen, Postfix, ZeroOrMore, OneOrMore, Optional, Term, Last, Or, Seq, Only, Then, Pre, Mute, Into, Once, Turns, Atom, Call, Write, RegisterPart, Definition, Header, Program, start, postfix, term, seq, pre, atom, header, definitions}
use Rattle.kex_reader.specs.Reading.{Entry, Mark, Ended, Done, Muted, Storing, CountStep, CountOn, CountRead, CountWrong, Mode, Need, Ready, After, Turned, Named, Writing, Bracket, BracketName, Assigning, Assigned, InCount, Inside, State, Begin, FirstName, StartLine, StageRead, StageNext, HeadRead, Within, before, with_pre, take_more, take_seq, take_branches, term_of, take_term, goes, on_bar, after_group, on_close, on_number, begin_pre, after_atom, after_term_turns, after_name, on_name, on_sign, first_part, next_part, count_step, on_count, step_in, lift, next_head, on_head, on_define, step_within, first_name, head_read, stage_read, name_then, step, program_of_whole, program_of_term, finish_within, finish, entries, entry}
use Rattle.kex_reader.specs.Checks.{Check, Nested, Staged, postfix_checks, term_checks, seq_checks, pre_checks, atom_checks, definition_checks, stage_checks, header_checks, program_checks}
use Rattle.kex_reader.specs.Stands.{depth, begin_asks, after_asks, turned_asks, named_asks, count_asks, asks}
use Rattle.kex_reader.specs.Asked.{entry_checks, entries_checks, mode_checks, inside_checks, state_checks, name_asks, state_asks}
use Rattle.kex_reader.proofs.Sound.{by_test, eager_is, put_is}

module _ (at : ℕ → ℕ) (base : ℕ) where
  -- ---- folding

  pub put_checks : (p : Pre) (es : List Entry) → entries_checks at base (with_pre p es) ≡ entries_checks at base es ++ pre_checks p at (base + length (entries es)) (depth es)
  unfolding with_pre entries_checks entry_checks pre_checks entries entry depth
  put_checks p [] = refl
  put_checks p (Mark ∷ es) = refl
  put_checks p (Ended s ∷ es) = refl
  put_checks p (Done q ∷ es) = refl
  put_checks p (Muted ∷ es) =
      let i = base + length (entries es) in
      let j : i + 1 ≡ base + length (entries es ++ Tilde ∷ []) = omega (arith, length-append (entries es) (Tilde ∷ [])) in
      put_checks (Mute p) es ∙ ap (λ (k : ℕ). entries_checks at base es ++ Nested (at i) (depth es) ∷ pre_checks p at k (suc (depth es))) j
      ∙ sym (append_assoc (entries_checks at base es) (Nested (at i) (depth es) ∷ []) (pre_checks p at (base + length (entries es ++ Tilde ∷ [])) (suc (depth es))))
  put_checks p (Storing r ∷ es) =
      let i = base + length (entries es) in
      let j : i + 2 ≡ base + length (entries es ++ Name r ∷ At ∷ []) = omega (arith, length-append (entries es) (Name r ∷ At ∷ [])) in
      put_checks (Into r p) es ∙ ap (λ (k : ℕ). entries_checks at base es ++ Nested (at i) (depth es) ∷ pre_checks p at k (suc (depth es))) j
      ∙ sym (append_assoc (entries_checks at base es) (Nested (at i) (depth es) ∷ []) (pre_checks p at (base + length (entries es ++ Name r ∷ At ∷ [])) (suc (depth es))))

  unfoldable pub with_seq : List Entry → Seq → List Check
  with_seq es s = entries_checks at base es ++ seq_checks s at (base + length (entries es)) (depth es)

  unfoldable pub with_term : List Entry → Term → List Check
  with_term es t = entries_checks at base es ++ term_checks t at (base + length (entries es)) (depth es)

  pub more_checks : (es : List Entry) (s : Seq) → with_seq (take_more es s).1 (take_more es s).0 ≡ with_seq es s
  unfolding take_more with_seq entries_checks entry_checks seq_checks entries entry depth
  more_checks [] s = refl
  more_checks (Mark ∷ es) s = refl
  more_checks (Ended t ∷ es) s = refl
  more_checks (Muted ∷ es) s = refl
  more_checks (Storing r ∷ es) s = refl
  more_checks (Done p ∷ es) s =
      let i = base + length (entries es) in
      let j : i + length (pre p) ≡ base + length (entries es ++ pre p) = omega (arith, length-append (entries es) (pre p)) in
      more_checks es (Then p s)
      ∙ sym (append_assoc (entries_checks at base es) (pre_checks p at i (depth es)) (seq_checks s at (i + length (pre p)) (depth es)))
      ∙ ap (λ (k : ℕ). (entries_checks at base es ++ pre_checks p at i (depth es)) ++ seq_checks s at k (depth es)) j

  unfoldable pub SeqAsked : List Entry → Option (Seq × List Entry) → Type 0
  SeqAsked es None = Unit {0}
  SeqAsked es (Some t) = with_seq t.1 t.0 ≡ entries_checks at base es

  pub seq_asked : (es : List Entry) → SeqAsked es (take_seq es)
  unfolding take_seq SeqAsked with_seq entries_checks entry_checks seq_checks
  seq_asked [] = tt
  seq_asked (Mark ∷ es) = tt
  seq_asked (Ended t ∷ es) = tt
  seq_asked (Done p ∷ es) = more_checks es (Only p)
  seq_asked (Muted ∷ es) = tt
  seq_asked (Storing r ∷ es) = tt

  pub branches_checks : (es : List Entry) (t : Term) → with_term (take_branches es t).1 (take_branches es t).0 ≡ with_term es t
  unfolding take_branches with_term entries_checks entry_checks term_checks entries entry depth
  branches_checks [] t = refl
  branches_checks (Mark ∷ es) t = refl
  branches_checks (Done p ∷ es) t = refl
  branches_checks (Muted ∷ es) t = refl
  branches_checks (Storing r ∷ es) t = refl
  branches_checks (Ended s ∷ es) t =
      let i = base + length (entries es) in
      let j : i + length (seq s) + 1 ≡ base + length (entries es ++ (seq s ++ Bar ∷ [])) = omega (arith, length-append (entries es) (seq s ++ Bar ∷ []), length-append (seq s) (Bar ∷ [])) in
      branches_checks es (Or s t)
      ∙ sym (append_assoc (entries_checks at base es) (seq_checks s at i (depth es)) (term_checks t at (i + length (seq s) + 1) (depth es)))
      ∙ ap (λ (k : ℕ). (entries_checks at base es ++ seq_checks s at i (depth es)) ++ term_checks t at k (depth es)) j

  unfoldable pub TermAsked : List Entry → Option (Term × List Entry) → Type 0
  TermAsked es None = Unit {0}
  TermAsked es (Some t) = with_term t.1 t.0 ≡ entries_checks at base es

  pub of_asked : (es : List Entry) (o : Option (Seq × List Entry)) → SeqAsked es o → TermAsked es (term_of o)
  unfolding SeqAsked TermAsked term_of with_seq with_term term_checks
  of_asked es None h = tt
  of_asked es (Some t) h = branches_checks t.1 (Last t.0) ∙ h

  pub term_asked : (es : List Entry) → TermAsked es (take_term es)
  unfolding take_term
  term_asked es = of_asked es (take_seq es) (seq_asked es)

  -- ---- a word more

  unfoldable pub Asks : List Check → Option Inside → Type 0
  Asks cs None = Unit {0}
  Asks cs (Some i) = inside_checks at base i ≡ cs

  pub asks_of : (m : Mode) (es : List Entry) (cs : List Check) → entries_checks at base es ++ mode_checks m at (base + length (entries es)) (depth es) ≡ cs → Asks cs (goes m es)
  unfolding Asks inside_checks
  asks_of m es cs e = e

  pub to_asks : (o : Option Inside) (cs ds : List Check) → cs ≡ ds → Asks cs o → Asks ds o
  to_asks o cs ds e h = subst (λ (x : List Check). Asks x o) e h

  pub bar_asked : (es : List Entry) (o : Option (Seq × List Entry)) → SeqAsked es o → Asks (entries_checks at base es ++ []) (on_bar o)
  unfolding on_bar SeqAsked Asks inside_checks mode_checks with_seq entries_checks entry_checks
  bar_asked es None h = tt
  bar_asked es (Some t) h = ap (λ (x : List Check). x ++ []) h

  pub closed_asked : (t : Term) (fs : List Entry) (cs : List Check) → with_term fs t ≡ cs → Asks (cs ++ []) (after_group t fs)
  unfolding after_group Asks inside_checks mode_checks with_term entries_checks entry_checks atom_checks entries entry depth
  closed_asked t [] cs h = tt
  closed_asked t (Ended s ∷ fs) cs h = tt
  closed_asked t (Done p ∷ fs) cs h = tt
  closed_asked t (Muted ∷ fs) cs h = tt
  closed_asked t (Storing r ∷ fs) cs h = tt
  closed_asked t (Mark ∷ fs) cs h =
      let i = base + length (entries fs) in
      let j : i + 1 ≡ base + length (entries fs ++ OpenParen ∷ []) = omega (arith, length-append (entries fs) (OpenParen ∷ [])) in
      ap (λ (k : ℕ). entries_checks at base fs ++ Nested (at i) (depth fs) ∷ term_checks t at k (suc (depth fs))) j
      ∙ sym (append_assoc (entries_checks at base fs) (Nested (at i) (depth fs) ∷ []) (term_checks t at (base + length (entries fs ++ OpenParen ∷ [])) (suc (depth fs))))
      ∙ h ∙ sym (append-nil cs)

  pub close_asked : (es : List Entry) (o : Option (Term × List Entry)) → TermAsked es o → Asks (entries_checks at base es ++ []) (on_close o)
  unfolding on_close TermAsked Asks
  close_asked es None h = tt
  close_asked es (Some t) h = closed_asked t.0 t.1 (entries_checks at base es) h

  pub number_asked : (es : List Entry) (digits : List ℕ) → Asks (entries_checks at base es ++ []) (on_number es digits)
  unfolding on_number Asks inside_checks mode_checks atom_checks
  number_asked es digits = by_test (Asks (entries_checks at base es ++ [])) (bytes_eq digits (codes "1")) _ _ (λ e. refl) (λ e. tt)

  pub begin_asked : (free : Bool) (es : List Entry) (w : Word) → Asks (entries_checks at base es ++ begin_asks at (base + length (entries es)) es w) (begin_pre free es w)
  unfolding begin_pre begin_asks Asks inside_checks mode_checks atom_checks entries_checks entry_checks
  begin_asked free es (Name n) = refl
  begin_asked free es (Number digits) = number_asked es digits
  begin_asked free es (Literal s) = refl
  begin_asked free es (Regex b) = refl
  begin_asked free es Tilde = append-nil _
  begin_asked free es Bang = refl
  begin_asked free es OpenBracket = refl
  begin_asked free es OpenParen = append-nil _
  begin_asked true es Bar = bar_asked es (take_seq es) (seq_asked es)
  begin_asked true es CloseParen = close_asked es (take_term es) (term_asked es)
  begin_asked false es Bar = tt
  begin_asked false es CloseParen = tt
  begin_asked free es _ = tt

  -- a pre that has ended
  pub put_asked : (p : Pre) (es : List Entry) (cs : List Check) → entries_checks at base es ++ pre_checks p at (base + length (entries es)) (depth es) ≡ cs → Asks cs (goes Ready (with_pre p es))
  unfolding mode_checks
  put_asked p es cs e = asks_of Ready (with_pre p es) cs (append-nil (entries_checks at base (with_pre p es)) ∙ put_checks p es ∙ e)

  pub turns_asked : (a : Atom) (p : Postfix) (es : List Entry) (ds : List Check) → postfix_checks p (at (base + length (entries es) + length (atom a))) ≡ ds → Asks ((entries_checks at base es ++ atom_checks a at (base + length (entries es)) (depth es)) ++ ds) (goes (Turned a p) es)
  unfolding mode_checks
  turns_asked a p es ds e =
      asks_of (Turned a p) es _ (sym (append_assoc (entries_checks at base es) (atom_checks a at (base + length (entries es)) (depth es)) (postfix_checks p (at (base + length (entries es) + length (atom a)))))
      ∙ ap (λ (x : List Check). (entries_checks at base es ++ atom_checks a at (base + length (entries es)) (depth es)) ++ x) e)

  put_long : (a : Atom) (es : List Entry) → base + length (entries (with_pre (Once a) es)) ≡ base + length (entries es) + length (atom a)
  unfolding pre
  put_long a es = omega (arith, ap (λ (w : List Word). length w) (put_is (Once a) es), length-append (entries es) (atom a))

  pub once_asked : (a : Atom) (es : List Entry) (w : Word) → Asks ((entries_checks at base es ++ atom_checks a at (base + length (entries es)) (depth es)) ++ begin_asks at (base + length (entries es) + length (atom a)) (with_pre (Once a) es) w) (begin_pre true (with_pre (Once a) es) w)
  unfolding pre_checks
  once_asked a es w = to_asks _ _ _ (ap (λ (x : List Check). x ++ begin_asks at (base + length (entries (with_pre (Once a) es))) (with_pre (Once a) es) w) (put_checks (Once a) es) ∙ ap (λ (k : ℕ). (entries_checks at base es ++ atom_checks a at (base + length (entries es)) (depth es)) ++ begin_asks at k (with_pre (Once a) es) w) (put_long a es)) (begin_asked true (with_pre (Once a) es) w)

  eager_long : (a : Atom) (p : Postfix) (es : List Entry) → base + length (entries (with_pre (Turns a p false) es)) ≡ base + length (entries es) + length (atom a ++ postfix p)
  eager_long a p es = omega (arith, ap (λ (w : List Word). length w) (eager_is a p es), length-append (entries es) (atom a ++ postfix p))

  pub eager_asked : (a : Atom) (p : Postfix) (es : List Entry) (w : Word) → Asks ((entries_checks at base es ++ mode_checks (Turned a p) at (base + length (entries es)) (depth es)) ++ turned_asks at (base + length (entries es) + length (atom a ++ postfix p)) a p es w) (begin_pre true (with_pre (Turns a p false) es) w)
  unfolding pre_checks mode_checks
  eager_asked a p es w = to_asks _ _ _ (ap (λ (x : List Check). x ++ begin_asks at (base + length (entries (with_pre (Turns a p false) es))) (with_pre (Turns a p false) es) w) (put_checks (Turns a p false) es) ∙ ap (λ (k : ℕ). (entries_checks at base es ++ (atom_checks a at (base + length (entries es)) (depth es) ++ postfix_checks p (at (base + length (entries es) + length (atom a))))) ++ begin_asks at k (with_pre (Turns a p false) es) w) (eager_long a p es)) (begin_asked true (with_pre (Turns a p false) es) w)

  pub turned_asked : (a : Atom) (p : Postfix) (es : List Entry) (w : Word) → Asks ((entries_checks at base es ++ mode_checks (Turned a p) at (base + length (entries es)) (depth es)) ++ turned_asks at (base + length (entries es) + length (atom a ++ postfix p)) a p es w) (after_term_turns a p es w)
  unfolding after_term_turns mode_checks begin_asks pre_checks
  turned_asked a p es Question = put_asked (Turns a p true) es _ (sym (append-nil _))
  turned_asked a p es w = eager_asked a p es w

  pub after_asked : (a : Atom) (es : List Entry) (w : Word) → Asks ((entries_checks at base es ++ atom_checks a at (base + length (entries es)) (depth es)) ++ after_asks at (base + length (entries es) + length (atom a)) a es w) (after_atom a es w)
  unfolding after_atom after_asks postfix_checks Asks inside_checks mode_checks
  after_asked a es Star = turns_asked a ZeroOrMore es [] refl
  after_asked a es Plus = turns_asked a OneOrMore es [] refl
  after_asked a es Question = turns_asked a Optional es [] refl
  after_asked a es OpenBrace = sym (append-nil _)
  after_asked a es w = once_asked a es w

  pub named_asked : (n : List ℕ) (es : List Entry) (w : Word) → Asks ((entries_checks at base es ++ []) ++ named_asks at (base + length (entries es)) n es w) (after_name n es w)
  unfolding after_name named_asks Asks inside_checks mode_checks entries_checks entry_checks atom_checks atom
  named_asked n es At = append-nil _ ∙ ap (λ (x : List Check). x ++ Nested (at (base + length (entries es))) (depth es) ∷ []) (sym (append-nil (entries_checks at base es)))
  named_asked n es Define = tt
  named_asked n es w = after_asked (Call n) es w

  pub count_asked : (a : Atom) (es : List Entry) (t : CountStep) → Asks ((entries_checks at base es ++ atom_checks a at (base + length (entries es)) (depth es)) ++ count_asks (at (base + length (entries es) + length (atom a))) t) (on_count a es t)
  unfolding on_count count_asks Asks inside_checks mode_checks
  count_asked a es (CountOn c) = sym (append-nil _)
  count_asked a es (CountRead p) = turns_asked a p es _ refl
  count_asked a es CountWrong = tt

  on_name_asked : (f : List ℕ → Option Inside) (cs : List Check) (w : Word) → ((n : List ℕ) → Asks cs (f n)) → Asks cs (on_name f w)
  unfolding on_name Asks
  on_name_asked f cs (Name n) h = h n
  on_name_asked f cs _ h = tt

  nil_nil : (es : List Entry) → entries_checks at base es ++ [] ≡ (entries_checks at base es ++ []) ++ []
  nil_nil es = sym (append-nil (entries_checks at base es ++ []))

  sign_asked : (r : List ℕ) (es : List Entry) (w : Word) → Asks ((entries_checks at base es ++ []) ++ []) (on_sign r es w)
  unfolding on_sign Asks inside_checks mode_checks
  sign_asked r es Arrow = nil_nil es
  sign_asked r es PlusEquals = nil_nil es
  sign_asked r es _ = tt

  first_part_asked : (append : Bool) (r : List ℕ) (es : List Entry) (w : Word) → Asks ((entries_checks at base es ++ []) ++ []) (first_part append r es w)
  unfolding first_part Asks inside_checks mode_checks
  first_part_asked append r es (Literal s) = nil_nil es
  first_part_asked append r es (Name n) = nil_nil es
  first_part_asked append r es _ = tt

  next_part_asked : (append : Bool) (r : List ℕ) (p : RegisterPart) (ps : List RegisterPart) (es : List Entry) (w : Word) → Asks ((entries_checks at base es ++ []) ++ []) (next_part append r p ps es w)
  unfolding next_part Asks inside_checks mode_checks atom_checks
  next_part_asked append r p ps es (Literal s) = nil_nil es
  next_part_asked append r p ps es (Name n) = nil_nil es
  next_part_asked append r p ps es CloseBracket = nil_nil es
  next_part_asked append r p ps es _ = tt

  write_asked : (es : List Entry) (n : List ℕ) → Asks ((entries_checks at base es ++ []) ++ []) (goes (After (Write n)) es)
  unfolding Asks inside_checks mode_checks atom_checks
  write_asked es n = nil_nil es

  bracket_asked : (es : List Entry) (n : List ℕ) → Asks ((entries_checks at base es ++ []) ++ []) (goes (BracketName n) es)
  unfolding Asks inside_checks mode_checks
  bracket_asked es n = nil_nil es

  pub step_asked : (m : Mode) (es : List Entry) (w : Word) → Asks ((entries_checks at base es ++ mode_checks m at (base + length (entries es)) (depth es)) ++ asks at (base + length (entries es)) m es w) (step_in m es w)
  unfolding step_in asks mode_checks
  step_asked Need es w = to_asks _ _ _ (ap (λ (x : List Check). x ++ begin_asks at (base + length (entries es)) es w) (sym (append-nil (entries_checks at base es)))) (begin_asked false es w)
  step_asked Ready es w = to_asks _ _ _ (ap (λ (x : List Check). x ++ begin_asks at (base + length (entries es)) es w) (sym (append-nil (entries_checks at base es)))) (begin_asked true es w)
  step_asked (After a) es w = after_asked a es w
  step_asked (Turned a p) es w = turned_asked a p es w
  step_asked (Named free n) es w = named_asked n es w
  step_asked Writing es w = on_name_asked _ _ w (write_asked es)
  step_asked Bracket es w = on_name_asked _ _ w (bracket_asked es)
  step_asked (BracketName r) es w = sign_asked r es w
  step_asked (Assigning append r) es w = first_part_asked append r es w
  step_asked (Assigned append r p ps) es w = next_part_asked append r p ps es w
  step_asked (InCount a c) es w = count_asked a es (count_step c w)

-- ---- over a program

module _ (at : ℕ → ℕ) where
  pub stages_push : (ns : List (List ℕ)) (n : List ℕ) (i k : ℕ) → stage_checks (ns ++ n ∷ []) at i k ≡ stage_checks ns at i k ++ Staged (at (i + 2 * length ns)) (k + length ns) ∷ []
  unfolding stage_checks
  stages_push [] n i k =
      let e : i ≡ i + 0 = omega arith in
      let f : k ≡ k + 0 = omega arith in
      ap (λ (x : ℕ). Staged (at x) k ∷ []) e ∙ ap (λ (x : ℕ). Staged (at (i + 0)) x ∷ []) f
  stages_push (m ∷ ns) n i k =
      let e : i + 2 + 2 * length ns ≡ i + 2 * length (m ∷ ns) = omega arith in
      let f : suc k + length ns ≡ k + length (m ∷ ns) = omega arith in
      ap (λ (x : List Check). Staged (at i) k ∷ x) (stages_push ns n (i + 2) (suc k) ∙ ap (λ (x : ℕ). stage_checks ns at (i + 2) (suc k) ++ Staged (at x) (suc k + length ns) ∷ []) e ∙ ap (λ (x : ℕ). stage_checks ns at (i + 2) (suc k) ++ Staged (at (i + 2 * length (m ∷ ns))) x ∷ []) f)

  pub definitions_push : (ds : List Definition) (d : Definition) (i : ℕ) → definition_checks (ds ++ d ∷ []) at i ≡ definition_checks ds at i ++ term_checks d.term at (i + length (definitions ds) + 2) 0
  unfolding definition_checks definitions
  definitions_push [] d i =
      let e : i + 2 ≡ i + 0 + 2 = omega arith in
      append-nil (term_checks d.term at (i + 2) 0) ∙ ap (λ (x : ℕ). term_checks d.term at x 0) e
  definitions_push (b ∷ ds) d i =
      let n = length (term b.term) in
      let e : i + 2 + n + length (definitions ds) + 2 ≡ i + length (Name b.name ∷ Define ∷ (term b.term ++ definitions ds)) + 2 = omega (arith, length-append (term b.term) (definitions ds)) in
      ap (λ (x : List Check). term_checks b.term at (i + 2) 0 ++ x) (definitions_push ds d (i + 2 + n))
      ∙ sym (append_assoc (term_checks b.term at (i + 2) 0) (definition_checks ds at (i + 2 + n)) (term_checks d.term at (i + 2 + n + length (definitions ds) + 2) 0))
      ∙ ap (λ (x : ℕ). (term_checks b.term at (i + 2) 0 ++ definition_checks ds at (i + 2 + n)) ++ term_checks d.term at x 0) e

  unfoldable pub StateAsked : List Check → Option State → Type 0
  StateAsked cs None = Unit {0}
  StateAsked cs (Some t) = state_checks at t ≡ cs

  front : Header → List Definition → List Check
  front h ds = header_checks h at ++ definition_checks ds at (length (header h))

  lifted : (h : Header) (ds : List Definition) (name : List ℕ) (cs more : List Check) (o : Option Inside) → Asks at (length (before h ds name)) (cs ++ more) o → StateAsked ((front h ds ++ cs) ++ more) (lift h ds name o)
  unfolding StateAsked Asks lift state_checks front
  lifted h ds name cs more None k = tt
  lifted h ds name cs more (Some i) k = ap (λ (x : List Check). front h ds ++ x) k ∙ sym (append_assoc (front h ds) cs more)

  before_long : (h : Header) (ds : List Definition) (name : List ℕ) → length (before h ds name) ≡ length (header h) + length (definitions ds) + 2
  unfolding before
  before_long h ds name = omega (arith, length-append (header h) (definitions ds ++ Name name ∷ Define ∷ []), length-append (definitions ds) (Name name ∷ Define ∷ []))

  -- a definition that has ended
  ended_front : (h : Header) (ds : List Definition) (name : List ℕ) (t : Term) (es : List Entry) → with_term at (length (before h ds name)) [] t ≡ entries_checks at (length (before h ds name)) es → front h (ds ++ record { name = name; term = t } ∷ []) ≡ front h ds ++ entries_checks at (length (before h ds name)) es
  unfolding front with_term entries_checks entries depth
  ended_front h ds name t es e =
      let j : length (header h) + length (definitions ds) + 2 ≡ length (before h ds name) + 0 = omega (arith, before_long h ds name) in
      ap (λ (x : List Check). header_checks h at ++ x) (definitions_push ds (record { name = name; term = t }) (length (header h)))
      ∙ sym (append_assoc (header_checks h at) (definition_checks ds at (length (header h))) (term_checks t at (length (header h) + length (definitions ds) + 2) 0))
      ∙ ap (λ (x : ℕ). front h ds ++ term_checks t at x 0) j ∙ ap (λ (x : List Check). front h ds ++ x) e

  head_asked : (h : Header) (ds : List Definition) (name n : List ℕ) (es : List Entry) (o : Option (Term × List Entry)) → TermAsked at (length (before h ds name)) es o → StateAsked ((front h ds ++ (entries_checks at (length (before h ds name)) es ++ [])) ++ []) (on_head h ds name n o)
  unfolding on_head next_head TermAsked StateAsked state_checks inside_checks mode_checks entries_checks header_checks front
  head_asked h ds name n es None k = tt
  head_asked h ds name n es (Some (t, e ∷ fs)) k = tt
  head_asked h ds name n es (Some (t, [])) k =
      let c = entries_checks at (length (before h ds name)) es in
      append-nil (front h (ds ++ record { name = name; term = t } ∷ [])) ∙ ended_front h ds name t es k ∙ sym (append-nil (front h ds ++ c)) ∙ ap (λ (x : List Check). x ++ []) (ap (λ (x : List Check). front h ds ++ x) (sym (append-nil c)))

  stepped : (h : Header) (ds : List Definition) (name : List ℕ) (m : Mode) (es : List Entry) (w : Word) → StateAsked ((front h ds ++ (entries_checks at (length (before h ds name)) es ++ mode_checks m at (length (before h ds name) + length (entries es)) (depth es))) ++ asks at (length (before h ds name) + length (entries es)) m es w) (step_within h ds name m es w)
  unfolding step_within on_define asks named_asks mode_checks StateAsked
  stepped h ds name (Named true n) es Define = head_asked h ds name n es (take_term es) (term_asked at (length (before h ds name)) es)
  stepped h ds name (Named false n) es Define = tt
  stepped h ds name m es w = lifted h ds name _ _ _ (step_asked at (length (before h ds name)) m es w)

  pub state_asked : (s : State) (w : Word) → StateAsked (state_checks at s ++ state_asks at s w) (step s w)
  unfolding step name_then first_name head_read stage_read state_checks state_asks name_asks StateAsked header_checks stage_checks definition_checks inside_checks mode_checks entries_checks front
  state_asked Begin (Name n) = refl
  state_asked Begin _ = tt
  state_asked (FirstName n) Define = refl
  state_asked (FirstName n) Colon = by_test (StateAsked []) (bytes_eq n start) _ _ (λ e. refl) (λ e. tt)
  state_asked (FirstName n) _ = tt
  state_asked StartLine (Name n) = refl
  state_asked StartLine _ = tt
  state_asked (StageRead f ns) Pipe = sym (append-nil _)
  state_asked (StageRead f ns) (Name n) = sym (append-nil _)
  state_asked (StageRead f ns) _ = tt
  state_asked (StageNext f ns) (Name n) = stages_push (f ∷ ns) n 2 1 ∙ ap (λ (x : ℕ). stage_checks (f ∷ ns) at 2 1 ++ Staged (at (2 + 2 * length (f ∷ ns))) x ∷ []) (omega (arith))
  state_asked (StageNext f ns) _ = tt
  state_asked (HeadRead h n) Define = append-nil (header_checks h at ++ [])
  state_asked (HeadRead h n) _ = tt
  state_asked (Within h ds name i) w = stepped h ds name i.mode i.entries w

  unfoldable pub FinishAsked : List Check → Option Program → Type 0
  FinishAsked cs None = Unit {0}
  FinishAsked cs (Some p) = program_checks p at ≡ cs

  end_asked : (h : Header) (ds : List Definition) (name : List ℕ) (es : List Entry) (o : Option (Term × List Entry)) → TermAsked at (length (before h ds name)) es o → FinishAsked (front h ds ++ entries_checks at (length (before h ds name)) es) (program_of_term h ds name o)
  unfolding program_of_term program_of_whole TermAsked FinishAsked front
  end_asked h ds name es None k = tt
  end_asked h ds name es (Some (t, e ∷ fs)) k = tt
  end_asked h ds name es (Some (t, [])) k = ended_front h ds name t es k

  end_once : (h : Header) (ds : List Definition) (name : List ℕ) (a : Atom) (es : List Entry) → FinishAsked (front h ds ++ (entries_checks at (length (before h ds name)) es ++ atom_checks a at (length (before h ds name) + length (entries es)) (depth es))) (program_of_term h ds name (take_term (with_pre (Once a) es)))
  unfolding pre_checks
  end_once h ds name a es = subst (λ (x : List Check). FinishAsked (front h ds ++ x) (program_of_term h ds name (take_term (with_pre (Once a) es)))) (put_checks at (length (before h ds name)) (Once a) es) (end_asked h ds name (with_pre (Once a) es) (take_term (with_pre (Once a) es)) (term_asked at (length (before h ds name)) (with_pre (Once a) es)))

  end_turned : (h : Header) (ds : List Definition) (name : List ℕ) (a : Atom) (p : Postfix) (es : List Entry) → FinishAsked (front h ds ++ (entries_checks at (length (before h ds name)) es ++ (atom_checks a at (length (before h ds name) + length (entries es)) (depth es) ++ postfix_checks p (at (length (before h ds name) + length (entries es) + length (atom a)))))) (program_of_term h ds name (take_term (with_pre (Turns a p false) es)))
  unfolding pre_checks
  end_turned h ds name a p es = subst (λ (x : List Check). FinishAsked (front h ds ++ x) (program_of_term h ds name (take_term (with_pre (Turns a p false) es)))) (put_checks at (length (before h ds name)) (Turns a p false) es) (end_asked h ds name (with_pre (Turns a p false) es) (take_term (with_pre (Turns a p false) es)) (term_asked at (length (before h ds name)) (with_pre (Turns a p false) es)))

  finished : (h : Header) (ds : List Definition) (name : List ℕ) (m : Mode) (es : List Entry) → FinishAsked (front h ds ++ (entries_checks at (length (before h ds name)) es ++ mode_checks m at (length (before h ds name) + length (entries es)) (depth es))) (finish_within h ds name m es)
  unfolding finish_within mode_checks FinishAsked atom_checks
  finished h ds name Ready es = subst (λ (x : List Check). FinishAsked (front h ds ++ x) (program_of_term h ds name (take_term es))) (sym (append-nil (entries_checks at (length (before h ds name)) es))) (end_asked h ds name es (take_term es) (term_asked at (length (before h ds name)) es))
  finished h ds name (After a) es = end_once h ds name a es
  finished h ds name (Turned a p) es = end_turned h ds name a p es
  finished h ds name (Named free n) es = end_once h ds name (Call n) es
  finished h ds name _ es = tt

  pub finish_asked : (s : State) → FinishAsked (state_checks at s) (finish s)
  unfolding finish state_checks FinishAsked header_checks definition_checks inside_checks front
  finish_asked Begin = refl
  finish_asked (StageRead f ns) = append-nil _
  finish_asked (Within h ds name i) = finished h ds name i.mode i.entries
  finish_asked _ = tt
