-- The reader of programs as a machine over words: what has been read so far, and what one word more
-- makes of it.
use Rattle.std.specs.Prelude.{ℕ, Bool, true, false, List, [], ◌∷◌, ◌++◌, Option, Some, None}
use Rattle.std.specs.Prelude.{bytes_eq, codes, if◌then◌else◌}
use Rattle.kex_reader.specs.Syntax.{Word, Name, Number, Literal, Regex, Define, Colon, Pipe, Bar}
use Rattle.kex_reader.specs.Syntax.{Tilde, At, Star, Plus, PlusEquals, Question, OpenBrace}
use Rattle.kex_reader.specs.Syntax.{CloseBrace, Comma, Bang, OpenBracket, CloseBracket, Arrow}
use Rattle.kex_reader.specs.Syntax.{OpenParen, CloseParen, RegisterPart, Text, Held, Postfix}
use Rattle.kex_reader.specs.Syntax.{ZeroOrMore, OneOrMore, Optional, Term, Last, Or, Seq, Only}
use Rattle.kex_reader.specs.Syntax.{Then, Pre, Mute, Into, Once, Turns, Atom, One, Call, Lit, Match}
use Rattle.kex_reader.specs.Syntax.{Write, Assign, Group, Definition, Header, NoStart, Stages}
use Rattle.kex_reader.specs.Syntax.{Program, start, register_part, parts, sign, word_signs, postfix}
use Rattle.kex_reader.specs.Syntax.{seq}
use Rattle.kex_reader.specs.Syntax.{pre, atom, definitions, stages, header}
use Rattle.kex_regexp.specs.Postfixes.{CountSign, Digits, CommaSign, CloseSign, NoSign, count_by}
use Rattle.kex_regexp.specs.Postfixes.{count_spelling}
pub use Rattle.kex_regexp.specs.Postfixes.{Counting, Opened, Low, LowComma, LowHigh, OnlyComma}
pub use Rattle.kex_regexp.specs.Postfixes.{High, CountStep, CountOn, CountRead, CountWrong}

-- what is open in a definition, the newest first: parentheses, what a bar has ended, what has ended
-- after it, prefixes
pub data Entry : Type 0 where
  Mark : Entry
  Ended : (seq : Seq) → Entry
  Done : (pre : Pre) → Entry
  Muted : Entry
  Storing : (register : List ℕ) → Entry

-- a pre has to come, or one has ended, an atom, one with a postfix, a name that may be a call, a
-- register or a head, or something is half read
pub data Mode : Type 0 where
  Need : Mode
  Ready : Mode
  After : (atom : Atom) → Mode
  Turned : (atom : Atom) → (postfix : Postfix) → Mode
  Named : (free : Bool) → (name : List ℕ) → Mode
  Writing : Mode
  Bracket : Mode
  BracketName : (register : List ℕ) → Mode
  Assigning : (append : Bool) → (register : List ℕ) → Mode
  Assigned : (append : Bool) → (register : List ℕ) → (first : RegisterPart)
      → (others : List RegisterPart) → Mode
  InCount : (atom : Atom) → Counting → Mode

-- inside a definition
pub record Inside : Type 0 where
  pub mode : Mode
  pub entries : List Entry

pub data State : Type 0 where
  Begin : State
  FirstName : (name : List ℕ) → State
  StartLine : State
  StageRead : (first : List ℕ) → (others : List (List ℕ)) → State
  StageNext : (first : List ℕ) → (others : List (List ℕ)) → State
  HeadRead : Header → (name : List ℕ) → State
  Within : Header → (before : List Definition) → (name : List ℕ) → Inside → State

-- ---- entries

-- a pre that has ended takes the prefixes before it
unfoldable pub with_pre : Pre → List Entry → List Entry
with_pre p [] = Done p ∷ []
with_pre p (Mark ∷ es) = Done p ∷ Mark ∷ es
with_pre p (Ended s ∷ es) = Done p ∷ Ended s ∷ es
with_pre p (Done q ∷ es) = Done p ∷ Done q ∷ es
with_pre p (Muted ∷ es) = with_pre (Mute p) es
with_pre p (Storing r ∷ es) = with_pre (Into r p) es

unfoldable pub take_more : List Entry → Seq → Seq × List Entry
take_more [] s = (s, [])
take_more (Mark ∷ es) s = (s, Mark ∷ es)
take_more (Ended t ∷ es) s = (s, Ended t ∷ es)
take_more (Done p ∷ es) s = take_more es (Then p s)
take_more (Muted ∷ es) s = (s, Muted ∷ es)
take_more (Storing r ∷ es) s = (s, Storing r ∷ es)

-- the newest seq, and what is below it
unfoldable pub take_seq : List Entry → Option (Seq × List Entry)
take_seq [] = None
take_seq (Mark ∷ es) = None
take_seq (Ended t ∷ es) = None
take_seq (Done p ∷ es) = Some (take_more es (Only p))
take_seq (Muted ∷ es) = None
take_seq (Storing r ∷ es) = None

unfoldable pub take_branches : List Entry → Term → Term × List Entry
take_branches [] t = (t, [])
take_branches (Mark ∷ es) t = (t, Mark ∷ es)
take_branches (Ended s ∷ es) t = take_branches es (Or s t)
take_branches (Done p ∷ es) t = (t, Done p ∷ es)
take_branches (Muted ∷ es) t = (t, Muted ∷ es)
take_branches (Storing r ∷ es) t = (t, Storing r ∷ es)

unfoldable pub term_of : Option (Seq × List Entry) → Option (Term × List Entry)
term_of None = None
term_of (Some t) = Some (take_branches t.1 (Last t.0))

-- the newest term, and what is below it
unfoldable pub take_term : List Entry → Option (Term × List Entry)
take_term es = term_of (take_seq es)

-- ---- one word more, inside a definition

abbrev pub goes : Mode → List Entry → Option Inside
goes m es = Some (record { mode = m; entries = es })

unfoldable pub on_bar : Option (Seq × List Entry) → Option Inside
on_bar None = None
on_bar (Some t) = goes Need (Ended t.0 ∷ t.1)

unfoldable pub after_group : Term → List Entry → Option Inside
after_group t [] = None
after_group t (Mark ∷ es) = goes (After (Group t)) es
after_group t (Ended s ∷ es) = None
after_group t (Done p ∷ es) = None
after_group t (Muted ∷ es) = None
after_group t (Storing r ∷ es) = None

unfoldable pub on_close : Option (Term × List Entry) → Option Inside
on_close None = None
on_close (Some t) = after_group t.0 t.1

-- the digit 1 alone is an atom
unfoldable pub on_number : List Entry → List ℕ → Option Inside
on_number es digits = if bytes_eq digits (codes "1") then goes (After One) es else None

-- a word where a pre may begin; free says that none has to
unfoldable pub begin_pre : Bool → List Entry → Word → Option Inside
begin_pre free es (Name n) = goes (Named free n) es
begin_pre free es (Number digits) = on_number es digits
begin_pre free es (Literal s) = goes (After (Lit s)) es
begin_pre free es (Regex b) = goes (After (Match b)) es
begin_pre free es Tilde = goes Need (Muted ∷ es)
begin_pre free es Bang = goes Writing es
begin_pre free es OpenBracket = goes Bracket es
begin_pre free es OpenParen = goes Need (Mark ∷ es)
begin_pre true es Bar = on_bar (take_seq es)
begin_pre true es CloseParen = on_close (take_term es)
begin_pre free es _ = None

unfoldable pub after_atom : Atom → List Entry → Word → Option Inside
after_atom a es Star = goes (Turned a ZeroOrMore) es
after_atom a es Plus = goes (Turned a OneOrMore) es
after_atom a es Question = goes (Turned a Optional) es
after_atom a es OpenBrace = goes (InCount a Opened) es
after_atom a es w = begin_pre true (with_pre (Once a) es) w

-- after a postfix: what makes it lazy, or what follows the pre
unfoldable pub after_term_turns : Atom → Postfix → List Entry → Word → Option Inside
after_term_turns a p es Question = goes Ready (with_pre (Turns a p true) es)
after_term_turns a p es w = begin_pre true (with_pre (Turns a p false) es) w

unfoldable pub after_name : List ℕ → List Entry → Word → Option Inside
after_name n es At = goes Need (Storing n ∷ es)
after_name n es Define = None
after_name n es w = after_atom (Call n) es w

unfoldable pub on_name : (List ℕ → Option Inside) → Word → Option Inside
on_name f (Name n) = f n
on_name f _ = None

unfoldable pub on_sign : List ℕ → List Entry → Word → Option Inside
on_sign r es Arrow = goes (Assigning false r) es
on_sign r es PlusEquals = goes (Assigning true r) es
on_sign r es _ = None

unfoldable pub first_part : Bool → List ℕ → List Entry → Word → Option Inside
first_part append r es (Literal s) = goes (Assigned append r (Text s) []) es
first_part append r es (Name n) = goes (Assigned append r (Held n) []) es
first_part append r es _ = None

unfoldable pub next_part : Bool → List ℕ → RegisterPart → List RegisterPart → List Entry → Word
    → Option Inside
next_part append r p ps es (Literal s) = goes (Assigned append r p (ps ++ Text s ∷ [])) es
next_part append r p ps es (Name n) = goes (Assigned append r p (ps ++ Held n ∷ [])) es
next_part append r p ps es CloseBracket = goes (After (Assign append r p ps)) es
next_part append r p ps es _ = None

abbrev pub word_count_sign : Word → CountSign
word_count_sign (Number digits) = Digits digits
word_count_sign Comma = CommaSign
word_count_sign CloseBrace = CloseSign
word_count_sign _ = NoSign

unfoldable pub count_step : Counting → Word → CountStep
count_step c w = count_by false c (word_count_sign w)

unfoldable pub on_count : Atom → List Entry → CountStep → Option Inside
on_count a es (CountOn c) = goes (InCount a c) es
on_count a es (CountRead p) = goes (Turned a p) es
on_count a es CountWrong = None

abbrev pub after_count : Atom → Counting → List Entry → Word → Option Inside
after_count a c es w = on_count a es (count_step c w)

unfoldable pub step_in : Mode → List Entry → Word → Option Inside
step_in Need es w = begin_pre false es w
step_in Ready es w = begin_pre true es w
step_in (After a) es w = after_atom a es w
step_in (Turned a p) es w = after_term_turns a p es w
step_in (Named free n) es w = after_name n es w
step_in Writing es w = on_name (λ n. goes (After (Write n)) es) w
step_in Bracket es w = on_name (λ n. goes (BracketName n) es) w
step_in (BracketName r) es w = on_sign r es w
step_in (Assigning append r) es w = first_part append r es w
step_in (Assigned append r p ps) es w = next_part append r p ps es w
step_in (InCount a c) es w = after_count a c es w

-- ---- one word more

unfoldable pub lift : Header → List Definition → List ℕ → Option Inside → Option State
lift h ds name None = None
lift h ds name (Some i) = Some (Within h ds name i)

-- a definition ends where the next one's head comes
unfoldable pub next_head : Header → List Definition → List ℕ → List ℕ → Term → List Entry
    → Option State
next_head h ds name n t [] = Some (Within h (ds ++ record { name = name; term = t } ∷ []) n
    (record { mode = Need; entries = [] }))
next_head h ds name n t (e ∷ es) = None

unfoldable pub on_head : Header → List Definition → List ℕ → List ℕ → Option (Term × List Entry)
    → Option State
on_head h ds name n None = None
on_head h ds name n (Some t) = next_head h ds name n t.0 t.1

-- a name that has to be a call or a register is no head
unfoldable pub on_define : Header → List Definition → List ℕ → Bool → List ℕ → List Entry
    → Option State
on_define h ds name true n es = on_head h ds name n (take_term es)
on_define h ds name false n es = None

unfoldable pub step_within : Header → List Definition → List ℕ → Mode → List Entry → Word
    → Option State
step_within h ds name (Named free n) es Define = on_define h ds name free n es
step_within h ds name m es w = lift h ds name (step_in m es w)

unfoldable pub first_name : List ℕ → Word → Option State
first_name n Define = Some (Within NoStart [] n (record { mode = Need; entries = [] }))
first_name n Colon = if bytes_eq n start then Some StartLine else None
first_name n _ = None

unfoldable pub head_read : Header → List ℕ → Word → Option State
head_read h n Define = Some (Within h [] n (record { mode = Need; entries = [] }))
head_read h n _ = None

unfoldable pub stage_read : List ℕ → List (List ℕ) → Word → Option State
stage_read f ns Pipe = Some (StageNext f ns)
stage_read f ns (Name n) = Some (HeadRead (Stages f ns) n)
stage_read f ns _ = None

unfoldable pub name_then : (List ℕ → State) → Word → Option State
name_then f (Name n) = Some (f n)
name_then f _ = None

unfoldable pub step : State → Word → Option State
step Begin w = name_then FirstName w
step (FirstName n) w = first_name n w
step StartLine w = name_then (λ n. StageRead n []) w
step (StageRead f ns) w = stage_read f ns w
step (StageNext f ns) w = name_then (λ n. StageRead f (ns ++ n ∷ [])) w
step (HeadRead h n) w = head_read h n w
step (Within h ds name i) w = step_within h ds name i.mode i.entries w

-- after one more word, unless one was refused before
unfoldable pub next : Option State → Word → Option State
next None w = None
next (Some s) w = step s w

unfoldable pub state_after : Option State → List Word → Option State
state_after o [] = o
state_after o (w ∷ ws) = state_after (next o w) ws

unfoldable pub program_of_whole : Header → List Definition → List ℕ → Term → List Entry
    → Option Program
program_of_whole h ds name t [] =
    Some (record { header = h; definitions = ds ++ record { name = name; term = t } ∷ [] })
program_of_whole h ds name t (e ∷ es) = None

unfoldable pub program_of_term : Header → List Definition → List ℕ → Option (Term × List Entry)
    → Option Program
program_of_term h ds name None = None
program_of_term h ds name (Some t) = program_of_whole h ds name t.0 t.1

unfoldable pub finish_within : Header → List Definition → List ℕ → Mode → List Entry
    → Option Program
finish_within h ds name Ready es = program_of_term h ds name (take_term es)
finish_within h ds name (After a) es = program_of_term h ds name (take_term (with_pre (Once a) es))
finish_within h ds name (Turned a p) es =
    program_of_term h ds name (take_term (with_pre (Turns a p false) es))
finish_within h ds name (Named free n) es =
    program_of_term h ds name (take_term (with_pre (Once (Call n)) es))
finish_within h ds name _ es = None

unfoldable pub finish : State → Option Program
finish Begin = Some (record { header = NoStart; definitions = [] })
finish (StageRead f ns) = Some (record { header = Stages f ns; definitions = [] })
finish (Within h ds name i) = finish_within h ds name i.mode i.entries
finish _ = None

-- ---- what has been read

unfoldable pub entry : Entry → List Word
entry Mark = OpenParen ∷ []
entry (Ended s) = seq s ++ Bar ∷ []
entry (Done p) = pre p
entry Muted = Tilde ∷ []
entry (Storing r) = Name r ∷ At ∷ []

unfoldable pub entries : List Entry → List Word
entries [] = []
entries (e ∷ es) = entries es ++ entry e

unfoldable pub counting : Counting → List Word
counting c = count_spelling word_signs c

unfoldable pub mode : Mode → List Word
mode Need = []
mode Ready = []
mode (After a) = atom a
mode (Turned a p) = atom a ++ postfix p
mode (Named free n) = Name n ∷ []
mode Writing = Bang ∷ []
mode Bracket = OpenBracket ∷ []
mode (BracketName r) = OpenBracket ∷ Name r ∷ []
mode (Assigning append r) = OpenBracket ∷ Name r ∷ sign append ∷ []
mode (Assigned append r p ps) = OpenBracket ∷ Name r ∷ sign append ∷ register_part p ∷ parts ps
mode (InCount a c) = atom a ++ OpenBrace ∷ counting c

unfoldable pub inside : Inside → List Word
inside i = entries i.entries ++ mode i.mode

unfoldable pub before : Header → List Definition → List ℕ → List Word
before h ds name = header h ++ (definitions ds ++ Name name ∷ Define ∷ [])

unfoldable pub words_read : State → List Word
words_read Begin = []
words_read (FirstName n) = Name n ∷ []
words_read StartLine = Name start ∷ Colon ∷ []
words_read (StageRead f ns) = Name start ∷ Colon ∷ Name f ∷ stages ns
words_read (StageNext f ns) = Name start ∷ Colon ∷ Name f ∷ (stages ns ++ Pipe ∷ [])
words_read (HeadRead h n) = header h ++ Name n ∷ []
words_read (Within h ds name i) = before h ds name ++ inside i
