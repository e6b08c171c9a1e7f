-- Stages that are joined, one after another.
use Rattle.std.proofs.Common.{◌≡◌, ◌≤◌, ◌<◌, ◌+◌, ◌⊎◌, false, ℕ, zero, suc, List, [], ◌∷◌, ◌++◌, Some, None, length, get_or, refl, sym, ap, ap₂, subst, ◌∙◌, append_assoc, length-append, arith}
use Rattle.std.specs.Prelude.{IsSome, All}
use Rattle.std.proofs.Math.ListN.{set}
use Rattle.kex_pipe.specs.Rounds.{Each}
use Rattle.kex_pipe.specs.Waiting.{waiting_items}
use Rattle.kex_pipe.specs.declared.inbox.Inbox.{Inbox}
use Rattle.kex_pipe.specs.declared.turn.Turn.{Ghosts}
use Rattle.kex_rings.specs.declared.ring_seat.RingSeat.{RingSeat}
use Rattle.kex_rings.specs.Ends.{Giver, Taker, sent_to, free_in, taken_from, SameGiver, SameTaker, IsLast, ArePaired, AreBeside}
use Rattle.kex_rings.specs.Looking.{OnlyLooked, NowBeside, CarriedOut, EachLooks}
use Rattle.kex_rings.specs.Lines.{Joined, HaveRings}
use Rattle.kex_rings.proofs.Looks.{same-taker, same-giver, one-taker, one-giver}

pub set-at : {A : Type 0} (front : List A) (a : A) (back : List A) (n : ℕ) (x : A) → length front ≡ n → set (front ++ a ∷ back) n x ≡ front ++ x ∷ back
set-at [] a back zero x e = refl
set-at [] a back (suc n) x e = absurd (omega arith)
set-at (f ∷ front) a back zero x e = absurd (omega arith)
set-at (f ∷ front) a back (suc n) x e = ap (λ z. f ∷ z) (set-at front a back n x (omega arith))

pub get-at : {A : Type 0} (front : List A) (a : A) (back : List A) (n : ℕ) (d : A) → length front ≡ n → get_or (front ++ a ∷ back) n d ≡ a
get-at [] a back zero d e = refl
get-at [] a back (suc n) d e = absurd (omega arith)
get-at (f ∷ front) a back zero d e = absurd (omega arith)
get-at (f ∷ front) a back (suc n) d e = get-at front a back n d (omega arith)

paired-beside-none : (room : ℕ) (from : Taker) → ArePaired room None from → AreBeside room None from
paired-beside-none room None h = (h, refl)
paired-beside-none room (Some c) h = absurd h

module _ {T : Type 0} (t : Ghosts T) where
  -- joined up to the last of these, whose end this is
  abbrev pub JoinedTo : (Giver → Taker → Type 0) → Giver → List (RingSeat T t) → Giver → Type 0
  JoinedTo R to [] last = last ≡ to
  JoinedTo R to (s ∷ ss) last = R to s.from × JoinedTo R s.to ss last

  pub joined-more : (R : Giver → Taker → Type 0) (to mid : Giver) (ss : List (RingSeat T t)) (s : RingSeat T t) → JoinedTo R to ss mid → R mid s.from → JoinedTo R to (ss ++ s ∷ []) s.to
  joined-more R to mid [] s j r = (subst (λ z. R z s.from) j r, refl)
  joined-more R to mid (a ∷ ss) s j r = (j.0, joined-more R a.to mid ss s j.1 r)

  pub joined-end : (R : Giver → Taker → Type 0) (to last : Giver) (ss : List (RingSeat T t)) → JoinedTo R to ss last → IsLast last → Joined t R to ss
  joined-end R to last [] j end = subst IsLast j end
  joined-end R to last (s ∷ ss) j end = (j.0, joined-end R s.to last ss j.1 end)

  -- the first of these see all that lies before them
  pub record Split (room i : ℕ) (ss : List (RingSeat T t)) : Type 0 where
    pub front : List (RingSeat T t)
    pub s : RingSeat T t
    pub back : List (RingSeat T t)
    pub is : ss ≡ front ++ s ∷ back
    pub number : length front ≡ i
    pub mid : Giver
    pub joined : JoinedTo (AreBeside room) None front mid
    pub here : AreBeside room mid s.from
    pub rest : Joined t (ArePaired room) s.to back

  pub split-first : (room : ℕ) (ss : List (RingSeat T t)) → 0 < length ss → Joined t (ArePaired room) None ss → Split room 0 ss
  split-first room [] some j = absurd (omega arith)
  split-first room (s ∷ ss) some j = record { front = []; s = s; back = ss; is = refl; number = refl; mid = None; joined = refl; here = paired-beside-none room s.from j.0; rest = j.1 }

  pub record Next (room i : ℕ) (ss : List (RingSeat T t)) (split : Split room i ss) : Type 0 where
    pub n : RingSeat T t
    pub back : List (RingSeat T t)
    pub is : ss ≡ split.front ++ split.s ∷ n ∷ back
    pub paired : ArePaired room split.s.to n.from
    pub rest : Joined t (ArePaired room) n.to back

  pub next-of : (room i : ℕ) (ss : List (RingSeat T t)) (split : Split room i ss) → i + 1 < length ss → Next room i ss split
  next-of room i ss split lt = cases split.back split.is split.rest
    where
      cases : (back : List (RingSeat T t)) → ss ≡ split.front ++ split.s ∷ back → Joined t (ArePaired room) split.s.to back → Next room i ss split
      cases [] is rest = absurd (omega (arith, ap length is, length-append split.front (split.s ∷ []), split.number, lt))
      cases (n ∷ back) is rest = record { n = n; back = back; is = is; paired = rest.0; rest = rest.1 }

  pub split-next : (room i : ℕ) (ss new : List (RingSeat T t)) (split : Split room i ss) (next : Next room i ss split) → NowBeside t split.front next.back split.s next.n new → Split room (i + 1) new
  split-next room i ss new split next b =
      let beside = b.beside room next.paired in
      record {
        front = split.front ++ b.s' ∷ [];
        s = b.n';
        back = next.back;
        is = b.is ∙ sym (append_assoc split.front (b.s' ∷ []) (b.n' ∷ next.back));
        number = omega (arith, length-append split.front (b.s' ∷ []), split.number);
        mid = b.s'.to;
        joined = joined-more (AreBeside room) None split.mid split.front b.s' split.joined (subst (λ z. AreBeside room split.mid z) (sym b.same_from) split.here);
        here = beside;
        rest = subst (λ z. Joined t (ArePaired room) z next.back) (sym b.same_to) next.rest;
      }

  pub split-last : (room i : ℕ) (ss : List (RingSeat T t)) (split : Split room i ss) → length ss ≤ i + 1 → Joined t (AreBeside room) None ss
  split-last room i ss split end = cases split.back split.is split.rest
    where
      cases : (back : List (RingSeat T t)) → ss ≡ split.front ++ split.s ∷ back → Joined t (ArePaired room) split.s.to back → Joined t (AreBeside room) None ss
      cases [] is rest = subst (λ z. Joined t (AreBeside room) None z) (sym is) (joined-end (AreBeside room) None split.s.to (split.front ++ split.s ∷ []) (joined-more (AreBeside room) None split.mid split.front split.s split.joined split.here) rest)
      cases (n ∷ back) is rest = absurd (omega (arith, ap length is, length-append split.front (split.s ∷ n ∷ back), split.number, end))

  looked-same : (s : RingSeat T t) → OnlyLooked t s s
  looked-same s = record { same_seat = refl; same_from = one-taker s.from; same_to = one-giver s.to; came = refl; went = refl; free = omega arith }

  pub looked-all : (ss : List (RingSeat T t)) → Each (OnlyLooked t) ss ss
  looked-all [] = tt
  looked-all (s ∷ ss) = (looked-same s, looked-all ss)

  looked-trans : (a b c : RingSeat T t) → OnlyLooked t a b → OnlyLooked t b c → OnlyLooked t a c
  looked-trans a b c f g = record {
    same_seat = g.same_seat ∙ f.same_seat;
    same_from = same-taker a.from b.from c.from f.same_from g.same_from;
    same_to = same-giver a.to b.to c.to f.same_to g.same_to;
    came = g.came ∙ f.came;
    went = g.went ∙ f.went;
    free = let x = f.free in let y = g.free in omega (arith, x, y);
  }

  -- two of them look again
  pub looked-two : (olds front : List (RingSeat T t)) (s n s' n' : RingSeat T t) (back : List (RingSeat T t)) → Each (OnlyLooked t) olds (front ++ s ∷ n ∷ back) → OnlyLooked t s s' → OnlyLooked t n n' → Each (OnlyLooked t) olds (front ++ s' ∷ n' ∷ back)
  looked-two (a ∷ c ∷ olds) [] s n s' n' back h f g = (looked-trans a s s' h.0 f, (looked-trans c n n' h.1.0 g, h.1.1))
  looked-two (a ∷ olds) (x ∷ front) s n s' n' back h f g = (h.0, looked-two olds front s n s' n' back h.1 f g)
  looked-two [] [] s n s' n' back h f g = absurd h
  looked-two (a ∷ []) [] s n s' n' back h f g = absurd h.1
  looked-two [] (x ∷ front) s n s' n' back h f g = absurd h

  pub now-beside : (front back : List (RingSeat T t)) (s n f b s' n' : RingSeat T t) (new : List (RingSeat T t)) → f ≡ s → b ≡ n → new ≡ front ++ s' ∷ n' ∷ back → s'.seat ≡ f.seat → s'.from ≡ f.from → n'.seat ≡ b.seat → n'.to ≡ b.to
      → SameGiver f.to s'.to × (sent_to s'.to ≡ sent_to f.to) × (free_in f.to ≤ free_in s'.to) → SameTaker b.from n'.from × (taken_from n'.from ≡ taken_from b.from) → ((room : ℕ) → ArePaired room f.to b.from → AreBeside room s'.to n'.from) → NowBeside t front back s n new
  now-beside front back s n f b s' n' new f_is b_is is seat from n_seat n_to to_looked from_looked beside =
      let s_from : s'.from ≡ s.from = from ∙ ap (λ z. z.from) f_is in
      let s_to : f.to ≡ s.to = ap (λ z. z.to) f_is in
      let n_from : b.from ≡ n.from = ap (λ z. z.from) b_is in
      let n_to_is : n'.to ≡ n.to = n_to ∙ ap (λ z. z.to) b_is in
      record {
        s' = s';
        n' = n';
        is = is;
        looked = record {
          same_seat = seat ∙ ap (λ z. z.seat) f_is;
          same_from = subst (λ z. SameTaker s.from z) (sym s_from) (one-taker s.from);
          same_to = subst (λ z. SameGiver z s'.to) s_to to_looked.0;
          came = ap taken_from s_from;
          went = to_looked.1 ∙ ap sent_to s_to;
          free = subst (λ z. free_in z ≤ free_in s'.to) s_to to_looked.2;
        };
        next_looked = record {
          same_seat = n_seat ∙ ap (λ z. z.seat) b_is;
          same_from = subst (λ z. SameTaker z n'.from) n_from from_looked.0;
          same_to = subst (λ z. SameGiver n.to z) (sym n_to_is) (one-giver n.to);
          came = from_looked.1 ∙ ap taken_from n_from;
          went = ap sent_to n_to_is;
          free = subst (λ z. free_in n.to ≤ free_in z) (sym n_to_is) (omega arith);
        };
        same_from = s_from;
        same_to = n_to_is;
        beside = λ room paired. beside room (subst (λ z. ArePaired room z b.from) (sym s_to) (subst (λ z. ArePaired room s.to z) (sym n_from) paired));
      }

  -- what the last one has written
  pub carried : (seats front : List (RingSeat T t)) (s f s' : RingSeat T t) (n : ℕ) (b b' : Inbox) → seats ≡ front ++ s ∷ [] → n + 1 ≡ length seats → f ≡ get_or seats n f → s'.from ≡ f.from → s'.to ≡ f.to → s'.seat.staged ≡ f.seat.staged → s'.seat.inbox ≡ f.seat.inbox → s'.seat.usable ≡ f.seat.usable → waiting_items s'.seat.outbox ≡ []
      → ((b.ended ≡ false) ⊎ (waiting_items f.seat.outbox ≡ []) → waiting_items b' ≡ waiting_items b ++ waiting_items f.seat.outbox) → CarriedOut t front s b (set seats n s') b'
  carried seats front s f s' n b b' is number f_is from to staged inbox usable none moves =
      let place : length front ≡ n = omega (arith, ap length is, length-append front (s ∷ []), number) in
      let same : f ≡ s = f_is ∙ ap (λ z. get_or z n f) is ∙ get-at front s [] n f place in
      record {
        s' = s';
        is = ap (λ z. set z n s') is ∙ set-at front s [] n s' place;
        same_from = from ∙ ap (λ z. z.from) same;
        same_to = to ∙ ap (λ z. z.to) same;
        same_staged = staged ∙ ap (λ z. z.seat.staged) same;
        same_inbox = inbox ∙ ap (λ z. z.seat.inbox) same;
        same_usable = usable ∙ ap (λ z. z.seat.usable) same;
        none_left = none;
        moves = subst (λ z. (b.ended ≡ false) ⊎ (waiting_items z ≡ []) → waiting_items b' ≡ waiting_items b ++ waiting_items z) (ap (λ z. z.seat.outbox) same) moves;
      }

  -- a row that is made, and the end of the last ring
  pub record Row (room : ℕ) (row : List (RingSeat T t)) (from : Taker) (left : ℕ) : Type 0 where
    pub last : Giver
    pub joined : JoinedTo (AreBeside room) None row last
    pub here : AreBeside room last from
    pub end : left ≡ 0 → IsLast last

  -- one stage more after stages that have rings
  pub rings-more : (ss : List (RingSeat T t)) (s : RingSeat T t) → All (λ z. IsSome z.to) ss → HaveRings t (ss ++ s ∷ [])
  rings-more [] s all = tt
  rings-more (a ∷ []) s all = (all zero a (omega arith), tt)
  rings-more (a ∷ b ∷ ss) s all = (all zero a (omega arith), rings-more (b ∷ ss) s (λ k d lt. all (suc k) d (omega (arith, lt))))

  -- rows side by side
  pub both-looks : (room : ℕ) (fs fs' bs bs' : List (RingSeat T t)) (cs ds : List ℕ) → EachLooks t room fs fs' cs → EachLooks t room bs bs' ds → EachLooks t room (fs ++ bs) (fs' ++ bs') (cs ++ ds)
  both-looks room [] [] bs bs' [] ds f g = g
  both-looks room (s ∷ fs) (s' ∷ fs') bs bs' (c ∷ cs) ds f g = (f.0, both-looks room fs fs' bs bs' cs ds f.1 g)
  both-looks room [] (s' ∷ fs') bs bs' cs ds f g = absurd f
  both-looks room [] [] bs bs' (c ∷ cs) ds f g = absurd f
  both-looks room (s ∷ fs) [] bs bs' cs ds f g = absurd f
  both-looks room (s ∷ fs) (s' ∷ fs') bs bs' [] ds f g = absurd f

heads : {A : Type 0} {x y : A} {xs ys : List A} → x ∷ xs ≡ y ∷ ys → x ≡ y
heads e = cc

tails : {A : Type 0} {x y : A} {xs ys : List A} → x ∷ xs ≡ y ∷ ys → xs ≡ ys
tails e = cc

-- two cuts of one list at the same place
pub same-cut : {A : Type 0} (fs bs xs ys : List A) → fs ++ bs ≡ xs ++ ys → length fs ≡ length xs → (fs ≡ xs) × (bs ≡ ys)
same-cut [] bs [] ys e long = (refl, e)
same-cut (f ∷ fs) bs (x ∷ xs) ys e long = let r = same-cut fs bs xs ys (tails e) (omega arith) in (ap₂ (λ a b. a ∷ b) (heads e) r.0, r.1)
same-cut [] bs (x ∷ xs) ys e long = absurd (omega arith)
same-cut (f ∷ fs) bs [] ys e long = absurd (omega arith)

pub got-again : {A : Type 0} (xs : List A) (n : ℕ) (d : A) → get_or xs n d ≡ get_or xs n (get_or xs n d)
got-again [] n d = refl
got-again (x ∷ xs) zero d = refl
got-again (x ∷ xs) (suc n) d = got-again xs n d

pub all-both : {A : Type 0} (P : A → Type 0) (xs ys : List A) → ((k : ℕ) (d : A) → k < length xs → P (get_or xs k d)) → ((k : ℕ) (d : A) → k < length ys → P (get_or ys k d)) → (k : ℕ) (d : A) → k < length (xs ++ ys) → P (get_or (xs ++ ys) k d)
all-both P [] ys f b k d lt = b k d lt
all-both P (x ∷ xs) ys f b zero d lt = f zero d (omega arith)
all-both P (x ∷ xs) ys f b (suc k) d lt = all-both P xs ys (λ n e less. f (suc n) e (omega arith)) b k d (omega arith)

pub all-one : {A : Type 0} (P : A → Type 0) (x : A) → P x → (k : ℕ) (d : A) → k < length (x ∷ []) → P (get_or (x ∷ []) k d)
all-one P x p zero d lt = p
all-one P x p (suc k) d lt = absurd (omega arith)
