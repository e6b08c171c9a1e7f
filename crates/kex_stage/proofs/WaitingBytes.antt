-- Bytes that can wait, and that the oracle isn't given yet.
use Rattle.std.proofs.Common.{◌≡◌, ℕ, ◌<◌, ◌≤◌, ◌+◌, Bool, true, false, IsTrue, List, [], ◌++◌, Option, Some, None, IfSome, Result, Ok, Err, IfOk, length, take, drop, refl, sym, ap, subst, ◌∙◌, append_assoc, append-nil, arith, length-append, length-take, take-append-drop}
use Rattle.kex_code.specs.declared.symbol.Symbol.{Symbol}
use Rattle.kex_code.specs.Codes.{Begins}
use Rattle.kex_machine.specs.Nodes.{Graph}
use Rattle.kex_machine.specs.Answers.{HasRun, IsViableFor, MeansByRun}
use Rattle.kex_action.specs.Actors.{Position, HasPerformed, IsSettled}
use Rattle.kex_pipe.specs.Working.{CameToEnd, ReadMore}
use Rattle.kex_pipe.proofs.ViableAnswers.{refuses}
use Rattle.kex_sst.specs.Tables.{Transducer}
use Rattle.kex_sst.specs.Passes.{ended_by, first_pass, passes, passes_if}
use Rattle.kex_sst.proofs.Passes.{passes_more}
use Rattle.kex_runner.specs.Following.{pass_at}
use Rattle.kex_runner.specs.Quiet.{GoesQuietly}
use Rattle.kex_runner.specs.Running.{IsRunOf}
use Rattle.kex_stage.specs.declared.follower.Follower.{Follower}
use Rattle.kex_stage.specs.declared.oracle.Oracle.{Oracle}
use Rattle.kex_stage.specs.declared.oracle.Oracle.TheVariants.{Paths, Table}
use Rattle.kex_plan.specs.declared.plan.Telling.{Telling}
use Rattle.kex_stage.specs.Ahead.{CanWait, CannotEnd, DoesNothing, IsAdvance, at_node, IsStill, RefusesAfter, TellsNoneOf, WouldTell, heard_part, good_part}
use Rattle.kex_stage.specs.declared.team.Hearing.{Hearing}
use Rattle.kex_stage.specs.declared.team.Hearing.TheVariants.{Whole, Refused, PutOff}
use Rattle.kex_stage.specs.Hearings.{HasHeard, KeepsNone, LeavesWaiting}
use Rattle.kex_stage.specs.declared.advance.Advance.{Advance}
use Rattle.kex_stage.specs.declared.advance.Advance.TheVariants as advance
use Rattle.kex_stage.specs.Oracles.{Hears, Agrees, IsReady, read_of}
use Rattle.kex_plan.specs.Plans.{IsTableAs, SaysAs, Teller, teller}
use Rattle.kex_stage.specs.StageLaws.{told_orderly}
use Rattle.kex_stage.specs.Stages.{ClosesAs, FollowsBehind, SaysOf, StageFollows, TeamFollows, TeamState, refused_at, teller_in}
use Rattle.kex_stage.specs.Works.{StageWorks}
use Rattle.kex_stage.proofs.ByTable.{still_live, table_agrees}
use Rattle.kex_stage.proofs.FedStages.{stage_reads}
use Rattle.kex_stage.proofs.OracleAnswers.{more_taken, says}
use Rattle.kex_stage.proofs.ToldCodes.{viable_told}

pub if_some_here : (o : Option ℕ) (x : ℕ) (P : ℕ → Type 0) → o ≡ Some x → IfSome o P → P x
if_some_here o x P is h = subst (λ z. IfSome z P) is h

-- one after another
pub waits_on : (o : Oracle) (a : Position) (us vs : List ℕ) (q r : ℕ) → CanWait o a us q → TellsNoneOf o q r vs → CanWait o a (us ++ vs) r
waits_on (Paths p) a us vs q r w n = absurd n
waits_on (Table f) a us vs q r w n = record {
  said = w.said;
  tells = (
    w.tells.0,
    λ c.
        let one = w.tells.1 c in
        let two = n (c ++ w.said) one.0 in
        (two.0, passes_more f.runner.table (Some (pass_at f.runner.state c f.runner.registers)) us vs ∙ ap (λ o. passes_if f.runner.table o vs) one.1 ∙ two.1),
  );
  idle = w.idle;
}

-- quiet bytes
pub quiet_waits : (f : Follower) (a : Position) (bs : List ℕ) (q : ℕ) → f.runner.pending ≡ [] → IsSettled a → GoesQuietly f.runner.table f.runner.state q bs → CanWait (Table f) a bs q
quiet_waits f a bs q none settled quiet = record {
  said = [];
  tells = (
    none,
    λ c.
        let on = quiet c f.runner.registers in
        (on.0, on.1 ∙ ap (λ z. Some (pass_at q z on.0)) (sym (append-nil c))),
  );
  idle = record {
    to = a.at;
    settled = settled;
    performed = λ c out h _. subst (λ z. HasPerformed a z z out) (sym (append-nil c)) h;
  };
}

module _ (f : Follower) (k : Telling) (g : Graph) (v rest : List ℕ) (c said : List Symbol) (q : ℕ) (h : Hears k g (Table f) v c) (good : IsViableFor g v) (would : WouldTell (Table f) said rest q) where
  abbrev t : Transducer
  t = f.runner.table

  pub there : (held : List (List Symbol)) × (passes t (v ++ rest) ≡ Some (pass_at q (c ++ said) held))
  there =
      let live = still_live k g t h.0 h.1 f.runner v c refl h.3 good in
      let on = would.1 c in
      let here = live.passes ∙ ap (λ z. Some (pass_at f.runner.state z f.runner.registers)) (ap (λ z. c ++ z) would.0 ∙ append-nil c) in
      (on.0, passes_more t (Some (first_pass t.initial)) v rest ∙ ap (λ o. passes_if t o rest) here ∙ on.1)

  -- what would be told is what there is to tell
  pub would_agree : Agrees k g (v ++ rest) (c ++ said)
  would_agree = table_agrees k g t h.0 h.1 (v ++ rest) (pass_at q (c ++ said) there.0) there.1

  -- and no parse ends where the table can't end
  pub would_cut : CannotEnd (Table f) q → ¬ HasRun g (v ++ rest)
  would_cut cut =
      let p = pass_at q (c ++ said) there.0 in
      h.1.cut (v ++ rest) p there.1 (ap (λ o. ended_by o p) cut)

-- what was said is what is said of those that wait, too
pub waits_say : (k : Telling) (o : Oracle) (a : Position) (v rest text : List ℕ) (q : ℕ) → StageFollows k o a v text → CanWait o a rest q → SaysOf (teller k a.machine) (v ++ rest) None text
waits_say k (Paths p) a v rest text q s w = absurd w.tells
waits_say k (Table f) a v rest text q s w =
    let d = s.followed in
    let ag = would_agree f k a.machine v rest d.code w.said q d.hears s.good w.tells in
    let then = w.idle.performed d.code text d.performed (ag.run, ag.runs, ag.begins) in
    (viable_told k a.machine (v ++ rest) (d.code ++ w.said) ag.told, says a.machine (at_node a w.idle.to) refl w.idle.settled (d.code ++ w.said) text then (v ++ rest) ag)

-- how a team answers what its oracle and its actor have gone along
abbrev pub hearing_of : Advance → ℕ → Hearing
hearing_of advance.Whole at = Whole
hearing_of (advance.Refused k) at = Refused at
hearing_of (advance.PutOff k q) at = PutOff k q

pub heard_by : (s n : TeamState) (by : Advance) (w text piece x y : List ℕ) → n.telling ≡ s.telling → TeamFollows s w text → n.actor.machine ≡ s.actor.machine → StageWorks s.oracle n.oracle s.actor n.actor (heard_part by piece) (good_part by piece) x y → IsAdvance n.oracle n.actor piece by → read_of n.oracle ≡ read_of s.oracle + good_part by piece → HasHeard s n w text piece (hearing_of by (read_of n.oracle)) x y
heard_by s n by w text piece x y same f mb works is read = case by works is read
  where
    reads : (front : List ℕ) (count : ℕ) (refused : Bool) → StageWorks s.oracle n.oracle s.actor n.actor front count x y → read_of n.oracle ≡ read_of s.oracle + count → (refused ≡ true → count < length front) → (refused ≡ false → length front ≤ count) → ReadMore (SaysOf (teller_in s)) (TeamFollows n) w text front (refused_at refused (read_of n.oracle)) x y
    reads front count refused works read lt le = subst (λ k. ReadMore (SaysOf (teller_in s)) (StageFollows k n.oracle n.actor) w text front (refused_at refused (read_of n.oracle)) x y) (sym same) (stage_reads s.telling s.oracle n.oracle s.actor n.actor w text front count x y f works read mb refused lt le)

    case : (by : Advance) → StageWorks s.oracle n.oracle s.actor n.actor (heard_part by piece) (good_part by piece) x y → IsAdvance n.oracle n.actor piece by → read_of n.oracle ≡ read_of s.oracle + good_part by piece → HasHeard s n w text piece (hearing_of by (read_of n.oracle)) x y
    case advance.Whole works is read = reads piece (length piece) false works read (λ e. let bad : false ≡ true = e in cc) (λ e. omega arith)
    case (advance.Refused k) works is read = reads piece k true works read (λ e. is) (λ e. let bad : true ≡ false = e in cc)
    case (advance.PutOff k q) works is read = reads (take k piece) k false works read (λ e. let bad : false ≡ true = e in cc) (λ e. omega (arith, length-take k piece))

pub left_by : (s n : TeamState) (by : Advance) (piece : List ℕ) → IsAdvance n.oracle n.actor piece by → read_of n.oracle ≡ read_of s.oracle + good_part by piece → LeavesWaiting s n piece (hearing_of by (read_of n.oracle))
left_by s n advance.Whole piece is read = tt
left_by s n (advance.Refused k) piece is read = tt
left_by s n (advance.PutOff k q) piece is read = (is.0, is.1, read)

-- where nothing is put off
pub behind_none : (S : List ℕ → Option ℕ → List ℕ → Type 0) (team : TeamState) (w text piece : List ℕ) (at : Option ℕ) (x y : List ℕ) → ReadMore S (TeamFollows team) w text piece at x y → ReadMore S (FollowsBehind (record { team = team; ahead = [] })) w text piece at x y
behind_none S team w text piece at x y r = record {
  more = r.more;
  written = r.written;
  says = r.says;
  follows = λ e. record { behind = w ++ piece; all = sym (append-nil (w ++ piece)); follows = r.follows e };
}

-- where the rest is
pub behind_some : (t : Teller) (team : TeamState) (w text piece rest : List ℕ) (count q : ℕ) (x y : List ℕ) → teller_in team ≡ t → rest ≡ drop count piece → CanWait team.oracle team.actor (drop count piece) q → ReadMore (SaysOf t) (TeamFollows team) w text (take count piece) None x y → ReadMore (SaysOf t) (FollowsBehind (record { team = team; ahead = rest })) w text piece None x y
behind_some t team w text piece rest count q x y same left waits r =
    let front = take count piece in
    let f = r.follows refl in
    let all : (w ++ front) ++ drop count piece ≡ w ++ piece = append_assoc w front (drop count piece) ∙ ap (λ l. w ++ l) (take-append-drop count piece) in
    let said = waits_say team.telling team.oracle team.actor (w ++ front) (drop count piece) (text ++ r.more) q f waits in
    record {
      more = r.more;
      written = r.written;
      says = subst (λ z. SaysOf z (w ++ piece) None (text ++ r.more)) same (subst (λ l. SaysOf (teller_in team) l None (text ++ r.more)) all said);
      follows = λ e. subst (λ l. FollowsBehind (record { team = team; ahead = l }) (w ++ piece) (text ++ r.more)) (sym left) (record { behind = w ++ front; all = sym all; follows = f });
    }

-- where a piece is put off too
pub behind_more : (team : TeamState) (ahead piece w text : List ℕ) (q r : ℕ) → CanWait team.oracle team.actor ahead q → TellsNoneOf team.oracle q r piece → FollowsBehind (record { team = team; ahead = ahead }) w text → SaysOf (teller_in team) (w ++ piece) None text × FollowsBehind (record { team = team; ahead = ahead ++ piece }) (w ++ piece) text
behind_more team ahead piece w text q r waits tells f =
    let all : w ++ piece ≡ f.behind ++ (ahead ++ piece) = ap (λ l. l ++ piece) f.all ∙ append_assoc f.behind ahead piece in (
      subst (λ l. SaysOf (teller_in team) l None text) (sym all) (waits_say team.telling team.oracle team.actor f.behind (ahead ++ piece) text r f.follows (waits_on team.oracle team.actor ahead piece q r waits tells)),
      record { behind = f.behind; all = all; follows = f.follows },
    )

-- where a byte of the piece is refused
pub refused_behind : (team : TeamState) (ahead piece w text : List ℕ) (q n : ℕ) → CanWait team.oracle team.actor ahead q → RefusesAfter team.oracle q piece n → FollowsBehind (record { team = team; ahead = ahead }) w text → SaysOf (teller_in team) (w ++ piece) (Some (read_of team.oracle + length ahead + n)) text
refused_behind team ahead piece w text q n waits stop f = by team.oracle waits stop f.follows
  where
    by : (o : Oracle) → CanWait o team.actor ahead q → RefusesAfter o q piece n → StageFollows team.telling o team.actor f.behind text → SaysOf (teller_in team) (w ++ piece) (Some (read_of o + length ahead + n)) text
    by (Paths p) waits stop s = absurd stop
    by (Table table) waits stop s =
        let k = team.telling in
        let a = team.actor in
        let g = a.machine in
        let front = take n piece in
        let v = w ++ front in
        let next = w ++ take (n + 1) piece in
        let code = s.followed.code in
        let all : (l : List ℕ) → f.behind ++ (ahead ++ l) ≡ w ++ l = λ l. sym (append_assoc f.behind ahead l) ∙ ap (λ z. z ++ l) (sym f.all) in
        let here = waits_say k (Table table) a f.behind (ahead ++ front) text stop.1.0 s (waits_on (Table table) a ahead front q stop.1.0 waits stop.1.1) in
        let said = subst (λ l. SaysOf (teller k g) l None text) (all front) here in
        let past = there table k g f.behind ahead code waits.said q s.followed.hears s.good waits.tells in
        let none : passes table.runner.table next ≡ None =
        ap (λ l. passes table.runner.table l) (sym (all (take (n + 1) piece)) ∙ sym (append_assoc f.behind ahead (take (n + 1) piece)))
        ∙ passes_more table.runner.table (Some (first_pass table.runner.table.initial)) (f.behind ++ ahead) (take (n + 1) piece)
        ∙ ap (λ o. passes_if table.runner.table o (take (n + 1) piece)) past.1
        ∙ stop.2 (code ++ waits.said) past.0 in
        let bad = s.followed.hears.1.stops next none in
        let long = ap length f.all ∙ length-append f.behind ahead in
        let at : table.runner.read + length ahead + n ≡ length v = omega (arith, s.count, long, length-append w front, length-take n piece, stop.0) in
        let one : length next ≡ length v + 1 = omega (arith, length-append w front, length-append w (take (n + 1) piece), length-take n piece, length-take (n + 1) piece, stop.0) in
        let rest : Begins (w ++ piece) next = (drop (n + 1) piece, ap (λ z. w ++ z) (sym (take-append-drop (n + 1) piece)) ∙ sym (append_assoc w (take (n + 1) piece) (drop (n + 1) piece))) in
        refuses (IsViableFor g) (SaysAs k g) (HasRun g) (MeansByRun g) (told_orderly k g) (w ++ piece) v next text (table.runner.read + length ahead + n) rest (more_taken w n piece) one at said.0 bad said.1

-- where what was put off is given first
pub behind_given : (S : List ℕ → Option ℕ → List ℕ → Type 0) (F : List ℕ → List ℕ → Type 0) (v w ahead piece text : List ℕ) (at : Option ℕ) (x y : List ℕ) → w ≡ v ++ ahead → ReadMore S F v text (ahead ++ piece) at x y → ReadMore S F w text piece at x y
behind_given S F v w ahead piece text at x y is r =
    let all : v ++ (ahead ++ piece) ≡ w ++ piece = sym (append_assoc v ahead piece) ∙ ap (λ l. l ++ piece) (sym is) in
    record {
      more = r.more;
      written = r.written;
      says = subst (λ l. S l at (text ++ r.more)) all r.says;
      follows = λ e. subst (λ l. F l (text ++ r.more)) all (r.follows e);
    }

pub if_ok : {A E : Type 0} {P Q : A → Type 0} (r : Result A E) → ((x : A) → P x → Q x) → IfOk r P → IfOk r Q
if_ok (Ok x) f p = f x p
if_ok (Err e) f p = tt

-- the end after bytes that were put off: they are given to the team first
pub finish_given : (team new : TeamState) (w bs text : List ℕ) (parsed : Bool) (x y z : List ℕ) → teller_in new ≡ teller_in team → ReadMore (SaysOf (teller_in team)) (TeamFollows new) w text bs None x y → ((u said : List ℕ) → TeamFollows new u said → CameToEnd (ClosesAs (teller_in new)) u said parsed y z) → CameToEnd (ClosesAs (teller_in team)) (w ++ bs) text parsed x z
finish_given team new w bs text parsed x y z same r ends =
    let e = ends (w ++ bs) (text ++ r.more) (r.follows refl) in
    record {
      more = r.more ++ e.more;
      written = e.written ∙ ap (λ l. l ++ e.more) r.written ∙ append_assoc x r.more e.more;
      closes = subst (λ t. ClosesAs t (w ++ bs) parsed (text ++ (r.more ++ e.more))) same (subst (λ l. ClosesAs (teller_in new) (w ++ bs) parsed l) (append_assoc text r.more e.more) e.closes);
    }

-- all of a piece was told of, where no byte was refused and none put off
pub heard_all : (s n : TeamState) (w text piece : List ℕ) (h : Hearing) (x y : List ℕ) → KeepsNone h → ((at : ℕ) → h ≡ Refused at → ⊥) → HasHeard s n w text piece h x y → ReadMore (SaysOf (teller_in s)) (TeamFollows n) w text piece None x y
heard_all s n w text piece Whole x y keeps none h = h
heard_all s n w text piece (Refused at) x y keeps none h = absurd (none at refl)
heard_all s n w text piece (PutOff k q) x y keeps none h = absurd keeps

-- none of them is refused
pub none_stops : (team new : TeamState) (w bs text : List ℕ) (q at : ℕ) (x y : List ℕ) → TeamFollows team w text → CanWait team.oracle team.actor bs q → ReadMore (SaysOf (teller_in team)) (TeamFollows new) w text bs (Some at) x y → ⊥
none_stops team new w bs text q at x y f waits r = r.says.0 (waits_say team.telling team.oracle team.actor w bs text q f waits).0

-- an oracle that is as before
still_hears : (k : Telling) (g : Graph) (o n : Oracle) (w : List ℕ) (c : List Symbol) → IsStill o n → Hears k g o w c → Hears k g n w c
still_hears k g (Paths p) (Paths q) w c is h = subst (λ z. Hears k g (Paths z) w c) (sym is) h
still_hears k g (Paths p) (Table f) w c is h = absurd is
still_hears k g (Table f) (Paths p) w c is h = absurd is
still_hears k g (Table f) (Table n) w c is h = (
  h.0,
  subst (λ r. IsTableAs k g r.table) (sym is.0) h.1,
  ap (λ m. m.table) is.1 ∙ h.2 ∙ ap (λ r. r.table) (sym is.0),
  subst (λ r. IsRunOf r w c) (sym is.0) h.3,
)

pub still_read : (o n : Oracle) → IsStill o n → read_of n ≡ read_of o
still_read (Paths p) (Paths q) is = ap (λ z. z.read) is
still_read (Paths p) (Table f) is = absurd is
still_read (Table f) (Paths p) is = absurd is
still_read (Table f) (Table n) is = ap (λ r. r.read) is.0

pub still_ready : (o n : Oracle) → IsStill o n → IsReady o → IsReady n
still_ready (Paths p) (Paths q) is r = subst (λ z. IsReady (Paths z)) (sym is) r
still_ready (Paths p) (Table f) is r = absurd is
still_ready (Table f) (Paths p) is r = absurd is
still_ready (Table f) (Table n) is r = (subst (λ z. IsTrue z.usable) (sym is.0) r.0, ap (λ z. z.ended) is.0 ∙ r.1)

pub still_waits : (s t : TeamState) (v : List ℕ) (q : ℕ) → IsStill s.oracle t.oracle → t.actor ≡ s.actor → CanWait s.oracle s.actor v q → CanWait t.oracle t.actor v q
still_waits s t v q is actor w = record {
  said = w.said;
  tells = would s.oracle t.oracle is w.tells;
  idle = subst (λ a. DoesNothing a w.said) (sym actor) w.idle;
}
  where
    would : (o n : Oracle) → IsStill o n → WouldTell o w.said v q → WouldTell n w.said v q
    would (Paths p) (Paths r) is h = absurd h
    would (Paths p) (Table f) is h = absurd is
    would (Table f) (Paths p) is h = absurd is
    would (Table f) (Table n) is h = subst (λ r. (r.pending ≡ []) × ((c : List Symbol) → (held : List (List Symbol)) × (passes_if r.table (Some (pass_at r.state c r.registers)) v ≡ Some (pass_at q (c ++ w.said) held)))) (sym is.0) h

pub still_follows : (s t : TeamState) (w text : List ℕ) → IsStill s.oracle t.oracle → t.actor ≡ s.actor → t.telling ≡ s.telling → TeamFollows s w text → TeamFollows t w text
still_follows s t w text is actor telling f =
    let d = f.followed in
    let here : StageFollows s.telling t.oracle s.actor w text = record {
      followed = record { code = d.code; hears = still_hears s.telling s.actor.machine s.oracle t.oracle w d.code is d.hears; performed = d.performed; machine = d.machine };
      count = still_read s.oracle t.oracle is ∙ f.count;
      good = f.good;
    } in
    subst (λ k. StageFollows k t.oracle t.actor w text) (sym telling) (subst (λ a. StageFollows s.telling t.oracle a w text) (sym actor) here)

-- nothing is written for a piece
pub reads_none_more : (S : List ℕ → Option ℕ → List ℕ → Type 0) (F : List ℕ → List ℕ → Type 0) (w piece text : List ℕ) (at : Option ℕ) (x : List ℕ) → S (w ++ piece) at text → (at ≡ None → F (w ++ piece) text) → ReadMore S F w text piece at x x
reads_none_more S F w piece text at x says follows = record {
  more = [];
  written = sym (append-nil x);
  says = subst (λ l. S (w ++ piece) at l) (sym (append-nil text)) says;
  follows = λ e. subst (λ l. F (w ++ piece) l) (sym (append-nil text)) (follows e);
}

-- the end after bytes that can't end
pub cannot_end_behind : (team : TeamState) (w bs text : List ℕ) (q : ℕ) (x : List ℕ) → TeamFollows team w text → CanWait team.oracle team.actor bs q → CannotEnd team.oracle q → CameToEnd (ClosesAs (teller_in team)) (w ++ bs) text false x x
cannot_end_behind team w bs text q x f waits cut =
    let said = waits_say team.telling team.oracle team.actor w bs text q f waits in
    let none = no_run team.telling team.oracle team.actor w bs text q f waits cut in
    record {
      more = [];
      written = sym (append-nil x);
      closes = subst (λ l. ClosesAs (teller_in team) (w ++ bs) false l) (sym (append-nil text)) (said.0, none, said.1);
    }
  where
    no_run : (k : Telling) (o : Oracle) (a : Position) (w bs text : List ℕ) (q : ℕ) → StageFollows k o a w text → CanWait o a bs q → CannotEnd o q → ¬ HasRun a.machine (w ++ bs)
    no_run k (Paths p) a w bs text q f waits cut = absurd cut
    no_run k (Table t) a w bs text q f waits cut = would_cut t k a.machine w bs f.followed.code waits.said q f.followed.hears f.good waits.tells cut
