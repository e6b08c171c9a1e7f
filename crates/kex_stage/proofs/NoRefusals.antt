-- The actor refuses nothing that the oracle tells.
use Rattle.std.proofs.Common.{◌≡◌, ℕ, true, false, Bool, List, [], ◌++◌, Option, Result, Ok, Err, IfErr, refl, sym, ap, subst, ◌∙◌, append-nil}
use Rattle.std.specs.Prelude.{IsErrAnd}
use Rattle.kex_code.specs.declared.symbol.Symbol.{Symbol}
use Rattle.kex_machine.specs.Nodes.{Graph}
use Rattle.kex_action.specs.Actors.{Position, BeginsRun}
use Rattle.kex_action.proofs.ActorRuns.{begins_front}
use Rattle.kex_moves.specs.Speech.{PerformsSaid, RefusesCode}
use Rattle.kex_pipe.specs.Working.{CameToEnd, ReadMore}
use Rattle.kex_runner.specs.Running.{pass_of}
use Rattle.kex_stage.specs.declared.follower.Follower.{Follower}
use Rattle.kex_stage.specs.declared.oracle.Oracle.{Oracle}
use Rattle.kex_stage.specs.declared.oracle.Oracle.TheVariants.{Table}
use Rattle.kex_plan.specs.declared.plan.Telling.{Telling}
use Rattle.kex_stage.specs.declared.speak.StageFault.{StageFault}
use Rattle.kex_stage.specs.declared.speak.StageFault.TheVariants as faults
use Rattle.kex_stage.specs.Oracles.{Agrees, Tells, TellsEnd, ShowsEnd}
use Rattle.kex_stage.specs.Works.{StageGoes, RefusesNone}
use Rattle.kex_plan.specs.Plans.{teller}
use Rattle.kex_stage.specs.Stages.{ClosesAs, SaysOf, StageFollows}
use Rattle.kex_stage.proofs.ByTable.{still_live, table_agrees}

-- a fault is a refusal or want of memory
pub by_fault : (fault : StageFault) → (fault ≡ faults.Refused → ⊥) → fault ≡ faults.Memory
by_fault faults.Refused h = absurd (h refl)
by_fault faults.Memory h = refl

-- what holds of a fault holds where it is passed on
pub if_fault : {T : Type 0} (r : Result T StageFault) (fault : StageFault) (Q : StageFault → Type 0) → IsErrAnd r (λ e. e ≡ fault) → Q fault → IfErr r Q
if_fault (Ok x) fault Q is h = tt
if_fault (Err e) fault Q is h = subst Q (sym is) h

-- what the oracle tells begins a run's code
told_begins : {k : Telling} {g : Graph} {w : List ℕ} {c : List Symbol} (a : Position) → a.machine ≡ g → Agrees k g w c → BeginsRun a.machine c
told_begins {c = c} a same h = subst (λ m. BeginsRun m c) (sym same) (h.run, h.runs, h.begins)

-- so it does at the end
pub end_begins : (parsed : Bool) (k : Telling) (g : Graph) (w : List ℕ) (c : List Symbol) (a : Position) → a.machine ≡ g → ShowsEnd parsed k g w c → BeginsRun a.machine c
end_begins true k g w c a same h =
    let path = h.greedy.2.reached in
    subst (λ m. BeginsRun m c) (sym same) (path.0, (h.greedy.0, path.1.walk, h.greedy.1), ([], path.2 ∙ sym (append-nil c)))
end_begins false k g w c a same h = told_begins a same h.1

-- what is put after nothing
put_behind : (start code symbols more : List Symbol) → start ≡ [] → symbols ≡ code → code ≡ start ++ more → symbols ≡ more
put_behind start code symbols more none same e = same ∙ e ∙ ap (λ z. z ++ more) none

-- the actor refuses nothing that the oracle tells of a piece
pub told_none : (o new : Oracle) (a : Position) (piece : List ℕ) (count : ℕ) (start code symbols : List Symbol) (fault : StageFault) → start ≡ [] → symbols ≡ code → Tells o new piece count start code → (fault ≡ faults.Refused → RefusesCode a symbols) → RefusesNone o a fault
told_none o new a piece count start code symbols fault none same h refuses = λ k g w text f v.
    let x = h.tells k g w f.code f.hears v in
    let begins = subst (λ z. BeginsRun a.machine (f.code ++ z)) (sym (put_behind start code symbols h.more none same h.code)) (told_begins a f.machine x.agrees) in
    by_fault fault (λ e. refuses e f.code f.code text f.performed begins)

-- or at the end
pub end_none : (parsed : Bool) (o : Oracle) (a : Position) (start code symbols : List Symbol) (fault : StageFault) → start ≡ [] → symbols ≡ code → TellsEnd parsed o start code → (fault ≡ faults.Refused → RefusesCode a symbols) → RefusesNone o a fault
end_none parsed o a start code symbols fault none same h refuses = λ k g w text f v.
    let x = h.tells k g w f.code f.hears v in
    let begins = subst (λ z. BeginsRun a.machine (f.code ++ z)) (sym (put_behind start code symbols h.more none same h.code)) (end_begins parsed k g w (f.code ++ h.more) a f.machine x) in
    by_fault fault (λ e. refuses e f.code f.code text f.performed begins)

-- where the oracle tells nothing the actor refuses nothing
pub rest_none : (f : Follower) (a : Position) (fault : StageFault) → (fault ≡ faults.Refused → RefusesCode a []) → RefusesNone (Table f) a fault
rest_none f a fault refuses = λ k g w text fol v.
    let h = fol.hears in
    let c = fol.code in
    let live = still_live k g f.runner.table h.0 h.1 f.runner w c refl h.3 v in
    let told = told_begins a fol.machine (table_agrees k g f.runner.table h.0 h.1 w (pass_of f.runner c) live.passes) in
    let begins = begins_front a.machine (c ++ []) (c ++ f.runner.pending) told (f.runner.pending, ap (λ z. z ++ f.runner.pending) (sym (append-nil c))) in
    by_fault fault (λ e. refuses e c c text fol.performed begins)

-- nor after what it performed of that
pub past_none : (o new : Oracle) (a b : Position) (piece : List ℕ) (count : ℕ) (said : List Symbol) (before after : List ℕ) (fault : StageFault) → b.machine ≡ a.machine → Tells o new piece count [] said → PerformsSaid a b said before after → (fault ≡ faults.Refused → RefusesCode b []) → RefusesNone o a fault
past_none o new a b piece count said before after fault mb h p refuses = λ k g w text f v.
    let x = h.tells k g w f.code f.hears v in
    let begins = subst (λ z. BeginsRun a.machine (f.code ++ z)) (sym h.code) (told_begins a f.machine x.agrees) in
    let went = p f.code f.code text f.performed begins in
    let code = f.code ++ said in
    let still = subst (λ z. BeginsRun b.machine z) (sym (append-nil code)) (subst (λ m. BeginsRun m code) (sym mb) begins) in
    by_fault fault (λ e. refuses e code code (text ++ went.more) (went.performed f.code f.code text f.performed) still)

-- nothing is refused after a front that both went along
pub none_on : (o m : Oracle) (a b : Position) (p before after : List ℕ) (fault : StageFault) → StageGoes o m a b p before after → RefusesNone m b fault → RefusesNone o a fault
none_on o m a b p before after fault goes none = λ k g w text f v.
    let h = goes.goes k g w text f v in
    none k g (w ++ p) (text ++ h.more) h.followed h.good

-- what a worker answers of a piece
abbrev pub Reads : Telling → Oracle → Oracle → Position → Position → List ℕ → List ℕ → List ℕ → Option ℕ → Type 0
Reads k o new a b before after piece at = (w text : List ℕ) → StageFollows k o a w text → ReadMore (SaysOf (teller k a.machine)) (StageFollows k new b) w text piece at before after

-- and of the end
abbrev pub Ends : Telling → Oracle → Position → List ℕ → List ℕ → Bool → Type 0
Ends k o a before after parsed = (w text : List ℕ) → StageFollows k o a w text → CameToEnd (ClosesAs (teller k a.machine)) w text parsed before after

-- a refusal comes of no text that is followed
pub not_refused : (k : Telling) (o : Oracle) (a : Position) → RefusesNone o a faults.Refused → (w text : List ℕ) → StageFollows k o a w text → ⊥
not_refused k o a none w text f = let bad : faults.Refused ≡ faults.Memory = none k a.machine w text f.followed f.good in cc

pub reads_none : (k : Telling) (o new : Oracle) (a b : Position) (before after piece : List ℕ) (at : Option ℕ) → RefusesNone o a faults.Refused → Reads k o new a b before after piece at
reads_none k o new a b before after piece at none = λ w text f. absurd (not_refused k o a none w text f)

pub ends_none : (k : Telling) (o : Oracle) (a : Position) (before after : List ℕ) (parsed : Bool) → RefusesNone o a faults.Refused → Ends k o a before after parsed
ends_none k o a before after parsed none = λ w text f. absurd (not_refused k o a none w text f)
