-- An oracle and an actor that go on in several steps.
use Rattle.std.proofs.Common.{◌≡◌, ℕ, zero, suc, ◌<◌, ◌≤◌, ◌+◌, ◌-◌, Bool, true, false, List, [], ◌∷◌, ◌++◌, Some, length, take, drop, refl, sym, ap, ap₂, subst, ◌∙◌, append_assoc, append-nil, arith, length-append, take-append-drop}
use Rattle.std.proofs.Math.Seq.{drop-drop}
use Rattle.std.proofs.lemmas.List.{length-take-le, take_rest}
use Rattle.std.proofs.lemmas.Option.{slice_get_within}
use Rattle.kex_code.specs.declared.symbol.Symbol.{Symbol}
use Rattle.kex_machine.specs.Answers.{IsViableFor}
use Rattle.kex_action.specs.Actors.{Position, HasPerformed, BeginsRun, IsSettled, TookAll}
use Rattle.kex_sst.specs.Tables.{Transducer}
use Rattle.kex_sst.specs.Passes.{passes}
use Rattle.kex_moves.specs.Along.{RunsOn, IsBareState, bare}
use Rattle.kex_runner.specs.Running.{IsRunOf}
use Rattle.kex_runner.specs.Following.{IsTablePlace, pass_at}
use Rattle.kex_stage.specs.declared.follower.Follower.{Follower}
use Rattle.kex_stage.specs.declared.oracle.Oracle.{Oracle}
use Rattle.kex_stage.specs.declared.oracle.Oracle.TheVariants.{Table}
use Rattle.kex_plan.specs.Plans.{IsTableAs, SaysAs}
use Rattle.kex_stage.specs.Oracles.{Agrees}
use Rattle.kex_stage.specs.Works.{Followed, StageWorks, StageGoes}
use Rattle.kex_stage.specs.Strides.{GoesOnBy, HasGone, HasStrode, LeavesNone, after_more, strode}
use Rattle.kex_stage.specs.declared.strides.Stride.{Stride}
use Rattle.kex_stage.specs.declared.strides.Stride.TheVariants.{On, Refused, PutOff}
use Rattle.kex_stage.proofs.OracleAnswers as answers
use Rattle.kex_stage.proofs.OracleAnswers.{says}
use Rattle.kex_stage.proofs.ByTable.{still_live, table_agrees, table_told}
use Rattle.kex_stage.proofs.ToldCodes.{viable_told}

-- nothing is done
pub goes_nowhere : (o : Oracle) (a : Position) (out : List ℕ) → StageGoes o o a a [] out out
goes_nowhere o a out = record {
  goes = λ tell g w text f v. record {
    more = [];
    written = sym (append-nil out);
    followed = subst (λ z. Followed tell g o a z (text ++ [])) (sym (append-nil w)) (subst (λ z. Followed tell g o a w z) (sym (append-nil text)) f);
    good = subst (λ z. IsViableFor g z) (sym (append-nil w)) v;
  };
}

pub goes_more : (o m n : Oracle) (a b c : Position) (p q x y z : List ℕ) → StageGoes o m a b p x y → StageGoes m n b c q y z → StageGoes o n a c (p ++ q) x z
goes_more o m n a b c p q x y z first then = record {
  goes = λ tell g w text f v.
      let h = first.goes tell g w text f v in
      let k = then.goes tell g (w ++ p) (text ++ h.more) h.followed h.good in
      record {
        more = h.more ++ k.more;
        written = k.written ∙ ap (λ u. u ++ k.more) h.written ∙ append_assoc x h.more k.more;
        followed = subst (λ u. Followed tell g n c u (text ++ (h.more ++ k.more))) (append_assoc w p q) (subst (λ u. Followed tell g n c ((w ++ p) ++ q) u) (append_assoc text h.more k.more) k.followed);
        good = subst (λ u. IsViableFor g u) (append_assoc w p q) k.good;
      };
}

take_past : (p q : List ℕ) (k : ℕ) → take (length p + k) (p ++ q) ≡ p ++ take k q
take_past [] q k = let e : 0 + k ≡ k = omega arith in ap (λ z. take z q) e
take_past (b ∷ p) q k = let e : suc (length p) + k ≡ suc (length p + k) = omega arith in ap (λ z. take z (b ∷ (p ++ q))) e ∙ ap (λ z. b ∷ z) (take_past p q k)

take_front : (p q : List ℕ) (k : ℕ) → k ≤ length p → take k (p ++ q) ≡ take k p
take_front [] q zero le = refl
take_front [] q (suc k) le = absurd (omega arith)
take_front (b ∷ p) q zero le = refl
take_front (b ∷ p) q (suc k) le = ap (λ z. b ∷ z) (take_front p q k (omega arith))

-- and of the next a byte is refused
pub works_more : (o m n : Oracle) (a b c : Position) (p q : List ℕ) (count : ℕ) (x y z : List ℕ) → StageGoes o m a b p x y → StageWorks m n b c q count y z → count < length q → StageWorks o n a c (p ++ q) (length p + count) x z
works_more o m n a b c p q count x y z first then lt = record {
  within = omega (arith, length-append p q, then.within);
  works = λ tell g w text f v.
      let h = first.goes tell g w text f v in
      let k = then.works tell g (w ++ p) (text ++ h.more) h.followed h.good in
      let at : (i : ℕ) → (w ++ p) ++ take i q ≡ w ++ take (length p + i) (p ++ q) = λ i. append_assoc w p (take i q) ∙ ap (λ u. w ++ u) (sym (take_past p q i)) in
      let next : length p + (count + 1) ≡ (length p + count) + 1 = omega arith in
      record {
        more = h.more ++ k.more;
        written = k.written ∙ ap (λ u. u ++ k.more) h.written ∙ append_assoc x h.more k.more;
        followed = λ e. absurd (omega (arith, e, length-append p q, lt));
        good = subst (λ u. IsViableFor g u) (at count) k.good;
        bad = λ _. subst (λ u. ¬ IsViableFor g u) (at (count + 1) ∙ ap (λ i. w ++ take i (p ++ q)) next) (k.bad lt);
        says = subst (λ u. SaysAs tell g u (text ++ (h.more ++ k.more))) (at count) (subst (λ u. SaysAs tell g ((w ++ p) ++ take count q) u) (append_assoc text h.more k.more) k.says);
      };
}

-- what comes after a byte that is refused doesn't matter
pub works_longer : (o n : Oracle) (a b : Position) (p rest : List ℕ) (count : ℕ) (x y : List ℕ) → count < length p → StageWorks o n a b p count x y → StageWorks o n a b (p ++ rest) count x y
works_longer o n a b p rest count x y lt h = record {
  within = omega (arith, length-append p rest, lt);
  works = λ tell g w text f v.
      let k = h.works tell g w text f v in
      record {
        more = k.more;
        written = k.written;
        followed = λ e. absurd (omega (arith, e, length-append p rest, lt));
        good = subst (λ u. IsViableFor g (w ++ u)) (sym (take_front p rest count (omega (arith, lt)))) k.good;
        bad = λ _. subst (λ u. ¬ IsViableFor g (w ++ u)) (sym (take_front p rest (count + 1) (omega (arith, lt)))) (k.bad lt);
        says = subst (λ u. SaysAs tell g (w ++ u) (text ++ k.more)) (sym (take_front p rest count (omega (arith, lt)))) k.says;
      };
}

-- at the end the actor does what needs no symbol
pub settles : (o : Oracle) (f : Follower) (a b c : Position) (p x y z : List ℕ) → f.runner.pending ≡ [] → StageGoes o (Table f) a b p x y → TookAll b c [] y z → c.machine ≡ b.machine → StageWorks o (Table f) a c p (length p) x z
settles o f a b c p x y z none first took mc = record {
  within = omega arith;
  works = λ tell g w text fol v.
      let h = first.goes tell g w text fol v in
      let d = h.followed in
      let done : HasPerformed c d.code d.code ((text ++ h.more) ++ took.went.more) = subst (λ u. HasPerformed c u u ((text ++ h.more) ++ took.went.more)) (append-nil d.code) (took.went.performed d.code d.code (text ++ h.more) d.performed) in
      let told = table_told f tell g (w ++ p) d.code none d.hears h.good in
      let said = says g c (mc ∙ d.machine) took.settled d.code ((text ++ h.more) ++ took.went.more) done (w ++ p) told in
      record {
        more = h.more ++ took.went.more;
        written = took.went.written ∙ ap (λ u. u ++ took.went.more) h.written ∙ append_assoc x h.more took.went.more;
        followed = λ e. record { code = d.code; hears = d.hears; performed = subst (λ u. HasPerformed c d.code d.code u) (append_assoc text h.more took.went.more) done; machine = mc ∙ d.machine };
        good = subst (λ u. IsViableFor g (w ++ u)) (sym (answers.take_all p)) h.good;
        bad = λ lt. absurd (omega (arith, lt));
        says = subst (λ u. SaysAs tell g (w ++ u) (text ++ (h.more ++ took.went.more))) (sym (answers.take_all p)) (subst (λ u. SaysAs tell g (w ++ p) u) (append_assoc text h.more took.went.more) said);
      };
}

-- table and actor run on at once
pub runs_go : (f new : Follower) (a b : Position) (q count : ℕ) (bs before after : List ℕ) → f.runner.pending ≡ [] → f.runner.registers ≡ [] → new.moves ≡ f.moves → new.runner.table ≡ f.runner.table → b.machine ≡ a.machine → length bs ≡ count → RunsOn f.moves.table a b f.runner.state q bs before after → ((w v : List ℕ) (c d : List Symbol) → IsRunOf f.runner w c → length v ≡ count → passes f.runner.table (w ++ v) ≡ Some (pass_at q (c ++ d) []) → IsRunOf new.runner (w ++ v) (c ++ d)) → StageGoes (Table f) (Table new) a b bs before after
runs_go f new a b q count bs before after none no_registers moves table mb long r stands = record {
  goes = λ tell g w text fol v.
      let h = fol.hears in
      let live = still_live tell g f.runner.table h.0 h.1 f.runner w fol.code refl h.3 v in
      let here : passes f.runner.table w ≡ Some (bare f.runner.state fol.code) = live.passes ∙ ap₂ (λ c rs. Some (pass_at f.runner.state c rs)) (ap (λ z. fol.code ++ z) none ∙ append-nil fol.code) no_registers in
      let there : passes f.runner.table (w ++ bs) ≡ Some (bare q (fol.code ++ r.said)) = subst (λ t. passes t (w ++ bs) ≡ Some (bare q (fol.code ++ r.said))) h.2 (r.passed w fol.code (subst (λ t. passes t w ≡ Some (bare f.runner.state fol.code)) (sym h.2) here)) in
      let ag : Agrees tell g (w ++ bs) (fol.code ++ r.said) = table_agrees tell g f.runner.table h.0 h.1 (w ++ bs) (bare q (fol.code ++ r.said)) there in
      let begins : BeginsRun a.machine (fol.code ++ r.said) = subst (λ m. BeginsRun m (fol.code ++ r.said)) (sym fol.machine) (ag.run, ag.runs, ag.begins) in
      let went = r.went fol.code fol.code text fol.performed begins in
      record {
        more = went.more;
        written = went.written;
        followed = record {
          code = fol.code ++ r.said;
          hears = (h.0, subst (λ t. IsTableAs tell g t) (sym table) h.1, ap (λ z. z.table) moves ∙ h.2 ∙ sym table, stands w bs fol.code r.said h.3 long there);
          performed = went.performed fol.code fol.code text fol.performed;
          machine = mb ∙ fol.machine;
        };
        good = viable_told tell g (w ++ bs) (fol.code ++ r.said) ag.told;
      };
}

-- a part is run, and a part after it is read
pub strides : (refused : Bool) (o m n : Oracle) (a b c : Position) (piece next rest : List ℕ) (ran count : ℕ) (x y z : List ℕ) → piece ≡ take ran piece ++ (next ++ rest) → ran ≤ length piece → StageGoes o m a b (take ran piece) x y → HasGone refused m n b c next count y z → HasGone refused o n a c piece (ran + count) x z
strides true o m n a b c piece next rest ran count x y z is le first then =
    let lt : count < length next = then.0 in
    let long : length (take ran piece) ≡ ran = length-take-le ran piece le in
    let all : (take ran piece ++ next) ++ rest ≡ piece = append_assoc (take ran piece) next rest ∙ sym is in
    let done = works_longer o n a c (take ran piece ++ next) rest (length (take ran piece) + count) x z (omega (arith, length-append (take ran piece) next, lt)) (works_more o m n a b c (take ran piece) next count x y z first then.1 lt) in (
      omega (arith, ap length is, length-append (take ran piece) (next ++ rest), length-append next rest, long, lt),
      subst (λ k. StageWorks o n a c piece (k + count) x z) long (subst (λ p. StageWorks o n a c p (length (take ran piece) + count) x z) all done),
    )
strides false o m n a b c piece next rest ran count x y z is le first then =
    let long : length (take ran piece) ≡ ran = length-take-le ran piece le in
    let both : take ran piece ++ take count next ≡ take (ran + count) piece =
    ap (λ u. take ran piece ++ u) (sym (take_front next rest count then.0))
    ∙ sym (take_past (take ran piece) (next ++ rest) count)
    ∙ ap (λ i. take (i + count) (take ran piece ++ (next ++ rest))) long
    ∙ ap (λ u. take (ran + count) u) (sym is) in (
      omega (arith, ap length is, length-append (take ran piece) (next ++ rest), length-append next rest, long, then.0),
      subst (λ p. StageGoes o n a c p x z) both (goes_more o m n a b c (take ran piece) (take count next) x y z first then.1),
    )

-- the front of a piece is read: all of it is good, or a byte of it is refused
pub fronts : (refused : Bool) (o n : Oracle) (a b : Position) (piece : List ℕ) (taken count : ℕ) (x y : List ℕ) → taken ≤ length piece → HasGone refused o n a b (take taken piece) count x y → HasGone refused o n a b piece count x y
fronts true o n a b piece taken count x y le h =
    let long = length-take-le taken piece le in
    (omega (arith, h.0, long, le), subst (λ p. StageWorks o n a b p count x y) (take-append-drop taken piece) (works_longer o n a b (take taken piece) (drop taken piece) count x y h.0 h.1))
fronts false o n a b piece taken count x y le h =
    let long = length-take-le taken piece le in
    (omega (arith, h.0, long, le), subst (λ p. StageGoes o n a b p x y) (sym (take_front (take taken piece) (drop taken piece) count h.0) ∙ ap (λ p. take count p) (take-append-drop taken piece)) h.1)

-- the actor does what needs no symbol
pub rests : (o : Oracle) (a b : Position) (x y : List ℕ) → TookAll a b [] x y → b.machine ≡ a.machine → StageGoes o o a b [] x y
rests o a b x y took mb = record {
  goes = λ tell g w text f v.
      let done : HasPerformed b f.code f.code (text ++ took.went.more) = subst (λ u. HasPerformed b u u (text ++ took.went.more)) (append-nil f.code) (took.went.performed f.code f.code text f.performed) in
      record {
        more = took.went.more;
        written = took.went.written;
        followed = subst (λ z. Followed tell g o b z (text ++ took.went.more)) (sym (append-nil w)) (record { code = f.code; hears = f.hears; performed = done; machine = mb ∙ f.machine });
        good = subst (λ z. IsViableFor g z) (sym (append-nil w)) v;
      };
}

-- so it does after bytes that were gone along
pub goes_rested : (o m : Oracle) (a b c : Position) (p x y z : List ℕ) → StageGoes o m a b p x y → StageGoes m m b c [] y z → StageGoes o m a c p x z
goes_rested o m a b c p x y z first then = subst (λ l. StageGoes o m a c l x z) (append-nil p) (goes_more o m m a b c p [] x y z first then)

-- of no bytes none is refused, and none put off
pub none_gone : (s : Stride) (o n : Oracle) (a b : Position) (x y : List ℕ) → LeavesNone s → HasStrode s o n a b [] x y → StageGoes o n a b [] x y × (strode s ≡ 0)
none_gone (On zero) o n a b x y none h = (h.1, refl)
none_gone (On (suc k)) o n a b x y none h = absurd (omega (arith, h.0))
none_gone (Refused k) o n a b x y none h = absurd (omega (arith, h.0))
none_gone (PutOff k q) o n a b x y none h = absurd none

-- a stride after a part that was run
pub strides_on : (s : Stride) (o m n : Oracle) (a b c : Position) (piece next rest : List ℕ) (ran : ℕ) (x y z : List ℕ) → piece ≡ take ran piece ++ (next ++ rest) → ran ≤ length piece → LeavesNone s → StageGoes o m a b (take ran piece) x y → HasStrode s m n b c next y z → HasStrode (after_more ran s) o n a c piece x z
strides_on (On k) o m n a b c piece next rest ran x y z is le none first then = strides false o m n a b c piece next rest ran k x y z is le first then
strides_on (Refused k) o m n a b c piece next rest ran x y z is le none first then = strides true o m n a b c piece next rest ran k x y z is le first then
strides_on (PutOff k q) o m n a b c piece next rest ran x y z is le none first then = absurd none

pub strode_on : (s : Stride) (k : ℕ) → strode (after_more k s) ≡ k + strode s
strode_on (On n) k = refl
strode_on (Refused n) k = refl
strode_on (PutOff n q) k = refl

pub leaves_on : (s : Stride) (k : ℕ) → LeavesNone s → LeavesNone (after_more k s)
leaves_on (On n) k h = tt
leaves_on (Refused n) k h = tt
leaves_on (PutOff n q) k h = absurd h

pub on_by_more : (s : Stride) (k : ℕ) → (k ≡ 0 → GoesOnBy s) → GoesOnBy (after_more k s)
on_by_more (On zero) zero h = h refl
on_by_more (On (suc n)) zero h = omega arith
on_by_more (On n) (suc k) h = omega arith
on_by_more (Refused n) k h = tt
on_by_more (PutOff n q) k h = tt

-- what is left of a piece after a part of what was left
pub rest_after : (piece : List ℕ) (at count : ℕ) → drop count (take (length piece - at) (drop at piece)) ≡ drop (at + count) piece
rest_after piece at count = ap (drop count) (take_rest piece at) ∙ drop-drop count at piece

-- a piece in two, as the code cuts it
pub cut_at : (piece : List ℕ) (at : ℕ) → take at piece ++ take (length piece - at) (drop at piece) ≡ piece
cut_at piece at = ap (λ u. take at piece ++ u) (take_rest piece at) ∙ take-append-drop at piece

pub taken_both : (piece : List ℕ) (at count : ℕ) → at ≤ length piece → take at piece ++ take count (take (length piece - at) (drop at piece)) ≡ take (at + count) piece
taken_both piece at count le =
    sym (take_past (take at piece) (take (length piece - at) (drop at piece)) count)
    ∙ ap (λ i. take (i + count) (take at piece ++ take (length piece - at) (drop at piece))) (length-take-le at piece le)
    ∙ ap (λ u. take (at + count) u) (cut_at piece at)

pub none_held : (b : Bool) (registers : List (List Symbol)) → b ≡ false → (0 < length registers → b ≡ true) → registers ≡ []
none_held b [] e h = refl
none_held b (x ∷ xs) e h = let bad : false ≡ true = sym e ∙ h (omega arith) in absurd (cc)

-- a place of a table without registers is a state that has none
pub bare_place : (t : Transducer) (q : ℕ) (registers : List (List Symbol)) → registers ≡ [] → IsTablePlace t q registers → IsBareState t q
bare_place t q registers none h =
    let p = subst (λ rs. IsTablePlace t q rs) none h in
    record { row = p.row; at = p.at; count = p.count }

pub place_within : (t : Transducer) (q : ℕ) (registers : List (List Symbol)) → IsTablePlace t q registers → q < length t.states
place_within t q registers p = slice_get_within t.states q p.row p.at

-- and the other way
pub place_bare : (t : Transducer) (q : ℕ) → IsBareState t q → IsTablePlace t q []
place_bare t q p = record { row = p.row; at = p.at; count = p.count }

-- no symbol is given to an actor that is settled
took_none : (b : Position) (y : List ℕ) → IsSettled b → TookAll b b [] y y
took_none b y settled = record {
  went = record {
    more = [];
    written = sym (append-nil y);
    performed = λ given code out h. subst (λ l. HasPerformed b (given ++ []) (code ++ []) l) (sym (append-nil out)) (subst (λ l. HasPerformed b (given ++ []) l out) (sym (append-nil code)) (subst (λ l. HasPerformed b l code out) (sym (append-nil given)) h));
  };
  settled = settled;
  good = λ g c out p i lt. absurd (omega (arith, lt));
}

-- what is said of a front of a piece, where all was done that needs no symbol
pub front_works : (o : Oracle) (f : Follower) (a b : Position) (piece : List ℕ) (count : ℕ) (x y : List ℕ) → count ≤ length piece → f.runner.pending ≡ [] → IsSettled b → StageGoes o (Table f) a b (take count piece) x y → StageWorks o (Table f) a b (take count piece) count x y
front_works o f a b piece count x y le none settled goes = subst (λ n. StageWorks o (Table f) a b (take count piece) n x y) (length-take-le count piece le) (settles o f a b b (take count piece) x y y none goes (took_none b y settled) refl)
