-- A block goes through front by front, and what is said of each is written.
use Rattle.std.proofs.Common.{◌≡◌, ◌++◌, ℕ, List, Bool, false, refl, sym, ap, subst, ◌∙◌, take, drop, length, ◌≤◌, ◌-◌, append_assoc, arith}
use Rattle.std.specs.Prelude.{Option, Some, None}
use Rattle.std.specs.Io.KnownBytes.{Appends}
use Rattle.std.proofs.lemmas.List.{length-drop, take_all, take-append-drop}
use Rattle.kex_ports.specs.Bytes.{AppendsFront, IsPrefix}
use Rattle.kex_ports.proofs.Known.{appends-then, front-then, front-more}
use Rattle.kex_pipe.specs.declared.turn.Fate.{Fate}
use Rattle.kex_pipe.specs.declared.turn.Turn.{Ghosts}
use Rattle.kex_pipeline.specs.Sayings.{Said, AlwaysSays}
use Rattle.kex_pipeline.specs.Fronts.{IsFront}
use Rattle.kex_pipeline.specs.History.{FeedsStages, History, IsSaidSoFar, WritesSaid, WritesEarly, WritesSaidFront, bytes_passed, is_history_ended, history_text}
use Rattle.kex_pipeline.specs.Piped.{PipeSays, PipeStands, plans_of}
use Rattle.kex_pipeline.specs.declared.any_pipe.AnyPipe.{AnyPipe}
use Rattle.kex_pipeline.specs.declared.rounds.Pace.{Pace}
use Rattle.kex_pipeline.specs.declared.rounds.Pace.TheVariants.{Blocks, Parts}

pub what-is-left : (xs : List ℕ) (n : ℕ) → n ≤ length xs → take (length xs - n) (drop n xs) ≡ drop n xs
what-is-left xs n le = take_all (length xs - n) (drop n xs) (let long = length-drop n xs in omega arith)

-- what an open pipe stands for was said
pub said-open : {T : Type 0} (t : Ghosts T) (pipe : AnyPipe T t) (h : History) → PipeStands t pipe h → is_history_ended h ≡ false → IsSaidSoFar (PipeSays t (plans_of t pipe)) h
said-open t pipe None s is_open = tt
said-open t pipe (Some f) s is_open = subst (λ e. PipeSays t (plans_of t pipe) f.bytes e f.said) is_open s.says

-- of w all but the rest was said, and what wasn't said at h was written
pub record Passing (stands : History → Type 0) (h : History) (w rest : List ℕ) (old mid : Option (List ℕ)) : Type 0 where
  pub now : History
  pub stands_for : stands now
  pub is_open : is_history_ended now ≡ false
  pub cut : w ≡ bytes_passed now ++ rest
  pub added : List ℕ
  pub whole : history_text now ≡ history_text h ++ added
  pub appended : Appends old mid added

module _ (says : List ℕ → Bool → Said → Type 0) (stands : History → Type 0) (h : History) (w rest : List ℕ) (old mid : Option (List ℕ)) (p : Passing stands h w rest old mid) where
  -- where memory is wanted then
  pub wanted : IsSaidSoFar says p.now → WritesEarly says h w old mid
  wanted said = record { now = p.now; rest = rest; cut = p.cut; is_said = said; added = p.added; whole = p.whole; appended = p.appended }

  module _ (then : History → Type 0) (n : ℕ) (out : List ℕ) (fate : Fate) (x : FeedsStages says then p.now (bytes_passed p.now ++ take n rest) false out fate) (new : Option (List ℕ)) where
    text : x.said.text ≡ history_text h ++ (p.added ++ out)
    text = x.whole ∙ ap (λ (z : List ℕ). z ++ out) p.whole ∙ append_assoc (history_text h) p.added out

    cut : w ≡ (bytes_passed p.now ++ take n rest) ++ drop n rest
    cut = p.cut ∙ ap (λ z. bytes_passed p.now ++ z) (sym (take-append-drop n rest)) ∙ sym (append_assoc (bytes_passed p.now) (take n rest) (drop n rest))

    -- a front more
    pub front-passed : Appends mid new out → Passing then h w (drop n rest) old new
    front-passed appended = record {
      now = Some (record { bytes = bytes_passed p.now ++ take n rest; ended = false; said = x.said });
      stands_for = x.stands_for;
      is_open = refl;
      cut = cut;
      added = p.added ++ out;
      whole = text;
      appended = appends-then old mid new p.added out p.appended appended;
    }

    all : n ≡ length rest → bytes_passed p.now ++ take n rest ≡ w
    all is = ap (λ z. bytes_passed p.now ++ z) (take_all n rest (omega (arith, is))) ∙ sym p.cut

    -- the last one
    pub all-passed : n ≡ length rest → Appends mid new out → WritesSaid says then h w false old new fate
    all-passed is appended = subst (λ z. WritesSaid says then h z false old new fate) (all is) (record {
      said = x.said;
      is_said = x.is_said;
      stands_for = x.stands_for;
      added = p.added ++ out;
      whole = text;
      appended = appends-then old mid new p.added out p.appended appended;
      is_fate = x.is_fate;
    })

    -- where the sink fails then: what is said of a front begins what is said of the whole
    pub failed : (pace : Pace) → IsFront pace rest n → (pace ≡ Parts → AlwaysSays says) → ((v u : List ℕ) (e : Bool) (a b : Said) → says v false a → says (v ++ u) e b → IsPrefix a.text b.text) → AppendsFront mid new out → WritesSaidFront says h w false old new
    failed Blocks front always grows f =
        subst (λ z. WritesSaidFront says h z false old new) (all (front.whole refl)) (record { said = x.said; is_said = x.is_said; added = p.added ++ out; whole = text; appended = front-then old mid new p.added out p.appended f })
    failed Parts front always grows f =
        let (said, is_said) = always refl w false in
        let v = bytes_passed p.now ++ take n rest in
        let begins = grows v (drop n rest) false x.said said x.is_said (subst (λ z. says z false said) cut is_said) in
        record {
          said = said;
          is_said = is_said;
          added = (p.added ++ out) ++ begins.rest;
          whole = begins.joined ∙ ap (λ (z : List ℕ). z ++ begins.rest) text ∙ append_assoc (history_text h) (p.added ++ out) begins.rest;
          appended = front-more old new (p.added ++ out) begins.rest (front-then old mid new p.added out p.appended f);
        }
