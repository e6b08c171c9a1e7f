-- A worker that writes the code, by a piece, or the end.
use Rattle.std.proofs.Common.{◌≡◌, ℕ, ◌+◌, Bool, List, ◌++◌, Option, Some, None, length, take, drop, true, false, refl, sym, ap, subst, ◌∙◌, append_assoc, arith, length-append, length-take, take-append-drop}
use Rattle.std.specs.Prelude.{Result, Ok, Err, IfOk}
use Rattle.kex_code.specs.declared.symbol.Symbol.{Symbol}
use Rattle.kex_code.specs.Codes.{Begins}
use Rattle.kex_code.specs.Texts.{text_of as code_text}
use Rattle.kex_code.proofs.Texts.{text_of-append}
use Rattle.kex_model.proofs.OpenAnswers.{shorter_front}
use Rattle.kex_machine.specs.Nodes.{Graph}
use Rattle.kex_machine.specs.Answers.{IsViableFor, HasRun}
use Rattle.kex_pipe.specs.Working.{CameToEnd, ClosesParsed, ReadMore, SaysViable}
use Rattle.kex_pipe.proofs.ViableAnswers.{refuses}
use Rattle.kex_single.specs.Singles.{MeansRunCode, SaysSharedCode}
use Rattle.kex_single.specs.Standing.{place_of}
use Rattle.kex_single.specs.Told.{CodeFollows, TellsLast, TellsMore}
use Rattle.kex_single.specs.declared.code_oracle.CodeOracle.{CodeOracle}
use Rattle.kex_single.specs.CodeLaws.{orderly}

pub front_of : (k : ℕ) (w xs : List ℕ) → Begins (w ++ xs) (w ++ take k xs)
front_of k w xs = (drop k xs, ap (λ z. w ++ z) (sym (take-append-drop k xs)) ∙ sym (append_assoc w (take k xs) (drop k xs)))

pub more_taken : (k : ℕ) (w xs : List ℕ) → Begins (w ++ take (k + 1) xs) (w ++ take k xs)
more_taken k w xs =
    shorter_front (w ++ xs) (w ++ take k xs) (w ++ take (k + 1) xs) (front_of k w xs) (front_of (k + 1) w xs)
    (omega (arith, length-append w (take k xs), length-append w (take (k + 1) xs), length-take k xs, length-take (k + 1) xs))

module _ (g : Graph) where
  abbrev pub SaysIts : List ℕ → Option ℕ → List ℕ → Type 0
  SaysIts w at text = SaysViable (IsViableFor g) (SaysSharedCode g) (HasRun g) (MeansRunCode g) w at text

  abbrev pub ClosesIts : List ℕ → Bool → List ℕ → Type 0
  ClosesIts w parsed text = ClosesParsed (IsViableFor g) (SaysSharedCode g) (HasRun g) (MeansRunCode g) w parsed text

pub if_ok : {T E : Type 0} (P Q : T → Type 0) (r : Result T E) → ((x : T) → P x → Q x) → IfOk r P → IfOk r Q
if_ok P Q (Ok x) f h = f x h
if_ok P Q (Err e) f h = tt

-- the text of a code with more after it
text_more : (c d : List Symbol) (text : List ℕ) → text ≡ code_text c → text ++ code_text d ≡ code_text (c ++ d)
text_more c d text e = ap (λ z. z ++ code_text d) e ∙ sym (text_of-append c d)

module _ (g : Graph) (old new : CodeOracle) (read : ℕ) (w begun before after : List ℕ) (f : CodeFollows g old read w begun) (piece : List ℕ) where
  says : (bad : Option ℕ) (t : TellsMore g new w piece bad f.code before after) → SaysIts g (w ++ piece) (place_of bad read) (begun ++ code_text t.more)
  says None t = (t.goes, (f.code ++ t.more, t.agreed, text_more f.code t.more begun f.written))
  says (Some k) t =
      let v = w ++ take k piece in
      let next = w ++ take (k + 1) piece in
      let (lt, good, none) = t.goes in
      let one : length next ≡ length v + 1 = omega (arith, lt, length-append w (take k piece), length-append w (take (k + 1) piece), length-take k piece, length-take (k + 1) piece) in
      let at : read + k ≡ length v = omega (arith, f.count, lt, length-append w (take k piece), length-take k piece) in
      refuses (IsViableFor g) (SaysSharedCode g) (HasRun g) (MeansRunCode g) (orderly g) (w ++ piece) v next (begun ++ code_text t.more) (read + k) (front_of (k + 1) w piece) (more_taken k w piece) one at good none
      (f.code ++ t.more, t.agreed, text_more f.code t.more begun f.written)

  follows : (bad : Option ℕ) (t : TellsMore g new w piece bad f.code before after) → place_of bad read ≡ None → CodeFollows g new (read + length piece) (w ++ piece) (begun ++ code_text t.more)
  follows (Some k) t e = let no : Some (read + k) ≡ None = e in cc
  follows None t e = record {
    code = f.code ++ t.more;
    told = t.told refl;
    written = text_more f.code t.more begun f.written;
    count = omega (arith, f.count, length-append w piece);
    good = t.goes;
  }

  pub code_reads : (bad at : Option ℕ) → at ≡ place_of bad read → TellsMore g new w piece bad f.code before after
      → ReadMore (λ u a t. SaysIts g u a t) (λ u t. CodeFollows g new (read + length piece) u t) w begun piece at before after
  code_reads bad at e t =
      subst (λ (z : Option ℕ). ReadMore (λ u a t. SaysIts g u a t) (λ u t. CodeFollows g new (read + length piece) u t) w begun piece z before after) (sym e) (record {
        more = code_text t.more;
        written = t.written;
        says = says bad t;
        follows = follows bad t;
      })

pub code_ends : (g : Graph) (old : CodeOracle) (read : ℕ) (w begun before after : List ℕ) (f : CodeFollows g old read w begun) (parsed : Bool) → TellsLast g w parsed f.code before after → CameToEnd (λ u b t. ClosesIts g u b t) w begun parsed before after
code_ends g old read w begun before after f true t = record {
  more = code_text t.more;
  written = t.written;
  closes = (f.code ++ t.more, t.shows, text_more f.code t.more begun f.written);
}
code_ends g old read w begun before after f false t = record {
  more = code_text t.more;
  written = t.written;
  closes = (f.good, t.shows.0, (f.code ++ t.more, t.shows.1, text_more f.code t.more begun f.written));
}
