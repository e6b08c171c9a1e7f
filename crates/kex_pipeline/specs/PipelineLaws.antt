-- What holds of the answers of pipelines.
use Rattle.std.proofs.Common.{◌≡◌, ℕ, ◌<◌, Bool, false, List, [], ◌∷◌, ◌++◌, ◌&&◌, Option, Some}
use Rattle.std.proofs.Common.{None, length, map, refl, sym, ap, ◌∙◌, arith}
use Rattle.std.specs.Prelude.{IsSome, is_none}
use Rattle.std.proofs.lemmas.Bool.{false≢true}
use Rattle.kex_code.specs.Codes.{Begins}
use Rattle.kex_ports.specs.Bytes.{IsPrefix}
use Rattle.kex_model.specs.Answers.{Answer, Report, Stop, later_report}
use Rattle.kex_pipe.specs.Histories.{why_as}
use Rattle.kex_pipe.specs.Reports.{report_as}
use Rattle.kex_pipe.specs.declared.report.Rejected.{Rejected}
use Rattle.kex_pipe.specs.declared.turn.Why.{Why}
use Rattle.kex_pipe.specs.declared.turn.Why.TheVariants.{Byte, End, Limit}
use Rattle.kex_model.proofs.Pipelines.{pipelines_stand}
use Rattle.kex_pipeline.specs.Sayings.{Said, StagesSay, first_limit}

why-same : (a b : Why) → why_as a ≡ why_as b → a ≡ b
why-same Byte Byte e = refl
why-same End End e = refl
why-same Limit Limit e = refl
why-same Byte End e = cc
why-same Byte Limit e = cc
why-same End Byte e = cc
why-same End Limit e = cc
why-same Limit Byte e = cc
why-same Limit End e = cc

abbrev rejection : ℕ → ℕ → Why → Rejected
rejection i n y = record { stage = i; at = n; why = y }

some-same : (a b : Report) → Some a ≡ Some b → a ≡ b
some-same a b e = cc

rejected-same : (i j m n : ℕ) (x y : Why) → i ≡ j → m ≡ n → x ≡ y
    → rejection i m x ≡ rejection j n y
rejected-same i j m n x y e f g =
    ap (λ k. rejection k m x) e ∙ ap (λ k. rejection j k x) f ∙ ap (λ k. rejection j n k) g

pub report-same : (a b : Option Rejected) → report_as a ≡ report_as b → a ≡ b
report-same None None e = refl
report-same None (Some b) e = cc
report-same (Some a) None e = cc
report-same (Some a) (Some b) e =
    let same = some-same _ _ e in
    let stage : a.stage ≡ b.stage = ap (λ (z : Report). z.stage) same in
    let at : a.at ≡ b.at = ap (λ (z : Report). z.stop.at) same in
    let why : a.why ≡ b.why = why-same a.why b.why (ap (λ (z : Report). z.stop.why) same) in
    ap (λ z. Some z) (rejected-same a.stage b.stage a.at b.at a.why b.why stage at why)

some-reported : (r : Option Rejected) → (report_as r ≡ None → ⊥) → IsSome r
some-reported None some = absurd (some refl)
some-reported (Some r) some = refl

pub later-some : (i : ℕ) (own : Option Stop) (rest : Option Report) → IsSome own
    → later_report i own rest ≡ None → ⊥
later-some i own (Some r) some e = cc
later-some i None None some e = false≢true some
later-some i (Some s) None some e = cc

module _ {T : Type 0} (Gives : T → List ℕ → Bool → Answer → Type 0) where
  -- past the limit of the first stage there is a report
  pub says_ends : {S : Type 0} (plan : S → T) (limit : S → ℕ) → ((s : S) (w : List ℕ) (a : Answer)
      → Gives (plan s) w false a → limit s < length w → IsSome a.stop)
      → (ss : List S) (w : List ℕ) (a : Said) → StagesSay Gives (map plan ss) w false a
      → first_limit limit ss < length w → IsSome a.report
  says_ends plan limit past [] w a (some, says) lt = absurd (omega arith)
  says_ends plan limit past (s ∷ ss) w a (some, (x, rest, gives, others, is)) lt =
      some-reported a.report (λ none.
      later-some 1 x.stop rest (past s w x gives lt) (sym is ∙ none))

  module _ (one : (p : T) (w : List ℕ) (e : Bool) (a b : Answer) → Gives p w e a → Gives p w e b
      → a ≡ b) where
    module _ (grows : (p : T) (w v : List ℕ) (e : Bool) (a b : Answer) → Gives p w false a
        → Gives p (w ++ v) e b → Begins b.text a.text) (stays : (p : T) (w v : List ℕ) (e : Bool)
        (a b : Answer) → Gives p w false a → Gives p (w ++ v) e b → (a.stop ≡ None → ⊥) → b ≡ a)
        (ends : (p : T) (w : List ℕ) (e : Bool) (a : Answer) → Gives p w e a
        → a.ended ≡ (e && is_none a.stop)) where
      pub says_grows : (ps : List T) (w v : List ℕ) (e : Bool) (a b : Said)
          → StagesSay Gives ps w false a → StagesSay Gives ps (w ++ v) e b → IsPrefix a.text b.text
      says_grows ps w v e a b h k =
          let x = pipelines_stand Gives one grows stays (λ p u c g. ends p u false c g) ps 1 w v
          a.text b.text e (report_as a.report) (report_as b.report) h.1 k.1 in
          record { rest = x.0.0; joined = x.0.1 }
