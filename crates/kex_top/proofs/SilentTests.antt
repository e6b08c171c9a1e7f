-- A test writes nothing.
use Rattle.std.proofs.Common.{◌≡◌, ℕ, List, [], ◌∷◌, Bool, refl, sym, subst, ◌∙◌, arith, inl}
use Rattle.std.specs.Prelude.{Option, Some, None}
use Rattle.std.specs.Io.KnownBytes.{Appends}
use Rattle.kex_ports.proofs.Known.{appends-nothing, appends-same}
use Rattle.kex_machine.specs.Nodes.{Graph}
use Rattle.kex_model.specs.Answers.{Answer, bad_byte, too_long, cut_off, whole, still_open}
use Rattle.kex_single.specs.Singles.{MachineTestAnswers}
use Rattle.kex_words.specs.Gains.{StreamChange, change}
use Rattle.kex_words.specs.Words.Mode.{testing}
use Rattle.kex_pipe.specs.declared.report.Rejected.{Rejected as Report}
use Rattle.kex_pipeline.specs.Sayings.{Said}
use Rattle.kex_top.specs.Modes.{MachinesSay}
use Rattle.kex_top.specs.Run.{EndsAs, IsAsBefore, Ran, WritesAll}
use Rattle.kex_top.specs.declared.status.Status.{Status}
use Rattle.kex_top.specs.declared.status.Status.TheVariants.{Done, Rejected, Usage, Refused, ReadFault, WriteFault, ShelfFault, Memory, TooLong, InputTooLong}

nothing : (g : Graph) (limit : ℕ) {w : List ℕ} {e : Bool} {a : Answer} → MachineTestAnswers g limit w e a → a.text ≡ []
nothing g limit (bad_byte v bad l h) = h
nothing g limit (too_long lt good h) = h
nothing g limit (cut_off le good none h) = h
nothing g limit (whole le m) = m.2
nothing g limit (still_open le good h) = h

says-nothing : (g : Graph) (limit : ℕ) (w : List ℕ) (e : Bool) (said : Said) → MachinesSay testing limit (g ∷ []) w e said → said.text ≡ []
says-nothing g limit w e said (some, (a, rest, gives, last, is)) = last.0 ∙ nothing g limit gives

left-appends : (c : StreamChange) (x : List ℕ) → c.new ≡ c.old → x ≡ [] → Appends c.old c.new x
left-appends c x same none = subst (λ z. Appends c.old z x) (sym same) (appends-same c.old c.old [] x (sym none) (appends-nothing c.old))

-- what was written of nothing is nothing, whatever the sink
module _ (g : Graph) (limit n : ℕ) (source sink : StreamChange) (left : IsAsBefore sink) where
  all-left : (w : List ℕ) (e : Bool) (r : Option Report) (other : StreamChange) → WritesAll (MachinesSay testing limit (g ∷ [])) w e r other → WritesAll (MachinesSay testing limit (g ∷ [])) w e r sink
  all-left w e r other a = record { said = a.said; is_said = a.is_said; reports = a.reports; appended = left-appends sink a.said.text left.0 (says-nothing g limit w e a.said a.is_said) }

  ends-left : (w : List ℕ) (e : Bool) (s : Status) → EndsAs (MachinesSay testing limit (g ∷ [])) n w e source (change None None 0 0) s → EndsAs (MachinesSay testing limit (g ∷ [])) n w e source sink s
  ends-left w e Done t = (t.0, all-left w e None _ t.1, t.2, left.1)
  ends-left w e (Rejected r) t = (t.0, all-left w e (Some r) _ t.1, t.2, left.1)
  ends-left w e (TooLong r) t = (t.0, all-left w e (Some r) _ t.1, t.2, left.1)
  ends-left w e InputTooLong t = t
  ends-left w e ReadFault t = (t.0, all-left w e None _ t.1, t.2, left.1)
  ends-left w e WriteFault t = let rose = t.2.1 in absurd (omega arith)
  ends-left w e Memory t = (record { added = []; appended = left-appends sink [] left.0 refl; from = inl refl; front = λ said h. record { rest = said.text; joined = refl } }, t.1, left.1)
  ends-left w e Usage t = t
  ends-left w e (Refused r) t = t
  ends-left w e ShelfFault t = t

  pub test-left : (s : Status) → Ran (MachinesSay testing limit (g ∷ [])) n source (change None None 0 0) s → Ran (MachinesSay testing limit (g ∷ [])) n source sink s
  test-left s r = record { w = r.w; e = r.e; read = r.read; ended = r.ended; ends = ends-left r.w r.e s r.ends }
