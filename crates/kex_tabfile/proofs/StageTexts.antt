-- The lines of stages, one stage after the other.
use Rattle.std.proofs.Common.{◌≡◌, ◌+◌, ℕ, suc, List, length, arith, [], ◌∷◌, ◌++◌, Option, inl, inr, Some, refl, sym, ap, subst, ◌∙◌, append_assoc, append-nil}
use Rattle.kex_code.specs.Codes.{IsAmong}
use Rattle.kex_machine.specs.Nodes.{Graph}
use Rattle.kex_sst.specs.declared.table.Transition.{Transition}
use Rattle.kex_sst.specs.Tables.{Transducer}
use Rattle.kex_sst.specs.Machines.{IsTableOf}
use Rattle.kex_plan.specs.Plans.{Planned}
use Rattle.kex_plan.specs.declared.plan.Telling.TheVariants as telling
use Rattle.kex_tabfile.specs.Lines.{line_behind}
use Rattle.kex_tabfile.specs.Readers.{ReadSoFar, ReadsBytes}
use Rattle.kex_tabfile.specs.Walks.{IsStageText}
use Rattle.kex_tabfile.specs.TableFiles.{AreStageTexts, EachHasTable, in_stage}
use Rattle.kex_tabfile.specs.Checking.{BreaksStage, BreaksStages}
use Rattle.kex_tabfile.specs.declared.refusal.TableRefusal.{TableRefusal}
use Rattle.kex_tabfile.specs.declared.refusal.TableRefusal.TheVariants.{TableTooLong, BadTable, Text, Memory}

abbrev Rows : Type 0
Rows = List (List (Option Transition))

-- one stage more
pub texts_more : (stage : ℕ) (gs : List Graph) (tables : List Rows) (bytes : List ℕ) (g : Graph) (rows : Rows) (own : List ℕ) → AreStageTexts stage gs tables bytes → IsStageText (stage + length gs) g rows own → AreStageTexts stage (gs ++ g ∷ []) (tables ++ rows ∷ []) (bytes ++ own)
texts_more stage [] [] bytes g rows own h k = (own, [], subst (λ n. IsStageText n g rows own) (let e : stage + 0 ≡ stage = omega arith in e) k, refl, ap (λ z. z ++ own) h ∙ sym (append-nil own))
texts_more stage (x ∷ gs) (t ∷ tables) bytes g rows own (front, back, s, rest, e) k =
    let r = texts_more (suc stage) gs tables back g rows own rest (subst (λ n. IsStageText n g rows own) (let f : stage + suc (length gs) ≡ suc stage + length gs = omega arith in f) k) in
    (front, back ++ own, s, r, ap (λ z. z ++ own) e ∙ append_assoc front back own)
texts_more stage [] (t ∷ tables) bytes g rows own h k = absurd h
texts_more stage (x ∷ gs) [] bytes g rows own h k = absurd h

-- what breaks in a stage breaks in the file
pub stages_break : (gs done left : List Graph) (g : Graph) (tables : List Rows) (front : List ℕ) (a b : ReadSoFar) (e : TableRefusal) → gs ≡ done ++ g ∷ left → AreStageTexts 1 done tables front → ReadsBytes a front b → BreaksStage (suc (length done)) g b e → BreaksStages gs a e
stages_break gs done left g tables front a b TableTooLong split texts reads h = absurd h
stages_break gs done left g tables front a b (Text why) split texts reads h = absurd h
stages_break gs done left g tables front a b Memory split texts reads h = tt
stages_break gs done left g tables front a b (BadTable line) split texts reads (before, rest, e, broken, is) = (
  front ++ before,
  rest,
  reads.came ∙ ap (λ z. front ++ z) e ∙ sym (append_assoc front before rest),
  in_stage done left tables front split texts broken,
  is ∙ ap line_behind (ap (λ z. z ++ before) reads.before ∙ append_assoc a.before front before),
)

-- one plan more
pub tables_more : (plans : List Planned) (g : Graph) (t : Transducer) → EachHasTable plans → IsTableOf g t → EachHasTable (plans ++ record { machine = g; table = Some t; telling = telling.Agreed } ∷ [])
tables_more plans g t each of p i = by plans each i
  where
    by : (ps : List Planned) → EachHasTable ps → IsAmong (ps ++ record { machine = g; table = Some t; telling = telling.Agreed } ∷ []) p → (u : Transducer) × (p.table ≡ Some u) × IsTableOf p.machine u
    by [] h (inl e) = (t, ap (λ z. z.table) (sym e), subst (λ z. IsTableOf z.machine t) e of)
    by [] h (inr i) = absurd i
    by (q ∷ ps) h (inl e) = h p (inl e)
    by (q ∷ ps) h (inr i) = by ps (λ r j. h r (inr j)) i
