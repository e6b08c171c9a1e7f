-- What is written of a file, part by part.
use Rattle.std.proofs.Common.{◌≡◌, ℕ, suc, ◌+◌, ◌<◌, ◌≤◌, List, [], ◌∷◌, ◌++◌, Some, length, map, take, sym, ap, subst, ◌∙◌, append_assoc, arith}
use Rattle.std.specs.Prelude.{slice_get, codes, decimal}
use Rattle.std.proofs.lemmas.List.{length-map, length-take-le, map-append}
use Rattle.std.proofs.lemmas.Option.{slice_get_within}
use Rattle.kex_model.proofs.DistinctItems.{among_get}
use Rattle.kex_sst.specs.Tables.{Transducer}
use Rattle.kex_plan.specs.Plans.{Planned, machine_of}
use Rattle.kex_determine.specs.Determined.{IsDetermined}
use Rattle.kex_tabfile.specs.Lines.{stage_front, stage_line}
use Rattle.kex_tabfile.specs.Walks.{IsStageText, most_table_states}
use Rattle.kex_tabfile.specs.TableFiles.{AreStageTexts, goes_of, goes_in, goes_if}
use Rattle.kex_tabfile.specs.Writing.{EachDetermined}
use Rattle.kex_tabfile.proofs.StageTexts.{texts_more}
use Rattle.kex_tabfile.proofs.StateSteps.{take_at}

pub file_joined : (o a b c d e f : List ℕ) → (((((o ++ a) ++ b) ++ c) ++ d) ++ e) ++ f ≡ o ++ ((a ++ (b ++ (c ++ d))) ++ (e ++ f))
file_joined o a b c d e f =
    append_assoc ((((o ++ a) ++ b) ++ c) ++ d) e f
    ∙ ap (λ z. z ++ (e ++ f)) (append_assoc ((o ++ a) ++ b) c d ∙ append_assoc (o ++ a) b (c ++ d) ∙ append_assoc o a (b ++ (c ++ d)))
    ∙ append_assoc o (a ++ (b ++ (c ++ d))) (e ++ f)

pub stage_joined : (o : List ℕ) (stage classes n : ℕ) (states : List ℕ) → ((o ++ stage_front stage classes) ++ (decimal n ++ codes "\n")) ++ states ≡ o ++ (stage_line stage classes n ++ states)
stage_joined o stage classes n states = ap (λ z. z ++ states) (append_assoc o (stage_front stage classes) (decimal n ++ codes "\n")) ∙ append_assoc o (stage_line stage classes n) states

pub map_take : {A B : Type 0} (f : A → B) (xs : List A) (i : ℕ) (x : A) → slice_get xs i ≡ Some x → map f (take (i + 1) xs) ≡ map f (take i xs) ++ f x ∷ []
map_take f xs i x e = let n : i + 1 ≡ suc i = omega arith in ap (λ k. map f (take k xs)) n ∙ ap (map f) (take_at xs i x e) ∙ map-append f (take i xs) (x ∷ [])

-- the table of a plan
pub planned : (plans : List Planned) → EachDetermined plans → (i : ℕ) (p : Planned) → slice_get plans i ≡ Some p → (t : Transducer) × (p.table ≡ Some t) × IsDetermined p.machine t × (length t.states ≤ most_table_states)
planned plans each i p e = each p (among_get plans i p e)

-- one stage more
pub stage_more : (plans : List Planned) (i : ℕ) (p : Planned) (t : Transducer) (lines own : List ℕ) → slice_get plans i ≡ Some p → p.table ≡ Some t → AreStageTexts 1 (map machine_of (take i plans)) (map goes_in (take i plans)) lines → IsStageText (i + 1) p.machine (goes_of t.states) own → AreStageTexts 1 (map machine_of (take (i + 1) plans)) (map goes_in (take (i + 1) plans)) (lines ++ own)
stage_more plans i p t lines own e has texts stage =
    let within : i < length plans = slice_get_within plans i p e in
    let long : i + 1 ≡ 1 + length (map machine_of (take i plans)) = omega (arith, length-map (take i plans) machine_of, length-take-le i plans (omega (arith, within))) in
    let here : IsStageText (1 + length (map machine_of (take i plans))) p.machine (goes_in p) own = subst (λ n. IsStageText n p.machine (goes_in p) own) long (subst (λ z. IsStageText (i + 1) p.machine z own) (ap goes_if (sym has)) stage) in
    let more = texts_more 1 (map machine_of (take i plans)) (map goes_in (take i plans)) lines p.machine (goes_in p) own texts here in
    subst (λ z. AreStageTexts 1 z (map goes_in (take (i + 1) plans)) (lines ++ own)) (sym (map_take machine_of plans i p e))
    (subst (λ z. AreStageTexts 1 (map machine_of (take i plans) ++ p.machine ∷ []) z (lines ++ own)) (sym (map_take goes_in plans i p e)) more)
