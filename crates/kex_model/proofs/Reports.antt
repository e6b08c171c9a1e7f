-- A stage's answers are in order, so that a pipeline's hold on every continuation.
use Rattle.std.proofs.Common.{◌≡◌, ℕ, Bool, false, List, ◌++◌, Option, None, refl, sym, ap, subst, ◌∙◌}
use Rattle.kex_code.specs.Codes.{Begins}
use Rattle.kex_model.specs.Programs.{Grammar}
use Rattle.kex_model.specs.Trees.{Tree, meaning, kind_at}
use Rattle.kex_model.specs.Answers.{Viable, Says, HasParse, Means, empty, code_at, Answer, bad_byte, too_long, cut_off, whole, still_open, Report, Pipeline}
use Rattle.kex_model.specs.Laws.{StageAnswers}
use Rattle.kex_model.proofs.Orders.{at_most_both}
use Rattle.kex_model.proofs.Correspondence.{one_to_one}
use Rattle.kex_model.proofs.SaidTexts.{grows, means_good}
use Rattle.kex_model.proofs.OpenAnswers.{Orderly, stays, one_answer}
use Rattle.kex_model.proofs.Pipelines.{pipelines_stand}

pub orderly : (P : Grammar) (root : ℕ) → Orderly (Viable P root) (Says P root) (HasParse P root) (Means P root)
orderly P root = record {
  front = λ w x p g. (grows P root w p.0).viable (subst (λ z. Viable P root z) p.1 g);
  said = λ w x s t p h h'. (grows P root w p.0).said s t h (subst (λ z. Says P root z t) p.1 h');
  meant = λ w x s t p h h'. (grows P root w p.0).meant s t h (subst (λ z. Means P root z t) p.1 h');
  good = λ w s h. means_good P root w s h;
}

-- a text has one meaning
one_meaning : (P : Grammar) (root : ℕ) (w s t : List ℕ) → Means P root w s → Means P root w t → s ≡ t
one_meaning P root w s t h k =
    let codes : code_at P root h.0 ≡ code_at P root k.0 = at_most_both (code_at P root h.0) (code_at P root k.0) (h.1.least k.0 k.1.parses) (k.1.least h.0 h.1.parses) in
    let trees : h.0 ≡ k.0 = (one_to_one P root w).one_tree h.0 k.0 h.1.parses.derives k.1.parses.derives codes in
    h.2 ∙ ap (λ (z : Tree). (meaning P (kind_at P root) z (empty P)).bytes) trees ∙ sym k.2

pub one_stage_answer : (P : Grammar) (root limit : ℕ) (w : List ℕ) (e : Bool) (a b : Answer) → StageAnswers P root limit w e a → StageAnswers P root limit w e b → a ≡ b
one_stage_answer P root limit w e a b h k =
    one_answer (Viable P root) (Says P root) (HasParse P root) (Means P root) (orderly P root) limit
    (λ u s m. (m.0, m.1.parses)) (λ u s t x y. one_meaning P root u s t x y) h k

stays_open : (P : Grammar) (root limit : ℕ) (w : List ℕ) (f : Bool) (a : Answer) → f ≡ false → StageAnswers P root limit w f a → a.ended ≡ false
stays_open P root limit w f a e (bad_byte v bad lv says) = refl
stays_open P root limit w f a e (too_long lt good says) = refl
stays_open P root limit w f a e (cut_off le good none says) = refl
stays_open P root limit w f a e (whole le means) = e
stays_open P root limit w f a e (still_open le good says) = refl

pub stages_stand : (P : Grammar) (limit i : ℕ) (roots w v s t : List ℕ) (e : Bool) (r q : Option Report) → Pipeline (λ root x f a. StageAnswers P root limit x f a) i roots w false s r → Pipeline (λ root x f a. StageAnswers P root limit x f a) i roots (w ++ v) e t q → Begins t s × ((r ≡ None → ⊥) → (t ≡ s) × (q ≡ r))
stages_stand P limit i roots w v s t e r q h k =
    pipelines_stand (λ root x f a. StageAnswers P root limit x f a)
    (λ p x f a b ga gb. one_stage_answer P p limit x f a b ga gb)
    (λ p x y f a b ga gb. (stays (Viable P p) (Says P p) (HasParse P p) (Means P p) (orderly P p) limit (y, refl) ga gb).0)
    (λ p x y f a b ga gb. (stays (Viable P p) (Says P p) (HasParse P p) (Means P p) (orderly P p) limit (y, refl) ga gb).1)
    (λ p x a ga. stays_open P p limit x false a refl ga)
    roots i w v s t e r q h k
