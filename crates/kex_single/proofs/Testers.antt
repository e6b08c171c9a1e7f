-- A worker that tells whether the bytes have a parse, by a piece, or the end.
use Rattle.std.proofs.Common.{◌≡◌, ℕ, Bool, true, false, List, [], ◌∷◌, ◌++◌, Option, Some, None, refl, sym, subst, ◌∙◌, append-nil}
use Rattle.std.specs.Prelude.{IsTrue, ◌↔◌}
use Rattle.kex_code.specs.Codes.{Begins}
use Rattle.kex_machine.specs.Nodes.{Graph}
use Rattle.kex_machine.specs.Answers.{IsViableFor, HasRun}
use Rattle.kex_frontier.specs.Matchers.{Match, IsAnswer, WasFed}
use Rattle.kex_frontier.specs.declared.matcher.Matched.{Matched}
use Rattle.kex_frontier.specs.declared.matcher.Matched.TheVariants.{On, Dead}
use Rattle.kex_pipe.specs.Working.{CameToEnd, ClosesParsed, ReadMore, SaysViable}
use Rattle.kex_single.specs.Singles.{SaysNoText, HasRunAlone}
use Rattle.kex_single.specs.Standing.{dead_at}

-- the empty text can go on
pub nothing_good : (m : Match) → WasFed m [] → IsViableFor m.machine []
nothing_good m fed = by m.dead refl
  where
    empty : (v : List ℕ) → Begins [] v → v ≡ []
    empty [] b = refl
    empty (x ∷ v) b = let bad : [] ≡ x ∷ (v ++ b.0) = b.1 in cc

    by : (dead : Bool) → m.dead ≡ dead → IsViableFor m.machine []
    by false e = (fed.good e).0
    by true e = let d = fed.dead e in subst (λ z. IsViableFor m.machine z) (empty d.1.0 d.1.1.front) d.1.1.viable

abbrev pub Tests : Match → List ℕ → List ℕ → Type 0
Tests m w text = WasFed m w × IsViableFor m.machine w × (text ≡ [])

module _ (g : Graph) where
  abbrev pub SaysTest : List ℕ → Option ℕ → List ℕ → Type 0
  SaysTest w at text = SaysViable (IsViableFor g) (SaysNoText g) (HasRun g) (HasRunAlone g) w at text

  abbrev pub ClosesTest : List ℕ → Bool → List ℕ → Type 0
  ClosesTest w parsed text = ClosesParsed (IsViableFor g) (SaysNoText g) (HasRun g) (HasRunAlone g) w parsed text

  -- a piece was read
  module _ (new : Match) (same : new.machine ≡ g) (w text piece out : List ℕ) (none : text ≡ []) (fed : WasFed new (w ++ piece)) where
    still : text ++ [] ≡ []
    still = append-nil text ∙ none

    says : (answer : Matched) → IsAnswer answer g (w ++ piece) → SaysTest (w ++ piece) (dead_at answer) (text ++ [])
    says On good = (good, still)
    says (Dead at) (bad, (v, l, long)) = (bad, (v, record { front = l.front; good = l.viable; longest = l.longest }, still, sym long))

    follows : (answer : Matched) → IsAnswer answer g (w ++ piece) → dead_at answer ≡ None → Tests new (w ++ piece) (text ++ [])
    follows On good e = (fed, subst (λ z. IsViableFor z (w ++ piece)) (sym same) good, still)
    follows (Dead at) a e = let no : Some at ≡ None = e in cc

    pub test_reads : (answer : Matched) (at : Option ℕ) → at ≡ dead_at answer → IsAnswer answer new.machine (w ++ piece)
        → ReadMore SaysTest (λ u t. Tests new u t) w text piece at out out
    test_reads answer at e a =
        let here : IsAnswer answer g (w ++ piece) = subst (λ z. IsAnswer answer z (w ++ piece)) same a in
        subst (λ (z : Option ℕ). ReadMore SaysTest (λ u t. Tests new u t) w text piece z out out) (sym e) (record {
          more = [];
          written = sym (append-nil out);
          says = says answer here;
          follows = follows answer here;
        })

  -- the end came
  pub test_ends : (w text out : List ℕ) (parsed : Bool) → text ≡ [] → IsViableFor g w → (IsTrue parsed ↔ HasRun g w) → CameToEnd ClosesTest w text parsed out out
  test_ends w text out true none good has = record { more = []; written = sym (append-nil out); closes = (good, has.0 refl, append-nil text ∙ none) }
  test_ends w text out false none good has = record {
    more = [];
    written = sym (append-nil out);
    closes = (good, λ h. let bad : false ≡ true = has.1 h in cc, append-nil text ∙ none);
  }
