-- The rows of what is left of states, class by class and state by state.
use Rattle.std.proofs.Common.{◌≡◌, ℕ, zero, suc, ◌+◌, ◌<◌, List, [], ◌∷◌, ◌++◌, ⊎_elim, Option, Some, length, refl, sym, ap, subst, ◌∙◌, length-append, arith}
use Rattle.std.specs.Prelude.{slice_get}
use Rattle.std.proofs.lemmas.Bool.{cases_lt}
use Rattle.std.proofs.lemmas.Option.{slice_get_within}
use Rattle.kex_byteset.specs.Classes.{class_at, class_count, IsNumbered}
use Rattle.kex_model.proofs.Tables.{get_more, get_last}
use Rattle.kex_machine.specs.Nodes.{Graph, HasClasses}
use Rattle.kex_sst.specs.declared.table.Transition.{Transition}
use Rattle.kex_sst.specs.Tables.{Row, Transducer, transition_if, IsTable}
use Rattle.kex_sst.specs.Machines.{IsBestTableOf}
use Rattle.kex_code.specs.Codes.{IsAmong}
use Rattle.kex_model.specs.States.{AllDifferent}
use Rattle.kex_paths.specs.Nexts.{Outline}
use Rattle.kex_determine.proofs.Transitions.{class_below}
use Rattle.kex_cover.specs.Keeping.{AreBestRowsTo, AreBestTo, AreStatesLeft, IsBestStart, IsRowWith}
use Rattle.kex_cover.specs.Optimal.{AreBestRows, DoesBest, IsBestRow, IsOptimal, LeftState}
use Rattle.kex_cover.proofs.BestForms.{best_formed}
use Rattle.kex_cover.proofs.BestTables.{is_best_table}
use Rattle.kex_cover.proofs.LeftWays.{many_lefts}

get_front : {A : Type 0} (xs ys : List A) (i : ℕ) → i < length xs → slice_get (xs ++ ys) i ≡ slice_get xs i
get_front [] ys i lt = absurd (omega (arith, lt))
get_front (x ∷ xs) ys zero lt = refl
get_front (x ∷ xs) ys (suc i) lt = get_front xs ys i (omega (arith, lt))

module _ (g : Graph) (classes : List ℕ) (states : List LeftState) where
  pub no_transitions : (s : LeftState) (go : List (Option Transition)) → go ≡ [] → AreBestTo g 0 classes states s go
  no_transitions s go e = record { long = ap length e; does = λ b lt below. absurd (omega (arith, below)) }

  pub one_transition : (s : LeftState) (n : ℕ) (go : List (Option Transition)) (r : Option Transition) → AreBestTo g n classes states s go → ((b : ℕ) → b < 256 → class_at classes b ≡ n → DoesBest g states s b r) → AreBestTo g (n + 1) classes states s (go ++ r ∷ [])
  one_transition s n go r h does = record {
    long = omega (arith, h.long, length-append go (r ∷ []));
    does = λ b lt below. ⊎_elim
        (λ less. subst (λ z. DoesBest g states s b (transition_if z)) (sym (get_front go (r ∷ []) (class_at classes b) (omega (arith, less, h.long)))) (h.does b lt less))
        (λ more.
        let here : class_at classes b ≡ n = omega (arith, below, more) in
        subst (λ z. DoesBest g states s b (transition_if z)) (sym (ap (slice_get (go ++ r ∷ [])) (here ∙ sym h.long) ∙ get_last go r)) (does b lt here))
        (cases_lt (class_at classes b) n);
  }

  pub is_best_row : IsNumbered classes → (s : LeftState) (go : List (Option Transition)) (row : Row) → AreBestTo g (class_count classes) classes states s go → IsRowWith g s.left go row → IsBestRow g classes states s row
  is_best_row numbered s go row h r = record {
    registers = r.registers;
    long = ap length r.goes ∙ h.long;
    ends = r.ends;
    does = λ b lt. subst (λ z. DoesBest g states s b (transition_if (slice_get z (class_at classes b)))) (sym r.goes) (h.does b lt (class_below classes numbered b lt));
  }

  pub no_rows : (rows : List Row) → rows ≡ [] → AreBestRowsTo g 0 classes states rows
  no_rows rows e = record { count = ap length e; each = λ i s lt at. absurd (omega (arith, lt)) }

  pub one_row : (n : ℕ) (rows : List Row) (row : Row) → AreBestRowsTo g n classes states rows → ((s : LeftState) → slice_get states n ≡ Some s → IsBestRow g classes states s row) → AreBestRowsTo g (n + 1) classes states (rows ++ row ∷ [])
  one_row n rows row h is = record {
    count = omega (arith, h.count, length-append rows (row ∷ []));
    each = λ i s lt at. ⊎_elim
        (λ less. let r = h.each i s less at in (r.0, get_more rows (row ∷ []) i r.0 r.1, r.2))
        (λ more.
        let here : i ≡ n = omega (arith, lt, more) in
        (row, ap (slice_get (rows ++ row ∷ [])) (here ∙ sym h.count) ∙ get_last rows row, is s (ap (slice_get states) (sym here) ∙ at)))
        (cases_lt i n);
  }

-- ---- the table

module _ (g : Graph) (t made : Transducer) (lefts : List Outline) (k : AreStatesLeft g t lefts) (classes : made.classes ≡ t.classes) (start : IsBestStart g t k.left.states made.initial) (rows : AreBestRowsTo g (length t.states) t.classes k.left.states made.states) where
  count : length k.left.states ≡ length t.states
  count = omega (arith, many_lefts g t lefts k, k.left.count)

  best_rows : AreBestRows g made k.left.states
  best_rows = record {
    count = omega (arith, rows.count, count);
    each = λ i s at. (k.left.each i s at).4;
    begins = record {
      first = start.first;
      is_first = start.is_first;
      state = start.state;
      at = start.at;
      whole_is = start.whole_is;
      rest = start.rest;
      is_rest = start.is_rest;
      left_is = start.left_is;
      change = start.change;
    };
    rows = λ i s at. let r = rows.each i s (omega (arith, slice_get_within k.left.states i s at, count)) at in (r.0, r.1, subst (λ z. IsBestRow g z k.left.states s r.0) (sym classes) r.2);
  }

  classed : HasClasses g.nodes made.classes
  classed = subst (HasClasses g.nodes) (sym classes) k.determined.classes

  pub is_optimal : IsOptimal g made
  is_optimal = record {
    states = k.left.states;
    rows = best_rows;
    different = subst AllDifferent (sym k.left.wholes_are) k.determined.different;
    each = λ s i. k.determined.each s (subst (λ z. IsAmong z s) k.left.wholes_are i);
    all = λ s is. subst (λ z. IsAmong z s) (sym k.left.wholes_are) (k.determined.all s is);
  }

  pub is_best : IsBestTableOf g made
  is_best = is_best_table g k.in_range k.trimmed made k.left.states classed best_rows

  pub is_formed : length made.states < 4294967296 → IsTable made
  is_formed few = best_formed g made k.left.states classed best_rows few
